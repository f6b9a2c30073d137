-- What is entered in the journal, and what settles a branch, leaves the log as it is.
use Rattle.std.proofs.Common.{◌≡◌, ℕ, ◌+◌, ◌<◌, ◌≤◌, Bool, true, false, List, [], length, Option, Some, None, IfSome, option_map, slice_set, refl, sym, ap, subst, ◌∙◌, arith, get_or-set_other, inl}
use Rattle.block_disk.specs.Disk.{DiskState}
use Rattle.file_base.specs.declared.head.FileHead.{FileHead}
use Rattle.file_base.specs.declared.head.Span.{Span}
use Rattle.kept_files.specs.file_settlements.Settling.{SettlesFiles, content_settled}
use Rattle.unit_aborts.specs.image_appends.Settling.{AllHaveRoom}
use Rattle.kept_files.specs.Keeping.{StandBehind}
use Rattle.kept_files.proofs.Frames.{stays_settled}
use Rattle.unit_aborts.specs.Aborting.{ImagesHaveRoom, has_changes}
use Rattle.unit_aborts.proofs.ImageLemmas.{all_on, stand_on}
use Rattle.journal_model.specs.Entries.{Entry, spelling}
use Rattle.journal_model.specs.Ring.{put_stream}
use Rattle.lmcp_log.specs.Keeping.{Keeps, SameSlots}
use Rattle.lmcp_log.specs.Log.{block_of_slot}
use Rattle.unit_entries.specs.log_laws.Slots.{Slots}
use Rattle.unit_journal.proofs.Entered.{OthersStay}
use Rattle.unit_journal.specs.Settling.{MakesSettlement, content_with, entry_if, from_earliest, settled_home, span_with, with_front}
use Rattle.unit_journal.specs.Spans.{longer}
use Rattle.volume.specs.State.{VolumeState}
use Rattle.unit_entries.specs.run_model.World.{File}
use Rattle.unit_aborts.specs.unit_undo.Undoing.{GoesOn}
use Rattle.unit_aborts.specs.unit_undo.Way.{IsUndoable, Undoes}
use Rattle.unit_votes.specs.Logging.{HasLog}
use Rattle.unit_table.specs.Units.{OpenUnit}
use Rattle.vms_base.specs.declared.ids.Serial.{Serial}
use Rattle.vms_base.specs.declared.ids.Tid.{Tid}
use Rattle.vms_model.specs.Ids.{Id}
use Rattle.volume_format.specs.declared.home.Ending.{Ending}
use Rattle.volume.specs.declared.catalog.Catalog.{Catalog}
use Rattle.volume_format.specs.Home.{home_block_of, ru_block_of}
use Rattle.volume_format.specs.declared.home.Home.{Home}

-- blocks of other slots do not count
abbrev pub Beside : Type 0
Beside = (ss : Slots) (c d : List (List ℕ)) → Keeps ss c → SameSlots (length ss) c d → Keeps ss d

other_block : (c : List (List ℕ)) (n i : ℕ) (bytes : List ℕ) → n < 66 → block_of_slot (slice_set c n bytes) i ≡ block_of_slot c i
other_block c n i bytes below = get_or-set_other c n (66 + i) bytes [] (λ same. omega (arith, same, below))

in_content : OthersStay → (e : Option Entry) (s : Span) (c : List (List ℕ)) (n : ℕ) → 584 + n ≤ s.start → 0 < s.blocks → SameSlots n c (content_with e s c)
in_content stay None s c n before some = λ i below. refl
in_content stay (Some e) s c n before some = λ i below.
    other_block (put_stream c s s.end (spelling e)) 65 i (ru_block_of (longer (length (spelling e)) s)) (omega arith)
    ∙ (stay (spelling e) c s s.end some).others (66 + i) (inl (omega (arith, before, below)))

start_with : (e : Option Entry) (s : Span) → (span_with e s).start ≡ s.start
start_with None s = refl
start_with (Some e) s = refl

-- what is entered in the journal
pub keeps_entered : Beside → OthersStay → (e : Option Entry) (s : Span) (ss : Slots) (old : Option (List (List ℕ))) → 584 + length ss ≤ s.start → 0 < s.blocks → IfSome old (Keeps ss) → IfSome (option_map (content_with e s) old) (Keeps ss)
keeps_entered beside stay e s ss None before some keeps = tt
keeps_entered beside stay e s ss (Some c) before some keeps = beside ss c (content_with e s c) keeps (in_content stay e s c (length ss) before some)

-- and the home block and the journal's block
pub keeps_settled : Beside → OthersStay → (home : Home) (ru : Span) (e : Option Entry) (s : Span) (ss : Slots) (old : Option (List (List ℕ))) → 584 + length ss ≤ s.start → 0 < s.blocks → IfSome old (Keeps ss)
    → IfSome (option_map (λ c. with_front home ru (content_with e s c)) old) (Keeps ss)
keeps_settled beside stay home ru e s ss None before some keeps = tt
keeps_settled beside stay home ru e s ss (Some c) before some keeps = beside ss c (with_front home ru (content_with e s c)) keeps
    (λ i below.
    other_block (slice_set (content_with e s c) 0 (home_block_of home)) 65 i (ru_block_of ru) (omega arith)
    ∙ other_block (content_with e s c) 0 i (home_block_of home) (omega arith)
    ∙ in_content stay e s c (length ss) before some i below)

-- so it is once a branch is settled
pub log_settled : Beside → OthersStay → (tid : Tid) (serial : Serial) (ending : Ending) (moment : ℕ) (e : Option Entry) (left : List (Option OpenUnit)) (ss : Slots) (v w : VolumeState) → 0 < v.catalog.ru.blocks → MakesSettlement tid serial ending moment e left v w → HasLog ss v → HasLog ss w
log_settled beside stay tid serial ending moment e left ss v w some makes h = record {
  before = let before = h.before in let start : w.catalog.ru.start ≡ v.catalog.ru.start = ap (λ (k : Catalog). k.ru.start) makes.catalog ∙ start_with e v.catalog.ru in omega (arith, start, before);
  keeps = subst (λ (o : Option (List (List ℕ))). IfSome o (Keeps ss)) (sym makes.current)
      (keeps_settled beside stay (settled_home tid serial ending moment v.catalog.home) (from_earliest left (span_with e v.catalog.ru)) e v.catalog.ru ss v.store.current h.before some h.keeps);
}

-- an entry in the journals of files that lie behind the log
files_beside : OthersStay → (e : Option Entry) (files : List Bool) (heads : List (Option FileHead)) (disk : DiskState) (n : ℕ) (c : List (List ℕ)) → length files ≡ 64 →
    IfSome e (λ x. AllHaveRoom files 48 heads disk × StandBehind files (584 + n) heads) → SameSlots n c (content_settled e files heads c)
files_beside stay None files heads disk n c long lie = λ i below. refl
files_beside stay (Some e) files heads disk n c long lie = λ i below.
    stays_settled stay (66 + i) (Some e) files heads c (omega (arith, long)) (λ file takes. (
      (λ h at kept. record { some = ((lie.0 file takes).0 h at kept).ring.some; beside = inl (let b = (lie.1 file h takes at).0 kept in omega (arith, b, below)) }),
      (λ h at kept. record { some = ((lie.0 file takes).1 h at kept).ring.some; beside = inl (let b = (lie.1 file h takes at).1 kept in omega (arith, b, below)) }),
    ))

keeps_files : Beside → (ss : Slots) (f : List (List ℕ) → List (List ℕ)) (o : Option (List (List ℕ))) → ((c : List (List ℕ)) → SameSlots (length ss) c (f c)) → IfSome o (Keeps ss) → IfSome (option_map f o) (Keeps ss)
keeps_files beside ss f None same keeps = tt
keeps_files beside ss f (Some c) same keeps = beside ss c (f c) keeps (same c)

-- so it is once a branch is settled with its entry in them
pub log_settled_in : Beside → OthersStay → (files : List Bool) (tid : Tid) (serial : Serial) (ending : Ending) (moment : ℕ) (e : Option Entry) (left : List (Option OpenUnit)) (ss : Slots) (v w : VolumeState) → length files ≡ 64 → 0 < v.catalog.ru.blocks →
    IfSome e (λ x. AllHaveRoom files 48 v.catalog.heads v.store.disk × StandBehind files (584 + length ss) v.catalog.heads) → SettlesFiles files tid serial ending moment e left v w → HasLog ss v → HasLog ss w
log_settled_in beside stay files tid serial ending moment e left ss v w long some lie s h =
    let mid = s.mid in
    let same : mid.catalog.ru ≡ v.catalog.ru = ap (λ (k : Catalog). k.ru) s.entered.catalog in
    log_settled beside stay tid serial ending moment e left ss mid w (subst (λ (r : Span). 0 < r.blocks) (sym same) some) s.settles (record {
      before = subst (λ (r : Span). 584 + length ss ≤ r.start) (sym same) h.before;
      keeps = subst (λ (o : Option (List (List ℕ))). IfSome o (Keeps ss)) (sym s.entered.current)
          (keeps_files beside ss (content_settled e files v.catalog.heads) v.store.current (λ c. files_beside stay e files v.catalog.heads v.store.disk (length ss) c long lie) h.keeps);
    })

-- what holds where a branch changed something holds where it has an entry
pub if_entry : (P : Type 0) (has : Bool) (e : Entry) → (has ≡ true → P) → IfSome (entry_if has e) (λ x. P)
if_entry P true e is = is refl
if_entry P false e is = tt

-- the journals of the files of a unit at a place still lie so once it is undone and its record is set
pub lie_after : (o : Option OpenUnit) (v mid logged : VolumeState) (n m : ℕ) → GoesOn v mid → logged.catalog ≡ mid.catalog → logged.store.disk ≡ mid.store.disk → m ≡ n → IfSome o (λ u. ImagesHaveRoom u.positions u.files v) → IfSome o (λ u. StandBehind u.files (584 + n) v.catalog.heads) →
    IfSome o (λ u. has_changes u.positions ≡ true → AllHaveRoom u.files 48 logged.catalog.heads logged.store.disk × StandBehind u.files (584 + m) logged.catalog.heads)
lie_after None v mid logged n m goes catalog disk long rooms stand = tt
lie_after (Some u) v mid logged n m goes catalog disk long rooms stand = λ changed. (
  subst (λ (k : Catalog). AllHaveRoom u.files 48 k.heads logged.store.disk) (sym catalog) (subst (λ (d : DiskState). AllHaveRoom u.files 48 mid.catalog.heads d) (sym disk) (all_on u.files v mid goes (rooms changed))),
  subst (λ (k : Catalog). StandBehind u.files (584 + m) k.heads) (sym catalog) (subst (λ (i : ℕ). StandBehind u.files (584 + i) mid.catalog.heads) (sym long) (stand_on u.files (584 + n) v mid goes stand)),
)

-- and once a branch is prepared
pub log_voted : Beside → OthersStay → (e : Option Entry) (ss : Slots) (v w : VolumeState) → 0 < v.catalog.ru.blocks → w.store.current ≡ option_map (content_with e v.catalog.ru) v.store.current → w.catalog ≡ record v.catalog { ru = span_with e v.catalog.ru } → HasLog ss v → HasLog ss w
log_voted beside stay e ss v w some current catalog h = record {
  before = let before = h.before in let start : w.catalog.ru.start ≡ v.catalog.ru.start = ap (λ (k : Catalog). k.ru.start) catalog ∙ start_with e v.catalog.ru in omega (arith, start, before);
  keeps = subst (λ (o : Option (List (List ℕ))). IfSome o (Keeps ss)) (sym current) (keeps_entered beside stay e v.catalog.ru ss v.store.current h.before some h.keeps);
}

-- and what is set back of a unit
pub undone_keeps : Beside → (ss : Slots) (ps : List ℕ) (v mid : VolumeState) (serial : Id) (a : List (List ℕ)) (directory : List (Option File)) (es : List Entry) → IsUndoable serial ps v a directory es → GoesOn v mid → Undoes ps v mid → HasLog ss v → HasLog ss mid
undone_keeps beside ss ps v mid serial a directory es may goes undoes h =
    let way = (undoes serial a directory es may).way in
    let start : mid.catalog.ru.start ≡ v.catalog.ru.start = ap (λ (k : Catalog). k.ru.start) goes.catalog in
    let before = h.before in
    let kept : Keeps ss a = subst (λ (o : Option (List (List ℕ))). IfSome o (Keeps ss)) may.told h.keeps in
    record {
      before = omega (arith, start, before);
      keeps = subst (λ (o : Option (List (List ℕ))). IfSome o (Keeps ss)) (sym way.told) (beside ss a way.now kept (λ i below. way.journal.blocks (66 + i) (omega arith) (omega (arith, start, before, below))));
    }
