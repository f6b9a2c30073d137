-- How far the ends of journals of images go.
use Rattle.std.proofs.Common.{◌≡◌, ℕ, zero, suc, ◌+◌, ◌*◌, ◌≤◌, ◌<◌, ◌^◌, Bool, true, false, List, [], ◌∷◌, Option, Some, None, length, refl, sym, ap, subst, ◌∙◌, arith, inl, inr}
use Rattle.std.specs.Prelude.{◌⊎◌, option_map, slice_index_or}
use Rattle.std.specs.List.{flat_map}
use Rattle.std.proofs.lemmas.Bool.{cases_eq}
use Rattle.file_base.specs.declared.head.FileHead.{FileHead}
use Rattle.kept_files.specs.file_settlements.Settling.{EntersSettled, SettlesFiles, heads_settled}
use Rattle.image_appends.proofs.Growing.{below_length}
use Rattle.image_appends.specs.Images.{heads_with_both}
use Rattle.image_appends.specs.Settling.{heads_from}
use Rattle.image_room.proofs.Entered.{IsSettled, at_zero}
use Rattle.image_room.specs.Room.{images_end}
use Rattle.journal_format.proofs.Decoding.{entry_size}
use Rattle.journal_model.specs.Entries.{Entry, IsEntry, spelling}
use Rattle.kept_files.specs.Own.{only}
use Rattle.unit_entries.specs.log_laws.Slots.{Slots}
use Rattle.unit_entries.specs.commit_protocol.Messages.{LogRecord, Name}
use Rattle.unit_restarts.specs.unit_aborts.Aborting.{Abortion, Aborts}
use Rattle.unit_restarts.specs.unit_aborts.Growing.{GrowsBy}
use Rattle.unit_restarts.specs.unit_aborts.Reopening.{HasTaken, Reopens, broken, full, taken}
use Rattle.unit_restarts.specs.unit_aborts.declared.reopening.AbortedUnit.{AbortedUnit}
use Rattle.ru_journal.specs.Told.{UnitTold}
use Rattle.key_changes.proofs.unit_cuts.CutFrames.{images_catalog}
use Rattle.key_changes.proofs.unit_cuts.OwnLemmas.{settled_long}
use Rattle.key_changes.specs.unit_cuts.Moving.{FitCut}
use Rattle.key_changes.specs.unit_cuts.Truncating.{CommitsCut, CutEntries, EntersCut}
use Rattle.unit_journal.specs.Entries.{settled_entry}
use Rattle.unit_journal.specs.Groups.{Grows}
use Rattle.unit_journal.specs.Settling.{MakesSettlement}
use Rattle.unit_table.specs.Units.{OpenUnit}
use Rattle.unit_restarts.specs.unit_undo.Undoing.{GoesOn, Journals, journals_at, journals_of}
use Rattle.unit_votes.specs.Voting.{AbortsLogged, MakesLogged, Settlement}
use Rattle.vms_base.specs.Ids.{serial_of, tid_of}
use Rattle.vms_base.specs.declared.ids.Serial.{Serial}
use Rattle.vms_base.specs.declared.ids.Tid.{Tid}
use Rattle.vms_model.specs.Keys.{Key}
use Rattle.vms_model.specs.Transactions.{Commit}
use Rattle.volume.specs.Catalogs.{head_at}
use Rattle.volume.specs.declared.catalog.Catalog.{Catalog}
use Rattle.volume.specs.State.{VolumeState}
use Rattle.volume_format.specs.declared.home.Ending.{Ending}
use Rattle.volume_files.specs.Staging.{StagesFile}
use Rattle.rms_units.specs.Making.{CommitsBranch, EntersKey}
use Rattle.rms_units.specs.State.{ImagesGrow, UnitsState}
use Rattle.rms_units.specs.Voting.{Votes}
use Rattle.rms_units.proofs.CutOrder.{cut_grows}
use Rattle.rms_units.proofs.ImageOrder.{FileGrows, grows_both, grows_on, grows_own, grows_same}
use Rattle.rms_units.proofs.SettledLemmas.{bytes_of, with_end}
use Rattle.rms_units.proofs.VoteLemmas.{catalog_set}

-- no end of a file's journals is further than the furthest
pub ends_within : (heads : List (Option FileHead)) (f : ℕ) (h : FileHead) → head_at heads f ≡ Some h → (h.ai.end ≤ images_end heads) × (h.bi.end ≤ images_end heads)
ends_within [] f h there = let no : ⊥ = cc in absurd no
ends_within (None ∷ heads) zero h there = let no : ⊥ = cc in absurd no
ends_within (None ∷ heads) (suc f) h there = ends_within heads f h there
ends_within (Some x ∷ heads) zero h there =
    let same : x ≡ h = cc in
    let first = ap (λ (y : FileHead). y.ai.end) same in
    let second = ap (λ (y : FileHead). y.bi.end) same in
    (omega (arith, first), omega (arith, second))
ends_within (Some x ∷ heads) (suc f) h there = let rest = ends_within heads f h there in let one = rest.0 in let two = rest.1 in (omega (arith, one), omega (arith, two))

-- and where none is further than this, the furthest is not
pub ends_least : (heads : List (Option FileHead)) (most : ℕ) → ((f : ℕ) (h : FileHead) → head_at heads f ≡ Some h → (h.ai.end ≤ most) × (h.bi.end ≤ most)) → images_end heads ≤ most
ends_least [] most each = omega arith
ends_least (None ∷ heads) most each = ends_least heads most (λ f h there. each (suc f) h there)
ends_least (Some x ∷ heads) most each =
    let first = each 0 x refl in
    let one = first.0 in
    let two = first.1 in
    let rest = ends_least heads most (λ f h there. each (suc f) h there) in
    omega (arith, one, two, rest)

-- where each file's ends have gone no further than this, the furthest has not
pub ends_by : (heads new : List (Option FileHead)) (more : ℕ) → ((f : ℕ) (k : FileHead) → head_at new f ≡ Some k → (h : FileHead) × (head_at heads f ≡ Some h) × (k.ai.end ≤ h.ai.end + more) × (k.bi.end ≤ h.bi.end + more)) →
    images_end new ≤ images_end heads + more
ends_by heads new more each = ends_least new (images_end heads + more) (λ f k there.
    let was = each f k there in
    let within = ends_within heads f was.0 was.1 in
    let first = within.0 in
    let second = within.1 in
    let one = was.2 in
    let two = was.3 in
    (omega (arith, first, one), omega (arith, second, two)))

-- The journals of one file grow.
pub ends_grown : (file after before more : ℕ) (heads new : List (Option FileHead)) → after ≤ more → before ≤ more → FileGrows file after before heads new → images_end new ≤ images_end heads + more
ends_grown file after before more heads new few few_too grows = ends_by heads new more (λ f k there. elim (cases_eq f file) [
  | inl same ↦
      let was = grows.at k (ap (head_at new) (sym same) ∙ there) in
      let one = was.2.after_end in
      let two = was.2.before_end in
      (was.0, ap (head_at heads) same ∙ was.1, omega (arith, few, one), omega (arith, few_too, two))
  | inr apart ↦ (k, sym (grows.others f apart) ∙ there, omega arith, omega arith)
])

-- The journals of files are as they were.

was_there : (v mid : VolumeState) (f : ℕ) (k : FileHead) → journals_at mid.catalog.heads f ≡ journals_at v.catalog.heads f → head_at mid.catalog.heads f ≡ Some k → (h : FileHead) × (head_at v.catalog.heads f ≡ Some h) × (journals_of h ≡ journals_of k)
was_there v mid f k same there = go (head_at v.catalog.heads f) refl (sym same ∙ ap (option_map journals_of) there)
  where
    one : (a b : Journals) → ◌≡◌ {A = Option Journals} (Some a) (Some b) → a ≡ b
    one a b e = cc

    go : (o : Option FileHead) → head_at v.catalog.heads f ≡ o → option_map journals_of o ≡ Some (journals_of k) → (h : FileHead) × (head_at v.catalog.heads f ≡ Some h) × (journals_of h ≡ journals_of k)
    go None was is = let no : ⊥ = cc in absurd no
    go (Some h) was is = (h, was, one (journals_of h) (journals_of k) is)

ends_on : (v mid : VolumeState) → GoesOn v mid → images_end mid.catalog.heads ≤ images_end v.catalog.heads
ends_on v mid goes =
    let most = ends_by v.catalog.heads mid.catalog.heads 0 (λ f k there.
    let was = was_there v mid f k (goes.journals f) there in
    let one : was.0.ai.end ≡ k.ai.end = ap (λ (j : Journals). j.ai.end) was.2 in
    let two : was.0.bi.end ≡ k.bi.end = ap (λ (j : Journals). j.bi.end) was.2 in
    (was.0, was.1, omega (arith, one), omega (arith, two))) in
    omega (arith, most)

-- The entry of a settlement takes as many bytes there as in the journal of recovery units.

ends_from : (files : List Bool) (size : ℕ) (heads : List (Option FileHead)) → images_end (heads_from 0 files size heads) ≤ images_end heads + size
ends_from files size heads = ends_by heads (heads_from 0 files size heads) size (λ f k there.
    let was = at_zero files f size heads k there in
    by_mark f was.0 k was.1 was.2 (slice_index_or files f false) refl)
  where
    by_mark : (f : ℕ) (h k : FileHead) → head_at heads f ≡ Some h → IsSettled size (slice_index_or files f false) h k → (b : Bool) → slice_index_or files f false ≡ b → (x : FileHead) × (head_at heads f ≡ Some x) × (k.ai.end ≤ x.ai.end + size) × (k.bi.end ≤ x.bi.end + size)
    by_mark f h k at is true takes =
        let both = is.taking takes in
        let one = both.after_end in
        let two = both.before_end in
        (h, at, omega (arith, one), omega (arith, two))
    by_mark f h k at is false beside =
        let same = is.beside beside in
        let one = ap (λ (x : FileHead). x.ai.end) same in
        let two = ap (λ (x : FileHead). x.bi.end) same in
        (h, at, omega (arith, one), omega (arith, two))

ends_told : (e : Option Entry) (files : List Bool) (heads : List (Option FileHead)) → images_end (heads_settled e files heads) ≤ images_end heads + bytes_of e
ends_told None files heads = omega arith
ends_told (Some e) files heads = ends_from files (length (spelling e)) heads

-- the ends of journals of images go no further than that of the journal of recovery units
abbrev pub GrowAlike : (v w : VolumeState) → Type 0
GrowAlike v w = images_end w.catalog.heads + v.catalog.ru.end ≤ images_end v.catalog.heads + w.catalog.ru.end

pub alike_settled : (files : List Bool) (tid : Tid) (serial : Serial) (ending : Ending) (moment : ℕ) (e : Option Entry) (left : List (Option OpenUnit)) (v w : VolumeState) → SettlesFiles files tid serial ending moment e left v w → GrowAlike v w
alike_settled files tid serial ending moment e left v w is =
    let mid = is.mid in
    let most = ends_told e files v.catalog.heads in
    let told : images_end mid.catalog.heads ≡ images_end (heads_settled e files v.catalog.heads) = ap (λ (c : Catalog). images_end c.heads) is.entered.catalog in
    let same : images_end w.catalog.heads ≡ images_end mid.catalog.heads = ap (λ (c : Catalog). images_end c.heads) is.settles.catalog in
    let was : mid.catalog.ru.end ≡ v.catalog.ru.end = ap (λ (c : Catalog). c.ru.end) is.entered.catalog in
    let now : w.catalog.ru.end ≡ mid.catalog.ru.end + bytes_of e = ap (λ (c : Catalog). c.ru.end) is.settles.catalog ∙ with_end e mid.catalog.ru in
    omega (arith, most, told, same, was, now)

-- one after the other
alike_on : (v mid w : VolumeState) → GrowAlike v mid → GrowAlike mid w → GrowAlike v w
alike_on v mid w a b = omega (arith, a, b)

alike_goes : (v mid : VolumeState) → GoesOn v mid → GrowAlike v mid
alike_goes v mid goes = let most = ends_on v mid goes in let same : mid.catalog.ru.end ≡ v.catalog.ru.end = ap (λ (c : Catalog). c.ru.end) goes.catalog in omega (arith, most, same)

alike_same : (v w : VolumeState) → w.catalog ≡ v.catalog → GrowAlike v w
alike_same v w same =
    let heads = ap (λ (c : Catalog). images_end c.heads) same in
    let ru = ap (λ (c : Catalog). c.ru.end) same in
    omega (arith, heads, ru)

-- what is kept of the volume is as it was
pub ends_same : (v w : VolumeState) → w.catalog ≡ v.catalog → ImagesGrow v w
ends_same v w same = let heads = ap (λ (c : Catalog). images_end c.heads) same in omega (arith, heads)

-- Settlements.

pub ends_alike : (settlements clock : ℕ) (v w : VolumeState) → GrowAlike v w → Grows settlements clock v w → ImagesGrow v w
ends_alike settlements clock v w alike grows = let end = grows.end in omega (arith, alike, end)

pub alike_aborted : (x : Abortion) (v w : VolumeState) → Aborts x v w → GrowAlike v w
alike_aborted x v w is =
    alike_on v is.mid w (alike_goes v is.mid is.goes) (alike_settled _ _ _ _ _ _ _ is.mid w is.makes)

pub alike_logged : (x : Settlement) (rec : Option LogRecord) (ss ts : Slots) (v w : VolumeState) → MakesLogged x rec ss ts v w → GrowAlike v w
alike_logged x rec ss ts v w is =
    alike_on v is.logged w (alike_same v is.logged (catalog_set (serial_of x.serial) rec ss ts v is.logged is.log)) (alike_settled _ _ _ _ _ _ _ is.logged w is.makes)

pub alike_aborted_logged : (x : Abortion) (ss ts : Slots) (v w : VolumeState) → AbortsLogged x ss ts v w → GrowAlike v w
alike_aborted_logged x ss ts v w is = alike_on v is.mid w (alike_goes v is.mid is.goes) (alike_logged _ None ss ts is.mid w is.makes)

-- a vote takes nothing of them
pub ends_voted : (yes : Bool) (place : ℕ) (u : OpenUnit) (rms : List Name) (s : UnitsState) (ss : Slots) (v : VolumeState) (t : UnitsState) (ts : Slots) (w : VolumeState) → Votes yes place u rms s ss v t ts w → ImagesGrow v w
ends_voted true place u rms s ss v t ts w is = let heads = ap (λ (c : Catalog). images_end c.heads) is.makes.catalog in omega (arith, heads)
ends_voted false place u rms s ss v t ts w is = ends_same v w (ap (λ (x : VolumeState). x.catalog) is.same)

-- Units that a fall left.

alike_taken : (clock : ℕ) (us : List UnitTold) (many : ℕ) (v w : VolumeState) (out : List AbortedUnit) → HasTaken clock us many v w out → GrowAlike v w
alike_taken clock us zero v w out is = alike_same v w (ap (λ (x : VolumeState). x.catalog) is.0)
alike_taken clock us (suc k) v w out is =
    let mid = is.0 in
    let before = is.1 in
    let first = alike_taken clock us k v mid before is.4 in
    alike_on v mid w first (alike_aborted _ mid w is.6.aborts)

pub alike_reopened : (clock : ℕ) (v w : VolumeState) (out : List AbortedUnit) (left : List OpenUnit) → Reopens clock v w out left → GrowAlike v w
alike_reopened clock v w out left (broken wrong same a b) = alike_same v w (ap (λ (x : VolumeState). x.catalog) same)
alike_reopened clock v w out left (full us are which same a b) = alike_same v w (ap (λ (x : VolumeState). x.catalog) same)
alike_reopened clock v w out left (taken us many are each none b) = alike_taken clock us many v w out each

pub ends_reopened : (clock : ℕ) (v w : VolumeState) (out : List AbortedUnit) (left : List OpenUnit) → Reopens clock v w out left → GrowsBy 64 clock v w → ImagesGrow v w
ends_reopened clock v w out left is grows = let alike = alike_reopened clock v w out left is in let end = grows.end in omega (arith, alike, end)

-- Changes of a key.

key_grown : (file limit : ℕ) (h new : FileHead) (after before : ℕ) (v mid : VolumeState) → head_at v.catalog.heads file ≡ Some h → StagesFile file h limit v mid new → FileGrows file after before v.catalog.heads (heads_with_both file after before mid.catalog.heads)
key_grown file limit h new after before v mid there stages =
    grows_on file 0 0 after before after before v.catalog.heads mid.catalog.heads (heads_with_both file after before mid.catalog.heads) (omega arith) (omega arith)
    (subst (FileGrows file 0 0 v.catalog.heads) (sym (ap (λ (c : Catalog). c.heads) stages.catalog)) (grows_same file h new v.catalog.heads there stages.same)) (grows_both file after before mid.catalog.heads)

pub ends_keyed : (file : ℕ) (h : FileHead) (held : Key → Bool) (key : Key) (after : Option (List ℕ)) (a e : Entry) (v w : VolumeState) → head_at v.catalog.heads file ≡ Some h → EntersKey file h held key after a e v w → ImagesGrow v w
ends_keyed file h held key after a e v w there is =
    let m = length (spelling a) in
    let n = length (spelling e) in
    let few = (entry_size a is.image).1 in
    let few_too = (entry_size e is.entry).1 in
    let grows = key_grown file 417 h is.head m n v is.set there is.stages in
    let most = ends_grown file m n 8272 v.catalog.heads (heads_with_both file m n is.set.catalog.heads) few few_too grows in
    let told : images_end w.catalog.heads ≡ images_end (heads_with_both file m n is.set.catalog.heads) = ap (λ (c : Catalog). images_end c.heads) is.catalog ∙ ap (λ (c : Catalog). images_end c.heads) is.images.catalog in
    omega (arith, most, told)

-- behind the changes of a file and their settlement, which no unit makes
own_closed : (file after before most : ℕ) (tid : Tid) (serial : Serial) (moment : ℕ) (left : List (Option OpenUnit)) (v x closed w : VolumeState) (ending : Ending) → file < 64 → after ≤ most → before ≤ most → FileGrows file after before v.catalog.heads x.catalog.heads →
    IsEntry (settled_entry (tid_of tid) (serial_of serial) Commit moment) → EntersSettled (only file) (Some (settled_entry (tid_of tid) (serial_of serial) Commit moment)) x closed → MakesSettlement tid serial ending moment None left closed w →
    images_end w.catalog.heads ≤ images_end v.catalog.heads + (most + 48)
own_closed file after before most tid serial moment left v x closed w ending below few few_too grows is closes settles =
    let size : length (spelling (settled_entry (tid_of tid) (serial_of serial) Commit moment)) ≡ 48 = settled_long (tid_of tid) (serial_of serial) Commit moment is in
    let told : images_end closed.catalog.heads ≡ images_end (heads_from 0 (only file) 48 x.catalog.heads) =
    ap (λ (c : Catalog). images_end c.heads) closes.catalog ∙ ap (λ (n : ℕ). images_end (heads_from 0 (only file) n x.catalog.heads)) size in
    let same : images_end w.catalog.heads ≡ images_end closed.catalog.heads = ap (λ (c : Catalog). images_end c.heads) settles.catalog in
    let both = grows_on file after before 48 48 (after + 48) (before + 48) v.catalog.heads x.catalog.heads (heads_from 0 (only file) 48 x.catalog.heads) refl refl grows (grows_own file x.catalog.heads below) in
    let grown = ends_grown file (after + 48) (before + 48) (most + 48) v.catalog.heads (heads_from 0 (only file) 48 x.catalog.heads) (omega (arith, few)) (omega (arith, few_too)) both in
    omega (arith, told, same, grown)

pub ends_keyed_directly : (file : ℕ) (h : FileHead) (held : Key → Bool) (key : Key) (after : Option (List ℕ)) (a e : Entry) (tid : Tid) (serial : Serial) (moment : ℕ) (left : List (Option OpenUnit)) (v w : VolumeState) → file < 64 → head_at v.catalog.heads file ≡ Some h →
    CommitsBranch file h held key after a e tid serial moment left v w → ImagesGrow v w
ends_keyed_directly file h held key after a e tid serial moment left v w below there is =
    let m = length (spelling a) in
    let n = length (spelling e) in
    let few = (entry_size a is.each.0).1 in
    let few_too = (entry_size e is.each.1).1 in
    let grows : FileGrows file m n v.catalog.heads is.imaged.catalog.heads = subst (FileGrows file m n v.catalog.heads) (sym (ap (λ (c : Catalog). c.heads) is.images.catalog)) (key_grown file 417 h is.head m n v is.set there is.stages) in
    let most = own_closed file m n 8272 tid serial moment left v is.imaged is.closed w _ below few few_too grows is.closing is.closes is.settles in
    omega (arith, most)

-- Truncations.

pub ends_cut : (file : ℕ) (h : FileHead) (from gone size : ℕ) (es : CutEntries) (v w : VolumeState) → head_at v.catalog.heads file ≡ Some h → length v.catalog.heads ≡ 64 → gone ≤ 8272 * 1024 → size ≤ 8272 * 1024 → FitCut es gone size → EntersCut file h from es v w → ImagesGrow v w
ends_cut file h from gone size es v w there long few few_too fit is =
    let same : is.written.catalog ≡ v.catalog = is.entered.catalog ∙ images_catalog h es v is.imaged is.images in
    let grows = cut_grows file h from es v is.written is.moved there long same is.cuts in
    let one = fit.gone in
    let two = fit.images in
    let most = ends_grown file (length (flat_map spelling es.gone)) (length (flat_map spelling es.images)) (8272 * 1024) v.catalog.heads is.moved.catalog.heads (omega (arith, one, few)) (omega (arith, two, few_too)) grows in
    let told : images_end w.catalog.heads ≡ images_end is.moved.catalog.heads = ap (λ (c : Catalog). images_end c.heads) is.catalog in
    omega (arith, most, told)

pub ends_cut_directly : (file : ℕ) (h : FileHead) (from gone size : ℕ) (es : CutEntries) (tid : Tid) (moment : ℕ) (left : List (Option OpenUnit)) (v w : VolumeState) → head_at v.catalog.heads file ≡ Some h → length v.catalog.heads ≡ 64 → gone ≤ 8272 * 1024 → size ≤ 8272 * 1024 →
    FitCut es gone size → CommitsCut file h from es tid moment left v w → ImagesGrow v w
ends_cut_directly file h from gone size es tid moment left v w there long few few_too fit is =
    let same : is.written.catalog ≡ v.catalog = images_catalog h es v is.written is.images in
    let grows = cut_grows file h from es v is.written is.moved there long same is.cuts in
    let one = fit.gone in
    let two = fit.images in
    let inside = below_length v.catalog.heads file h there in
    let most = own_closed file (length (flat_map spelling es.gone)) (length (flat_map spelling es.images)) (8272 * 1024) tid (record { 0 = tid.0 }) moment left v is.moved is.closed w _ (omega (arith, inside, long)) (omega (arith, one, few)) (omega (arith, two, few_too)) grows is.closing is.closes is.settles in
    omega (arith, most)
