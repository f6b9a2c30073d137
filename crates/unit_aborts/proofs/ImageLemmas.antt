-- The journals of images of files stay while a unit is undone.
use Rattle.std.proofs.Common.{◌≡◌, ◌==◌, ℕ, suc, ◌+◌, ◌-◌, ◌*◌, ◌≤◌, ◌^◌, arith, Bool, true, false, not, List, [], ◌∷◌, Option, Some, None, IfSome, length, map, option_map, refl, sym, ap, subst, ◌∙◌}
use Rattle.std.specs.Prelude.{◌&&◌, ◌||◌, IsSome, slice_index_or}
use Rattle.block_disk.specs.Disk.{DiskState}
use Rattle.file_base.specs.declared.head.FileHead.{FileHead}
use Rattle.file_base.specs.declared.head.Span.{Span}
use Rattle.journal_format.specs.journal_model.Entries.{Entry, spelling}
use Rattle.journal_format.specs.journal_model.Ring.{ring_size}
use Rattle.unit_journal.specs.Settling.{span_with}
use Rattle.unit_table.specs.Places.{AreInOrder}
use Rattle.unit_table.specs.Units.{OpenUnit, Units, begun, changers}
use Rattle.unit_table.proofs.BegunLemmas.{changers_seen}
use Rattle.volume.specs.Catalogs.{IsSound, head_at}
use Rattle.volume.specs.declared.catalog.Catalog.{Catalog}
use Rattle.volume.specs.State.{VolumeState}
use Rattle.unit_undo.specs.Undoing.{GoesOn, Journals, journals_at, journals_of}
use Rattle.image_room.specs.image_appends.declared.side.Side.{Side}
use Rattle.image_room.specs.image_appends.declared.side.Side.TheVariants.{After, Before}
use Rattle.image_room.specs.image_appends.Images.{FileHasRoom, HasRoom, is_kept, span_of}
use Rattle.image_room.specs.image_appends.Settling.{AllHaveRoom, one_if}
use Rattle.kept_files.specs.file_settlements.Settling.{heads_settled}
use Rattle.image_room.specs.Room.{AllSettlementsFit, ImagesAreLow, IsTooFull, SettlementsFit}
use Rattle.image_room.proofs.Entered.{Counts, all_less, all_settled_by, long_from, low_settled}
use Rattle.image_room.proofs.Keeping.{fits_less}
use Rattle.image_room.proofs.Sound.{sound_settled}
use Rattle.kept_files.specs.Keeping.{StandBehind, keeps_some, kept_from, kept_in}
use Rattle.unit_aborts.specs.Aborting.{ImagesHaveRoom, has_changes}
use Rattle.unit_aborts.proofs.AbortLemmas.{is_changed}

pub of_three : {X : Type 0} (o : Option X) {P Q R S : X → Type 0} → ((x : X) → P x → Q x → R x → S x) → IfSome o P → IfSome o Q → IfSome o R → IfSome o S
of_three None f p q r = tt
of_three (Some x) f p q r = f x p q r

-- What a file's journals tell.

abbrev span_by : Side → Journals → Span
span_by After j = j.ai
span_by Before j = j.bi

abbrev kept_by : Side → Journals → Bool
kept_by After j = j.marks.ai
kept_by Before j = j.marks.bi

span_is : (side : Side) (h : FileHead) → span_by side (journals_of h) ≡ span_of side h
span_is After h = refl
span_is Before h = refl

kept_is : (side : Side) (h : FileHead) → kept_by side (journals_of h) ≡ is_kept side h
kept_is After h = refl
kept_is Before h = refl

abbrev some_by : Option Journals → Bool
some_by None = false
some_by (Some j) = kept_by After j || kept_by Before j

some_is : (o : Option FileHead) → keeps_some o ≡ some_by (option_map journals_of o)
some_is None = refl
some_is (Some h) = refl

-- As many files keep a journal.

count_same : (files : List Bool) (n : ℕ) (a b : List (Option FileHead)) → ((file : ℕ) → keeps_some (head_at a file) ≡ keeps_some (head_at b file)) → kept_from n files a ≡ kept_from n files b
count_same [] n a b same = refl
count_same (t ∷ ts) n a b same = λ i. one_if (t && same n i) + count_same ts (suc n) a b same i

pub few_kept : (v mid : VolumeState) → ((file : ℕ) → journals_at mid.catalog.heads file ≡ journals_at v.catalog.heads file) → (files : List Bool) → kept_in files mid.catalog.heads ≡ kept_in files v.catalog.heads
few_kept v mid journals files = count_same files 0 mid.catalog.heads v.catalog.heads (λ file. some_is (head_at mid.catalog.heads file) ∙ ap some_by (journals file) ∙ sym (some_is (head_at v.catalog.heads file)))

-- Each has the room that it had.

room_on : (size : ℕ) (s : Span) (d e : DiskState) → e.size ≡ d.size → HasRoom size s d → HasRoom size s e
room_on size s d e same has = record {
  ring = record {
    from = has.ring.from;
    to = subst (λ (n : ℕ). s.start + s.blocks ≤ n) (sym same) has.ring.to;
    fits = subst (λ (n : ℕ). n ≤ 65536) (sym same) has.ring.fits;
    some = has.ring.some;
    order = has.ring.order;
    low = has.ring.low;
    room = has.ring.room;
  };
  behind = has.behind;
  room = has.room;
}

was_at : (v mid : VolumeState) (file : ℕ) → journals_at mid.catalog.heads file ≡ journals_at v.catalog.heads file → (h : FileHead) → head_at mid.catalog.heads file ≡ Some h → (k : FileHead) × (head_at v.catalog.heads file ≡ Some k) × (journals_of k ≡ journals_of h)
was_at v mid file same h there = go (head_at v.catalog.heads file) refl (sym same ∙ ap (option_map journals_of) there)
  where
    one : (a b : Journals) → ◌≡◌ {A = Option Journals} (Some a) (Some b) → a ≡ b
    one a b e = cc

    go : (o : Option FileHead) → head_at v.catalog.heads file ≡ o → option_map journals_of o ≡ Some (journals_of h) → (k : FileHead) × (head_at v.catalog.heads file ≡ Some k) × (journals_of k ≡ journals_of h)
    go None was is = let no : ⊥ = cc in absurd no
    go (Some k) was is = (k, was, one (journals_of k) (journals_of h) is)

-- a file with the same journals keeps the same
same_kept : (side : Side) (k h : FileHead) → journals_of k ≡ journals_of h → is_kept side k ≡ is_kept side h
same_kept side k h same = sym (kept_is side k) ∙ ap (kept_by side) same ∙ kept_is side h

same_span : (side : Side) (k h : FileHead) → journals_of k ≡ journals_of h → span_of side k ≡ span_of side h
same_span side k h same = sym (span_is side k) ∙ ap (span_by side) same ∙ span_is side h

file_on : (side : Side) (size file : ℕ) (v mid : VolumeState) → journals_at mid.catalog.heads file ≡ journals_at v.catalog.heads file → mid.store.disk.size ≡ v.store.disk.size → FileHasRoom side size file v.catalog.heads v.store.disk → FileHasRoom side size file mid.catalog.heads mid.store.disk
file_on side size file v mid journals same has h there kept =
    let was = was_at v mid file journals h there in
    let k = was.0 in
    subst (λ (s : Span). HasRoom size s mid.store.disk) (same_span side k h was.2) (room_on size (span_of side k) v.store.disk mid.store.disk same (has k was.1 (same_kept side k h was.2 ∙ kept)))

pub all_on : (files : List Bool) (v mid : VolumeState) → GoesOn v mid → AllHaveRoom files 48 v.catalog.heads v.store.disk → AllHaveRoom files 48 mid.catalog.heads mid.store.disk
all_on files v mid goes has file takes =
    let both = has file takes in
    (file_on After 48 file v mid (goes.journals file) goes.quiet.size both.0, file_on Before 48 file v mid (goes.journals file) goes.quiet.size both.1)

-- each lies behind what it lay behind
pub stand_on : (files : List Bool) (block : ℕ) (v mid : VolumeState) → GoesOn v mid → StandBehind files block v.catalog.heads → StandBehind files block mid.catalog.heads
stand_on files block v mid goes stand file h takes there =
    let was = was_at v mid file (goes.journals file) h there in
    let k = was.0 in
    let both = stand file k takes was.1 in (
      (λ kept. subst (λ (s : Span). block ≤ s.start) (same_span After k h was.2) (both.0 (same_kept After k h was.2 ∙ kept))),
      (λ kept. subst (λ (s : Span). block ≤ s.start) (same_span Before k h was.2) (both.1 (same_kept Before k h was.2 ∙ kept))),
    )

-- The room for settlements, and how low positions are.

abbrev pub SameJournals : (v mid : VolumeState) → Type 0
SameJournals v mid = (file : ℕ) → journals_at mid.catalog.heads file ≡ journals_at v.catalog.heads file

side_fit : (side : Side) (k h : FileHead) (file : ℕ) (us : List (Option OpenUnit)) → journals_of k ≡ journals_of h → SettlementsFit side k file us → SettlementsFit side h file us
side_fit side k h file us same fit kept = subst (λ (s : Span). s.end - s.first + 48 * changers file us ≤ ring_size s) (same_span side k h same) (fit (same_kept side k h same ∙ kept))

pub fit_on : (us : List (Option OpenUnit)) (v mid : VolumeState) → SameJournals v mid → AllSettlementsFit us v.catalog.heads → AllSettlementsFit us mid.catalog.heads
fit_on us v mid same all file h there =
    let was = was_at v mid file (same file) h there in
    let had = all file was.0 was.1 in
    (side_fit After was.0 h file us was.2 had.0, side_fit Before was.0 h file us was.2 had.1)

pub low_on : (v mid : VolumeState) → SameJournals v mid → (more : ℕ) → ImagesAreLow more v.catalog.heads → ImagesAreLow more mid.catalog.heads
low_on v mid same more low file h there =
    let was = was_at v mid file (same file) h there in
    let had = low file was.0 was.1 in (
      subst (λ (s : Span). s.end + more ≤ 2 ^ 62) (same_span After was.0 h was.2) had.0,
      subst (λ (s : Span). s.end + more ≤ 2 ^ 62) (same_span Before was.0 h was.2) had.1,
    )

pub low_less : (less more : ℕ) (heads : List (Option FileHead)) → less ≤ more → ImagesAreLow more heads → ImagesAreLow less heads
low_less less more heads le low file h there = let had = low file h there in (omega (arith, le, had.0), omega (arith, le, had.1))

-- Behind the entry of a settlement, where there is one, which has 48 bytes at the most.

pub fit_told : (e : Option Entry) (files : List Bool) (s : Span) (heads : List (Option FileHead)) (us vs : List (Option OpenUnit)) → (span_with e s).end ≤ s.end + 48 → Counts us vs files → AllSettlementsFit us heads → AllSettlementsFit vs (heads_settled e files heads)
fit_told None files s heads us vs few counts all = all_less heads us vs files counts all
fit_told (Some e) files s heads us vs few counts all = all_settled_by heads us vs files (length (spelling e)) (omega (arith, few)) counts all

pub low_told : (e : Option Entry) (files : List Bool) (s : Span) (more : ℕ) (heads : List (Option FileHead)) → (span_with e s).end ≤ s.end + 48 → ImagesAreLow (more + 48) heads → ImagesAreLow more (heads_settled e files heads)
low_told None files s more heads few low = low_less more (more + 48) heads (omega arith) low
low_told (Some e) files s more heads few low = low_settled files (length (spelling e)) more heads (low_less (more + length (spelling e)) (more + 48) heads (omega (arith, few)) low)

pub long_told : (e : Option Entry) (files : List Bool) (heads : List (Option FileHead)) → length (heads_settled e files heads) ≡ length heads
long_told None files heads = refl
long_told (Some e) files heads = long_from files 0 (length (spelling e)) heads

pub sound_told : (name : List ℕ) (size : ℕ) (e : Option Entry) (files : List Bool) (s : Span) (v : Catalog) → (span_with e s).end ≤ s.end + 48 → length v.heads ≡ 64 → ImagesAreLow 48 v.heads → IsSound name size v → IsSound name size (record v { heads = heads_settled e files v.heads })
sound_told name size None files s v few long low sound = sound
sound_told name size (Some e) files s v few long low sound = sound_settled name size files v (length (spelling e)) long (low_less (length (spelling e)) 48 v.heads (omega (arith, few)) low) sound

-- The units at their places are those in their order.

pub fit_seen : (t : Units) (heads : List (Option FileHead)) → AreInOrder t.places t.order → AllSettlementsFit t.places heads → AllSettlementsFit (map Some (begun t)) heads
fit_seen t heads order all file h there =
    let had = all file h there in
    let same = changers_seen file t.places t.order order in
    let less : changers file (map Some (begun t)) ≤ changers file t.places = omega (arith, same) in
    (fits_less After h file t.places (map Some (begun t)) less had.0, fits_less Before h file t.places (map Some (begun t)) less had.1)

pub full_seen : (t : Units) (heads : List (Option FileHead)) → AreInOrder t.places t.order → IsTooFull t.places heads → IsTooFull (map Some (begun t)) heads
full_seen t heads order full = record {
  file = full.file;
  head = full.head;
  there = full.there;
  side = full.side;
  kept = full.kept;
  full = let is = full.full in let same = changers_seen full.file t.places t.order order in omega (arith, is, same);
}

-- so of a unit at a place, by its changes and its files
pub rooms_after : (o : Option OpenUnit) (v mid : VolumeState) → GoesOn v mid → (empty : Bool) (ps : List ℕ) (files : List Bool) → empty ≡ (length ps == 0) → IfSome o (λ u. ps ≡ u.positions) → IfSome o (λ u. files ≡ u.files) →
    IfSome o (λ u. ImagesHaveRoom u.positions u.files v) → IsSome o → not empty ≡ true → AllHaveRoom files 48 mid.catalog.heads mid.store.disk
rooms_after None v mid goes empty ps files is positions same rooms there changed = let no : ⊥ = cc in absurd no
rooms_after (Some u) v mid goes empty ps files is positions same rooms there changed =
    let had = rooms (sym (is_changed empty ps u.positions is positions) ∙ changed) in
    all_on files v mid goes (subst (λ (fs : List Bool). AllHaveRoom fs 48 v.catalog.heads v.store.disk) (sym same) had)
