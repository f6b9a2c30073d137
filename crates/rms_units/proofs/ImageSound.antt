-- A volume stays sound where journals of images grow, and units find the room in them that they are owed.
use Rattle.std.proofs.Common.{◌≡◌, ◌≢◌, ℕ, zero, suc, ◌+◌, ◌-◌, ◌*◌, ◌<◌, ◌≤◌, ◌^◌, Bool, true, false, List, [], ◌∷◌, Option, Some, None, length, option_map, slice_set, refl, sym, ap, subst, ◌∙◌, arith, if◌then◌else◌, length-set}
use Rattle.std.specs.Prelude.{IfSome, slice_index_or}
use Rattle.block_disk.specs.Disk.{DiskState}
use Rattle.file_base.specs.declared.head.FileHead.{FileHead}
use Rattle.file_base.specs.declared.head.Span.{Span}
use Rattle.journal_model.specs.Entries.{Entry}
use Rattle.journal_model.specs.Ring.{ring_size}
use Rattle.unit_table.specs.Units.{OpenUnit, changers, unit_at}
use Rattle.unit_restarts.proofs.unit_aborts.ImageLemmas.{fit_told}
use Rattle.unit_journal.specs.Settling.{span_with}
use Rattle.volume.specs.declared.catalog.Catalog.{Catalog}
use Rattle.volume.specs.Catalogs.{IsSound, head_at}
use Rattle.volume.specs.State.{VolumeState}
use Rattle.kept_files.specs.file_settlements.Settling.{heads_settled}
use Rattle.image_appends.specs.declared.side.Side.{Side}
use Rattle.image_appends.specs.declared.side.Side.TheVariants.{After, Before}
use Rattle.image_appends.specs.Images.{FileHasRoom, HasRoom, heads_with, heads_with_both, is_kept, span_of}
use Rattle.image_appends.specs.Settling.{AllHaveRoom, heads_from}
use Rattle.image_room.specs.Room.{AllSettlementsFit, ImagesAreLow, SettlementsFit, images_refused, images_wanted, kept_span}
use Rattle.volume_files.proofs.Places.{fits_at as fits_at_head}
use Rattle.image_room.proofs.Entered.{befores_grow, counts_at, grown_at, kept_grow, long_with}
use Rattle.image_room.proofs.Keeping.{afters_have_room, befores_have_room, ring_room, room_to_change, room_to_settle}
use Rattle.image_room.proofs.Rings.{first_in, ring_in}
use Rattle.image_room.proofs.Sound.{sound_grown}
use Rattle.kept_files.specs.Keeping.{StandBehind}
use Rattle.rms_units.specs.Making.{AreLow}
use Rattle.rms_units.specs.State.{IsInOrder, UnitsState, unit_of}
use Rattle.kept_files.specs.Own.{only}
use Rattle.rms_units.proofs.ImageOrder.{FileGrows, only_is}

-- Sound volumes.

pub length_both : (file after before : ℕ) (heads : List (Option FileHead)) → length (heads_with_both file after before heads) ≡ length heads
length_both file after before heads = long_with file Before before (heads_with file After after heads) ∙ long_with file After after heads

-- the images of a change
pub sound_both : (name : List ℕ) (size : ℕ) (v : Catalog) (file after before : ℕ) → length v.heads ≡ 64 → AreLow after before file v.heads → IsSound name size v → IsSound name size (record v { heads = heads_with_both file after before v.heads })
sound_both name size v file after before long low s =
    let mid : Catalog = record v { heads = heads_with file After after v.heads } in
    let first : IsSound name size mid = sound_grown name size v file After after long (λ h at kept. (low h at).0 kept) s in
    sound_grown name size mid file Before before (long_with file After after v.heads ∙ long)
    (λ k at kept.
    let was = grown_at v.heads file After after k at in
    let same : (span_of Before k).end ≡ (span_of Before was.0).end = ap (λ (x : FileHead). (span_of Before x).end) was.2 ∙ ap (λ (s : Span). s.end) (befores_grow after was.0) in
    let l = (low was.0 was.1).1 (sym (ap (is_kept Before) was.2 ∙ kept_grow Before After after was.0) ∙ kept) in
    omega (arith, same, l)) first

-- positions that are low enough
pub low_by : (after before most file : ℕ) (heads : List (Option FileHead)) → after ≤ most → before ≤ most → ImagesAreLow most heads → AreLow after before file heads
low_by after before most file heads few few_too low h at = let l = low file h at in ((λ kept. omega (arith, few, l.0)), (λ kept. omega (arith, few_too, l.1)))

-- what is left of that once a file's journals have grown
pub low_left : (file after before more more_too : ℕ) (heads new : List (Option FileHead)) → FileGrows file after before heads new → AreLow (after + more) (before + more_too) file heads → AreLow more more_too file new
low_left file after before more more_too heads new grows low k at =
    let was = grows.at k at in (
      (λ kept. let marked = sym (was.2.kept After) ∙ kept in let l = (low was.0 was.1).0 marked in let e = (was.2.afters marked).end in omega (arith, l, e)),
      (λ kept. let marked = sym (was.2.kept Before) ∙ kept in let l = (low was.0 was.1).1 marked in let e = (was.2.befores marked).end in omega (arith, l, e)),
    )

-- the settlement of a change of one file alone
pub sound_own : (name : List ℕ) (disk : ℕ) (v : Catalog) (file : ℕ) → file < 64 → length v.heads ≡ 64 → AreLow 48 48 file v.heads → IsSound name disk v → IsSound name disk (record v { heads = heads_from 0 (only file) 48 v.heads })
sound_own name disk v file below long low s = subst (λ (hs : List (Option FileHead)). IsSound name disk (record v { heads = hs })) (sym (only_is file v.heads below)) (sound_both name disk v file 48 48 long low s)

-- The entry of a settlement, or none.

-- a unit that is settled takes the room that was kept for it
pub all_entered : (e : Option Entry) (ru : Span) (heads : List (Option FileHead)) (us : List (Option OpenUnit)) (p : ℕ) (u : OpenUnit) → unit_at us p ≡ Some u → p < length us → (span_with e ru).end ≤ ru.end + 48 → AllSettlementsFit us heads → AllSettlementsFit (slice_set us p None) (heads_settled e u.files heads)
all_entered e ru heads us p u at below few all = fit_told e u.files ru heads us (slice_set us p None) few (counts_at us p u at below) all

-- What a unit finds.

module _ (place : ℕ) (u : OpenUnit) (s : UnitsState) (v : VolumeState) (at : unit_of place s ≡ Some u) (o : IsInOrder s v) where
  -- room for its settlement
  pub all_have_room : AllHaveRoom u.files 48 v.catalog.heads v.store.disk
  all_have_room file takes = (
    (λ h there kept. ring_in v.catalog.home.node v.catalog v.store.disk o.heads o.sound After file h there kept 48 o.most (room_to_settle After h file s.units.places place u at takes (o.images file h there).0 kept)),
    (λ h there kept. ring_in v.catalog.home.node v.catalog v.store.disk o.heads o.sound Before file h there kept 48 o.most (room_to_settle Before h file s.units.places place u at takes (o.images file h there).1 kept)),
  )

-- the journals lie behind the log, where that lies before the journal of recovery units
pub stand_behind : (files : List Bool) (slots : ℕ) (s : UnitsState) (v : VolumeState) → IsInOrder s v → 584 + slots ≤ v.catalog.ru.start → StandBehind files (584 + slots) v.catalog.heads
stand_behind files slots s v o before file h takes there = (
  (λ kept. let a = (first_in v.catalog.home.node v.catalog v.store.disk o.heads o.sound After file h there kept).0 in let b = o.sound.ru_start in omega (arith, a, b, before)),
  (λ kept. let a = (first_in v.catalog.home.node v.catalog v.store.disk o.heads o.sound Before file h there kept).0 in let b = o.sound.ru_start in omega (arith, a, b, before)),
)

-- where a ring has room for the settlements of some units, it has room for none
pub fits_none : (us others : List (Option OpenUnit)) (heads : List (Option FileHead)) → ((g : ℕ) → changers g others ≡ 0) → AllSettlementsFit us heads → AllSettlementsFit others heads
fits_none us others heads none all g h there =
    let both = all g h there in
    let zero_one = none g in
    ((λ kept. let a = both.0 kept in omega (arith, a, zero_one)), (λ kept. let a = both.1 kept in omega (arith, a, zero_one)))

-- What is not refused has room.

module _ (s : UnitsState) (v : VolumeState) (file : ℕ) (h : FileHead) (o : IsInOrder s v) (there : head_at v.catalog.heads file ≡ Some h) where
  one_head : (k : FileHead) → head_at v.catalog.heads file ≡ Some k → h ≡ k
  one_head k now = let e : Some h ≡ Some k = sym there ∙ now in cc

  fits_at : (side : Side) → SettlementsFit side h file s.units.places
  fits_at After = (o.images file h there).0
  fits_at Before = (o.images file h there).1

  ring_with : (side : Side) (size : ℕ) → (is_kept side h ≡ true → (span_of side h).end - (span_of side h).first + size ≤ ring_size (span_of side h)) → FileHasRoom side size file v.catalog.heads v.store.disk
  ring_with side size room k now kept = subst (λ (x : FileHead). HasRoom size (span_of side x) v.store.disk) (one_head k now)
      (let marked = ap (is_kept side) (one_head k now) ∙ kept in ring_in v.catalog.home.node v.catalog v.store.disk o.heads o.sound side file h there marked size o.most (room marked))

  -- for the images of a change
  pub rooms_to_change : (b : Bool) (after before : ℕ) → images_refused h file s.units.places b after before ≡ None → FileHasRoom After after file v.catalog.heads v.store.disk × FileHasRoom Before before file v.catalog.heads v.store.disk
  rooms_to_change b after before none = (
    ring_with After after (room_to_change After h file s.units.places b after (afters_have_room h file s.units.places b after before none) (fits_at After)),
    ring_with Before before (room_to_change Before h file s.units.places b before (befores_have_room h file s.units.places b after before none) (fits_at Before)),
  )

  -- for those and the settlement of a change by no unit
  pub rooms_to_settle : (after before : ℕ) → images_refused h file s.units.places false after before ≡ None → FileHasRoom After (after + 48) file v.catalog.heads v.store.disk × FileHasRoom Before (before + 48) file v.catalog.heads v.store.disk
  rooms_to_settle after before none = (
    ring_with After (after + 48) (λ kept. let r = ring_room After h file s.units.places (images_wanted false after) (afters_have_room h file s.units.places false after before none) (fits_at After) kept in omega (arith, r)),
    ring_with Before (before + 48) (λ kept. let r = ring_room Before h file s.units.places (images_wanted false before) (befores_have_room h file s.units.places false after before none) (fits_at Before) kept in omega (arith, r)),
  )

-- the spans of a file's journals are in order

kept_ordered : (side : Side) (h : FileHead) → (span_of side h).first ≤ (span_of side h).end → IfSome (kept_span side h) (λ (x : Span). x.first ≤ x.end)
kept_ordered side h ordered = go (is_kept side h)
  where
    go : (b : Bool) → IfSome (if b then Some (span_of side h) else None) (λ (x : Span). x.first ≤ x.end)
    go true = ordered
    go false = tt

pub ordered_spans : (s : UnitsState) (v : VolumeState) (file : ℕ) (h : FileHead) → IsInOrder s v → head_at v.catalog.heads file ≡ Some h → IfSome (kept_span After h) (λ (x : Span). x.first ≤ x.end) × IfSome (kept_span Before h) (λ (x : Span). x.first ≤ x.end)
ordered_spans s v file h o there =
    let fits = fits_at_head v.catalog.home.node v.store.disk.size v.catalog file h o.heads o.sound there in
    (kept_ordered After h fits.ai.ordered, kept_ordered Before h fits.bi.ordered)

-- so of units as a table has them
pub settlements_at : (s t : UnitsState) (v : VolumeState) (file : ℕ) (h : FileHead) → t ≡ s → IsInOrder s v → head_at v.catalog.heads file ≡ Some h → SettlementsFit After h file t.units.places × SettlementsFit Before h file t.units.places
settlements_at s t v file h is o there = subst (λ (x : UnitsState). SettlementsFit After h file x.units.places × SettlementsFit Before h file x.units.places) (sym is) (o.images file h there)
