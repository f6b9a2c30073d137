-- The room of rings as units begin, change files and are settled.
use Rattle.std.proofs.Common.{◌≡◌, ◌≢◌, ℕ, zero, suc, ◌+◌, ◌-◌, ◌*◌, ◌<◌, ◌≤◌, Bool, true, false, List, [], ◌∷◌, Option, Some, None, length, slice_set, refl, sym, ap, subst, ◌∙◌, arith, if◌then◌else◌, get_or-set_other}
use Rattle.std.specs.Prelude.{nat_lt, slice_index_or}
use Rattle.std.proofs.lemmas.Bool.{ltb-false}
use Rattle.std.proofs.lemmas.List.{get_or-set_same}
use Rattle.file_base.specs.declared.head.FileHead.{FileHead}
use Rattle.file_base.specs.declared.head.Span.{Span}
use Rattle.image_appends.specs.journal_model.Ring.{ring_size}
use Rattle.record_operations.specs.Causes.{Cause, cause_if, first_cause}
use Rattle.unit_table.specs.Units.{OpenUnit, changers, has_changed, new_unit, no_files, one_changer, prepared_unit, unit_at, with_position}
use Rattle.file_base.specs.vms_model.Ids.{Id}
use Rattle.volume.specs.Catalogs.{head_at}
use Rattle.image_appends.specs.declared.side.Side.{Side}
use Rattle.image_appends.specs.declared.side.Side.TheVariants.{After, Before}
use Rattle.image_appends.specs.Images.{is_kept, span_of}
use Rattle.image_room.specs.Room.{AllSettlementsFit, SettlementsFit, free_images, full_by, images_refused, images_wanted, kept_span, ring_refused}

-- Units at places.

-- another unit at a place counts in place of the one that was there
pub changers_set : (file : ℕ) (us : List (Option OpenUnit)) (p : ℕ) (x : Option OpenUnit) → p < length us → changers file (slice_set us p x) + one_changer file (unit_at us p) ≡ changers file us + one_changer file x
changers_set file [] p x below = let no : ⊥ = omega (arith, below) in absurd no
changers_set file (u ∷ us) zero x below = omega arith
changers_set file (u ∷ us) (suc p) x below = let rest = changers_set file us p x (omega (arith, below)) in omega (arith, rest)

-- a unit that changed a file is one of them
pub one_of_them : (file : ℕ) (us : List (Option OpenUnit)) (p : ℕ) (u : OpenUnit) → unit_at us p ≡ Some u → one_changer file (Some u) ≤ changers file us
one_of_them file [] p u at = let no : ⊥ = cc in absurd no
one_of_them file (x ∷ us) zero u at = let same = ap (one_changer file) at in omega (arith, same)
one_of_them file (x ∷ us) (suc p) u at = let rest = one_of_them file us p u at in omega (arith, rest)

changed_counts : (file : ℕ) (u : OpenUnit) → has_changed u file ≡ true → one_changer file (Some u) ≡ 1
changed_counts file u is = ap (λ (b : Bool). if b then 1 else 0) is

-- so its settlement has room
pub room_to_settle : (side : Side) (h : FileHead) (file : ℕ) (us : List (Option OpenUnit)) (p : ℕ) (u : OpenUnit) → unit_at us p ≡ Some u → has_changed u file ≡ true → SettlementsFit side h file us → is_kept side h ≡ true →
    (span_of side h).end - (span_of side h).first + 48 ≤ ring_size (span_of side h)
room_to_settle side h file us p u at is fit kept =
    let room = fit kept in
    let one = one_of_them file us p u at in
    let counts = changed_counts file u is in
    omega (arith, room, one, counts)

-- What is not refused has room.

not_refused : (b : Bool) (cause : Cause) → cause_if b cause ≡ None → b ≡ false
not_refused true cause is = let no : ⊥ = cc in absurd no
not_refused false cause is = refl

not_first : (a b : Option Cause) → first_cause a b ≡ None → a ≡ None
not_first (Some c) b is = let no : ⊥ = cc in absurd no
not_first None b is = refl

nor_second : (a b : Option Cause) → first_cause a b ≡ None → b ≡ None
nor_second (Some c) b is = let no : ⊥ = cc in absurd no
nor_second None b is = is

kept_is : (side : Side) (h : FileHead) → is_kept side h ≡ true → kept_span side h ≡ Some (span_of side h)
kept_is side h kept = ap (λ (b : Bool). if b then Some (span_of side h) else None) kept

-- a ring that is not refused has the bytes that are needed, besides those for the settlements of the units
pub ring_room : (side : Side) (h : FileHead) (file : ℕ) (us : List (Option OpenUnit)) (need : ℕ) → ring_refused side (kept_span side h) file us need ≡ None → SettlementsFit side h file us → is_kept side h ≡ true →
    (span_of side h).end - (span_of side h).first + 48 * changers file us + need ≤ ring_size (span_of side h)
ring_room side h file us need none fit kept =
    let s = span_of side h in
    let told : cause_if (nat_lt (free_images s file us) need) (full_by side (free_images s file us) need) ≡ None = ap (λ (o : Option Span). ring_refused side o file us need) (sym (kept_is side h kept)) ∙ none in
    let enough : need ≤ free_images s file us = ltb-false (free_images s file us) need (not_refused (nat_lt (free_images s file us) need) (full_by side (free_images s file us) need) told) in
    let room = fit kept in
    omega (arith, enough, room)

wanted_least : (b : Bool) (size : ℕ) → size ≤ images_wanted b size
wanted_least true size = omega arith
wanted_least false size = omega arith

-- and so for the entry of a change in it
pub room_to_change : (side : Side) (h : FileHead) (file : ℕ) (us : List (Option OpenUnit)) (b : Bool) (size : ℕ) → ring_refused side (kept_span side h) file us (images_wanted b size) ≡ None → SettlementsFit side h file us → is_kept side h ≡ true →
    (span_of side h).end - (span_of side h).first + size ≤ ring_size (span_of side h)
room_to_change side h file us b size none fit kept =
    let room = ring_room side h file us (images_wanted b size) none fit kept in
    let least = wanted_least b size in
    omega (arith, room, least)

pub afters_have_room : (h : FileHead) (file : ℕ) (us : List (Option OpenUnit)) (b : Bool) (after before : ℕ) → images_refused h file us b after before ≡ None → ring_refused After (kept_span After h) file us (images_wanted b after) ≡ None
afters_have_room h file us b after before none = not_first (ring_refused After (kept_span After h) file us (images_wanted b after)) (ring_refused Before (kept_span Before h) file us (images_wanted b before)) none

pub befores_have_room : (h : FileHead) (file : ℕ) (us : List (Option OpenUnit)) (b : Bool) (after before : ℕ) → images_refused h file us b after before ≡ None → ring_refused Before (kept_span Before h) file us (images_wanted b before) ≡ None
befores_have_room h file us b after before none = nor_second (ring_refused After (kept_span After h) file us (images_wanted b after)) (ring_refused Before (kept_span Before h) file us (images_wanted b before)) none

-- Behind a change.

-- a ring as long as it was, of which so many bytes more are taken
pub record LongerBy (size : ℕ) (s t : Span) : Type 0 where
  pub start : t.start ≡ s.start
  pub first : t.first ≡ s.first
  pub end : t.end ≡ s.end + size
  pub blocks : t.blocks ≡ s.blocks

pub wanted_more : (b : Bool) (size : ℕ) → images_wanted b size ≡ size + (if b then 0 else 48)
wanted_more true size = omega arith
wanted_more false size = omega arith

noted_counts : (file : ℕ) (u w : OpenUnit) → has_changed w file ≡ true → one_changer file (Some w) ≡ one_changer file (Some u) + (if has_changed u file then 0 else 1)
noted_counts file u w is = changed_counts file w is ∙ by_mark (has_changed u file)
  where
    by_mark : (b : Bool) → 1 ≡ (if b then 1 else 0) + (if b then 0 else 1)
    by_mark true = refl
    by_mark false = refl

forty_eight : (b : Bool) → 48 * (if b then 0 else 1) ≡ (if b then 0 else 48)
forty_eight true = refl
forty_eight false = refl

-- the rings of the file that was changed keep room for the settlements, and the unit's is one of them from now on
pub fits_changed : (side : Side) (h k : FileHead) (file : ℕ) (us : List (Option OpenUnit)) (p : ℕ) (u w : OpenUnit) (size : ℕ) → unit_at us p ≡ Some u → p < length us → has_changed w file ≡ true →
    ring_refused side (kept_span side h) file us (images_wanted (has_changed u file) size) ≡ None → SettlementsFit side h file us → is_kept side k ≡ is_kept side h → LongerBy size (span_of side h) (span_of side k) →
    SettlementsFit side k file (slice_set us p (Some w))
fits_changed side h k file us p u w size at below is none fit same longer kept =
    let room = ring_room side h file us (images_wanted (has_changed u file) size) none fit (sym same ∙ kept) in
    let set = changers_set file us p (Some w) below in
    let was = ap (one_changer file) at in
    let noted = noted_counts file u w is in
    let more = wanted_more (has_changed u file) size in
    let eight = forty_eight (has_changed u file) in
    omega (arith, room, set, was, noted, more, eight, longer.first, longer.end, longer.blocks)

-- and those of other files, which the unit changed or not as before
pub fits_beside : (side : Side) (h : FileHead) (file : ℕ) (us : List (Option OpenUnit)) (p : ℕ) (x : Option OpenUnit) → p < length us → one_changer file x ≡ one_changer file (unit_at us p) → SettlementsFit side h file us → SettlementsFit side h file (slice_set us p x)
fits_beside side h file us p x below same fit kept =
    let room = fit kept in
    let set = changers_set file us p x below in
    omega (arith, room, set, same)

-- a change of one file makes no difference to the others
pub other_file : (position file g : ℕ) (u : OpenUnit) → g ≢ file → one_changer g (Some (with_position position file u)) ≡ one_changer g (Some u)
other_file position file g u apart = ap (λ (b : Bool). if b then 1 else 0) (get_or-set_other u.files file g true false apart)

-- Behind a settlement.

-- a file that the unit changed has one settlement more, of so many bytes at the most, and that unit is no more
pub fits_fewer : (side : Side) (h k : FileHead) (file : ℕ) (us vs : List (Option OpenUnit)) (size : ℕ) → size ≤ 48 → changers file us ≡ changers file vs + 1 → SettlementsFit side h file us →
    is_kept side k ≡ is_kept side h → (is_kept side h ≡ true → LongerBy size (span_of side h) (span_of side k)) → SettlementsFit side k file vs
fits_fewer side h k file us vs size few counts fit same longer kept =
    let was = sym same ∙ kept in
    let room = fit was in
    let more = longer was in
    let first = more.first in
    let end = more.end in
    let blocks = more.blocks in
    omega (arith, room, few, counts, first, end, blocks)

-- one that it did not change has the same entries
pub fits_less : (side : Side) (h : FileHead) (file : ℕ) (us vs : List (Option OpenUnit)) → changers file vs ≤ changers file us → SettlementsFit side h file us → SettlementsFit side h file vs
fits_less side h file us vs less fit kept = let room = fit kept in omega (arith, room, less)

pub fits_unsettled : (side : Side) (h : FileHead) (file : ℕ) (us : List (Option OpenUnit)) (p : ℕ) → p < length us → SettlementsFit side h file us → SettlementsFit side h file (slice_set us p None)
fits_unsettled side h file us p below fit =
    let set = changers_set file us p None below in
    fits_less side h file us (slice_set us p None) (omega (arith, set)) fit

-- A unit that is begun changed nothing, and one that is prepared what it changed before.

pub fits_set : (side : Side) (h : FileHead) (file : ℕ) (us : List (Option OpenUnit)) (p : ℕ) (x : Option OpenUnit) → p < length us → one_changer file x ≤ one_changer file (unit_at us p) → SettlementsFit side h file us → SettlementsFit side h file (slice_set us p x)
fits_set side h file us p x below less fit kept =
    let room = fit kept in
    let set = changers_set file us p x below in
    omega (arith, room, set, less)

pub prepared_same : (file : ℕ) (u : OpenUnit) → one_changer file (Some (prepared_unit u)) ≡ one_changer file (Some u)
prepared_same file u = refl
