-- The room that the journals have for the entries of a truncation.
use Rattle.std.proofs.Common.{◌≡◌, ℕ, ◌+◌, ◌-◌, ◌*◌, ◌<◌, ◌≤◌, ◌^◌, Bool, true, false, Option, Some, None, sym, ap, subst, ◌∙◌, arith}
use Rattle.change_set.specs.Maps.{Map, empty_map}
use Rattle.file_base.specs.declared.head.FileHead.{FileHead}
use Rattle.unit_journal.specs.journal_store.Rings.{IsRing}
use Rattle.unit_journal.specs.Room.{journal_refused}
use Rattle.unit_table.specs.Units.{OpenUnit, has_changed}
use Rattle.volume.specs.Catalogs.{head_at}
use Rattle.volume.specs.State.{VolumeState}
use Rattle.image_appends.specs.Images.{HasRoom}
use Rattle.image_room.specs.Room.{images_refused}
use Rattle.key_changes.specs.unit_cuts.Moving.{ImagesFit}
use Rattle.key_changes.specs.unit_cuts.Truncating.{entry_sizes, keys_cut}
use Rattle.rms_units.specs.State.{IsEarly, IsInOrder, UnitsState}
use Rattle.rms_units.specs.Truncating.{cut_refused_after_reading, direct_cut_refused_after_reading}
use Rattle.rms_units.proofs.ImageSound.{rooms_to_change, rooms_to_settle}
use Rattle.rms_units.proofs.OrderLemmas.{ring_behind, ring_of}
use Rattle.record_operations.specs.Causes.{Cause}
use Rattle.rms_units.proofs.Refusing.{first_is, second_is}
use Rattle.rms_units.proofs.RoomLemmas.{room_for}

-- the journal of recovery units
pub had_fits : (s : UnitsState) (v : VolumeState) (u : OpenUnit) (size : ℕ) → IsInOrder s v → IsEarly v → journal_refused v.catalog.ru s.units.places u size ≡ None → HasRoom size v.catalog.ru v.store.disk
had_fits s v u size o early none = record { ring = ring_of s v o early; behind = ring_behind s v o; room = let r = room_for v.catalog.ru s.units.places u size o.room none in omega (arith, r) }

module _ (s : UnitsState) (v : VolumeState) (file : ℕ) (h : FileHead) (o : IsInOrder s v) (early : IsEarly v) (there : head_at v.catalog.heads file ≡ Some h) where
  -- the journals of images of the file
  pub images_fit : (b : Bool) (from size : ℕ) → size ≤ 8272 * 1024 → entry_sizes empty_map (keys_cut h from) ≤ 8272 * 1024 → images_refused h file s.units.places b (entry_sizes empty_map (keys_cut h from)) size ≡ None → ImagesFit h (entry_sizes empty_map (keys_cut h from)) size v.store.disk
  images_fit b from size few few_too none =
      let rooms = rooms_to_change s v file h o there b (entry_sizes empty_map (keys_cut h from)) size none in
      let low = early.images file h there in
      record {
        afters = λ kept. record { room = rooms.0 h there kept; low = omega (arith, low.0, few_too) };
        befores = λ kept. record { room = rooms.1 h there kept; low = omega (arith, low.1, few) };
      }

  -- with a settlement
  pub images_fit_too : (from size : ℕ) → size ≤ 8272 * 1024 → entry_sizes empty_map (keys_cut h from) ≤ 8272 * 1024 → images_refused h file s.units.places false (entry_sizes empty_map (keys_cut h from)) size ≡ None →
      ImagesFit h (entry_sizes empty_map (keys_cut h from) + 48) (size + 48) v.store.disk
  images_fit_too from size few few_too none =
      let rooms = rooms_to_settle s v file h o there (entry_sizes empty_map (keys_cut h from)) size none in
      let low = early.images file h there in
      record {
        afters = λ kept. record { room = rooms.0 h there kept; low = omega (arith, low.0, few_too) };
        befores = λ kept. record { room = rooms.1 h there kept; low = omega (arith, low.1, few) };
      }

-- nothing refuses it for want of room
pub late_none : (u : OpenUnit) (file : ℕ) (h : FileHead) (from : ℕ) (s : UnitsState) (v : VolumeState) (m : Map) (size : ℕ) → size ≡ entry_sizes m (keys_cut h from) → journal_refused v.catalog.ru s.units.places u size ≡ None →
    images_refused h file s.units.places (has_changed u file) (entry_sizes empty_map (keys_cut h from)) size ≡ None → cut_refused_after_reading u file h from s v m ≡ None
late_none u file h from s v m size is fits free =
    second_is _ _ None (ap (journal_refused v.catalog.ru s.units.places u) (sym is) ∙ fits) (ap (images_refused h file s.units.places (has_changed u file) (entry_sizes empty_map (keys_cut h from))) (sym is) ∙ free)

pub direct_late_none : (file : ℕ) (h : FileHead) (from : ℕ) (s : UnitsState) (m : Map) (size : ℕ) → size ≡ entry_sizes m (keys_cut h from) → images_refused h file s.units.places false (entry_sizes empty_map (keys_cut h from)) size ≡ None → direct_cut_refused_after_reading file h from s m ≡ None
direct_late_none file h from s m size is free = ap (images_refused h file s.units.places false (entry_sizes empty_map (keys_cut h from))) (sym is) ∙ free

-- or this does
pub late_journal : (u : OpenUnit) (file : ℕ) (h : FileHead) (from : ℕ) (s : UnitsState) (v : VolumeState) (m : Map) (size : ℕ) (cause : Cause) → size ≡ entry_sizes m (keys_cut h from) → journal_refused v.catalog.ru s.units.places u size ≡ Some cause → cut_refused_after_reading u file h from s v m ≡ Some cause
late_journal u file h from s v m size cause is full = first_is _ _ cause (ap (journal_refused v.catalog.ru s.units.places u) (sym is) ∙ full)

pub late_images : (u : OpenUnit) (file : ℕ) (h : FileHead) (from : ℕ) (s : UnitsState) (v : VolumeState) (m : Map) (size : ℕ) (cause : Cause) → size ≡ entry_sizes m (keys_cut h from) → journal_refused v.catalog.ru s.units.places u size ≡ None →
    images_refused h file s.units.places (has_changed u file) (entry_sizes empty_map (keys_cut h from)) size ≡ Some cause → cut_refused_after_reading u file h from s v m ≡ Some cause
late_images u file h from s v m size cause is fits full =
    second_is _ _ (Some cause) (ap (journal_refused v.catalog.ru s.units.places u) (sym is) ∙ fits) (ap (images_refused h file s.units.places (has_changed u file) (entry_sizes empty_map (keys_cut h from))) (sym is) ∙ full)

pub direct_late_images : (file : ℕ) (h : FileHead) (from : ℕ) (s : UnitsState) (m : Map) (size : ℕ) (cause : Cause) → size ≡ entry_sizes m (keys_cut h from) → images_refused h file s.units.places false (entry_sizes empty_map (keys_cut h from)) size ≡ Some cause →
    direct_cut_refused_after_reading file h from s m ≡ Some cause
direct_late_images file h from s m size cause is full = ap (images_refused h file s.units.places false (entry_sizes empty_map (keys_cut h from))) (sym is) ∙ full
