-- The causes that refuse a change of one key, in their order.
use Rattle.std.proofs.Common.{◌≡◌, ℕ, List, [], Bool, false, Option, Some, None, length, refl, sym, ap, subst, ◌∙◌}
use Rattle.std.specs.Prelude.{unwrap_or}
use Rattle.file_base.specs.declared.head.FileHead.{FileHead}
use Rattle.volume_files.specs.record_files.Any.{map_of}
use Rattle.unit_table.specs.Units.{OpenUnit, has_changed}
use Rattle.vms_model.specs.Keys.{Key}
use Rattle.volume.specs.State.{VolumeState}
use Rattle.key_changes.specs.declared.asked.KeyChange.{KeyChange}
use Rattle.image_room.specs.Room.{images_refused}
use Rattle.rms_units.specs.Calls.{change_refused_after_reading, direct_refused_after_reading}
use Rattle.record_operations.specs.Causes.{Cause, first_cause}
use Rattle.key_changes.specs.Changing.{after_change, before_change, changes_refused, file_refused, found_refused, keys_asked, keys_refused, need_of}
use Rattle.rms_units.specs.State.{UnitsState}
use Rattle.unit_journal.specs.Room.{entry_size, journal_refused}
use Rattle.rms_units.proofs.Refusing.{first_is, second_is}

together : (a b c : Option Cause) → first_cause a (first_cause b c) ≡ first_cause (first_cause a b) c
together None b c = refl
together (Some x) b c = refl

module _ (u : OpenUnit) (file : ℕ) (h : FileHead) (how : KeyChange) (key : Key) (value : List ℕ) (s : UnitsState) (v : VolumeState) (a : List (List ℕ)) where
  abbrev found : Option Cause
  found = found_refused h how key (map_of h a key) value

  abbrev quotas : Option Cause
  quotas = first_cause (changes_refused 1 u) (keys_refused file (keys_asked h how key) s.locks)

  abbrev buckets : Option Cause
  buckets = file_refused h (need_of h a how (length value))

  abbrev bytes : Option (List ℕ) → Option Cause
  bytes before = first_cause (journal_refused v.catalog.ru s.units.places u (entry_size key before)) (images_refused h file s.units.places (has_changed u file) (entry_size key (after_change how value)) (entry_size key before))

  -- the first that applies
  late : change_refused_after_reading u file h how key value s v a ≡ first_cause found (first_cause quotas (first_cause buckets (bytes (before_change how (unwrap_or (map_of h a key) [])))))
  late = ap (first_cause found) (together (changes_refused 1 u) (keys_refused file (keys_asked h how key) s.locks) (first_cause buckets (bytes (before_change how (unwrap_or (map_of h a key) [])))))

  pub late_found : (cause : Cause) → found ≡ Some cause → change_refused_after_reading u file h how key value s v a ≡ Some cause
  late_found cause is = late ∙ first_is found _ cause is

  pub late_quotas : (cause : Cause) → found ≡ None → quotas ≡ Some cause → change_refused_after_reading u file h how key value s v a ≡ Some cause
  late_quotas cause none is = late ∙ second_is found _ (Some cause) none (first_is quotas _ cause is)

  pub late_buckets : (cause : Cause) → found ≡ None → quotas ≡ None → buckets ≡ Some cause → change_refused_after_reading u file h how key value s v a ≡ Some cause
  late_buckets cause none few is = late ∙ second_is found _ (Some cause) none (second_is quotas _ (Some cause) few (first_is buckets _ cause is))

  -- and the last, where the key had what was found
  pub late_bytes : (before : Option (List ℕ)) (last : Option Cause) → found ≡ None → quotas ≡ None → buckets ≡ None → before_change how (unwrap_or (map_of h a key) []) ≡ before → bytes before ≡ last → change_refused_after_reading u file h how key value s v a ≡ last
  late_bytes before last none few roomy had is =
      late ∙ second_is found _ last none (second_is quotas _ last few (second_is buckets _ last roomy (ap bytes had ∙ is)))

  pub late_journal : (before : Option (List ℕ)) (cause : Cause) → found ≡ None → quotas ≡ None → buckets ≡ None → before_change how (unwrap_or (map_of h a key) []) ≡ before → journal_refused v.catalog.ru s.units.places u (entry_size key before) ≡ Some cause →
      change_refused_after_reading u file h how key value s v a ≡ Some cause
  late_journal before cause none few roomy had is = late_bytes before (Some cause) none few roomy had (first_is _ _ cause is)

  pub late_images : (before : Option (List ℕ)) (last : Option Cause) → found ≡ None → quotas ≡ None → buckets ≡ None → before_change how (unwrap_or (map_of h a key) []) ≡ before → journal_refused v.catalog.ru s.units.places u (entry_size key before) ≡ None →
      images_refused h file s.units.places (has_changed u file) (entry_size key (after_change how value)) (entry_size key before) ≡ last → change_refused_after_reading u file h how key value s v a ≡ last
  late_images before last none few roomy had fits is = late_bytes before last none few roomy had (second_is _ _ last fits is)

-- So of a change without a unit.
module _ (file : ℕ) (h : FileHead) (how : KeyChange) (key : Key) (value : List ℕ) (s : UnitsState) (a : List (List ℕ)) where
  abbrev found_alone : Option Cause
  found_alone = found_refused h how key (map_of h a key) value

  abbrev buckets_alone : Option Cause
  buckets_alone = file_refused h (need_of h a how (length value))

  pub alone_found : (cause : Cause) → found_alone ≡ Some cause → direct_refused_after_reading file h how key value s a ≡ Some cause
  alone_found cause is = first_is found_alone _ cause is

  pub alone_buckets : (cause : Cause) → found_alone ≡ None → buckets_alone ≡ Some cause → direct_refused_after_reading file h how key value s a ≡ Some cause
  alone_buckets cause none is = second_is found_alone _ (Some cause) none (first_is buckets_alone _ cause is)

  pub alone_images : (before : Option (List ℕ)) (last : Option Cause) → found_alone ≡ None → buckets_alone ≡ None → before_change how (unwrap_or (map_of h a key) []) ≡ before →
      images_refused h file s.units.places false (entry_size key (after_change how value)) (entry_size key before) ≡ last → direct_refused_after_reading file h how key value s a ≡ last
  alone_images before last none roomy had is =
      second_is found_alone _ last none (second_is buckets_alone _ last roomy (ap (λ (b : Option (List ℕ)). images_refused h file s.units.places false (entry_size key (after_change how value)) (entry_size key b)) had ∙ is))
