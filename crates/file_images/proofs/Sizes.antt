-- The sizes of entries of images on the disk.
use Rattle.std.proofs.Common.{◌≡◌, ℕ, ◌<◌, List, length, Option, Some, None, refl, arith}
use Rattle.vms_model.specs.Ids.{Id}
use Rattle.vms_model.specs.Keys.{Key, Number, Text, End}
use Rattle.unit_entries.specs.records_model.Slots.{size_of}
use Rattle.unit_entries.specs.unit_laws.Journal.{key_size}
use Rattle.unit_entries.specs.journal_model.Entries.{IsEntry, spelling}
use Rattle.unit_entries.proofs.journal_format.Decoding.{total_is}
use Rattle.unit_entries.specs.recovery_model.Journal.{Entry, Changed, Settled, entry_length}
use Rattle.unit_entries.specs.recovery_model.File.{Placed}
use Rattle.file_images.specs.Images.{key_bytes, image_bytes, disk_entry, entry_by}

key_long : (key : Key) → length (key_bytes key) ≡ key_size key
key_long (Number n) = refl
key_long (Text bytes) = refl
key_long End = refl

image_long : (image : Option (List ℕ)) → length (image_bytes image) ≡ size_of image
image_long None = refl
image_long (Some bytes) = refl

pub long_by : (f : ℕ) (tid : Id) (e : Entry) → IsEntry (entry_by f tid e) → length (spelling (entry_by f tid e)) ≡ entry_length e
long_by f tid (Changed s k v) is = let whole = total_is (entry_by f tid (Changed s k v)) is in omega (arith, whole, key_long k, image_long v)
long_by f tid (Settled s outcome t) is = total_is (entry_by f tid (Settled s outcome t)) is

pub entry_long : (f : ℕ) (x : Placed) → IsEntry (disk_entry f x) → length (spelling (disk_entry f x)) ≡ entry_length x.entry
entry_long f x is = long_by f x.tid x.entry is

pub entry_counts : (x : Placed) → 0 < entry_length x.entry
entry_counts x = by_entry x.entry
  where
    by_entry : (e : Entry) → 0 < entry_length e
    by_entry (Changed s k v) = omega arith
    by_entry (Settled s outcome t) = omega arith
