-- The change of a record that an entry tells.
use Rattle.std.specs.Prelude.{ℕ, List, Bool, Option, Some, None, if◌then◌else◌}
use Rattle.vms_model.specs.Keys.{Key}
use Rattle.file_base.specs.declared.head.Organization.{Organization}
use Rattle.journal_format.specs.declared.head.EntryKind.{EntryKind}
use Rattle.journal_format.specs.declared.head.EntryKind.TheVariants.{Change, Prepared, Settled}
use Rattle.journal_format.specs.declared.head.EntryHead.{EntryHead}
use Rattle.unit_entries.specs.Keys.{key_in}

-- the key that is spelled so, where there is one
abbrev pub key_by : Organization → Option (List ℕ) → Option Key
key_by o (Some bytes) = key_in o bytes
key_by o None = None

abbrev pub key_of_kind : EntryKind → Organization → Option (List ℕ) → Option Key
key_of_kind Change o bytes = key_by o bytes
key_of_kind Prepared o bytes = None
key_of_kind Settled o bytes = None

-- the key that a Change is of, in a file that keeps its records so
abbrev pub changed_key : Organization → EntryHead → Option Key
changed_key o h = key_of_kind h.kind o h.key

abbrev pub image_of_kind : EntryKind → (present : Bool) → (image : List ℕ) → Option (List ℕ)
image_of_kind Change present image = if present then Some image else None
image_of_kind Prepared present image = None
image_of_kind Settled present image = None

-- and its image
abbrev pub changed_image : EntryHead → (image : List ℕ) → Option (List ℕ)
changed_image h image = image_of_kind h.kind h.present image
