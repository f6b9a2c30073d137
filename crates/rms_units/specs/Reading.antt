-- What a read finds, by the file's head, the records that stand and the keys that are held.
use Rattle.std.specs.Prelude.{◌≡◌, ◌⊎◌, ℕ, List, [], ◌∷◌, Option, Some, None, option_map}
use Rattle.change_set.specs.Maps.{Map, EndsAfter, IsNext}
use Rattle.record_locks.specs.Locks.{Lock, holder}
use Rattle.vms_base.specs.Keys.{key_of}
use Rattle.vms_model.specs.Ids.{Id}
use Rattle.vms_model.specs.Keys.{Key}
use Rattle.record_operations.specs.declared.ops.ReadOp.{ReadOp}
use Rattle.record_operations.specs.declared.ops.ReadOp.TheVariants.{Get, Next}
use Rattle.record_operations.specs.Causes.{Cause, RecordNotFound, EndOfFile, first_cause}
use Rattle.key_changes.specs.Changing.{held_against}

-- the keys that a read asks for before a record is read
abbrev pub read_keys : ReadOp → List Key
read_keys (Get file key) = key_of key ∷ []
read_keys (Next file after) = []

-- a record that is asked for is not there
abbrev pub missing : Option (List ℕ) → Option Cause
missing None = Some RecordNotFound
missing (Some bytes) = None

-- a read for a branch, or for none, finds this record: that of its key, or the next one; and no other branch holds it
abbrev pub Finds : ReadOp → (asking : Option Id) → List Lock → (key : Key) → (bytes : List ℕ) → Map → Type 0
Finds (Get file asked) asking locks key bytes m = (key ≡ key_of asked) × (m key ≡ Some bytes) × (held_against asking (holder locks file key) ≡ None)
Finds (Next file after) asking locks key bytes m = IsNext m (option_map key_of after) key bytes × (held_against asking (holder locks file key) ≡ None)

-- there is no next record, or another branch holds it
abbrev pub NextIsNot : (after : Option Key) → (asking : Option Id) → (file : ℕ) → List Lock → Cause → Map → Type 0
NextIsNot after asking file locks cause m =
    (EndsAfter m after × (cause ≡ EndOfFile)) ⊎ ((key : Key) × (bytes : List ℕ) × IsNext m after key bytes × (held_against asking (holder locks file key) ≡ Some cause))

-- or it finds none, or one that another branch holds: of the record of a key that is tested first, of the next one last
abbrev pub FindsNone : ReadOp → (asking : Option Id) → List Lock → Cause → Map → Type 0
FindsNone (Get file asked) asking locks cause m = first_cause (held_against asking (holder locks file (key_of asked))) (missing (m (key_of asked))) ≡ Some cause
FindsNone (Next file after) asking locks cause m = NextIsNot (option_map key_of after) asking file locks cause m
