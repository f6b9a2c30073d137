-- Records as they are loaded into a file.
use Rattle.std.specs.Prelude.{◌≡◌, ◌⊎◌, ◌++◌, ℕ, suc, true, List, [], ◌∷◌, Some, length}
use Rattle.std.specs.FinMap.{entries}
use Rattle.std.specs.FinMap.Entries.{is_sorted}
use Rattle.file_base.specs.declared.head.FileHead.{FileHead}
use Rattle.file_base.specs.declared.head.Organization.{Organization}
use Rattle.file_base.specs.declared.head.Organization.TheVariants.{Sequential, Relative, Indexed}
use Rattle.load_pages.specs.load_laws.Loads.{AllSuitBy, NumberedBy}
use Rattle.load_pages.specs.load_laws.Records.{Keyed}
use Rattle.record_files.specs.Any.{Suits}
use Rattle.records_model.specs.Records.{Records, key_cmp}
use Rattle.vms_model.specs.Keys.{Key, Number}
use Rattle.file_recoveries.specs.Suiting.{MayHave}

-- records at the positions behind this one, in order
abbrev pub at_positions : ℕ → List Keyed → List Keyed
at_positions n [] = []
at_positions n (e ∷ es) = (Number (suc n), e.1) ∷ at_positions (suc n) es

-- records as they are loaded behind so many: those of a sequential file stand at the next positions, others under their keys
abbrev pub loaded_behind : Organization → ℕ → List Keyed → List Keyed
loaded_behind Sequential n es = at_positions n es
loaded_behind Relative n es = es
loaded_behind Indexed n es = es

-- the key of a record that is loaded behind so many
abbrev pub key_behind : Organization → ℕ → Key → Key
key_behind Sequential n k = Number (suc n)
key_behind Relative n k = k
key_behind Indexed n k = k

-- the records of a map, as they are loaded into a file in the order of their keys
abbrev pub as_loaded : FileHead → Records → List Keyed
as_loaded h m = loaded_behind h.organization 0 (entries m)

-- behind these records one more stands at the key that it gets, or it may not be the file's and is left out
abbrev pub IsKept : FileHead → Keyed → (old new : List Keyed) → Type 0
IsKept h e old new = (Suits h (key_behind h.organization (length old) e.0) (Some e.1) × (new ≡ old ++ (key_behind h.organization (length old) e.0, e.1) ∷ [])) ⊎ ((Suits h (key_behind h.organization (length old) e.0) (Some e.1) → ⊥) × (new ≡ old))

-- records ascend, may be the file's, and in a sequential file are numbered from 1 on
pub record AreKept (h : FileHead) (es : List Keyed) : Type 0 where
  pub ordered : is_sorted key_cmp es ≡ true
  pub suit : AllSuitBy h.organization h es
  pub numbered : NumberedBy h.organization es

-- all records of a map are kept, where each may be the file's
abbrev pub KeepsAll : FileHead → Records → List Keyed → Type 0
KeepsAll h m es = MayHave h m → es ≡ as_loaded h m
