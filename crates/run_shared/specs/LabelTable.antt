-- The labels of a run as the table has them.
use Rattle.std.specs.Prelude.{◌≡◌, ℕ, ◌+◌, ◌≤◌, List, [], ◌∷◌, ◌++◌, None, length}
use Rattle.std.specs.Option.{option_map}
use Rattle.std.specs.Str.{bytes_eq}
use Rattle.indexmap.specs.IndexMap.{IndexMap, get, spare}
use Rattle.vms_model.specs.Limits.{label_limit}
use Rattle.run_model.specs.World.{Label, find_label}
use Rattle.vms_base.specs.Ids.{bid_of, serial_of, tid_of}
use Rattle.run_shared.specs.declared.labels.LabelEntry.{LabelEntry}

-- a label of the run
abbrev pub label_of : List ℕ → LabelEntry → Label
label_of name entry = record { name = name; node = entry.node; tid = tid_of entry.tid; bid = option_map bid_of entry.bid; serial = option_map serial_of entry.serial }

-- the labels of entries in the order of their making, the newest first
abbrev pub newest_first : List (List ℕ × LabelEntry) → List Label
newest_first [] = []
newest_first (e ∷ es) = newest_first es ++ label_of e.0 e.1 ∷ []

-- no two entries have one name
abbrev pub AreApart : List (List ℕ × LabelEntry) → Type 0
AreApart [] = Unit {0}
AreApart (e ∷ es) = (find_label e.0 (newest_first es) ≡ None) × AreApart es

-- there is room for all labels that a run may make, no two of them have one name, and a look-up finds a name's label
pub record IsLabelTable {S : Type 0} (table : IndexMap (List ℕ) LabelEntry S) : Type 0 where
  pub room : label_limit ≤ length table.entries + spare table
  pub apart : AreApart table.entries
  pub found : (name : List ℕ) → option_map (label_of name) (get bytes_eq table name) ≡ find_label name (newest_first table.entries)
