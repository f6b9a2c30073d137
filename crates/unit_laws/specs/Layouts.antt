-- What becomes of the layout of an indexed file where a branch that changed it is undone.
use Rattle.std.specs.Prelude.{List, map, if◌then◌else◌}
use Rattle.tree_model.specs.vms_model.Keys.{Text}
use Rattle.tree_model.specs.records_model.Records.{Change}
use Rattle.tree_model.specs.records_model.Slots.{Slot, with_value}
use Rattle.tree_model.specs.Layouts.{Leaf, Layout}
use Rattle.tree_model.specs.records_model.History.{changes_key}
use Rattle.unit_laws.specs.Units.{earliest_before}

-- a slot after the branch that made these changes was undone: where its key is one of theirs, it has again the key's earliest before image
abbrev pub slot_restored : List Change → Slot → Slot
slot_restored cs s = if changes_key (Text s.key) cs then with_value (earliest_before cs (Text s.key)) s else s

-- The slots of a leaf each so. Which key is set back first makes no difference, nor does one that was set back before.
abbrev pub leaf_restored : List Change → Leaf → Leaf
leaf_restored cs b = record b { slots = map (slot_restored cs) b.slots }

-- and the layout of a file, whose leaves keep their lowest keys, and its index stays
abbrev pub layout_restored : List Change → Layout → Layout
layout_restored cs l = record l { leaves = map (leaf_restored cs) l.leaves }
