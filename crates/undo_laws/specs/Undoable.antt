-- A branch that left changes in a volume can be undone there.
use Rattle.std.specs.Prelude.{◌≡◌, ℕ, List, [], Some, map, if◌then◌else◌}
use Rattle.vms_model.specs.Ids.{Id}
use Rattle.journal_model.specs.Entries.{Entry}
use Rattle.unit_laws.specs.JournalLaws.{is_unit}
use Rattle.world_laws.specs.run_model.World.{Node}
use Rattle.volume.specs.declared.catalog.Catalog.{Catalog}
use Rattle.volume.specs.State.{VolumeState, Holds}
use Rattle.settlement_laws.specs.volume_model.Volumes.{LeavesVolume}
use Rattle.unit_undo.specs.unit_entries.Reading.{changes_of, placed, positions_of}
use Rattle.unit_undo.specs.Way.{IsUndoable}

-- where the changes of a branch begin in the journal of a volume, the oldest first
abbrev pub entered_at : Id → Catalog → List Entry → List ℕ
entered_at serial k es = positions_of serial (placed k.ru.first es)

-- and their entries
abbrev pub entered_by : Id → Catalog → List Entry → List Entry
entered_by serial k es = map (λ (e : ℕ × Entry). e.1) (changes_of serial (placed k.ru.first es))

-- those of a branch that is a unit of the journal, and none of one that is not
abbrev pub positions_for : Node → Id → Catalog → List Entry → List ℕ
positions_for n serial k es = if is_unit serial n.durable.units then entered_at serial k es else []

abbrev pub entries_for : Node → Id → Catalog → List Entry → List Entry
entries_for n serial k es = if is_unit serial n.durable.units then entered_by serial k es else []

-- a branch can be undone from its entries in the journal
abbrev pub UnitsAreUndoable : Type 0
UnitsAreUndoable = (a : List (List ℕ)) (v : VolumeState) (n : Node) (serial : Id) (left : LeavesVolume a v.catalog n) → v.store.current ≡ Some a → Holds v →
    IsUndoable serial (positions_for n serial v.catalog left.journal.entries) v a n.durable.directory (entries_for n serial v.catalog left.journal.entries)
