-- Which branches are aborted when the clock is set, when a link fails, or before a settling.
use Rattle.std.specs.Prelude.{◌+◌, ◌*◌, ◌≤◌, ◌&&◌, Bool, true, false, List, [], ◌∷◌, length, if◌then◌else◌}
use Rattle.commit_protocol.specs.Table.{Branch, State, Prepared, is_first}
use Rattle.commit_protocol.specs.Rows.{is_due, is_cut_off, is_under, is_other}
use Rattle.tm_types.specs.Branches.{moment_of}
use Rattle.tm_table.specs.declared.sweeps.Choice.{Choice}
use Rattle.tm_table.specs.declared.sweeps.Choice.TheVariants as choice
use Rattle.tm_table.specs.Doing.{Doing}

abbrev pub chosen_by : Choice → Branch → Bool
chosen_by (choice.Due now) b = is_due (moment_of now) b
chosen_by (choice.CutOff other) b = is_cut_off other b
chosen_by (choice.Under other) b = is_under other b
chosen_by choice.First b = is_first b
chosen_by choice.Other b = is_other b

abbrev pub may_abort : State → Bool
may_abort Prepared = false
may_abort _ = true

abbrev pub taken : (Branch → Bool) → Branch → Bool
taken chosen b = chosen b && may_abort b.state

-- the branches that a sweep leaves
abbrev pub swept : (Branch → Bool) → List Branch → List Branch
swept chosen [] = []
swept chosen (b ∷ bs) = if taken chosen b then swept chosen bs else b ∷ swept chosen bs

-- 32 effects more for each branch have room
abbrev pub HasRoomForAll : Doing → Type 0
HasRoomForAll s = length s.effects + 32 * length s.tm.table ≤ 2048
