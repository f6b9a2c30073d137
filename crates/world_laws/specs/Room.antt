-- What is left to a branch that no quota refuses: its changes may be entered.
use Rattle.std.specs.Prelude.{◌≡◌, ◌≤◌, ◌<◌, ℕ, ◌+◌, ◌*◌, List, true, false, None, length}
use Rattle.vms_model.specs.Ids.{Id}
use Rattle.vms_model.specs.Limits.{branch_limit, change_limit}
use Rattle.run_model.specs.records_model.Records.{Change}
use Rattle.run_model.specs.unit_laws.Units.{has_changes}
use Rattle.run_model.specs.unit_laws.Journal.{entries_for, entries_size, find_unit, owed, units_in}
use Rattle.run_model.specs.unit_laws.JournalLaws.{is_unit}
use Rattle.run_model.specs.commit_protocol.Table.{Branch}
use Rattle.run_model.specs.World.{Node, changes_made, serials_of}
use Rattle.run_model.specs.Answers.{journal_full, more_changes, owed_first}
use Rattle.run_model.specs.commit_protocol.World.{In}
use Rattle.world_laws.specs.Ordered.{IsJournalInOrder}

-- With these changes of a file a branch makes no more than it may, and the journal has room for their entries and for what the branch is owed.
pub record HasRoom (n : Node) (b : Branch) (file : List ℕ) (cs : List Change) : Type 0 where
  pub changes : changes_made b.key.serial n.durable.units + length cs ≤ change_limit
  pub fits : (entries_size n.durable.units.entries + owed (units_in n.durable.units.entries)) + (entries_size (entries_for b.key.tid b.key.serial file cs) + owed_first (find_unit b.key.serial (units_in n.durable.units.entries))) ≤ 512 * n.durable.journal

-- So it is where neither the count of changes nor the journal's bytes refuse them.
abbrev pub ChangesHaveRoom : Type 0
ChangesHaveRoom = (n : Node) (b : Branch) (file : List ℕ) (cs : List Change) → IsJournalInOrder n.durable → has_changes cs ≡ true → more_changes n cs b ≡ None → journal_full n file cs b ≡ None → HasRoom n b file cs

-- While each unit is an unsettled branch, and there are no more of these than may be, one of them that is no unit yet may become one.
abbrev pub UnitsHaveRoom : Type 0
UnitsHaveRoom = (n : Node) (serial : Id) → ((x : Id) → is_unit x n.durable.units ≡ true → In x (serials_of n.volatile.branches)) → length n.volatile.branches ≤ branch_limit → In serial (serials_of n.volatile.branches) →
    is_unit serial n.durable.units ≡ false → length (units_in n.durable.units.entries) < branch_limit
