use Rattle.std.proofs.Common.{◌-◌, length}
use Rattle.vms_base.specs.Outcomes.{reason_of}
use Rattle.tm_table.specs.Choices.{chosen_by}
use Rattle.tm_table.proofs.SweepLemmas.{Sweeping}
use Rattle.tm_table.proofs.table.Table.sweep.Given as goal

abbrev pub invariant-loop-b : goal.invariant-loop-b
invariant-loop-b l = Sweeping (reason_of l.reason) (chosen_by l.choice) l.fn.self l.self l.i

abbrev pub decreases-loop-b : goal.decreases-loop-b
decreases-loop-b l = length l.self.tm.table - l.i
