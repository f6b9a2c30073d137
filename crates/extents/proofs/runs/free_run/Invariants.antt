use Rattle.std.proofs.Common.{◌-◌, ◌<◌, ◌≤◌, ℕ}
use Rattle.extents.specs.Extents.{IsFreeRun}
use Rattle.extents.proofs.runs.free_run.Given as goal

abbrev pub invariant-loop-run : goal.invariant-loop-run
invariant-loop-run l = record {
  from : l.area.start ≤ l.at;
  none : (n : ℕ) → n < l.at → IsFreeRun l.area l.extents n l.blocks → ⊥;
}

abbrev pub decreases-loop-run : goal.decreases-loop-run
decreases-loop-run l = l.area.end - l.at
