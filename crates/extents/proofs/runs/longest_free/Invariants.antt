use Rattle.std.proofs.Common.{◌-◌, ◌<◌, ◌≤◌, ℕ}
use Rattle.extents.specs.Extents.{IsFreeRun}
use Rattle.extents.proofs.runs.longest_free.Given as goal

abbrev pub invariant-loop-run : goal.invariant-loop-run
invariant-loop-run l = record {
  from : l.area.start ≤ l.at;
  found : 0 < l.most → (start : ℕ) × IsFreeRun l.area l.extents start l.most;
  longest : (start blocks : ℕ) → start < l.at → IsFreeRun l.area l.extents start blocks → blocks ≤ l.most;
  within : l.most ≤ l.area.end;
}

abbrev pub decreases-loop-run : goal.decreases-loop-run
decreases-loop-run l = l.area.end - l.at
