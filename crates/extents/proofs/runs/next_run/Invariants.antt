use Rattle.std.proofs.Common.{◌≡◌, ◌-◌, ◌<◌, ◌≤◌, ℕ, true}
use Rattle.extents.specs.Extents.{is_used}
use Rattle.extents.proofs.runs.next_run.Given as goal

abbrev pub invariant-loop-block : goal.invariant-loop-block
invariant-loop-block l = record {
  from : l.at ≤ l.block;
  used : (b : ℕ) → l.at ≤ b → b < l.block → is_used l.extents b ≡ true;
}

abbrev pub decreases-loop-block : goal.decreases-loop-block
decreases-loop-block l = l.end - l.block
