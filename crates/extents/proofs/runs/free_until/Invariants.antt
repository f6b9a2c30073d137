use Rattle.std.proofs.Common.{◌≡◌, ◌<◌, ◌≤◌, ℕ, true, false, take}
use Rattle.extents.specs.Extents.{is_used}
use Rattle.extents.proofs.runs.free_until.Given as goal

abbrev pub invariant-loop-e : goal.invariant-loop-e
invariant-loop-e l = record {
  behind : l.block < l.until;
  within : l.until ≤ l.end;
  free : (b : ℕ) → l.block ≤ b → b < l.until → is_used (take l.e-index l.extents) b ≡ false;
  stops : l.until < l.end → is_used l.extents l.until ≡ true;
}
