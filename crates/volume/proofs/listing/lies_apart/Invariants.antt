use Rattle.std.proofs.Common.{◌*◌, ◌<◌, ◌≤◌, ℕ}
use Rattle.extents.specs.Extents.{FitsAt}
use Rattle.volume.proofs.listing.lies_apart.Given as goal

abbrev pub invariant-loop-i : goal.invariant-loop-i
invariant-loop-i l = (k : ℕ) → 4 * l.f ≤ k → k < l.i → FitsAt l.area l.extents k
