use Rattle.std.proofs.Common.{◌<◌, ℕ}
use Rattle.extents.specs.Extents.{FitsAt}
use Rattle.extents.proofs.fits.first_misfit.Given as goal

abbrev pub invariant-loop-i : goal.invariant-loop-i
invariant-loop-i l = (k : ℕ) → k < l.i → FitsAt l.area l.extents k
