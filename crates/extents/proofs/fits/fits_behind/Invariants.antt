use Rattle.std.proofs.Common.{◌≡◌, ℕ, true, false, take}
use Rattle.extents.specs.Extents.{covers, is_used}
use Rattle.extents.proofs.fits.fits_behind.Given as goal

abbrev pub invariant-loop-other : goal.invariant-loop-other
invariant-loop-other l = (n : ℕ) → covers l.e n ≡ true → is_used (take l.other-index l.before) n ≡ false
