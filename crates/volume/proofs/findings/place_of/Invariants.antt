use Rattle.std.proofs.Common.{◌≡◌, ◌<◌, ℕ, true, get_or}
use Rattle.volume.specs.Findings.{is_before}
use Rattle.volume.proofs.findings.place_of.Given as goal

abbrev pub invariant-loop-i : goal.invariant-loop-i
invariant-loop-i l = (k : ℕ) → k < l.i → is_before (get_or l.found k l.finding) l.finding ≡ true
