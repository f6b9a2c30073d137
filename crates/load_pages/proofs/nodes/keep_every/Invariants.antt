use Rattle.std.proofs.Common.{◌≤◌, ◌-◌, length}
use Rattle.load_pages.proofs.KeyLemmas.{EveryTo}
use Rattle.load_pages.proofs.nodes.keep_every.Given as goal

abbrev pub invariant-loop-at : goal.invariant-loop-at
invariant-loop-at l = record {
  every_to : EveryTo l.step l.fn.keys l.keys l.kept l.at;
  within : l.at ≤ length l.fn.keys;
}

abbrev pub decreases-loop-at : goal.decreases-loop-at
decreases-loop-at l = length l.keys - l.at
