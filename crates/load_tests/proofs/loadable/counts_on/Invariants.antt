use Rattle.std.proofs.Common.{◌+◌, map, drop}
use Rattle.load_pages.specs.load_laws.Loads.{AreNumbered}
use Rattle.load_pages.specs.Given.{keyed}
use Rattle.load_tests.proofs.loadable.counts_on.Given as goal

-- where the records from one on have the numbers from its own on, all have those from 1 on
abbrev pub invariant-loop-i : goal.invariant-loop-i
invariant-loop-i l = AreNumbered (l.i + 1) (drop l.i (map keyed l.records)) → AreNumbered 1 (map keyed l.records)
