use Rattle.std.proofs.Common.{map, drop}
use Rattle.load_pages.specs.load_laws.Loads.{AllSuitBy}
use Rattle.load_pages.specs.Given.{keyed}
use Rattle.load_tests.proofs.loadable.all_suit.Given as goal

-- where the records from one on suit the file, all do
abbrev pub invariant-loop-i : goal.invariant-loop-i
invariant-loop-i l = AllSuitBy l.head.organization l.head (drop l.i (map keyed l.records)) → AllSuitBy l.head.organization l.head (map keyed l.records)
