use Rattle.std.proofs.Common.{◌≡◌, true, map, drop}
use Rattle.std.specs.FinMap.Entries.{is_sorted}
use Rattle.records_model.specs.Records.{key_cmp}
use Rattle.load_pages.specs.Given.{keyed}
use Rattle.load_tests.proofs.loadable.ascends.Given as goal

-- where the records from one on ascend, all do
abbrev pub invariant-loop-i : goal.invariant-loop-i
invariant-loop-i l = is_sorted key_cmp (drop l.i (map keyed l.records)) ≡ true → is_sorted key_cmp (map keyed l.records) ≡ true
