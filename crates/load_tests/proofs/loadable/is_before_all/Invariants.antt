use Rattle.std.proofs.Common.{◌≡◌, true, map, drop}
use Rattle.std.specs.FinMap.Entries.{below_all}
use Rattle.records_model.specs.Records.{key_cmp}
use Rattle.vms_base.specs.Keys.{key_of}
use Rattle.load_pages.specs.Given.{keyed}
use Rattle.load_tests.proofs.loadable.is_before_all.Given as goal

-- where the key comes before the records from one on, it comes before all
abbrev pub invariant-loop-i : goal.invariant-loop-i
invariant-loop-i l = below_all key_cmp (key_of l.key) (drop l.i (map keyed l.records)) ≡ true → below_all key_cmp (key_of l.key) (map keyed l.records) ≡ true
