use Rattle.std.proofs.Common.{◌≤◌, length, map}
use Rattle.std.specs.FinMap.{entries, len}
use Rattle.load_pages.specs.Given.{keyed}
use Rattle.recover_rms.proofs.LoadLemmas.{Keeps}
use Rattle.recover_rms.proofs.loading.records_of.Given as goal

abbrev pub invariant-loop-key : goal.invariant-loop-key
invariant-loop-key l = record {
  kept : Keeps l.head l.fn.map (map keyed l.records.items) (entries l.map);
  few : length l.records.items ≤ 4294967295;
}

abbrev pub decreases-loop-key : goal.decreases-loop-key
decreases-loop-key l = len l.map
