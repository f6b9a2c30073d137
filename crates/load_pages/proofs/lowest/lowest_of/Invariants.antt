use Rattle.std.proofs.Common.{◌≤◌, ◌-◌, ◌*◌, map}
use Rattle.load_laws.specs.indexed_file.Chain.{kind_of}
use Rattle.load_pages.specs.Given.{raw_of}
use Rattle.load_pages.proofs.KeyLemmas.{KeysTo}
use Rattle.load_pages.proofs.lowest.lowest_of.Given as goal

abbrev pub invariant-loop-r : goal.invariant-loop-r
invariant-loop-r l = record {
  keys_to : KeysTo l.head (512 * l.head.bucket - 16) (map (raw_of (kind_of l.head)) l.records) l.r-index l.used l.keys.items;
  few : l.used ≤ 16356;
}
