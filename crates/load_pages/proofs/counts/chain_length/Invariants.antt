use Rattle.std.proofs.Common.{◌≡◌, ◌≤◌, ◌+◌}
use Rattle.records_model.specs.Placing.{filled_by, first_bucket}
use Rattle.load_pages.specs.Counts.{sizes_behind}
use Rattle.load_pages.proofs.CountLemmas.{counted_from}
use Rattle.load_pages.proofs.counts.chain_length.Given as goal

abbrev pub invariant-loop-r : goal.invariant-loop-r
invariant-loop-r l = record {
  counts : (filled_by l.capacity first_bucket (sizes_behind l.beside l.records)).buckets ≡ counted_from l.capacity l.beside l.records l.r-index l.buckets l.used;
  most : l.buckets ≤ l.r-index + 1;
  least : 1 ≤ l.buckets;
  few : l.used ≤ 8192 + 8164;
}
