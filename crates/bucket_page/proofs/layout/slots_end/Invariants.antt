use Rattle.std.proofs.Common.{◌≡◌, ◌≤◌, ◌+◌, true, length, drop}
use Rattle.bucket_page.specs.Pages.{slots_from, all_suit, joined}
use Rattle.bucket_page.proofs.layout.slots_end.Given as goal

abbrev pub invariant-loop-k : goal.invariant-loop-k
invariant-loop-k l = record {
  suit : all_suit l.kind (slots_from l.kind l.k (drop 16 l.bytes)) ≡ true;
  at : l.at ≡ 16 + length (joined (slots_from l.kind l.k (drop 16 l.bytes)));
  within : l.at ≤ length l.bytes;
}
