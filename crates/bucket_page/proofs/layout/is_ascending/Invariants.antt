use Rattle.std.proofs.Common.{◌≡◌, ◌<◌, ◌-◌, true, take}
use Rattle.bucket_page.specs.Pages.{slots_of, reach, ascend}
use Rattle.bucket_page.proofs.layout.is_ascending.Given as goal

abbrev pub invariant-loop-k : goal.invariant-loop-k
invariant-loop-k l = record {
  at : l.at ≡ reach (slots_of l.kind l.bytes) l.k;
  last : 0 < l.k → l.last ≡ reach (slots_of l.kind l.bytes) (l.k - 1);
  order : ascend l.kind (take l.k (slots_of l.kind l.bytes)) ≡ true;
}
