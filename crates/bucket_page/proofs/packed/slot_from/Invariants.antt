use Rattle.std.proofs.Common.{◌≡◌}
use Rattle.bucket_page.specs.Pages.{slots_of, reach}
use Rattle.bucket_page.proofs.packed.slot_from.Given as goal

abbrev pub invariant-loop-k : goal.invariant-loop-k
invariant-loop-k l = l.at ≡ reach (slots_of l.kind l.bytes) l.k
