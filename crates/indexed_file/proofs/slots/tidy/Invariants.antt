use Rattle.std.proofs.Common.{◌≡◌, ◌≤◌, length, take}
use Rattle.vms_base.specs.vms_model.Keys.{Text}
use Rattle.bucket_page.specs.Pages.{slots_of, next_of, Packs}
use Rattle.indexed_file.specs.Chain.{kind_of}
use Rattle.indexed_file.proofs.TidyLaws.{half_tidied, moved_to}
use Rattle.indexed_file.proofs.slots.tidy.Given as goal

abbrev pub invariant-loop-i : goal.invariant-loop-i
invariant-loop-i g l = record {
  packs : Packs (kind_of l.head) l.size (half_tidied l.head (λ t. g.H.Held.held l.held (Text t)) (slots_of (kind_of l.head) (take l.size l.fn.bytes)) l.i) (next_of (take l.size l.fn.bytes)) (take l.size l.bytes);
  within : l.i ≤ length (slots_of (kind_of l.head) (take l.size l.fn.bytes));
  moved : l.moved ≡ moved_to l.head (λ t. g.H.Held.held l.held (Text t)) (slots_of (kind_of l.head) (take l.size l.fn.bytes)) l.place l.i;
}

abbrev pub decreases-loop-i : goal.decreases-loop-i
decreases-loop-i g l = l.i
