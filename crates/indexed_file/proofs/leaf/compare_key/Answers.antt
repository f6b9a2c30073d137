use Rattle.std.proofs.Common.{◌≡◌, ◌+◌, ◌-◌, take, drop, ap, sym, ◌∙◌, arith}
use Rattle.std.specs.Ordering.{nat_cmp, is_lt, ordering_reverse}
use Rattle.std.specs.Cmp.Lexicographic.{slice_cmp}
use Rattle.std.proofs.lemmas.Cmp.{nat_list_cmp_total}
use Rattle.bucket_page.specs.Pages.{key_in}
use Rattle.indexed_file.specs.Chain.{kind_of}
use Rattle.indexed_file.proofs.leaf.compare_key.Goals as goal

pub returns-clause-above : goal.returns-clause-above
returns-clause-above c =
    let h = c.args.head.now in
    let k = c.args.key.now in
    let raw = c.args.slot.now in
    let at = 4 + h.key_pos in
    let count : at + h.key_size - at ≡ h.key_size = omega arith in
    let is : take (at + h.key_size - at) (drop at raw) ≡ key_in (kind_of h) raw = ap (λ n. take n (drop at raw)) count in
    ap is_lt (nat_list_cmp_total.antisymm k (key_in (kind_of h) raw)) ∙ ap (λ x. is_lt (ordering_reverse (slice_cmp nat_cmp x k))) (sym is) ∙ ap (λ o. is_lt (ordering_reverse o)) (sym c.cmp.ensures)
