use Rattle.std.proofs.Common.{◌∙◌, ◌-◌, ap, length, map}
use Rattle.std.specs.Prelude.{drop, take}
use Rattle.std.proofs.lemmas.Result.{IfOk-weaker}
use Rattle.commit_protocol.specs.Table.{find}
use Rattle.commit_protocol.specs.World.{arranged, arranged_by}
use Rattle.tm_types.specs.Branches.{branch_of}
use Rattle.reference_world.specs.Standing.{branch_key_of}
use Rattle.reference_branches.proofs.DoubtLemmas.{arranged_first}
use Rattle.reference_branches.proofs.doubts.+arranged.Goals as goal

pub returns-in_ok-all-in-len1-up : goal.returns-in_ok-all-in-len1-up
returns-in_ok-all-in-len1-up t c =
    let key = c.key-item.result in
    let bs = map branch_of c.args.branches.items in
    let rest = map branch_key_of (take (length c.args.order.now - 1) (drop 1 c.args.order.now)) in
    let eq = ap (λ o. arranged_by o (map branch_of (c.in_ok-all-in-len1-up).all.items)) (c.find_key-found.ensures ∙ ap (λ x. find (branch_key_of key) (map branch_of x)) c.as_slice.ensures.value)
    ∙ ap (arranged_by (find (branch_key_of key) bs)) ((c.in_ok-all-in-len1-up).ensures ∙ ap (arranged rest) (c.in_ok-others-in-len1-up).ensures)
    ∙ arranged_first c.args.order.now key bs c.in-len1-up.len_at_least c.key-item.is in
    IfOk-weaker c.with_first.result _ _ (λ v e. e ∙ eq) c.with_first.ensures
