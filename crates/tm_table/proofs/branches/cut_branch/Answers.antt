use Rattle.std.proofs.Common.{◌≡◌, List, Some, None, map, ap, sym, ◌∙◌}
use Rattle.std.specs.List.{position}
use Rattle.tm_types.specs.Branches.{branch_of, key_at}
use Rattle.tm_types.specs.declared.branch.BranchState.{BranchState}
use Rattle.tm_table.proofs.TableLemmas.{at_key, cut_at, cut_none, not_found}
use Rattle.tm_table.proofs.branches.cut_branch.Goals as goal

pub returns-in-Some-clause-branches : goal.returns-in-Some-clause-branches
returns-in-Some-clause-branches c =
    let k = key_at c.args.tid.now c.args.serial.now in
    let bs = c.args.branches.now.items in
    let p : position (at_key k) bs ≡ Some c.in-Some.i = ap (λ (xs : List BranchState). position (at_key k) xs) (sym c.deref.ensures.value) ∙ (sym c.place.ensures ∙ c.in-Some.is) in
    ap (λ (xs : List BranchState). map branch_of xs) c.remove.ensures.items ∙ sym (cut_at k bs c.in-Some.i p c.requires)

pub returns-in_default-clause-branches : goal.returns-in_default-clause-branches
returns-in_default-clause-branches c =
    let k = key_at c.args.tid.now c.args.serial.now in
    let bs = c.args.branches.now.items in
    let p : position (at_key k) bs ≡ None = ap (λ (xs : List BranchState). position (at_key k) xs) (sym c.deref.ensures.value) ∙ (sym c.place.ensures ∙ c.in_default.is) in
    sym (cut_none k (map branch_of bs) (not_found k bs p))
