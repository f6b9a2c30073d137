use Rattle.std.proofs.Common.{◌≡◌, List, Some, None, map, ap, sym, ◌∙◌}
use Rattle.std.specs.List.{position}
use Rattle.tm_types.specs.Branches.{branch_of}
use Rattle.tm_types.specs.declared.branch.BranchState.{BranchState}
use Rattle.tm_types.proofs.ListLemmas.{map_push}
use Rattle.tm_table.proofs.TableLemmas.{at_key, put_at, put_last, not_found}
use Rattle.tm_table.proofs.branches.add_branch.Goals as goal

pub returns-in-Some-clause-branches : goal.returns-in-Some-clause-branches
returns-in-Some-clause-branches c =
    let b = c.args.b in
    let bs = c.args.branches.now.items in
    let p : position (at_key (branch_of b).key) bs ≡ Some c.in-Some.i = ap (λ (xs : List BranchState). position (at_key (branch_of b).key) xs) (sym c.deref.ensures.value) ∙ (sym c.place.ensures ∙ c.in-Some.is) in
    sym (put_at b bs c.in-Some.i c.index_mut.result.now p c.index_mut.ensures.value)

pub returns-in-None-clause-branches : goal.returns-in-None-clause-branches
returns-in-None-clause-branches c =
    let b = c.args.b in
    let bs = c.args.branches.now.items in
    let p : position (at_key (branch_of b).key) bs ≡ None = ap (λ (xs : List BranchState). position (at_key (branch_of b).key) xs) (sym c.deref.ensures.value) ∙ (sym c.place.ensures ∙ c.in-None.is) in
    ap (λ (xs : List BranchState). map branch_of xs) c.push_reserved.ensures.items ∙ (map_push branch_of bs b ∙ sym (put_last (branch_of b) (map branch_of bs) (not_found (branch_of b).key bs p)))
