use Rattle.std.proofs.Common.{◌≡◌, List, Some, None, map, false, is_some, refl, ap, sym, ◌∙◌, slice_set}
use Rattle.std.specs.List.{position}
use Rattle.tm_types.specs.Branches.{branch_of}
use Rattle.tm_types.specs.declared.branch.BranchState.{BranchState}
use Rattle.commit_protocol.specs.Table.{find}
use Rattle.tm_table.proofs.TableLemmas.{at_key, put_at, not_found}
use Rattle.tm_table.proofs.branches.put_branch.Goals as goal

pub returns-in-Some-clause-branches : goal.returns-in-Some-clause-branches
returns-in-Some-clause-branches c =
    let b = c.args.b.now in
    let bs = c.args.branches.now.items in
    let p : position (at_key (branch_of b).key) bs ≡ Some c.in-Some.i = ap (λ (xs : List BranchState). position (at_key (branch_of b).key) xs) (sym c.deref.ensures.value) ∙ (sym c.place.ensures ∙ c.in-Some.is) in
    ap (λ (x : BranchState). map branch_of (slice_set bs c.in-Some.i x)) c.copy.ensures ∙ sym (put_at b bs c.in-Some.i c.index_mut.result.now p c.index_mut.ensures.value)

pub returns-in_default-clause-branches : goal.returns-in_default-clause-branches
returns-in_default-clause-branches c =
    let b = c.args.b.now in
    let bs = c.args.branches.now.items in
    let p : position (at_key (branch_of b).key) bs ≡ None = ap (λ (xs : List BranchState). position (at_key (branch_of b).key) xs) (sym c.deref.ensures.value) ∙ (sym c.place.ensures ∙ c.in_default.is) in
    let e = not_found (branch_of b).key bs p in
    absurd (let q : is_some (find (branch_of b).key (map branch_of bs)) ≡ false = rw e refl in let r = c.requires in cc)
