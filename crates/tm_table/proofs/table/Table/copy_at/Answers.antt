use Rattle.std.proofs.Common.{◌≡◌, ◌<◌, map, length, get_or, ap, sym, subst, ◌∙◌, arith}
use Rattle.std.proofs.lemmas.List.{length-map}
use Rattle.std.proofs.Math.ListN.{get_or-map}
use Rattle.tm_types.specs.Branches.{branch_of}
use Rattle.tm_types.specs.declared.branch.BranchState.{BranchState}
use Rattle.tm_table.specs.Doing.{Doing, IsThere}
use Rattle.tm_table.proofs.SweepLemmas.{there_at}
use Rattle.tm_table.proofs.table.Table.copy_at.Goals as goal

pub returns-then-i-len-clause-place : goal.returns-then-i-len-clause-place
returns-then-i-len-clause-place c =
    let bs = c.self.inside.branches.items in
    let x = c.index.result.now in
    let i = c.args.i in
    let at = ap branch_of c.index.ensures ∙ sym (get_or-map branch_of bs i x) in
    let lt : i < length (map branch_of bs) = (let e = length-map bs branch_of in omega arith) in
    let P : BranchState → Type 0 = λ b. (i < length (map branch_of bs)) × (branch_of b ≡ get_or (map branch_of bs) i (branch_of b)) in
    let Q : Doing → Type 0 = λ s. (i < length s.tm.table) × (branch_of c.copy.result ≡ get_or s.tm.table i (branch_of c.copy.result)) in
    subst Q c.self.view_is (subst P (sym c.copy.ensures) (lt, at))

pub returns-then-i-len-clause-there : goal.returns-then-i-len-clause-there
returns-then-i-len-clause-there c =
    let bs = c.self.inside.branches.items in
    let x = c.index.result.now in
    let i = c.args.i in
    let at = ap branch_of c.index.ensures ∙ sym (get_or-map branch_of bs i x) in
    let lt : i < length (map branch_of bs) = (let e = length-map bs branch_of in omega arith) in
    let P : BranchState → Type 0 = λ b. IsThere (branch_of b).key (map branch_of bs) in
    let Q : Doing → Type 0 = λ s. IsThere (branch_of c.copy.result).key s.tm.table in
    subst Q c.self.view_is (subst P (sym c.copy.ensures) (there_at (map branch_of bs) i (branch_of x) lt at))
