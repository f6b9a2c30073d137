use Rattle.std.proofs.Common.{◌≡◌, List, Some, None, map, ap, sym, subst, ◌∙◌}
use Rattle.std.specs.List.{position}
use Rattle.commit_protocol.specs.Table.{find}
use Rattle.tm_types.specs.Branches.{branch_of, key_at}
use Rattle.tm_types.specs.declared.branch.BranchState.{BranchState}
use Rattle.tm_table.specs.Doing.{Doing, IsThere}
use Rattle.tm_table.specs.Kept.{Fits}
use Rattle.tm_table.proofs.TableLemmas.{at_key, found_at, not_found, there_found, fits_found}
use Rattle.tm_table.proofs.table.Table.find.Goals as goal

pub returns-in-Some-clause-found : goal.returns-in-Some-clause-found
returns-in-Some-clause-found c =
    let k = key_at c.args.tid.now c.args.serial.now in
    let bs = c.self.inside.branches.items in
    let p : position (at_key k) bs ≡ Some c.in-Some.i = ap (λ (xs : List BranchState). position (at_key k) xs) (sym c.deref.ensures.value) ∙ (sym c.place.ensures ∙ c.in-Some.is) in
    let e = found_at k bs c.in-Some.i c.index.result.now p c.index.ensures in
    ap (λ (b : BranchState). Some (branch_of b)) c.copy.ensures ∙ (sym e ∙ ap (λ (s : Doing). find k s.tm.table) c.self.view_is)

pub returns-in-Some-clause-there : goal.returns-in-Some-clause-there
returns-in-Some-clause-there c =
    let k = key_at c.args.tid.now c.args.serial.now in
    let bs = c.self.inside.branches.items in
    let p : position (at_key k) bs ≡ Some c.in-Some.i = ap (λ (xs : List BranchState). position (at_key k) xs) (sym c.deref.ensures.value) ∙ (sym c.place.ensures ∙ c.in-Some.is) in
    let e = found_at k bs c.in-Some.i c.index.result.now p c.index.ensures in
    let t = there_found k (map branch_of bs) (branch_of c.index.result.now) e in
    let P : BranchState → Type 0 = λ b. IsThere (branch_of b).key (map branch_of bs) in
    let Q : Doing → Type 0 = λ s. IsThere (branch_of c.copy.result).key s.tm.table in
    subst Q c.self.view_is (subst P (sym c.copy.ensures) t)

pub returns-in-Some-clause-fits : goal.returns-in-Some-clause-fits
returns-in-Some-clause-fits c =
    let k = key_at c.args.tid.now c.args.serial.now in
    let bs = c.self.inside.branches.items in
    let p : position (at_key k) bs ≡ Some c.in-Some.i = ap (λ (xs : List BranchState). position (at_key k) xs) (sym c.deref.ensures.value) ∙ (sym c.place.ensures ∙ c.in-Some.is) in
    let e = found_at k bs c.in-Some.i c.index.result.now p c.index.ensures in
    let f = fits_found k (map branch_of bs) (branch_of c.index.result.now) (c.self.invariant.2).fit e in
    let P : BranchState → Type 0 = λ b. Fits (branch_of b) in
    subst P (sym c.copy.ensures) f

pub returns-in-None-clause-found : goal.returns-in-None-clause-found
returns-in-None-clause-found c =
    let k = key_at c.args.tid.now c.args.serial.now in
    let bs = c.self.inside.branches.items in
    let p : position (at_key k) bs ≡ None = ap (λ (xs : List BranchState). position (at_key k) xs) (sym c.deref.ensures.value) ∙ (sym c.place.ensures ∙ c.in-None.is) in
    sym (not_found k bs p) ∙ ap (λ (s : Doing). find k s.tm.table) c.self.view_is
