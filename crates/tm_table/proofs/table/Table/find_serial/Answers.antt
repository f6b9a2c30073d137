use Rattle.std.proofs.Common.{◌≡◌, List, Some, None, map, ap, sym, subst, ◌∙◌}
use Rattle.std.specs.List.{position}
use Rattle.commit_protocol.specs.Table.{find_serial}
use Rattle.tm_types.specs.Branches.{branch_of}
use Rattle.tm_types.specs.declared.branch.BranchState.{BranchState}
use Rattle.vms_base.specs.Ids.{serial_of}
use Rattle.tm_table.specs.Doing.{Doing, IsThere}
use Rattle.tm_table.specs.Kept.{Fits}
use Rattle.tm_table.proofs.TableLemmas.{at_serial, found_serial, no_serial, there_serial, fits_serial}
use Rattle.tm_table.proofs.table.Table.find_serial.Goals as goal

pub returns-in-Some-clause-found : goal.returns-in-Some-clause-found
returns-in-Some-clause-found c =
    let k = serial_of c.args.serial.now in
    let bs = c.self.inside.branches.items in
    let p : position (at_serial k) bs ≡ Some c.in-Some.i = ap (λ (xs : List BranchState). position (at_serial k) xs) (sym c.deref.ensures.value) ∙ (sym c.place_of_serial.ensures ∙ c.in-Some.is) in
    let e = found_serial k bs c.in-Some.i c.index.result.now p c.index.ensures in
    ap (λ (b : BranchState). Some (branch_of b)) c.copy.ensures ∙ (sym e ∙ ap (λ (s : Doing). find_serial k s.tm.table) c.self.view_is)

pub returns-in-Some-clause-there : goal.returns-in-Some-clause-there
returns-in-Some-clause-there c =
    let k = serial_of c.args.serial.now in
    let bs = c.self.inside.branches.items in
    let p : position (at_serial k) bs ≡ Some c.in-Some.i = ap (λ (xs : List BranchState). position (at_serial k) xs) (sym c.deref.ensures.value) ∙ (sym c.place_of_serial.ensures ∙ c.in-Some.is) in
    let e = found_serial k bs c.in-Some.i c.index.result.now p c.index.ensures in
    let t = there_serial k (map branch_of bs) (branch_of c.index.result.now) e in
    let P : BranchState → Type 0 = λ b. IsThere (branch_of b).key (map branch_of bs) in
    let Q : Doing → Type 0 = λ s. IsThere (branch_of c.copy.result).key s.tm.table in
    subst Q c.self.view_is (subst P (sym c.copy.ensures) t)

pub returns-in-Some-clause-fits : goal.returns-in-Some-clause-fits
returns-in-Some-clause-fits c =
    let k = serial_of c.args.serial.now in
    let bs = c.self.inside.branches.items in
    let p : position (at_serial k) bs ≡ Some c.in-Some.i = ap (λ (xs : List BranchState). position (at_serial k) xs) (sym c.deref.ensures.value) ∙ (sym c.place_of_serial.ensures ∙ c.in-Some.is) in
    let e = found_serial k bs c.in-Some.i c.index.result.now p c.index.ensures in
    let f = fits_serial k (map branch_of bs) (branch_of c.index.result.now) (c.self.invariant.2).fit e in
    let P : BranchState → Type 0 = λ b. Fits (branch_of b) in
    subst P (sym c.copy.ensures) f

pub returns-in-None-clause-found : goal.returns-in-None-clause-found
returns-in-None-clause-found c =
    let k = serial_of c.args.serial.now in
    let bs = c.self.inside.branches.items in
    let p : position (at_serial k) bs ≡ None = ap (λ (xs : List BranchState). position (at_serial k) xs) (sym c.deref.ensures.value) ∙ (sym c.place_of_serial.ensures ∙ c.in-None.is) in
    sym (no_serial k bs p) ∙ ap (λ (s : Doing). find_serial k s.tm.table) c.self.view_is
