use Rattle.std.proofs.Common.{◌≡◌, List, Some, None, ap, sym, ◌∙◌}
use Rattle.std.specs.List.{position}
use Rattle.vms_base.specs.Ids.{serial_of}
use Rattle.commit_protocol.specs.Table.{Tm, Branch, branches_of}
use Rattle.commit_protocol.specs.Table as table
use Rattle.tm_types.specs.declared.branch.BranchState.{BranchState}
use Rattle.tm_table.specs.Doing.{Doing}
use Rattle.tm_table.proofs.TableLemmas.{at_serial, found_serial, no_serial}
use Rattle.tm_table.proofs.table.Table.branch.Goals as goal

pub returns-in-Some : goal.returns-in-Some
returns-in-Some c =
    let k = serial_of c.args.serial.now in
    let bs = c.self.inside.branches.items in
    let p : position (at_serial k) bs ≡ Some c.in-Some.i = ap (λ (xs : List BranchState). position (at_serial k) xs) (sym c.deref.ensures.value) ∙ (sym c.place_of_serial.ensures ∙ c.in-Some.is) in
    sym (found_serial k bs c.in-Some.i c.index.result.now p c.index.ensures) ∙ ap (λ (s : Doing). table.find_serial k s.tm.table) c.self.view_is

pub returns-in-None : goal.returns-in-None
returns-in-None c =
    let k = serial_of c.args.serial.now in
    let bs = c.self.inside.branches.items in
    let p : position (at_serial k) bs ≡ None = ap (λ (xs : List BranchState). position (at_serial k) xs) (sym c.deref.ensures.value) ∙ (sym c.place_of_serial.ensures ∙ c.in-None.is) in
    sym (no_serial k bs p) ∙ ap (λ (s : Doing). table.find_serial k s.tm.table) c.self.view_is
