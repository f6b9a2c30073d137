use Rattle.std.proofs.Common.{not, ◌≡◌, ◌+◌, ◌&&◌, Bool, true, false, List, map, drop, refl, ap, sym, ◌∙◌}
use Rattle.tm_types.specs.Parts.{child_of}
use Rattle.tm_types.specs.declared.lists.Child.{Child}
use Rattle.std.specs.List.{list_any}
use Rattle.commit_protocol.specs.Messages.{same_name}
use Rattle.vms_base.specs.Ids.{serial_of}
use Rattle.commit_protocol.specs.Rows.{is_noted}
use Rattle.tm_types.proofs.ListLemmas.{stepped}
use Rattle.tm_types.proofs.lists.ChildList.awaits.Goals as goal

pub returns-then-is_awaited : goal.returns-then-is_awaited
returns-then-is_awaited c =
    let F : List Child → Bool = λ xs. list_any (λ d. same_name d.serial.node c.args.node.now && not (is_noted d.vote)) (map child_of xs) in
    let xs = c.items-c-items.result.now in
    let x = c.c-item.result in
    let e : (same_name (serial_of x.serial).node c.args.node.now && not (is_noted (child_of x).vote)) ≡ true = sym c.is_awaited.ensures ∙ c.if-is_awaited.true in
    stepped F (F xs) xs c.loop-c.c-index x true c.loop-c-test.true c.c-item.is c.loop-c.invariant (rw e refl) ∙ ap F c.items-c-items.ensures.value

pub loop-c-preserved : goal.loop-c-preserved
loop-c-preserved c =
    let F : List Child → Bool = λ xs. list_any (λ d. same_name d.serial.node c.args.node.now && not (is_noted d.vote)) (map child_of xs) in
    let xs = c.items-c-items.result.now in
    let x = c.c-item.result in
    let e : (same_name (serial_of x.serial).node c.args.node.now && not (is_noted (child_of x).vote)) ≡ false = sym c.is_awaited.ensures ∙ c.if-is_awaited.false in
    stepped F (F xs) xs c.loop-c.c-index x (F (drop (c.loop-c.c-index + 1) xs)) c.loop-c-test.true c.c-item.is c.loop-c.invariant (rw e refl)
