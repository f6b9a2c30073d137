use Rattle.std.proofs.Common.{◌≡◌, ◌+◌, Bool, true, false, List, map, drop, refl, ap, sym, ◌∙◌}
use Rattle.tm_types.specs.Parts.{child_of}
use Rattle.tm_types.specs.declared.lists.Child.{Child}
use Rattle.commit_protocol.specs.Messages.{same_id}
use Rattle.vms_base.specs.Ids.{serial_of}
use Rattle.commit_protocol.specs.Rows.{has_serial}
use Rattle.tm_types.proofs.ListLemmas.{stepped}
use Rattle.tm_types.proofs.lists.ChildList.has_serial.Goals as goal

pub returns-then-same_id : goal.returns-then-same_id
returns-then-same_id c =
    let F : List Child → Bool = λ xs. has_serial (serial_of c.args.serial.now) (map child_of xs) in
    let xs = c.items-c-items.result.now in
    let x = c.c-item.result in
    let e : same_id (serial_of x.serial) (serial_of c.args.serial.now) ≡ true = sym c.same_id.ensures ∙ c.if-same_id.true in
    stepped F (F xs) xs c.loop-c.c-index x true c.loop-c-test.true c.c-item.is c.loop-c.invariant (rw e refl) ∙ ap F c.items-c-items.ensures.value

pub loop-c-preserved : goal.loop-c-preserved
loop-c-preserved c =
    let F : List Child → Bool = λ xs. has_serial (serial_of c.args.serial.now) (map child_of xs) in
    let xs = c.items-c-items.result.now in
    let x = c.c-item.result in
    let e : same_id (serial_of x.serial) (serial_of c.args.serial.now) ≡ false = sym c.same_id.ensures ∙ c.if-same_id.false in
    stepped F (F xs) xs c.loop-c.c-index x (F (drop (c.loop-c.c-index + 1) xs)) c.loop-c-test.true c.c-item.is c.loop-c.invariant (rw e refl)
