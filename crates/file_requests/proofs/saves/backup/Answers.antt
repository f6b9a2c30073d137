use Rattle.std.proofs.Common.{◌*◌, ◌≤◌, ℕ, option_map, sym, ap, subst, ◌∙◌, arith}
use Rattle.vms_base.specs.Ids.{serial_of}
use Rattle.node_standing.specs.node_table.Code.{stored_of}
use Rattle.file_requests.proofs.Saving.{blocks_fit, save_absent, save_full, save_locked, save_made, some_blocks_here}
use Rattle.file_requests.proofs.saves.backup.Goals as goal

pub returns-in_default-clause-serves : goal.returns-in_default-clause-serves
returns-in_default-clause-serves g c =
    save_absent c.args.name.now (stored_of g.U.RecoveryUnits.state c.args.stored.now) c.requires.order c.the_laws.ensures _ _ c.in_default.ensures.none c.emit.ensures.emits

pub returns-in-Some-changed_by-clause-serves : goal.returns-in-Some-changed_by-clause-serves
returns-in-Some-changed_by-clause-serves g c =
    let found = rw (c.in-Some.file-is, c.in-Some.head-is) at c.in-Some.ensures.found in
    save_locked c.args.name.now (stored_of g.U.RecoveryUnits.state c.args.stored.now) c.requires.order c.the_laws.ensures c.in-Some.file c.in-Some.head found.1 (serial_of c.in-Some-changed_by.serial) _ _
    (sym c.changed_by.ensures ∙ ap (option_map serial_of) c.in-Some-changed_by.is) c.emit-in-Some-changed_by.ensures.emits

pub overflow_mul-blocks : goal.overflow_mul-blocks
overflow_mul-blocks g c =
    let found = rw (c.in-Some.file-is, c.in-Some.head-is) at c.in-Some.ensures.found in
    let fit = blocks_fit c.in-Some.file c.in-Some.head (stored_of g.U.RecoveryUnits.state c.args.stored.now) c.requires.order c.the_laws.ensures found.1.there in
    let bucket = c.from.ensures in
    let fit' = subst (λ (k : ℕ). c.in-Some.head.alloc * k ≤ 65536) (sym bucket) fit in
    omega (arith, fit')

pub returns-in-Err-clause-serves : goal.returns-in-Err-clause-serves
returns-in-Err-clause-serves g c =
    let found = rw (c.in-Some.file-is, c.in-Some.head-is) at c.in-Some.ensures.found in
    let bucket = c.from.ensures in
    let lacks = rw bucket at c.in-Err.ensures.lacks in
    let needed = c.in-Err.ensures.need ∙ ap (λ (k : ℕ). c.in-Some.head.alloc * k) bucket in
    save_full c.args.name.now (stored_of g.U.RecoveryUnits.state c.args.stored.now) c.requires.order c.the_laws.ensures c.in-Some.file c.in-Some.head found.1 (sym c.changed_by.ensures ∙ ap (option_map serial_of) c.in_default-changed_by.is) c.in-Err.field-0.free
    (g.E.Emit.shows c.args.out.now) (g.E.Emit.shows c.emit-in-Err.new.self) lacks
    (let free = c.from-in-Err.ensures in let need = c.from-in-Err-2.ensures ∙ needed in rw (free, need) at c.emit-in-Err.ensures.emits)

pub returns-in-Ok-clause-serves : goal.returns-in-Ok-clause-serves
returns-in-Ok-clause-serves g c =
    let found = rw (c.in-Some.file-is, c.in-Some.head-is) at c.in-Some.ensures.found in
    let bucket = c.from.ensures in
    let u = stored_of g.U.RecoveryUnits.state c.args.stored.now in
    let run = rw bucket at c.in-Ok.ensures.run in
    let some = some_blocks_here c.in-Some.file c.in-Some.head u c.requires.order c.the_laws.ensures found.1.there in
    save_made c.args.name.now u c.requires.order c.the_laws.ensures c.in-Some.file c.in-Some.head found.1 (sym c.changed_by.ensures ∙ ap (option_map serial_of) c.in_default-changed_by.is) c.save_file.result c.in-Ok.start
    (stored_of g.U.RecoveryUnits.state c.save_file.new.stored) _ _ some run c.save_file.ensures.saves
