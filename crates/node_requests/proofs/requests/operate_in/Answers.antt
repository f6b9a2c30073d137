use Rattle.std.proofs.Common.{Ok, sym, subst}
use Rattle.vms_base.specs.Ids.{serial_of}
use Rattle.file_requests.specs.Asking.{number_in, said_of}
use Rattle.node_table.specs.Code.{stored_of, up_of}
use Rattle.node_table.specs.Standing.{Stored, Up}
use Rattle.node_requests.specs.Operating.{OperatesFor}
use Rattle.node_requests.proofs.Operated.{operated, operation_stopped, unit_works}
use Rattle.node_requests.proofs.requests.operate_in.Goals as goal

pub operate_for-requires-clause-unit : goal.operate_for-requires-clause-unit
operate_for-requires-clause-unit g c = (unit_works (serial_of c.args.serial) _ c.args.running.now.table c.requires.may.up.follows.branches c.requires.working).0

pub operate_for-requires-clause-active : goal.operate_for-requires-clause-active
operate_for-requires-clause-active g c = (unit_works (serial_of c.args.serial) _ c.args.running.now.table c.requires.may.up.follows.branches c.requires.working).1

pub returns-in-Err-clause-does : goal.returns-in-Err-clause-does
returns-in-Err-clause-does g c = operation_stopped (serial_of c.args.serial) (number_in c.args.asked.now) (said_of c.args.asked.now c.args.bytes.now) c.args.clock.0 (up_of g.U.RecoveryUnits.state c.args.running.now) (stored_of g.U.RecoveryUnits.state c.operate_for.new.stored) _ _ c.in-Err.down c.in-Err.ensures.acts

pub returns-in-Ok-clause-does : goal.returns-in-Ok-clause-does
returns-in-Ok-clause-does g c =
    let old : Up = up_of g.U.RecoveryUnits.state c.args.running.now in
    let new : Stored = stored_of g.U.RecoveryUnits.state c.operate_for.new.stored in
    subst (λ (r : Up). OperatesFor {T = Unit {0}} (Ok tt) (serial_of c.args.serial) (number_in c.args.asked.now) (said_of c.args.asked.now c.args.bytes.now) c.args.clock.0 old r (g.E.Emit.shows c.args.out.now) (g.E.Emit.shows c.operate_for.new.out)) (sym c.note_changes.ensures)
    (operated (serial_of c.args.serial) (number_in c.args.asked.now) (said_of c.args.asked.now c.args.bytes.now) c.args.clock.0 old new _ _ c.in-Ok.ensures.acts c.requires.may.up c.requires.working)
