use Rattle.std.proofs.Common.{Err, Ok, ◌+◌, sym, subst}
use Rattle.record_operations.specs.Asking.{file_in, read_file_in}
use Rattle.node_table.specs.recovery_units.Calls.{change_said, read_said}
use Rattle.vms_base.specs.Ids.{id_of}
use Rattle.file_requests.specs.Acting.{ActsAlone}
use Rattle.file_requests.specs.Asking.{number_in, said_of}
use Rattle.node_table.specs.Code.{stored_of, up_of}
use Rattle.node_table.specs.Standing.{Stored, Up}
use Rattle.node_requests.specs.Operating.{OperatesAlone}
use Rattle.node_requests.proofs.Operated.{changed_alone, changed_not, changed_stopped, changes_only, looked, reads_only}
use Rattle.node_requests.proofs.requests.act_alone.Goals as goal

pub returns-in-Read-clause-does : goal.returns-in-Read-clause-does
returns-in-Read-clause-does g c =
    let old : Up = up_of g.U.RecoveryUnits.state c.args.running.now in
    let new : Stored = stored_of g.U.RecoveryUnits.state c.read_alone.new.stored in
    let op = c.in-Read.op in
    subst (λ q. OperatesAlone c.read_alone.result (number_in q) (said_of q c.args.bytes.now) c.args.clock.0 old (record { stored = new; tm = old.tm; drawn = old.drawn; declared = old.declared }) (g.E.Emit.shows c.args.out.now) (g.E.Emit.shows c.read_alone.new.out)) (sym c.in-Read.is)
    (looked (read_file_in op) (read_said op) c.args.clock.0 old new _ _ c.requires.may.up (reads_only op) c.read_alone.result c.read_alone.ensures.acts)

pub returns-in-Err-clause-does : goal.returns-in-Err-clause-does
returns-in-Err-clause-does g c =
    let old : Up = up_of g.U.RecoveryUnits.state c.args.running.now in
    let new : Stored = stored_of g.U.RecoveryUnits.state c.change_alone.new.stored in
    let op = c.in-Change.op in
    subst (λ q. OperatesAlone {T = Unit {0}} (Err c.in-Err.down) (number_in q) (said_of q c.args.bytes.now) c.args.clock.0 old (record { stored = new; tm = old.tm; drawn = old.drawn; declared = old.declared }) (g.E.Emit.shows c.args.out.now) (g.E.Emit.shows c.change_alone.new.out)) (sym c.in-Change.is)
    (changed_stopped (file_in op) (change_said op c.args.bytes.now) c.args.clock.0 old new _ _ c.requires.may.up (id_of c.next_id-id.result) c.next_id-id.ensures c.in-Err.down c.in-Err.ensures.acts)

pub returns-then-made-clause-does : goal.returns-then-made-clause-does
returns-then-made-clause-does g c =
    let old : Up = up_of g.U.RecoveryUnits.state c.args.running.now in
    let new : Stored = stored_of g.U.RecoveryUnits.state c.change_alone.new.stored in
    let op = c.in-Change.op in
    subst (λ q. OperatesAlone {T = Unit {0}} (Ok tt) (number_in q) (said_of q c.args.bytes.now) c.args.clock.0 old (record { stored = new; tm = old.tm; drawn = old.drawn + 1; declared = old.declared }) (g.E.Emit.shows c.args.out.now) (g.E.Emit.shows c.change_alone.new.out)) (sym c.in-Change.is)
    (changed_alone (file_in op) (change_said op c.args.bytes.now) c.args.clock.0 old new _ _ c.requires.may.up (id_of c.next_id-id.result) c.next_id-id.ensures (changes_only op c.args.bytes.now)
    (subst (λ made. ActsAlone (Ok made) (id_of c.next_id-id.result) c.args.clock.0 (file_in op) (change_said op c.args.bytes.now) old.stored new (g.E.Emit.shows c.args.out.now) (g.E.Emit.shows c.change_alone.new.out)) c.if-made.true c.in-Ok.ensures.acts))

pub returns-else-made-clause-does : goal.returns-else-made-clause-does
returns-else-made-clause-does g c =
    let old : Up = up_of g.U.RecoveryUnits.state c.args.running.now in
    let new : Stored = stored_of g.U.RecoveryUnits.state c.change_alone.new.stored in
    let op = c.in-Change.op in
    subst (λ q. OperatesAlone {T = Unit {0}} (Ok tt) (number_in q) (said_of q c.args.bytes.now) c.args.clock.0 old (record { stored = new; tm = old.tm; drawn = old.drawn; declared = old.declared }) (g.E.Emit.shows c.args.out.now) (g.E.Emit.shows c.change_alone.new.out)) (sym c.in-Change.is)
    (changed_not (file_in op) (change_said op c.args.bytes.now) c.args.clock.0 old new _ _ c.requires.may.up (id_of c.next_id-id.result) c.next_id-id.ensures
    (subst (λ made. ActsAlone (Ok made) (id_of c.next_id-id.result) c.args.clock.0 (file_in op) (change_said op c.args.bytes.now) old.stored new (g.E.Emit.shows c.args.out.now) (g.E.Emit.shows c.change_alone.new.out)) c.if-made.false c.in-Ok.ensures.acts))
