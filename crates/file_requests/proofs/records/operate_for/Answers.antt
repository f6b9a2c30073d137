use Rattle.std.proofs.Common.{[], ◌∷◌, Ok, refl, sym, subst}
use Rattle.emitter_model.specs.Emitting.{Emits}
use Rattle.vms_base.specs.Ids.{serial_of}
use Rattle.vms_base.specs.Keys.{key_of}
use Rattle.recovery_units.specs.Calls.{change_said, position_line, read_said, record_line}
use Rattle.record_operations.specs.Asking.{file_in, read_file_in}
use Rattle.file_requests.specs.Acting.{ActsFor}
use Rattle.file_requests.specs.Asking.{number_in, said_of}
use Rattle.file_requests.specs.Replying.{IsPlain}
use Rattle.node_standing.specs.node_table.Code.{stored_of}
use Rattle.node_standing.specs.node_table.Standing.{Stored}
use Rattle.file_requests.proofs.BranchAnswers.{asked_done, asked_err}
use Rattle.file_requests.proofs.Reading.{stored_of_volume}
use Rattle.file_requests.proofs.records.operate_for.Goals as goal

pub returns-in-Err-clause-acts : goal.returns-in-Err-clause-acts
returns-in-Err-clause-acts g c =
    let u = stored_of g.U.RecoveryUnits.state c.args.stored.now in
    let new : Stored = record { volume = c.change.new.volume; units = g.U.RecoveryUnits.state c.change.new.self; in_doubt = u.in_doubt } in
    let op = c.in-Change.op in
    let e = c.in-Err.ensures in
    subst (λ a. ActsFor c.refuse.result (serial_of c.args.serial.now) (number_in a) (said_of a c.args.bytes.now) u new (g.E.Emit.shows c.args.out.now) (g.E.Emit.shows c.refuse.new.out)) (sym c.in-Change.is)
    (asked_err (serial_of c.args.serial.now) (file_in op) (change_said op c.args.bytes.now) u new c.requires.order refl e.works e.grows c.in-Err.cause c.refuse.result _ _
    (λ d. stored_of_volume u new (e.same d).1 (e.same d).0 refl) e.cause c.refuse.ensures.replies c.refuse.ensures.shows e.err)

pub returns-in-Ok-clause-acts : goal.returns-in-Ok-clause-acts
returns-in-Ok-clause-acts g c =
    let u = stored_of g.U.RecoveryUnits.state c.args.stored.now in
    let new : Stored = record { volume = c.change.new.volume; units = g.U.RecoveryUnits.state c.change.new.self; in_doubt = u.in_doubt } in
    let op = c.in-Change.op in
    let e = c.in-Ok.ensures in
    let told = position_line c.in-Ok.position in
    subst (λ a. ActsFor {T = Unit {0}} (Ok tt) (serial_of c.args.serial.now) (number_in a) (said_of a c.args.bytes.now) u new (g.E.Emit.shows c.args.out.now) (g.E.Emit.shows c.emit.new.self)) (sym c.in-Change.is)
    (asked_done (serial_of c.args.serial.now) (file_in op) (change_said op c.args.bytes.now) u new c.requires.order refl e.works e.grows told _ _ e.images e.order (subst (λ l. IsPlain l) c.change_form.ensures.line c.change_form.ensures.plain)
    (subst (λ l. Emits (g.E.Emit.shows c.args.out.now) (l ∷ []) (g.E.Emit.shows c.emit.new.self)) c.change_form.ensures.line c.emit.ensures.emits) e.done)

pub returns-in-Err-read-clause-acts : goal.returns-in-Err-read-clause-acts
returns-in-Err-read-clause-acts g c =
    let u = stored_of g.U.RecoveryUnits.state c.args.stored.now in
    let new : Stored = record { volume = c.read.new.volume; units = g.U.RecoveryUnits.state c.read.new.self; in_doubt = u.in_doubt } in
    let op = c.in-Read.op in
    let e = c.in-Err-read.ensures in
    subst (λ a. ActsFor c.refuse-in-Err-read.result (serial_of c.args.serial.now) (number_in a) (said_of a c.args.bytes.now) u new (g.E.Emit.shows c.args.out.now) (g.E.Emit.shows c.refuse-in-Err-read.new.out)) (sym c.in-Read.is)
    (asked_err (serial_of c.args.serial.now) (read_file_in op) (read_said op) u new c.requires.order refl e.works e.grows c.in-Err-read.cause c.refuse-in-Err-read.result _ _
    (λ d. stored_of_volume u new (e.same d).1 (e.same d).0 refl) e.cause c.refuse-in-Err-read.ensures.replies c.refuse-in-Err-read.ensures.shows (λ n name file branch q up. e.err n name file branch q))

pub returns-in-Ok-read-clause-acts : goal.returns-in-Ok-read-clause-acts
returns-in-Ok-read-clause-acts g c =
    let u = stored_of g.U.RecoveryUnits.state c.args.stored.now in
    let new : Stored = record { volume = c.read.new.volume; units = g.U.RecoveryUnits.state c.read.new.self; in_doubt = u.in_doubt } in
    let op = c.in-Read.op in
    let e = c.in-Ok-read.ensures in
    let told = record_line op (key_of c.read.new.found) c.read.new.out in
    subst (λ a. ActsFor {T = Unit {0}} (Ok tt) (serial_of c.args.serial.now) (number_in a) (said_of a c.args.bytes.now) u new (g.E.Emit.shows c.args.out.now) (g.E.Emit.shows c.emit-in-Ok-read.new.self)) (sym c.in-Read.is)
    (asked_done (serial_of c.args.serial.now) (read_file_in op) (read_said op) u new c.requires.order refl e.works e.grows told _ _ e.images e.order (subst (λ l. IsPlain l) c.read_form.ensures.line c.read_form.ensures.plain)
    (subst (λ l. Emits (g.E.Emit.shows c.args.out.now) (l ∷ []) (g.E.Emit.shows c.emit-in-Ok-read.new.self)) c.read_form.ensures.line c.emit-in-Ok-read.ensures.emits) (λ n name file branch q up. e.done n name file branch q))
