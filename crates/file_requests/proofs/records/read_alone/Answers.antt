use Rattle.std.proofs.Common.{[], ◌∷◌, refl, subst}
use Rattle.emitter_model.specs.Emitting.{Emits}
use Rattle.vms_base.specs.Keys.{key_of}
use Rattle.recovery_units.specs.Calls.{read_said, record_line}
use Rattle.record_operations.specs.Asking.{read_file_in}
use Rattle.node_standing.specs.node_table.Code.{stored_of}
use Rattle.node_standing.specs.node_table.Standing.{Stored}
use Rattle.file_requests.specs.Replying.{IsPlain}
use Rattle.file_requests.proofs.AloneAnswers.{looked_done, looked_err, read_reads}
use Rattle.file_requests.proofs.Reading.{stored_of_volume}
use Rattle.file_requests.proofs.records.read_alone.Goals as goal

pub returns-in-Err-clause-acts : goal.returns-in-Err-clause-acts
returns-in-Err-clause-acts g c =
    let u = stored_of g.U.RecoveryUnits.state c.args.stored.now in
    let new : Stored = record { volume = c.look.new.volume; units = u.units; in_doubt = u.in_doubt } in
    let e = c.in-Err.ensures in
    looked_err (read_file_in c.args.op.now) (read_said c.args.op.now) u new c.requires.order (read_reads c.args.op.now) refl refl e.grows c.in-Err.cause c.refuse.result _ _ e.refused e.cause c.refuse.ensures.replies c.refuse.ensures.shows e.err

pub returns-in-Ok-clause-acts : goal.returns-in-Ok-clause-acts
returns-in-Ok-clause-acts g c =
    let u = stored_of g.U.RecoveryUnits.state c.args.stored.now in
    let new : Stored = record { volume = c.look.new.volume; units = u.units; in_doubt = u.in_doubt } in
    let e = c.in-Ok.ensures in
    let told = record_line c.args.op.now (key_of c.look.new.found) c.look.new.out in
    let a = g.E.Emit.shows c.args.out.now in
    let b = g.E.Emit.shows c.emit.new.self in
    looked_done (read_file_in c.args.op.now) (read_said c.args.op.now) u new c.requires.order (read_reads c.args.op.now) refl refl e.grows told a b (stored_of_volume u new e.same refl refl) (subst (λ l. IsPlain l) c.read_form.ensures.line c.read_form.ensures.plain)
    (subst (λ l. Emits a (l ∷ []) b) c.read_form.ensures.line c.emit.ensures.emits) e.done
