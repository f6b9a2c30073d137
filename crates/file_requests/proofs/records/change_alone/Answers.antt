use Rattle.std.proofs.Common.{[], ◌∷◌, refl, subst}
use Rattle.emitter_model.specs.Emitting.{Emits}
use Rattle.emitter_model.proofs.EmittingLemmas.{emits_on}
use Rattle.vms_base.specs.Ids.{id_of}
use Rattle.recovery_units.specs.Calls.{change_said, position_line}
use Rattle.record_operations.specs.Asking.{file_in}
use Rattle.node_standing.specs.node_table.Code.{stored_of}
use Rattle.node_standing.specs.node_table.Standing.{Stored}
use Rattle.file_requests.specs.Asking.{ShowsCause}
use Rattle.file_requests.specs.Replying.{IsPlain, RepliesIf}
use Rattle.file_requests.proofs.AloneAnswers.{alone_done, alone_fell, alone_refused, change_changes}
use Rattle.file_requests.proofs.records.change_alone.Goals as goal

pub returns-in-Err-refuse-clause-acts : goal.returns-in-Err-refuse-clause-acts
returns-in-Err-refuse-clause-acts g c =
    let u = stored_of g.U.RecoveryUnits.state c.args.stored.now in
    let new : Stored = record { volume = c.direct.new.volume; units = g.U.RecoveryUnits.state c.direct.new.self; in_doubt = u.in_doubt } in
    let e = c.in-Err.ensures in
    let a = g.E.Emit.shows c.args.out.now in
    let b = g.E.Emit.shows c.refuse.new.out in
    let shows = subst (λ r. ShowsCause c.in-Err.cause r a b) c.in-Err-refuse.is c.refuse.ensures.shows in
    alone_fell (id_of c.args.id.now) c.args.clock.0 (file_in c.args.op.now) (change_said c.args.op.now c.args.bytes.now) u new c.requires.order (change_changes c.args.op.now c.args.bytes.now) e.units refl e.grows c.in-Err.cause c.in-Err-refuse.down a b e.cause
    (subst (λ r. RepliesIf r a b) c.in-Err-refuse.is c.refuse.ensures.replies) shows.0 shows.1 shows.2 e.err

pub returns-in-Ok-refuse-clause-acts : goal.returns-in-Ok-refuse-clause-acts
returns-in-Ok-refuse-clause-acts g c =
    let u = stored_of g.U.RecoveryUnits.state c.args.stored.now in
    let new : Stored = record { volume = c.direct.new.volume; units = g.U.RecoveryUnits.state c.direct.new.self; in_doubt = u.in_doubt } in
    let e = c.in-Err.ensures in
    let a = g.E.Emit.shows c.args.out.now in
    let b = g.E.Emit.shows c.refuse.new.out in
    let shows = subst (λ r. ShowsCause c.in-Err.cause r a b) c.in-Ok-refuse.is c.refuse.ensures.shows in
    alone_refused (id_of c.args.id.now) c.args.clock.0 (file_in c.args.op.now) (change_said c.args.op.now c.args.bytes.now) u new c.requires.order (change_changes c.args.op.now c.args.bytes.now) e.units refl e.grows c.in-Err.cause shows.0 a b e.same
    (subst (λ r. RepliesIf r a b) c.in-Ok-refuse.is c.refuse.ensures.replies) shows.1 shows.2 e.err

pub returns-in-Ok-clause-acts : goal.returns-in-Ok-clause-acts
returns-in-Ok-clause-acts g c =
    let u = stored_of g.U.RecoveryUnits.state c.args.stored.now in
    let new : Stored = record { volume = c.direct.new.volume; units = g.U.RecoveryUnits.state c.direct.new.self; in_doubt = u.in_doubt } in
    let e = c.in-Ok.ensures in
    let told = position_line c.in-Ok.position in
    let a = g.E.Emit.shows c.args.out.now in
    let mid = g.E.Emit.shows c.emit.new.self in
    let b = g.E.Emit.shows c.emit-in-Ok.new.self in
    alone_done (id_of c.args.id.now) c.args.clock.0 (file_in c.args.op.now) (change_said c.args.op.now c.args.bytes.now) u new c.requires.order (change_changes c.args.op.now c.args.bytes.now) e.units refl e.grows c.in-Ok.moment.0 told a b e.images e.order (subst (λ l. IsPlain l) c.change_form.ensures.line c.change_form.ensures.plain)
    (emits_on a mid b _ _ c.emit.ensures.emits (subst (λ l. Emits mid (l ∷ []) b) c.change_form.ensures.line c.emit-in-Ok.ensures.emits)) e.done
