use Rattle.std.proofs.Common.{ap, refl, sym, subst, ◌∙◌}
use Rattle.script_lang.specs.script_model.Statements as said
use Rattle.emitter_model.specs.transcript_model.Lines as line
use Rattle.script_lang.specs.Statements.{operation_of}
use Rattle.directory_model.specs.Files.{IsNamed}
use Rattle.file_requests.specs.Asking.{number_in, said_of}
use Rattle.node_table.specs.Code.{up_of}
use Rattle.node_table.specs.Standing.{Up}
use Rattle.node_requests.specs.Requests.{DoesRequest}
use Rattle.node_requests.proofs.Recorded.{alone_absent, alone_misformed, direct_done}
use Rattle.node_requests.proofs.requests.operate_alone.Goals as goal

pub returns-in_default-clause-does : goal.returns-in_default-clause-does
returns-in_default-clause-does g c = alone_absent c.files_are_found_by_name.ensures c.the_laws.ensures.rows c.args.name.now (operation_of c.args.lit.now c.args.operation.now) c.args.clock.0 (up_of g.U.RecoveryUnits.state c.args.running.now) c.args.shared.now _ _
    c.requires.may.up c.emit.ensures.since c.in_default.ensures.none c.emit.ensures.emits

pub returns-in-None-clause-does : goal.returns-in-None-clause-does
returns-in-None-clause-does g c =
    let head = c.in-Some.field-0-1 in
    alone_misformed c.files_are_found_by_name.ensures c.the_laws.ensures.rows c.args.name.now (operation_of c.args.lit.now c.args.operation.now) c.args.clock.0 (up_of g.U.RecoveryUnits.state c.args.running.now) c.args.shared.now _ _
    c.requires.may.up c.emit-in-None.ensures.since c.in-Some.file head line.BadParameter c.in-Some.ensures.found.1 (λ file k. c.in-None.ensures.none head file k) refl refl c.emit-in-None.ensures.emits

pub returns-in-Some-asked_of-clause-does : goal.returns-in-Some-asked_of-clause-does
returns-in-Some-asked_of-clause-does g c =
    let head = c.in-Some.field-0-1 in
    let old : Up = up_of g.U.RecoveryUnits.state c.args.running.now in
    let new : Up = up_of g.U.RecoveryUnits.state c.act_alone.new.running in
    let asked = c.in-Some-asked_of.asked in
    let is = ap (said_of asked) c.bytes.ensures.value ∙ c.in-Some-asked_of.ensures.said in
    let named = subst (λ f. IsNamed old.stored.volume.catalog.heads f head c.args.name.now) (sym c.in-Some-asked_of.ensures.file) c.in-Some.ensures.found.1 in
    subst (λ op. DoesRequest c.act_alone.result (said.Direct c.args.name.now op) c.args.clock.0 old new c.args.shared.now c.args.shared.now (g.E.Emit.shows c.args.out.now) (g.E.Emit.shows c.act_alone.new.out)) is
    (direct_done c.files_are_found_by_name.ensures c.the_laws.ensures.rows c.args.name.now (said_of asked c.bytes.result.now) c.args.clock.0 old c.args.shared.now _ _ c.act_alone.result (number_in asked) head new named c.act_alone.ensures.does)
