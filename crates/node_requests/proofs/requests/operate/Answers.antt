use Rattle.std.proofs.Common.{Ok, ap, refl, sym, subst, ◌∙◌}
use Rattle.script_lang.specs.script_model.Statements as said
use Rattle.transcript.specs.Forms.{line_of}
use Rattle.emitter_model.specs.transcript_model.Lines as line
use Rattle.script_lang.specs.Statements.{operation_of}
use Rattle.directory_model.specs.Files.{IsNamed}
use Rattle.vms_base.specs.Ids.{serial_of}
use Rattle.run_shared.specs.LabelTable.{label_of}
use Rattle.file_requests.specs.Asking.{number_in, said_of}
use Rattle.node_table.specs.Code.{up_of}
use Rattle.node_table.specs.Standing.{Up}
use Rattle.node_requests.specs.Requests.{DoesRequest}
use Rattle.node_requests.proofs.Recorded.{records_absent, records_done, records_misformed, records_unlabelled, records_unworked}
use Rattle.node_requests.proofs.requests.operate.Goals as goal

pub returns-in_default-clause-does : goal.returns-in_default-clause-does
returns-in_default-clause-does g c = records_unlabelled c.files_are_found_by_name.ensures c.the_laws.ensures.rows c.args.name.now (operation_of c.args.lit.now c.args.operation.now) c.args.clock.0 (up_of g.U.RecoveryUnits.state c.args.running.now) c.args.shared.now _ _ c.args.label.now
    c.requires.may.up c.emit.ensures.since (sym c.in_default.ensures) c.emit.ensures.emits

pub returns-in_default-find_file-clause-does : goal.returns-in_default-find_file-clause-does
returns-in_default-find_file-clause-does g c = records_absent c.files_are_found_by_name.ensures c.the_laws.ensures.rows c.args.name.now (operation_of c.args.lit.now c.args.operation.now) c.args.clock.0 (up_of g.U.RecoveryUnits.state c.args.running.now) c.args.shared.now _ _ c.args.label.now
    c.requires.may.up c.emit-in_default-find_file.ensures.since (label_of c.args.label.now c.in-Some.entry) (sym c.in-Some.ensures) c.in_default-find_file.ensures.none c.emit-in_default-find_file.ensures.emits

pub returns-in_default-asked_of-clause-does : goal.returns-in_default-asked_of-clause-does
returns-in_default-asked_of-clause-does g c =
    let head = c.in-Some-find_file.head in
    records_misformed c.files_are_found_by_name.ensures c.the_laws.ensures.rows c.args.name.now (operation_of c.args.lit.now c.args.operation.now) c.args.clock.0 (up_of g.U.RecoveryUnits.state c.args.running.now) c.args.shared.now _ _ c.args.label.now
    c.requires.may.up c.emit-in_default-asked_of.ensures.since (label_of c.args.label.now c.in-Some.entry) c.in-Some-find_file.file head line.BadParameter (sym c.in-Some.ensures) c.in-Some-find_file.ensures.found.1 (λ file k. c.in_default-asked_of.ensures.none head file k) refl refl c.emit-in_default-asked_of.ensures.emits

pub returns-in-Some-refused_form-clause-does : goal.returns-in-Some-refused_form-clause-does
returns-in-Some-refused_form-clause-does g c =
    let head = c.in-Some-find_file.head in
    let old : Up = up_of g.U.RecoveryUnits.state c.args.running.now in
    let asked = c.in-Some-asked_of.asked in
    let is = ap (said_of asked) c.bytes-bytes.ensures.value ∙ c.in-Some-asked_of.ensures.said in
    let refused = c.in-Some-refused_form.ensures in
    subst (λ op. DoesRequest {T = Unit {0}} (Ok tt) (said.Records c.args.label.now c.args.name.now op) c.args.clock.0 old old c.args.shared.now c.args.shared.now (g.E.Emit.shows c.args.out.now) (g.E.Emit.shows c.emit-in-Some-refused_form.new.self)) is
    (records_misformed c.files_are_found_by_name.ensures c.the_laws.ensures.rows c.args.name.now (said_of asked c.bytes-bytes.result.now) c.args.clock.0 old c.args.shared.now _ _ c.args.label.now c.requires.may.up c.emit-in-Some-refused_form.ensures.since (label_of c.args.label.now c.in-Some.entry) c.in-Some-find_file.file head
    (line_of c.in-Some-refused_form.form) (sym c.in-Some.ensures) c.in-Some-find_file.ensures.found.1 (λ file k. sym (refused.form file k)) refused.plain.0 refused.plain.1 c.emit-in-Some-refused_form.ensures.emits)

pub returns-in-Err-clause-does : goal.returns-in-Err-clause-does
returns-in-Err-clause-does g c =
    let head = c.in-Some-find_file.head in
    let old : Up = up_of g.U.RecoveryUnits.state c.args.running.now in
    let asked = c.in-Some-asked_of.asked in
    let is = ap (said_of asked) c.bytes-bytes.ensures.value ∙ c.in-Some-asked_of.ensures.said in
    let refused = c.in-Err.ensures in
    subst (λ op. DoesRequest {T = Unit {0}} (Ok tt) (said.Records c.args.label.now c.args.name.now op) c.args.clock.0 old old c.args.shared.now c.args.shared.now (g.E.Emit.shows c.args.out.now) (g.E.Emit.shows c.emit-in-Err.new.self)) is
    (records_unworked c.files_are_found_by_name.ensures c.the_laws.ensures.rows c.args.name.now (said_of asked c.bytes-bytes.result.now) c.args.clock.0 old c.args.shared.now _ _ c.args.label.now c.requires.may.up c.emit-in-Err.ensures.since (label_of c.args.label.now c.in-Some.entry) c.in-Some-find_file.file head (line_of c.in-Err.form)
    (sym c.in-Some.ensures) c.in-Some-find_file.ensures.found.1 (λ file k. sym (c.in_default-refused_form.ensures.form file k)) refused.refused refused.plain.0 refused.plain.1 c.emit-in-Err.ensures.emits)

pub returns-in-Ok-clause-does : goal.returns-in-Ok-clause-does
returns-in-Ok-clause-does g c =
    let head = c.in-Some-find_file.head in
    let old : Up = up_of g.U.RecoveryUnits.state c.args.running.now in
    let new : Up = up_of g.U.RecoveryUnits.state c.operate_in.new.running in
    let asked = c.in-Some-asked_of.asked in
    let is = ap (said_of asked) c.bytes-bytes.ensures.value ∙ c.in-Some-asked_of.ensures.said in
    let w = c.in-Ok.ensures.works in
    let named = subst (λ f. IsNamed old.stored.volume.catalog.heads f head c.args.name.now) (sym c.in-Some-asked_of.ensures.file) c.in-Some-find_file.ensures.found.1 in
    subst (λ op. DoesRequest c.operate_in.result (said.Records c.args.label.now c.args.name.now op) c.args.clock.0 old new c.args.shared.now c.args.shared.now (g.E.Emit.shows c.args.out.now) (g.E.Emit.shows c.operate_in.new.out)) is
    (records_done c.files_are_found_by_name.ensures c.the_laws.ensures.rows c.args.name.now (said_of asked c.bytes-bytes.result.now) c.args.clock.0 old c.args.shared.now _ _ c.args.label.now c.operate_in.result (serial_of c.in-Ok.serial) (number_in asked) head new (label_of c.args.label.now c.in-Some.entry) w.1.0 (sym c.in-Some.ensures) w.0 w.1.1 w.1.2
    named c.operate_in.ensures.does)
