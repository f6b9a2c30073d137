use Rattle.std.proofs.Common.{◌++◌, [], ap, sym, subst, ◌∙◌}
use Rattle.std.specs.Option.{option_map}
use Rattle.emitter_model.specs.commit_protocol.Table.{branch_serials, record_serials}
use Rattle.emitter_model.specs.commit_protocol.World.{In}
use Rattle.run_shared.specs.LabelTable.{label_of}
use Rattle.transcript.specs.Forms.{line_of}
use Rattle.vms_base.specs.Ids.{bid_of, id_of}
use Rattle.node_table.specs.Code.{up_of}
use Rattle.node_table.specs.Standing.{Up}
use Rattle.node_requests.specs.Labelled.{branch_in, unsettled_in}
use Rattle.node_requests.specs.Running.{name_of}
use Rattle.node_requests.proofs.Beginning.{begins_surely, fresh_for, room_allows}
use Rattle.node_requests.proofs.Drawn.{drawn_up, draws}
use Rattle.node_requests.proofs.Joining.{begin_done, begin_full, begin_stands, begin_taken, begin_unauthorised, begin_unlabelled, branch_missing, found_none, found_one, labelled_free}
use Rattle.node_requests.proofs.transactions.start_branch.Goals as goal

pub returns-in_default-clause-does : goal.returns-in_default-clause-does
returns-in_default-clause-does g c =
    let old : Up = up_of g.U.RecoveryUnits.state c.args.running.now in
    begin_unlabelled c.args.label.now c.args.clock.0 old c.args.shared.now _ _ c.requires.may.up c.emit.ensures.since c.emit.ensures.emits (sym c.in_default.ensures)

pub returns-in_default-bid-clause-does : goal.returns-in_default-bid-clause-does
returns-in_default-bid-clause-does g c =
    let old : Up = up_of g.U.RecoveryUnits.state c.args.running.now in
    begin_unauthorised c.args.label.now c.args.clock.0 old c.args.shared.now _ _ c.requires.may.up (label_of c.args.label.now c.in-Some.entry) (sym c.in-Some.ensures) c.emit-in_default-bid.ensures.since c.emit-in_default-bid.ensures.emits (ap (option_map bid_of) c.in_default-bid.is)

pub returns-then-is_ok-clause-does : goal.returns-then-is_ok-clause-does
returns-then-is_ok-clause-does g c =
    let old : Up = up_of g.U.RecoveryUnits.state c.args.running.now in
    let w = found_one c.branch_labelled.result (branch_in (name_of old) c.args.label.now c.args.shared.now.labels old.tm.table) (sym c.is_ok.ensures.value ∙ c.if-is_ok.true) c.branch_labelled.ensures.found in
    begin_stands c.args.label.now c.args.clock.0 old c.args.shared.now _ _ c.requires.may.up (label_of c.args.label.now c.in-Some.entry) (sym c.in-Some.ensures) (bid_of c.in-Some-bid.bid) (ap (option_map bid_of) c.in-Some-bid.is) w.0 w.1 c.emit-then-is_ok.ensures.since c.emit-then-is_ok.ensures.emits

pub returns-in-Some-full_table-clause-does : goal.returns-in-Some-full_table-clause-does
returns-in-Some-full_table-clause-does g c =
    let old : Up = up_of g.U.RecoveryUnits.state c.args.running.now in
    let l = label_of c.args.label.now c.in-Some.entry in
    let ls = c.args.shared.now.labels in
    let w = found_none c.branch_labelled.result (unsettled_in (name_of old) c.args.label.now ls old.tm.table) (sym c.is_ok.ensures.value ∙ c.if-is_ok.false) c.branch_labelled.ensures.refused in
    let none = branch_missing (name_of old) c.args.label.now ls old.tm.table w.0 (labelled_free (name_of old) c.args.label.now ls l (sym c.in-Some.ensures)) w.1 in
    begin_full c.args.label.now c.args.clock.0 old c.args.shared.now _ _ c.requires.may.up l (sym c.in-Some.ensures) (bid_of c.in-Some-bid.bid) (ap (option_map bid_of) c.in-Some-bid.is) none
    (line_of c.in-Some-full_table.form) c.in-Some-full_table.ensures.plain c.emit-in-Some-full_table.ensures.since c.emit-in-Some-full_table.ensures.emits (sym c.in-Some-full_table.ensures.line)

pub returns-then-is_taken-clause-does : goal.returns-then-is_taken-clause-does
returns-then-is_taken-clause-does g c =
    let old : Up = up_of g.U.RecoveryUnits.state c.args.running.now in
    let l = label_of c.args.label.now c.in-Some.entry in
    let ls = c.args.shared.now.labels in
    let w = found_none c.branch_labelled.result (unsettled_in (name_of old) c.args.label.now ls old.tm.table) (sym c.is_ok.ensures.value ∙ c.if-is_ok.false) c.branch_labelled.ensures.refused in
    let none = branch_missing (name_of old) c.args.label.now ls old.tm.table w.0 (labelled_free (name_of old) c.args.label.now ls l (sym c.in-Some.ensures)) w.1 in
    begin_taken c.args.label.now c.args.clock.0 old c.args.shared.now _ _ c.requires.may.up l (sym c.in-Some.ensures) (bid_of c.in-Some-bid.bid) (ap (option_map bid_of) c.in-Some-bid.is) none
    c.emit-then-is_taken.ensures.since c.emit-then-is_taken.ensures.emits (subst (λ x. In x (branch_serials old.tm.table ++ record_serials old.tm.records)) c.next_id.ensures (c.is_taken.ensures.taken c.if-is_taken.true))

pub returns-in-Ok-clause-does : goal.returns-in-Ok-clause-does
returns-in-Ok-clause-does g c =
    let old : Up = up_of g.U.RecoveryUnits.state c.args.running.now in
    let l = label_of c.args.label.now c.in-Some.entry in
    let ls = c.args.shared.now.labels in
    let w = found_none c.branch_labelled.result (unsettled_in (name_of old) c.args.label.now ls old.tm.table) (sym c.is_ok.ensures.value ∙ c.if-is_ok.false) c.branch_labelled.ensures.refused in
    let none = branch_missing (name_of old) c.args.label.now ls old.tm.table w.0 (labelled_free (name_of old) c.args.label.now ls l (sym c.in-Some.ensures)) w.1 in
    begin_done c.args.label.now c.args.clock.0 old c.args.shared.now _ _ c.requires.may.up l (sym c.in-Some.ensures) (bid_of c.in-Some-bid.bid) (ap (option_map bid_of) c.in-Some-bid.is) none
    (sym c.in_default-full_table.ensures.line) c.the_laws.ensures.rows (draws c.the_laws.ensures.nodes c.args.clock.0 old) (up_of g.U.RecoveryUnits.state c.tell.new.self) c.tell.new.shared
    (id_of c.next_id.result) c.next_id.ensures _ c.emit-in-Ok.ensures.since c.emit-in-Ok.ensures.emits c.number.new.self c.number.ensures c.in-Ok.ensures.keeps c.in-Ok.ensures.does

pub tell-requires-clause-up : goal.tell-requires-clause-up
tell-requires-clause-up g c = drawn_up (up_of g.U.RecoveryUnits.state c.args.running.now) c.requires.may.up

pub tell-requires-clause-allowed : goal.tell-requires-clause-allowed
tell-requires-clause-allowed g c = room_allows (up_of g.U.RecoveryUnits.state c.args.running.now) c.requires.may.up (sym c.in_default-full_table.ensures.line)

pub tell-requires-clause-fresh : goal.tell-requires-clause-fresh
tell-requires-clause-fresh g c = fresh_for (up_of g.U.RecoveryUnits.state c.args.running.now) (id_of c.next_id.result) (sym c.in_default-full_table.ensures.line) (c.is_taken.ensures.free c.if-is_taken.false)

pub returns-in-Err-clause-does : goal.returns-in-Err-clause-does
returns-in-Err-clause-does g c = absurd (begins_surely c.args.running.now.table (id_of c.next_id.result) (id_of c.next_id.result) (id_of c.next_id.result) [] c.in-Err.ensures.keeps.uses)
