use Rattle.std.proofs.Common.{[], None, sym, subst, ◌++◌}
use Rattle.emitter_model.specs.commit_protocol.Table.{branch_serials, record_serials}
use Rattle.emitter_model.specs.commit_protocol.World.{In}
use Rattle.transcript.specs.Forms.{line_of}
use Rattle.vms_base.specs.Ids.{id_of}
use Rattle.node_table.specs.Code.{up_of}
use Rattle.node_requests.proofs.Beginning.{fresh_for, room_allows, starts_surely}
use Rattle.node_requests.proofs.Drawn.{drawn_up, draws}
use Rattle.node_requests.proofs.Starting.{made_free, start_done, start_full, start_taken, start_unlabelled, start_untimed}
use Rattle.node_requests.proofs.transactions.start.Goals as goal

pub returns-then-not-may_make-clause-does : goal.returns-then-not-may_make-clause-does
returns-then-not-may_make-clause-does g c = start_unlabelled c.args.label.now c.args.seconds c.args.clock.0 (up_of g.U.RecoveryUnits.state c.args.running.now) c.args.shared.now _ _ c.requires.may.up c.emit.ensures.since c.emit.ensures.emits (c.may_make.ensures.no c.if-not-may_make.true)

pub returns-then-not-are_seconds-clause-does : goal.returns-then-not-are_seconds-clause-does
returns-then-not-are_seconds-clause-does g c =
    start_untimed c.args.label.now c.args.seconds c.args.clock.0 (up_of g.U.RecoveryUnits.state c.args.running.now) c.args.shared.now _ _ c.requires.may.up (made_free _ _ (c.may_make.ensures.yes c.if-not-may_make.false)) c.emit-then-not-are_seconds.ensures.since c.emit-then-not-are_seconds.ensures.emits (c.are_seconds.ensures.no c.if-not-are_seconds.true)

pub returns-in-Some-clause-does : goal.returns-in-Some-clause-does
returns-in-Some-clause-does g c =
    start_full c.args.label.now c.args.seconds c.args.clock.0 (up_of g.U.RecoveryUnits.state c.args.running.now) c.args.shared.now _ _ c.requires.may.up (made_free _ _ (c.may_make.ensures.yes c.if-not-may_make.false)) (c.are_seconds.ensures.yes c.if-not-are_seconds.false) (line_of c.in-Some.form) c.in-Some.ensures.plain c.emit-in-Some.ensures.since c.emit-in-Some.ensures.emits (sym c.in-Some.ensures.line)

pub returns-then-is_taken-clause-does : goal.returns-then-is_taken-clause-does
returns-then-is_taken-clause-does g c =
    start_taken c.args.label.now c.args.seconds c.args.clock.0 (up_of g.U.RecoveryUnits.state c.args.running.now) c.args.shared.now _ _ c.requires.may.up (made_free _ _ (c.may_make.ensures.yes c.if-not-may_make.false)) (c.are_seconds.ensures.yes c.if-not-are_seconds.false) c.emit-then-is_taken.ensures.since c.emit-then-is_taken.ensures.emits
    (subst (λ x. In x (branch_serials c.args.running.now.table.table ++ record_serials c.args.running.now.table.records)) c.next_id.ensures (c.is_taken.ensures.taken c.if-is_taken.true))

pub returns-in-Ok-clause-does : goal.returns-in-Ok-clause-does
returns-in-Ok-clause-does g c =
    start_done c.args.label.now c.args.seconds c.args.clock.0 (up_of g.U.RecoveryUnits.state c.args.running.now) c.args.shared.now _ _ c.requires.may.up (made_free _ _ (c.may_make.ensures.yes c.if-not-may_make.false)) (c.are_seconds.ensures.yes c.if-not-are_seconds.false) (sym c.in_default.ensures.line) c.the_laws.ensures.rows (draws c.the_laws.ensures.nodes c.args.clock.0 (up_of g.U.RecoveryUnits.state c.args.running.now))
    (up_of g.U.RecoveryUnits.state c.tell.new.self) c.tell.new.shared (id_of c.next_id.result) c.next_id.ensures _ c.name.ensures _ c.due_after.ensures _ c.emit-in-Ok.ensures.since c.emit-in-Ok.ensures.emits c.make.new.self c.make.ensures c.in-Ok.ensures.keeps c.in-Ok.ensures.does

pub returns-in-Err-clause-does : goal.returns-in-Err-clause-does
returns-in-Err-clause-does g c = absurd (starts_surely c.args.running.now.table (id_of c.next_id.result) None [] c.in-Err.ensures.keeps.uses)

pub tell-requires-clause-up : goal.tell-requires-clause-up
tell-requires-clause-up g c = drawn_up (up_of g.U.RecoveryUnits.state c.args.running.now) c.requires.may.up

pub tell-requires-clause-allowed : goal.tell-requires-clause-allowed
tell-requires-clause-allowed g c = room_allows (up_of g.U.RecoveryUnits.state c.args.running.now) c.requires.may.up (sym c.in_default.ensures.line)

pub tell-requires-clause-fresh : goal.tell-requires-clause-fresh
tell-requires-clause-fresh g c = fresh_for (up_of g.U.RecoveryUnits.state c.args.running.now) (id_of c.next_id.result) (sym c.in_default.ensures.line) (c.is_taken.ensures.free c.if-is_taken.false)
