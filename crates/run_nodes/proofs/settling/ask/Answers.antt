use Rattle.std.specs.Prelude.{slice_get}
use Rattle.std.specs.Option.{option_map}
use Rattle.std.proofs.Common.{◌≡◌, ◌<◌, length, Some, None, true, false, refl, sym, ◌∙◌, ap, subst}
use Rattle.net_wire.specs.Messages.{message_of}
use Rattle.vms_base.specs.Ids.{serial_of}
use Rattle.said_steps.specs.run_model.Answers.{Hears}
use Rattle.said_steps.specs.run_model.World.{Node}
use Rattle.said_steps.proofs.run_model.NodeLists.{some_is}
use Rattle.dtm_node.specs.Asking.{is_over}
use Rattle.statement_steps.specs.Settling.{question_in}
use Rattle.statement_steps.proofs.Rising.{up_at}
use Rattle.run_nodes.specs.Held.{kept_all, names_of}
use Rattle.run_nodes.specs.Names.{AreApart, is_among}
use Rattle.dtm_node.specs.node_standing.Standing.{NodeState}
use Rattle.run_nodes.specs.Told.{TurnOver, TurnTold, kept_names}
use Rattle.run_nodes.specs.Phases.{AskedOne}
use Rattle.run_nodes.specs.Tasks.{DoesTask}
use Rattle.run_nodes.proofs.Askings.{asked_hears, asked_none, asked_vain, asks_inquire, asks_so, coordinator_there, ended_hears, ended_nobody, question_kept}
use Rattle.run_nodes.proofs.Entries.{same_names}
use Rattle.run_nodes.proofs.Loops.{flow_over, flow_turn, quiet_hears}
use Rattle.run_nodes.proofs.Places.{get_map, it, kept_at_place, missing}
use Rattle.run_nodes.proofs.Restarts.{answer_over, turn_none}
use Rattle.run_nodes.proofs.Turns.{kept_within}
use Rattle.run_nodes.proofs.settling.ask.Goals as goal

pub returns-in_default-clause-told : goal.returns-in_default-clause-told
returns-in_default-clause-told g c = λ over. turn_none (names_of c.args.nodes.now) (kept_all g.D.Disk.state g.U.RecoveryUnits.state c.args.nodes.now) c.args.shared.now (g.E.Emit.shows c.args.out.now)

pub returns-in_default-clause-asked : goal.returns-in_default-clause-asked
returns-in_default-clause-asked g c = λ over logs w v name serials many unanswered a h next.
    let state = g.D.Disk.state in
    let units = g.U.RecoveryUnits.state in
    let ns = c.args.nodes.now in
    let ks = kept_all state units ns in
    let s = c.args.shared.now in
    let same = same_names state units c.requires.nodes.0 s ns.nodes.entries c.requires.nodes.2 in
    let k = kept_within state units ns.nodes.entries c.args.place c.requires.there in
    let i = it logs ks s h.world h.stands (subst AreApart same c.requires.apart) c.args.place k.0 k.1 in
    let here : i.node ≡ h.node = some_is i.node h.node (sym i.at ∙ h.at) in
    let none : question_in (serial_of c.args.serial.now) i.node.volatile.branches ≡ None =
    sym (question_kept i.log k.0 i.node (serial_of c.args.serial.now) i.stands (up_at h.world.nodes c.args.place i.node h.up i.at)) ∙ sym (c.question.ensures k.0 k.1) ∙ ap (option_map message_of) c.in_default.is in
    asked_none logs w v c.args.place name serials many unanswered (serial_of c.args.serial.now) a (g.E.Emit.shows c.args.out.now) ks s h next (subst (λ (n : Node). question_in (serial_of c.args.serial.now) n.volatile.branches ≡ None) here none)

pub returns-in_default-receiver-clause-answered : goal.returns-in_default-receiver-clause-answered
returns-in_default-receiver-clause-answered g c = λ over.
    answer_over (names_of c.args.nodes.now) _ (kept_all g.D.Disk.state g.U.RecoveryUnits.state c.args.nodes.now) c.args.shared.now (g.E.Emit.shows c.args.out.now) (g.E.Emit.shows c.emit.new.self) c.emit.ensures.emits (λ said. refl) refl refl refl

pub answer-requires : goal.answer-requires
answer-requires g c =
    let k = kept_within g.D.Disk.state g.U.RecoveryUnits.state c.args.nodes.now.nodes.entries c.args.place c.requires.there in
    record { asks = asks_inquire (serial_of c.args.serial.now) k.0.place (message_of c.in-Some.question) (sym (c.question.ensures k.0 k.1) ∙ ap (option_map message_of) c.in-Some.is) }

pub returns-in_default-answer-clause-nodes : goal.returns-in_default-answer-clause-nodes
returns-in_default-answer-clause-nodes g c = λ count h. c.answer.ensures.nodes count c.args.shared.now h

pub returns-in_default-answer-clause-told : goal.returns-in_default-answer-clause-told
returns-in_default-answer-clause-told g c = λ over.
    let ks = kept_all g.D.Disk.state g.U.RecoveryUnits.state c.args.nodes.now in
    let a = g.E.Emit.shows c.args.out.now in
    subst (λ ms. TurnTold (names_of c.args.nodes.now) ks c.args.shared.now a a ms c.args.shared.now) (sym c.answer.ensures.kept) (turn_none (names_of c.args.nodes.now) ks c.args.shared.now a)

pub hear-requires-clause-there : goal.hear-requires-clause-there
hear-requires-clause-there g c = subst (λ ns. c.args.place < length ns) (sym c.answer.ensures.names) c.requires.there

pub hear-requires-clause-nodes : goal.hear-requires-clause-nodes
hear-requires-clause-nodes g c = (c.requires.nodes.0, c.requires.nodes.1, c.answer.ensures.nodes c.requires.nodes.0 c.args.shared.now c.requires.nodes.2)

pub returns-clause-nodes : goal.returns-clause-nodes
returns-clause-nodes g c = λ count h. c.hear.ensures.nodes count (c.answer.ensures.nodes count c.args.shared.now h)

pub returns-clause-told : goal.returns-clause-told
returns-clause-told g c = λ on.
    let state = g.D.Disk.state in
    let units = g.U.RecoveryUnits.state in
    let ns = c.args.nodes.now in
    let s = c.args.shared.now in
    let same = same_names state units c.requires.nodes.0 s ns.nodes.entries c.requires.nodes.2 ∙ ap kept_names (sym c.answer.ensures.kept) in
    let a = g.E.Emit.shows c.args.out.now in
    let b = g.E.Emit.shows c.hear.new.out in
    let ls = kept_all state units c.hear.new.self in
    let m = message_of c.in-Some-answer.answer in
    subst (λ ms. TurnTold (names_of ns) ms s a b ls c.hear.new.shared) c.answer.ensures.kept
    (flow_turn (names_of ns) c.args.place (Hears m) (is_over c.hear.result) (kept_all state units c.answer.new.self) s a b ls c.hear.new.shared same c.requires.apart (quiet_hears m) c.hear.ensures.does on)

pub returns-clause-answered : goal.returns-clause-answered
returns-clause-answered g c = λ over.
    let state = g.D.Disk.state in
    let units = g.U.RecoveryUnits.state in
    let ns = c.args.nodes.now in
    let s = c.args.shared.now in
    let same = same_names state units c.requires.nodes.0 s ns.nodes.entries c.requires.nodes.2 ∙ ap kept_names (sym c.answer.ensures.kept) in
    let a = g.E.Emit.shows c.args.out.now in
    let b = g.E.Emit.shows c.hear.new.out in
    let ls = kept_all state units c.hear.new.self in
    let m = message_of c.in-Some-answer.answer in
    subst (λ ms. TurnOver (names_of ns) ms s a b ls c.hear.new.shared) c.answer.ensures.kept
    (flow_over (names_of ns) c.args.place (Hears m) (is_over c.hear.result) (kept_all state units c.answer.new.self) s a b ls c.hear.new.shared same c.requires.apart (quiet_hears m) c.hear.ensures.does over)

pub returns-in_default-receiver-clause-ended : goal.returns-in_default-receiver-clause-ended
returns-in_default-receiver-clause-ended g c = λ over logs w v name serials many unanswered a h next.
    let state = g.D.Disk.state in
    let units = g.U.RecoveryUnits.state in
    let ns = c.args.nodes.now in
    let ks = kept_all state units ns in
    let s = c.args.shared.now in
    let same = same_names state units c.requires.nodes.0 s ns.nodes.entries c.requires.nodes.2 in
    let apart = subst AreApart same c.requires.apart in
    let serial = serial_of c.args.serial.now in
    let x = g.E.Emit.shows c.args.out.now in
    let q = message_of c.in-Some.question in
    let k = kept_within state units ns.nodes.entries c.args.place c.requires.there in
    let asks = asks_so logs w v c.args.place name serials many unanswered serial a x ks s apart h k.0 k.1 (Some q) (sym (c.question.ensures k.0 k.1) ∙ ap (option_map message_of) c.in-Some.is) in
    ended_nobody logs w v c.args.place name serials many unanswered serial a x (g.E.Emit.shows c.emit.new.self) ks s h next q asks (missing logs ks s h.world h.stands apart q.to (ap (is_among q.to) (sym same) ∙ c.in_default-receiver.ensures.missing)) c.emit.ensures.emits

pub returns-in_default-answer-clause-asked : goal.returns-in_default-answer-clause-asked
returns-in_default-answer-clause-asked g c = λ on logs w v name serials many unanswered a h next.
    let state = g.D.Disk.state in
    let units = g.U.RecoveryUnits.state in
    let ns = c.args.nodes.now in
    let ks = kept_all state units ns in
    let s = c.args.shared.now in
    let same = same_names state units c.requires.nodes.0 s ns.nodes.entries c.requires.nodes.2 in
    let apart = subst AreApart same c.requires.apart in
    let serial = serial_of c.args.serial.now in
    let x = g.E.Emit.shows c.args.out.now in
    let q = message_of c.in-Some.question in
    let k = kept_within state units ns.nodes.entries c.args.place c.requires.there in
    let asks = asks_so logs w v c.args.place name serials many unanswered serial a x ks s apart h k.0 k.1 (Some q) (sym (c.question.ensures k.0 k.1) ∙ ap (option_map message_of) c.in-Some.is) in
    let there = ap (λ xs. slice_get xs c.in-Some-receiver.coordinator) (sym same) ∙ c.in-Some-receiver.ensures.there in
    let co = coordinator_there logs w v c.args.place name serials many unanswered serial a x ks s apart h c.in-Some-receiver.coordinator q.to there q in
    let kc = kept_at_place ks c.in-Some-receiver.coordinator q.to there in
    let vain = co.2 kc.kept kc.here None (sym (c.answer.ensures.answer kc.kept kc.here) ∙ ap (option_map message_of) c.in_default-answer.is) in
    subst (λ ms. AskedOne logs w v c.args.place name serials many unanswered serial a x ms s) (sym c.answer.ensures.kept) (asked_vain logs w v c.args.place name serials many unanswered serial a x ks s h next q co.0 asks co.1 vain)

pub returns-clause-asked : goal.returns-clause-asked
returns-clause-asked g c = λ on logs w v name serials many unanswered a h next.
    let state = g.D.Disk.state in
    let units = g.U.RecoveryUnits.state in
    let ns = c.args.nodes.now in
    let ks = kept_all state units ns in
    let s = c.args.shared.now in
    let same = same_names state units c.requires.nodes.0 s ns.nodes.entries c.requires.nodes.2 in
    let apart = subst AreApart same c.requires.apart in
    let serial = serial_of c.args.serial.now in
    let x = g.E.Emit.shows c.args.out.now in
    let q = message_of c.in-Some.question in
    let k = kept_within state units ns.nodes.entries c.args.place c.requires.there in
    let asks = asks_so logs w v c.args.place name serials many unanswered serial a x ks s apart h k.0 k.1 (Some q) (sym (c.question.ensures k.0 k.1) ∙ ap (option_map message_of) c.in-Some.is) in
    let there = ap (λ xs. slice_get xs c.in-Some-receiver.coordinator) (sym same) ∙ c.in-Some-receiver.ensures.there in
    let co = coordinator_there logs w v c.args.place name serials many unanswered serial a x ks s apart h c.in-Some-receiver.coordinator q.to there q in
    let kc = kept_at_place ks c.in-Some-receiver.coordinator q.to there in
    let m = message_of c.in-Some-answer.answer in
    let answer = co.2 kc.kept kc.here (Some m) (sym (c.answer.ensures.answer kc.kept kc.here) ∙ ap (option_map message_of) c.in-Some-answer.is) in
    let b = g.E.Emit.shows c.hear.new.out in
    let ls = kept_all state units c.hear.new.self in
    let t = c.hear.new.shared in
    let d = subst (λ e. DoesTask c.args.place (Hears m) e e ks s x b ls t) on (subst (λ ms. DoesTask c.args.place (Hears m) (is_over c.hear.result) (is_over c.hear.result) ms s x b ls t) c.answer.ensures.kept c.hear.ensures.does) in
    asked_hears c.worlds_stay_within.ensures.stays logs w v c.args.place name serials many unanswered serial a x b ks s ls t apart h next q co.0 m asks co.1 answer d

pub returns-clause-ended : goal.returns-clause-ended
returns-clause-ended g c = λ over logs w v name serials many unanswered a h next.
    let state = g.D.Disk.state in
    let units = g.U.RecoveryUnits.state in
    let ns = c.args.nodes.now in
    let ks = kept_all state units ns in
    let s = c.args.shared.now in
    let same = same_names state units c.requires.nodes.0 s ns.nodes.entries c.requires.nodes.2 in
    let apart = subst AreApart same c.requires.apart in
    let serial = serial_of c.args.serial.now in
    let x = g.E.Emit.shows c.args.out.now in
    let q = message_of c.in-Some.question in
    let k = kept_within state units ns.nodes.entries c.args.place c.requires.there in
    let asks = asks_so logs w v c.args.place name serials many unanswered serial a x ks s apart h k.0 k.1 (Some q) (sym (c.question.ensures k.0 k.1) ∙ ap (option_map message_of) c.in-Some.is) in
    let there = ap (λ xs. slice_get xs c.in-Some-receiver.coordinator) (sym same) ∙ c.in-Some-receiver.ensures.there in
    let co = coordinator_there logs w v c.args.place name serials many unanswered serial a x ks s apart h c.in-Some-receiver.coordinator q.to there q in
    let kc = kept_at_place ks c.in-Some-receiver.coordinator q.to there in
    let m = message_of c.in-Some-answer.answer in
    let answer = co.2 kc.kept kc.here (Some m) (sym (c.answer.ensures.answer kc.kept kc.here) ∙ ap (option_map message_of) c.in-Some-answer.is) in
    let b = g.E.Emit.shows c.hear.new.out in
    let ls = kept_all state units c.hear.new.self in
    let t = c.hear.new.shared in
    let d = subst (λ e. DoesTask c.args.place (Hears m) e e ks s x b ls t) over (subst (λ ms. DoesTask c.args.place (Hears m) (is_over c.hear.result) (is_over c.hear.result) ms s x b ls t) c.answer.ensures.kept c.hear.ensures.does) in
    ended_hears logs w v c.args.place name serials many unanswered serial a x b ks s ls t apart h next q co.0 m asks co.1 answer d
