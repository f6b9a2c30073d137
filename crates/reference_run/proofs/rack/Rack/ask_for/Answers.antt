use Rattle.std.proofs.Common.{◌+◌, sym, ap, subst, ◌∙◌, map, arith}
use Rattle.std.specs.Option.{option_map}
use Rattle.std.proofs.lemmas.Result.{IfOk-weaker}
use Rattle.world_laws.specs.run_model.Statements.{Asks}
use Rattle.net_wire.specs.Messages.{message_of}
use Rattle.reference_world.specs.Standing.{branch_key_of, line_of}
use Rattle.reference_tasks.specs.reference_node.Nodes.{node_of}
use Rattle.reference_branches.specs.Branches.{shared_of}
use Rattle.reference_run.specs.Served.{IsHeard, IsPart, answer_there, moved, world_of}
use Rattle.reference_run.proofs.StatementLemmas.{asks_doubtful, asks_heard_so}
use Rattle.reference_run.proofs.RackLemmas.{taken_out}
use Rattle.reference_run.proofs.FitLemmas.{fit_less, fit_same}
use Rattle.reference_run.proofs.rack.Rack.ask_for.Goals as goal

pub returns-in-None-clause-part : goal.returns-in-None-clause-part
returns-in-None-clause-part c =
    let w = world_of c.args.self.now in
    let out = taken_out c.replace-nodes.result c.args.self.now.nodes c.replace-nodes.ensures.value in
    let same = ap (λ ns. moved ns (shared_of c.args.self.now.shared)) ((c.in_ok-answered).ensures.nodes ∙ out) in
    let k = branch_key_of c.args.branch.now in
    λ node serial e. subst (IsPart (Asks node serial) w c.ended.result) (sym same) (asks_doubtful w node serial k c.ended.result e
    (sym (ap (option_map (option_map message_of)) c.in-None.is) ∙ (c.in_ok-answered).ensures.answer ∙ ap (answer_there c.args.branch.now.tid.node k) out)
    c.ended.ensures.lines (ap line_of c.ended.ensures.answer) c.ended.ensures.ends)

pub returns-in-None-clause-fit : goal.returns-in-None-clause-fit
returns-in-None-clause-fit c = λ units h. fit_same units _ (world_of c.args.self.now) (ap (λ ns. moved ns (shared_of c.args.self.now.shared)) ((c.in_ok-answered).ensures.nodes ∙ taken_out c.replace-nodes.result c.args.self.now.nodes c.replace-nodes.ensures.value)) (fit_less (units + 1) units (world_of c.args.self.now) (omega arith) h)

pub returns-in-Some-clause-part : goal.returns-in-Some-clause-part
returns-in-Some-clause-part c =
    let w = world_of c.args.self.now in
    let out = taken_out c.replace-nodes.result c.args.self.now.nodes c.replace-nodes.ensures.value in
    let same = ap (λ ns. moved ns (shared_of c.args.self.now.shared)) ((c.in_ok-answered).ensures.nodes ∙ out) in
    let k = branch_key_of c.args.branch.now in
    λ node serial e. IfOk-weaker c.hear_answer.result _ _ (λ x heard. asks_heard_so w (world_of c.hear_answer.new.self) node serial k (option_map message_of c.in-Some.answer) x e
    (sym (ap (option_map (option_map message_of)) c.in-Some.is) ∙ (c.in_ok-answered).ensures.answer ∙ ap (answer_there c.args.branch.now.tid.node k) out)
    (subst (λ u. IsHeard (option_map message_of c.in-Some.answer) u x (world_of c.hear_answer.new.self)) same (subst (λ a. IsHeard (option_map message_of a) (moved (map node_of (c.in_ok-answered).answered.nodes.items) (shared_of c.args.self.now.shared)) x (world_of c.hear_answer.new.self)) c.in-Some.answer-is heard))) c.hear_answer.ensures.heard
