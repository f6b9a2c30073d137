use Rattle.std.proofs.Common.{◌+◌, refl, sym, ap, subst, map}
use Rattle.std.specs.Option.{option_map}
use Rattle.script_lang.specs.Statements.{request_of}
use Rattle.world_laws.specs.run_model.Answers as answers
use Rattle.world_laws.specs.run_model.Answers.{service, task_service}
use Rattle.world_laws.specs.run_model.Statements.{Does}
use Rattle.reference_tasks.specs.reference_node.Nodes.{node_of}
use Rattle.reference_branches.specs.Branches.{shared_of}
use Rattle.reference_run.specs.Served.{AllHave, IsServedAt, ServesPart, world_of}
use Rattle.reference_run.proofs.PartLemmas.{served}
use Rattle.reference_run.proofs.RackLemmas.{taken_out}
use Rattle.reference_run.proofs.FitLemmas.{fit_part}
use Rattle.reference_run.proofs.rack.Rack.serve_request.Goals as goal

done : (c : goal.In-Some) → IsServedAt c.args.name.now (service (request_of c.args.lit.now c.args.request.now)) (shared_of c.args.self.now.shared) (map node_of c.args.self.now.nodes.items) (option_map (λ v. v.items) (c.in_ok-served).served.lines) (map node_of (c.in_ok-served).served.nodes.items) (shared_of c.serve_at.new.shared)
done c = subst (λ ns. IsServedAt c.args.name.now (service (request_of c.args.lit.now c.args.request.now)) (shared_of c.args.self.now.shared) ns (option_map (λ v. v.items) (c.in_ok-served).served.lines) (map node_of (c.in_ok-served).served.nodes.items) (shared_of c.serve_at.new.shared))
    (taken_out c.replace-nodes.result c.args.self.now.nodes c.replace-nodes.ensures.value) (c.in_ok-served).ensures.served

part : (c : goal.In-Some) → ServesPart (Does c.args.name.now (answers.Serves (request_of c.args.lit.now c.args.request.now))) (world_of c.args.self.now) c.in-Some.lines.items (world_of (record { nodes = (c.in_ok-served).served.nodes; shared = c.serve_at.new.shared }))
part c = served (world_of c.args.self.now) c.args.name.now (request_of c.args.lit.now c.args.request.now) _ c.in-Some.lines.items (map node_of (c.in_ok-served).served.nodes.items) (shared_of c.serve_at.new.shared) refl (done c) (ap (option_map (λ v. v.items)) c.in-Some.is)

pub returns-in-Some-clause-shows : goal.returns-in-Some-clause-shows
returns-in-Some-clause-shows c = subst (λ v. ServesPart (Does c.args.name.now (answers.Serves (request_of c.args.lit.now c.args.request.now))) (world_of c.args.self.now) v.items (world_of (record { nodes = (c.in_ok-served).served.nodes; shared = c.serve_at.new.shared }))) (sym c.in-Some.lines-is) (part c)

pub returns-in-Some-clause-fit : goal.returns-in-Some-clause-fit
returns-in-Some-clause-fit c = λ units h early. fit_part c.nodes_stay_kept.ensures.steps c.nodes_stay_kept.ensures.others (world_of c.args.self.now) _ c.args.name.now (answers.Serves (request_of c.args.lit.now c.args.request.now)) units refl refl (part c).world c.requires.fit.kept
    ((c.in_ok-served).ensures.units units (subst (AllHave (units + 64)) (sym (taken_out c.replace-nodes.result c.args.self.now.nodes c.replace-nodes.ensures.value)) h.units) early)
