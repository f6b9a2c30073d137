use Rattle.std.proofs.Common.{◌+◌, refl, sym, ap, subst, map}
use Rattle.world_laws.specs.run_model.Answers.{task_service}
use Rattle.world_laws.specs.run_model.Statements.{Does}
use Rattle.reference_world.specs.Standing.{line_of}
use Rattle.reference_tasks.specs.reference_node.Nodes.{node_of}
use Rattle.reference_branches.specs.Branches.{shared_of}
use Rattle.reference_tasks.specs.Tasks.{task_of}
use Rattle.reference_run.specs.Served.{AllHave, IsDone, IsPart, world_of}
use Rattle.reference_run.proofs.PartLemmas.{performed, not_there}
use Rattle.reference_run.proofs.RackLemmas.{taken_out}
use Rattle.reference_run.proofs.FitLemmas.{fit_part}
use Rattle.reference_run.proofs.rack.Rack.perform.Goals as goal

done : (c : goal.In-Some) → IsDone c.args.name.now (task_service (task_of c.args.task.now)) (shared_of c.args.self.now.shared) (map node_of c.args.self.now.nodes.items) (c.in_ok-done).done.shown (map node_of (c.in_ok-done).done.nodes.items) (shared_of c.perform_at.new.shared)
done c = subst (λ ns. IsDone c.args.name.now (task_service (task_of c.args.task.now)) (shared_of c.args.self.now.shared) ns (c.in_ok-done).done.shown (map node_of (c.in_ok-done).done.nodes.items) (shared_of c.perform_at.new.shared))
    (taken_out c.replace-nodes.result c.args.self.now.nodes c.replace-nodes.ensures.value) (c.in_ok-done).ensures.done

part : (c : goal.In-Some) → IsPart (Does c.args.name.now (task_of c.args.task.now)) (world_of c.args.self.now) c.in-Some.shown (world_of (record { nodes = (c.in_ok-done).done.nodes; shared = c.perform_at.new.shared }))
part c = performed (world_of c.args.self.now) c.args.name.now (task_of c.args.task.now) (c.in_ok-done).done.shown c.in-Some.shown (map node_of (c.in_ok-done).done.nodes.items) (shared_of c.perform_at.new.shared) refl (done c) c.in-Some.is

pub returns-in-Some-clause-part : goal.returns-in-Some-clause-part
returns-in-Some-clause-part c = subst (λ x. IsPart (Does c.args.name.now (task_of c.args.task.now)) (world_of c.args.self.now) x (world_of (record { nodes = (c.in_ok-done).done.nodes; shared = c.perform_at.new.shared }))) (sym c.in-Some.shown-is) (part c)

pub returns-in-Some-clause-fit : goal.returns-in-Some-clause-fit
returns-in-Some-clause-fit c = λ units h. fit_part c.nodes_stay_kept.ensures.steps c.nodes_stay_kept.ensures.others (world_of c.args.self.now) _ c.args.name.now (task_of c.args.task.now) units refl refl (part c).world c.requires.fit.kept
    ((c.in_ok-done).ensures.units units (subst (AllHave (units + 1)) (sym (taken_out c.replace-nodes.result c.args.self.now.nodes c.replace-nodes.ensures.value)) h.units))

pub returns-in-None-clause-fit : goal.returns-in-None-clause-fit
returns-in-None-clause-fit c =
    let done = subst (λ ns. IsDone c.args.name.now (task_service (task_of c.args.task.now)) (shared_of c.args.self.now.shared) ns (c.in_ok-done).done.shown (map node_of (c.in_ok-done).done.nodes.items) (shared_of c.perform_at.new.shared))
    (taken_out c.replace-nodes.result c.args.self.now.nodes c.replace-nodes.ensures.value) (c.in_ok-done).ensures.done in
    let part = not_there (world_of c.args.self.now) c.args.name.now (task_of c.args.task.now) (c.in_ok-done).done.shown c.ended.result (map node_of (c.in_ok-done).done.nodes.items) (shared_of c.perform_at.new.shared) refl done c.in-None.is
    c.ended.ensures.lines (ap line_of c.ended.ensures.answer) c.ended.ensures.ends in
    λ units h. fit_part c.nodes_stay_kept.ensures.steps c.nodes_stay_kept.ensures.others (world_of c.args.self.now) _ c.args.name.now (task_of c.args.task.now) units refl refl part.world c.requires.fit.kept
    ((c.in_ok-done).ensures.units units (subst (AllHave (units + 1)) (sym (taken_out c.replace-nodes.result c.args.self.now.nodes c.replace-nodes.ensures.value)) h.units))
