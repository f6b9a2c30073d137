use Rattle.std.proofs.Common.{◌+◌, sym, ap, ◌∙◌, map, arith}
use Rattle.std.proofs.lemmas.Result.{IfOk-weaker}
use Rattle.world_laws.specs.run_model.Statements.{Does}
use Rattle.reference_world.specs.Standing.{line_of}
use Rattle.reference_tasks.specs.reference_node.Nodes.{node_of}
use Rattle.reference_tasks.specs.Tasks.{task_of}
use Rattle.reference_run.specs.Served.{node_up, world_of}
use Rattle.reference_run.proofs.PartLemmas.{runs_none, runs_one}
use Rattle.reference_run.proofs.StatementLemmas.{runs_up, runs_down}
use Rattle.reference_run.proofs.FitLemmas.{fit_less}
use Rattle.reference_run.proofs.rack.Rack.perform_up.Goals as goal

pub returns-then-is_up-clause-runs : goal.returns-then-is_up-clause-runs
returns-then-is_up-clause-runs c =
    let up = sym (c.is_up.ensures ∙ ap (λ ns. node_up c.args.name.now (map node_of ns)) c.as_slice.ensures.value) ∙ c.if-is_up.true in
    IfOk-weaker c.perform.result _ _ (λ x p. runs_up c.args.name.now (task_of c.args.task.now) (world_of c.args.self.now) _ (line_of c.args.answer) x up (runs_one (Does c.args.name.now (task_of c.args.task.now)) (world_of c.args.self.now) _ (line_of c.args.answer) x p)) c.perform.ensures.part

pub returns-else-is_up-clause-runs : goal.returns-else-is_up-clause-runs
returns-else-is_up-clause-runs c =
    let down = sym (c.is_up.ensures ∙ ap (λ ns. node_up c.args.name.now (map node_of ns)) c.as_slice.ensures.value) ∙ c.if-is_up.false in
    runs_down c.args.name.now (task_of c.args.task.now) (world_of c.args.self.now) (line_of c.args.answer) c.going_on.result down (runs_none (world_of c.args.self.now) (line_of c.args.answer) c.going_on.result c.going_on.ensures.lines (ap line_of c.going_on.ensures.answer) c.going_on.ensures.ends)

pub returns-else-is_up-clause-fit : goal.returns-else-is_up-clause-fit
returns-else-is_up-clause-fit c = λ units h. fit_less (units + 1) units (world_of c.args.self.now) (omega arith) h
