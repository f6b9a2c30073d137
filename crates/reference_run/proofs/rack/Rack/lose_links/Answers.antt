use Rattle.std.proofs.Common.{◌+◌, [], ◌∷◌, ap, ◌∙◌, map, arith}
use Rattle.std.proofs.lemmas.List.{map-append}
use Rattle.world_laws.specs.transcript_model.Lines as model
use Rattle.world_laws.specs.run_model.Answers as answers
use Rattle.world_laws.specs.run_model.Answers.{service, task_service}
use Rattle.world_laws.specs.run_model.Statements.{where_up}
use Rattle.reference_world.specs.Standing.{line_of}
use Rattle.reference_tasks.proofs.reference_node.TellLemmas.{on_ok}
use Rattle.reference_run.specs.Served.{world_of}
use Rattle.reference_run.proofs.StatementLemmas.{phases_ended, phases_last, phases_more}
use Rattle.reference_run.proofs.RackLemmas.{joined_ok}
use Rattle.reference_run.proofs.FitLemmas.{fit_less}
use Rattle.reference_run.proofs.rack.Rack.lose_links.Goals as goal

pub perform_up-requires : goal.perform_up-requires
perform_up-requires c = record { fit = fit_less 2 1 (world_of c.args.self.now) (omega arith) c.requires.fit }

pub returns-then-shown-clause-runs : goal.returns-then-shown-clause-runs
returns-then-shown-clause-runs c = phases_ended (where_up c.args.a.now (answers.LosesLink c.args.b.now)) ((where_up c.args.b.now (answers.LosesLink c.args.a.now)) ∷ []) (world_of c.args.self.now) (world_of c.perform_up.new.self) model.Normal (c.in_ok-shown).shown (c.in_ok-shown).ensures.runs c.if-shown.true

pub returns-then-shown-clause-fit : goal.returns-then-shown-clause-fit
returns-then-shown-clause-fit c = λ units h. (c.in_ok-shown).ensures.fit units (fit_less (units + 2) (units + 1) (world_of c.args.self.now) (omega arith) h)

pub perform_up-requires-2 : goal.perform_up-requires-2
perform_up-requires-2 c = record { fit = (c.in_ok-shown).ensures.fit 1 c.requires.fit }

pub returns-clause-runs : goal.returns-clause-runs
returns-clause-runs c = joined_ok c.behind.result _ _ _ _ (λ z lines answer ends. phases_more (where_up c.args.a.now (answers.LosesLink c.args.b.now)) ((where_up c.args.b.now (answers.LosesLink c.args.a.now)) ∷ []) (world_of c.args.self.now) (world_of c.perform_up.new.self) (world_of c.perform_up-2.new.self) model.Normal (c.in_ok-shown).shown (c.in_ok-more).more z
    (c.in_ok-shown).ensures.runs c.if-shown.false (phases_last (where_up c.args.b.now (answers.LosesLink c.args.a.now)) (world_of c.perform_up.new.self) (world_of c.perform_up-2.new.self) (line_of (c.in_ok-shown).shown.answer) (c.in_ok-more).more (c.in_ok-more).ensures.runs)
    (ap (map line_of) lines ∙ map-append line_of _ _) (ap line_of answer) ends) c.behind.ensures.lines c.behind.ensures.answer c.behind.ensures.ends

pub returns-clause-fit : goal.returns-clause-fit
returns-clause-fit c = λ units h. on_ok c.behind.result ((c.in_ok-more).ensures.fit units ((c.in_ok-shown).ensures.fit (units + 1) (fit_less (units + 2) (units + 1 + 1) (world_of c.args.self.now) (omega arith) h)))
