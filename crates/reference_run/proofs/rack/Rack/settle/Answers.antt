use Rattle.std.proofs.Common.{◌+◌, [], ◌∷◌, refl, ap, subst, ◌∙◌, map, length, arith}
use Rattle.std.proofs.lemmas.Result.{IfOk-weaker}
use Rattle.std.proofs.lemmas.List.{map-append, length-map}
use Rattle.world_laws.specs.transcript_model.Lines as model
use Rattle.script_lang.specs.script_model.Statements as said
use Rattle.world_laws.specs.run_model.Statements.{all_questions, begun_with, restarts_of, run_downs_of}
use Rattle.reference_world.specs.Standing.{line_of}
use Rattle.reference_tasks.specs.reference_node.Nodes.{node_of}
use Rattle.reference_tasks.proofs.reference_node.TellLemmas.{on_ok}
use Rattle.reference_run.specs.Served.{Runs, part_of, world_of}
use Rattle.reference_run.proofs.CountLemmas.{runs_count}
use Rattle.reference_run.proofs.StatementLemmas.{ends_shown, phases_more}
use Rattle.reference_run.proofs.FitLemmas.{fit_begun, fit_less}
use Rattle.reference_run.proofs.rack.Rack.settle.Goals as goal

pub parts-requires : goal.parts-requires
parts-requires c = record { fit = fit_less 1024 (length c.as_slice-2.result.now) (begun_with said.Settle (world_of c.args.self.now)) (omega (arith, ap length c.as_slice-2.ensures.value, (c.in_ok-parts).ensures.few, ap length c.as_slice.ensures.value, length-map c.args.self.now.nodes.items node_of, c.requires.few)) (fit_begun 1024 (world_of c.args.self.now) c.requires.fit) }

pub returns-then-shown-clause-fit : goal.returns-then-shown-clause-fit
returns-then-shown-clause-fit c = λ units h. on_ok c.all_shown.result ((c.in_ok-shown).ensures.fit units (fit_less (units + 1024) (units + length c.as_slice-2.result.now) (begun_with said.Settle (world_of c.args.self.now)) (omega (arith, ap length c.as_slice-2.ensures.value, (c.in_ok-parts).ensures.few, ap length c.as_slice.ensures.value, length-map c.args.self.now.nodes.items node_of, c.requires.few)) (fit_begun (units + 1024) (world_of c.args.self.now) h)))

pub settle_up-requires-clause-fit : goal.settle_up-requires-clause-fit
settle_up-requires-clause-fit c = (c.in_ok-shown).ensures.fit 520 (fit_less 1024 (520 + length c.as_slice-2.result.now) (begun_with said.Settle (world_of c.args.self.now)) (omega (arith, ap length c.as_slice-2.ensures.value, (c.in_ok-parts).ensures.few, ap length c.as_slice.ensures.value, length-map c.args.self.now.nodes.items node_of, c.requires.few)) (fit_begun 1024 (world_of c.args.self.now) c.requires.fit))

pub settle_up-requires-clause-few : goal.settle_up-requires-clause-few
settle_up-requires-clause-few c = omega (arith, c.requires.few, runs_count (map part_of c.as_slice-2.result.now) (begun_with said.Settle (world_of c.args.self.now)) (world_of c.parts.new.self) model.Normal (c.in_ok-shown).shown (c.in_ok-shown).ensures.runs)

pub returns-clause-shows : goal.returns-clause-shows
returns-clause-shows c =
    let boots = subst (λ ps. Runs ps (begun_with said.Settle (world_of c.args.self.now)) model.Normal (c.in_ok-shown).shown (world_of c.parts.new.self)) (ap (map part_of) c.as_slice-2.ensures.value ∙ (c.in_ok-parts).ensures.parts ∙ ap (λ ns. restarts_of (map node_of ns)) c.as_slice.ensures.value) (c.in_ok-shown).ensures.runs in
    let all = c.in_ok-behind.ensures in
    IfOk-weaker c.all_shown-2.result _ _ (λ lines shows. ends_shown said.Settle (world_of c.args.self.now) (world_of c.settle_up.new.self) (c.in_ok-behind).field-0 lines.items refl
    (phases_more (λ w. restarts_of w.nodes) ((λ w. run_downs_of w.nodes) ∷ (λ w. all_questions w.nodes) ∷ []) (begun_with said.Settle (world_of c.args.self.now)) (world_of c.parts.new.self) (world_of c.settle_up.new.self) model.Normal (c.in_ok-shown).shown (c.in_ok-more).more (c.in_ok-behind).field-0
    boots c.if-shown.false (c.in_ok-more).ensures.runs (ap (map line_of) all.lines ∙ map-append line_of _ _) (ap line_of all.answer) all.ends) shows) c.all_shown-2.ensures

pub returns-clause-fit : goal.returns-clause-fit
returns-clause-fit c = λ units h. on_ok c.all_shown-2.result ((c.in_ok-more).ensures.fit units ((c.in_ok-shown).ensures.fit (units + 520) (fit_less (units + 1024) (units + 520 + length c.as_slice-2.result.now) (begun_with said.Settle (world_of c.args.self.now)) (omega (arith, ap length c.as_slice-2.ensures.value, (c.in_ok-parts).ensures.few, ap length c.as_slice.ensures.value, length-map c.args.self.now.nodes.items node_of, c.requires.few)) (fit_begun (units + 1024) (world_of c.args.self.now) h))))
