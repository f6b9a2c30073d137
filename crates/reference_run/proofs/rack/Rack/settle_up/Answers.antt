use Rattle.std.proofs.Common.{◌+◌, [], ◌∷◌, ap, subst, ◌∙◌, map, length, arith}
use Rattle.std.proofs.lemmas.List.{map-append, length-map}
use Rattle.world_laws.specs.run_model.Statements.{all_questions, run_downs_of}
use Rattle.reference_world.specs.Standing.{line_of}
use Rattle.reference_tasks.specs.reference_node.Nodes.{node_of}
use Rattle.reference_tasks.proofs.reference_node.TellLemmas.{on_ok}
use Rattle.reference_run.specs.Served.{Runs, part_of, world_of}
use Rattle.reference_run.proofs.CountLemmas.{runs_count}
use Rattle.reference_run.proofs.StatementLemmas.{phases_last, phases_more}
use Rattle.reference_run.proofs.RackLemmas.{joined_ok}
use Rattle.reference_run.proofs.FitLemmas.{fit_less}
use Rattle.reference_run.proofs.rack.Rack.settle_up.Goals as goal

pub returns-then-shown-clause-fit : goal.returns-then-shown-clause-fit
returns-then-shown-clause-fit c = λ units h. (c.in_ok-shown).ensures.fit units (fit_less (units + 520) (units + length c.as_slice-2.result.now) (world_of c.args.self.now) (omega (arith, ap length c.as_slice-2.ensures.value, (c.in_ok-parts).ensures.few, ap length c.as_slice.ensures.value, length-map c.args.self.now.nodes.items node_of, c.requires.few)) h)

pub parts-requires-2 : goal.parts-requires-2
parts-requires-2 c = record { fit = (c.in_ok-shown).ensures.fit (length c.as_slice-4.result.now) (fit_less 520 (length c.as_slice-4.result.now + length c.as_slice-2.result.now) (world_of c.args.self.now) (omega (arith, ap length c.as_slice-2.ensures.value, (c.in_ok-parts).ensures.few, ap length c.as_slice.ensures.value, length-map c.args.self.now.nodes.items node_of, c.requires.few, ap length c.as_slice-4.ensures.value, (c.in_ok-asked).ensures.few, ap length c.as_slice-3.ensures.value, length-map c.parts.new.self.nodes.items node_of, runs_count (map part_of c.as_slice-2.result.now) (world_of c.args.self.now) (world_of c.parts.new.self) (line_of c.args.answer) (c.in_ok-shown).shown (c.in_ok-shown).ensures.runs)) c.requires.fit) }

pub returns-clause-runs : goal.returns-clause-runs
returns-clause-runs c =
    let downs = subst (λ ps. Runs ps (world_of c.args.self.now) (line_of c.args.answer) (c.in_ok-shown).shown (world_of c.parts.new.self)) (ap (map part_of) c.as_slice-2.ensures.value ∙ (c.in_ok-parts).ensures.parts ∙ ap (λ ns. run_downs_of (map node_of ns)) c.as_slice.ensures.value) (c.in_ok-shown).ensures.runs in
    let asks = subst (λ ps. Runs ps (world_of c.parts.new.self) (line_of (c.in_ok-shown).shown.answer) (c.in_ok-more).more (world_of c.parts-2.new.self)) (ap (map part_of) c.as_slice-4.ensures.value ∙ (c.in_ok-asked).ensures.parts ∙ ap (λ ns. all_questions (map node_of ns)) c.as_slice-3.ensures.value) (c.in_ok-more).ensures.runs in
    joined_ok c.behind.result _ _ _ _ (λ z lines answer ends. phases_more (λ w. run_downs_of w.nodes) ((λ w. all_questions w.nodes) ∷ []) (world_of c.args.self.now) (world_of c.parts.new.self) (world_of c.parts-2.new.self) (line_of c.args.answer) (c.in_ok-shown).shown (c.in_ok-more).more z
    downs c.if-shown.false (phases_last (λ w. all_questions w.nodes) (world_of c.parts.new.self) (world_of c.parts-2.new.self) (line_of (c.in_ok-shown).shown.answer) (c.in_ok-more).more asks)
    (ap (map line_of) lines ∙ map-append line_of _ _) (ap line_of answer) ends) c.behind.ensures.lines c.behind.ensures.answer c.behind.ensures.ends

pub returns-clause-fit : goal.returns-clause-fit
returns-clause-fit c = λ units h. on_ok c.behind.result ((c.in_ok-more).ensures.fit units ((c.in_ok-shown).ensures.fit (units + length c.as_slice-4.result.now) (fit_less (units + 520) (units + length c.as_slice-4.result.now + length c.as_slice-2.result.now) (world_of c.args.self.now) (omega (arith, ap length c.as_slice-2.ensures.value, (c.in_ok-parts).ensures.few, ap length c.as_slice.ensures.value, length-map c.args.self.now.nodes.items node_of, c.requires.few, ap length c.as_slice-4.ensures.value, (c.in_ok-asked).ensures.few, ap length c.as_slice-3.ensures.value, length-map c.parts.new.self.nodes.items node_of, runs_count (map part_of c.as_slice-2.result.now) (world_of c.args.self.now) (world_of c.parts.new.self) (line_of c.args.answer) (c.in_ok-shown).shown (c.in_ok-shown).ensures.runs)) h)))
