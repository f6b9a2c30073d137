use Rattle.std.proofs.Common.{◌≡◌, ◌+◌, not, sym, ap, subst, ◌∙◌, map, arith}
use Rattle.std.proofs.lemmas.Result.{IfOk-weaker}
use Rattle.world_laws.specs.transcript_model.Lines as model
use Rattle.script_lang.specs.script_model.Statements as said
use Rattle.script_lang.specs.Statements.{request_of}
use Rattle.world_laws.specs.run_model.Operations.{refused_if}
use Rattle.world_laws.specs.run_model.Statements.{other_node}
use Rattle.reference_tasks.specs.reference_node.Nodes.{node_of}
use Rattle.reference_branches.specs.Branches.{shared_of}
use Rattle.reference_tasks.proofs.reference_node.TellLemmas.{on_ok}
use Rattle.reference_run.specs.Served.{moved, node_there, world_of}
use Rattle.reference_run.proofs.StatementLemmas.{at_allowed, at_missing, at_other, is_there, not_there, phases_are, refused_shown, request_shown}
use Rattle.reference_run.proofs.EarlyLemmas.{set_less}
use Rattle.reference_run.proofs.FitLemmas.{fit_less}
use Rattle.reference_run.proofs.rack.Rack.serve_at.Goals as goal

pub returns-then-not-has_node-clause-shows : goal.returns-then-not-has_node-clause-shows
returns-then-not-has_node-clause-shows c = IfOk-weaker c.one.result _ _ (λ lines shows. refused_shown (said.At c.args.name.now (request_of c.args.lit.now c.args.request.now)) (world_of c.args.self.now) lines.items model.NoSuchNode
    (at_missing (world_of c.args.self.now) c.args.name.now (request_of c.args.lit.now c.args.request.now) (not_there (world_of c.args.self.now) c.args.name.now c.has_node.result (c.has_node.ensures ∙ ap (λ ns. node_there c.args.name.now (map node_of ns)) c.as_slice.ensures.value) c.if-not-has_node.true)) shows) c.one.ensures

pub returns-then-not-has_node-clause-fit : goal.returns-then-not-has_node-clause-fit
returns-then-not-has_node-clause-fit c = λ units h early. on_ok c.one.result (fit_less (units + 1024) units (world_of c.args.self.now) (omega arith) h)

pub returns-then-not-has_other-clause-shows : goal.returns-then-not-has_other-clause-shows
returns-then-not-has_other-clause-shows c = IfOk-weaker c.one-then-not-has_other.result _ _ (λ lines shows. refused_shown (said.At c.args.name.now (request_of c.args.lit.now c.args.request.now)) (world_of c.args.self.now) lines.items model.NoSuchNode
    (at_other (world_of c.args.self.now) c.args.name.now (request_of c.args.lit.now c.args.request.now) c.has_other.result (is_there (world_of c.args.self.now) c.args.name.now c.has_node.result (c.has_node.ensures ∙ ap (λ ns. node_there c.args.name.now (map node_of ns)) c.as_slice.ensures.value) c.if-not-has_node.false) (subst (λ ns. other_node (moved (map node_of ns) (shared_of c.args.self.now.shared)) (request_of c.args.lit.now c.args.request.now) ≡ refused_if (not c.has_other.result) model.NoSuchNode) c.as_slice-2.ensures.value (c.has_other.ensures c.args.lit.now (shared_of c.args.self.now.shared))) c.if-not-has_other.true) shows) c.one-then-not-has_other.ensures

pub returns-then-not-has_other-clause-fit : goal.returns-then-not-has_other-clause-fit
returns-then-not-has_other-clause-fit c = λ units h early. on_ok c.one-then-not-has_other.result (fit_less (units + 1024) units (world_of c.args.self.now) (omega arith) h)

pub set_clock-requires-clause-there : goal.set_clock-requires-clause-there
set_clock-requires-clause-there c = is_there (world_of c.args.self.now) c.args.name.now c.has_node.result (c.has_node.ensures ∙ ap (λ ns. node_there c.args.name.now (map node_of ns)) c.as_slice.ensures.value) c.if-not-has_node.false

pub serve_request-requires-clause-fit : goal.serve_request-requires-clause-fit
serve_request-requires-clause-fit c = fit_less 1024 64 (world_of c.args.self.now) (omega arith) c.requires.fit

pub serve_request-requires-clause-there : goal.serve_request-requires-clause-there
serve_request-requires-clause-there c = is_there (world_of c.args.self.now) c.args.name.now c.has_node.result (c.has_node.ensures ∙ ap (λ ns. node_there c.args.name.now (map node_of ns)) c.as_slice.ensures.value) c.if-not-has_node.false

pub returns-else-is_clock-clause-shows : goal.returns-else-is_clock-clause-shows
returns-else-is_clock-clause-shows c = IfOk-weaker c.serve_request.result _ _ (λ lines part. request_shown c.args.name.now (request_of c.args.lit.now c.args.request.now) (world_of c.args.self.now) (world_of c.serve_request.new.self) lines.items
    (at_allowed (world_of c.args.self.now) c.args.name.now (request_of c.args.lit.now c.args.request.now) c.has_other.result (is_there (world_of c.args.self.now) c.args.name.now c.has_node.result (c.has_node.ensures ∙ ap (λ ns. node_there c.args.name.now (map node_of ns)) c.as_slice.ensures.value) c.if-not-has_node.false) (subst (λ ns. other_node (moved (map node_of ns) (shared_of c.args.self.now.shared)) (request_of c.args.lit.now c.args.request.now) ≡ refused_if (not c.has_other.result) model.NoSuchNode) c.as_slice-2.ensures.value (c.has_other.ensures c.args.lit.now (shared_of c.args.self.now.shared))) c.if-not-has_other.false)
    (phases_are c.args.lit.now c.args.name.now c.args.request.now (sym c.is_clock.ensures ∙ c.if-is_clock.false)) part) c.serve_request.ensures.shows

pub returns-else-is_clock-clause-fit : goal.returns-else-is_clock-clause-fit
returns-else-is_clock-clause-fit c = λ units h early. c.serve_request.ensures.fit units (fit_less (units + 1024) (units + 64) (world_of c.args.self.now) (omega arith) h) (set_less (units + 1024) units (request_of c.args.lit.now c.args.request.now) (omega arith) early)
