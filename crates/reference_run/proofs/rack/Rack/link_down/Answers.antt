use Rattle.std.proofs.Common.{◌+◌, true, false, ap, ◌∙◌, map, arith}
use Rattle.std.proofs.lemmas.Result.{IfOk-weaker}
use Rattle.world_laws.specs.transcript_model.Lines as model
use Rattle.script_lang.specs.script_model.Statements as said
use Rattle.reference_tasks.specs.reference_node.Nodes.{node_of}
use Rattle.reference_tasks.proofs.reference_node.TellLemmas.{on_ok}
use Rattle.reference_run.specs.Served.{node_there, world_of}
use Rattle.reference_run.proofs.StatementLemmas.{ends_shown, is_there, link_first, link_rest, link_second, not_there, refused_shown}
use Rattle.reference_run.proofs.RackLemmas.{compared}
use Rattle.reference_run.proofs.FitLemmas.{fit_less}
use Rattle.reference_run.proofs.rack.Rack.link_down.Goals as goal

pub returns-then-not-has_node-clause-shows : goal.returns-then-not-has_node-clause-shows
returns-then-not-has_node-clause-shows c = IfOk-weaker c.one.result _ _ (λ lines shows. refused_shown (said.LinkDown c.args.a.now c.args.b.now) (world_of c.args.self.now) lines.items model.NoSuchNode
    (link_first (world_of c.args.self.now) c.args.a.now c.args.b.now (not_there (world_of c.args.self.now) c.args.a.now c.has_node.result (c.has_node.ensures ∙ ap (λ ns. node_there c.args.a.now (map node_of ns)) c.as_slice.ensures.value) c.if-not-has_node.true)) shows) c.one.ensures

pub returns-then-not-has_node-clause-fit : goal.returns-then-not-has_node-clause-fit
returns-then-not-has_node-clause-fit c = λ units h. on_ok c.one.result (fit_less (units + 1024) units (world_of c.args.self.now) (omega arith) h)

pub returns-then-not-has_node-2-clause-shows : goal.returns-then-not-has_node-2-clause-shows
returns-then-not-has_node-2-clause-shows c = IfOk-weaker c.one-then-not-has_node-2.result _ _ (λ lines shows. refused_shown (said.LinkDown c.args.a.now c.args.b.now) (world_of c.args.self.now) lines.items model.NoSuchNode
    (link_second (world_of c.args.self.now) c.args.a.now c.args.b.now (is_there (world_of c.args.self.now) c.args.a.now c.has_node.result (c.has_node.ensures ∙ ap (λ ns. node_there c.args.a.now (map node_of ns)) c.as_slice.ensures.value) c.if-not-has_node.false) (not_there (world_of c.args.self.now) c.args.b.now c.has_node-2.result (c.has_node-2.ensures ∙ ap (λ ns. node_there c.args.b.now (map node_of ns)) c.as_slice-2.ensures.value) c.if-not-has_node-2.true)) shows) c.one-then-not-has_node-2.ensures

pub returns-then-not-has_node-2-clause-fit : goal.returns-then-not-has_node-2-clause-fit
returns-then-not-has_node-2-clause-fit c = λ units h. on_ok c.one-then-not-has_node-2.result (fit_less (units + 1024) units (world_of c.args.self.now) (omega arith) h)

pub returns-then-eq-clause-shows : goal.returns-then-eq-clause-shows
returns-then-eq-clause-shows c = IfOk-weaker c.one-then-eq.result _ _ (λ lines shows. refused_shown (said.LinkDown c.args.a.now c.args.b.now) (world_of c.args.self.now) lines.items model.BadParameter
    (link_rest (world_of c.args.self.now) c.args.a.now c.args.b.now true (is_there (world_of c.args.self.now) c.args.a.now c.has_node.result (c.has_node.ensures ∙ ap (λ ns. node_there c.args.a.now (map node_of ns)) c.as_slice.ensures.value) c.if-not-has_node.false) (is_there (world_of c.args.self.now) c.args.b.now c.has_node-2.result (c.has_node-2.ensures ∙ ap (λ ns. node_there c.args.b.now (map node_of ns)) c.as_slice-2.ensures.value) c.if-not-has_node-2.false) (compared true _ _ _ _ c.if-eq.ensures c.bytes.ensures.value c.bytes-2.ensures.value)) shows) c.one-then-eq.ensures

pub returns-then-eq-clause-fit : goal.returns-then-eq-clause-fit
returns-then-eq-clause-fit c = λ units h. on_ok c.one-then-eq.result (fit_less (units + 1024) units (world_of c.args.self.now) (omega arith) h)

pub lose_links-requires : goal.lose_links-requires
lose_links-requires c = record { fit = fit_less 1024 2 (world_of c.args.self.now) (omega arith) c.requires.fit }

pub returns-clause-shows : goal.returns-clause-shows
returns-clause-shows c = IfOk-weaker c.all_shown.result _ _ (λ lines shows. ends_shown (said.LinkDown c.args.a.now c.args.b.now) (world_of c.args.self.now) (world_of c.lose_links.new.self) (c.in_ok-shown).shown lines.items
    (link_rest (world_of c.args.self.now) c.args.a.now c.args.b.now false (is_there (world_of c.args.self.now) c.args.a.now c.has_node.result (c.has_node.ensures ∙ ap (λ ns. node_there c.args.a.now (map node_of ns)) c.as_slice.ensures.value) c.if-not-has_node.false) (is_there (world_of c.args.self.now) c.args.b.now c.has_node-2.result (c.has_node-2.ensures ∙ ap (λ ns. node_there c.args.b.now (map node_of ns)) c.as_slice-2.ensures.value) c.if-not-has_node-2.false) (compared false _ _ _ _ c.if-eq.ensures c.bytes.ensures.value c.bytes-2.ensures.value)) (c.in_ok-shown).ensures.runs shows) c.all_shown.ensures

pub returns-clause-fit : goal.returns-clause-fit
returns-clause-fit c = λ units h. on_ok c.all_shown.result ((c.in_ok-shown).ensures.fit units (fit_less (units + 1024) (units + 2) (world_of c.args.self.now) (omega arith) h))
