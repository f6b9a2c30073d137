use Rattle.std.proofs.Common.{◌+◌, ap, ◌∙◌, map, arith}
use Rattle.std.proofs.lemmas.Result.{IfOk-weaker}
use Rattle.world_laws.specs.transcript_model.Lines as model
use Rattle.script_lang.specs.script_model.Statements as said
use Rattle.net_wire.specs.Messages.{message_of}
use Rattle.reference_tasks.specs.reference_node.Nodes.{node_of}
use Rattle.reference_tasks.proofs.reference_node.TellLemmas.{on_ok}
use Rattle.reference_run.specs.Served.{node_there, world_of}
use Rattle.reference_run.proofs.StatementLemmas.{delivered, ends_shown, is_there, message_to, not_there, refused_shown}
use Rattle.reference_run.proofs.FitLemmas.{fit_less}
use Rattle.reference_run.proofs.rack.Rack.take.Goals as goal

pub returns-then-not-has_node-clause-shows : goal.returns-then-not-has_node-clause-shows
returns-then-not-has_node-clause-shows c = λ number e. IfOk-weaker c.one.result _ _ (λ lines shows. refused_shown (said.Deliver number) (world_of c.args.self.now) lines.items model.NoSuchNode
    (message_to (world_of c.args.self.now) number (message_of c.args.m.now) e ∙ not_there (world_of c.args.self.now) c.args.m.now.to c.has_node.result (c.has_node.ensures ∙ ap (λ ns. node_there c.args.m.now.to (map node_of ns)) c.as_slice.ensures.value) c.if-not-has_node.true) shows) c.one.ensures

pub returns-then-not-has_node-clause-fit : goal.returns-then-not-has_node-clause-fit
returns-then-not-has_node-clause-fit c = λ units h. on_ok c.one.result (fit_less (units + 1024) units (world_of c.args.self.now) (omega arith) h)

pub perform-requires : goal.perform-requires
perform-requires c = record { fit = fit_less 1024 1 (world_of c.args.self.now) (omega arith) c.requires.fit }

pub returns-clause-shows : goal.returns-clause-shows
returns-clause-shows c = λ number e. IfOk-weaker c.all_shown.result _ _ (λ lines shows. ends_shown (said.Deliver number) (world_of c.args.self.now) (world_of c.perform.new.self) (c.in_ok-shown).shown lines.items
    (message_to (world_of c.args.self.now) number (message_of c.args.m.now) e ∙ is_there (world_of c.args.self.now) c.args.m.now.to c.has_node.result (c.has_node.ensures ∙ ap (λ ns. node_there c.args.m.now.to (map node_of ns)) c.as_slice.ensures.value) c.if-not-has_node.false)
    (delivered (world_of c.args.self.now) (world_of c.perform.new.self) number (message_of c.args.m.now) (c.in_ok-shown).shown e (c.in_ok-shown).ensures.part) shows) c.all_shown.ensures

pub returns-clause-fit : goal.returns-clause-fit
returns-clause-fit c = λ units h. on_ok c.all_shown.result ((c.in_ok-shown).ensures.fit units (fit_less (units + 1024) (units + 1) (world_of c.args.self.now) (omega arith) h))
