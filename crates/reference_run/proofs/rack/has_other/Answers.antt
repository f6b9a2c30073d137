use Rattle.std.proofs.Common.{not, sym, ap, ◌∙◌, map}
use Rattle.world_laws.specs.transcript_model.Lines as model
use Rattle.script_lang.specs.Statements.{request_of}
use Rattle.world_laws.specs.run_model.Operations.{refused_if}
use Rattle.world_laws.specs.run_model.Statements.{other_node}
use Rattle.reference_tasks.specs.reference_node.Nodes.{node_of}
use Rattle.reference_run.specs.Served.{moved}
use Rattle.reference_run.proofs.StatementLemmas.{named_is}
use Rattle.reference_run.proofs.rack.has_other.Goals as goal

pub returns-in-AddBranch : goal.returns-in-AddBranch
returns-in-AddBranch c = λ lit s. ap (λ r. other_node (moved (map node_of c.args.nodes.now) s) (request_of lit r)) c.in-AddBranch.is
    ∙ named_is (moved (map node_of c.args.nodes.now) s) c.in-AddBranch.other ∙ ap (λ b. refused_if (not b) model.NoSuchNode) (sym c.has_node.ensures)
