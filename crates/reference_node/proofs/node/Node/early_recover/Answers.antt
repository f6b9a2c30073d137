use Rattle.std.proofs.Common.{refl, ◌∙◌}
use Rattle.world_laws.specs.run_model.Operations.{first_of}
use Rattle.reference_node.specs.Nodes.{node_of}
use Rattle.reference_node.proofs.node.Node.early_recover.Goals as goal

pub returns : goal.returns
returns c = λ s. c.first_of.ensures ∙ (λ i. first_of (c.there_is_file.ensures i) (c.in_ok-refused.ensures (node_of c.args.self.now) refl c.requires i))
