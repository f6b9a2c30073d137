use Rattle.std.proofs.Common.{ap, ◌∙◌}
use Rattle.world_laws.specs.run_model.Answers.{has_journal, of_file}
use Rattle.world_laws.specs.run_model.Operations.{first_of}
use Rattle.reference_node.specs.Nodes.{node_of}
use Rattle.reference_node.proofs.node.Node.early_images.Goals as goal

pub returns : goal.returns
returns c = λ s.
    let n = node_of c.args.self.now in
    c.first_of.ensures ∙ (λ i. first_of (c.there_is_file.ensures i) ((c.has_journal.ensures ∙ ap (λ x. of_file n c.args.file.now (has_journal x)) c.side_for.ensures) i))
