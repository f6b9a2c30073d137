use Rattle.std.proofs.Common.{◌∙◌, ap, refl}
use Rattle.std.specs.Prelude.{not}
use Rattle.world_laws.specs.transcript_model.Lines as line
use Rattle.world_laws.specs.run_model.Operations.{first_of, refused_if}
use Rattle.reference_node.specs.Nodes.{node_of}
use Rattle.reference_node.proofs.node.Node.early_init.Goals as goal

pub returns : goal.returns
returns c =
    c.first_of.ensures ∙ (λ i. first_of (c.refused_if.ensures i) (c.refused_if-2.ensures i))
    ∙ ap (λ b. first_of (refused_if c.args.shared.now.in_use line.VolumeInUse) (refused_if (not b) line.BadParameter)) (c.is_volume_form.ensures (node_of c.args.self.now) refl)
