use Rattle.std.proofs.Common.{ap, ◌∙◌}
use Rattle.world_laws.specs.run_model.Answers.{of_file}
use Rattle.world_laws.specs.run_model.Operations.{first_of}
use Rattle.reference_disk.specs.Disks.{first_changed}
use Rattle.reference_node.specs.Nodes.{node_of}
use Rattle.reference_node.proofs.node.Node.early_set.Goals as goal

pub returns : goal.returns
returns c = λ s.
    let n = node_of c.args.self.now in
    let unchanged = c.unchanged_file.ensures ∙ ap (λ ids. of_file n c.args.file.now (first_changed ids)) c.requires in
    let rest = c.first_of.ensures ∙ (λ i. first_of (c.setting_refused.ensures i) (unchanged i)) in
    c.first_of-2.ensures ∙ (λ i. first_of (c.there_is_file.ensures i) (rest i))
