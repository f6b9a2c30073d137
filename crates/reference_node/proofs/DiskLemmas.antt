-- A node whose disk has become another.
use Rattle.std.proofs.Common.{◌≡◌, refl, sym, ap, ◌∙◌}
use Rattle.world_laws.specs.run_model.World as world
use Rattle.reference_world.specs.Standing.{volume_of}
use Rattle.reference_disk.specs.Disks.{durable_of}
use Rattle.reference_disk.specs.declared.disk.Durable.{Durable}
use Rattle.reference_node.specs.Nodes.{node_of}
use Rattle.reference_node.specs.declared.node.Node.{Node}
use Rattle.reference_node.proofs.FileActLemmas.{unmade_by, unmade_is}

-- where its volume stays as it is known
pub node_with : (n : Node) (d : Durable) (e : world.Durable) → durable_of d ≡ e → e.volume ≡ volume_of n.durable.volume → node_of (record n { durable = d }) ≡ record (node_of n) { durable = e }
node_with n d e is volume =
    let unmade = unmade_is d.volume ∙ ap unmade_by (ap (λ (x : world.Durable). x.volume) is ∙ volume) ∙ sym (unmade_is n.durable.volume) in
    λ i. record (node_of n) { durable = is i; unmade = unmade i }
