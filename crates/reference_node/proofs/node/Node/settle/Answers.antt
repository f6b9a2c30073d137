use Rattle.std.proofs.Common.{◌≡◌, ◌∙◌, ◌∷◌, Some, ap, refl}
use Rattle.std.specs.Prelude.{map}
use Rattle.world_laws.specs.run_model.World as world
use Rattle.reference_world.specs.Standing.{settlement_of}
use Rattle.reference_node.specs.Nodes.{node_of, released_by}
use Rattle.reference_node.proofs.DiskLemmas.{node_with}
use Rattle.reference_node.proofs.node.Node.settle.Goals as goal

pub returns-clause-node : goal.returns-clause-node
returns-clause-node c =
    let s = settlement_of c.args.s.now in
    let n = node_of c.args.self.now in
    let e = world.with_settlement (Some s) n.durable in
    let mid = node_with c.args.self.now c.settle.new.self e c.in_ok-settle.ensures refl in
    let m : node_of c.release.new.self ≡ released_by s.serial (record n { durable = e }) = c.in_ok-release.ensures ∙ ap (released_by s.serial) mid in
    let all : map settlement_of c.push_front.new.items.items ≡ s ∷ n.settled = ap (map settlement_of) c.in_ok-push_front.ensures ∙ ap (λ (x : world.Node). s ∷ x.settled) m in
    λ i. record (m i) { settled = all i }
