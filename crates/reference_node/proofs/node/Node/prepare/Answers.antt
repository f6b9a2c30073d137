use Rattle.std.proofs.Common.{◌≡◌, ◌∙◌, ◌++◌, ◌∷◌, [], List, ap, sym, refl}
use Rattle.std.specs.Prelude.{map}
use Rattle.std.proofs.lemmas.List.{map-append}
use Rattle.commit_protocol.specs.Table.{Key, Prepares}
use Rattle.world_laws.specs.run_model.World as world
use Rattle.world_laws.specs.run_model.World.{tabled}
use Rattle.reference_world.specs.Standing.{branch_key_of}
use Rattle.reference_disk.specs.Disks.{durable_of}
use Rattle.reference_node.specs.Nodes.{node_of}
use Rattle.reference_node.specs.Telling.{prepared_by}
use Rattle.reference_node.specs.declared.node.Node.{Node}
use Rattle.reference_node.proofs.DiskLemmas.{node_with}
use Rattle.reference_node.proofs.node.Node.prepare.Goals as goal

pub returns-clause-node : goal.returns-clause-node
returns-clause-node c = λ b key holds.
    let n : Node = record c.args.self.now { preparation = c.push_back.new.items } in
    let e : world.Durable = tabled (Prepares b) 0 [] (durable_of c.args.self.now.durable) in
    let keys : map branch_key_of c.push_back.new.items.items ≡ map branch_key_of c.args.self.now.preparation.items ++ b.key ∷ [] =
    ap (map branch_key_of) c.in_ok-push_back.ensures ∙ map-append branch_key_of c.args.self.now.preparation.items (c.args.branch.now ∷ []) ∙ ap (λ (k : Key). map branch_key_of c.args.self.now.preparation.items ++ k ∷ []) (sym key) in
    node_with n c.prepare.new.self e (c.in_ok-prepare.ensures b 0 [] key holds) refl
    ∙ (λ i. record (node_of c.args.self.now) { durable = e; volatile = record (node_of c.args.self.now).volatile { preparation = keys i } })
