use Rattle.std.proofs.lemmas.Result.{IfOk-weaker}
use Rattle.reference_node.specs.Nodes.{node_of}
use Rattle.reference_node.proofs.FileActLemmas.{dumps}
use Rattle.reference_node.proofs.node.Node.dump.Goals as goal

pub returns : goal.returns
returns c = λ s. IfOk-weaker c.dump.result _ _ (λ lines shown. dumps s (node_of c.args.self.now) c.args.name.now lines.items shown) c.dump.ensures
