use Rattle.std.proofs.lemmas.Result.{IfOk-weaker}
use Rattle.reference_node.specs.Nodes.{node_of}
use Rattle.reference_node.proofs.FileActLemmas.{dumps_journal}
use Rattle.reference_node.proofs.node.Node.dump_journal.Goals as goal

pub returns : goal.returns
returns c = λ s. IfOk-weaker c.dump_journal.result _ _ (λ lines shown. dumps_journal s (node_of c.args.self.now) lines.items shown) c.dump_journal.ensures
