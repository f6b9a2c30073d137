use Rattle.std.proofs.Common.{subst}
use Rattle.std.proofs.lemmas.Result.{IfOk-weaker}
use Rattle.script_lang.specs.script_model.Statements.{DumpImages}
use Rattle.world_laws.specs.run_model.Answers.{service}
use Rattle.reference_world.specs.Standing.{side_of}
use Rattle.reference_node.specs.Nodes.{Does, node_of}
use Rattle.reference_node.proofs.FileActLemmas.{dumps_images}
use Rattle.reference_node.proofs.node.Node.dump_images.Goals as goal

pub returns : goal.returns
returns c = λ s.
    let n = node_of c.args.self.now in
    let name = c.args.name.now in
    IfOk-weaker c.dump_images.result _ _
    (λ lines shown. subst (λ x. Does s n (service (DumpImages name x)) lines.items n s) c.side_for.ensures (dumps_images s n name (side_of c.side_for.result) lines.items shown))
    c.dump_images.ensures
