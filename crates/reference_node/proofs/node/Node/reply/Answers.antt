use Rattle.std.proofs.Common.{sym}
use Rattle.script_lang.specs.Statements.{named_of}
use Rattle.tm_types.specs.Parts.{reply_of}
use Rattle.vms_base.specs.Ids.{id_of}
use Rattle.reference_node.specs.Nodes.{node_of}
use Rattle.reference_branches.specs.Branches.{shared_of}
use Rattle.reference_node.proofs.ManagerLemmas.{reply_told}
use Rattle.reference_node.proofs.node.Node.reply.Goals as goal

pub told-requires-clause-allowed : goal.told-requires-clause-allowed
told-requires-clause-allowed c = reply_told (shared_of c.args.shared.now) (node_of c.args.self.now) (named_of c.args.who.now) c.args.rm.now (reply_of c.args.reply) (id_of c.in-Some.serial) (sym c.in-Some.ensures) c.requires.early
