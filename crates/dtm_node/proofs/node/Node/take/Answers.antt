use Rattle.std.proofs.Common.{refl}
use Rattle.dtm_node.proofs.NodeEvents.{nothing_first}
use Rattle.world_laws.specs.run_model.Answers.{Takes}
use Rattle.net_wire.specs.Messages.{message_of}
use Rattle.dtm_node.proofs.node.Node.take.Goals as goal

pub returns-clause-tells : goal.returns-clause-tells
returns-clause-tells g c = (c.tell_or_end.ensures.does (Takes (message_of c.args.m.now)) _ refl refl (nothing_first _ _ _ refl refl)).0

pub returns-clause-performs : goal.returns-clause-performs
returns-clause-performs g c = (c.tell_or_end.ensures.does (Takes (message_of c.args.m.now)) _ refl refl (nothing_first _ _ _ refl refl)).1
