use Rattle.std.proofs.Common.{refl}
use Rattle.dtm_node.proofs.NodeEvents.{nothing_first}
use Rattle.world_laws.specs.run_model.Answers.{RunsDown}
use Rattle.dtm_node.proofs.node.Node.run_down.Goals as goal

pub returns-clause-tells : goal.returns-clause-tells
returns-clause-tells g c = (c.tell_or_end.ensures.does RunsDown _ refl refl (nothing_first _ _ _ refl refl)).0

pub returns-clause-performs : goal.returns-clause-performs
returns-clause-performs g c = (c.tell_or_end.ensures.does RunsDown _ refl refl (nothing_first _ _ _ refl refl)).1
