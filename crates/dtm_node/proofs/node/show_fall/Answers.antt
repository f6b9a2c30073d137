use Rattle.dtm_node.proofs.NodeEvents.{shown_fall}
use Rattle.dtm_node.proofs.node.show_fall.Goals as goal

pub returns-clause-shows : goal.returns-clause-shows
returns-clause-shows g c = shown_fall _ _ _ _ _ _ c.cause_of-cause.ensures c.emit.ensures.emits c.emit-2.ensures.emits
