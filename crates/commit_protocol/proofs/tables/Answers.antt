use Rattle.commit_protocol.proofs.Following.{tables_follow, others_stay}
use Rattle.commit_protocol.proofs.Ordering.{any_order, restart_in_any_order}
use Rattle.commit_protocol.proofs.Lists.{in_slice}
use Rattle.commit_protocol.proofs.tables.Goals as goal

pub returns-clause-follow : goal.returns-clause-follow
returns-clause-follow c = tables_follow

pub returns-clause-others_stay : goal.returns-clause-others_stay
returns-clause-others_stay c = others_stay

pub returns-clause-restart : goal.returns-clause-restart
returns-clause-restart c = restart_in_any_order

pub returns-clause-any_order_comes : goal.returns-clause-any_order_comes
returns-clause-any_order_comes c = any_order

pub returns-clause-any_message_comes : goal.returns-clause-any_message_comes
returns-clause-any_message_comes c = λ w m h. in_slice w.sent m h
