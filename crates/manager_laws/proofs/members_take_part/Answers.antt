use Rattle.manager_laws.proofs.Hearing.{events_of_members}
use Rattle.manager_laws.proofs.MembersReply.{replies_of_members}
use Rattle.manager_laws.proofs.members_take_part.Goals as goal

pub returns-clause-replies : goal.returns-clause-replies
returns-clause-replies c = replies_of_members

pub returns-clause-events : goal.returns-clause-events
returns-clause-events c = events_of_members
