use Rattle.manager_laws.proofs.Forgotten.{leaves_hold}
use Rattle.manager_laws.proofs.Replied.{replies_hold}
use Rattle.manager_laws.proofs.replies_come_first.Goals as goal

pub returns-clause-replies : goal.returns-clause-replies
returns-clause-replies c = replies_hold

pub returns-clause-leaves : goal.returns-clause-leaves
returns-clause-leaves c = leaves_hold
