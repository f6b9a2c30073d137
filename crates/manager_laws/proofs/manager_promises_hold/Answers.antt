use Rattle.manager_laws.proofs.Asking.{pending_asked}
use Rattle.manager_laws.proofs.Declared.{joined_declared}
use Rattle.manager_laws.proofs.Forgotten.{leaves_hold}
use Rattle.manager_laws.proofs.Hearing.{events_of_members}
use Rattle.manager_laws.proofs.MembersReply.{replies_of_members}
use Rattle.manager_laws.proofs.Pending.{at_once_hold, pending_joined}
use Rattle.manager_laws.proofs.Replied.{replies_hold}
use Rattle.manager_laws.proofs.Retelling.{declares_hold, retold_hold}
use Rattle.manager_laws.proofs.Told.{aborts_told, commits_told}
use Rattle.manager_laws.proofs.manager_promises_hold.Goals as goal

pub returns : goal.returns
returns c = λ nodes disks es closing opening legal. record {
  replies = replies_hold nodes disks es closing opening legal;
  leaves = leaves_hold nodes disks es closing opening legal;
  asked = pending_asked nodes disks es closing opening legal;
  joined = pending_joined nodes disks es closing opening legal;
  alone = at_once_hold nodes disks es closing opening legal;
  repliers = replies_of_members nodes disks es closing opening legal;
  hearers = events_of_members nodes disks es closing opening legal;
  commits = commits_told nodes disks es closing opening legal;
  aborts = aborts_told nodes disks es closing opening legal;
  declares = declares_hold nodes disks es closing opening legal;
  retold = retold_hold nodes disks es closing opening legal;
  vetoes = c.vetoes_abort.ensures.aborts nodes disks es closing opening legal;
  declared = joined_declared nodes disks es closing opening legal;
}
