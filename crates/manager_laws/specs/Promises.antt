-- What a run promises of its resource managers.
use Rattle.std.specs.Prelude.{◌≡◌, ℕ, List, true, Some}
use Rattle.world_laws.specs.run_model.World.{Node, World, find_node}
use Rattle.world_laws.specs.run_model.Transcript.{Entry, InAllRuns}
use Rattle.run_laws.specs.Vetoing.{VetoesAbort}
use Rattle.manager_laws.specs.Asking.{PendingAreAsked}
use Rattle.manager_laws.specs.Joined.{AreDeclared}
use Rattle.manager_laws.specs.Joining.{EndsAtOnce, PendingAreJoined}
use Rattle.manager_laws.specs.Members.{EventsAreOfMembers, RepliesAreOfMembers}
use Rattle.manager_laws.specs.Replying.{LeavesForget, RepliesComeFirst}
use Rattle.manager_laws.specs.Telling.{AbortsAreTold, CommitsAreRetold, CommitsAreTold, DeclaresShow}

-- What is kept by the entries of a legal transcript, which lead from the opening world to the closing one: no reply is missing where a branch is prepared, leaves or
-- is committed, and where one leaves each is FORGET; an END_TRANS that is answered so names just the managers that it asks, and these are just those that joined; where
-- one commits at once, neither a manager nor a branch had joined; a manager replies only for a branch that it joined, and is told events only of such a branch;
-- what managers are told of an outcome is so; a commitment that a manager was told each later DECLARE_RM tells it, until a line has it reply FORGET there; a veto
-- aborts; and each manager of an unsettled branch that is not prepared is declared in the closing world, where its node is up.
pub record ManagerPromises (opening : World) (es : List Entry) (closing : World) : Type 0 where
  pub replies : RepliesComeFirst opening es
  pub leaves : LeavesForget es
  pub asked : PendingAreAsked es
  pub joined : PendingAreJoined es
  pub alone : EndsAtOnce es
  pub repliers : RepliesAreOfMembers opening es
  pub hearers : EventsAreOfMembers opening es
  pub commits : CommitsAreTold opening es closing
  pub aborts : AbortsAreTold es closing
  pub declares : DeclaresShow es
  pub retold : CommitsAreRetold es
  pub vetoes : VetoesAbort es closing
  pub declared : (node : List ℕ) (n : Node) → find_node node closing.nodes ≡ Some n → n.up ≡ true → AreDeclared n

abbrev pub ManagerPromisesHold : Type 0
ManagerPromisesHold = InAllRuns ManagerPromises
