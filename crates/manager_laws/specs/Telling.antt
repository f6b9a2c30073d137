-- What resource managers are told of the outcome of a branch is its outcome, and a commitment that they were told they are told again.
use Rattle.std.specs.Prelude.{◌≡◌, ◌⊎◌, ℕ, List, [], ◌∷◌, false, None, Some}
use Rattle.vms_model.specs.Ids.{Id}
use Rattle.vms_model.specs.Transactions.{Abort, Commit, Reason}
use Rattle.world_laws.specs.transcript_model.Lines as line
use Rattle.world_laws.specs.transcript_model.Lines.{Line}
use Rattle.world_laws.specs.script_model.Statements.{At, DeclareRm, Reading, Says}
use Rattle.world_laws.specs.script_model.Grammar.{reading}
use Rattle.commit_protocol.specs.Messages.{AbortEvent, CommitEvent, Name}
use Rattle.commit_protocol.specs.World.{In}
use Rattle.world_laws.specs.run_model.World.{Node, World, find_node}
use Rattle.world_laws.specs.run_model.Transcript.{Entry, InAllRuns}
use Rattle.run_laws.specs.Accounts.{made_anew}
use Rattle.run_laws.specs.Owing.{MayForget, NoneForget, Waits}
use Rattle.run_laws.specs.Promises.{IsSettledSo, IsShown, ShownThere, commitment}
use Rattle.run_laws.specs.SaidLaws.{SaidThere}

-- none of these entries made the volume of this node anew
abbrev pub NoneMade : List ℕ → List Entry → Type 0
NoneMade node [] = Unit {0}
NoneMade node (e ∷ es) = (made_anew node (reading e.source.text) e.lines ≡ false) × NoneMade node es

-- before the first line a committed record of this branch stood on its node's disk, and waited for this manager; and none of these entries made that volume anew
abbrev pub WasOwed : (tid serial : Id) → (rm : Name) → World → List Entry → Type 0
WasOwed tid serial rm opening es = (n : Node) × (find_node serial.node opening.nodes ≡ Some n) × Waits tid serial rm n.durable × NoneMade serial.node es

-- A manager is told a commitment behind a line that shows it, in the same statement or an earlier one; and so the branch is settled, for good. Or it is told as it is
-- declared, of a branch whose committed record stood on its disk before the first line and waited for the manager, and whose volume was not made anew since.
abbrev pub CommitsAreTold : World → List Entry → World → Type 0
CommitsAreTold opening es closing = (before : List Entry) (said : Reading) (front behind : List Line) (tid serial : Id) (rm : Name) → ShownThere es before said front (line.ManagerTold CommitEvent tid serial rm) behind →
    ((moment : ℕ) × (In (line.Committed tid serial moment) front ⊎ IsShown (commitment tid serial moment) before) × IsSettledSo tid serial Commit None moment closing)
    ⊎ ((said ≡ Says (At serial.node (DeclareRm rm))) × WasOwed tid serial rm opening before)

-- It is told an abort right in the statement that shows it, behind its line; and so the branch is settled, for good.
abbrev pub AbortsAreTold : List Entry → World → Type 0
AbortsAreTold es closing = (before : List Entry) (said : Reading) (front behind : List Line) (tid serial : Id) (rm : Name) → ShownThere es before said front (line.ManagerTold AbortEvent tid serial rm) behind →
    (reason : Reason) × (moment : ℕ) × In (line.Aborted tid serial reason moment) front × IsSettledSo tid serial Abort (Some reason) moment closing

-- A DECLARE_RM shows nothing but commitments, of branches of its node, that it tells the manager which it declares.
abbrev pub DeclaresShow : List Entry → Type 0
DeclaresShow es = (before : List Entry) (node : List ℕ) (rm : Name) (events : List Line) (answer : Line) → SaidThere es before (At node (DeclareRm rm)) events answer →
    (l : Line) → In l events → (tid : Id) × (serial : Id) × (serial.node ≡ node) × (l ≡ line.ManagerTold CommitEvent tid serial rm)

-- A commitment of which a manager was told, by whatever statement, it is told at each later DECLARE_RM of it at the branch's node that succeeds, over all failures and
-- restarts, until a statement has it reply FORGET at that node, or may make the volume anew.
abbrev pub CommitsAreRetold : List Entry → Type 0
CommitsAreRetold es = (before : List Entry) (said : Reading) (front behind : List Line) (tid serial : Id) (rm : Name) → (there : ShownThere es before said front (line.ManagerTold CommitEvent tid serial rm) behind) → (MayForget serial.node rm said → ⊥) →
    (between : List Entry) (later : List Line) → SaidThere there.after between (At serial.node (DeclareRm rm)) later line.Normal → NoneForget serial.node rm between → In (line.ManagerTold CommitEvent tid serial rm) later

abbrev pub CommitsToldHold : Type 0
CommitsToldHold = InAllRuns CommitsAreTold

abbrev pub AbortsToldHold : Type 0
AbortsToldHold = InAllRuns (λ opening es closing. AbortsAreTold es closing)

abbrev pub DeclaresHold : Type 0
DeclaresHold = InAllRuns (λ opening es closing. DeclaresShow es)

abbrev pub RetoldHold : Type 0
RetoldHold = InAllRuns (λ opening es closing. CommitsAreRetold es)
