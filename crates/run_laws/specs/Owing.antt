-- What a resource manager is owed: a committed record of its branch stands in the log of its node until it forgets, and tells it of the commitment at each DECLARE_RM.
use Rattle.std.specs.Prelude.{◌≡◌, ◌⊎◌, ℕ, List, [], ◌∷◌, Some}
use Rattle.vms_model.specs.Ids.{Id}
use Rattle.run_said.specs.transcript_model.Lines as line
use Rattle.run_said.specs.transcript_model.Lines.{Line}
use Rattle.run_said.specs.script_model.Statements.{At, Reading, Says, AckEvent, DeclareRm, Init, Named}
use Rattle.run_said.specs.script_model.Grammar.{reading}
use Rattle.commit_protocol.specs.Messages.{LogRecord, Name, CommitEvent, ForgetReply}
use Rattle.commit_protocol.specs.World.{In}
use Rattle.run_said.specs.log_laws.Slots.{committed_of, records_in}
use Rattle.run_said.specs.run_model.World.{Act, DiskCounts, Durable, Node, World, acted, find_node, opened}
use Rattle.run_said.specs.run_model.Transcript.{AreOpening, Entry, InAllRuns, Legal}
use Rattle.run_laws.specs.SaidLaws.{SaidThere}

-- a committed record of this branch stands in a log, and waits for this manager
abbrev pub Waits : (tid serial : Id) → (rm : Name) → Durable → Type 0
Waits tid serial rm d = (r : LogRecord) × In r (committed_of (records_in d.log)) × (r.serial ≡ serial) × (r.tid ≡ tid) × In rm r.rms

-- so it is of a node's disk, also where an act that was under way at its fall has taken place
pub record IsOwed (tid serial : Id) (rm : Name) (n : Node) : Type 0 where
  pub disk : Waits tid serial rm n.durable
  pub way : (act : Act) → n.under_way ≡ Some act → Waits tid serial rm (acted act n).durable

-- what may take it away: a reply FORGET of the manager at that node, or an INIT of the node
abbrev pub MayForget : (node : List ℕ) → (rm : Name) → Reading → Type 0
MayForget node rm said = ((who : Named) × (said ≡ Says (At node (AckEvent who rm ForgetReply)))) ⊎ ((slots : ℕ) × (journal : ℕ) × (said ≡ Says (At node (Init slots journal))))

-- none of these entries says such a thing
abbrev pub NoneForget : (node : List ℕ) → (rm : Name) → List Entry → Type 0
NoneForget node rm [] = Unit {0}
NoneForget node rm (e ∷ es) = (MayForget node rm (reading e.source.text) → ⊥) × NoneForget node rm es

-- What a manager is owed in a world to which some entries lead it is owed in each to which later ones lead from there, over whatever statements, failures of disks and
-- restarts, until it forgets.
abbrev pub OwedStay : Type 0
OwedStay = (nodes : List Node) (disks : List DiskCounts) (after before : List Entry) (w closing : World) → AreOpening nodes → Legal (opened nodes disks) before w → Legal w after closing →
    (tid serial : Id) (rm : Name) (n m : Node) → find_node serial.node w.nodes ≡ Some n → find_node serial.node closing.nodes ≡ Some m → NoneForget serial.node rm after → IsOwed tid serial rm n → IsOwed tid serial rm m

-- A commitment of which a manager was told as it was declared it is told at each later DECLARE_RM that succeeds, until it forgets.
abbrev pub Retells : List Entry → Type 0
Retells es = (before : List Entry) (node : List ℕ) (rm : Name) (events : List Line) (tid serial : Id) → (there : SaidThere es before (At node (DeclareRm rm)) events line.Normal) → In (line.ManagerTold CommitEvent tid serial rm) events →
    (between : List Entry) (later : List Line) → SaidThere there.after between (At node (DeclareRm rm)) later line.Normal → NoneForget node rm between → In (line.ManagerTold CommitEvent tid serial rm) later

abbrev pub RetellsHold : Type 0
RetellsHold = InAllRuns (λ opening es closing. Retells es)
