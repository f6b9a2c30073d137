-- Which resource managers joined a branch, as the lines tell; and whom an END_TRANS names that is answered that replies are missing, and what one has that commits at once.
use Rattle.std.specs.Prelude.{ℕ, List}
use Rattle.vms_model.specs.Ids.{Id}
use Rattle.world_laws.specs.transcript_model.Lines as line
use Rattle.world_laws.specs.transcript_model.Lines.{Line}
use Rattle.world_laws.specs.script_model.Statements.{At, EndTrans, JoinRm}
use Rattle.commit_protocol.specs.Messages.{Name}
use Rattle.commit_protocol.specs.World.{In}
use Rattle.world_laws.specs.run_model.Transcript.{Entry, InAllRuns}
use Rattle.run_laws.specs.Causes.{HasJoined, WasBegun}
use Rattle.run_laws.specs.Naming.{IsNamed}
use Rattle.run_laws.specs.SaidLaws.{SaidThere}

-- a resource manager joined a branch: a JOIN_RM of it at this node succeeded, with a label that named the branch
abbrev pub JoinedAt : List Entry → (node : List ℕ) → (tid serial : Id) → (rm : Name) → Type 0
JoinedAt es node tid serial rm = (before : List Entry) × (label : List ℕ) × (events : List Line) × SaidThere es before (At node (JoinRm label rm)) events line.Normal × IsNamed before node label tid serial

-- so it is at the branch's node
abbrev pub ManagerJoined : List Entry → (tid serial : Id) → (rm : Name) → Type 0
ManagerJoined es tid serial rm = JoinedAt es serial.node tid serial rm

-- The resource managers that its answer names are just those that joined the first branch of the transaction: each that is named did, and each that did is named.
abbrev pub PendingAreJoined : List Entry → Type 0
PendingAreJoined es = (before : List Entry) (node label : List ℕ) (events : List Line) (serials : List Id) (rms : List Name) → SaidThere es before (At node (EndTrans label)) events (line.Pending serials rms) →
    (tid : Id) × WasBegun before node label tid × ((rm : Name) → In rm rms → ManagerJoined before tid tid rm) × ((rm : Name) → ManagerJoined before tid tid rm → In rm rms)

-- One that commits at once ends a transaction that nothing else takes part in: no branch was told to have joined it, and no resource manager joined its first branch.
abbrev pub EndsAtOnce : List Entry → Type 0
EndsAtOnce es = (before : List Entry) (node label : List ℕ) (events : List Line) → SaidThere es before (At node (EndTrans label)) events line.Normal →
    (tid : Id) × WasBegun before node label tid × ((serial : Id) → HasJoined before tid serial → ⊥) × ((rm : Name) → ManagerJoined before tid tid rm → ⊥)

abbrev pub PendingJoinedHold : Type 0
PendingJoinedHold = InAllRuns (λ opening es closing. PendingAreJoined es)

abbrev pub AtOnceHold : Type 0
AtOnceHold = InAllRuns (λ opening es closing. EndsAtOnce es)
