-- Whom an END_TRANS asks that is answered that something is missing.
use Rattle.std.specs.Prelude.{◌⊎◌, ℕ, List}
use Rattle.vms_model.specs.Ids.{Id}
use Rattle.world_laws.specs.transcript_model.Lines as line
use Rattle.world_laws.specs.transcript_model.Lines.{Line}
use Rattle.world_laws.specs.script_model.Statements.{At, EndTrans}
use Rattle.commit_protocol.specs.Messages.{Name, OnePhaseEvent, PrepareEvent, RmEvent}
use Rattle.commit_protocol.specs.World.{In}
use Rattle.world_laws.specs.run_model.Transcript.{Entry, InAllRuns}
use Rattle.run_laws.specs.Causes.{WasBegun}
use Rattle.run_laws.specs.SaidLaws.{SaidThere}

-- these lines ask a resource manager for its reply, for the first branch of this transaction
abbrev pub IsAsked : Id → Name → List Line → Type 0
IsAsked tid rm events = In (line.ManagerTold PrepareEvent tid tid rm) events ⊎ In (line.ManagerTold OnePhaseEvent tid tid rm) events

-- The resource managers that its answer names are just those that it asks: each that is named has the event PREPARE or ONEPHASE there, and each that has an event there
-- is named.
abbrev pub PendingAreAsked : List Entry → Type 0
PendingAreAsked es = (before : List Entry) (node label : List ℕ) (events : List Line) (serials : List Id) (rms : List Name) → SaidThere es before (At node (EndTrans label)) events (line.Pending serials rms) →
    (tid : Id) × WasBegun before node label tid × ((rm : Name) → In rm rms → IsAsked tid rm events) × ((event : RmEvent) (t serial : Id) (rm : Name) → In (line.ManagerTold event t serial rm) events → In rm rms)

abbrev pub PendingAskedHold : Type 0
PendingAskedHold = InAllRuns (λ opening es closing. PendingAreAsked es)
