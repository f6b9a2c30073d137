-- A node that is up, and what comes to it.
use Rattle.std.specs.Prelude.{◌≡◌, ◌≤◌, ◌+◌, ◌*◌, ◌^◌, ℕ, List, [], ◌∷◌, Bool, true, Option, Some, None}
use Rattle.vms_model.specs.Limits.{branch_limit, moment_limit}
use Rattle.emitter_model.specs.commit_protocol.Rows as rows
use Rattle.emitter_model.specs.commit_protocol.Rows.{Event}
use Rattle.emitter_model.specs.Emitting.{Emits, Shown}
use Rattle.emitter_model.specs.transcript_model.Lines.{Asked, Line}
use Rattle.world_laws.specs.run_model.Answers.{Hears, LosesLink, Restarts, RunsDown, Serves, Takes, Task, Ticks, outcome_told, task_service}
use Rattle.run_shared.specs.Sharing.{SharedState}
use Rattle.node_table.specs.Growing.{end_to_come, moment_to_come}
use Rattle.node_table.specs.Standing.{Up}
use Rattle.file_requests.specs.node_standing.Keeping.{PerformsTask}
use Rattle.file_requests.specs.node_standing.Standing.{NodeState, is_up}
use Rattle.file_requests.specs.node_standing.Telling.{TellsTask}

-- the name of a node that is up
abbrev pub name_of : Up → List ℕ
name_of r = r.stored.volume.catalog.home.node

-- Numbers that only grow have come no further than a restart and so many statements lead.
pub record HasGrown (count : ℕ) (r : Up) : Type 0 where
  pub moment : moment_to_come r.stored ≤ moment_limit + branch_limit + count
  pub end : end_to_come r.stored ≤ 2 ^ 61 + 2 ^ 32 + count * 2 ^ 25
  pub drawn : r.drawn ≤ count

-- an event that may come to a node at any time
abbrev pub ComesFreely : Event → Type 0
ComesFreely (rows.Got m) = Unit {0}
ComesFreely (rows.Clock now) = Unit {0}
ComesFreely (rows.LinkDown other) = Unit {0}
ComesFreely rows.RunDown = Unit {0}
ComesFreely e = ⊥

-- the event that a task tells the table of a node at this clock, where it does no more than that and what it shows before
abbrev pub event_told : ℕ → Task → Option Event
event_told clock (Serves request) = None
event_told clock Ticks = Some (rows.Clock clock)
event_told clock (Takes m) = Some (rows.Got m)
event_told clock (Hears m) = Some (rows.Got m)
event_told clock (LosesLink other) = Some (rows.LinkDown other)
event_told clock RunsDown = Some rows.RunDown
event_told clock Restarts = None

abbrev pub shown_first : Bool → Task → List Line
shown_first true (Hears m) = Asked m.tid m.serial (outcome_told m.kind) ∷ []
shown_first up t = []

-- An event came to a node: each task that tells its table this one was done there, with its lines shown from the moment on at which those were begun that it shows
-- first. Its statement ends with it, or not, where its statement goes on where the disk goes down, or does not.
abbrev pub TellsEvent : Event → (goes_on ends : Bool) → NodeState → SharedState → (a b : Shown) → NodeState → SharedState → Type 0
TellsEvent e goes_on ends k s a b l t = (task : Task) (first : Shown) → event_told k.clock task ≡ Some e → (task_service task).goes_on ≡ goes_on → Emits first (shown_first (is_up k.place) task) a →
    TellsTask task ends ends k s first b l t × PerformsTask task ends ends k s first b l t
