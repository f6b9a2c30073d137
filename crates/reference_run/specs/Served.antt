-- The rack that the code's values stand for, whose disks never failed, and what statements do there.
use Rattle.std.specs.Prelude.{◌≡◌, ℕ, ◌-◌, ◌*◌, List, [], ◌∷◌, ◌++◌, Bool, true, false, Option, Some, None, if◌then◌else◌, map}
use Rattle.std.specs.List.{AllByRecursion}
use Rattle.std.specs.Str.{bytes_eq}
use Rattle.vms_model.specs.Ids.{Id}
use Rattle.script_lang.specs.script_model.Statements as said
use Rattle.script_lang.specs.script_model.Statements.{Statement}
use Rattle.world_laws.specs.transcript_model.Lines as model
use Rattle.net_wire.specs.commit_protocol.Messages.{Message}
use Rattle.net_wire.specs.commit_protocol.Table.{Key}
use Rattle.world_laws.specs.run_model.Answers as answers
use Rattle.world_laws.specs.run_model.Answers.{Service}
use Rattle.world_laws.specs.run_model.Steps.{Whole}
use Rattle.world_laws.specs.run_model.Statements as statements
use Rattle.world_laws.specs.run_model.Statements.{answer_of, part_effect}
use Rattle.world_laws.specs.run_model.World as world
use Rattle.world_laws.specs.run_model.World.{World, Lost, find_node, with_node}
use Rattle.vms_base.specs.Ids.{id_of}
use Rattle.script_lang.specs.declared.statement.Request.{Request}
use Rattle.script_lang.specs.declared.statement.Request.TheVariants as request
use Rattle.statement_steps.specs.Doing.{AllKept}
use Rattle.reference_world.specs.declared.line.Line.{Line}
use Rattle.reference_world.specs.Standing.{line_of}
use Rattle.reference_law.specs.Whole.{PlaceSaid, StatementShown, parts_shown, phases_shown, shown_whole}
use Rattle.reference_tasks.specs.reference_node.Nodes.{node_of}
use Rattle.reference_branches.specs.Branches.{shared_of}
use Rattle.reference_tasks.specs.Tasks.{Performs}
use Rattle.reference_tasks.specs.Serving.{HasUnits, IsSetEarly, Serves}
use Rattle.reference_tasks.specs.declared.tasks.TaskShown.{TaskShown}
use Rattle.reference_run.specs.declared.rack.Rack.{Rack}
use Rattle.reference_run.specs.declared.rack.Part.{Part}
use Rattle.reference_run.specs.declared.rack.Part.TheVariants as part
use Rattle.reference_run.specs.declared.rack.Place.{Place}

-- disks of these nodes that never failed
abbrev pub no_counts : List world.Node → List world.DiskCounts
no_counts ns = map (λ (n : world.Node). record { faults = 0; stops = 0 }) ns

-- a world with these nodes and this that they share
abbrev pub moved : List world.Node → world.Shared → World
moved ns s = record { nodes = ns; disks = no_counts ns; shared = s }

-- their world
abbrev pub world_of : Rack → World
world_of r = record { nodes = map node_of r.nodes.items; disks = no_counts (map node_of r.nodes.items); shared = shared_of r.shared }

abbrev pub place_of : Place → PlaceSaid
place_of p = record { name = p.name; blocks = p.blocks }

abbrev pub part_of : Part → statements.Part
part_of (part.Restarts node) = statements.Does node answers.Restarts
part_of (part.RunsDown node) = statements.Does node answers.RunsDown
part_of (part.Asks node serial) = statements.Asks node (id_of serial)

-- Each node has so many units to spare.
abbrev pub AllHave : ℕ → List world.Node → Type 0
AllHave units ns = AllByRecursion (HasUnits units) ns

-- So each node of a world has, and it is as nodes are in the worlds of runs.
pub record IsFit (count : ℕ) (w : World) : Type 0 where
  pub kept : AllKept w.shared w.nodes
  pub units : AllHave count w.nodes
  pub disks : w.disks ≡ no_counts w.nodes

-- where a statement sets a clock, it is set early enough for so many units
abbrev pub AreTimely : ℕ → Statement → Type 0
AreTimely units (said.At node request) = IsSetEarly units request
AreTimely units (said.Deliver number) = Unit {0}
AreTimely units (said.LinkDown a b) = Unit {0}
AreTimely units said.Settle = Unit {0}

-- what the lines may take that are left behind so many
abbrev pub units_left : ℕ → ℕ
units_left number = 1024 * (1000001 - number)

-- whether a request sets a clock
abbrev pub sets_clock : Request → Bool
sets_clock (request.Clock now) = true
sets_clock _ = false

-- the phases of a request to a node, which sets its clock or not
abbrev pub phases_by : Bool → List ℕ → said.Request → List statements.Phase
phases_by true node request = (λ w. statements.Does node (answers.Serves request) ∷ []) ∷ statements.where_up node answers.Ticks ∷ []
phases_by false node request = (λ w. statements.Does node (answers.Serves request) ∷ []) ∷ []

-- whether a node of this name is there
abbrev pub node_there : List ℕ → List world.Node → Bool
node_there name [] = false
node_there name (n ∷ ns) = if bytes_eq name n.name then true else node_there name ns

-- whether it is up
abbrev pub node_up : List ℕ → List world.Node → Bool
node_up name [] = false
node_up name (n ∷ ns) = if bytes_eq name n.name then n.up else node_up name ns

-- A task was done at the node of this name, where there is one: this one or none.
abbrev pub IsDoneBy : Option world.Node → List ℕ → Service → world.Shared → List world.Node → Option TaskShown → List world.Node → world.Shared → Type 0
IsDoneBy (Some n) name e s ns shown ms t = (x : TaskShown) × (m : world.Node) × (shown ≡ Some x) × Performs s n e x m t × (ms ≡ with_node name (λ k. m) ns)
IsDoneBy None name e s ns shown ms t = (shown ≡ None) × (ms ≡ ns) × (t ≡ s)

abbrev pub IsDone : List ℕ → Service → world.Shared → List world.Node → Option TaskShown → List world.Node → world.Shared → Type 0
IsDone name e s ns shown ms t = IsDoneBy (find_node name ns) name e s ns shown ms t

-- Likewise a request.
abbrev pub IsServedBy : Option world.Node → List ℕ → Service → world.Shared → List world.Node → Option (List Line) → List world.Node → world.Shared → Type 0
IsServedBy (Some n) name e s ns shown ms t = (xs : List Line) × (m : world.Node) × (shown ≡ Some xs) × Serves s n e xs m t × (ms ≡ with_node name (λ k. m) ns)
IsServedBy None name e s ns shown ms t = (shown ≡ None) × (ms ≡ ns) × (t ≡ s)

abbrev pub IsServedAt : List ℕ → Service → world.Shared → List world.Node → Option (List Line) → List world.Node → world.Shared → Type 0
IsServedAt name e s ns shown ms t = IsServedBy (find_node name ns) name e s ns shown ms t

-- what the node of this name answers the question of a branch, where there is one
abbrev pub answer_there : List ℕ → Key → List world.Node → Option (Option Message)
answer_there name k [] = None
answer_there name k (n ∷ ns) = if bytes_eq name n.name then Some (answer_of n k) else answer_there name k ns

-- questions of these serials at a node, and then others
abbrev pub questions_then : List ℕ → List Id → List statements.Part → List statements.Part
questions_then node [] others = others
questions_then node (serial ∷ serials) others = statements.Asks node serial ∷ questions_then node serials others

-- A part was done whole, where no act was under way: so it showed its lines, so it was answered, and it led to that world.
pub record IsPart (p : statements.Part) (w : World) (shown : TaskShown) (v : World) : Type 0 where
  pub lines : map line_of shown.lines.items ≡ (part_effect w p (Whole Lost)).lines
  pub answer : line_of shown.answer ≡ (part_effect w p (Whole Lost)).answer
  pub ends : shown.ends ≡ (part_effect w p (Whole Lost)).ends
  pub world : v ≡ (part_effect w p (Whole Lost)).world

-- An answer at once to a question was heard; or there was none, and nothing was done.
abbrev pub IsHeard : Option Message → World → TaskShown → World → Type 0
IsHeard (Some m) w shown v = IsPart (statements.Does m.to (answers.Hears m)) w shown v
IsHeard None w shown v = (shown.lines.items ≡ []) × (line_of shown.answer ≡ model.Normal) × (shown.ends ≡ false) × (v ≡ w)

-- The same of a part with which its statement ends, its answer last.
pub record ServesPart (p : statements.Part) (w : World) (shown : List Line) (v : World) : Type 0 where
  pub lines : map line_of shown ≡ (part_effect w p (Whole Lost)).lines ++ (part_effect w p (Whole Lost)).answer ∷ []
  pub world : v ≡ (part_effect w p (Whole Lost)).world

-- what was shown, and what is behind it unless the statement ended
abbrev pub followed : TaskShown → World → (World → model.Line → StatementShown) → StatementShown
followed x v behind = if x.ends
    then record { lines = map line_of x.lines.items ++ line_of x.answer ∷ []; world = v }
    else record { lines = map line_of x.lines.items ++ (behind v (line_of x.answer)).lines; world = (behind v (line_of x.answer)).world }

-- These parts were done one after another, up to the first with which the statement ended.
abbrev pub Runs : List statements.Part → World → model.Line → TaskShown → World → Type 0
Runs ps w given x v = (behind : World → model.Line → StatementShown) → parts_shown ps behind w given ≡ followed x v behind

-- These phases were done likewise, each read in the world in which it began.
abbrev pub RunsPhases : List statements.Phase → World → model.Line → TaskShown → World → Type 0
RunsPhases ps w given x v = phases_shown ps w given ≡ followed x v (phases_shown [])

-- A statement was served whole: these lines were shown, and it led to that world.
pub record IsShown (s : Statement) (w : World) (shown : List Line) (v : World) : Type 0 where
  pub lines : map line_of shown ≡ (shown_whole w s).lines
  pub world : v ≡ (shown_whole w s).world
