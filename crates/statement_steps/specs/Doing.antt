-- How the parts of a statement are done one after another, each by its node, in worlds whose disks have the counts of then. Each part reads the counts that stood
-- when the statement began, and may do what those allow that stand when it has ended.
use Rattle.std.specs.Prelude.{◌≡◌, ◌⊎◌, List, [], ◌∷◌, ◌++◌, Bool, true, false, ℕ}
use Rattle.world_laws.specs.transcript_model.Lines.{Line, Normal}
use Rattle.run_agreement.specs.Laws.{NamesApart}
use Rattle.world_laws.specs.Nodes.{IsKeptNode}
use Rattle.world_laws.specs.run_model.World.{World, Node, Shared, DiskCounts, with_counts, with_node}
use Rattle.world_laws.specs.run_model.Answers.{Task, task_service}
use Rattle.world_laws.specs.run_model.Steps.{Choice}
use Rattle.world_laws.specs.run_model.Statements.{Allowed, NoneFalls, Part, PartEffect, Phase, part_effect}

-- a world with the counts that its disks had when the statement began
abbrev pub as_begun : List DiskCounts → World → World
as_begun begun w = record w { disks = begun }

-- a world in which the node of this name has become another, with these counts of its disk, and with this that nodes share
abbrev pub moved : World → List ℕ → Node → DiskCounts → Shared → World
moved w node m new after = record { nodes = with_node node (λ n. m) w.nodes; disks = with_counts node new w.nodes w.disks; shared = after }

-- what is done from a world on: whether the statement ended with it, what it showed, the answer, and the world that it leads to
abbrev pub Deed : Type 1
Deed = World → Bool → List Line → Line → World → Type 0

-- nothing: the statement goes on, with the answer so far that it has succeeded
abbrev pub Nothing : Deed
Nothing w ends lines answer v = (ends ≡ false) × (lines ≡ []) × (answer ≡ Normal) × (v ≡ w)

-- a part, and what is done behind it, unless the statement ended with the part
abbrev pub Behind : PartEffect → Deed → Bool → List Line → Line → World → Type 0
Behind e more ends lines answer v = elim e.ends [
  | true ↦ (ends ≡ true) × (lines ≡ e.lines) × (answer ≡ e.answer) × (v ≡ e.world)
  | false ↦ (e.answer ≡ Normal) × (rest : List Line) × (lines ≡ e.lines ++ rest) × more e.world ends rest answer v
]

-- these parts one after another, up to the first with which the statement ended, where these are the counts of the disks after the statement
abbrev pub Walked : List DiskCounts → List Part → Deed
Walked after [] w ends lines answer v = Nothing w ends lines answer v
Walked after (p ∷ ps) w ends lines answer v = (c : Choice) × Allowed w p after c × Behind (part_effect w p c) (Walked after ps) ends lines answer v

-- In a statement that began with these counts, these parts were done from w on, up to the first with which it ended; so w became v.
pub record DoesParts (begun : List DiskCounts) (ps : List Part) (w : World) (ends : Bool) (lines : List Line) (answer : Line) (v : World) : Type 0 where
  pub walked : Walked v.disks ps (as_begun begun w) ends lines answer (as_begun begun v)
  pub counts : NoneFalls w.disks v.disks

-- likewise the parts of these phases, each read in the world in which it begins
abbrev pub DoesPhases : List DiskCounts → List Phase → Deed
DoesPhases begun [] w ends lines answer v = Nothing w ends lines answer v
DoesPhases begun (p ∷ ps) w ends lines answer v =
    ((ends ≡ true) × DoesParts begun (p (as_begun begun w)) w true lines answer v)
    ⊎ ((mid : World) × (front : List Line) × (rest : List Line) × (lines ≡ front ++ rest) × DoesParts begun (p (as_begun begun w)) w false front Normal mid × DoesPhases begun ps mid ends rest answer v)

-- a task whose success is Normal
abbrev pub IsPlain : Task → Type 0
IsPlain t = (s : Shared) (n : Node) → (task_service t).answer s n ≡ Normal

-- each node is as nodes are in the worlds of runs
abbrev pub AllKept : Shared → List Node → Type 0
AllKept s [] = Unit {0}
AllKept s (n ∷ ns) = IsKeptNode s n × AllKept s ns

-- A world within a statement that began with these counts: none has fallen since, no two nodes have one name, and each node is as nodes are in the worlds of runs.
pub record IsWithin (begun : List DiskCounts) (w : World) : Type 0 where
  pub falls : NoneFalls begun w.disks
  pub apart : NamesApart w.nodes
  pub kept : AllKept w.shared w.nodes
