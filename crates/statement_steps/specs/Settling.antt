-- The phases of a settling, node by node and branch by branch, in the order in which it goes.
use Rattle.std.specs.Prelude.{◌≡◌, ℕ, List, [], ◌∷◌, ◌++◌, true, false, Option, Some, None, if◌then◌else◌, length, take, drop}
use Rattle.std.specs.Option.{option_and_then}
use Rattle.vms_model.specs.Ids.{Id}
use Rattle.world_laws.specs.transcript_model.Lines.{Line, Normal}
use Rattle.commit_protocol.specs.Agreement.{Distinct}
use Rattle.commit_protocol.specs.Allowed.{is_prepared}
use Rattle.commit_protocol.specs.Messages.{Inquire, Message}
use Rattle.commit_protocol.specs.Rows.{up}
use Rattle.commit_protocol.specs.Table.{Branch, find_serial}
use Rattle.commit_protocol.specs.World.{arranged}
use Rattle.world_laws.specs.run_model.World.{DiskCounts, Node, World}
use Rattle.world_laws.specs.run_model.Answers.{Restarts, RunsDown}
use Rattle.world_laws.specs.run_model.Statements.{Asks, Does, Part}
use Rattle.statement_steps.specs.Doing.{DoesParts}

-- each of these nodes is up
abbrev pub AreUp : List Node → Type 0
AreUp [] = Unit {0}
AreUp (n ∷ ns) = (n.up ≡ true) × AreUp ns

-- parts of each node, one node after another
abbrev pub each_node : (Node → List Part) → List Node → List Part
each_node parts [] = []
each_node parts (n ∷ ns) = parts n ++ each_node parts ns

-- the serials of those of these branches that are prepared
abbrev pub in_doubt_of : List Branch → List Id
in_doubt_of [] = []
in_doubt_of (b ∷ bs) = if is_prepared b.state then b.key.serial ∷ in_doubt_of bs else in_doubt_of bs

-- likewise of a node, in the order of their preparation
abbrev pub doubts_of : Node → List Id
doubts_of n = in_doubt_of (arranged n.volatile.preparation n.volatile.branches)

-- what a branch asks, where it is prepared
abbrev pub question_of : Branch → Option Message
question_of b = if is_prepared b.state then Some (up Inquire b.key) else None

-- what the branch of this serial asks, among these
abbrev pub question_in : Id → List Branch → Option Message
question_in serial bs = option_and_then question_of (find_serial serial bs)

-- the branches of these serials ask
abbrev pub asks : List ℕ → List Id → List Part
asks node [] = []
asks node (serial ∷ serials) = Asks node serial ∷ asks node serials

-- what each node does in each phase: it is booted where it is down; it aborts what is not prepared; and each branch asks that is prepared
abbrev pub restart_of : Node → List Part
restart_of n = if n.up then [] else Does n.name Restarts ∷ []

abbrev pub run_down_of : Node → List Part
run_down_of n = Does n.name RunsDown ∷ []

abbrev pub asks_of : Node → List Part
asks_of n = asks n.name (doubts_of n)

-- In a phase that began in the world w, the parts of the nodes before this place were done, and the statement goes on; the nodes from there on, and their disks,
-- are as they were.
pub record Through (begun : List DiskCounts) (parts : Node → List Part) (w : World) (place : ℕ) (lines : List Line) (v : World) : Type 0 where
  pub does : DoesParts begun (each_node parts (take place w.nodes)) w false lines Normal v
  pub nodes : drop place v.nodes ≡ drop place w.nodes
  pub disks : drop place v.disks ≡ drop place w.disks

-- Of the branches of these serials, which were in doubt at a node when it began to ask in the world w, some have asked, and the statement goes on. Those in doubt now
-- are so many that got no answer, in front, and then the ones that are still to ask.
pub record Asking (begun : List DiskCounts) (node : List ℕ) (serials : List Id) (w : World) (unanswered : ℕ) (doubts : List Id) (lines : List Line) (v : World) : Type 0 where
  pub asked : List Id
  pub kept : List Id
  pub rest : List Id
  pub all : serials ≡ asked ++ rest
  pub now : doubts ≡ kept ++ rest
  pub count : length kept ≡ unanswered
  pub distinct : Distinct doubts
  pub does : DoesParts begun (asks node asked) w false lines Normal v
