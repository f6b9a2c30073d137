-- How the entries of a run lead on from the nodes before its first line, where of some of their disks nothing is known.
use Rattle.std.specs.Prelude.{◌≡◌, ◌⊎◌, ℕ, List, [], ◌∷◌, ◌++◌, ◌==◌, Bool, true, false, not, ◌&&◌, Option, None, map}
use Rattle.std.specs.Option.{option_map}
use Rattle.std.specs.List.{AllByRecursion}
use Rattle.block_disk.specs.Disk.{DiskState}
use Rattle.transcript_model.specs.Lines.{Line}
use Rattle.transcript_model.specs.Outside.{behind}
use Rattle.transcript_model.specs.Script.{ScriptLine, lines_of}
use Rattle.script_model.specs.Statements.{At, Boot, Says, Settle, Statement}
use Rattle.script_model.specs.Grammar.{reading}
use Rattle.world_laws.specs.run_model.World.{Node, Unknown, World, nothing_volatile, opened}
use Rattle.world_laws.specs.run_model.Transcript.{AreInLimits, AreOpening, Ends, Entry, Turn}
use Rattle.statement_steps.specs.run_agreement.Laws.{IsReplaced}
use Rattle.run_laws.specs.Promises.{KeptPromises}
use Rattle.manager_laws.specs.Promises.{ManagerPromises}
use Rattle.recovery_runs.specs.Promises.{RecoveryPromises}
use Rattle.run_laws.specs.run_said.Said.{Said, SaidNode, is_settling, said_here}
use Rattle.day_run.specs.node_standing.Standing.{counts_of}
use Rattle.day_run.specs.node_standing.Telling.{said_label}
use Rattle.day_run.specs.run_nodes.Calls.{DisksFollowLine, LineFollows}
use Rattle.day_run.specs.run_nodes.Untold.{BootsUnknown}
use Rattle.dtm_run.specs.Headline.{AllGo, DisksRepresent, KeepsAgreed, Leaves, WholeRun, exit_of, is_known}
use Rattle.dtm_run.specs.declared.top.Exit.{Exit}

-- nodes as before a first line, and their disks
pub record Beginning : Type 0 where
  pub nodes : List Node
  pub disks : List DiskState

-- the nodes of these names are down, and each stands on its disk, whether or not something is known of that
pub record Begins (names : List (List ℕ)) (b : Beginning) : Type 0 where
  pub opening : AreOpening b.nodes
  pub stand : DisksRepresent names b.disks b.nodes

-- the world before that line
abbrev pub world_at : Beginning → World
world_at b = opened b.nodes (map counts_of b.disks)

-- what lines say that lead to a world
abbrev pub said_node_of : Node → SaidNode
said_node_of n = record { name = n.name; up = n.up; unmade = n.unmade }

abbrev pub said_world : World → Said
said_world w = record { nodes = map said_node_of w.nodes; shared = record { labels = map said_label w.shared.labels; in_use = w.shared.in_use; wire = w.shared.wire } }

-- each of these nodes is down, and no INIT of it failed
abbrev pub are_resting : List SaidNode → Bool
are_resting [] = true
are_resting (n ∷ ns) = not n.up && (not n.unmade && are_resting ns)

-- whether a volume may still be made, no label was, and no message was sent
abbrev pub is_unused : Said → Bool
is_unused said = elim said.shared.labels [
  | [] ↦ elim said.shared.wire [ [] ↦ not said.shared.in_use && are_resting said.nodes | m ∷ ms ↦ false ]
  | label ∷ labels ↦ false
]

-- no clock was set
abbrev pub are_unset : List Node → Bool
are_unset [] = true
are_unset (n ∷ ns) = (n.clock == 0) && are_unset ns

-- whether nodes are as before a first line once a statement was answered so, but for what their disks have
abbrev pub is_unused_behind : World → Statement → List Line → Bool
is_unused_behind w s lines = not (is_settling s) && (is_unused (said_here (Says s) lines (said_world w)) && are_unset w.nodes)

-- an entry of a statement that may bring up a node of whose disk nothing is known; its lines follow what was said before, and behind it nodes are unused or are
-- not
pub record IsUnknown (w : World) (e : Entry) (unused : Bool) : Type 0 where
  pub statement : Statement
  pub says : reading e.source.text ≡ Says statement
  pub boots : BootsUnknown w statement
  pub follows : LineFollows (said_world w) (Says statement) e.lines
  pub leaves : is_unused_behind w statement e.lines ≡ unused

-- a node as before a first line: it is down, with what its disk has
abbrev pub as_first : Node → Node
as_first n = record { name = n.name; blocks = n.blocks; durable = n.durable; volatile = nothing_volatile; unmade = false; up = false; was_up = false; clock = 0; settled = []; calls = []; under_way = None }

-- Nodes, place by place: of whose disk something is known, that node is kept, as before a first line.
abbrev pub KeepKnown : List Node → List Node → Type 0
KeepKnown [] [] = Unit {0}
KeepKnown (n ∷ ns) (m ∷ ms) = (is_known n.durable.volume ≡ true → m ≡ as_first n) × KeepKnown ns ms
KeepKnown ns ms = ⊥

-- A BOOT of a node of whose disk nothing is known was refused in this world, to which entries led from the former beginning. From disks that have what its nodes
-- have, its lines tell of each disk as those of any statement do; and nodes are as before a first line, of which those are kept of whose disks something is known.
pub record BeginsAnew (names : List (List ℕ)) (former : Beginning) (w : World) (e : Entry) (last : Beginning) : Type 0 where
  pub unknown : IsUnknown w e true
  pub disks : List DiskState
  pub leaves : Leaves former.disks w disks
  pub tells : DisksFollowLine names (said_world w) (Says unknown.statement) e.lines disks last.disks
  pub goes : AllGo former.disks last.disks
  pub begins : Begins names last
  pub keeps : KeepKnown w.nodes last.nodes

-- Entries, the newest first, lead from the first beginning to this world, which those since the last beginning made. Each is a turn of the world, but for a BOOT of a
-- node of whose disk nothing is known: where it was refused, so that nodes are unused, the run begins anew behind it.
abbrev pub Leads : (names : List (List ℕ)) → (first : Beginning) → List Entry → (last : Beginning) → (since : List Entry) → World → Type 0
Leads names first [] last since w = (last ≡ first) × (since ≡ []) × (w ≡ world_at first)
Leads names first (e ∷ es) last [] w = (former : Beginning) × (earlier : List Entry) × (mid : World) × Leads names first es former earlier mid × BeginsAnew names former mid e last × (w ≡ world_at last)
Leads names first (e ∷ es) last (latest ∷ since) w = (latest ≡ e) × (mid : World) × Leads names first es last since mid × Turn mid (reading e.source.text) e.lines w

-- the oldest of these entries is a statement of that kind behind which nodes are not unused
abbrev pub LeadsNowhere : World → List Entry → Type 0
LeadsNowhere w [] = ⊥
LeadsNowhere w (e ∷ []) = IsUnknown w e false
LeadsNowhere w (e ∷ f ∷ es) = LeadsNowhere w (f ∷ es)

-- Where no entry is left over, these disks are left; else the first of them leads nowhere.
abbrev pub LeavesOver : Beginning → World → List Entry → List DiskState → Type 0
LeavesOver last w [] after = Leaves last.disks w after
LeavesOver last w (e ∷ es) after = LeadsNowhere w (e ∷ es)

-- A run from a beginning on: what was shown is the text of entries, which lead to a world, up to a statement that leads nowhere; and these disks are left.
pub record RunsFrom (names : List (List ℕ)) (first : Beginning) (script : Option (List ScriptLine)) (old new : Option (List ℕ)) (ended : Exit) (after : List DiskState) : Type 0 where
  pub led : List Entry
  pub left_over : List Entry
  pub last : Beginning
  pub since : List Entry
  pub closing : World
  pub leads : Leads names first led last since closing
  pub leaves : LeavesOver last closing left_over after
  pub in_limits : AreInLimits (left_over ++ led)
  pub added : List ℕ
  pub shows : new ≡ behind old added
  pub ends : Ends (exit_of ended) script (left_over ++ led) added

-- The whole run over a script's bytes, from these nodes on, which are down at first: as above, and all that the entries since the last beginning tell is kept
-- for good; more of it, as what dumps show, where the images agree with which that began.
pub record RunOver (names : List (List ℕ)) (nodes : List Node) (before after : List DiskState) (script old new : Option (List ℕ)) (ended : Exit) : Type 0 where
  pub run : RunsFrom names (record { nodes = nodes; disks = before }) (option_map lines_of script) old new ended after
  pub promises : KeptPromises (world_at run.last) run.since run.closing
  pub managers : ManagerPromises (world_at run.last) run.since run.closing
  pub recoveries : RecoveryPromises (world_at run.last) run.since run.closing
  pub agreed : KeepsAgreed (world_at run.last) run.last.nodes run.since run.closing

-- something is known of the disk of each of these nodes
abbrev pub AreKnown : List Node → Type 0
AreKnown ns = AllByRecursion (λ (n : Node). is_known n.durable.volume ≡ true) ns

-- From such nodes on all entries lead on: the whole transcript is legal and keeps its promises.
abbrev pub KnownRunsAreWhole : Type 0
KnownRunsAreWhole = (names : List (List ℕ)) (nodes : List Node) (before after : List DiskState) (script old new : Option (List ℕ)) (ended : Exit) → AreKnown nodes →
    RunOver names nodes before after script old new ended → WholeRun nodes before after script old new ended

-- Before each of these entries that may boot the node of this name, what its disk had was replaced.
abbrev pub IsReplacedFirst : List ℕ → List Entry → Type 0
IsReplacedFirst node es = (earlier later : List Entry) (e : Entry) (s : Statement) → es ≡ later ++ e ∷ earlier → reading e.source.text ≡ Says s → (s ≡ At node Boot) ⊎ (s ≡ Settle) → IsReplaced node earlier

-- so of each node of whose disk nothing is known
abbrev pub AreMadeFirst : List Node → List Entry → Type 0
AreMadeFirst ns es = AllByRecursion (λ (n : Node). n.durable.volume ≡ Unknown → IsReplacedFirst n.name es) ns

-- Whatever was known of the disks: where what the disk had of each node of which nothing is known is replaced before it is booted, by an INIT that succeeds or that a
-- failure ends, all entries lead on from the first line.
abbrev pub MadeRunsAreWhole : Type 0
MadeRunsAreWhole = (names : List (List ℕ)) (nodes : List Node) (before after : List DiskState) (script old new : Option (List ℕ)) (ended : Exit) (r : RunOver names nodes before after script old new ended) →
    AreMadeFirst nodes (r.run.left_over ++ r.run.led) → WholeRun nodes before after script old new ended
