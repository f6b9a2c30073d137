-- How a node that is down is booted, by a statement or in a settling.
use Rattle.std.specs.Prelude.{◌≡◌, ◌≤◌, ℕ, List, [], ◌∷◌, ◌++◌, Bool, true, false, Option, Some, None, if◌then◌else◌, map}
use Rattle.std.specs.List.{AllByRecursion}
use Rattle.block_disk.specs.Disk.{CallLog, DiskState, noted}
use Rattle.block_disk.specs.declared.disk.DiskCall.TheVariants as disk_call
use Rattle.block_disk.specs.Sizes.{greatest_disk_size, least_disk_size}
use Rattle.careful_write.specs.declared.down.Down.{Down}
use Rattle.change_set.specs.Files.{free_frames}
use Rattle.emitter_model.specs.commit_protocol.Messages.{Message}
use Rattle.emitter_model.specs.commit_protocol.Table.{branches_of}
use Rattle.world_laws.specs.log_laws.Slots.{committed_of, records_in}
use Rattle.tm_types.specs.Parts.{log_record_of}
use Rattle.script_lang.specs.script_model.Statements as said
use Rattle.transcript.specs.Forms.{HasTime, line_of}
use Rattle.emitter_model.specs.Emitting.{Emits, Shown}
use Rattle.emitter_model.specs.transcript_model.Lines as line
use Rattle.emitter_model.specs.transcript_model.Lines.{Line}
use Rattle.vms_base.specs.Ids.{serial_of, tid_of}
use Rattle.vms_base.specs.declared.protocol.LogRec.{LogRec}
use Rattle.volume.specs.State.{VolumeState}
use Rattle.world_laws.specs.run_model.Answers.{Restarts, Serves, Task, bootable}
use Rattle.world_laws.specs.run_model.Steps.{NodeStep}
use Rattle.world_laws.specs.run_model.World as world
use Rattle.world_laws.specs.run_model.World.{Boots, MayTurnOut, Node, Outturn, Power, acted, powered}
use Rattle.world_laws.specs.Nodes.{IsKeptNode}
use Rattle.recovery_units.specs.Calls.{BreaksAfter, IsRestarting, ReopensTo}
use Rattle.recovery_units.specs.State.{AreOfBranches, HasNoUnit}
use Rattle.recovery_units.specs.Told.{ReopenedTold}
use Rattle.recovery_units.specs.Uses.{Caused, DiskAdvances}
use Rattle.run_shared.specs.Sharing.{IsShared, SharedState}
use Rattle.node_requests.specs.node_table.Running.{IsBooted}
use Rattle.node_requests.specs.node_table.Standing.{IsUp, Up, UpRepresents}
use Rattle.node_requests.specs.node_table.Telling.{IsOfWork, wire_after}
use Rattle.dtm_node.specs.declared.node.Opened.{Opened}
use Rattle.dtm_node.specs.declared.node.Opened.TheVariants as opened
use Rattle.dtm_node.specs.Boots.{IsAwake, IsRaised}
use Rattle.dtm_node.specs.Causes.{cause_of}
use Rattle.node_requests.specs.node_standing.Keeping.{IsPromised, PerformsTask}
use Rattle.dtm_node.specs.Nodes.{last_lines_of, undone_line}
use Rattle.node_requests.specs.Running.{HasGrown}
use Rattle.node_requests.specs.node_standing.Standing.{IsDown, IsRunning, NodeState, Place, RepresentsNode, counts_of, disk_in, disk_of, is_up}
use Rattle.node_requests.specs.node_standing.Telling.{DiskAdvancesOverCalls, TellsTask}

-- whether a task boots a node
abbrev pub boots_node : Task → Bool
boots_node (Serves said.Boot) = true
boots_node Restarts = true
boots_node task = false

-- what is kept of a node that is down, and for which no INIT failed
abbrev pub kept_down : List ℕ → ℕ → Bool → DiskState → NodeState
kept_down name clock has_parts d = record { name = name; unmade = false; clock = clock; place = IsDown has_parts d }

-- what nodes share once one of them may be in use
abbrev pub used : SharedState → SharedState
used s = record s { in_use = true }

-- A boot ended so at a node, whichever task it is of: the statement with it. A settling boots nodes only where one may be in use.
abbrev pub EndsTask : Task → NodeState → SharedState → (a b : Shown) → NodeState → SharedState → Type 0
EndsTask task k s a b l t = TellsTask task true true k s a b l t × PerformsTask task true true k s a b l t

abbrev pub EndsBoot : NodeState → List Line → Line → (uses : Bool) → NodeState → Type 0
EndsBoot k lines answer uses l = (task : Task) → boots_node task ≡ true → (s : SharedState) → (task ≡ Restarts → s.in_use ≡ true) → (a b : Shown) → Emits a (lines ++ answer ∷ []) b → EndsTask task k s a b l (if uses then used s else s)

-- The parts of a node that its disk does not have, once it runs again.
pub record IsWoken (n m : Node) (stops : ℕ) : Type 0 where
  pub name : m.name ≡ n.name
  pub blocks : m.blocks ≡ n.blocks
  pub clock : m.clock ≡ n.clock
  pub unmade : m.unmade ≡ n.unmade
  pub up : m.up ≡ n.up
  pub calls : m.calls ≡ Power stops ∷ n.calls
  pub under_way : m.under_way ≡ None

-- After `power` the disk has one of the contents that its images had, and that settles how the act turned out that was under way.
pub record Wakes (n : Node) (old new : DiskState) : Type 0 where
  pub outturn : Outturn
  pub may : MayTurnOut n outturn
  pub awake : IsAwake n.name new (powered outturn old.stops n)
  pub woken : IsWoken n (powered outturn old.stops n) old.stops

-- In the world the disk ran again and nothing refuses the boot: this volume, whose boot count is raised, is that of the node.
pub record RaisesTo (old : DiskState) (v : VolumeState) (n : Node) : Type 0 where
  pub ready : DiskState
  pub wakes : Wakes n old ready
  pub free : bootable (powered wakes.outturn old.stops n) ≡ None
  pub restarting : IsRestarting v (acted Boots (powered wakes.outturn old.stops n))

-- A node that was down has its volume with a raised boot count, and no unit yet.
pub record OpensUp (k : NodeState) (r : Up) : Type 0 where
  pub raised : IsRaised k.name r.stored.volume
  pub none : HasNoUnit r.stored.units
  pub passes : DiskAdvancesOverCalls (disk_in k.place) (disk_of r)
  pub calls : (disk_of r).calls ≡ noted (disk_call.Power (disk_in k.place).stops) (disk_in k.place).calls
  pub world : (log : CallLog) (n : Node) (s : world.Shared) → RepresentsNode log k n → IsKeptNode s n → IsPromised Restarts n → RaisesTo (disk_in k.place) r.stored.volume n

-- so, or the node is down still, and the boot ended
abbrev pub Opens : NodeState → Place → Opened → Type 0
Opens k (IsRunning r) opened.Up = OpensUp k r
Opens k (IsRunning r) answer = ⊥
Opens k (IsDown has_parts d) opened.Up = ⊥
Opens k (IsDown has_parts d) opened.NoMemory = EndsBoot k [] line.NoMemory false (record k { place = IsDown has_parts d })
Opens k (IsDown has_parts d) (opened.Refused form) = HasTime form × EndsBoot k [] (line_of form) false (record k { place = IsDown has_parts d })
Opens k (IsDown has_parts d) (opened.Fell down) = EndsBoot k (line.Down k.name (cause_of down) ∷ []) (line.Broken (cause_of down)) true (record k { place = IsDown has_parts d })

-- a place with such a volume of the node of this name
abbrev pub IsOpen : List ℕ → Place → Type 0
IsOpen name (IsDown has_parts d) = ⊥
IsOpen name (IsRunning r) = IsRaised name r.stored.volume × HasNoUnit r.stored.units

-- a branch that a restart found prepared is shown so
abbrev pub prepared_told : LogRec → Line
prepared_told r = line.Prepared (tid_of r.tid) (serial_of r.serial)

-- The volume was reopened: the last settlement that it told before was shown, each unit that was undone, and the prepared branches in the order of their preparation,
-- which are in doubt. The node is up.
pub record ReopensUp (clock : ℕ) (v : VolumeState) (boot : ℕ) (r : Up) (a b : Shown) : Type 0 where
  pub told : ReopenedTold
  pub emits : Emits a (last_lines_of v.catalog.home ++ (map undone_line told.settled ++ map prepared_told told.prepared)) b
  pub boot_is : boot ≡ v.catalog.home.boot
  pub up : IsUp r
  pub grown : HasGrown 0 r
  pub drawn : r.drawn ≡ 0
  pub goes : DiskAdvances v.store.disk (disk_of r)
  pub node : r.stored.volume.catalog.home.node ≡ v.catalog.home.node
  pub units : AreOfBranches r.stored.units.begun (branches_of (map log_record_of told.prepared))
  pub committed : map log_record_of told.committed ≡ committed_of (records_in r.stored.units.log)
  pub done : (n : Node) → IsRestarting v n → n.clock ≡ clock → ReopensTo told n r.stored.units r.stored.volume
  pub stands : (n : Node) → IsBooted clock told r.stored n → UpRepresents clock r n

-- or the disk went down so in it, behind so many that were undone and shown
pub record Breaks (clock : ℕ) (v w : VolumeState) (down : Down) (a b : Shown) : Type 0 where
  pub told : ReopenedTold
  pub emits : Emits a (last_lines_of v.catalog.home ++ map undone_line told.settled) b
  pub goes : DiskAdvances v.store.disk w.store.disk
  pub falls : (least_disk_size ≤ w.store.disk.size) × (w.store.disk.size ≤ greatest_disk_size) × (32 ≤ free_frames w.store.pool)
  pub cause : Caused (Some down) v.store.disk w.store.disk
  pub done : (n : Node) → IsRestarting v n → n.clock ≡ clock → BreaksAfter told n w.store.disk

-- That was shown too, and the node is down.
pub record ReopensDown (name : List ℕ) (clock : ℕ) (v : VolumeState) (d : DiskState) (a b : Shown) : Type 0 where
  pub told : ReopenedTold
  pub down : Down
  pub emits : Emits a (last_lines_of v.catalog.home ++ (map undone_line told.settled ++ line.Down name (cause_of down) ∷ line.Broken (cause_of down) ∷ [])) b
  pub goes : DiskAdvances v.store.disk d
  pub cause : Caused (Some down) v.store.disk d
  pub done : (n : Node) → IsRestarting v n → n.clock ≡ clock → BreaksAfter told n d

-- what became of a place with such a volume
abbrev pub Reopens : (name : List ℕ) → (clock : ℕ) → Place → Option ℕ → Place → (a b : Shown) → Type 0
Reopens name clock (IsDown has_parts d) boot p a b = ⊥
Reopens name clock (IsRunning q) (Some boot) (IsRunning r) a b = ReopensUp clock q.stored.volume boot r a b
Reopens name clock (IsRunning q) (Some boot) (IsDown has_parts d) a b = ⊥
Reopens name clock (IsRunning q) None (IsRunning r) a b = ⊥
Reopens name clock (IsRunning q) None (IsDown has_parts d) a b = (has_parts ≡ true) × ReopensDown name clock q.stored.volume d a b

-- what a task shows behind the lines of a boot, once the node is up with this boot count, and what it is answered
abbrev pub shown_up : Task → List ℕ → ℕ → List Line
shown_up Restarts name boot = line.Booted name boot ∷ []
shown_up task name boot = []

abbrev pub answer_up : Task → ℕ → Line
answer_up Restarts boot = line.Normal
answer_up task boot = line.NormalCount boot

-- At a node of the world the boot is a step to a node that is up, whichever task it is of.
pub record RisesHere (log : CallLog) (w : world.Shared) (n : Node) (k : NodeState) (lines : List Line) (boot : ℕ) (l : NodeState) : Type 0 where
  pub node : Node
  pub step : (task : Task) → boots_node task ≡ true → NodeStep w n (counts_of (disk_in k.place)) task (lines ++ shown_up task k.name boot) (answer_up task boot) false node (record w { in_use = true }) (counts_of (disk_in l.place))
  pub stands : RepresentsNode log l node

-- A node that was down came up, with these lines of its boot, before that is shown or answered.
pub record Rises (k : NodeState) (s : SharedState) (boot : ℕ) (a b : Shown) (l : NodeState) (t : SharedState) : Type 0 where
  pub lines : List Line
  pub emits : Emits a lines b
  pub work : AllByRecursion IsOfWork lines
  pub unsent : (wire : List Message) → wire_after lines wire ≡ wire
  pub kept : l ≡ record k { place = l.place }
  pub up : is_up l.place ≡ true
  pub shared : t ≡ used s
  pub calls : (disk_in l.place).calls ≡ noted (disk_call.Power (disk_in k.place).stops) (disk_in k.place).calls
  pub passes : DiskAdvancesOverCalls (disk_in k.place) (disk_in l.place)
  pub world : (log : CallLog) (n : Node) (w : world.Shared) → RepresentsNode log k n → IsShared s w → IsKeptNode w n → IsPromised Restarts n → RisesHere log w n k lines boot l

-- What a boot came to: the node is up with this boot count, or its task ended with it.
abbrev pub ComesTo : NodeState → SharedState → Option ℕ → (a b : Shown) → NodeState → SharedState → Type 0
ComesTo k s (Some boot) a b l t = Rises k s boot a b l t
ComesTo k s None a b l t = (task : Task) → boots_node task ≡ true → (task ≡ Restarts → s.in_use ≡ true) → EndsTask task k s a b l t
