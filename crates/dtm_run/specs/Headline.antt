-- What a run promises.
use Rattle.std.specs.Prelude.{◌≡◌, ◌||◌, ℕ, List, [], ◌∷◌, Bool, true, false, Option, map, is_some}
use Rattle.std.specs.Option.{option_map}
use Rattle.block_disk.specs.Disk.{DiskState}
use Rattle.careful_write.specs.State.{Leaves as DiskLeaves}
use Rattle.transcript_model.specs.Script.{ScriptLine, lines_of}
use Rattle.transcript_model.specs.Outside.{behind}
use Rattle.script_model.specs.Command.{is_run_form}
use Rattle.day_script.specs.day_model.Command.{day_asked}
use Rattle.commit_protocol.specs.Opening.{IsAgreeing}
use Rattle.statement_steps.specs.run_agreement.Laws.{opening_told}
use Rattle.world_laws.specs.run_model.World.{World, Node, Volume, Sound, Faulty, Barred, Unknown, opened}
use Rattle.world_laws.specs.run_model.Transcript as model
use Rattle.world_laws.specs.run_model.Transcript.{Entry, Ran, EndsUnread}
use Rattle.run_laws.specs.Anew.{AreKnownOrAnew}
use Rattle.run_laws.specs.Laws.{AgreedPromises}
use Rattle.run_laws.specs.Promises.{KeptPromises}
use Rattle.manager_laws.specs.Promises.{ManagerPromises}
use Rattle.recovery_runs.specs.Promises.{RecoveryPromises}
use Rattle.day_run.specs.node_standing.Telling.{DiskAdvancesOverCalls}
use Rattle.volume.specs.declared.catalog.Catalog.{Catalog}
use Rattle.volume.specs.Catalogs.{IsSound, TellsCatalog}
use Rattle.recovery_units.specs.volume_model.Volumes.{HasDisk, HasVolume}
use Rattle.recovery_units.specs.Uses.{IsCounted}
use Rattle.day_run.specs.node_standing.Standing.{counts_of, noted_all}
use Rattle.dtm_run.specs.declared.top.Exit.{Exit}
use Rattle.dtm_run.specs.declared.top.Exit.TheVariants as exit

abbrev pub exit_of : Exit → model.Exit
exit_of exit.Done = model.Done
exit_of exit.BadLine = model.BadLine
exit_of exit.Usage = model.Usage
exit_of exit.ReadFault = model.ReadFault
exit_of exit.WriteFault = model.WriteFault
exit_of exit.Memory = model.Memory
exit_of exit.TooLong = model.TooLong

-- whether these words are a command over the nodes of these names: for a script, or for a day
abbrev pub is_command : List (List ℕ) → List (List ℕ) → Bool
is_command names words = is_run_form names words || is_some (day_asked names words)

-- whether something is known of what a disk has
abbrev pub is_known : Volume → Bool
is_known Sound = true
is_known (Faulty condition block) = true
is_known (Barred bar) = true
is_known Unknown = false

-- A node of the world stands on a disk that tells its content: it has this name and as many blocks, and the disk has what the node's disk has. Where nothing is
-- known of that, any disk has it.
pub record DiskRepresents (name : List ℕ) (d : DiskState) (n : Node) : Type 0 where
  pub name_is : n.name ≡ name
  pub blocks : n.blocks ≡ d.size
  pub told : is_some d.seen ≡ true
  pub counted : IsCounted d
  pub has : HasDisk n d

-- so do the nodes of a rack, each on its own
abbrev pub DisksRepresent : List (List ℕ) → List DiskState → List Node → Type 0
DisksRepresent [] [] [] = Unit {0}
DisksRepresent (name ∷ names) (d ∷ ds) (n ∷ ns) = DiskRepresents name d n × DisksRepresent names ds ns
DisksRepresent (name ∷ names) (d ∷ ds) [] = ⊥
DisksRepresent (name ∷ names) [] ns = ⊥
DisksRepresent [] (d ∷ ds) ns = ⊥
DisksRepresent [] [] (n ∷ ns) = ⊥

-- each disk is a later state of the one at its place: it has the same blocks, its counts did not fall, and what it has is told as before
abbrev pub AllGo : List DiskState → List DiskState → Type 0
AllGo [] [] = Unit {0}
AllGo [] (new ∷ news) = ⊥
AllGo (old ∷ olds) [] = ⊥
AllGo (old ∷ olds) (new ∷ news) = DiskAdvancesOverCalls old new × AllGo olds news

-- a content is the volume of a node that is up
pub record IsVolumeOf (content : List (List ℕ)) (n : Node) : Type 0 where
  pub catalog : Catalog
  pub tells : TellsCatalog catalog content
  pub sound : IsSound n.name n.blocks catalog
  pub has : HasVolume content catalog n

-- What a run leaves of a node's disk: it has what the node has, of a node that is up in each image that a power loss may leave; and its calls are those
-- before the run, behind which the node's are noted.
pub record LeavesNode (old : DiskState) (n : Node) (new : DiskState) : Type 0 where
  pub down : n.up ≡ false → HasDisk n new
  pub up : n.up ≡ true → DiskLeaves (λ content. IsVolumeOf content n) new
  pub blocks : n.blocks ≡ new.size
  pub calls : new.calls ≡ noted_all n.calls old.calls

-- so of each node and its disk
abbrev pub LeaveNodes : List DiskState → List Node → List DiskState → Type 0
LeaveNodes [] [] [] = Unit {0}
LeaveNodes (old ∷ olds) (n ∷ ns) (new ∷ news) = LeavesNode old n new × LeaveNodes olds ns news
LeaveNodes (old ∷ olds) (n ∷ ns) [] = ⊥
LeaveNodes (old ∷ olds) [] news = ⊥
LeaveNodes [] (n ∷ ns) news = ⊥
LeaveNodes [] [] (new ∷ news) = ⊥

-- the disks as a run leaves them: the world has their counts, and they have what its nodes have
pub record Leaves (before : List DiskState) (world : World) (after : List DiskState) : Type 0 where
  pub counts : world.disks ≡ map counts_of after
  pub nodes : LeaveNodes before world.nodes after

-- A run from an opening world: what was shown is a legal transcript of the lines that were read, up to the exit, and these disks are left.
pub record RunsTo (opening : World) (before : List DiskState) (script : Option (List ScriptLine)) (old new : Option (List ℕ)) (ended : Exit) (after : List DiskState) : Type 0 where
  pub ran : Ran opening script old new (exit_of ended)
  pub leaves : Leaves before ran.closing after

-- From these nodes on, of whose disks something is known or what they had is replaced, where the images agree with which the run began, more of what entries tell is
-- kept, as what dumps show.
abbrev pub KeepsAgreed : World → List Node → List Entry → World → Type 0
KeepsAgreed opening nodes es closing = AreKnownOrAnew es nodes → IsAgreeing (opening_told nodes es) → AgreedPromises opening es closing

-- The whole run over a script's bytes, from these nodes on, which are down at first: as above, and all that the transcript tells is kept for good.
pub record WholeRun (nodes : List Node) (before after : List DiskState) (script old new : Option (List ℕ)) (ended : Exit) : Type 0 where
  pub run : RunsTo (opened nodes (map counts_of before)) before (option_map lines_of script) old new ended after
  pub promises : KeptPromises (opened nodes (map counts_of before)) run.ran.entries run.ran.closing
  pub managers : ManagerPromises (opened nodes (map counts_of before)) run.ran.entries run.ran.closing
  pub recoveries : RecoveryPromises (opened nodes (map counts_of before)) run.ran.entries run.ran.closing
  pub agreed : KeepsAgreed (opened nodes (map counts_of before)) nodes run.ran.entries run.ran.closing

-- the answer to words that are no command, and what was shown for it
pub record Unread (old new : Option (List ℕ)) (ended : Exit) : Type 0 where
  pub added : List ℕ
  pub shows : new ≡ behind old added
  pub ends : EndsUnread (exit_of ended) added
