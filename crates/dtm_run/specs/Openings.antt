-- The nodes that a run may begin with.
use Rattle.std.specs.Prelude.{◌≡◌, ◌⊎◌, ◌<◌, ◌≤◌, ◌^◌, ℕ, List, [], ◌∷◌, Bool, true, false, Option, Some, IfSome, is_some, length}
use Rattle.std.specs.List.{All}
use Rattle.block_disk.specs.Blocks.{IsWhole, block_at}
use Rattle.block_disk.specs.Disk.{DiskState}
use Rattle.block_disk.specs.Sizes.{least_disk_size}
use Rattle.vms_model.specs.Limits.{file_limit, slot_limit}
use Rattle.careful_write.specs.Content.{content_of}
use Rattle.file_base.specs.declared.head.FileHead.{FileHead}
use Rattle.directory_model.specs.record_files.Any.{IsFile, IsLaidOut}
use Rattle.volume.specs.declared.catalog.Catalog.{Catalog}
use Rattle.volume.specs.Catalogs.{IsSound, TellsCatalog}
use Rattle.world_laws.specs.log_laws.Slots.{Slots, records_in}
use Rattle.recovery_units.specs.lmcp_log.Keeping.{IsWhole as IsWholeLog, Keeps}
use Rattle.vms_model.specs.Ids.{Id}
use Rattle.world_laws.specs.recovery_model.Opening.{IsLawful, IsOpening as IsTellingOpening, as_found}
use Rattle.world_laws.specs.run_model.World.{Carried, File, IsOpening, KeepsImages, LastIsReached, Node, state_of}
use Rattle.world_laws.specs.Running.{AllFound}
use Rattle.world_laws.specs.run_model.Transcript.{AreOpening}
use Rattle.world_laws.specs.Nodes.{IsKeptDisk}
use Rattle.directory_model.specs.Files.{IsCarried, IsFile as IsFileOf, head_at}
use Rattle.recovery_units.specs.volume_model.Homes.{last_of}
use Rattle.recovery_units.specs.volume_model.Volumes.{LeavesVolume}
use Rattle.recovery_units.specs.Uses.{IsCounted}
use Rattle.statement_steps.specs.run_agreement.Seen.{has_volume}
use Rattle.run_laws.specs.Promises.{AreLastApart, IsLastApart}
use Rattle.recovery_runs.specs.run_chains.Chains.{IsNew}
use Rattle.recovery_runs.specs.run_chains.Reopenings.{rebased_file}
use Rattle.recovery_runs.specs.Runs.{HasNoGaps}
use Rattle.dtm_run.specs.Headline.{DiskRepresents, DisksRepresent, is_known}
use Rattle.dtm_run.specs.Leading.{AreKnown}

-- What the head of this number carries for its file's recovery, on a disk of this node, boot count and greatest moment: its rings and the save's blocks have journals and
-- a save that a run may find, where no unsettled branch changed the file.
pub record IsCarriedWell (content : List (List ℕ)) (node : List ℕ) (boot greatest : ℕ) (f : ℕ) (h : FileHead) : Type 0 where
  pub carried : Carried
  pub is : IsCarried content f h carried
  pub keeps : (file : File) → file.carried ≡ carried → file.history.live ≡ [] → KeepsImages node boot greatest file

-- a head is one of a file of its organization, whose buckets are laid out, and what it carries stands
pub record HasLayout (content : List (List ℕ)) (node : List ℕ) (boot greatest : ℕ) (f : ℕ) (h : FileHead) : Type 0 where
  pub form : IsFile h
  pub laid : IsLaidOut h content
  pub carries : IsCarriedWell content node boot greatest f h

-- so is each head
abbrev pub AreLaidOut : List (List ℕ) → (node : List ℕ) → (boot greatest : ℕ) → List (Option FileHead) → Type 0
AreLaidOut content node boot greatest heads = (f : ℕ) (h : FileHead) → head_at heads f ≡ Some h → HasLayout content node boot greatest f h

-- the slots of a log that has no record, as they stand in a volume
pub record HasNoRecord (content : List (List ℕ)) (v : Catalog) : Type 0 where
  pub slots : Slots
  pub count : length slots ≡ v.home.slots
  pub few : length slots ≤ slot_limit
  pub none : records_in slots ≡ []
  pub keeps : Keeps slots content
  pub whole : IsWholeLog slots content

-- What an earlier run left of a volume whose units are all settled: its files are laid out, with journals of images and saves that agree with that, its log has no
-- record, its journal of recovery units has no entry and did not come far, and the last settlement, where there is one, is of a branch of this node, of a boot that was
-- counted.
pub record Rests (content : List (List ℕ)) (v : Catalog) : Type 0 where
  pub log : HasNoRecord content v
  pub files : AreLaidOut content v.home.node v.home.boot v.home.greatest_moment.0 v.heads
  pub empty : v.ru.first ≡ v.ru.end
  pub low : v.ru.end ≤ 2 ^ 62
  pub last : IfSome (last_of v.home) (λ s. (s.serial.node ≡ v.home.node) × (s.serial.boot ≤ v.home.boot))

-- What a node left of its volume as it fell, whatever its branches had changed that were not settled: one whose disk is as those of nodes are in the worlds of runs, and
-- whose last settlement is of no branch that stands unsettled.
pub record IsLeftByOne (name : List ℕ) (size : ℕ) (content : List (List ℕ)) (v : Catalog) : Type 0 where
  pub node : Node
  pub kept : IsKeptDisk node
  pub named : node.name ≡ name
  pub sized : node.blocks ≡ size
  pub leaves : LeavesVolume content v node
  pub last : LastIsReached node node.durable.last
  pub apart : IsLastApart node

-- One of these is so of the volume that a content tells of the node of this name on a disk of this size, where it tells a sound one.
abbrev pub HasKnownVolume : List ℕ → ℕ → List (List ℕ) → Type 0
HasKnownVolume name size content = (catalog : Catalog) → TellsCatalog catalog content → length catalog.heads ≡ file_limit → IsSound name size catalog → Rests content catalog ⊎ IsLeftByOne name size content catalog

-- What the journals of images and the save of a file tell of earlier moments.

-- Of a file of this head that no unsettled branch changed they agree with the file's records and with one another, whichever branches may yet commit; and neither it nor
-- what its recoveries are to give has a gap.
abbrev pub TellsMoments : List (List ℕ) → (greatest : ℕ) → (f : ℕ) → FileHead → Type 0
TellsMoments content greatest f h = (waits : Id → Bool) (file : File) → IsFileOf content h file → IsCarried content f h file.carried → file.history.settled ≡ [] → file.history.live ≡ [] →
    IsLawful waits greatest (state_of file) × (IsTellingOpening waits greatest (state_of file) → HasNoGaps file)

-- so of each file of a volume that rests
pub record RestsWhole (content : List (List ℕ)) (v : Catalog) : Type 0 where
  pub rests : Rests content v
  pub tells : (f : ℕ) (h : FileHead) → head_at v.heads f ≡ Some h → TellsMoments content v.home.greatest_moment.0 f h

-- and of each that a node left as it fell, as the next run finds it, where of unsettled branches these may yet commit
pub record IsLeftWhole (waits : Id → Bool) (name : List ℕ) (size : ℕ) (content : List (List ℕ)) (v : Catalog) : Type 0 where
  pub left : IsLeftByOne name size content v
  pub tells : AllFound (λ file f. IsTellingOpening waits left.node.durable.greatest (as_found left.node.durable.greatest (state_of f)) × HasNoGaps (rebased_file left.node.durable.greatest f)) left.node.durable.directory

abbrev pub HasWholeVolume : (waits : Id → Bool) → List ℕ → ℕ → List (List ℕ) → Type 0
HasWholeVolume waits name size content = (catalog : Catalog) → TellsCatalog catalog content → length catalog.heads ≡ file_limit → IsSound name size catalog → RestsWhole content catalog ⊎ IsLeftWhole waits name size content catalog

-- the files of a node that a run finds agree so with their journals and saves, and have no gaps
abbrev pub AreTelling : (waits : Id → Bool) → Node → Type 0
AreTelling waits n = AllFound (λ file f. IsTellingOpening waits n.durable.greatest (state_of f) × HasNoGaps f) n.durable.directory

-- A disk that tells its content, on which nothing is pending. It has 4,096 blocks or more, as a rack asks, and each is of 512 bytes, as every disk
-- tells. Where it has a volume of the node of this name, that rests, or a node left it so.
pub record IsMade (name : List ℕ) (d : DiskState) : Type 0 where
  pub image : List (List ℕ)
  pub told : d.seen ≡ Some image
  pub settled : d.pending ≡ []
  pub counted : IsCounted d
  pub least : least_disk_size ≤ d.size
  pub whole : IsWhole d.size image
  pub bytes : (n : ℕ) → n < d.size → All (λ b. b < 256) (block_at image n)
  pub volume : HasKnownVolume name d.size (content_of image)

-- So made, and the files of its volume agree with their journals and saves, and have no gaps.
pub record IsMadeWhole (waits : Id → Bool) (name : List ℕ) (d : DiskState) : Type 0 where
  pub made : IsMade name d
  pub volume : HasWholeVolume waits name d.size (content_of made.image)

-- so of the disks of a rack
abbrev pub AreMade : List (List ℕ) → List DiskState → Type 0
AreMade [] [] = Unit {0}
AreMade (name ∷ names) (d ∷ ds) = IsMade name d × AreMade names ds
AreMade names ds = ⊥

-- a disk that tells its content, whatever that is
pub record IsTold (d : DiskState) : Type 0 where
  pub told : is_some d.seen ≡ true
  pub counted : IsCounted d

abbrev pub AreTold : List (List ℕ) → List DiskState → Type 0
AreTold [] [] = Unit {0}
AreTold (name ∷ names) (d ∷ ds) = IsTold d × AreTold names ds
AreTold names ds = ⊥

-- On each disk that tells its content there stands a node as before the first line. Where an earlier run is known to have left its volume, or it has none, so is
-- what the node's disk has; and the premises of what more is promised where images agree can be met: its last settlement is of no branch that stands unsettled, and where
-- it has no volume nothing ever happened on it. Where the volume's files agree with their journals and saves, and have no gaps, so it is of the node's, and what a run
-- promises of recoveries can be met. And so for all disks of a rack.
pub record OpeningsExist : Type 0 where
  pub one : (name : List ℕ) (d : DiskState) → IsTold d → (n : Node) × IsOpening n × DiskRepresents name d n
  pub all : (names : List (List ℕ)) (ds : List DiskState) → AreTold names ds → (nodes : List Node) × AreOpening nodes × DisksRepresent names ds nodes
  pub one_known : (name : List ℕ) (d : DiskState) → IsMade name d → (n : Node) × IsOpening n × DiskRepresents name d n × (is_known n.durable.volume ≡ true) × IsLastApart n × (has_volume n ≡ false → IsNew n)
  pub all_known : (names : List (List ℕ)) (ds : List DiskState) → AreMade names ds → (nodes : List Node) × AreOpening nodes × DisksRepresent names ds nodes × AreKnown nodes × AreLastApart nodes
  pub one_whole : (waits : Id → Bool) (name : List ℕ) (d : DiskState) → IsMadeWhole waits name d → (n : Node) × IsOpening n × DiskRepresents name d n × (is_known n.durable.volume ≡ true) × IsLastApart n × AreTelling waits n
