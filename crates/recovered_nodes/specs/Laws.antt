-- What holds of a node and its volume over a recovery of a file.
use Rattle.std.specs.Prelude.{◌≡◌, ◌≤◌, ◌+◌, ◌*◌, ℕ, List, Option, Some, None, length, option_map}
use Rattle.std.specs.FinMap.{entries}
use Rattle.block_disk.specs.Sizes.{content_start}
use Rattle.vms_model.specs.Limits.{file_limit}
use Rattle.careful_write.specs.State.{EachWhole}
use Rattle.careful_write.specs.Steps.{AgreesOff}
use Rattle.file_base.specs.declared.head.FileHead.{FileHead}
use Rattle.recover_rms.specs.file_recoveries.Causes as causes
use Rattle.recover_rms.specs.file_recoveries.Causes.{cause_of, refusal_by}
use Rattle.recover_rms.specs.file_recoveries.Files.{HasFile}
use Rattle.recover_rms.specs.file_recoveries.declared.causes.Way.{Way}
use Rattle.recover_rms.specs.load_laws.Records.{Keyed}
use Rattle.recover_rms.specs.Calls.{AreInRings, IsAsked}
use Rattle.recover_rms.specs.Loading.{as_loaded}
use Rattle.recover_rms.specs.Replacing.{IsHeadWith, IsLongest, IsOldOrNew, ReplacesIn, is_unused, wanted_buckets, with_head}
use Rattle.records_model.specs.History as history
use Rattle.records_model.specs.History.{current}
use Rattle.world_laws.specs.recovery_model.Recovery.{rolled}
use Rattle.world_laws.specs.script_model.Statements.{Recovery}
use Rattle.unit_table.specs.Units.{first_to_change}
use Rattle.vms_base.specs.Ids.{serial_of}
use Rattle.vms_base.specs.declared.ids.Serial.{Serial}
use Rattle.unit_world.specs.volume.declared.catalog.Catalog.{Catalog}
use Rattle.unit_world.specs.volume.Catalogs.{IsSound}
use Rattle.unit_world.specs.volume.State.{VolumeState}
use Rattle.world_laws.specs.Nodes.{IsUp}
use Rattle.world_laws.specs.run_model.Answers.{blocks_recovered, records_recovered, recovery_refused, refusal_line, start_of, way_of}
use Rattle.world_laws.specs.run_model.World.{Act, File, Node, Recovers, acted, buckets_loaded, fallen, find_file, longest_free, lowest_free, serials_of, state_of}
use Rattle.unit_world.specs.directory_model.Files.{IsNamed, head_at}
use Rattle.recovered_nodes.specs.Recovering.{IsRecoveredHead}
use Rattle.unit_world.specs.volume_model.Volumes.{IsEitherOf, IsLeftBy}
use Rattle.unit_world.specs.recovery_units.State.{UnitsState, IsKept, IsInOrder}

-- A node that is up is these units and this volume, of which the disk tells this content; and its file of this name is that of a number and its head.
pub record StandsThere (s : UnitsState) (v : VolumeState) (n : Node) (f : ℕ) (h : FileHead) (name : List ℕ) (file : File) (content : List (List ℕ)) : Type 0 where
  pub kept : IsKept s v n
  pub up : IsUp n
  pub order : IsInOrder s v
  pub named : IsNamed v.catalog.heads f h name
  pub found : find_file name n.durable.directory ≡ Some file
  pub told : v.store.current ≡ Some content
  pub whole : EachWhole content
  pub long : length content + content_start ≡ v.store.disk.size

-- a recovery that the head does not refuse is the one that the statement asks for
pub record IsAllowed (h : FileHead) (way : Way) (r : Recovery) : Type 0 where
  pub said : causes.way_of way ≡ way_of r
  pub allowed : cause_of h way None ≡ None

-- the records that it makes, as they are loaded
abbrev pub records_made : FileHead → Recovery → File → List Keyed
records_made h r file = as_loaded h (rolled (way_of r) (state_of file))

-- its act: the records take the place of the file's own in the lowest run of free blocks
abbrev pub recovery_act : Node → (name : List ℕ) → Recovery → File → Act
recovery_act n name r file = Recovers name (start_of (lowest_free n (blocks_recovered r file))) (buckets_loaded file (records_recovered r file)) (records_recovered r file)

-- Laws with a content ask that each of its blocks has 512 bytes, and that it reaches to the disk's end, as a store promises of what it reads.
pub record RecoversNodes : Type 0 where
  -- what a recovery knows of the file,
  pub known : (s : UnitsState) (v : VolumeState) (n : Node) (f : ℕ) (h : FileHead) (name : List ℕ) (file : File) (content : List (List ℕ)) → StandsThere s v n f h name file content → HasFile content f h (current file.history) (state_of file)
  -- and what refuses it, where a unit that changed the file is told
  pub refused : (s : UnitsState) (v : VolumeState) (n : Node) (f : ℕ) (h : FileHead) (name : List ℕ) (file : File) (content : List (List ℕ)) (r : Recovery) (way : Way) (user : Option Serial) → StandsThere s v n f h name file content →
      causes.way_of way ≡ way_of r → option_map serial_of user ≡ history.first_to_change file.history (serials_of n.volatile.branches) → recovery_refused n r file ≡ option_map refusal_line (refusal_by way (cause_of h way user))
  -- each record that it makes may be the file's
  pub asked : (s : UnitsState) (v : VolumeState) (n : Node) (f : ℕ) (h : FileHead) (name : List ℕ) (file : File) (content : List (List ℕ)) (r : Recovery) (way : Way) → StandsThere s v n f h name file content → IsAllowed h way r →
      IsAsked f way v h content (state_of file)
  -- so many they are, in so many blocks
  pub counted : (s : UnitsState) (v : VolumeState) (n : Node) (f : ℕ) (h : FileHead) (name : List ℕ) (file : File) (content : List (List ℕ)) (r : Recovery) → StandsThere s v n f h name file content →
      length (records_made h r file) ≡ length (entries (records_recovered r file))
  pub needed : (s : UnitsState) (v : VolumeState) (n : Node) (f : ℕ) (h : FileHead) (name : List ℕ) (file : File) (content : List (List ℕ)) (r : Recovery) (way : Way) → StandsThere s v n f h name file content → IsAllowed h way r →
      wanted_buckets h (records_made h r file) * h.bucket ≡ blocks_recovered r file
  -- the longest run of free blocks
  pub longest : (s : UnitsState) (v : VolumeState) (n : Node) (blocks : ℕ) → IsKept s v n → IsInOrder s v → IsLongest v.catalog blocks → longest_free n ≡ blocks
  -- which a head with records that it makes does not pass
  pub enough : (s : UnitsState) (v : VolumeState) (n : Node) (h new : FileHead) (es : List Keyed) → IsKept s v n → IsInOrder s v → IsHeadWith v.catalog h es new → new.alloc * h.bucket ≤ longest_free n
  -- such a head is that of a recovered file
  pub heads : (v : Catalog) (h new : FileHead) (es : List Keyed) → IsHeadWith v h es new → IsRecoveredHead v.home.greatest_moment.0 h new
  -- the records took the place of the file's own
  pub recovers : (s : UnitsState) (v w : VolumeState) (n : Node) (f : ℕ) (h new : FileHead) (name : List ℕ) (file : File) (content after : List (List ℕ)) (r : Recovery) (way : Way) → StandsThere s v n f h name file content → IsAllowed h way r →
      first_to_change f s.begun ≡ None → ReplacesIn f v.catalog h (records_made h r file) content after new → w.catalog ≡ with_head f new v.catalog → w.store.disk.size ≡ v.store.disk.size → w.store.current ≡ Some after → EachWhole after →
      IsKept s w (acted (recovery_act n name r file) n)
  -- and the volume is sound still
  pub sound : (node : List ℕ) (size : ℕ) (v : Catalog) (f : ℕ) (h new : FileHead) (es : List Keyed) → IsSound node size v → length v.heads ≡ file_limit → head_at v.heads f ≡ Some h → AreInRings h → IsHeadWith v h es new → IsSound node size (with_head f new v)
  -- what a disk that went down meanwhile leaves is what the node had, or has after the recovery
  pub left : (s : UnitsState) (v : VolumeState) (n : Node) (f : ℕ) (h : FileHead) (name : List ℕ) (file : File) (content image : List (List ℕ)) (r : Recovery) (way : Way) → StandsThere s v n f h name file content → IsAllowed h way r →
      first_to_change f s.begun ≡ None → AreInRings h → IsOldOrNew f v.catalog h (records_made h r file) content image → IsEitherOf (fallen (Some (recovery_act n name r file)) n) image
  -- where free blocks alone were written it leaves what the node had, whatever was under way
  pub stays : (s : UnitsState) (v : VolumeState) (n : Node) (content image : List (List ℕ)) (under : Option Act) → IsKept s v n → IsInOrder s v → v.store.current ≡ Some content → AgreesOff (is_unused v.catalog) content image → IsLeftBy image (fallen under n)
  -- free blocks alone were written
  pub unused : (s : UnitsState) (v w : VolumeState) (n : Node) (content after : List (List ℕ)) → IsKept s v n → IsInOrder s v → v.store.current ≡ Some content → AgreesOff (is_unused v.catalog) content after →
      w.catalog ≡ v.catalog → w.store.disk.size ≡ v.store.disk.size → w.store.current ≡ Some after → EachWhole after → IsKept s w n
