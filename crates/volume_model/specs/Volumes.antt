-- Which node of the world a volume is: by its home and directory, its journal and its files.
use Rattle.std.specs.Prelude.{◌≡◌, ◌⊎◌, ◌<◌, ◌≤◌, ◌^◌, ℕ, List, true, Some, None, length}
use Rattle.block_disk.specs.Disk.{DiskState, MayLeave}
use Rattle.unit_laws.specs.vms_model.Limits.{file_limit}
use Rattle.lmcp_log.specs.careful_write.Content.{content_of}
use Rattle.lmcp_log.specs.careful_write.Load.{fitting}
use Rattle.lmcp_log.specs.careful_write.State.{EachWhole, Leaves}
use Rattle.lmcp_log.specs.volume.declared.catalog.Catalog.{Catalog}
use Rattle.lmcp_log.specs.volume.Catalogs.{TellsCatalog, IsSound}
use Rattle.lmcp_log.specs.volume.Conditions.{IsFirstFinding}
use Rattle.directory_model.specs.journal_model.Entries.{Entry}
use Rattle.directory_model.specs.journal_model.Ring.{IsJournal}
use Rattle.unit_laws.specs.Journal.{end_of}
use Rattle.unit_laws.specs.Units.{Map}
use Rattle.lmcp_log.specs.Keeping.{IsWhole, Keeps}
use Rattle.world_laws.specs.run_model.World.{Node, Act, Bar, Sound, Faulty, Barred, Unknown, AreUnitsOf, IsLogInOrder, Half, MayTurnOut, aborted_prepared, acted, with_half}
use Rattle.world_laws.specs.Ordered.{IsJournalInOrder}
use Rattle.directory_model.specs.Files.{AreFiles}
use Rattle.directory_model.specs.Restoring.{AreLeft, AreRestorable, StandPrepared}
use Rattle.volume_model.specs.Entries.{AreEntries}
use Rattle.volume_model.specs.Bars.{first_bar}
use Rattle.volume_model.specs.Homes.{HasHome}

-- The world's journal of recovery units is in the ring, and its positions are low.
pub record HasJournal (content : List (List ℕ)) (v : Catalog) (n : Node) : Type 0 where
  pub entries : List Entry
  pub is : IsJournal content v.ru entries
  pub alike : AreEntries v.heads n.durable.units.entries entries
  pub first : v.ru.first ≡ n.durable.units.first
  pub end : v.ru.end ≡ end_of n.durable.units
  pub low : v.ru.end ≤ 2 ^ 62

-- The slots of the volume have the records of the world's log, and no other bytes stand in them.
pub record HasLog (content : List (List ℕ)) (n : Node) : Type 0 where
  pub keeps : Keeps n.durable.log content
  pub whole : IsWhole n.durable.log content

-- A node that is up has what is in the volume, and nothing else, and what its branches changed can be restored. Its journal and its log are in order.
pub record HasVolume (content : List (List ℕ)) (v : Catalog) (n : Node) : Type 0 where
  pub home : HasHome v.home n
  pub log : HasLog content n
  pub journal : HasJournal content v n
  pub units : AreUnitsOf n
  pub order : IsJournalInOrder n.durable
  pub told : IsLogInOrder n
  pub files : AreFiles content v.heads n.durable.directory
  pub restorable : AreRestorable content v.heads n.durable.directory

-- A node that fell has the same but for what its unsettled branches changed, of which any part may be restored, unless they are prepared.
pub record LeavesVolume (content : List (List ℕ)) (v : Catalog) (n : Node) : Type 0 where
  pub home : HasHome v.home n
  pub log : HasLog content n
  pub journal : HasJournal content v n
  pub units : AreUnitsOf n
  pub order : IsJournalInOrder n.durable
  pub told : IsLogInOrder n
  pub files : AreLeft content v.heads n.durable.directory
  pub prepared : StandPrepared n.durable.units content v.heads n.durable.directory

-- a content, whose blocks have 512 bytes as those of a disk have, is what a node that fell left of its volume
pub record IsLeftBy (content : List (List ℕ)) (n : Node) : Type 0 where
  pub catalog : Catalog
  pub tells : TellsCatalog catalog content
  pub sound : IsSound n.name n.blocks catalog
  pub leaves : EachWhole content → LeavesVolume content catalog n

-- a node of which the abort of a prepared branch, which was under way, is done in part
abbrev pub half_done : (List ℕ → Map) → Node → Node
half_done standing n = record n { durable = with_half (aborted_prepared n.under_way n.durable) standing n.durable }

-- A content is left by a node, by the node after the act that was under way, or, where that is the abort of a prepared branch, by the node of which it is done in
-- part.
abbrev pub IsEitherOf : Node → List (List ℕ) → Type 0
IsEitherOf n content = IsLeftBy content n ⊎ (((act : Act) × (n.under_way ≡ Some act) × IsLeftBy content (acted act n)) ⊎ ((standing : List ℕ → Map) × MayTurnOut n (Half standing) × IsLeftBy content (half_done standing n)))

-- each image that a power loss may leave fails this condition first, at this block
abbrev pub FailsFirst : List ℕ → ℕ → ℕ → DiskState → Type 0
FailsFirst name condition block d = (image : List (List ℕ)) → MayLeave d image → IsFirstFinding name (fitting image) (content_of image) condition block

-- a content has a sound volume of the node of this name, on a disk of this size, that bars each boot so; its journal's positions are numbers of 64 bits
pub record HasBarred (name : List ℕ) (size : ℕ) (bar : Bar) (content : List (List ℕ)) : Type 0 where
  pub catalog : Catalog
  pub tells : TellsCatalog catalog content
  pub heads : length catalog.heads ≡ file_limit
  pub sound : IsSound name size catalog
  pub wide : (catalog.ru.first < 2 ^ 64) × (catalog.ru.end < 2 ^ 64)
  pub bars : first_bar catalog ≡ Some bar

-- So has each image that a power loss may leave, and its open group fits.
abbrev pub BarsBoots : List ℕ → ℕ → Bar → DiskState → Type 0
BarsBoots name size bar d = (image : List (List ℕ)) → MayLeave d image → (fitting image ≡ true) × HasBarred name size bar (content_of image)

-- what the disk of a node that is down has: where it is known, each image that a power loss may leave has it
abbrev pub HasDisk : Node → DiskState → Type 0
HasDisk n d = elim n.durable.volume [
  | Sound ↦ Leaves (IsEitherOf n) d
  | Faulty condition block ↦ FailsFirst n.name condition block d × (n.under_way ≡ None)
  | Barred bar ↦ BarsBoots n.name n.blocks bar d × (n.under_way ≡ None)
  | Unknown ↦ Unit {0}
]
