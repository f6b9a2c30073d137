-- What an undo leaves of a volume on its way, and once the branch is settled.
use Rattle.std.specs.Prelude.{◌≡◌, ℕ, ◌+◌, ◌<◌, ◌≤◌, Bool, List, Option, Some, length}
use Rattle.block_disk.specs.Blocks.{block_at}
use Rattle.block_disk.specs.Disk.{DiskState}
use Rattle.block_disk.specs.Sizes.{content_start}
use Rattle.vms_model.specs.Limits.{file_limit}
use Rattle.vms_model.specs.Blocks.{log_start}
use Rattle.careful_write.specs.State.{EachWhole, Leaves}
use Rattle.vms_model.specs.Ids.{Id}
use Rattle.vms_model.specs.Transactions.{Abort}
use Rattle.world_laws.specs.commit_protocol.Table as table
use Rattle.world_laws.specs.run_model.World.{Node, Act, File, IsLogInOrder, IsPreparedUnit, Settlement, Tables, acted, fallen, settlement_of}
use Rattle.volume.specs.declared.catalog.Catalog.{Catalog}
use Rattle.volume.specs.Catalogs.{IsSound, TellsCatalog}
use Rattle.volume.specs.State.{VolumeState}
use Rattle.unit_undo.specs.directory_model.Restoring.{StandPrepared}
use Rattle.file_base.specs.declared.head.FileHead.{FileHead}
use Rattle.unit_undo.specs.directory_model.Files.{AgreesOnFile, Fit, head_at}
use Rattle.unit_undo.specs.directory_model.Laws.{spelled_entry}
use Rattle.image_groups.specs.image_appends.Settling.{content_from, heads_from}
use Rattle.image_groups.specs.Groups.{AreToldBy, HaveRoom, outcome_of}
use Rattle.volume.specs.Limits.{data_area}
use Rattle.volume_format.specs.Home.{sizes_of}
use Rattle.settlement_laws.specs.volume_model.Laws.{KeepsNames}
use Rattle.settlement_laws.specs.volume_model.Volumes.{HasDisk, HasJournal, HasLog, HasVolume, LeavesVolume, IsLeftBy}
use Rattle.settlement_laws.specs.Settled.{IsSettled, MaySettle}
use Rattle.unit_undo.specs.Way.{IsOnTheWay, IsUndone}

-- what prepared branches changed stands in each content on the way of an undo of this branch
abbrev pub WaysKeepPrepared : Id → List (List ℕ) → Catalog → Node → Type 0
WaysKeepPrepared serial a k n = (c : List (List ℕ)) (way : IsOnTheWay serial a k.heads n.durable.directory k c) → StandPrepared n.durable.units c way.new n.durable.directory

-- so it is where that branch is none of them
abbrev pub WaysKeepOthers : Type 0
WaysKeepOthers = (serial : Id) (a : List (List ℕ)) (k : Catalog) (n : Node) → LeavesVolume a k n → (IsPreparedUnit n.durable.units serial → ⊥) → WaysKeepPrepared serial a k n

-- a content on the way of an undo is one that the node leaves: so, where the disk goes down, is that of each image
abbrev pub UndosLeave : Type 0
UndosLeave = (serial : Id) (a : List (List ℕ)) (k : Catalog) (n : Node) → LeavesVolume a k n → WaysKeepPrepared serial a k n → IsSound n.name n.blocks k → length a + content_start ≡ n.blocks → (d : DiskState) → Leaves (IsOnTheWay serial a k.heads n.durable.directory k) d → Leaves (λ c. IsLeftBy c n) d

-- so its disk has what the node leaves that falls meanwhile
abbrev pub UndosFail : Type 0
UndosFail = (serial : Id) (a : List (List ℕ)) (k : Catalog) (n : Node) (act : Option Act) → LeavesVolume a k n → WaysKeepPrepared serial a k n → IsSound n.name n.blocks k → length a + content_start ≡ n.blocks → (d : DiskState) → Leaves (IsOnTheWay serial a k.heads n.durable.directory k) d →
    HasDisk (fallen act n) d

-- the journal of a volume in which a branch is undone is that of the node, with the same entries
abbrev pub UndosKeepJournal : Type 0
UndosKeepJournal = (a : List (List ℕ)) (k : Catalog) (n : Node) (serial : Id) (v : VolumeState) (left : LeavesVolume a k n) → log_start ≤ k.ru.start → v.catalog ≡ record k { heads = v.catalog.heads } → (u : IsUndone serial a k.heads n.durable.directory v) →
    (j : HasJournal u.way.now v.catalog n) × (j.entries ≡ left.journal.entries)

-- all that the files of a volume have in one content stands in another
abbrev pub AgreeOnFiles : Catalog → List (List ℕ) → List (List ℕ) → Type 0
AgreeOnFiles v b c = (f : ℕ) (h : FileHead) → head_at v.heads f ≡ Some h → AgreesOnFile h b c

-- The outcome of a branch is put into the journals of images of each file of a directory that the branch changed: one content of whole blocks and its catalog become
-- others.
pub record IsToldIn (s : Settlement) (directory : List (Option File)) (b e : List (List ℕ)) (v w : Catalog) : Type 0 where
  pub files : List Bool
  pub by : AreToldBy s files directory
  pub room : HaveRoom s files v.heads
  pub fit : Fit (data_area (sizes_of v.home)) v.heads
  pub whole : EachWhole b
  pub content : e ≡ content_from 0 files (spelled_entry 0 s.tid (outcome_of s)) v.heads b
  pub catalog : w ≡ record v { heads = heads_from 0 files (length (spelled_entry 0 s.tid (outcome_of s))) v.heads }

-- The outcome is told in the journals of images of a volume: the journal of recovery units is the node's still, with the same entries, the log's slots and it are in
-- front of the files, and the content tells the volume, which is sound.
pub record IsTold (n : Node) (b e : List (List ℕ)) (k t : Catalog) (j : HasJournal b k n) : Type 0 where
  pub journal : HasJournal e t n
  pub same : journal.entries ≡ j.entries
  pub size : length e ≡ length b
  pub names : KeepsNames k.heads t.heads
  pub long : length t.heads ≡ file_limit
  pub front : (i : ℕ) → 65 ≤ i → i + content_start < k.ru.start + k.ru.blocks → block_at e i ≡ block_at b i
  pub tells : TellsCatalog k b → TellsCatalog t e
  pub sound : (node : List ℕ) (size : ℕ) → IsSound node size k → IsSound node size t

-- An act of the table aborts a branch of a node so: the branch may be settled, and the log and the journal tell one another after it.
pub record IsAbort (n : Node) (act : table.Act) (moment : ℕ) (s : Settlement) : Type 0 where
  pub settles : settlement_of act moment ≡ Some s
  pub abort : s.outcome ≡ Abort
  pub may : MaySettle n s
  pub told : IsLogInOrder (acted (Tables act moment) n)

-- Once a branch is undone whole and settled, the volume is that of the node after the settlement. Between the two its record in the log may have been written, and
-- then its outcome is put into the journals of images of the files that it changed.
pub record UndoneSettle : Type 0 where
  -- the outcome is told
  pub told : (a b e : List (List ℕ)) (k t : Catalog) (n : Node) (act : table.Act) (moment : ℕ) (s : Settlement) (v : VolumeState) → LeavesVolume a k n → IsAbort n act moment s → IsSound n.name n.blocks k → v.catalog ≡ record k { heads = v.catalog.heads } →
      (u : IsUndone s.serial a k.heads n.durable.directory v) → AgreeOnFiles v.catalog u.way.now b → IsToldIn s n.durable.directory b e v.catalog t → (j : HasJournal b v.catalog n) → IsTold n b e v.catalog t j
  -- of a node that fell
  pub leaves : (a b e c : List (List ℕ)) (k t w : Catalog) (n : Node) (act : table.Act) (moment : ℕ) (s : Settlement) (v : VolumeState) (left : LeavesVolume a k n) → IsAbort n act moment s → IsSound n.name n.blocks k →
      v.catalog ≡ record k { heads = v.catalog.heads } → (u : IsUndone s.serial a k.heads n.durable.directory v) → AgreeOnFiles v.catalog u.way.now b → IsToldIn s n.durable.directory b e v.catalog t →
      IsSettled n s left.journal.entries e c t w → HasLog c (acted (Tables act moment) n) → LeavesVolume c w (acted (Tables act moment) n)
  -- of one that is up
  pub has : (a b e c : List (List ℕ)) (k t w : Catalog) (n : Node) (act : table.Act) (moment : ℕ) (s : Settlement) (v : VolumeState) (has : HasVolume a k n) → IsAbort n act moment s → IsSound n.name n.blocks k →
      v.catalog ≡ record k { heads = v.catalog.heads } → (u : IsUndone s.serial a k.heads n.durable.directory v) → AgreeOnFiles v.catalog u.way.now b → IsToldIn s n.durable.directory b e v.catalog t →
      IsSettled n s has.journal.entries e c t w → HasLog c (acted (Tables act moment) n) → HasVolume c w (acted (Tables act moment) n)
