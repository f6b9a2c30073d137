-- A branch of a node is aborted on its volume.
use Rattle.std.specs.Prelude.{◌≡◌, ℕ, ◌+◌, Bool, List, Option, Some, length, option_map}
use Rattle.block_disk.specs.Sizes.{content_start}
use Rattle.vms_model.specs.Limits.{file_limit}
use Rattle.careful_write.specs.State.{IsEither, Leaves, content}
use Rattle.vms_base.specs.declared.ids.Serial.{Serial}
use Rattle.vms_base.specs.declared.ids.Tid.{Tid}
use Rattle.vms_model.specs.Transactions.{Abort, Reason}
use Rattle.world_laws.specs.commit_protocol.Messages.{LogRecord}
use Rattle.world_laws.specs.commit_protocol.Table as table
use Rattle.world_laws.specs.commit_protocol.Table.{Key, Settles}
use Rattle.world_laws.specs.run_model.World.{Node, Act, Settlement, Tables, acted, fallen}
use Rattle.volume.specs.declared.catalog.Catalog.{Catalog}
use Rattle.unit_undo.specs.directory_model.Laws.{spelled_entry}
use Rattle.image_groups.specs.image_appends.Settling.{content_from, heads_from}
use Rattle.image_groups.specs.Groups.{AreToldBy, HaveRoom, outcome_of}
use Rattle.volume.specs.Catalogs.{IsSound}
use Rattle.volume.specs.State.{VolumeState, Holds}
use Rattle.volume_format.specs.declared.home.Ending.{Ending}
use Rattle.settlement_laws.specs.volume_model.Volumes.{HasDisk, HasVolume, IsEitherOf, LeavesVolume}
use Rattle.unit_table.specs.Units.{OpenUnit}
use Rattle.unit_undo.specs.Undoing.{GoesOn}
use Rattle.unit_undo.specs.Way.{Undoes, FailsOnTheWay, IsOnTheWay}
use Rattle.settlement_laws.specs.Settled.{Makes}
use Rattle.undo_laws.specs.Undoable.{positions_for}
use Rattle.undo_laws.specs.Undone.{IsAbort, WaysKeepPrepared}

-- The volume of a node that tells this content, on which an act of the table may abort a branch so, whose record is not in the log.
pub record MayAbort (n : Node) (act : table.Act) (moment : ℕ) (s : Settlement) (a : List (List ℕ)) (v : VolumeState) : Type 0 where
  pub told : v.store.current ≡ Some a
  pub holds : Holds v
  pub sound : IsSound n.name n.blocks v.catalog
  pub long : length v.catalog.heads ≡ file_limit
  pub size : length a + content_start ≡ n.blocks
  pub disk : v.store.disk.size ≡ n.blocks
  pub is : IsAbort n act moment s
  pub log : (acted (Tables act moment) n).durable.log ≡ n.durable.log

-- The outcome of a branch is put at the ends of the journals of images of each file that it changed.
pub record PutsOutcome (n : Node) (s : Settlement) (mid told : VolumeState) : Type 0 where
  pub files : List Bool
  pub by : AreToldBy s files n.durable.directory
  pub room : HaveRoom s files mid.catalog.heads
  pub current : told.store.current ≡ option_map (content_from 0 files (spelled_entry 0 s.tid (outcome_of s)) mid.catalog.heads) mid.store.current
  pub catalog : told.catalog ≡ record mid.catalog { heads = heads_from 0 files (length (spelled_entry 0 s.tid (outcome_of s))) mid.catalog.heads }

-- What the branch changed was set back in the volume, from these positions of the journal, its outcome was told, and its settlement was made of that.
pub record IsAborted (n : Node) (s : Settlement) (tid : Tid) (serial : Serial) (ending : Ending) (left : List (Option OpenUnit)) (ps : List ℕ) (v mid told w : VolumeState) : Type 0 where
  pub goes : GoesOn v mid
  pub undoes : Undoes ps v mid
  pub tells : PutsOutcome n s mid told
  pub makes : Makes n s tid serial ending left told w

-- Then it is the volume of the node after the settlement: of one that is up, and of one that fell.
pub record AbortsSettle : Type 0 where
  pub has : (a c : List (List ℕ)) (n : Node) (act : table.Act) (moment : ℕ) (s : Settlement) (tid : Tid) (serial : Serial) (ending : Ending) (left : List (Option OpenUnit)) (v mid told w : VolumeState) (has : HasVolume a v.catalog n) →
      MayAbort n act moment s a v → IsAborted n s tid serial ending left (positions_for n s.serial v.catalog has.journal.entries) v mid told w → w.store.current ≡ Some c → HasVolume c w.catalog (acted (Tables act moment) n)
  pub leaves : (a c : List (List ℕ)) (n : Node) (act : table.Act) (moment : ℕ) (s : Settlement) (tid : Tid) (serial : Serial) (ending : Ending) (left : List (Option OpenUnit)) (v mid told w : VolumeState) (fell : LeavesVolume a v.catalog n) →
      MayAbort n act moment s a v → IsAborted n s tid serial ending left (positions_for n s.serial v.catalog fell.journal.entries) v mid told w → w.store.current ≡ Some c → LeavesVolume c w.catalog (acted (Tables act moment) n)

-- Where the disk goes down, it has what the node leaves that falls: on the way of the undo, and in the last group.
pub record AbortsFail : Type 0 where
  pub undo : (a : List (List ℕ)) (n : Node) (act : table.Act) (moment : ℕ) (s : Settlement) (under_way : Option Act) (v w : VolumeState) (fell : LeavesVolume a v.catalog n) → WaysKeepPrepared s.serial a v.catalog n → MayAbort n act moment s a v →
      FailsOnTheWay (positions_for n s.serial v.catalog fell.journal.entries) v w → HasDisk (fallen under_way n) w.store.disk
  pub before : (a : List (List ℕ)) (n : Node) (act : table.Act) (moment : ℕ) (s : Settlement) (under_way : Option Act) (v mid w : VolumeState) (fell : LeavesVolume a v.catalog n) → WaysKeepPrepared s.serial a v.catalog n → MayAbort n act moment s a v → GoesOn v mid →
      Undoes (positions_for n s.serial v.catalog fell.journal.entries) v mid → Leaves (λ c. Some c ≡ content mid.store) w.store.disk → HasDisk (fallen under_way n) w.store.disk
  pub last : (a : List (List ℕ)) (n : Node) (act : table.Act) (moment : ℕ) (s : Settlement) (tid : Tid) (serial : Serial) (ending : Ending) (left : List (Option OpenUnit)) (v mid told made w : VolumeState) (fell : LeavesVolume a v.catalog n) →
      WaysKeepPrepared s.serial a v.catalog n → MayAbort n act moment s a v → IsAborted n s tid serial ending left (positions_for n s.serial v.catalog fell.journal.entries) v mid told made → Leaves (IsEither (content mid.store) made.store.current) w.store.disk →
      HasDisk (fallen (Some (Tables act moment)) n) w.store.disk

-- A content on the way of the undo of an abort, whose branch may be prepared, is one of those that the node leaves that falls in it.
abbrev pub AbortsLeave : Type 0
AbortsLeave = (a : List (List ℕ)) (k : Catalog) (n : Node) (key : Key) (reason : Reason) (r : Option LogRecord) (moment : ℕ) → HasVolume a k n → IsSound n.name n.blocks k → length a + content_start ≡ n.blocks → (c : List (List ℕ)) →
    IsOnTheWay key.serial a k.heads n.durable.directory k c → IsEitherOf (fallen (Some (Tables (Settles key Abort reason r) moment)) n) c
