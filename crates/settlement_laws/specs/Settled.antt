-- What the settlement of a branch makes of a volume, and of its node.
use Rattle.std.specs.Prelude.{◌≡◌, ℕ, ◌+◌, ◌-◌, ◌≤◌, ◌^◌, List, ◌++◌, true, Option, Some, length}
use Rattle.vms_model.specs.Limits.{file_limit}
use Rattle.file_base.specs.declared.head.FileHead.{FileHead}
use Rattle.lmcp_log.specs.Keeping.{SameSlots}
use Rattle.vms_model.specs.Ids.{IsId}
use Rattle.vms_base.specs.declared.ids.Serial.{Serial}
use Rattle.vms_base.specs.declared.ids.Tid.{Tid}
use Rattle.journal_model.specs.Entries.{Entry}
use Rattle.journal_model.specs.Ring.{IsJournal, ring_size}
use Rattle.unit_laws.specs.Journal.{end_of, with_settled}
use Rattle.unit_laws.specs.JournalLaws.{is_unit}
use Rattle.world_laws.specs.run_model.World.{Node, Settlement, with_settlement}
use Rattle.world_laws.specs.Ordered as ordered
use Rattle.lmcp_log.specs.volume.declared.catalog.Catalog.{Catalog}
use Rattle.lmcp_log.specs.volume.Catalogs.{IsSound, TellsCatalog}
use Rattle.lmcp_log.specs.volume.State.{VolumeState}
use Rattle.volume_format.specs.declared.home.Ending.{Ending}
use Rattle.volume_laws.specs.directory_model.Files.{AgreesOnFile, head_at}
use Rattle.volume_laws.specs.volume_model.Homes.{HasHome, settlement_of}
use Rattle.volume_laws.specs.volume_model.Volumes.{HasJournal}
use Rattle.volume_laws.specs.Journals.{settled_entries}
use Rattle.unit_table.specs.Units.{OpenUnit}
use Rattle.unit_journal.specs.Entries.{settled_entry}
use Rattle.unit_journal.specs.Settling.{MakesSettlement, entry_if}

-- a branch of a node may be settled so
abbrev pub MaySettle : Node → Settlement → Type 0
MaySettle n s = ordered.MaySettle n.durable (record { tid = s.tid; serial = s.serial }) s.moment

-- a node once a branch is settled so, but for its log
abbrev pub noted : Settlement → Node → Node
noted s n = record n { durable = with_settlement (Some s) n.durable }

-- The settlement of a branch made one content and catalog into another: the home tells it, its entry is behind the end where the branch is a unit, the journal
-- begins with the earliest change of the units that are left, and the log and the files have the blocks that they had. Where it has images, these stood there before.
pub record IsSettled (n : Node) (s : Settlement) (es : List Entry) (b c : List (List ℕ)) (v w : Catalog) : Type 0 where
  pub heads : w.heads ≡ v.heads
  pub log : SameSlots (length n.durable.log) b c
  pub files : (f : ℕ) (h : FileHead) → head_at v.heads f ≡ Some h → AgreesOnFile h b c
  pub home : HasHome w.home (noted s n)
  pub entered : IsJournal c (record w.ru { first = v.ru.first }) (es ++ settled_entries s n.durable.units)
  pub first : w.ru.first ≡ (with_settled s.tid s.serial s.outcome s.moment n.durable.units).first
  pub end : w.ru.end ≡ end_of (with_settled s.tid s.serial s.outcome s.moment n.durable.units)
  pub low : w.ru.end ≤ 2 ^ 62

-- A settlement was made of a volume as it is the node's: it has an entry where the branch is a unit, for which there is room, and the journal begins with the
-- earliest change of the units that are left in the world's.
pub record Makes (n : Node) (s : Settlement) (tid : Tid) (serial : Serial) (ending : Ending) (left : List (Option OpenUnit)) (v made : VolumeState) : Type 0 where
  pub settlement : s ≡ settlement_of s.moment (record { tid = tid; serial = serial; ending = ending })
  pub makes : MakesSettlement tid serial ending s.moment (entry_if (is_unit s.serial n.durable.units) (settled_entry s.tid s.serial s.outcome s.moment)) left v made
  pub is_tid : IsId s.tid
  pub is_serial : IsId s.serial
  pub later : v.catalog.home.greatest_moment.0 ≤ s.moment
  pub early : s.moment ≤ 24113056319999
  pub room : is_unit s.serial n.durable.units ≡ true → v.catalog.ru.end - v.catalog.ru.first + 48 ≤ ring_size v.catalog.ru
  pub first : made.catalog.ru.first ≡ (with_settled s.tid s.serial s.outcome s.moment n.durable.units).first
  pub low : made.catalog.ru.end ≤ 2 ^ 62

-- Then it is made of the volume's content; that tells the volume, which is sound.
abbrev pub SettlementsAreMade : Type 0
SettlementsAreMade = (b c : List (List ℕ)) (n : Node) (s : Settlement) (tid : Tid) (serial : Serial) (ending : Ending) (left : List (Option OpenUnit)) (v made : VolumeState) (node : List ℕ) (size : ℕ) → v.store.current ≡ Some b → made.store.current ≡ Some c →
    TellsCatalog v.catalog b → IsSound node size v.catalog → length v.catalog.heads ≡ file_limit → HasHome v.catalog.home n → (j : HasJournal b v.catalog n) → Makes n s tid serial ending left v made →
    IsSettled n s j.entries b c v.catalog made.catalog × TellsCatalog made.catalog c × IsSound node size made.catalog
