-- How the journal in a volume's ring follows the acts of its node.
use Rattle.std.specs.Prelude.{◌≡◌, ℕ, ◌≤◌, ◌^◌, List, [], ◌∷◌, ◌++◌, map, Some, None}
use Rattle.volume_format.specs.file_base.declared.head.FileHead.{FileHead}
use Rattle.volume_format.specs.file_base.declared.head.Span.{Span}
use Rattle.volume_model.specs.volume.declared.catalog.Catalog.{Catalog}
use Rattle.vms_model.specs.Ids.{Id}
use Rattle.vms_model.specs.Keys.{Key}
use Rattle.unit_laws.specs.records_model.Records.{Change}
use Rattle.journal_model.specs.Entries.{Entry}
use Rattle.journal_model.specs.Ring.{IsJournal}
use Rattle.unit_laws.specs.Journal.{Journal, PreparedEntry, SettledEntry, end_of, entries_for, find_unit, trimmed, units_in, with_entries, with_settled}
use Rattle.volume_model.specs.commit_protocol.Table as table
use Rattle.volume_model.specs.commit_protocol.Table.{Branch, Prepares}
use Rattle.restart_laws.specs.run_model.World.{Node, Settlement, Formats, Tables, Changes, Directs, acted, settlement_of, with_prepared}
use Rattle.restart_laws.specs.directory_model.Files.{head_at}
use Rattle.restart_laws.specs.file_images.Files.{SameRing}
use Rattle.volume_model.specs.Entries.{entry_for}
use Rattle.volume_model.specs.Laws.{KeepsNames}
use Rattle.volume_model.specs.Volumes.{HasJournal}

-- the entry that settles a branch on a disk, where it is a unit
abbrev pub settled_entries : Settlement → Journal → List Entry
settled_entries s j = elim (find_unit s.serial (units_in j.entries)) [ Some u ↦ entry_for 0 (SettledEntry s.tid s.serial s.outcome s.moment) ∷ [] | None ↦ [] ]

-- and the one that prepares it
abbrev pub prepared_entries : Branch → Journal → List Entry
prepared_entries b j = elim (find_unit b.key.serial (units_in j.entries)) [ Some u ↦ entry_for 0 (PreparedEntry b.key.tid b.key.serial) ∷ [] | None ↦ [] ]

pub record JournalsFollow : Type 0 where
  -- a new volume has no entry
  pub formats : (b : List (List ℕ)) (w : Catalog) (n : Node) (slots journal : ℕ) → IsJournal b w.ru [] → w.ru.first ≡ 0 → w.ru.end ≡ 0 → HasJournal b w (acted (Formats slots journal) n)
  -- an act that leaves the journal, and the names of files
  pub stays : (a b : List (List ℕ)) (v w : Catalog) (n m : Node) → HasJournal a v n → m.durable.units ≡ n.durable.units → w.ru ≡ v.ru → KeepsNames v.heads w.heads → SameRing v.ru a b → HasJournal b w m
  -- changes: their entries stand behind the end
  pub changes : (a b : List (List ℕ)) (v w : Catalog) (n : Node) (f : ℕ) (h : FileHead) (tid serial : Id) (cs : List Change) (keys : List Key) (j : HasJournal a v n) → head_at v.heads f ≡ Some h → KeepsNames v.heads w.heads →
      IsJournal b w.ru (j.entries ++ map (entry_for f) (entries_for tid serial h.name cs)) → w.ru.first ≡ v.ru.first → w.ru.end ≡ end_of (with_entries (entries_for tid serial h.name cs) n.durable.units) → w.ru.end ≤ 2 ^ 62 →
      HasJournal b w (acted (Changes tid serial h.name cs keys) n)
  -- a branch that is prepared: its entry, where it is a unit, stands behind the end
  pub prepares : (a b : List (List ℕ)) (v w : Catalog) (n : Node) (x : Branch) (moment : ℕ) (j : HasJournal a v n) → KeepsNames v.heads w.heads → IsJournal b w.ru (j.entries ++ prepared_entries x n.durable.units) → w.ru.first ≡ v.ru.first →
      w.ru.end ≡ end_of (with_prepared (Prepares x) n.durable.units) → w.ru.end ≤ 2 ^ 62 → HasJournal b w (acted (Tables (Prepares x) moment) n)
  -- a settlement: its entry, where the branch is a unit, stands behind the end, and the beginning is that of the earliest unsettled change
  pub settles : (b c : List (List ℕ)) (v w : Catalog) (n : Node) (a : table.Act) (moment : ℕ) (s : Settlement) (j : HasJournal b v n) → settlement_of a moment ≡ Some s → KeepsNames v.heads w.heads →
      IsJournal c (record w.ru { first = v.ru.first }) (j.entries ++ settled_entries s n.durable.units) → w.ru.first ≡ (with_settled s.tid s.serial s.outcome s.moment n.durable.units).first →
      w.ru.end ≡ end_of (with_settled s.tid s.serial s.outcome s.moment n.durable.units) → w.ru.end ≤ 2 ^ 62 → HasJournal c w (acted (Tables a moment) n)
  -- changes that are committed at once: the beginning alone moves so
  pub directs : (a b : List (List ℕ)) (v w : Catalog) (n : Node) (name : List ℕ) (cs : List Change) (s : Settlement) (j : HasJournal a v n) → KeepsNames v.heads w.heads → IsJournal b (record w.ru { first = v.ru.first }) j.entries →
      w.ru.first ≡ (trimmed n.durable.units).first → w.ru.end ≡ v.ru.end → HasJournal b w (acted (Directs name cs s) n)
