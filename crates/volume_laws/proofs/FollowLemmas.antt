-- The journal in the ring follows the acts of the node.
use Rattle.std.proofs.Common.{◌≡◌, ℕ, ◌+◌, ◌≤◌, ◌^◌, List, [], ◌∷◌, ◌++◌, length, map, Option, Some, None, refl, sym, ◌∙◌, ap, subst, arith, append-nil}
use Rattle.std.specs.List.{flat_map}
use Rattle.volume_format.specs.file_base.declared.head.FileHead.{FileHead}
use Rattle.volume_format.specs.file_base.declared.head.Span.{Span}
use Rattle.volume_model.specs.volume.declared.catalog.Catalog.{Catalog}
use Rattle.vms_model.specs.Ids.{Id}
use Rattle.vms_model.specs.Keys.{Key}
use Rattle.unit_laws.specs.records_model.Records.{Change}
use Rattle.journal_model.specs.Entries.{Entry, spelling}
use Rattle.journal_model.specs.Ring.{IsJournal}
use Rattle.journal_store.proofs.EntriesAt.{front_dropped}
use Rattle.unit_laws.specs.Journal.{Journal, JournalEntry, PreparedEntry, SettledEntry, RecoveryUnit, end_of, entries_for, entries_from, find_unit, trimmed, units_in, with_entries, with_settled}
use Rattle.unit_laws.proofs.TrimLemmas.{trim_keeps_units}
use Rattle.volume_model.specs.commit_protocol.Table as table
use Rattle.volume_model.specs.commit_protocol.Table.{Branch, Prepares}
use Rattle.restart_laws.specs.run_model.World.{Node, Settlement, Formats, Tables, Changes, Directs, acted, settlement_of, with_prepared}
use Rattle.restart_laws.proofs.PreparedLemmas.{settled_journal}
use Rattle.restart_laws.specs.directory_model.Files.{head_at}
use Rattle.volume_model.specs.Entries.{AreEntries, entry_for}
use Rattle.volume_model.specs.Laws.{KeepsNames}
use Rattle.volume_model.specs.Volumes.{HasJournal}
use Rattle.volume_model.proofs.EntryLemmas.{entries_follow}
use Rattle.restart_laws.specs.file_images.Files.{SameRing}
use Rattle.volume_laws.specs.Journals.{JournalsFollow, prepared_entries, settled_entries}
use Rattle.restart_laws.proofs.file_images.Rings.{journal_stands}

formats : (b : List (List ℕ)) (w : Catalog) (n : Node) (slots journal : ℕ) → IsJournal b w.ru [] → w.ru.first ≡ 0 → w.ru.end ≡ 0 → HasJournal b w (acted (Formats slots journal) n)
formats b w n slots journal is first end = record { entries = []; is = is; alike = tt; first = first; end = end; low = omega (arith, end) }

stays : (a b : List (List ℕ)) (v w : Catalog) (n m : Node) → HasJournal a v n → m.durable.units ≡ n.durable.units → w.ru ≡ v.ru → KeepsNames v.heads w.heads → SameRing v.ru a b → HasJournal b w m
stays a b v w n m j units ring names same = record {
  entries = j.entries;
  is = subst (λ (s : Span). IsJournal b s j.entries) (sym ring) (journal_stands v.ru a b j.entries j.is same);
  alike = subst (λ (u : Journal). AreEntries w.heads u.entries j.entries) (sym units) (entries_follow.renamed v.heads w.heads n.durable.units.entries j.entries names j.alike);
  first = ap (λ (s : Span). s.first) ring ∙ j.first ∙ ap (λ (u : Journal). u.first) (sym units);
  end = ap (λ (s : Span). s.end) ring ∙ j.end ∙ ap end_of (sym units);
  low = subst (λ (s : Span). s.end ≤ 2 ^ 62) (sym ring) j.low;
}

changes : (a b : List (List ℕ)) (v w : Catalog) (n : Node) (f : ℕ) (h : FileHead) (tid serial : Id) (cs : List Change) (keys : List Key) (j : HasJournal a v n) → head_at v.heads f ≡ Some h → KeepsNames v.heads w.heads →
    IsJournal b w.ru (j.entries ++ map (entry_for f) (entries_for tid serial h.name cs)) → w.ru.first ≡ v.ru.first → w.ru.end ≡ end_of (with_entries (entries_for tid serial h.name cs) n.durable.units) → w.ru.end ≤ 2 ^ 62 →
    HasJournal b w (acted (Changes tid serial h.name cs keys) n)
changes a b v w n f h tid serial cs keys j there names is first end low =
    let es = entries_for tid serial h.name cs in
    record {
      entries = j.entries ++ map (entry_for f) es;
      is = is;
      alike = entries_follow.renamed v.heads w.heads (n.durable.units.entries ++ es) (j.entries ++ map (entry_for f) es) names
          (entries_follow.joined v.heads n.durable.units.entries es j.entries (map (entry_for f) es) j.alike (entries_follow.entered v.heads f h tid serial cs there));
      first = first ∙ j.first;
      end = end;
      low = low;
    }

-- A journal whose beginning moved to the earliest unsettled change.
module _ (b : List (List ℕ)) (v w : Catalog) (u : Journal) (ds : List Entry) (names : KeepsNames v.heads w.heads) (alike : AreEntries v.heads u.entries ds) (is : IsJournal b (record w.ru { first = v.ru.first }) ds) (before : v.ru.first ≡ u.first)
    (first : w.ru.first ≡ (trimmed u).first) where
  abbrev left : List JournalEntry
  left = entries_from (units_in u.entries) u.entries

  pub trims : (back : List Entry) × IsJournal b w.ru back × AreEntries w.heads left back
  trims =
      let t = entries_follow.trimmed v.heads (units_in u.entries) u.entries ds alike is.each in
      let moved : v.ru.first + length (flat_map spelling t.front) ≡ w.ru.first = ap (λ x. x + length (flat_map spelling t.front)) before ∙ ap (λ x. u.first + x) t.size ∙ sym first in
      let behind = front_dropped b (record w.ru { first = v.ru.first }) t.front t.back (subst (λ (xs : List Entry). IsJournal b (record w.ru { first = v.ru.first }) xs) t.split is) in
      (t.back, subst (λ (x : ℕ). IsJournal b (record w.ru { first = x }) t.back) moved behind, entries_follow.renamed v.heads w.heads left t.back names t.alike)

abbrev end_entry : Settlement → JournalEntry
end_entry s = SettledEntry s.tid s.serial s.outcome s.moment

-- the journal with the entry that settles the branch, where it is a unit
abbrev with_end : Settlement → Journal → Option RecoveryUnit → Journal
with_end s u o = elim o [ Some x ↦ with_entries (end_entry s ∷ []) u | None ↦ u ]

abbrev ends : Settlement → Option RecoveryUnit → List Entry
ends s o = elim o [ Some x ↦ entry_for 0 (end_entry s) ∷ [] | None ↦ [] ]

settled_trims : (b : List (List ℕ)) (v w : Catalog) (s : Settlement) (u : Journal) (ds : List Entry) (o : Option RecoveryUnit) → KeepsNames v.heads w.heads → AreEntries v.heads u.entries ds → v.ru.first ≡ u.first →
    IsJournal b (record w.ru { first = v.ru.first }) (ds ++ ends s o) → w.ru.first ≡ (trimmed (with_end s u o)).first → (back : List Entry) × IsJournal b w.ru back × AreEntries w.heads (trimmed (with_end s u o)).entries back
settled_trims b v w s u ds (Some x) names alike before is first =
    trims b v w (with_end s u (Some x)) (ds ++ ends s (Some x)) names (entries_follow.joined v.heads u.entries (end_entry s ∷ []) ds (ends s (Some x)) alike (0, tt, refl, tt)) is before first
settled_trims b v w s u ds None names alike before is first = trims b v w u ds names alike (subst (λ (xs : List Entry). IsJournal b (record w.ru { first = v.ru.first }) xs) (append-nil ds) is) before first

settles : (b c : List (List ℕ)) (v w : Catalog) (n : Node) (a : table.Act) (moment : ℕ) (s : Settlement) (j : HasJournal b v n) → settlement_of a moment ≡ Some s → KeepsNames v.heads w.heads →
    IsJournal c (record w.ru { first = v.ru.first }) (j.entries ++ settled_entries s n.durable.units) → w.ru.first ≡ (with_settled s.tid s.serial s.outcome s.moment n.durable.units).first →
    w.ru.end ≡ end_of (with_settled s.tid s.serial s.outcome s.moment n.durable.units) → w.ru.end ≤ 2 ^ 62 → HasJournal c w (acted (Tables a moment) n)
settles b c v w n a moment s j ends_it names is first end low =
    let t = settled_trims c v w s n.durable.units j.entries (find_unit s.serial (units_in n.durable.units.entries)) names j.alike j.first is first in
    let units = settled_journal n a moment s ends_it in
    record { entries = t.0; is = t.1; alike = subst (λ (u : Journal). AreEntries w.heads u.entries t.0) (sym units) t.2; first = first ∙ sym (ap (λ (u : Journal). u.first) units); end = end ∙ sym (ap end_of units); low = low }

prepares : (a b : List (List ℕ)) (v w : Catalog) (n : Node) (x : Branch) (moment : ℕ) (j : HasJournal a v n) → KeepsNames v.heads w.heads → IsJournal b w.ru (j.entries ++ prepared_entries x n.durable.units) → w.ru.first ≡ v.ru.first →
    w.ru.end ≡ end_of (with_prepared (Prepares x) n.durable.units) → w.ru.end ≤ 2 ^ 62 → HasJournal b w (acted (Tables (Prepares x) moment) n)
prepares a b v w n x moment j names is first end low = record {
  entries = j.entries ++ prepared_entries x n.durable.units;
  is = is;
  alike = alike (find_unit x.key.serial (units_in n.durable.units.entries));
  first = first ∙ j.first ∙ begins (find_unit x.key.serial (units_in n.durable.units.entries));
  end = end;
  low = low;
}
  where
    entered : Option RecoveryUnit → Journal
    entered o = elim o [ Some u ↦ with_entries (PreparedEntry x.key.tid x.key.serial ∷ []) n.durable.units | None ↦ n.durable.units ]

    written : Option RecoveryUnit → List Entry
    written o = elim o [ Some u ↦ entry_for 0 (PreparedEntry x.key.tid x.key.serial) ∷ [] | None ↦ [] ]

    begins : (o : Option RecoveryUnit) → n.durable.units.first ≡ (entered o).first
    begins (Some u) = refl
    begins None = refl

    alike : (o : Option RecoveryUnit) → AreEntries w.heads (entered o).entries (j.entries ++ written o)
    alike (Some u) = entries_follow.renamed v.heads w.heads (n.durable.units.entries ++ PreparedEntry x.key.tid x.key.serial ∷ []) (j.entries ++ written (Some u)) names
        (entries_follow.joined v.heads n.durable.units.entries (PreparedEntry x.key.tid x.key.serial ∷ []) j.entries (written (Some u)) j.alike (0, tt, refl, tt))
    alike None = subst (AreEntries w.heads n.durable.units.entries) (sym (append-nil j.entries)) (entries_follow.renamed v.heads w.heads n.durable.units.entries j.entries names j.alike)

directs : (a b : List (List ℕ)) (v w : Catalog) (n : Node) (name : List ℕ) (cs : List Change) (s : Settlement) (j : HasJournal a v n) → KeepsNames v.heads w.heads → IsJournal b (record w.ru { first = v.ru.first }) j.entries →
    w.ru.first ≡ (trimmed n.durable.units).first → w.ru.end ≡ v.ru.end → HasJournal b w (acted (Directs name cs s) n)
directs a b v w n name cs s j names is first end =
    let t = trims b v w n.durable.units j.entries names j.alike is j.first first in
    record { entries = t.0; is = t.1; alike = t.2; first = first; end = end ∙ j.end ∙ sym (trim_keeps_units n.durable.units).end; low = subst (λ (x : ℕ). x ≤ 2 ^ 62) (sym end) j.low }

pub follow : JournalsFollow
follow = record { formats = formats; stays = stays; changes = changes; prepares = prepares; settles = settles; directs = directs }
