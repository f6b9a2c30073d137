-- Which units stay prepared, and that what prepared branches changed stands.
use Rattle.std.proofs.Common.{◌≡◌, ℕ, Bool, true, false, cond, List, [], ◌∷◌, ◌++◌, length, Option, Some, None, refl, sym, ◌∙◌, ap, subst}
use Rattle.std.specs.Option.{option_map}
use Rattle.std.specs.List.{AllByRecursion}
use Rattle.file_base.specs.declared.head.FileHead.{FileHead}
use Rattle.directory_model.specs.record_files.Any.{map_of}
use Rattle.vms_model.specs.Ids.{Id}
use Rattle.vms_model.specs.Keys.{Key}
use Rattle.index_model.specs.records_model.Records.{Change}
use Rattle.index_model.specs.records_model.History.{LiveChanges, same_id, changes_by, changes_key, current, without}
use Rattle.unit_laws.specs.Units.{Map, Apart, HasLatest, IsOrderly, SerialsDiffer, earliest_before, has_changes, map_in}
use Rattle.unit_laws.specs.Journal.{Journal, PreparedEntry, RecoveryUnit, entries_for, find_unit, trimmed, units_in, with_entries, with_settled}
use Rattle.unit_laws.specs.JournalLaws.{unit_or_new, with_more}
use Rattle.unit_laws.proofs.LiveLemmas.{clash, id_is, left_so, others_left}
use Rattle.unit_laws.proofs.TrimLemmas.{settles_unit, trim_keeps_units}
use Rattle.unit_laws.proofs.UnitLemmas.{changes_make_unit, prepares_unit}
use Rattle.world_laws.specs.commit_protocol.Table as table
use Rattle.world_laws.specs.run_model.World.{Node, File, Settlement, IsPreparedUnit, Tables, acted, settled_file, settlement_of}
use Rattle.directory_model.specs.Files.{IsFile, IsPlace, head_at, file_at}
use Rattle.directory_model.specs.Restoring.{IsRestored, IsPlacePrepared, IsPlaceRestored, StandsPrepared}
use Rattle.directory_model.proofs.Acts.{settled_directory}
use Rattle.directory_model.proofs.Places.{file_mapped}
use Rattle.restart_laws.specs.Falls.{PreparedStand, UndoesKeepPrepared}
use Rattle.restart_laws.proofs.ListLemmas.{all_as, both_as}
use Rattle.restart_laws.proofs.RestorableLemmas.{keys_of, live_settled}

-- Units.

pub prepared_entered : (j : Journal) (tid serial : Id) (name : List ℕ) (cs : List Change) (x : Id) → has_changes cs ≡ true → IsPreparedUnit j x → IsPreparedUnit (with_entries (entries_for tid serial name cs) j) x
prepared_entered j tid serial name cs x some p = go (same_id x serial) refl
  where
    go : (b : Bool) → same_id x serial ≡ b → IsPreparedUnit (with_entries (entries_for tid serial name cs) j) x
    go true is =
        let there : find_unit serial (units_in j.entries) ≡ Some p.0 = ap (λ (y : Id). find_unit y (units_in j.entries)) (sym (id_is x serial is)) ∙ p.1 in (
          with_more (length cs) p.0,
          ap (λ (y : Id). find_unit y (units_in (j.entries ++ entries_for tid serial name cs))) (id_is x serial is) ∙ (changes_make_unit tid serial name cs j.entries some).own ∙ ap (λ (o : Option RecoveryUnit). Some (with_more (length cs) (unit_or_new tid serial o))) there,
          p.2,
        )
    go false is = (p.0, (changes_make_unit tid serial name cs j.entries some).others x is ∙ p.1, p.2)

pub prepared_again : (j : Journal) (tid serial : Id) (u : RecoveryUnit) (x : Id) → find_unit serial (units_in j.entries) ≡ Some u → IsPreparedUnit j x → IsPreparedUnit (with_entries (PreparedEntry tid serial ∷ []) j) x
prepared_again j tid serial u x there p = go (same_id x serial) refl
  where
    go : (b : Bool) → same_id x serial ≡ b → IsPreparedUnit (with_entries (PreparedEntry tid serial ∷ []) j) x
    go true is = (record u { prepared = true }, ap (λ (y : Id). find_unit y (units_in (j.entries ++ PreparedEntry tid serial ∷ []))) (id_is x serial is) ∙ (prepares_unit tid serial u j.entries there).own, refl)
    go false is = (p.0, (prepares_unit tid serial u j.entries there).others x is ∙ p.1, p.2)

pub prepared_trimmed : (j : Journal) (x : Id) → IsPreparedUnit j x → IsPreparedUnit (trimmed j) x
prepared_trimmed j x p = (p.0, ap (find_unit x) (trim_keeps_units j).units ∙ p.1, p.2)

-- the journal once a branch is settled
abbrev settled_in : Settlement → Journal → Journal
settled_in s j = with_settled s.tid s.serial s.outcome s.moment j

prepared_kept : (j : Journal) (s : Settlement) (x : Id) → same_id x s.serial ≡ false → IsPreparedUnit j x → IsPreparedUnit (settled_in s j) x
prepared_kept j s x other p = (p.0, (settles_unit s.tid s.serial s.outcome s.moment j).others x other ∙ p.1, p.2)

prepared_before : (j : Journal) (s : Settlement) (x : Id) → same_id x s.serial ≡ false → IsPreparedUnit (settled_in s j) x → IsPreparedUnit j x
prepared_before j s x other p = (p.0, sym ((settles_unit s.tid s.serial s.outcome s.moment j).others x other) ∙ p.1, p.2)

pub prepared_settled : (j : Journal) (f : File) (s : Settlement) → AllByRecursion (λ (l : LiveChanges). has_changes l.changes ≡ true) f.history.live → SerialsDiffer f.history.live → AllByRecursion (λ (l : LiveChanges). IsPreparedUnit j l.serial) f.history.live →
    AllByRecursion (λ (l : LiveChanges). IsPreparedUnit (settled_in s j) l.serial) (settled_file s f).history.live
prepared_settled j f s some differ all = subst (AllByRecursion (λ (l : LiveChanges). IsPreparedUnit (settled_in s j) l.serial)) (sym (live_settled f s some))
    (both_as (λ (l : LiveChanges). same_id l.serial s.serial ≡ false) (λ (l : LiveChanges). IsPreparedUnit j l.serial) (λ (l : LiveChanges). IsPreparedUnit (settled_in s j) l.serial) (without s.serial f.history.live)
    (λ l other so. prepared_kept j s l.serial other so) (others_left s.serial f.history.live differ) (left_so (λ (l : LiveChanges). IsPreparedUnit j l.serial) s.serial f.history.live all))

-- the journal after an act that settles a branch
pub settled_journal : (n : Node) (a : table.Act) (moment : ℕ) (s : Settlement) → settlement_of a moment ≡ Some s → (acted (Tables a moment) n).durable.units ≡ settled_in s n.durable.units
settled_journal n (table.Settles k outcome reason r) moment s is = ap (λ (x : Settlement). settled_in x n.durable.units) (one _ is)
  where
    one : (x : Settlement) → Some x ≡ Some s → x ≡ s
    one x e = cc
settled_journal n (table.Undoes k) moment s is = ap (λ (x : Settlement). settled_in x n.durable.units) (one _ is)
  where
    one : (x : Settlement) → Some x ≡ Some s → x ≡ s
    one x e = cc
settled_journal n _ moment s is = let none : ⊥ = cc in absurd none

-- What prepared branches changed.

stands_file : (units : Journal) (content : List (List ℕ)) (h : FileHead) (file : File) → IsFile content h file → IsOrderly file.history → StandsPrepared units content h file
stands_file units content h file is orderly = all_as (λ (l : LiveChanges). HasLatest (map_in (current file.history)) l.changes) (λ (l : LiveChanges). IsPreparedUnit units l.serial → HasLatest (map_of h content) l.changes) file.history.live
    (λ l latest so key k. sym (is.records key) ∙ latest key k) orderly.latest

stands_place : (units : Journal) (content : List (List ℕ)) (f : ℕ) (o : Option FileHead) (p : Option File) → IsPlace content f o p → ((file : File) → p ≡ Some file → IsOrderly file.history) → IsPlacePrepared units content o p
stands_place units content f None p is orderly = tt
stands_place units content f (Some h) None is orderly = tt
stands_place units content f (Some h) (Some file) is orderly = stands_file units content h file is.0 (orderly file refl)

pub prepared_stand : PreparedStand
prepared_stand content heads n are units f = stands_place n.durable.units content f (head_at heads f) (file_at n.durable.directory f) (are.each f) (λ file there. (units.tells f file there).notes.orderly)

-- One branch more is undone whole.
still_file : (units : Journal) (b c : List (List ℕ)) (h new : FileHead) (file : File) (s : Settlement) → AllByRecursion (λ (l : LiveChanges). has_changes l.changes ≡ true) file.history.live → SerialsDiffer file.history.live → Apart file.history.live →
    IsRestored b h (changes_by s.serial file.history.live) c new → StandsPrepared units b h file → StandsPrepared (settled_in s units) c new (settled_file s file)
still_file units b c h new file s some differ apart back stands = subst (AllByRecursion Stands) (sym (live_settled file s some))
    (both_as (λ (l : LiveChanges). same_id l.serial s.serial ≡ false) Mine Stands (without s.serial live)
    (λ l other mine so key k. now key (none l.changes mine.0 key k) ∙ mine.1 (prepared_before units s l.serial other so) key k) (others_left s.serial live differ)
    (both_as Keys Stood Mine (without s.serial live) (λ l keys stood. (keys, stood)) (keys_of s.serial live apart) (left_so Stood s.serial live stands)))
  where
    live : List LiveChanges
    live = file.history.live

    Keys : LiveChanges → Type 0
    Keys l = (key : Key) → changes_key key (changes_by s.serial live) ≡ true → changes_key key l.changes ≡ false

    Stood : LiveChanges → Type 0
    Stood l = IsPreparedUnit units l.serial → HasLatest (map_of h b) l.changes

    Mine : LiveChanges → Type 0
    Mine l = Keys l × Stood l

    Stands : LiveChanges → Type 0
    Stands l = IsPreparedUnit (settled_in s units) l.serial → HasLatest (map_of new c) l.changes

    none : (cs : List Change) → ((key : Key) → changes_key key (changes_by s.serial live) ≡ true → changes_key key cs ≡ false) → (key : Key) → changes_key key cs ≡ true → changes_key key (changes_by s.serial live) ≡ false
    none cs keys key k = go (changes_key key (changes_by s.serial live)) refl
      where
        go : (x : Bool) → changes_key key (changes_by s.serial live) ≡ x → x ≡ false
        go true is = clash (changes_key key cs) k (keys key is)
        go false is = refl

    now : (key : Key) → changes_key key (changes_by s.serial live) ≡ false → map_of new c key ≡ map_of h b key
    now key other = ap (λ (m : Map). m key) back.map ∙ ap (λ (x : Bool). cond x (earliest_before (changes_by s.serial live) key) (map_of h b key)) other

still_place : (units : Journal) (b c : List (List ℕ)) (o o' : Option FileHead) (p : Option File) (s : Settlement) →
    ((file : File) → p ≡ Some file → AllByRecursion (λ (l : LiveChanges). has_changes l.changes ≡ true) file.history.live × SerialsDiffer file.history.live × Apart file.history.live) →
    IsPlaceRestored s.serial b o p c o' → IsPlacePrepared units b o p → IsPlacePrepared (settled_in s units) c o' (option_map (settled_file s) p)
still_place units b c None None None s tells back stands = tt
still_place units b c None (Some new) None s tells back stands = absurd back
still_place units b c None o' (Some file) s tells back stands = absurd back
still_place units b c (Some h) o' None s tells back stands = absurd back
still_place units b c (Some h) None (Some file) s tells back stands = absurd back
still_place units b c (Some h) (Some new) (Some file) s tells back stands = let t = tells file refl in still_file units b c h new file s t.0 t.1 t.2 back stands

pub undoes_keep_prepared : UndoesKeepPrepared
undoes_keep_prepared b c heads new n a moment s settles left units abort back stands = λ f.
    subst (λ (j : Journal). IsPlacePrepared j c (head_at new f) (file_at (acted (Tables a moment) n).durable.directory f)) (sym (settled_journal n a moment s settles))
    (subst (λ (p : Option File). IsPlacePrepared (settled_in s n.durable.units) c (head_at new f) p) (sym (ap (λ (d : List (Option File)). file_at d f) (settled_directory n a moment s settles) ∙ file_mapped (settled_file s) n.durable.directory f))
    (still_place n.durable.units b c (head_at heads f) (head_at new f) (file_at n.durable.directory f) s
    (λ file there. let t = units.tells f file there in (t.notes.some, t.notes.differ, t.notes.orderly.represents.apart)) (back.each f) (stands f)))
