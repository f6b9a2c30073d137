-- Acts that keep what a restart needs.
use Rattle.std.proofs.Common.{◌≡◌, ℕ, zero, suc, List, [], ◌∷◌, map, Bool, true, false, Option, Some, None, if◌then◌else◌, refl, sym, subst}
use Rattle.std.specs.Prelude.{option_map, slice_set}
use Rattle.std.specs.List.{AllByRecursion}
use Rattle.std.specs.Str.{bytes_eq}
use Rattle.std.proofs.lemmas.Bool.{both_ways, cond_both}
use Rattle.std.proofs.lemmas.Slice.Eq.{bytes_eq-Decides}
use Rattle.vms_model.specs.Ids.{Id}
use Rattle.vms_model.specs.Keys.{Key}
use Rattle.vms_model.specs.Transactions.{Abort, SegFail}
use Rattle.run_model.specs.records_model.Records.{Change, Found, Records}
use Rattle.run_model.specs.records_model.History.{current, changed_with}
use Rattle.run_model.specs.unit_laws.Units.{has_changes, is_free}
use Rattle.run_model.specs.unit_laws.Journal.{Journal, PreparedEntry, empty_journal, RecoveryUnit, entries_for, find_unit, is_settled_in, units_in, with_entries}
use Rattle.run_model.specs.unit_laws.JournalLaws.{HasNotes}
use Rattle.run_model.proofs.unit_laws.NoteLemmas.{changes_keep_notes, changes_elsewhere_keep_notes, prepares_keep_notes, unchanged_has_notes}
use Rattle.run_model.specs.commit_protocol.Table as table
use Rattle.run_model.specs.commit_protocol.Table.{Branch, Prepares, Undoes}
use Rattle.run_model.specs.Locks.{is_locked}
use Rattle.run_model.specs.World.{File, Mark, changed_file, find_file, half_undone, marked_file, recovered_file, saved_file, settlement, with_file, with_prepared}
use Rattle.world_laws.specs.Restarts.{AllNoted, HasNoName, NamesDiffer, ChangesCanRestart, TablesCanRestart, HalvesCanRestart, CreatesCanRestart, MarksCanRestart, SavesCanRestart, RecoversCanRestart}
use Rattle.world_laws.proofs.RestartLemmas.{noted_settled}
use Rattle.world_laws.proofs.HalfLemmas.{noted_half}

-- Changes.

pub found_here : (file : List ℕ) (f : File) (fs : List (Option File)) → bytes_eq file f.name ≡ true → find_file file (Some f ∷ fs) ≡ Some f
found_here file f fs t = rw t refl

pub found_behind : (file : List ℕ) (f g : File) (fs : List (Option File)) → bytes_eq file f.name ≡ false → find_file file fs ≡ Some g → find_file file (Some f ∷ fs) ≡ Some g
found_behind file f g fs t e = rw t e

module _ (tid serial : Id) (file : List ℕ) (cs : List Change) (held : Key → Bool) (units : Journal) (some : has_changes cs ≡ true) (unsettled : is_settled_in serial units.entries ≡ false) where
  abbrev entered : Journal
  entered = with_entries (entries_for tid serial file cs) units

  -- what a file finds of free keys
  abbrev AreFree : File → Type 0
  AreFree f = AllByRecursion (λ (c : Change). is_free serial f.history.live c.key ≡ true) cs × Found cs (current f.history)

  elsewhere : (fs : List (Option File)) → HasNoName file fs → AllNoted units fs → AllNoted entered fs
  elsewhere [] n h = tt
  elsewhere (None ∷ fs) n h = elsewhere fs n h
  elsewhere (Some f ∷ fs) n h = (changes_elsewhere_keep_notes units f.name file f.history tid serial cs h.0 (λ e. n.0 (sym e)) unsettled, elsewhere fs n.1 h.1)

  here : (f : File) → bytes_eq file f.name ≡ true → HasNotes units f.name f.history → AreFree f → HasNotes entered f.name (changed_with serial cs f.history)
  here f t h free = subst (λ x. HasNotes (with_entries (entries_for tid serial x cs) units) f.name (changed_with serial cs f.history)) (sym ((bytes_eq-Decides file f.name).0 t))
      (changes_keep_notes units f.name f.history tid serial cs h unsettled some free.0 free.1)

  pub changes_noted : (fs : List (Option File)) → NamesDiffer fs → AllNoted units fs → ((f : File) → find_file file fs ≡ Some f → AreFree f) → AllNoted entered (with_file file (changed_file held tid serial cs) fs)
  changes_noted [] d h free = tt
  changes_noted (None ∷ fs) d h free = changes_noted fs d h free
  changes_noted (Some f ∷ fs) d h free = go (bytes_eq file f.name) refl (λ t. changes_noted fs d.1 h.1 (λ g e. free g (found_behind file f g fs t e)))
    where
      go : (b : Bool) → bytes_eq file f.name ≡ b → (bytes_eq file f.name ≡ false → AllNoted entered (with_file file (changed_file held tid serial cs) fs)) →
          AllNoted entered (if b then Some (changed_file held tid serial cs f) ∷ fs else Some f ∷ with_file file (changed_file held tid serial cs) fs)
      go true t more = (here f t h.0 (free f (found_here file f fs t)), elsewhere fs (subst (λ x. HasNoName x fs) (sym ((bytes_eq-Decides file f.name).0 t)) d.0) h.1)
      go false t more = (changes_elsewhere_keep_notes units f.name file f.history tid serial cs h.0 (λ e. both_ways _ t ((bytes_eq-Decides file f.name).1 (sym e))) unsettled, more t)

pub changes_can_restart : ChangesCanRestart
changes_can_restart d v tid serial file cs keys h m = changes_noted tid serial file cs (is_locked v.locks file) d.units m.some m.unsettled d.directory m.names h (λ f e. (m.free f e, m.found f e))

-- The table.

noted_prepared : (units : Journal) (tid serial : Id) (fs : List (Option File)) → AllNoted units fs → AllNoted (with_entries (PreparedEntry tid serial ∷ []) units) fs
noted_prepared units tid serial [] h = tt
noted_prepared units tid serial (None ∷ fs) h = noted_prepared units tid serial fs h
noted_prepared units tid serial (Some f ∷ fs) h = (prepares_keep_notes units f.name f.history tid serial h.0, noted_prepared units tid serial fs h.1)

prepares : (b : Branch) (units : Journal) (fs : List (Option File)) → AllNoted units fs → AllNoted (with_prepared (Prepares b) units) fs
prepares b units fs h = go (find_unit b.key.serial (units_in units.entries))
  where
    go : (o : Option RecoveryUnit) → AllNoted (elim o [ Some u ↦ with_entries (PreparedEntry b.key.tid b.key.serial ∷ []) units | None ↦ units ]) fs
    go (Some u) = noted_prepared units b.key.tid b.key.serial fs h
    go None = h

pub tables_can_restart : TablesCanRestart
tables_can_restart d v (Prepares b) moment h = prepares b d.units d.directory h
tables_can_restart d v (table.Settles k outcome reason r) moment h = noted_settled d.units (settlement k outcome reason moment) d.directory h
tables_can_restart d v (Undoes k) moment h = noted_settled d.units (settlement k Abort SegFail moment) d.directory h
tables_can_restart d v _ moment h = h

pub halves_can_restart : HalvesCanRestart
halves_can_restart d serial standing h may = go d.directory h
  where
    go : (fs : List (Option File)) → AllNoted d.units fs → AllNoted d.units (map (option_map (half_undone serial standing)) fs)
    go [] k = tt
    go (None ∷ fs) k = go fs k
    go (Some f ∷ fs) k = (noted_half serial (standing f.name) d.units f.name f.history k.0, go fs k.1)

-- Files.

pub noted_placed : (units : Journal) (f : File) (fs : List (Option File)) (place : ℕ) → HasNotes units f.name f.history → AllNoted units fs → AllNoted units (slice_set fs place (Some f))
noted_placed units f [] place k h = tt
noted_placed units f (None ∷ fs) zero k h = (k, h)
noted_placed units f (Some g ∷ fs) zero k h = (k, h.1)
noted_placed units f (None ∷ fs) (suc place) k h = noted_placed units f fs place k h
noted_placed units f (Some g ∷ fs) (suc place) k h = (h.0, noted_placed units f fs place k h.1)

pub creates_can_restart : CreatesCanRestart
creates_can_restart d v place f h live none = noted_placed d.units f d.directory place (unchanged_has_notes d.units f.name f.history live none) h

-- one file is changed, of which the journal has the notes still
noted_with : (units : Journal) (file : List ℕ) (change : File → File) (fs : List (Option File)) → ((f : File) → find_file file fs ≡ Some f → HasNotes units f.name f.history → HasNotes units (change f).name (change f).history) →
    AllNoted units fs → AllNoted units (with_file file change fs)
noted_with units file change [] k h = tt
noted_with units file change (None ∷ fs) k h = noted_with units file change fs k h
noted_with units file change (Some f ∷ fs) k h = go (bytes_eq file f.name) refl (λ t. noted_with units file change fs (λ g e. k g (found_behind file f g fs t e)) h.1)
  where
    go : (b : Bool) → bytes_eq file f.name ≡ b → (bytes_eq file f.name ≡ false → AllNoted units (with_file file change fs)) → AllNoted units (if b then Some (change f) ∷ fs else Some f ∷ with_file file change fs)
    go true t more = (k f (found_here file f fs t) h.0, h.1)
    go false t more = (h.0, more t)

pub marks_can_restart : MarksCanRestart
marks_can_restart d v file mark h = noted_with d.units file (marked_file mark d.greatest) d.directory (λ f e k. k) h

pub saves_can_restart : SavesCanRestart
saves_can_restart d v file start h = noted_with d.units file (saved_file start d.greatest) d.directory (λ f e k. k) h

-- a file that rests, with another base
rebased_noted : (units : Journal) (start buckets greatest : ℕ) (m : Records) (f : File) → f.history.live ≡ [] → HasNotes units f.name f.history → HasNotes units f.name (recovered_file start buckets m greatest f).history
rebased_noted units start buckets greatest m f live k = record {
  notes = k.notes;
  units = k.units;
  some = k.some;
  differ = k.differ;
  orderly = (unchanged_has_notes empty_journal f.name (recovered_file start buckets m greatest f).history live refl).orderly;
}

pub recovers_can_restart : RecoversCanRestart
recovers_can_restart d v file start buckets m h rests = noted_with d.units file (recovered_file start buckets m d.greatest) d.directory (λ f e k. rebased_noted d.units start buckets d.greatest m f (rests f e) k) h
