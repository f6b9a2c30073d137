-- What a node's disk has of its files and its journal is kept by each act of a run.
use Rattle.std.proofs.Common.{◌≡◌, ◌<◌, ◌≤◌, ℕ, zero, suc, ◌+◌, List, [], ◌∷◌, map, Bool, true, false, Option, Some, None, if◌then◌else◌, refl, sym, ◌∙◌, ap, subst, arith}
use Rattle.std.specs.Prelude.{replicate, slice_index_or, slice_set}
use Rattle.std.specs.FinMap.{get}
use Rattle.std.specs.List.{AllByRecursion}
use Rattle.std.specs.Str.{bytes_eq}
use Rattle.std.specs.Option.{option_map}
use Rattle.std.proofs.lemmas.Bool.{both_ways, cond_both}
use Rattle.std.proofs.lemmas.Slice.Eq.{bytes_eq-Decides}
use Rattle.vms_model.specs.Ids.{Id}
use Rattle.vms_model.specs.Keys.{End}
use Rattle.vms_model.specs.Transactions.{Commit, Abort, SegFail}
use Rattle.run_model.specs.records_model.History.{LiveChanges, changed_it, changed_with, changes_by, current, on_top, settled_at}
use Rattle.run_model.specs.unit_laws.Units.{Map, SerialsDiffer, end_is_free, has_changes, moves_end}
use Rattle.run_model.specs.unit_laws.Journal.{Journal, empty_journal, entries_for, note_of, serial_in}
use Rattle.run_model.specs.unit_laws.JournalLaws.{HasNotes, is_unit}
use Rattle.run_model.proofs.unit_laws.HistoryLaws.{changes_more}
use Rattle.run_model.proofs.unit_laws.LiveLemmas.{once_changes}
use Rattle.run_model.proofs.unit_laws.NoteLemmas.{unchanged_has_notes}
use Rattle.run_model.specs.commit_protocol.Table as table
use Rattle.run_model.specs.commit_protocol.Table.{Prepares, Undoes}
use Rattle.run_model.specs.Locks.{is_locked}
use Rattle.run_model.specs.World.{File, Settlement, Durable, Volatile, Act, Formats, Boots, ComesUp, Creates, Marks, Saves, Recovers, Draws, Labels, Numbers, Tables, Changes, Holds, Directs, Arms, Clocks, Declares, Falls, FollowOneAnother, IsHalfUndone, IsPlainCarried, KeepsImages, OneMovesEndOf, Sequential, changed_file, directly_changed, durable_after, find_file, free_place, half_undone, marked_file, recovered_file, saved_file, settled_file, settlement, with_file, with_half, with_images, with_settlement}
use Rattle.run_model.specs.log_laws.Slots.{Slots}
use Rattle.world_laws.specs.Restarts.{AllNoted, CanRestart, HasNoName, MayChange, MayDirect, NamesDiffer}
use Rattle.world_laws.specs.Running.{IsUnnoted}
use Rattle.world_laws.proofs.EntryLemmas.{all_append, all_entered, all_more, all_prepared, all_settled, all_trimmed}
use Rattle.world_laws.proofs.FileLemmas.{found_changed, found_mapped, found_placed, none_empty}
use Rattle.world_laws.proofs.HeldLemmas.{noted_at}
use Rattle.world_laws.proofs.KeepingLemmas.{changes_can_restart, halves_can_restart, marks_can_restart, noted_placed, recovers_can_restart, saves_can_restart, tables_can_restart}
use Rattle.world_laws.proofs.DirectLemmas.{directs_can_restart, live_same, none_of}
use Rattle.world_laws.proofs.RestartLemmas.{noted_settled}
use Rattle.world_laws.proofs.CarriedLemmas.{carried_changed, carried_marks, carried_recovers, carried_saved, carried_settled}
use Rattle.world_laws.proofs.ImageLemmas.{images_changed, images_marked, images_recovered, images_settled}
use Rattle.world_laws.proofs.KeptImages.{keeps_booted, keeps_changed, keeps_directs, keeps_half, keeps_later, keeps_marked, keeps_recovered, keeps_saved, keeps_settled}
use Rattle.world_laws.proofs.MomentLemmas.{carries_later, kept_by}
use Rattle.world_laws.proofs.PlainLemmas.{ArePlain, changed_plain, end_changed, end_leaving, end_of_none, end_settled, half_plain, plain_of, settled_plain}
use Rattle.world_laws.specs.Entering.{MayEnterImages}
use Rattle.world_laws.specs.Nodes.{CarriesPlain, FileCarriesBy, FileKeepsImages, IsFiled, IsOf, IsOneEnd, IsPlain, IsPlainFile, IsTellingBy}

-- that an act of the table keeps them so
abbrev pub IsSafeTable : table.Act → ℕ → List ℕ → Durable → Type 0
IsSafeTable (Prepares b) moment name d = IsOf name d.boot b.key.serial
IsSafeTable (table.Settles k outcome reason r) moment name d = IsOf name d.boot k.serial × (d.greatest < moment)
IsSafeTable (Undoes k) moment name d = IsOf name d.boot k.serial × (d.greatest < moment)
IsSafeTable _ moment name d = Unit {0}

-- and that an act does
abbrev pub IsSafe : Act → List ℕ → Durable → Type 0
IsSafe (Creates place f) name d = (f.history.live ≡ []) × HasNoName f.name d.directory × IsUnnoted f.name d.units × (free_place d.directory ≡ Some place) × (get (current f.history) End ≡ None) × IsPlainCarried f.carried × KeepsImages name d.boot d.greatest f
IsSafe (Changes tid serial file cs keys) name d = MayChange d serial file cs × IsOf name d.boot serial × ArePlain cs
    × ((f : File) → find_file file d.directory ≡ Some f → f.organization ≡ Sequential → moves_end cs ≡ true → end_is_free serial f.history.live ≡ true)
    × ((f : File) → find_file file d.directory ≡ Some f → MayEnterImages serial cs f)
IsSafe (Directs file cs s) name d = MayDirect d s.serial file cs × IsOf name d.boot s.serial × ArePlain cs × (s.outcome ≡ Commit) × (s.reason ≡ None) × (d.greatest < s.moment)
    × ((f : File) → find_file file d.directory ≡ Some f → MayEnterImages s.serial cs f)
IsSafe (Tables a moment) name d = IsSafeTable a moment name d
IsSafe (Recovers file start buckets m) name d = ((f : File) → find_file file d.directory ≡ Some f → f.history.live ≡ []) × (get m End ≡ None)
IsSafe (Marks file mark) name d = (f : File) → find_file file d.directory ≡ Some f → f.history.live ≡ []
IsSafe (Saves file start) name d = (f : File) → find_file file d.directory ≡ Some f → f.history.live ≡ []
IsSafe _ name d = Unit {0}

-- Names.

unnamed_changed : (name file : List ℕ) (change : File → File) (fs : List (Option File)) → ((f : File) → (change f).name ≡ f.name) → HasNoName name fs → HasNoName name (with_file file change fs)
unnamed_changed name file change [] named h = tt
unnamed_changed name file change (None ∷ fs) named h = unnamed_changed name file change fs named h
unnamed_changed name file change (Some f ∷ fs) named h =
    cond_both (bytes_eq file f.name) (Some (change f) ∷ fs) (Some f ∷ with_file file change fs) (HasNoName name) (λ t. ((λ e. h.0 (e ∙ named f)), h.1)) (λ t. (h.0, unnamed_changed name file change fs named h.1))

names_changed : (file : List ℕ) (change : File → File) (fs : List (Option File)) → ((f : File) → (change f).name ≡ f.name) → NamesDiffer fs → NamesDiffer (with_file file change fs)
names_changed file change [] named h = tt
names_changed file change (None ∷ fs) named h = names_changed file change fs named h
names_changed file change (Some f ∷ fs) named h =
    cond_both (bytes_eq file f.name) (Some (change f) ∷ fs) (Some f ∷ with_file file change fs) NamesDiffer (λ t. (subst (λ x. HasNoName x fs) (sym (named f)) h.0, h.1))
    (λ t. (unnamed_changed f.name file change fs named h.0, names_changed file change fs named h.1))

unnamed_mapped : (name : List ℕ) (change : File → File) (fs : List (Option File)) → ((f : File) → (change f).name ≡ f.name) → HasNoName name fs → HasNoName name (map (option_map change) fs)
unnamed_mapped name change [] named h = tt
unnamed_mapped name change (None ∷ fs) named h = unnamed_mapped name change fs named h
unnamed_mapped name change (Some f ∷ fs) named h = ((λ e. h.0 (e ∙ named f)), unnamed_mapped name change fs named h.1)

names_mapped : (change : File → File) (fs : List (Option File)) → ((f : File) → (change f).name ≡ f.name) → NamesDiffer fs → NamesDiffer (map (option_map change) fs)
names_mapped change [] named h = tt
names_mapped change (None ∷ fs) named h = names_mapped change fs named h
names_mapped change (Some f ∷ fs) named h = (subst (λ x. HasNoName x (map (option_map change) fs)) (sym (named f)) (unnamed_mapped f.name change fs named h.0), names_mapped change fs named h.1)

unnamed_placed : (name : List ℕ) (f : File) (fs : List (Option File)) (place : ℕ) → (name ≡ f.name → ⊥) → HasNoName name fs → HasNoName name (slice_set fs place (Some f))
unnamed_placed name f [] place k h = tt
unnamed_placed name f (None ∷ fs) zero k h = (k, h)
unnamed_placed name f (Some g ∷ fs) zero k h = (k, h.1)
unnamed_placed name f (None ∷ fs) (suc place) k h = unnamed_placed name f fs place k h
unnamed_placed name f (Some g ∷ fs) (suc place) k h = (h.0, unnamed_placed name f fs place k h.1)

names_placed : (f : File) (fs : List (Option File)) (place : ℕ) → HasNoName f.name fs → NamesDiffer fs → NamesDiffer (slice_set fs place (Some f))
names_placed f [] place k h = tt
names_placed f (None ∷ fs) zero k h = (k, h)
names_placed f (Some g ∷ fs) zero k h = (k.1, h.1)
names_placed f (None ∷ fs) (suc place) k h = names_placed f fs place k h
names_placed f (Some g ∷ fs) (suc place) k h = (unnamed_placed g.name f fs place (λ e. k.0 (sym e)) h.0, names_placed f fs place k.1 h.1)

-- a file that is not found has no name there, and the other way round
pub unnamed_found : (name : List ℕ) (fs : List (Option File)) → find_file name fs ≡ None → HasNoName name fs
unnamed_found name [] e = tt
unnamed_found name (None ∷ fs) e = unnamed_found name fs e
unnamed_found name (Some f ∷ fs) e = go (bytes_eq name f.name) refl e (unnamed_found name fs)
  where
    go : (b : Bool) → bytes_eq name f.name ≡ b → ◌≡◌ {A = Option File} (if b then Some f else find_file name fs) None → (find_file name fs ≡ None → HasNoName name fs) → HasNoName name (Some f ∷ fs)
    go true t k more = let none : ⊥ = cc in absurd none
    go false t k more = ((λ same. both_ways _ t ((bytes_eq-Decides name f.name).1 same)), more k)

pub not_found : (name : List ℕ) (fs : List (Option File)) → HasNoName name fs → find_file name fs ≡ None
not_found name [] h = refl
not_found name (None ∷ fs) h = not_found name fs h
not_found name (Some f ∷ fs) h = go (bytes_eq name f.name) refl (not_found name fs h.1)
  where
    go : (b : Bool) → bytes_eq name f.name ≡ b → find_file name fs ≡ None → ◌≡◌ {A = Option File} (if b then Some f else find_file name fs) None
    go true t more = absurd (h.0 ((bytes_eq-Decides name f.name).0 t))
    go false t more = more

-- where a file is found there is a place of it
pub place_of : (name : List ℕ) (fs : List (Option File)) (f : File) → find_file name fs ≡ Some f → (place : ℕ) × (slice_index_or fs place None ≡ Some f)
place_of name [] f e = let none : ⊥ = cc in absurd none
place_of name (None ∷ fs) f e = let r = place_of name fs f e in (suc r.0, r.1)
place_of name (Some g ∷ fs) f e = go (bytes_eq name g.name) e (place_of name fs f)
  where
    go : (b : Bool) → ◌≡◌ {A = Option File} (if b then Some g else find_file name fs) (Some f) → (find_file name fs ≡ Some f → (place : ℕ) × (slice_index_or fs place None ≡ Some f)) → (place : ℕ) × (slice_index_or (Some g ∷ fs) place None ≡ Some f)
    go true k more = (0, k)
    go false k more = let r = more k in (suc r.0, r.1)

-- Acts.

created_noted : (units : Journal) (f : File) → f.history.live ≡ [] → IsUnnoted f.name units → HasNotes units f.name f.history
created_noted units f live k = record {
  notes = λ x u. k.notes x u ∙ sym (ap (λ (ls : List LiveChanges). map note_of (changes_by x ls)) live);
  units = subst (AllByRecursion (λ (l : LiveChanges). is_unit l.serial units ≡ true)) (sym live) tt;
  some = subst (AllByRecursion (λ (l : LiveChanges). has_changes l.changes ≡ true)) (sym live) tt;
  differ = subst SerialsDiffer (sym live) tt;
  orderly = (unchanged_has_notes empty_journal f.name f.history live refl).orderly;
}

created_plain : (f : File) → f.history.live ≡ [] → get (current f.history) End ≡ None → IsPlain f.history
created_plain f live absent = record { follow = λ x. subst (λ (ls : List LiveChanges). FollowOneAnother (changes_by x ls)) (sym live) tt; absent = absent }

empty_noted : (units : Journal) (k : ℕ) → AllNoted units (replicate k None)
empty_noted units zero = tt
empty_noted units (suc k) = empty_noted units k

empty_named : (k : ℕ) → NamesDiffer (replicate k None)
empty_named zero = tt
empty_named (suc k) = empty_named k

-- a settlement, whatever becomes of the log
pub settled_filed : (name : List ℕ) (s : Settlement) (log : Slots) (d : Durable) → IsOf name d.boot s.serial → d.greatest < s.moment → IsFiled name d → IsFiled name (with_settlement (Some s) (record d { log = log }))
settled_filed name s log d of later h = record {
  can = noted_settled d.units s d.directory h.can;
  names = names_mapped (settled_file s) d.directory (λ f. refl) h.names;
  reached = all_settled (λ e. IsOf name d.boot (serial_in e)) s.tid s.serial s.outcome s.moment d.units h.reached of;
  plain = found_mapped IsPlainFile IsPlainFile (settled_file s) d.directory (λ f. refl)
      (λ file f found p. let n = noted_at d.units file d.directory f h.can found in settled_plain f.history p n.orderly s.serial s.outcome s.moment n.differ) h.plain;
  carries = found_mapped CarriesPlain CarriesPlain (settled_file s) d.directory (λ f. refl)
      (λ file f found k. carried_settled (changed_it f.history s.serial) s f.carried k) h.carries;
  moments = found_mapped (FileCarriesBy d.greatest) (FileCarriesBy s.moment) (settled_file s) d.directory (λ f. refl)
      (λ file f found k. images_settled (IsTellingBy s.moment) (changed_it f.history s.serial) s f.carried (omega arith) (carries_later d.greatest s.moment f.carried (omega (arith, later)) k)) h.moments;
  images = found_mapped (FileKeepsImages name d.boot d.greatest) (FileKeepsImages name d.boot s.moment) (settled_file s) d.directory (λ f. refl)
      (λ file f found k. keeps_settled name d.boot d.greatest f s later (noted_at d.units file d.directory f h.can found).differ of k) h.images;
  one = found_mapped IsOneEnd IsOneEnd (settled_file s) d.directory (λ f. refl) (λ file f found k. end_settled f.organization s.serial s.outcome s.moment f.history k) h.one;
}

pub disk_acted : (act : Act) (name : List ℕ) (v : Volatile) (d : Durable) → IsSafe act name d → IsFiled name d → IsFiled name (durable_after act v d)
disk_acted (Formats slots journal) name v d safe h = record { can = empty_noted empty_journal 64; names = empty_named 64; reached = tt; plain = λ file f e. absurd (none_empty 64 file f e); carries = λ file f e. absurd (none_empty 64 file f e); moments = λ file f e. absurd (none_empty 64 file f e); images = λ file f e. absurd (none_empty 64 file f e); one = λ file f e. absurd (none_empty 64 file f e) }
disk_acted Boots name v d safe h = record {
  can = h.can;
  names = h.names;
  reached = all_more (λ e. IsOf name d.boot (serial_in e)) (λ e. IsOf name (d.boot + 1) (serial_in e)) d.units.entries (λ e k. (k.0, omega arith)) h.reached;
  plain = h.plain;
  carries = h.carries;
  moments = h.moments;
  images = λ file f e. keeps_booted name d.boot d.greatest f (h.images file f e);
  one = h.one;
}
disk_acted (Creates place f) name v d safe h = record {
  can = noted_placed d.units f d.directory place (created_noted d.units f safe.0 safe.2) h.can;
  names = names_placed f d.directory place safe.1 h.names;
  reached = h.reached;
  plain = found_placed IsPlainFile f d.directory place (not_found f.name d.directory safe.1) safe.3 (created_plain f safe.0 safe.4) h.plain;
  carries = found_placed CarriesPlain f d.directory place (not_found f.name d.directory safe.1) safe.3 safe.5 h.carries;
  moments = found_placed (FileCarriesBy d.greatest) f d.directory place (not_found f.name d.directory safe.1) safe.3 (kept_by name d.boot d.greatest f safe.6) h.moments;
  images = found_placed (FileKeepsImages name d.boot d.greatest) f d.directory place (not_found f.name d.directory safe.1) safe.3 safe.6 h.images;
  one = found_placed IsOneEnd f d.directory place (not_found f.name d.directory safe.1) safe.3 (subst (OneMovesEndOf f.organization) (sym safe.0) (end_of_none f.organization)) h.one;
}
disk_acted (Marks file mark) name v d safe h = record {
  can = marks_can_restart d v file mark h.can;
  names = names_changed file (marked_file mark d.greatest) d.directory (λ f. refl) h.names;
  reached = h.reached;
  plain = found_changed IsPlainFile IsPlainFile file (marked_file mark d.greatest) d.directory (λ f. refl) (λ f found p. p) (λ other f p. p) h.plain;
  carries = found_changed CarriesPlain CarriesPlain file (marked_file mark d.greatest) d.directory (λ f. refl) (λ f found k. carried_marks mark d.greatest f.carried k) (λ other f k. k) h.carries;
  moments = found_changed (FileCarriesBy d.greatest) (FileCarriesBy d.greatest) file (marked_file mark d.greatest) d.directory (λ f. refl) (λ f found k. images_marked (IsTellingBy d.greatest) mark d.greatest f.carried k) (λ other f k. k) h.moments;
  images = found_changed (FileKeepsImages name d.boot d.greatest) (FileKeepsImages name d.boot d.greatest) file (marked_file mark d.greatest) d.directory (λ f. refl) (λ f found k. keeps_marked name d.boot d.greatest f mark (safe f found) k) (λ other f k. k) h.images;
  one = found_changed IsOneEnd IsOneEnd file (marked_file mark d.greatest) d.directory (λ f. refl) (λ f found p. p) (λ other f p. p) h.one;
}
disk_acted (Saves file start) name v d safe h = record {
  can = saves_can_restart d v file start h.can;
  names = names_changed file (saved_file start d.greatest) d.directory (λ f. refl) h.names;
  reached = h.reached;
  plain = found_changed IsPlainFile IsPlainFile file (saved_file start d.greatest) d.directory (λ f. refl) (λ f found p. p) (λ other f p. p) h.plain;
  carries = found_changed CarriesPlain CarriesPlain file (saved_file start d.greatest) d.directory (λ f. refl) (λ f found k. carried_saved start d.greatest f (h.plain file f found).absent k) (λ other f k. k) h.carries;
  moments = found_changed (FileCarriesBy d.greatest) (FileCarriesBy d.greatest) file (saved_file start d.greatest) d.directory (λ f. refl) (λ f found k. record { after = k.after; before = k.before }) (λ other f k. k) h.moments;
  images = found_changed (FileKeepsImages name d.boot d.greatest) (FileKeepsImages name d.boot d.greatest) file (saved_file start d.greatest) d.directory (λ f. refl) (λ f found k. keeps_saved name d.boot d.greatest f start (safe f found) k) (λ other f k. k) h.images;
  one = found_changed IsOneEnd IsOneEnd file (saved_file start d.greatest) d.directory (λ f. refl) (λ f found p. p) (λ other f p. p) h.one;
}
disk_acted (Recovers file start buckets m) name v d safe h = record {
  can = recovers_can_restart d v file start buckets m h.can safe.0;
  names = names_changed file change d.directory (λ f. refl) h.names;
  reached = h.reached;
  plain = found_changed IsPlainFile IsPlainFile file change d.directory (λ f. refl) (λ f found p. created_plain (change f) (safe.0 f found) (absent f (safe.0 f found))) (λ other f p. p) h.plain;
  carries = found_changed CarriesPlain CarriesPlain file change d.directory (λ f. refl) (λ f found k. carried_recovers d.greatest f.carried k) (λ other f k. k) h.carries;
  moments = found_changed (FileCarriesBy d.greatest) (FileCarriesBy d.greatest) file change d.directory (λ f. refl) (λ f found k. images_recovered (IsTellingBy d.greatest) d.greatest f.carried k) (λ other f k. k) h.moments;
  images = found_changed (FileKeepsImages name d.boot d.greatest) (FileKeepsImages name d.boot d.greatest) file change d.directory (λ f. refl) (λ f found k. keeps_recovered name d.boot d.greatest f start buckets m (safe.0 f found) k) (λ other f k. k) h.images;
  one = found_changed IsOneEnd IsOneEnd file change d.directory (λ f. refl) (λ f found p. p) (λ other f p. p) h.one;
}
  where
    change : File → File
    change = recovered_file start buckets m d.greatest

    absent : (f : File) → f.history.live ≡ [] → get (current (change f).history) End ≡ None
    absent f live = subst (λ (ls : List LiveChanges). get (on_top ls m) End ≡ None) (sym live) safe.1
disk_acted (Changes tid serial file cs keys) name v d safe h = record {
  can = changes_can_restart d v tid serial file cs keys h.can safe.0;
  names = names_changed file (changed_file (is_locked v.locks file) tid serial cs) d.directory (λ f. refl) h.names;
  reached = all_append (λ e. IsOf name d.boot (serial_in e)) d.units.entries (entries_for tid serial file cs) h.reached (all_entered (λ e. IsOf name d.boot (serial_in e)) tid serial file cs (λ c. safe.1));
  plain = found_changed IsPlainFile IsPlainFile file (changed_file (is_locked v.locks file) tid serial cs) d.directory (λ f. refl)
      (λ f found p. changed_plain f.history p (noted_at d.units file d.directory f h.can found).orderly serial cs safe.2 (safe.0.free f found) (safe.0.found f found)) (λ other f p. p) h.plain;
  carries = found_changed CarriesPlain CarriesPlain file (changed_file (is_locked v.locks file) tid serial cs) d.directory (λ f. refl) (λ f found k. carried_changed tid serial cs f.carried safe.2 k) (λ other f k. k) h.carries;
  moments = found_changed (FileCarriesBy d.greatest) (FileCarriesBy d.greatest) file (changed_file (is_locked v.locks file) tid serial cs) d.directory (λ f. refl) (λ f found k. images_changed (IsTellingBy d.greatest) tid serial cs f.carried (λ key v. tt) k) (λ other f k. k) h.moments;
  images = found_changed (FileKeepsImages name d.boot d.greatest) (FileKeepsImages name d.boot d.greatest) file (changed_file (is_locked v.locks file) tid serial cs) d.directory (λ f. refl)
      (λ f found k. keeps_changed name d.boot d.greatest f (is_locked v.locks file) tid serial cs (noted_at d.units file d.directory f h.can found).differ safe.1 (safe.4 f found) k) (λ other f k. k) h.images;
  one = found_changed IsOneEnd IsOneEnd file (changed_file (is_locked v.locks file) tid serial cs) d.directory (λ f. refl)
      (λ f found k. end_changed f.organization f.history.live serial cs (noted_at d.units file d.directory f h.can found).differ (safe.3 f found) k) (λ other f k. k) h.one;
}
disk_acted (Directs file [] s) name v d safe h = let some : has_changes [] ≡ true = safe.0.some in let none : ⊥ = cc in absurd none
disk_acted (Directs file (c ∷ cs) s) name v d safe h =
    let as_committed : ◌≡◌ {A = Settlement} (record { tid = s.tid; serial = s.serial; outcome = Commit; reason = None; moment = s.moment }) s =
    (λ i. record { tid = s.tid; serial = s.serial; outcome = sym safe.3 i; reason = sym safe.4 i; moment = s.moment }) in
    let change = directly_changed (is_locked v.locks file) s (c ∷ cs) in
    let later : d.greatest ≤ s.moment = (let less = safe.5 in omega (arith, less)) in
    record {
      can = subst (λ t. CanRestart (durable_after (Directs file (c ∷ cs) t) v d)) as_committed (directs_can_restart d v file (c ∷ cs) s.tid s.serial s.moment h.can safe.0);
      names = names_changed file change d.directory (λ f. refl) h.names;
      reached = all_trimmed (λ e. IsOf name d.boot (serial_in e)) d.units h.reached;
      plain = found_changed IsPlainFile IsPlainFile file change d.directory (λ f. refl) (λ f found p. direct f found p) (λ other f p. p) h.plain;
      carries = found_changed CarriesPlain CarriesPlain file change d.directory (λ f. refl)
          (λ f found k. carried_settled (changed_it (changed_with s.serial (c ∷ cs) f.history) s.serial) s (with_images s.tid s.serial (c ∷ cs) f.carried) (carried_changed s.tid s.serial (c ∷ cs) f.carried safe.2 k)) (λ other f k. k) h.carries;
      moments = found_changed (FileCarriesBy d.greatest) (FileCarriesBy s.moment) file change d.directory (λ f. refl)
          (λ f found k. images_settled (IsTellingBy s.moment) (changed_it (changed_with s.serial (c ∷ cs) f.history) s.serial) s (with_images s.tid s.serial (c ∷ cs) f.carried) (omega arith)
          (images_changed (IsTellingBy s.moment) s.tid s.serial (c ∷ cs) f.carried (λ key v. tt) (carries_later d.greatest s.moment f.carried later k)))
          (λ other f k. carries_later d.greatest s.moment f.carried later k) h.moments;
      images = found_changed (FileKeepsImages name d.boot d.greatest) (FileKeepsImages name d.boot s.moment) file change d.directory (λ f. refl)
          (λ f found k. keeps_directs name d.boot d.greatest f (is_locked v.locks file) s (c ∷ cs) safe.5 (noted_at d.units file d.directory f h.can found).differ safe.1 (safe.6 f found) k)
          (λ other f k. keeps_later name d.boot d.greatest s.moment f later k) h.images;
      one = found_changed IsOneEnd IsOneEnd file change d.directory (λ f. refl) (λ f found k. subst (OneMovesEndOf f.organization) (sym (live f found)) k) (λ other f k. k) h.one;
    }
  where
    direct : (f : File) → find_file file d.directory ≡ Some f → IsPlain f.history → IsPlain (settled_at s.serial s.outcome s.moment (changed_with s.serial (c ∷ cs) f.history))
    direct f found p =
        let n = noted_at d.units file d.directory f h.can found in
        let o = changes_more f.history s.serial (c ∷ cs) n.orderly (safe.0.free f found) (safe.0.found f found) in
        settled_plain (changed_with s.serial (c ∷ cs) f.history) (changed_plain f.history p n.orderly s.serial (c ∷ cs) safe.2 (safe.0.free f found) (safe.0.found f found)) o.orderly s.serial s.outcome s.moment
        (once_changes s.serial (c ∷ cs) f.history.live n.differ)

    live : (f : File) → find_file file d.directory ≡ Some f → (settled_at s.serial s.outcome s.moment (changed_with s.serial (c ∷ cs) f.history)).live ≡ f.history.live
    live f found =
        ap (λ o. (settled_at s.serial o s.moment (changed_with s.serial (c ∷ cs) f.history)).live) safe.3
        ∙ live_same s.serial c cs s.moment f.history (none_of d.units s.serial f.history.live safe.0.fresh (noted_at d.units file d.directory f h.can found).units)
disk_acted (Tables (Prepares b) moment) name v d safe h = record {
  can = tables_can_restart d v (Prepares b) moment h.can;
  names = h.names;
  reached = all_prepared (λ e. IsOf name d.boot (serial_in e)) b d.units h.reached safe;
  plain = h.plain;
  carries = h.carries;
  moments = h.moments;
  images = h.images;
  one = h.one;
}
disk_acted (Tables (table.Settles k outcome reason r) moment) name v d safe h = settled_filed name (settlement k outcome reason moment) _ d safe.0 safe.1 h
disk_acted (Tables (Undoes k) moment) name v d safe h = settled_filed name (settlement k Abort SegFail moment) _ d safe.0 safe.1 h
disk_acted (Tables _ moment) name v d safe h = record { can = h.can; names = h.names; reached = h.reached; plain = h.plain; carries = h.carries; moments = h.moments; images = h.images; one = h.one }
disk_acted ComesUp name v d safe h = h
disk_acted Draws name v d safe h = h
disk_acted (Labels l) name v d safe h = h
disk_acted (Numbers label serial) name v d safe h = h
disk_acted (Holds serial file keys) name v d safe h = h
disk_acted (Arms writes choice) name v d safe h = h
disk_acted (Clocks now) name v d safe h = h
disk_acted (Declares rms) name v d safe h = h
disk_acted Falls name v d safe h = h

-- an abort is done in part
pub half_filed : (name : List ℕ) (serial : Id) (standing : List ℕ → Map) (d : Durable) → ((place : ℕ) (f : File) → slice_index_or d.directory place None ≡ Some f → IsHalfUndone serial standing f) → IsFiled name d →
    IsFiled name (with_half (Some serial) standing d)
half_filed name serial standing d may h = record {
  can = halves_can_restart d serial standing h.can may;
  names = names_mapped (half_undone serial standing) d.directory (λ f. refl) h.names;
  reached = h.reached;
  plain = found_mapped IsPlainFile IsPlainFile (half_undone serial standing) d.directory (λ f. refl) (λ file f found p. half_plain serial (standing f.name) f.history p (noted_at d.units file d.directory f h.can found).orderly) h.plain;
  carries = found_mapped CarriesPlain CarriesPlain (half_undone serial standing) d.directory (λ f. refl) (λ file f found k. k) h.carries;
  moments = found_mapped (FileCarriesBy d.greatest) (FileCarriesBy d.greatest) (half_undone serial standing) d.directory (λ f. refl) (λ file f found k. k) h.moments;
  images = found_mapped (FileKeepsImages name d.boot d.greatest) (FileKeepsImages name d.boot d.greatest) (half_undone serial standing) d.directory (λ f. refl) (λ file f found k. keeps_half name d.boot d.greatest f serial standing k) h.images;
  one = found_mapped IsOneEnd IsOneEnd (half_undone serial standing) d.directory (λ f. refl)
      (λ file f found k. let at = place_of file d.directory f found in end_leaving serial (standing f.name) f.organization f.history.live (may at.0 f at.1).images k) h.one;
}
