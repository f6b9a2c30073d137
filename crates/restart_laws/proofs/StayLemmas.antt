-- What unsettled branches changed can be restored in contents that agree on the files, beside other files, and once a branch is settled.
use Rattle.std.proofs.Common.{◌≡◌, ℕ, suc, ◌<◌, ◌≤◌, List, [], ◌∷◌, length, Bool, false, Option, Some, None, replicate, slice_set, refl, sym, ap, subst, ◌∙◌, inl, inr, arith}
use Rattle.std.specs.Option.{option_map}
use Rattle.std.specs.List.{AllByRecursion}
use Rattle.std.proofs.lemmas.Bool.{cases_eq}
use Rattle.std.proofs.lemmas.List.{get_or-set_same, get_or-set_other}
use Rattle.file_base.specs.declared.head.FileHead.{FileHead}
use Rattle.file_base.specs.declared.head.Marks.{Marks}
use Rattle.file_base.specs.declared.head.Save.{Save}
use Rattle.file_base.specs.declared.head.Span.{Span}
use Rattle.file_base.specs.vms_base.declared.moments.Moment.{Moment}
use Rattle.file_base.specs.declared.head.Organization.{Organization as Kept}
use Rattle.file_base.specs.declared.head.Organization.TheVariants.{Sequential, Relative, Indexed}
use Rattle.directory_model.specs.change_set.Files.{AgreesOn}
use Rattle.directory_model.specs.change_set.Maps.{Map}
use Rattle.directory_model.specs.seq_file.Layout.{records_in}
use Rattle.directory_model.specs.seq_file.Local as sequential
use Rattle.directory_model.specs.relative_file.Cells as relative
use Rattle.directory_model.specs.indexed_file.Chain as leaf
use Rattle.directory_model.specs.indexed_tree.Files as indexed
use Rattle.directory_model.specs.record_files.Indexed as local
use Rattle.directory_model.specs.indexed_tree.Rooted.{IsRooted}
use Rattle.directory_model.specs.record_files.Any.{FormBy, LaidOutBy}
use Rattle.vms_model.specs.Ids.{Id}
use Rattle.vms_model.specs.Keys.{Key, Number, Text, End}
use Rattle.vms_model.specs.Transactions.{Outcome, Commit}
use Rattle.index_model.specs.records_model.Records.{Change}
use Rattle.index_model.specs.records_model.Slots.{Slot, room_of, size_of}
use Rattle.index_model.specs.records_model.History.{History, LiveChanges, changed_with, same_id, settled_at, settled_with, with_changes, without}
use Rattle.unit_laws.specs.Units.{earliest_before}
use Rattle.unit_laws.proofs.LiveLemmas.{by_changes, left_so}
use Rattle.directory_model.specs.sequence_laws.Undoing.{GoesBack}
use Rattle.directory_model.proofs.sequence_laws.SequenceLemmas.{same_records}
use Rattle.world_laws.specs.run_model.Locks.{is_locked}
use Rattle.world_laws.specs.run_model.World as world
use Rattle.world_laws.specs.run_model.World.{Node, File, Settlement, acted, changed_file, directly_changed, settled_file}
use Rattle.world_laws.proofs.DirectLemmas.{live_same}
use Rattle.directory_model.specs.Files.{AreFiles, IsFoundAt, IsNamed, IsPlace, AgreesOnFile, head_at, file_at}
use Rattle.directory_model.specs.Restoring.{AreRestorable, CanRestore, CanRestoreBy, IsPlaceRestorable}
use Rattle.directory_model.specs.Laws.{SameBut}
use Rattle.directory_model.proofs.Acts.{none_at, quiet_directory, settled_directory}
use Rattle.directory_model.proofs.Finding.{finds_files}
use Rattle.directory_model.proofs.Marking.{dressed, marked_slots}
use Rattle.directory_model.proofs.Places.{file_mapped, within_list}
use Rattle.restart_laws.specs.Restorable.{IsDressed, KeepsRestorable, SameBuckets, SameLive}
use Rattle.restart_laws.proofs.ListLemmas.{all_as}
use Rattle.restart_laws.proofs.FallLemmas.{falls_leave}
use Rattle.restart_laws.proofs.RestorableLemmas.{live_settled, others_stay_restorable}

-- Contents that agree on a file.

rooms_stand : (h : FileHead) (a b : List (List ℕ)) (all cs : List Change) → indexed.IsTreeHead h → AgreesOn h a b → IsRooted h a → AllByRecursion (λ (c : Change). leaf.Suits h c.key (earliest_before all c.key) × (size_of (earliest_before all c.key) ≤ indexed.room_at h a c.key)) cs →
    AllByRecursion (λ (c : Change). leaf.Suits h c.key (earliest_before all c.key) × (size_of (earliest_before all c.key) ≤ indexed.room_at h b c.key)) cs
rooms_stand h a b all [] form agrees laid can = tt
rooms_stand h a b all (c ∷ cs) form agrees laid can = ((can.0.0, subst (λ r. size_of (earliest_before all c.key) ≤ r) (local.room_local_law h a b form agrees laid c.key) can.0.1), rooms_stand h a b all cs form agrees laid can.1)

pub can_stand : (o : Kept) (h : FileHead) (a b : List (List ℕ)) (ls : List LiveChanges) → FormBy o h → AgreesOn h a b → LaidOutBy o h a → AllByRecursion (λ (l : LiveChanges). CanRestoreBy o h a l.changes) ls → AllByRecursion (λ (l : LiveChanges). CanRestoreBy o h b l.changes) ls
can_stand Sequential h a b ls form agrees laid can = all_as (λ (l : LiveChanges). CanRestoreBy Sequential h a l.changes) (λ (l : LiveChanges). CanRestoreBy Sequential h b l.changes) ls
    (λ l can. (can.0, subst (λ now. GoesBack h l.changes now can.0) (same_records (records_in h a) (records_in h b) (λ k. ap (λ (m : Map). m (Number (suc k))) (sequential.local_law h a b form agrees))) can.1)) can
can_stand Relative h a b ls form agrees laid can = can
can_stand Indexed h a b ls form agrees laid can = all_as (λ (l : LiveChanges). CanRestoreBy Indexed h a l.changes) (λ (l : LiveChanges). CanRestoreBy Indexed h b l.changes) ls (λ l can. rooms_stand h a b l.changes l.changes form agrees laid can) can

pub place_stands : (a b : List (List ℕ)) (f : ℕ) (o : Option FileHead) (p : Option File) → ((h : FileHead) → o ≡ Some h → AgreesOnFile h a b) → IsPlace a f o p → IsPlaceRestorable a o p → IsPlaceRestorable b o p
place_stands a b f None p agree is can = tt
place_stands a b f (Some h) None agree is can = tt
place_stands a b f (Some h) (Some file) agree is can = can_stand h.organization h a b file.history.live is.0.head.form (agree h refl).own is.0.laid can

-- One place is set.
pub restorable_set : (b : List (List ℕ)) (heads : List (Option FileHead)) (directory : List (Option File)) (f : ℕ) (new : FileHead) (file : File) → f < length heads → f < length directory → CanRestore new b file.history.live →
    ((g : ℕ) → (g ≡ f → ⊥) → IsPlaceRestorable b (head_at heads g) (file_at directory g)) → AreRestorable b (slice_set heads f (Some new)) (slice_set directory f (Some file))
restorable_set b heads directory f new file below below_too can others g = elim (cases_eq g f) [
  | inl here ↦
      let head : head_at (slice_set heads f (Some new)) f ≡ Some new = get_or-set_same heads f (Some new) None below in
      let now : file_at (slice_set directory f (Some file)) f ≡ Some file = get_or-set_same directory f (Some file) None below_too in
      subst (λ x. IsPlaceRestorable b (head_at (slice_set heads f (Some new)) x) (file_at (slice_set directory f (Some file)) x)) (sym here)
      (subst (λ o. IsPlaceRestorable b o (file_at (slice_set directory f (Some file)) f)) (sym head) (subst (λ o. IsPlaceRestorable b (Some new) o) (sym now) can))
  | inr other ↦
      subst (λ o. IsPlaceRestorable b o (file_at (slice_set directory f (Some file)) g)) (sym (get_or-set_other heads f g (Some new) None other))
      (subst (λ o. IsPlaceRestorable b (head_at heads g) o) (sym (get_or-set_other directory f g (Some file) None other)) (others g other))
]

-- what can be restored of the file at a place
pub restorable_at : (content : List (List ℕ)) (heads : List (Option FileHead)) (directory : List (Option File)) (f : ℕ) (h : FileHead) (file : File) → head_at heads f ≡ Some h → file_at directory f ≡ Some file → AreRestorable content heads directory → CanRestore h content file.history.live
restorable_at content heads directory f h file head there can = subst (λ p. IsPlaceRestorable content (Some h) p) there (subst (λ o. IsPlaceRestorable content o (file_at directory f)) head (can f))

-- the others, where one file's blocks alone changed
pub others_stand : (a b : List (List ℕ)) (heads : List (Option FileHead)) (directory : List (Option File)) (f g : ℕ) → AreFiles a heads directory → SameBut f heads a b → AreRestorable a heads directory → (g ≡ f → ⊥) → IsPlaceRestorable b (head_at heads g) (file_at directory g)
others_stand a b heads directory f g are same can other = place_stands a b g (head_at heads g) (file_at directory g) (λ h head. same g h other head) (are.each g) (can g)

-- INIT
formats : (content : List (List ℕ)) (n : Node) (slots journal : ℕ) → AreRestorable content (replicate 64 None) (acted (world.Formats slots journal) n).durable.directory
formats content n slots journal f = subst (λ o. IsPlaceRestorable content o (file_at (acted (world.Formats slots journal) n).durable.directory f)) (sym (none_at {A = FileHead} 64 f)) tt

-- CREATE
creates : (content : List (List ℕ)) (heads : List (Option FileHead)) (n : Node) (f : ℕ) (h : FileHead) (file : File) → AreFiles content heads n.durable.directory → f < 64 → file.history.live ≡ [] →
    AreRestorable content heads n.durable.directory → AreRestorable content (slice_set heads f (Some h)) (acted (world.Creates f file) n).durable.directory
creates content heads n f h file are within none can =
    let long = are.heads_long in let long_too = are.directory_long in
    restorable_set content heads n.durable.directory f h file (omega arith) (omega arith) (subst (CanRestore h content) (sym none) tt) (λ g other. can g)

-- Heads of the same buckets.

module _ (marks : Marks) (after before : Span) (since : Moment) (save : Save) (h : FileHead) where
  abbrev new : FileHead
  new = dressed marks after before since save h

  goes_dressed : (cs : List Change) (now back : List (List ℕ)) → GoesBack h cs now back → GoesBack new cs now back
  goes_dressed cs now back g = record { restored = g.restored; own = g.own; whole = g.whole; same = g.same; records = g.records; fits = g.fits }

  suits_dressed : (key : Key) (v : Option (List ℕ)) → relative.Suits h key v → relative.Suits new key v
  suits_dressed (Number n) v suits = suits
  suits_dressed (Text t) v suits = suits
  suits_dressed End v suits = suits

  fits_dressed : (content : List (List ℕ)) (key : Key) (v : Option (List ℕ)) → leaf.Suits h key v × (size_of v ≤ indexed.room_at h content key) → leaf.Suits new key v × (size_of v ≤ indexed.room_at new content key)
  fits_dressed content (Number n) v fits = absurd fits.0
  fits_dressed content (Text k) v fits = (record { size = fits.0.size; has = fits.0.has; most = fits.0.most }, subst (λ (ss : List Slot). size_of v ≤ room_of ss k) (marked_slots marks after before since save h content) fits.1)
  fits_dressed content End v fits = absurd fits.0

  can_dressed : (o : Kept) (content : List (List ℕ)) (cs : List Change) → CanRestoreBy o h content cs → CanRestoreBy o new content cs
  can_dressed Sequential content cs can = (can.0, goes_dressed cs (records_in h content) can.0 can.1)
  can_dressed Relative content cs can = all_as (λ (c : Change). relative.Suits h c.key (earliest_before cs c.key)) (λ (c : Change). relative.Suits new c.key (earliest_before cs c.key)) cs (λ c suits. suits_dressed c.key (earliest_before cs c.key) suits) can
  can_dressed Indexed content cs can = all_as (λ (c : Change). leaf.Suits h c.key (earliest_before cs c.key) × (size_of (earliest_before cs c.key) ≤ indexed.room_at h content c.key))
      (λ (c : Change). leaf.Suits new c.key (earliest_before cs c.key) × (size_of (earliest_before cs c.key) ≤ indexed.room_at new content c.key)) cs (λ c fits. fits_dressed content c.key (earliest_before cs c.key) fits) can

-- what can be restored, by a head of the same buckets
pub can_same : (content : List (List ℕ)) (h new : FileHead) (ls : List LiveChanges) → SameBuckets h new → CanRestore h content ls → CanRestore new content ls
can_same content h new ls same can = subst (λ (k : FileHead). CanRestore k content ls) (sym same.is)
    (all_as (λ (l : LiveChanges). CanRestoreBy h.organization h content l.changes) (λ (l : LiveChanges). CanRestoreBy h.organization (dressed new.marks new.ai new.bi new.bi_since new.save h) content l.changes) ls
    (λ l so. can_dressed new.marks new.ai new.bi new.bi_since new.save h h.organization content l.changes so) can)

-- SET_FILE
marks : (content : List (List ℕ)) (heads : List (Option FileHead)) (n : Node) (f : ℕ) (h new : FileHead) (name : List ℕ) (mark : world.Mark) → AreFiles content heads n.durable.directory → IsNamed heads f h name → SameBuckets h new →
    AreRestorable content heads n.durable.directory → AreRestorable content (slice_set heads f (Some new)) (acted (world.Marks name mark) n).durable.directory
marks content heads n f h new name mark are named same can =
    let directory = n.durable.directory in
    let found = finds_files.found content heads directory f h name are named in
    let below = within_list heads f h named.there in let long = are.heads_long in let long_too = are.directory_long in
    let change = world.marked_file mark n.durable.greatest in
    subst (AreRestorable content (slice_set heads f (Some new))) (sym (found.2.changed change))
    (restorable_set content heads directory f new (change found.0) below (omega arith) (can_same content h new found.0.history.live same (restorable_at content heads directory f h found.0 named.there found.2.there can)) (λ g other. can g))

-- BACKUP
saves : (content : List (List ℕ)) (heads : List (Option FileHead)) (n : Node) (f : ℕ) (h new : FileHead) (name : List ℕ) (start : ℕ) → AreFiles content heads n.durable.directory → IsNamed heads f h name → SameBuckets h new →
    AreRestorable content heads n.durable.directory → AreRestorable content (slice_set heads f (Some new)) (acted (world.Saves name start) n).durable.directory
saves content heads n f h new name start are named same can =
    let directory = n.durable.directory in
    let found = finds_files.found content heads directory f h name are named in
    let below = within_list heads f h named.there in let long = are.heads_long in let long_too = are.directory_long in
    let change = world.saved_file start n.durable.greatest in
    subst (AreRestorable content (slice_set heads f (Some new))) (sym (found.2.changed change))
    (restorable_set content heads directory f new (change found.0) below (omega arith) (can_same content h new found.0.history.live same (restorable_at content heads directory f h found.0 named.there found.2.there can)) (λ g other. can g))

-- Marks, journals and saves of files.
place_dressed : (a b : List (List ℕ)) (f : ℕ) (o o' : Option FileHead) (p p' : Option File) → IsPlace a f o p → IsDressed a o b o' → SameLive p p' → IsPlaceRestorable a o p → IsPlaceRestorable b o' p'
place_dressed a b f None None p p' is dressed live can = tt
place_dressed a b f None (Some new) p p' is dressed live can = absurd dressed
place_dressed a b f (Some h) None p p' is dressed live can = absurd dressed
place_dressed a b f (Some h) (Some new) p None is dressed live can = tt
place_dressed a b f (Some h) (Some new) None (Some other) is dressed live can = absurd live
place_dressed a b f (Some h) (Some new) (Some file) (Some other) is dressed live can = subst (CanRestore new b) (sym live)
    (can_same b h new file.history.live dressed.0 (can_stand h.organization h a b file.history.live is.0.head.form dressed.1 is.0.laid can))

-- PUT, UPDATE, DELETE, TRUNCATE without a label

-- the changes of other branches, once those of one are gone again
without_changed : (serial : Id) (c : Change) (cs : List Change) (h : History) → AllByRecursion (λ (l : LiveChanges). same_id serial l.serial ≡ false) h.live → without serial (with_changes serial (c ∷ cs) h.live) ≡ h.live
without_changed serial c cs h none =
    sym (ap (λ (ds : List Change). (settled_with serial Commit 0 ds (changed_with serial (c ∷ cs) h)).live) (by_changes serial (c ∷ cs) h.live)) ∙ live_same serial c cs 0 h none

place_direct : (b : List (List ℕ)) (o : Option FileHead) (held : Key → Bool) (tid : Id) (s : Settlement) (c : Change) (cs : List Change) (file : File) → s.outcome ≡ Commit → AllByRecursion (λ (l : LiveChanges). same_id s.serial l.serial ≡ false) file.history.live →
    IsPlaceRestorable b o (Some (changed_file held tid s.serial (c ∷ cs) file)) → IsPlaceRestorable b o (Some (directly_changed held s (c ∷ cs) file))
place_direct b None held tid s c cs file commit none can = tt
place_direct b (Some h) held tid s c cs file commit none can =
    let P : LiveChanges → Type 0 = λ l. CanRestoreBy h.organization h b l.changes in
    let stays : (directly_changed held s (c ∷ cs) file).history.live ≡ file.history.live =
    ap (λ (o : Outcome). (settled_at s.serial o s.moment (changed_with s.serial (c ∷ cs) file.history)).live) commit ∙ live_same s.serial c cs s.moment file.history none in
    subst (AllByRecursion P) (sym stays) (subst (AllByRecursion P) (without_changed s.serial c cs file.history none) (left_so P s.serial (with_changes s.serial (c ∷ cs) file.history.live) can))

directs : (b : List (List ℕ)) (heads : List (Option FileHead)) (n : Node) (f : ℕ) (name : List ℕ) (file : File) (tid : Id) (keys : List Key) (c : Change) (cs : List Change) (s : Settlement) → s.outcome ≡ Commit → IsFoundAt name n.durable.directory f file →
    AllByRecursion (λ (l : LiveChanges). same_id s.serial l.serial ≡ false) file.history.live → AreRestorable b heads (acted (world.Changes tid s.serial name (c ∷ cs) keys) n).durable.directory → AreRestorable b heads (acted (world.Directs name (c ∷ cs) s) n).durable.directory
directs b heads n f name file tid keys c cs s commit at none can g =
    let directory = n.durable.directory in
    let held = is_locked n.volatile.locks name in
    let before = at.changed (changed_file held tid s.serial (c ∷ cs)) in
    let now = at.changed (directly_changed held s (c ∷ cs)) in
    let wide = within_list directory f file at.there in
    elim (cases_eq g f) [
      | inl here ↦
          let was = ap (λ ds. file_at ds f) before ∙ get_or-set_same directory f (Some (changed_file held tid s.serial (c ∷ cs) file)) None wide in
          let is = ap (λ ds. file_at ds f) now ∙ get_or-set_same directory f (Some (directly_changed held s (c ∷ cs) file)) None wide in
          subst (λ x. IsPlaceRestorable b (head_at heads x) (file_at (acted (world.Directs name (c ∷ cs) s) n).durable.directory x)) (sym here)
          (subst (IsPlaceRestorable b (head_at heads f)) (sym is) (place_direct b (head_at heads f) held tid s c cs file commit none (subst (IsPlaceRestorable b (head_at heads f)) was (can f))))
      | inr other ↦
          let same = ap (λ ds. file_at ds g) before ∙ get_or-set_other directory f g (Some (changed_file held tid s.serial (c ∷ cs) file)) None other
          ∙ sym (ap (λ ds. file_at ds g) now ∙ get_or-set_other directory f g (Some (directly_changed held s (c ∷ cs) file)) None other) in
          subst (IsPlaceRestorable b (head_at heads g)) same (can g)
    ]

-- END_TRANS
place_settled : (content : List (List ℕ)) (o : Option FileHead) (p : Option File) (s : Settlement) → ((file : File) → p ≡ Some file → (settled_file s file).history.live ≡ without s.serial file.history.live) → IsPlaceRestorable content o p →
    IsPlaceRestorable content o (option_map (settled_file s) p)
place_settled content None p s live can = tt
place_settled content (Some h) None s live can = tt
place_settled content (Some h) (Some file) s live can =
    subst (CanRestore h content) (sym (live file refl)) (left_so (λ (l : LiveChanges). CanRestoreBy h.organization h content l.changes) s.serial file.history.live can)

pub keeps_restorable : KeepsRestorable
keeps_restorable = record {
  stands = λ a b heads directory agree are can f. place_stands a b f (head_at heads f) (file_at directory f) (agree f) (are.each f) (can f);
  formats = formats;
  creates = creates;
  marks = marks;
  saves = saves;
  dresses = λ a b heads new directory others are dressed live can f. place_dressed a b f (head_at heads f) (head_at new f) (file_at directory f) (file_at others f) (are.each f) (dressed f) (live f) (can f);
  directs = directs;
  tables = λ content heads n a moment none can. subst (AreRestorable content heads) (sym (quiet_directory n a moment none)) can;
  commits = λ content heads n a moment s settles units can f. subst (IsPlaceRestorable content (head_at heads f)) (sym (ap (λ (d : List (Option File)). file_at d f) (settled_directory n a moment s settles) ∙ file_mapped (settled_file s) n.durable.directory f))
      (place_settled content (head_at heads f) (file_at n.durable.directory f) s (λ file there. live_settled file s (units.tells f file there).notes.some) (can f));
  aborts = λ b c heads new n a moment s settles are units abort back can. others_stay_restorable b c heads new n a moment s settles (falls_leave b heads n are units can) units abort back;
}
