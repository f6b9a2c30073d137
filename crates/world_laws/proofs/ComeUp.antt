-- The node that comes up behind a boot.
use Rattle.std.proofs.Common.{◌≡◌, ◌≤◌, ℕ, ◌+◌, List, [], ◌∷◌, length, map, Bool, true, false, Option, Some, None, if◌then◌else◌, refl, sym, ◌∙◌, ap, subst, arith, inl, inr}
use Rattle.std.specs.Prelude.{is_some}
use Rattle.std.specs.List.{AllByRecursion}
use Rattle.std.proofs.lemmas.Bool.{both_ways, false_from_ne_true}
use Rattle.vms_model.specs.Ids.{Id}
use Rattle.vms_model.specs.Keys.{Key, End}
use Rattle.run_model.specs.records_model.History.{LiveChanges, changes_by, changes_key, same_id, changed_it}
use Rattle.run_model.specs.unit_laws.Units.{moves_end}
use Rattle.run_model.specs.unit_laws.Journal.{JournalEntry, RecoveryUnit, find_unit, serial_in, units_in, Journal}
use Rattle.run_model.specs.unit_laws.JournalLaws.{is_unit}
use Rattle.run_model.specs.commit_protocol.Messages.{LogRecord}
use Rattle.run_model.specs.commit_protocol.Table.{Branch, Key as BranchKey, branches_of, cut, record_serials}
use Rattle.run_model.specs.commit_protocol.World.{In, undo_all}
use Rattle.run_model.proofs.commit_protocol.Lists.{told_key}
use Rattle.run_model.specs.log_laws.Slots.{prepared_of, records_in, committed_of, size}
use Rattle.run_model.specs.Locks.{Lock, holder, released}
use Rattle.run_model.specs.World.{Boots, ComesUp, File, IsPreparedUnit, Node, Shared, Volatile, acted, booted, find_file, next_moment, prepared_left, serials_of, tm_of, settled_file, settlement, IsReached, serial_of_image}
use Rattle.run_model.specs.Answers.{boot_rows, left_active, table_rows, unit_key, Row}
use Rattle.run_model.specs.Steps.{node_after_rows, node_after}
use Rattle.run_model.specs.recovery_model.Journal as image
use Rattle.run_model.specs.commit_protocol.Allowed.{is_prepared}
use Rattle.world_laws.specs.Running.{AllFound, FileImages, IsDrawnImage, TellImages, IsDrawn, IsFileHeld, history_of}
use Rattle.world_laws.proofs.FileLemmas.{found_mapped}
use Rattle.world_laws.proofs.ImageLemmas.{images_more, images_settled}
use Rattle.world_laws.specs.Restarts.{HasRestarted, KeepFiles, KeepsFile, OnlyPrepared}
use Rattle.world_laws.proofs.IdLemmas.{id_is, id_itself, id_other}
use Rattle.world_laws.proofs.FindLemmas.{some_is, mapped_file}
use Rattle.world_laws.proofs.EntryLemmas.{all_more, all_settled}
use Rattle.world_laws.proofs.HeldLemmas.{noted_at}
use Rattle.world_laws.proofs.LeftLemmas.{left_by, left_end, left_held}
use Rattle.world_laws.proofs.RestartLemmas.{has_settled, restart_restores, undone_unit}
use Rattle.world_laws.proofs.UpLemmas.{same_up}
use Rattle.world_laws.proofs.BootLemmas.{boot_room, boot_table, branch_in, left_reordered, up, serials_again, IsReordered}
use Rattle.world_laws.proofs.UndoLemmas.{boot_kept, each_in, unsettled_left, all_active, all_onto}
use Rattle.world_laws.proofs.RunningLemmas.{changed_unit, keyed_some, moved_some}
use Rattle.world_laws.proofs.UnitSets.{active_unprepared, found_active, units_differ}
use Rattle.world_laws.proofs.TableLemmas.{same_serials}
use Rattle.run_model.proofs.commit_protocol.Serials.{serial_in as record_of_serial}
use Rattle.world_laws.proofs.LogLemmas.{found_unit}
use Rattle.vms_model.specs.Transactions.{SegFail, Abort}
use Rattle.std.specs.Option.{option_map}
use Rattle.std.specs.Str.{bytes_eq}
use Rattle.world_laws.specs.Nodes.{AreKept, IsKeptDisk, IsUp}

-- What undoing leaves of what a node has while it is up.

cut_nothing : (k : BranchKey) (bs : List Branch) → ((b : Branch) → In b bs → same_id b.key.serial k.serial ≡ false) → cut k bs ≡ bs
cut_nothing k [] f = refl
cut_nothing k (b ∷ bs) f = elim (told_key b.key k) [
  | inl q ↦ absurd (both_ways _ (f b (inl refl)) (subst (λ (j : BranchKey). same_id b.key.serial j.serial ≡ true) q.1 (id_itself b.key.serial)))
  | inr q ↦ rw (q.0) (ap (λ xs. b ∷ xs) (cut_nothing k bs (λ c i. f c (inr i))))
]

released_nothing : (x : Id) (ls : List Lock) → AllByRecursion (λ (l : Lock). same_id x l.by ≡ false) ls → released x ls ≡ ls
released_nothing x [] h = refl
released_nothing x (l ∷ ls) h = rw h.0 (ap (λ xs. l ∷ xs) (released_nothing x ls h.1))

-- units of none of these branches
abbrev AreNone : Volatile → List RecoveryUnit → Type 0
AreNone v us = AllByRecursion (λ (u : RecoveryUnit). ((b : Branch) → In b v.branches → same_id b.key.serial u.serial ≡ false) × AllByRecursion (λ (l : Lock). same_id u.serial l.by ≡ false) v.locks) us

same_volatile : (n : Node) (u : RecoveryUnit) → ((b : Branch) → In b n.volatile.branches → same_id b.key.serial u.serial ≡ false) → AllByRecursion (λ (l : Lock). same_id u.serial l.by ≡ false) n.volatile.locks → (undone_unit n u).volatile ≡ n.volatile
same_volatile n u f g =
    let bs = cut_nothing (unit_key u) n.volatile.branches f in
    let ls = released_nothing u.serial n.volatile.locks g in
    λ i. record n.volatile { branches = bs i; locks = ls i }

undo_volatile : (us : List RecoveryUnit) (s : Shared) (n : Node) → AreNone n.volatile us → (node_after_rows (table_rows (undo_all (map unit_key us)) s n) n).volatile ≡ n.volatile
undo_volatile [] s n h = refl
undo_volatile (u ∷ us) s n h =
    let same = same_volatile n u h.0.0 h.0.1 in
    undo_volatile us s (undone_unit n u) (subst (λ v. AreNone v us) (sym same) h.1) ∙ same

undo_name : (us : List RecoveryUnit) (s : Shared) (n : Node) → (node_after_rows (table_rows (undo_all (map unit_key us)) s n) n).name ≡ n.name
undo_name [] s n = refl
undo_name (u ∷ us) s n = undo_name us s (undone_unit n u)

undo_boot : (us : List RecoveryUnit) (s : Shared) (n : Node) → (node_after_rows (table_rows (undo_all (map unit_key us)) s n) n).durable.boot ≡ n.durable.boot
undo_boot [] s n = refl
undo_boot (u ∷ us) s n = undo_boot us s (undone_unit n u)

-- an active unit is of no prepared record
all_of : (P : RecoveryUnit → Type 0) (us : List RecoveryUnit) → ((u : RecoveryUnit) → is_some (find_unit u.serial us) ≡ true → P u) → AllByRecursion P us
all_of P [] f = tt
all_of P (u ∷ us) f = (f u (rw (id_itself u.serial) refl), all_of P us (λ v e. f v (go v (same_id v.serial u.serial) e)))
  where
    go : (v : RecoveryUnit) (b : Bool) → is_some (find_unit v.serial us) ≡ true → is_some (if b then Some u else find_unit v.serial us) ≡ true
    go v true e = refl
    go v false e = e

-- undoing makes no unit
undo_older : (us : List RecoveryUnit) (s : Shared) (o : Node) (x : Id) (u : RecoveryUnit) → find_unit x (units_in (node_after_rows (table_rows (undo_all (map unit_key us)) s o) o).durable.units.entries) ≡ Some u → find_unit x (units_in o.durable.units.entries) ≡ Some u
undo_older [] s o x u e = e
undo_older (v ∷ us) s o x u e = go (same_id x v.serial) refl (undo_older us s (undone_unit o v) x u e)
  where
    go : (t : Bool) → same_id x v.serial ≡ t → find_unit x (units_in (undone_unit o v).durable.units.entries) ≡ Some u → find_unit x (units_in o.durable.units.entries) ≡ Some u
    go true t f = absurd (both_ways _ (has_settled o v).gone (subst (λ y. is_unit y (undone_unit o v).durable.units ≡ true) (id_is x v.serial t) (ap is_some f)))
    go false t f = sym ((has_settled o v).others x t) ∙ f

module _ (s : Shared) (n : Node) (k : IsKeptDisk n) where
  restored : HasRestarted n.durable (node_after_rows (boot_rows s n) n).durable
  restored = restart_restores s n k.filed.can

  last_kept : (rs : List Row) (o : Node) → AreKept rs o → IsKeptDisk (node_after_rows rs o)
  last_kept [] o h = h
  last_kept (r ∷ rs) o h = last_kept rs (node_after r.act o) h.1

  kept : IsKeptDisk (node_after_rows (boot_rows s n) n)
  kept = last_kept (boot_rows s n) n (boot_kept s n k)

  none_of : (u : RecoveryUnit) → is_some (find_unit u.serial (left_active n)) ≡ true → (r : LogRecord) → In r (prepared_left n.durable) → same_id r.serial u.serial ≡ false
  none_of u e r i = false_from_ne_true _ (λ t. go (find_unit u.serial (units_in n.durable.units.entries)) refl t)
    where
      active : (v : RecoveryUnit) → find_unit u.serial (units_in n.durable.units.entries) ≡ Some v → v.prepared ≡ false
      active v f = active_unprepared (units_in n.durable.units.entries) u.serial v (units_differ n.durable.units.entries) e f

      go : (o : Option RecoveryUnit) → find_unit u.serial (units_in n.durable.units.entries) ≡ o → same_id r.serial u.serial ≡ true → ⊥
      go (Some v) f t = both_ways _ (active v f) (k.log.active r v ((left_reordered n.durable k.log.distinct).there r i) (ap (λ y. find_unit y (units_in n.durable.units.entries)) (id_is r.serial u.serial t) ∙ f)).0
      go None f t = let clash : true ≡ false = sym e ∙ missing in let never : ⊥ = cc in never
        where
          missing : is_some (find_unit u.serial (left_active n)) ≡ false
          missing = false_from_ne_true _ (λ g. both_ways _ (ap is_some f) (found_active (units_in n.durable.units.entries) u.serial g))

  volatile_is : (node_after_rows (boot_rows s n) n).volatile ≡ booted n.durable
  volatile_is = undo_volatile (left_active n) s (acted Boots n) (all_of _ (left_active n) (λ u e. (
    (λ b i. let r = branch_in (prepared_left n.durable) b i in subst (λ (c : Branch). same_id c.key.serial u.serial ≡ false) (sym r.2) (none_of u e r.0 r.1)),
    all_more (λ (l : Lock). In l.by (record_serials (prepared_left n.durable))) (λ (l : Lock). same_id u.serial l.by ≡ false) (booted n.durable).locks
        (λ l i. let r = record_of_serial l.by (prepared_left n.durable) i in id_other l.by u.serial (subst (λ y. same_id y u.serial ≡ false) r.2 (none_of u e r.0 r.1)))
        (left_by n.durable n.name k.filed (prepared_left n.durable) (unsettled_left n k.log)),
  )))

  name_is : (node_after_rows (boot_rows s n) n).name ≡ n.name
  name_is = undo_name (left_active n) s (acted Boots n)

  boot_is : (node_after_rows (boot_rows s n) n).durable.boot ≡ n.durable.boot + 1
  boot_is = undo_boot (left_active n) s (acted Boots n)

  log_is : (node_after_rows (boot_rows s n) n).durable.log ≡ n.durable.log
  log_is = restored.keeps.log

  reordered : IsReordered (prepared_left n.durable) (prepared_of (records_in (node_after_rows (boot_rows s n) n).durable.log))
  reordered = subst (λ ss. IsReordered (prepared_left n.durable) (prepared_of (records_in ss))) (sym log_is) (left_reordered n.durable k.log.distinct)

  drawn_id : (x : Id) → IsReached n x → IsDrawn (node_after_rows (boot_rows s n) n).name (node_after_rows (boot_rows s n) n).durable.boot 0 x
  drawn_id x r = subst (λ name. IsDrawn name (node_after_rows (boot_rows s n) n).durable.boot 0 x) (sym name_is) (subst (λ b. IsDrawn n.name b 0 x) (sym boot_is) (r.0, inl (omega arith)))

  drawn : (r : LogRecord) → In r (records_in (node_after_rows (boot_rows s n) n).durable.log) → IsDrawn (node_after_rows (boot_rows s n) n).name (node_after_rows (boot_rows s n) n).durable.boot 0 r.serial
  drawn r i = drawn_id r.serial (each_in (λ (q : LogRecord). IsReached n q.serial) (records_in n.durable.log) k.log.reached r (subst (λ ss. In r (records_in ss)) log_is i))

  -- entries are of the boots before
  undo_entries : (P : Id → Type 0) (us : List RecoveryUnit) (o : Node) → AllByRecursion (λ (u : RecoveryUnit). P u.serial) us → AllByRecursion (λ (e : JournalEntry). P (serial_in e)) o.durable.units.entries → AllByRecursion (λ (e : JournalEntry). P (serial_in e)) (node_after_rows (table_rows (undo_all (map unit_key us)) s o) o).durable.units.entries
  undo_entries P [] o h e = e
  undo_entries P (u ∷ us) o h e = undo_entries P us (undone_unit o u) h.1 (all_settled (λ e. P (serial_in e)) u.tid u.serial Abort (next_moment o) o.durable.units e h.0)

  entries : AllByRecursion (λ (e : JournalEntry). IsDrawn (node_after_rows (boot_rows s n) n).name (node_after_rows (boot_rows s n) n).durable.boot 0 (serial_in e)) (node_after_rows (boot_rows s n) n).durable.units.entries
  entries = all_more (λ (e : JournalEntry). IsReached n (serial_in e)) (λ (e : JournalEntry). IsDrawn (node_after_rows (boot_rows s n) n).name (node_after_rows (boot_rows s n) n).durable.boot 0 (serial_in e)) _ (λ e r. drawn_id (serial_in e) r)
      (undo_entries (IsReached n) (left_active n) (acted Boots n)
      (all_active (λ (u : RecoveryUnit). IsReached n u.serial) (units_in n.durable.units.entries) (all_onto (IsReached n) n.durable.units.entries [] k.filed.reached tt)) k.filed.reached)

  -- and so are those of journals of images
  undo_images : (P : Id → Type 0) (us : List RecoveryUnit) (o : Node) → AllByRecursion (λ (u : RecoveryUnit). P u.serial) us → AllFound (FileImages (λ e. P (serial_of_image e))) o.durable.directory →
      AllFound (FileImages (λ e. P (serial_of_image e))) (node_after_rows (table_rows (undo_all (map unit_key us)) s o) o).durable.directory
  undo_images P [] o h e = e
  undo_images P (u ∷ us) o h e =
      let t = settlement (unit_key u) Abort SegFail (next_moment o) in
      undo_images P us (undone_unit o u) h.1 (found_mapped (FileImages (λ e. P (serial_of_image e))) (FileImages (λ e. P (serial_of_image e))) (settled_file t) o.durable.directory (λ f. refl)
      (λ file f found k. images_settled (λ e. P (serial_of_image e)) (changed_it f.history t.serial) t f.carried h.0 k) e)

  -- all branches are prepared
  images : TellImages (node_after_rows (boot_rows s n) n).name (node_after_rows (boot_rows s n) n).durable.boot 0 (branches_of (prepared_left n.durable)) (node_after_rows (boot_rows s n) n).durable.directory
  images = record {
    drawn = λ file f e. images_more (λ (x : image.Entry). IsReached n (serial_of_image x)) (IsDrawnImage (node_after_rows (boot_rows s n) n).name (node_after_rows (boot_rows s n) n).durable.boot 0) f.carried (λ x r. drawn_id (serial_of_image x) r)
        (undo_images (IsReached n) (left_active n) (acted Boots n) (all_active (λ (u : RecoveryUnit). IsReached n u.serial) (units_in n.durable.units.entries) (all_onto (IsReached n) n.durable.units.entries [] k.filed.reached tt))
        (λ file f e. let q = k.filed.images file f e in record { after = q.after_reached; before = q.before_reached }) file f e);
    unsettled = λ b i state. let r = branch_in (prepared_left n.durable) b i in absurd (both_ways _ state (ap (λ (c : Branch). is_prepared c.state) r.2));
  }

  -- a file that is found then was found before, with what prepared branches changed
  record IsOld (f : File) (file : List ℕ) : Type 0 where
    old : File
    found : find_file file n.durable.directory ≡ Some old
    keeps : KeepsFile n.durable.units old f
    organization : f.organization ≡ old.organization

  undo_files : (us : List RecoveryUnit) (o : Node) (file : List ℕ) (f : File) → find_file file (node_after_rows (table_rows (undo_all (map unit_key us)) s o) o).durable.directory ≡ Some f → (g : File) × (find_file file o.durable.directory ≡ Some g) × (f.organization ≡ g.organization)
  undo_files [] o file f e = (f, e, refl)
  undo_files (u ∷ us) o file f e =
      let r = undo_files us (undone_unit o u) file f e in
      let t = at r.0 (find_file file o.durable.directory) refl (sym (mapped_file file (settled_file (settlement (unit_key u) Abort SegFail (next_moment o))) o.durable.directory (λ g. refl)) ∙ r.1) in
      (t.0, t.1, r.2 ∙ t.2)
    where
      at : (g : File) (q : Option File) → find_file file o.durable.directory ≡ q → option_map (settled_file (settlement (unit_key u) Abort SegFail (next_moment o))) q ≡ Some g →
          (h : File) × (find_file file o.durable.directory ≡ Some h) × (g.organization ≡ h.organization)
      at g (Some h) found k = (h, found, ap (λ (w : File). w.organization) (sym (some_is _ g k)))
      at g None found k = let none : ⊥ = cc in absurd none

  kept_file : (fs gs : List (Option File)) (file : List ℕ) (f : File) → KeepFiles n.durable.units fs gs → find_file file gs ≡ Some f → (g : File) × (find_file file fs ≡ Some g) × KeepsFile n.durable.units g f
  kept_file [] [] file f h e = let none : ⊥ = cc in absurd none
  kept_file [] (g ∷ gs) file f h e = absurd h
  kept_file (None ∷ fs) [] file f h e = absurd h
  kept_file (None ∷ fs) (None ∷ gs) file f h e = kept_file fs gs file f h e
  kept_file (None ∷ fs) (Some g ∷ gs) file f h e = absurd h
  kept_file (Some x ∷ fs) [] file f h e = absurd h
  kept_file (Some x ∷ fs) (None ∷ gs) file f h e = absurd h
  kept_file (Some x ∷ fs) (Some y ∷ gs) file f h e = go (bytes_eq file y.name) refl e (kept_file fs gs file f h.1)
    where
      name : (b : Bool) → bytes_eq file y.name ≡ b → bytes_eq file x.name ≡ b
      name b t = ap (bytes_eq file) (sym h.0.name) ∙ t

      go : (b : Bool) → bytes_eq file y.name ≡ b → ◌≡◌ {A = Option File} (if b then Some y else find_file file gs) (Some f) → (find_file file gs ≡ Some f → (g : File) × (find_file file fs ≡ Some g) × KeepsFile n.durable.units g f) →
          (g : File) × (find_file file (Some x ∷ fs) ≡ Some g) × KeepsFile n.durable.units g f
      go true t k more = (x, (rw (name true t) refl), subst (KeepsFile n.durable.units x) (some_is y f k) h.0)
      go false t k more = let r = more k in (r.0, (rw (name false t) r.1), r.2)

  old_file : (file : List ℕ) (f : File) → find_file file (node_after_rows (boot_rows s n) n).durable.directory ≡ Some f → IsOld f file
  old_file file f e =
      let r = kept_file n.durable.directory (node_after_rows (boot_rows s n) n).durable.directory file f restored.keeps.files e in
      let q = undo_files (left_active n) (acted Boots n) file f e in
      record { old = r.0; found = r.1; keeps = r.2; organization = q.2 ∙ ap (λ (w : File). w.organization) (some_is q.0 r.0 (sym q.1 ∙ r.1)) }

  only_found : (units : Journal) (fs : List (Option File)) (file : List ℕ) (f : File) → OnlyPrepared units fs → find_file file fs ≡ Some f → AllByRecursion (λ (l : LiveChanges). IsPreparedUnit units l.serial) f.history.live
  only_found units [] file f h e = let none : ⊥ = cc in absurd none
  only_found units (None ∷ fs) file f h e = only_found units fs file f h e
  only_found units (Some g ∷ fs) file f h e = go (bytes_eq file g.name) e (only_found units fs file f h.1)
    where
      go : (b : Bool) → ◌≡◌ {A = Option File} (if b then Some g else find_file file fs) (Some f) → (find_file file fs ≡ Some f → AllByRecursion (λ (l : LiveChanges). IsPreparedUnit units l.serial) f.history.live) → AllByRecursion (λ (l : LiveChanges). IsPreparedUnit units l.serial) f.history.live
      go true k more = subst (λ (w : File). AllByRecursion (λ (l : LiveChanges). IsPreparedUnit units l.serial) w.history.live) (some_is g f k) h.0
      go false k more = more k

  -- a branch with changes in a file was prepared before
  record WasPrepared (x : Id) : Type 0 where
    entry : LogRecord
    there : In entry (prepared_left n.durable)
    serial : entry.serial ≡ x
    unit : IsPreparedUnit n.durable.units x

  was_prepared : (x : Id) → is_unit x (node_after_rows (boot_rows s n) n).durable.units ≡ true → WasPrepared x
  was_prepared x e = go (find_unit x (units_in (node_after_rows (boot_rows s n) n).durable.units.entries)) refl e
    where
      go : (o : Option RecoveryUnit) → find_unit x (units_in (node_after_rows (boot_rows s n) n).durable.units.entries) ≡ o → is_some o ≡ true → WasPrepared x
      go (Some u) f g =
          let r = kept.log.prepared x u f (restored.units x u f) in
          let serial = r.2 ∙ found_unit x (units_in (node_after_rows (boot_rows s n) n).durable.units.entries) u f in
          record { entry = r.0; there = reordered.back r.0 r.1; serial = serial; unit = (u, undo_older (left_active n) s (acted Boots n) x u f, restored.units x u f) }
      go None f g = let none : ⊥ = cc in absurd none

  -- the node as it comes up
  abbrev now : Node
  now = up (node_after_rows (boot_rows s n) n) kept.log (prepared_left n.durable) reordered drawn restored.units (booted n.durable).preparation (booted n.durable).locks

  held_there : (file : List ℕ) (x : Id) (key : Key) → changes_key key (changes_by x (history_of (find_file file (node_after_rows (boot_rows s n) n).durable.directory)).live) ≡ true → holder (booted n.durable).locks file key ≡ Some x
  held_there file x key c = go (find_file file (node_after_rows (boot_rows s n) n).durable.directory) refl c
    where
      go : (o : Option File) → find_file file (node_after_rows (boot_rows s n) n).durable.directory ≡ o → changes_key key (changes_by x (history_of o).live) ≡ true → holder (booted n.durable).locks file key ≡ Some x
      go (Some f) e c =
          let d = noted_at (node_after_rows (boot_rows s n) n).durable.units file (node_after_rows (boot_rows s n) n).durable.directory f kept.filed.can e in
          let w = was_prepared x (changed_unit (node_after_rows (boot_rows s n) n).durable.units x f.history.live d.units (keyed_some key (changes_by x f.history.live) c)) in
          let q = old_file file f e in
          let changed = subst (λ cs. changes_key key cs ≡ true) (q.keeps.prepared x w.unit) c in
          subst (λ y. holder (booted n.durable).locks file key ≡ Some y) w.serial
          (left_held n.durable n.name k.filed (prepared_left n.durable) (unsettled_left n k.log) w.entry w.there (subst (λ y. is_unit y n.durable.units ≡ true) (sym w.serial) (ap is_some w.unit.1)) q.old file q.found key
          (subst (λ y. changes_key key (changes_by y q.old.history.live) ≡ true) (sym w.serial) changed))
      go None e c = let none : ⊥ = cc in absurd none

  file_there : (file : List ℕ) (f : File) → find_file file (node_after_rows (boot_rows s n) n).durable.directory ≡ Some f → IsFileHeld (booted n.durable).locks (node_after_rows (boot_rows s n) n).durable.units file f
  file_there file f e = record {
    end = λ is x m.
        let d = noted_at (node_after_rows (boot_rows s n) n).durable.units file (node_after_rows (boot_rows s n) n).durable.directory f kept.filed.can e in
        let w = was_prepared x (changed_unit (node_after_rows (boot_rows s n) n).durable.units x f.history.live d.units (moved_some (changes_by x f.history.live) m)) in
        let q = old_file file f e in
        let moved = subst (λ cs. moves_end cs ≡ true) (q.keeps.prepared x w.unit) m in
        subst (λ y. holder (booted n.durable).locks file End ≡ Some y) w.serial
        (left_end n.durable n.name k.filed (prepared_left n.durable) (unsettled_left n k.log) w.entry w.there (subst (λ y. is_unit y n.durable.units ≡ true) (sym w.serial) (ap is_some w.unit.1)) q.old file q.found (sym q.organization ∙ is)
        (subst (λ y. moves_end (changes_by y q.old.history.live) ≡ true) (sym w.serial) moved));
    marked = λ g. only_found (node_after_rows (boot_rows s n) n).durable.units (node_after_rows (boot_rows s n) n).durable.directory file f restored.only e;
  }

  now_up : IsUp now
  now_up = record {
    filed = kept.filed;
    slots = kept.log.slots;
    table = boot_table (node_after_rows (boot_rows s n) n) kept.log (prepared_left n.durable) reordered drawn restored.units (booted n.durable).preparation (booted n.durable).locks;
    running = record { drawn = entries; held = held_there; unnoted = kept.unnoted; images = images };
    holding = record {
      by = all_more (λ (l : Lock). In l.by (record_serials (prepared_left n.durable))) (λ (l : Lock). In l.by (serials_of (branches_of (prepared_left n.durable)))) (booted n.durable).locks
          (λ l i. subst (In l.by) (sym (same_serials (branches_of (prepared_left n.durable)) ∙ serials_again (prepared_left n.durable))) i)
          (left_by n.durable n.name k.filed (prepared_left n.durable) (unsettled_left n k.log));
      files = file_there;
      few_locks = k.few;
    };
  }

  pub come_up : IsUp (acted ComesUp (node_after_rows (boot_rows s n) n))
  come_up = same_up now (acted ComesUp (node_after_rows (boot_rows s n) n)) refl refl
      (volatile_is ∙ (λ i. record (booted n.durable) { records = committed_of (records_in (sym log_is i)) })) now_up

  pub come_room : size (tm_of (acted ComesUp (node_after_rows (boot_rows s n) n))) ≤ length (acted ComesUp (node_after_rows (boot_rows s n) n)).durable.log
  come_room = subst (λ (v : Volatile). length v.branches + length v.records ≤ length (node_after_rows (boot_rows s n) n).durable.log)
      (sym (volatile_is ∙ (λ i. record (booted n.durable) { records = committed_of (records_in (sym log_is i)) })))
      (boot_room (node_after_rows (boot_rows s n) n) kept.log (prepared_left n.durable) reordered drawn restored.units (booted n.durable).preparation (booted n.durable).locks)
