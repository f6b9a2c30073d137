-- What holds of a node that is up, within a row of acts and between rows, act by act.
use Rattle.std.proofs.Common.{◌≡◌, ◌≤◌, ℕ, ◌+◌, List, [], ◌∷◌, ◌++◌, length, Bool, true, false, Option, Some, None, if◌then◌else◌, refl, sym, ◌∙◌, ap, subst, arith, inl, inr}
use Rattle.std.specs.FinMap.{get}
use Rattle.std.specs.List.{AllByRecursion}
use Rattle.vms_model.specs.Ids.{Id}
use Rattle.vms_model.specs.Keys.{Key, End}
use Rattle.vms_model.specs.Limits.{lock_limit}
use Rattle.run_model.specs.records_model.Records.{Change, Records}
use Rattle.run_model.specs.records_model.History.{LiveChanges, same_id, changes_by, settled_at, changed_with, changed_it}
use Rattle.run_model.specs.unit_laws.Units.{moves_end}
use Rattle.run_model.specs.unit_laws.Journal.{RecoveryUnit, entries_for, find_unit, serial_in, units_in}
use Rattle.run_model.proofs.unit_laws.NoteLemmas.{changes_elsewhere_keep_notes}
use Rattle.run_model.specs.commit_protocol.Messages.{LogRecord, Name}
use Rattle.run_model.specs.commit_protocol.Table as table
use Rattle.run_model.specs.commit_protocol.Table.{Branch, Key as BranchKey, Notes, Accepts, Prepares, Settles, Leaves, Acknowledges, Releases, Undoes, Sends, Prints, Prepared, after_act, branch_serials, find, prepared_records, put, record_serials, records_after, table_after}
use Rattle.run_model.specs.commit_protocol.Allowed.{is_prepared}
use Rattle.run_model.specs.commit_protocol.Agreement.{Distinct}
use Rattle.run_model.specs.commit_protocol.Limits.{BranchWithin}
use Rattle.run_model.specs.commit_protocol.World.{In}
use Rattle.run_model.proofs.commit_protocol.Lists.{in_left}
use Rattle.run_model.proofs.commit_protocol.Serials.{keyed, parts_apart}
use Rattle.run_model.specs.Locks.{Lock, not_locked, with_locks, is_locked}
use Rattle.run_model.specs.World.{Changes, Creates, Declares, Directs, Draws, File, Holds, IsPreparedUnit, Mark, Marks, Saves, Recovers, Node, Sequential, Settlement, acted, find_file, serials_of, tm_of, with_changed, Durable, Volatile, directly_changed, changed_file, marked_file, recovered_file, saved_file, with_file, with_images}
use Rattle.run_model.specs.recovery_model.Journal as image
use Rattle.std.specs.Prelude.{slice_set}
use Rattle.world_laws.specs.Running.{AllImages, FileImages, IsDrawn, TellTable, no_history, IsFileHeld}
use Rattle.world_laws.proofs.ImageLemmas.{images_changed, images_marked, images_recovered, images_settled}
use Rattle.world_laws.proofs.ToldImages.{tell_changed, tell_files, tell_more}
use Rattle.world_laws.proofs.EntryLemmas.{all_append, all_entered, all_more, all_trimmed}
use Rattle.world_laws.proofs.FileLemmas.{found_changed, found_placed}
use Rattle.world_laws.proofs.DirectLemmas.{trim_noted, live_same, none_of}
use Rattle.world_laws.proofs.DiskLemmas.{IsSafe, disk_acted}
use Rattle.world_laws.proofs.HeldLemmas.{IsFreeFor, noted_at}
use Rattle.world_laws.proofs.RunningLemmas.{by_locks, files_directed, files_entered, files_more, held_changed, held_more, held_placed, held_same, locks_length, none_after}
use Rattle.world_laws.proofs.TableLemmas.{in_serials, same_serials, changed_serials, in_changed, length_changed, one_branch}
use Rattle.world_laws.proofs.ToldLemmas.{UnitsTell, changed_tell, trimmed_tell, id_apart}
use Rattle.std.specs.Str.{bytes_eq}
use Rattle.world_laws.proofs.FindLemmas.{placed_file, some_is}
use Rattle.run_model.proofs.log_laws.Slotting.{same_tells}
use Rattle.world_laws.specs.Nodes.{IsFiled, IsOf, IsUp}

-- Ids.

pub drawn_more : (name : List ℕ) (boot drawn : ℕ) (x : Id) → IsDrawn name boot drawn x → IsDrawn name boot (drawn + 1) x
drawn_more name boot drawn x d = (d.0, elim d.1 [ inl earlier ↦ inl earlier | inr here ↦ inr (here.0, omega arith) ])

pub drawn_of : (name : List ℕ) (boot drawn : ℕ) (x : Id) → IsDrawn name boot drawn x → IsOf name boot x
drawn_of name boot drawn x d = (d.0, elim d.1 [ inl earlier ↦ omega arith | inr here ↦ omega arith ])

module _ (n : Node) (t : TellTable n) where
  pub branch_drawn : (x : Id) → In x (branch_serials n.volatile.branches) → IsDrawn n.name n.durable.boot n.volatile.drawn x
  branch_drawn x i = t.drawn x (in_left x (branch_serials n.volatile.branches) (record_serials n.volatile.records) i)

  pub differ : Distinct (branch_serials n.volatile.branches)
  differ = (parts_apart (branch_serials n.volatile.branches) (record_serials n.volatile.records) t.apart).one

  pub tells : UnitsTell n.volatile.branches n.durable.units
  tells = record { branches = t.branches; units = t.units; entries = t.entries }

-- Acts that leave table and journal.

pub created_up : (place : ℕ) (f : File) (n : Node) → IsSafe (Creates place f) n.name n.durable → find_file f.name n.durable.directory ≡ None → ((P : image.Entry → Type 0) → AllImages P f.carried) → IsUp n → IsUp (acted (Creates place f) n)
created_up place f n safe none bare h = record {
  filed = disk_acted (Creates place f) n.name n.volatile n.durable safe h.filed;
  slots = h.slots;
  table = record { log = h.table.log; apart = h.table.apart; limits = h.table.limits; drawn = h.table.drawn; branches = h.table.branches; units = h.table.units; entries = h.table.entries };
  running = record {
    drawn = h.running.drawn;
    held = held_placed n.volatile.locks n.durable.directory h.running.held f place safe.0 none safe.3;
    unnoted = λ name e. h.running.unnoted name (before name (bytes_eq name f.name) (sym (placed_file name f n.durable.directory place safe.3 none) ∙ e));
    images = tell_files n.name n.durable.boot n.volatile.drawn n.volatile.branches n.durable.directory (slice_set n.durable.directory place (Some f)) (λ P. Unit {0})
        (λ P p. found_placed (FileImages P) f n.durable.directory place none safe.3 (bare P)) tt (λ b i state. tt) h.running.images;
  };
  holding = record {
    by = h.holding.by;
    files = found_placed (IsFileHeld n.volatile.locks n.durable.units) f n.durable.directory place none safe.3 (record {
      end = λ is x m. let none : moves_end (changes_by x []) ≡ true = subst (λ (ls : List LiveChanges). moves_end (changes_by x ls) ≡ true) safe.0 m in let never : ⊥ = cc in absurd never;
      marked = λ e. subst (AllByRecursion (λ (l : LiveChanges). IsPreparedUnit n.durable.units l.serial)) (sym safe.0) tt;
    }) h.holding.files;
    few_locks = h.holding.few_locks;
  };
}
  where
    before : (name : List ℕ) (b : Bool) → ◌≡◌ {A = Option File} (if b then Some f else find_file name n.durable.directory) None → find_file name n.durable.directory ≡ None
    before name true k = let none : ⊥ = cc in absurd none
    before name false k = k

-- one file is changed, of whose unsettled branches the change sees nothing
changed_up : (file : List ℕ) (change : File → File) (n : Node) → ((f : File) → (change f).name ≡ f.name) → ((f : File) → (change f).history.live ≡ f.history.live) → ((f : File) → (change f).organization ≡ f.organization) →
    ((f : File) → find_file file n.durable.directory ≡ Some f → f.history.live ≡ []) → ((P : image.Entry → Type 0) (f : File) → AllImages P f.carried → AllImages P (change f).carried) →
    IsFiled n.name (record n.durable { directory = with_file file change n.durable.directory }) → IsUp n →
    IsUp (record n { durable = record n.durable { directory = with_file file change n.durable.directory } })
changed_up file change n named live same rests images filed h = record {
  filed = filed;
  slots = h.slots;
  table = record { log = h.table.log; apart = h.table.apart; limits = h.table.limits; drawn = h.table.drawn; branches = h.table.branches; units = h.table.units; entries = h.table.entries };
  running = record {
    drawn = h.running.drawn;
    held = held_same n.volatile.locks n.durable.directory h.running.held file change named (λ f found. live f);
    unnoted = λ name e. h.running.unnoted name (none_after name file change n.durable.directory named e);
    images = tell_files n.name n.durable.boot n.volatile.drawn n.volatile.branches n.durable.directory (with_file file change n.durable.directory) (λ P. Unit {0})
        (λ P p. found_changed (FileImages P) (FileImages P) file change n.durable.directory named (λ f found k. images P f k) (λ other f k. k)) tt (λ b i state. tt) h.running.images;
  };
  holding = record {
    by = h.holding.by;
    files = found_changed (IsFileHeld n.volatile.locks n.durable.units) (IsFileHeld n.volatile.locks n.durable.units) file change n.durable.directory named
        (λ f found k. record {
          end = λ is x m. k.end (sym (same f) ∙ is) x (subst (λ (ls : List LiveChanges). moves_end (changes_by x ls) ≡ true) (live f) m);
          marked = λ e. subst (AllByRecursion (λ (l : LiveChanges). IsPreparedUnit n.durable.units l.serial)) (sym (live f ∙ rests f found)) tt;
        }) (λ other f k. k) h.holding.files;
    few_locks = h.holding.few_locks;
  };
}

module _ (file : List ℕ) (n : Node) (rests : (f : File) → find_file file n.durable.directory ≡ Some f → f.history.live ≡ []) (h : IsUp n) where
  pub marked_up : (mark : Mark) → IsUp (acted (Marks file mark) n)
  marked_up mark = changed_up file (marked_file mark n.durable.greatest) n (λ f. refl) (λ f. refl) (λ f. refl) rests (λ P f. images_marked P mark n.durable.greatest f.carried)
      (disk_acted (Marks file mark) n.name n.volatile n.durable rests h.filed) h

  pub saved_up : (start : ℕ) → IsUp (acted (Saves file start) n)
  saved_up start = changed_up file (saved_file start n.durable.greatest) n (λ f. refl) (λ f. refl) (λ f. refl) rests (λ P f k. record { after = k.after; before = k.before })
      (disk_acted (Saves file start) n.name n.volatile n.durable rests h.filed) h

  pub recovered_up : (start buckets : ℕ) (m : Records) → get m End ≡ None → IsUp (acted (Recovers file start buckets m) n)
  recovered_up start buckets m absent =
      changed_up file (recovered_file start buckets m n.durable.greatest) n (λ f. refl) (λ f. refl) (λ f. refl) rests (λ P f. images_recovered P n.durable.greatest f.carried) (disk_acted (Recovers file start buckets m) n.name n.volatile n.durable (rests, absent) h.filed) h

pub drew_up : (n : Node) → IsUp n → IsUp (acted Draws n)
drew_up n h = record {
  filed = h.filed;
  slots = h.slots;
  table = record { log = h.table.log; apart = h.table.apart; limits = h.table.limits; drawn = λ x i. drawn_more n.name n.durable.boot n.volatile.drawn x (h.table.drawn x i); branches = h.table.branches; units = h.table.units; entries = h.table.entries };
  running = record {
    drawn = all_more (λ e. IsDrawn n.name n.durable.boot n.volatile.drawn (serial_in e)) (λ e. IsDrawn n.name n.durable.boot (n.volatile.drawn + 1) (serial_in e)) n.durable.units.entries (λ e d. drawn_more n.name n.durable.boot n.volatile.drawn (serial_in e) d) h.running.drawn;
    held = h.running.held;
    unnoted = h.running.unnoted;
    images = tell_more n.name n.durable.boot n.volatile.drawn (n.volatile.drawn + 1) n.volatile.branches n.durable.directory (drawn_more n.name n.durable.boot n.volatile.drawn) h.running.images;
  };
  holding = record { by = h.holding.by; files = h.holding.files; few_locks = h.holding.few_locks };
}

-- acts of which disk and table see nothing
pub same_up : (n m : Node) → m.name ≡ n.name → m.durable ≡ n.durable → m.volatile ≡ n.volatile → IsUp n → IsUp m
same_up n m name durable volatile h = subst IsUp (λ i. record m { name = sym name i; durable = sym durable i; volatile = sym volatile i }) (again n.name n.durable n.volatile m h)
  where
    again : (a : List ℕ) (d : Durable) (v : Volatile) (m : Node) → IsUp n → IsUp (record m { name = n.name; durable = n.durable; volatile = n.volatile })
    again a d v m h = record {
      filed = h.filed;
      slots = h.slots;
      table = record { log = h.table.log; apart = h.table.apart; limits = h.table.limits; drawn = h.table.drawn; branches = h.table.branches; units = h.table.units; entries = h.table.entries };
      running = record { drawn = h.running.drawn; held = h.running.held; unnoted = h.running.unnoted; images = h.running.images };
      holding = record { by = h.holding.by; files = h.holding.files; few_locks = h.holding.few_locks };
    }

-- the managers that are declared are no matter of disk, table or locks
pub declared_up : (rms : List Name) (n : Node) → IsUp n → IsUp (acted (Declares rms) n)
declared_up rms n h = record {
  filed = h.filed;
  slots = h.slots;
  table = record { log = h.table.log; apart = h.table.apart; limits = h.table.limits; drawn = h.table.drawn; branches = h.table.branches; units = h.table.units; entries = h.table.entries };
  running = record { drawn = h.running.drawn; held = h.running.held; unnoted = h.running.unnoted; images = h.running.images };
  holding = record { by = h.holding.by; files = h.holding.files; few_locks = h.holding.few_locks };
}

-- how many keys a branch is to hold besides those that are held
abbrev pub HasLocks : Node → List ℕ → List Key → Type 0
HasLocks n file ks = length n.volatile.locks + length (not_locked n.volatile.locks file ks) ≤ lock_limit

pub held_up : (serial : Id) (file : List ℕ) (keys : List Key) (n : Node) → In serial (serials_of n.volatile.branches) → HasLocks n file keys → IsUp n → IsUp (acted (Holds serial file keys) n)
held_up serial file keys n i room h = record {
  filed = h.filed;
  slots = h.slots;
  table = record { log = h.table.log; apart = h.table.apart; limits = h.table.limits; drawn = h.table.drawn; branches = h.table.branches; units = h.table.units; entries = h.table.entries };
  running = record { drawn = h.running.drawn; held = held_more n.volatile.locks n.durable.directory h.running.held serial file keys; unnoted = h.running.unnoted; images = h.running.images };
  holding = record {
    by = by_locks (λ (l : Lock). In l.by (serials_of n.volatile.branches)) serial file keys n.volatile.locks (λ k. i) h.holding.by;
    files = files_more serial file keys n.volatile.locks n.durable.units n.durable.directory h.holding.files;
    few_locks = let more = locks_length serial file (not_locked n.volatile.locks file keys) n.volatile.locks in omega (arith, more, room);
  };
}

-- a branch of its own commits
pub directed_up : (file : List ℕ) (c : Change) (cs : List Change) (s : Settlement) (n : Node) → IsSafe (Directs file (c ∷ cs) s) n.name n.durable → IsDrawn n.name n.durable.boot (n.volatile.drawn + 1) s.serial →
    ((y : Id) → IsDrawn n.name n.durable.boot n.volatile.drawn y → y ≡ s.serial → ⊥) → IsUp n → IsUp (acted (Directs file (c ∷ cs) s) n)
directed_up file c cs s n safe next undrawn h =
    let u = trimmed_tell n.volatile.branches n.durable.units (differ n h.table) (tells n h.table) in
    let change = directly_changed (is_locked n.volatile.locks file) s (c ∷ cs) in
    record {
      filed = disk_acted (Directs file (c ∷ cs) s) n.name n.volatile n.durable safe h.filed;
      slots = h.slots;
      table = record { log = h.table.log; apart = h.table.apart; limits = h.table.limits; drawn = λ x i. drawn_more n.name n.durable.boot n.volatile.drawn x (h.table.drawn x i); branches = u.branches; units = u.units; entries = u.entries };
      running = record {
        drawn = all_trimmed (λ e. IsDrawn n.name n.durable.boot (n.volatile.drawn + 1) (serial_in e)) n.durable.units
            (all_more (λ e. IsDrawn n.name n.durable.boot n.volatile.drawn (serial_in e)) (λ e. IsDrawn n.name n.durable.boot (n.volatile.drawn + 1) (serial_in e)) n.durable.units.entries (λ e d. drawn_more n.name n.durable.boot n.volatile.drawn (serial_in e) d) h.running.drawn);
        held = held_same n.volatile.locks n.durable.directory h.running.held file change (λ f. refl) (λ f found. live f found);
        unnoted = λ name e. trim_noted n.durable.units name no_history (h.running.unnoted name (none_after name file change n.durable.directory (λ f. refl) e));
        images = tell_files n.name n.durable.boot (n.volatile.drawn + 1) n.volatile.branches n.durable.directory (with_file file change n.durable.directory)
            (λ P. ((key : Key) (v : Option (List ℕ)) → P (image.Changed s.serial key v)) × P (image.Settled s.serial s.outcome s.moment))
            (λ P p. found_changed (FileImages P) (FileImages P) file change n.durable.directory (λ f. refl)
            (λ f found k. images_settled P (changed_it (changed_with s.serial (c ∷ cs) f.history) s.serial) s (with_images s.tid s.serial (c ∷ cs) f.carried) p.1 (images_changed P s.tid s.serial (c ∷ cs) f.carried p.0 k)) (λ other f k. k))
            ((λ key v. next), next) (λ b i state. ((λ key v. tt), id_apart b.key.serial s.serial (undrawn b.key.serial (branch_drawn n h.table b.key.serial (in_serials b n.volatile.branches i)))))
            (tell_more n.name n.durable.boot n.volatile.drawn (n.volatile.drawn + 1) n.volatile.branches n.durable.directory (drawn_more n.name n.durable.boot n.volatile.drawn) h.running.images);
      };
      holding = record {
        by = h.holding.by;
        files = files_directed n.volatile.locks n.durable.units n.durable.directory h.filed.can file c cs s safe.0.fresh safe.3 h.holding.files;
        few_locks = h.holding.few_locks;
      };
    }
  where
    live : (f : File) → find_file file n.durable.directory ≡ Some f → (settled_at s.serial s.outcome s.moment (changed_with s.serial (c ∷ cs) f.history)).live ≡ f.history.live
    live f found =
        ap (λ o. (settled_at s.serial o s.moment (changed_with s.serial (c ∷ cs) f.history)).live) safe.3
        ∙ live_same s.serial c cs s.moment f.history (none_of n.durable.units s.serial f.history.live safe.0.fresh (noted_at n.durable.units file n.durable.directory f h.filed.can found).units)

-- a branch that is not prepared makes changes
pub entered_up : (b : Branch) (file : List ℕ) (cs : List Change) (keys : List Key) (n : Node) → In b n.volatile.branches → is_prepared b.state ≡ false → IsSafe (Changes b.key.tid b.key.serial file cs keys) n.name n.durable → (f : File) → find_file file n.durable.directory ≡ Some f →
    f.recovery_units ≡ true → AllByRecursion (λ (c : Change). In c.key keys × IsFreeFor n.volatile.locks file b.key.serial c.key) cs → (f.organization ≡ Sequential → moves_end cs ≡ true → In End keys × IsFreeFor n.volatile.locks file b.key.serial End) → HasLocks n file keys → IsUp n →
    IsUp (acted (Changes b.key.tid b.key.serial file cs keys) n)
entered_up b file cs keys n i state safe f found mark keyed ends room h =
    let bs = n.volatile.branches in
    let x = b.key.serial in
    let more = entries_for b.key.tid x file cs in
    let u = changed_tell bs n.durable.units (differ n h.table) (tells n h.table) b file cs i state safe.0.some in
    let same = changed_serials x bs in
    let in_bs : In x (serials_of bs) = subst (In x) (sym (same_serials bs)) (in_serials b bs i) in
    record {
      filed = disk_acted (Changes b.key.tid x file cs keys) n.name n.volatile n.durable safe h.filed;
      slots = h.slots;
      table = record {
        log = same_tells (tm_of n) (tm_of (acted (Changes b.key.tid x file cs keys) n)) n.durable.log (records_same bs) refl h.table.log;
        apart = subst (λ xs. Distinct (xs ++ record_serials n.volatile.records)) (sym same) h.table.apart;
        limits = record {
          branches = λ c k. elim (in_changed x c bs (differ n h.table) k) [
            | inl r ↦ subst BranchWithin (sym r.3) (h.table.limits.branches r.0 r.1)
            | inr r ↦ h.table.limits.branches c r.0
          ];
          records = h.table.limits.records;
          table = let l = length_changed x bs in let most = h.table.limits.table in omega (arith, l, most);
          log = let l = length_changed x bs in let most = h.table.limits.log in omega (arith, l, most);
        };
        drawn = λ y k. h.table.drawn y (subst (λ xs. In y (xs ++ record_serials n.volatile.records)) same k);
        branches = u.branches;
        units = u.units;
        entries = u.entries;
      };
      running = record {
        drawn = all_append (λ e. IsDrawn n.name n.durable.boot n.volatile.drawn (serial_in e)) n.durable.units.entries more h.running.drawn
            (all_entered (λ e. IsDrawn n.name n.durable.boot n.volatile.drawn (serial_in e)) b.key.tid x file cs (λ c. branch_drawn n h.table x (in_serials b bs i)));
        held = held_changed n.volatile.locks n.durable.directory h.running.held b.key.tid x file cs keys keyed;
        images = tell_changed n.name n.durable.boot n.volatile.drawn x bs (with_file file (changed_file (is_locked n.volatile.locks file) b.key.tid x cs) n.durable.directory) (differ n h.table)
            (tell_files n.name n.durable.boot n.volatile.drawn bs n.durable.directory (with_file file (changed_file (is_locked n.volatile.locks file) b.key.tid x cs) n.durable.directory) (λ P. (key : Key) (v : Option (List ℕ)) → P (image.Changed x key v))
            (λ P p. found_changed (FileImages P) (FileImages P) file (changed_file (is_locked n.volatile.locks file) b.key.tid x cs) n.durable.directory (λ f. refl) (λ f found k. images_changed P b.key.tid x cs f.carried p k) (λ other f k. k))
            (λ key v. branch_drawn n h.table x (in_serials b bs i)) (λ c j state key v. tt) h.running.images);
        unnoted = λ name e.
            let none = none_after name file (changed_file (is_locked n.volatile.locks file) b.key.tid x cs) n.durable.directory (λ f. refl) e in
            changes_elsewhere_keep_notes n.durable.units name file no_history b.key.tid x cs (h.running.unnoted name none) (λ same. clash (sym none ∙ ap (λ y. find_file y n.durable.directory) same ∙ found)) safe.0.unsettled;
      };
      holding = record {
        by = subst (λ xs. AllByRecursion (λ (l : Lock). In l.by xs) (with_locks x file keys n.volatile.locks)) (same_serials bs ∙ sym same ∙ sym (same_serials (with_changed x bs)))
            (by_locks (λ (l : Lock). In l.by (serials_of bs)) x file keys n.volatile.locks (λ k. in_bs) h.holding.by);
        files = files_entered b.key.tid x file cs keys n.volatile.locks n.durable.units n.durable.directory safe.0.some unprepared
            (λ g there. subst (λ (y : File). y.organization ≡ Sequential → moves_end cs ≡ true → In End keys × IsFreeFor n.volatile.locks file x End) (some_is f g (sym found ∙ there)) ends)
            (λ g there. ap (λ (y : File). y.recovery_units) (sym (some_is f g (sym found ∙ there))) ∙ mark) h.holding.files;
        few_locks = let l = locks_length x file (not_locked n.volatile.locks file keys) n.volatile.locks in omega (arith, l, room);
      };
    }
  where
    clash : ◌≡◌ {A = Option File} None (Some f) → ⊥
    clash e = let none : ⊥ = cc in none

    unprepared : (u : RecoveryUnit) → find_unit b.key.serial (units_in n.durable.units.entries) ≡ Some u → u.prepared ≡ false
    unprepared u e =
        let r = h.table.branches b.key.serial u e in
        let is : r.branch ≡ b = one_branch n.volatile.branches r.branch b (differ n h.table) r.there i r.serial in
        sym r.prepared ∙ ap (λ (c : Branch). is_prepared c.state) is ∙ state

    records_same : (bs : List Branch) → prepared_records (with_changed b.key.serial bs) ≡ prepared_records bs
    records_same [] = refl
    records_same (c ∷ cs) = go (same_id b.key.serial c.key.serial) (records_same cs)
      where
        again : (s : table.State) (rest : List LogRecord) → table.prepared_state (record c { changed = true }) s rest ≡ table.prepared_state c s rest
        again Prepared rest = refl
        again table.Joining rest = refl
        again table.Active rest = refl
        again table.Ending rest = refl
        again table.Voting rest = refl

        go : (t : Bool) → prepared_records (with_changed b.key.serial cs) ≡ prepared_records cs → prepared_records (if t then record c { changed = true } ∷ cs else c ∷ with_changed b.key.serial cs) ≡ table.prepared_state c c.state (prepared_records cs)
        go true more = again c.state (prepared_records cs)
        go false more = ap (table.prepared_state c c.state) more
