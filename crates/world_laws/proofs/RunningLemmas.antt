-- What holds of ids, entries and locks of a node while it is up, act by act.
use Rattle.std.proofs.Common.{◌≡◌, ◌≤◌, ℕ, suc, ◌+◌, List, [], ◌∷◌, ◌++◌, length, map, Bool, true, false, not, ◌||◌, Option, Some, None, if◌then◌else◌, refl, sym, ◌∙◌, ap, subst, arith, inl, inr}
use Rattle.std.specs.Prelude.{slice_set}
use Rattle.std.specs.List.{AllByRecursion}
use Rattle.std.specs.Str.{bytes_eq}
use Rattle.std.specs.Option.{is_none, option_map}
use Rattle.std.specs.Ordering.{eq_by_cmp}
use Rattle.std.proofs.lemmas.Bool.{and_from, both_ways, false_from_ne_true}
use Rattle.std.proofs.lemmas.List.Folds.{list_any-append}
use Rattle.std.proofs.lemmas.Slice.Eq.{bytes_eq-Decides}
use Rattle.vms_model.specs.Ids.{Id}
use Rattle.vms_model.specs.Keys.{Key, End}
use Rattle.vms_model.specs.Transactions.{Commit}
use Rattle.run_model.specs.records_model.Records.{Change, key_cmp}
use Rattle.run_model.specs.records_model.History.{LiveChanges, changed_with, changes_by, changes_key, same_id, settled_at, settled_with, with_changes, without}
use Rattle.run_model.proofs.records_model.RecordsLemmas.{same_key}
use Rattle.run_model.specs.unit_laws.Units.{SerialsDiffer, end_is_free, has_changes, moves_end}
use Rattle.run_model.specs.unit_laws.Journal.{Journal, PreparedEntry, RecoveryUnit, entries_for, find_unit, trimmed, units_in, with_entries, with_settled}
use Rattle.run_model.specs.unit_laws.JournalLaws.{HasNotes, HasSettled, is_unit}
use Rattle.run_model.proofs.unit_laws.LiveLemmas.{left_so, others_left}
use Rattle.run_model.proofs.unit_laws.NoteLemmas.{prepares_keep_notes}
use Rattle.run_model.proofs.unit_laws.TrimLemmas.{settles_unit, trim_keeps_units}
use Rattle.run_model.proofs.unit_laws.UnitLemmas.{changes_make_unit, prepares_unit}
use Rattle.run_model.specs.commit_protocol.Table.{Branch, Key as BranchKey, Prepares, branch_serials, cut, put}
use Rattle.run_model.specs.commit_protocol.World.{In}
use Rattle.run_model.proofs.commit_protocol.Lists.{told_key}
use Rattle.run_model.specs.Locks.{Lock, holder, is_locked, not_locked, released, with_locks}
use Rattle.run_model.specs.World.{File, IsPreparedUnit, Sequential, Settlement, changed_file, directly_changed, find_file, free_place, settled_file, with_file, with_prepared}
use Rattle.world_laws.specs.Restarts.{AllNoted}
use Rattle.world_laws.specs.Holding.{IsEndHeld}
use Rattle.world_laws.specs.Running.{AllFound, AreHeldIn, IsFileHeld, IsUnnoted, history_in, history_of, no_history}
use Rattle.world_laws.proofs.IdLemmas.{id_is, id_itself, id_other}
use Rattle.world_laws.proofs.FindLemmas.{mapped_file, placed_file, some_is}
use Rattle.world_laws.proofs.FileLemmas.{found_changed, found_mapped}
use Rattle.world_laws.proofs.HistoryLemmas.{by_settled, by_with_changes}
use Rattle.world_laws.proofs.EntryLemmas.{all_append, all_more}
use Rattle.world_laws.proofs.PlainLemmas.{own_settled}
use Rattle.world_laws.proofs.DirectLemmas.{live_same, none_of}
use Rattle.world_laws.proofs.HeldLemmas.{IsFreeFor, file_after, holder_left, holder_more, holder_own, noted_at}
use Rattle.world_laws.proofs.TableLemmas.{cut_in, in_serials, of_serial, own_in, put_in}

-- Serials of a table after an act.

pub put_serials : (b : Branch) (bs : List Branch) (x : Id) → In x (branch_serials bs) → In x (branch_serials (put b bs))
put_serials b bs x i =
    let r = of_serial x bs i in
    elim (told_key (r.branch).key b.key) [
      | inl q ↦ subst (λ y. In y (branch_serials (put b bs))) (ap (λ (k : BranchKey). k.serial) (sym q.1) ∙ r.serial) (in_serials b (put b bs) (own_in b bs))
      | inr q ↦ subst (λ y. In y (branch_serials (put b bs))) r.serial (in_serials r.branch (put b bs) (put_in b r.branch bs r.there q.1))
    ]

pub cut_serials : (k : BranchKey) (bs : List Branch) (x : Id) → In x (branch_serials bs) → (x ≡ k.serial → ⊥) → In x (branch_serials (cut k bs))
cut_serials k bs x i other =
    let r = of_serial x bs i in
    subst (λ y. In y (branch_serials (cut k bs))) r.serial (in_serials r.branch (cut k bs) (cut_in k r.branch bs r.there (λ e. other (sym r.serial ∙ ap (λ (z : BranchKey). z.serial) e))))

-- Locks after an act.

module _ (locks : List Lock) (fs : List (Option File)) (h : AreHeldIn locks fs) where
  -- a file more, which nobody changed
  pub held_placed : (f : File) (place : ℕ) → f.history.live ≡ [] → find_file f.name fs ≡ None → free_place fs ≡ Some place → AreHeldIn locks (slice_set fs place (Some f))
  held_placed f place live none free file x key c = go (bytes_eq file f.name) (subst (λ o. changes_key key (changes_by x (history_of o).live) ≡ true) (placed_file file f fs place free none) c)
    where
      go : (b : Bool) → changes_key key (changes_by x (history_of (if b then Some f else find_file file fs)).live) ≡ true → holder locks file key ≡ Some x
      go true k = let nobody : changes_key key (changes_by x []) ≡ true = subst (λ (ls : List LiveChanges). changes_key key (changes_by x ls) ≡ true) live k in let none : ⊥ = cc in absurd none
      go false k = h file x key k

  -- a file of which nothing was changed
  pub held_same : (other : List ℕ) (change : File → File) → ((f : File) → (change f).name ≡ f.name) → ((f : File) → find_file other fs ≡ Some f → (change f).history.live ≡ f.history.live) → AreHeldIn locks (with_file other change fs)
  held_same other change named same file x key c = go (bytes_eq other file) refl (subst (λ o. changes_key key (changes_by x (history_of o).live) ≡ true) (file_after file other change fs named) c)
    where
      old : (o : Option File) → find_file file fs ≡ o → other ≡ file → changes_key key (changes_by x (history_of (option_map change o)).live) ≡ true → changes_key key (changes_by x (history_of o).live) ≡ true
      old (Some f) found is k = subst (λ (ls : List LiveChanges). changes_key key (changes_by x ls) ≡ true) (same f (subst (λ y. find_file y fs ≡ Some f) (sym is) found)) k
      old None found is k = k

      go : (b : Bool) → bytes_eq other file ≡ b → changes_key key (changes_by x (history_of (if b then option_map change (find_file file fs) else find_file file fs)).live) ≡ true → holder locks file key ≡ Some x
      go true t k = h file x key (old (find_file file fs) refl ((bytes_eq-Decides other file).0 t) k)
      go false t k = h file x key k

  pub held_more : (serial : Id) (other : List ℕ) (keys : List Key) → AreHeldIn (with_locks serial other keys locks) fs
  held_more serial other keys file x key c = holder_more serial other keys locks file key x (h file x key c)

  key_in_changes : (P : Key → Type 0) (cs : List Change) (key : Key) → AllByRecursion (λ (c : Change). P c.key) cs → changes_key key cs ≡ true → P key
  key_in_changes P [] key a e = let none : ⊥ = cc in absurd none
  key_in_changes P (c ∷ cs) key a e = go (eq_by_cmp key_cmp key c.key) refl e (key_in_changes P cs key a.1)
    where
      go : (b : Bool) → eq_by_cmp key_cmp key c.key ≡ b → (b || changes_key key cs) ≡ true → (changes_key key cs ≡ true → P key) → P key
      go true t k more = subst P (sym (same_key key c.key t)) a.0
      go false t k more = more k

  -- changes of a branch, which holds their keys from then on
  pub held_changed : (tid serial : Id) (other : List ℕ) (cs : List Change) (keys : List Key) → AllByRecursion (λ (c : Change). In c.key keys × IsFreeFor locks other serial c.key) cs →
      AreHeldIn (with_locks serial other keys locks) (with_file other (changed_file (is_locked locks other) tid serial cs) fs)
  held_changed tid serial other cs keys a file x key c =
      go (bytes_eq other file) refl (subst (λ o. changes_key key (changes_by x (history_of o).live) ≡ true) (file_after file other (changed_file (is_locked locks other) tid serial cs) fs (λ f. refl)) c)
    where
      old : changes_key key (changes_by x (history_in file fs).live) ≡ true → holder (with_locks serial other keys locks) file key ≡ Some x
      old k = holder_more serial other keys locks file key x (h file x key k)

      mine : other ≡ file → x ≡ serial → changes_key key cs ≡ true → holder (with_locks serial other keys locks) file key ≡ Some x
      mine is it k =
          let r = key_in_changes (λ y. In y keys × IsFreeFor locks other serial y) cs key a k in
          subst (λ y. holder (with_locks serial other keys locks) y key ≡ Some x) is (subst (λ y. holder (with_locks serial other keys locks) other key ≡ Some y) (sym it) (holder_own serial other keys locks key r.0 r.1))

      either : other ≡ file → x ≡ serial → (a b : Bool) → changes_key key cs ≡ a → changes_key key (changes_by x (history_in file fs).live) ≡ b → (a || b) ≡ true → holder (with_locks serial other keys locks) file key ≡ Some x
      either is it true b p q e = mine is it p
      either is it false true p q e = old q
      either is it false false p q e = let none : ⊥ = cc in absurd none

      by : other ≡ file → (t : Bool) → same_id x serial ≡ t → changes_key key (if t then cs ++ changes_by x (history_in file fs).live else changes_by x (history_in file fs).live) ≡ true →
          holder (with_locks serial other keys locks) file key ≡ Some x
      by is true t k =
          either is (id_is x serial t) (changes_key key cs) (changes_key key (changes_by x (history_in file fs).live)) refl refl
          (sym (list_any-append (λ c. eq_by_cmp key_cmp key c.key) cs (changes_by x (history_in file fs).live)) ∙ k)
      by is false t k = old k

      changed : (o : Option File) → find_file file fs ≡ o → other ≡ file → changes_key key (changes_by x (history_of (option_map (changed_file (is_locked locks other) tid serial cs) o)).live) ≡ true →
          holder (with_locks serial other keys locks) file key ≡ Some x
      changed (Some f) found is k =
          by is (same_id x serial) refl (subst (λ o. changes_key key (if same_id x serial then cs ++ changes_by x (history_of o).live else changes_by x (history_of o).live) ≡ true) (sym found)
          (subst (λ ds. changes_key key ds ≡ true) (by_with_changes x serial cs f.history.live) k))
      changed None found is k = let none : ⊥ = cc in absurd none

      go : (b : Bool) → bytes_eq other file ≡ b → changes_key key (changes_by x (history_of (if b then option_map (changed_file (is_locked locks other) tid serial cs) (find_file file fs) else find_file file fs)).live) ≡ true →
          holder (with_locks serial other keys locks) file key ≡ Some x
      go true t k = changed (find_file file fs) refl ((bytes_eq-Decides other file).0 t) k
      go false t k = old k

  -- one branch is settled, and lets go of its keys
  pub held_settled : (s : Settlement) → ((file : List ℕ) → SerialsDiffer (history_in file fs).live) → AreHeldIn (released s.serial locks) (map (option_map (settled_file s)) fs)
  held_settled s differ file x key c = at (find_file file fs) refl (subst (λ o. changes_key key (changes_by x (history_of o).live) ≡ true) (mapped_file file (settled_file s) fs (λ f. refl)) c)
    where
      kept : (f : File) → find_file file fs ≡ Some f → (b : Bool) → same_id x s.serial ≡ b → changes_key key (changes_by x (settled_at s.serial s.outcome s.moment f.history).live) ≡ true → holder (released s.serial locks) file key ≡ Some x
      kept f found true t k =
          let own = own_settled s.serial s.outcome s.moment f.history (subst (λ o. SerialsDiffer (history_of o).live) found (differ file)) in
          let none : changes_key key [] ≡ true = subst (λ cs. changes_key key cs ≡ true) own (subst (λ y. changes_key key (changes_by y (settled_at s.serial s.outcome s.moment f.history).live) ≡ true) (id_is x s.serial t) k) in
          let never : ⊥ = cc in absurd never
      kept f found false t k =
          holder_left s.serial locks file key x (id_other x s.serial t)
          (h file x key (subst (λ o. changes_key key (changes_by x (history_of o).live) ≡ true) (sym found) (subst (λ cs. changes_key key cs ≡ true) (by_settled x s.serial s.outcome s.moment f.history t) k)))

      at : (o : Option File) → find_file file fs ≡ o → changes_key key (changes_by x (history_of (option_map (settled_file s) o)).live) ≡ true → holder (released s.serial locks) file key ≡ Some x
      at (Some f) found k = kept f found (same_id x s.serial) refl k
      at None found k = let none : ⊥ = cc in absurd none

-- Acts.

-- what is not found, once a file was changed, was not found before
pub none_after : (name other : List ℕ) (change : File → File) (fs : List (Option File)) → ((f : File) → (change f).name ≡ f.name) → find_file name (with_file other change fs) ≡ None → find_file name fs ≡ None
none_after name other change fs named e = go (bytes_eq other name) (find_file name fs) (sym (file_after name other change fs named) ∙ e)
  where
    go : (b : Bool) (o : Option File) → ◌≡◌ {A = Option File} (if b then option_map change o else o) None → o ≡ None
    go true (Some f) k = let none : ⊥ = cc in absurd none
    go true None k = refl
    go false o k = k

-- A branch that has changes in a file is a unit.

pub changed_unit : (units : Journal) (x : Id) (ls : List LiveChanges) → AllByRecursion (λ (l : LiveChanges). is_unit l.serial units ≡ true) ls → has_changes (changes_by x ls) ≡ true → is_unit x units ≡ true
changed_unit units x [] h e = let none : ⊥ = cc in absurd none
changed_unit units x (l ∷ ls) h e = go (same_id x l.serial) refl e (changed_unit units x ls h.1)
  where
    go : (t : Bool) → same_id x l.serial ≡ t → has_changes (if t then l.changes else changes_by x ls) ≡ true → (has_changes (changes_by x ls) ≡ true → is_unit x units ≡ true) → is_unit x units ≡ true
    go true t k more = subst (λ y. is_unit y units ≡ true) (sym (id_is x l.serial t)) h.0
    go false t k more = more k

pub keyed_some : (key : Key) (cs : List Change) → changes_key key cs ≡ true → has_changes cs ≡ true
keyed_some key [] e = let none : ⊥ = cc in absurd none
keyed_some key (c ∷ cs) e = refl

pub moved_some : (cs : List Change) → moves_end cs ≡ true → has_changes cs ≡ true
moved_some [] e = let none : ⊥ = cc in absurd none
moved_some (c ∷ cs) e = refl

-- Locks that a branch lets go of.

module _ (locks : List Lock) (units : Journal) (fs : List (Option File)) (noted : AllNoted units fs) where
  -- a branch that is no unit
  pub held_left : (serial : Id) → is_unit serial units ≡ false → AreHeldIn locks fs → AreHeldIn (released serial locks) fs
  held_left serial none h file x key c = holder_left serial locks file key x (id_other x serial (apart (find_file file fs) refl c)) (h file x key c)
    where
      apart : (o : Option File) → find_file file fs ≡ o → changes_key key (changes_by x (history_of o).live) ≡ true → same_id x serial ≡ false
      apart (Some f) found k = false_from_ne_true _
          (λ t. both_ways _ none (subst (λ y. is_unit y units ≡ true) (id_is x serial t) (changed_unit units x f.history.live (noted_at units file fs f noted found).units (keyed_some key (changes_by x f.history.live) k))))
      apart None found k = let never : ⊥ = cc in absurd never

  pub files_left : (serial : Id) → is_unit serial units ≡ false → AllFound (IsFileHeld locks units) fs → AllFound (IsFileHeld (released serial locks) units) fs
  files_left serial none h file f found = record {
    end = λ is x m. holder_left serial locks file End x (id_other x serial (false_from_ne_true _
        (λ t. both_ways _ none (subst (λ y. is_unit y units ≡ true) (id_is x serial t) (changed_unit units x f.history.live (noted_at units file fs f noted found).units (moved_some (changes_by x f.history.live) m))))))
        ((h file f found).end is x m);
    marked = (h file f found).marked;
  }

  -- a branch that is settled
  pub files_settled : (s : Settlement) → AllFound (IsFileHeld locks units) fs → AllFound (IsFileHeld (released s.serial locks) (with_settled s.tid s.serial s.outcome s.moment units)) (map (option_map (settled_file s)) fs)
  files_settled s h = found_mapped (IsFileHeld locks units) (IsFileHeld (released s.serial locks) (with_settled s.tid s.serial s.outcome s.moment units)) (settled_file s) fs (λ f. refl) kept h
    where
      gone : HasSettled s.serial units (with_settled s.tid s.serial s.outcome s.moment units)
      gone = settles_unit s.tid s.serial s.outcome s.moment units

      ended : (file : List ℕ) (f : File) → find_file file fs ≡ Some f → (x : Id) → (moves_end (changes_by x f.history.live) ≡ true → holder locks file End ≡ Some x) → (b : Bool) → same_id x s.serial ≡ b →
          moves_end (changes_by x (settled_at s.serial s.outcome s.moment f.history).live) ≡ true → holder (released s.serial locks) file End ≡ Some x
      ended file f found x k true t m =
          let own = own_settled s.serial s.outcome s.moment f.history (noted_at units file fs f noted found).differ in
          let none : moves_end [] ≡ true = subst (λ cs. moves_end cs ≡ true) own (subst (λ y. moves_end (changes_by y (settled_at s.serial s.outcome s.moment f.history).live) ≡ true) (id_is x s.serial t) m) in
          let never : ⊥ = cc in absurd never
      ended file f found x k false t m = holder_left s.serial locks file End x (id_other x s.serial t) (k (subst (λ cs. moves_end cs ≡ true) (by_settled x s.serial s.outcome s.moment f.history t) m))

      -- prepared units but for this branch
      others : (ls : List LiveChanges) → AllByRecursion (λ (l : LiveChanges). same_id l.serial s.serial ≡ false) ls → AllByRecursion (λ (l : LiveChanges). IsPreparedUnit units l.serial) ls →
          AllByRecursion (λ (l : LiveChanges). IsPreparedUnit (with_settled s.tid s.serial s.outcome s.moment units) l.serial) ls
      others [] a p = tt
      others (l ∷ ls) a p = ((p.0.0, gone.others l.serial a.0 ∙ p.0.1, p.0.2), others ls a.1 p.1)

      none_of_it : (ls : List LiveChanges) → AllByRecursion (λ (l : LiveChanges). has_changes l.changes ≡ true) ls → changes_by s.serial ls ≡ [] → AllByRecursion (λ (l : LiveChanges). same_id l.serial s.serial ≡ false) ls
      none_of_it [] h e = tt
      none_of_it (l ∷ ls) h e = go (same_id s.serial l.serial) refl e (none_of_it ls h.1)
        where
          go : (t : Bool) → same_id s.serial l.serial ≡ t → (if t then l.changes else changes_by s.serial ls) ≡ [] → (changes_by s.serial ls ≡ [] → AllByRecursion (λ (l : LiveChanges). same_id l.serial s.serial ≡ false) ls) →
              AllByRecursion (λ (l : LiveChanges). same_id l.serial s.serial ≡ false) (l ∷ ls)
          go true t k more = let some : has_changes [] ≡ true = subst (λ cs. has_changes cs ≡ true) k h.0 in let never : ⊥ = cc in absurd never
          go false t k more = (id_other s.serial l.serial t, more k)

      marks : (file : List ℕ) (f : File) → find_file file fs ≡ Some f → AllByRecursion (λ (l : LiveChanges). IsPreparedUnit units l.serial) f.history.live →
          AllByRecursion (λ (l : LiveChanges). IsPreparedUnit (with_settled s.tid s.serial s.outcome s.moment units) l.serial) (settled_at s.serial s.outcome s.moment f.history).live
      marks file f found p = go (changes_by s.serial f.history.live) refl
        where
          n : HasNotes units f.name f.history
          n = noted_at units file fs f noted found

          go : (cs : List Change) → changes_by s.serial f.history.live ≡ cs → AllByRecursion (λ (l : LiveChanges). IsPreparedUnit (with_settled s.tid s.serial s.outcome s.moment units) l.serial) (settled_with s.serial s.outcome s.moment cs f.history).live
          go [] is = others f.history.live (none_of_it f.history.live n.some is) p
          go (c ∷ cs) is = others (without s.serial f.history.live) (others_left s.serial f.history.live n.differ) (left_so (λ l. IsPreparedUnit units l.serial) s.serial f.history.live p)

      kept : (file : List ℕ) (f : File) → find_file file fs ≡ Some f → IsFileHeld locks units file f → IsFileHeld (released s.serial locks) (with_settled s.tid s.serial s.outcome s.moment units) file (settled_file s f)
      kept file f found k = record { end = λ is x m. ended file f found x (k.end is x) (same_id x s.serial) refl m; marked = λ e. marks file f found (k.marked e) }

  -- a branch of its own that commits at once
  pub files_directed : (file : List ℕ) (c : Change) (cs : List Change) (s : Settlement) → is_unit s.serial units ≡ false → s.outcome ≡ Commit → AllFound (IsFileHeld locks units) fs →
      AllFound (IsFileHeld locks (trimmed units)) (with_file file (directly_changed (is_locked locks file) s (c ∷ cs)) fs)
  files_directed file c cs s fresh commits h = found_changed (IsFileHeld locks units) (IsFileHeld locks (trimmed units)) file (directly_changed (is_locked locks file) s (c ∷ cs)) fs (λ f. refl) kept (λ other f k. record { end = k.end; marked = λ e. trims f.history.live (k.marked e) }) h
    where
      trims : (ls : List LiveChanges) → AllByRecursion (λ (l : LiveChanges). IsPreparedUnit units l.serial) ls → AllByRecursion (λ (l : LiveChanges). IsPreparedUnit (trimmed units) l.serial) ls
      trims [] p = tt
      trims (l ∷ ls) p = ((p.0.0, ap (find_unit l.serial) (trim_keeps_units units).units ∙ p.0.1, p.0.2), trims ls p.1)

      live : (f : File) → find_file file fs ≡ Some f → (settled_at s.serial s.outcome s.moment (changed_with s.serial (c ∷ cs) f.history)).live ≡ f.history.live
      live f found =
          ap (λ o. (settled_at s.serial o s.moment (changed_with s.serial (c ∷ cs) f.history)).live) commits
          ∙ live_same s.serial c cs s.moment f.history (none_of units s.serial f.history.live fresh (noted_at units file fs f noted found).units)

      kept : (f : File) → find_file file fs ≡ Some f → IsFileHeld locks units file f → IsFileHeld locks (trimmed units) file (directly_changed (is_locked locks file) s (c ∷ cs) f)
      kept f found k = record {
        end = λ is x m. k.end is x (subst (λ (ls : List LiveChanges). moves_end (changes_by x ls) ≡ true) (live f found) m);
        marked = λ e. subst (AllByRecursion (λ (l : LiveChanges). IsPreparedUnit (trimmed units) l.serial)) (sym (live f found)) (trims f.history.live (k.marked e));
      }

-- Other acts.

-- a branch is prepared
pub files_prepared : (locks : List Lock) (units : Journal) (fs : List (Option File)) (b : Branch) → AllFound (IsFileHeld locks units) fs → AllFound (IsFileHeld locks (with_prepared (Prepares b) units)) fs
files_prepared locks units fs b h file f found = record { end = (h file f found).end; marked = λ e. each f.history.live ((h file f found).marked e) }
  where
    still : (x : Id) → IsPreparedUnit units x → IsPreparedUnit (with_prepared (Prepares b) units) x
    still x p = go (find_unit b.key.serial (units_in units.entries)) refl
      where
        own : (u : RecoveryUnit) → find_unit b.key.serial (units_in units.entries) ≡ Some u → (t : Bool) → same_id x b.key.serial ≡ t → IsPreparedUnit (with_entries (PreparedEntry b.key.tid b.key.serial ∷ []) units) x
        own u is true t =
            let made = prepares_unit b.key.tid b.key.serial u units.entries is in
            (record u { prepared = true }, ap (λ y. find_unit y (units_in (units.entries ++ PreparedEntry b.key.tid b.key.serial ∷ []))) (id_is x b.key.serial t) ∙ made.own, refl)
        own u is false t = let made = prepares_unit b.key.tid b.key.serial u units.entries is in (p.0, made.others x t ∙ p.1, p.2)

        go : (o : Option RecoveryUnit) → find_unit b.key.serial (units_in units.entries) ≡ o → IsPreparedUnit (elim o [ Some u ↦ with_entries (PreparedEntry b.key.tid b.key.serial ∷ []) units | None ↦ units ]) x
        go (Some u) is = own u is (same_id x b.key.serial) refl
        go None is = p

    each : (ls : List LiveChanges) → AllByRecursion (λ (l : LiveChanges). IsPreparedUnit units l.serial) ls → AllByRecursion (λ (l : LiveChanges). IsPreparedUnit (with_prepared (Prepares b) units) l.serial) ls
    each [] p = tt
    each (l ∷ ls) p = (still l.serial p.0, each ls p.1)

pub unnoted_prepared : (name : List ℕ) (units : Journal) (b : Branch) → IsUnnoted name units → IsUnnoted name (with_prepared (Prepares b) units)
unnoted_prepared name units b h = go (find_unit b.key.serial (units_in units.entries))
  where
    go : (o : Option RecoveryUnit) → IsUnnoted name (elim o [ Some u ↦ with_entries (PreparedEntry b.key.tid b.key.serial ∷ []) units | None ↦ units ])
    go (Some u) = prepares_keep_notes units name no_history b.key.tid b.key.serial h
    go None = h

-- a branch holds more keys
pub by_locks : (P : Lock → Type 0) (serial : Id) (file : List ℕ) (ks : List Key) (ls : List Lock) → ((k : Key) → P (record { file = file; key = k; by = serial })) → AllByRecursion P ls → AllByRecursion P (with_locks serial file ks ls)
by_locks P serial file ks ls own h = all_append P (map (λ k. record { file = file; key = k; by = serial }) (not_locked ls file ks)) ls (each (not_locked ls file ks)) h
  where
    each : (js : List Key) → AllByRecursion P (map (λ k. record { file = file; key = k; by = serial }) js)
    each [] = tt
    each (j ∷ js) = (own j, each js)

pub files_more : (serial : Id) (other : List ℕ) (keys : List Key) (locks : List Lock) (units : Journal) (fs : List (Option File)) → AllFound (IsFileHeld locks units) fs → AllFound (IsFileHeld (with_locks serial other keys locks) units) fs
files_more serial other keys locks units fs h file f found = record { end = λ is x m. holder_more serial other keys locks file End x ((h file f found).end is x m); marked = (h file f found).marked }

pub locks_length : (serial : Id) (file : List ℕ) (js : List Key) (ls : List Lock) → length (map (λ k. record { file = file; key = k; by = serial }) js ++ ls) ≡ length js + length ls
locks_length serial file [] ls = omega arith
locks_length serial file (j ∷ js) ls = let more = locks_length serial file js ls in omega (arith, more)

pub released_length : (serial : Id) (ls : List Lock) → length (released serial ls) ≤ length ls
released_length serial [] = omega arith
released_length serial (l ∷ ls) = go (same_id serial l.by) (released_length serial ls)
  where
    go : (t : Bool) → length (released serial ls) ≤ length ls → length (if t then released serial ls else l ∷ released serial ls) ≤ suc (length ls)
    go true e = omega (arith, e)
    go false e = omega (arith, e)

pub by_released : (serial : Id) (P Q : Id → Type 0) (ls : List Lock) → ((x : Id) → same_id serial x ≡ false → P x → Q x) → AllByRecursion (λ (l : Lock). P l.by) ls → AllByRecursion (λ (l : Lock). Q l.by) (released serial ls)
by_released serial P Q [] f h = tt
by_released serial P Q (l ∷ ls) f h = go (same_id serial l.by) refl (by_released serial P Q ls f h.1)
  where
    go : (t : Bool) → same_id serial l.by ≡ t → AllByRecursion (λ (l : Lock). Q l.by) (released serial ls) → AllByRecursion (λ (l : Lock). Q l.by) (if t then released serial ls else l ∷ released serial ls)
    go true t more = more
    go false t more = (f l.by t h.0, more)

-- changes of a branch that is not prepared, of a file that is marked
pub files_entered : (tid serial : Id) (file : List ℕ) (cs : List Change) (keys : List Key) (locks : List Lock) (units : Journal) (fs : List (Option File)) → has_changes cs ≡ true → ((u : RecoveryUnit) → find_unit serial (units_in units.entries) ≡ Some u → u.prepared ≡ false) →
    ((f : File) → find_file file fs ≡ Some f → f.organization ≡ Sequential → moves_end cs ≡ true → In End keys × IsFreeFor locks file serial End) → ((f : File) → find_file file fs ≡ Some f → f.recovery_units ≡ true) → AllFound (IsFileHeld locks units) fs →
    AllFound (IsFileHeld (with_locks serial file keys locks) (with_entries (entries_for tid serial file cs) units)) (with_file file (changed_file (is_locked locks file) tid serial cs) fs)
files_entered tid serial file cs keys locks units fs some unprepared ends marks h =
    found_changed (IsFileHeld locks units) (IsFileHeld (with_locks serial file keys locks) (with_entries (entries_for tid serial file cs) units)) file (changed_file (is_locked locks file) tid serial cs) fs (λ f. refl)
    (λ f found k. record { end = λ is x m. ended f found is x (k.end is x) m; marked = λ e. absurd (both_ways f.recovery_units e (marks f found)) })
    (λ other f k. record { end = λ is x m. holder_more serial file keys locks other End x (k.end is x m); marked = λ e. each f.history.live (k.marked e) }) h
  where
    each : (ls : List LiveChanges) → AllByRecursion (λ (l : LiveChanges). IsPreparedUnit units l.serial) ls → AllByRecursion (λ (l : LiveChanges). IsPreparedUnit (with_entries (entries_for tid serial file cs) units) l.serial) ls
    each [] p = tt
    each (l ∷ ls) p = ((p.0.0, (changes_make_unit tid serial file cs units.entries some).others l.serial (apart l.serial p.0) ∙ p.0.1, p.0.2), each ls p.1)
      where
        apart : (x : Id) → IsPreparedUnit units x → same_id x serial ≡ false
        apart x q = false_from_ne_true _ (λ t. both_ways _ (unprepared q.0 (ap (λ y. find_unit y (units_in units.entries)) (sym (id_is x serial t)) ∙ q.1)) q.2)

    ended : (f : File) → find_file file fs ≡ Some f → f.organization ≡ Sequential → (x : Id) → (moves_end (changes_by x f.history.live) ≡ true → holder locks file End ≡ Some x) →
        moves_end (changes_by x (with_changes serial cs f.history.live)) ≡ true → holder (with_locks serial file keys locks) file End ≡ Some x
    ended f found is x k m = by (same_id x serial) refl (subst (λ ds. moves_end ds ≡ true) (by_with_changes x serial cs f.history.live) m)
      where
        old : moves_end (changes_by x f.history.live) ≡ true → holder (with_locks serial file keys locks) file End ≡ Some x
        old e = holder_more serial file keys locks file End x (k e)

        either : same_id x serial ≡ true → (a b : Bool) → moves_end cs ≡ a → moves_end (changes_by x f.history.live) ≡ b → (a || b) ≡ true → holder (with_locks serial file keys locks) file End ≡ Some x
        either t true b p q e = let r = ends f found is p in subst (λ y. holder (with_locks serial file keys locks) file End ≡ Some y) (sym (id_is x serial t)) (holder_own serial file keys locks End r.0 r.1)
        either t false true p q e = old q
        either t false false p q e = let none : ⊥ = cc in absurd none

        by : (t : Bool) → same_id x serial ≡ t → moves_end (if t then cs ++ changes_by x f.history.live else changes_by x f.history.live) ≡ true → holder (with_locks serial file keys locks) file End ≡ Some x
        by true t e = either t (moves_end cs) (moves_end (changes_by x f.history.live)) refl refl (sym (list_any-append (λ (c : Change). is_none c.before || is_none c.after) cs (changes_by x f.history.live)) ∙ e)
        by false t e = old e

-- The end of a file.

-- what an unsettled branch changed in a file is what is noted of it there
pub own_changes : (ls : List LiveChanges) → SerialsDiffer ls → AllByRecursion (λ (l : LiveChanges). changes_by l.serial ls ≡ l.changes) ls
own_changes [] d = tt
own_changes (l ∷ ls) d = (rw (id_itself l.serial) refl, behind ls d.0 (own_changes ls d.1))
  where
    behind : (ks : List LiveChanges) → AllByRecursion (λ (k : LiveChanges). same_id l.serial k.serial ≡ false) ks → AllByRecursion (λ (k : LiveChanges). changes_by k.serial ls ≡ k.changes) ks →
        AllByRecursion (λ (k : LiveChanges). changes_by k.serial (l ∷ ls) ≡ k.changes) ks
    behind [] a h = tt
    behind (k ∷ ks) a h = (rw (id_other l.serial k.serial a.0) h.0, behind ks a.1 h.1)

-- where a branch may hold the end of a file, no other branch moved it
end_free : (locks : List Lock) (file : List ℕ) (serial : Id) (ls : List LiveChanges) → IsFreeFor locks file serial End → AllByRecursion (λ (l : LiveChanges). moves_end l.changes ≡ true → holder locks file End ≡ Some l.serial) ls → end_is_free serial ls ≡ true
end_free locks file serial [] free h = refl
end_free locks file serial (l ∷ ls) free h = and_from (same_id serial l.serial || not (moves_end l.changes)) (end_is_free serial ls) (one (same_id serial l.serial) (moves_end l.changes) refl refl) (end_free locks file serial ls free h.1)
  where
    clash : same_id serial l.serial ≡ false → holder locks file End ≡ Some l.serial → ⊥
    clash other held = elim free [
      | inl none ↦ let both : ◌≡◌ {A = Option Id} None (Some l.serial) = sym none ∙ held in let never : ⊥ = cc in never
      | inr own ↦ both_ways _ other (subst (λ x. same_id serial x ≡ true) (some_is serial l.serial (sym own ∙ held)) (id_itself serial))
    ]

    one : (a b : Bool) → same_id serial l.serial ≡ a → moves_end l.changes ≡ b → (a || not b) ≡ true
    one true b t m = refl
    one false false t m = refl
    one false true t m = absurd (clash t (h.0 m))

pub end_is_free_for : (locks : List Lock) (file : List ℕ) (serial : Id) (f : File) → SerialsDiffer f.history.live → f.organization ≡ Sequential → IsEndHeld locks file f → IsFreeFor locks file serial End → end_is_free serial f.history.live ≡ true
end_is_free_for locks file serial f differ is h free =
    end_free locks file serial f.history.live free
    (all_more (λ (l : LiveChanges). changes_by l.serial f.history.live ≡ l.changes) (λ (l : LiveChanges). moves_end l.changes ≡ true → holder locks file End ≡ Some l.serial) f.history.live
    (λ l own m. h is l.serial (subst (λ cs. moves_end cs ≡ true) (sym own) m)) (own_changes f.history.live differ))
