-- Changes without a unit are those of a branch that is drawn for them: no unsettled branch changed their keys, and the files are the world's after them.
use Rattle.std.proofs.Common.{◌≡◌, ℕ, List, [], ◌∷◌, Bool, true, false, Option, Some, None, refl, sym, ◌∙◌, ap, subst, slice_set, inl, inr}
use Rattle.std.specs.Prelude.{is_some}
use Rattle.std.specs.FinMap.{get}
use Rattle.std.specs.List.{AllByRecursion}
use Rattle.std.proofs.lemmas.Bool.{both_ways}
use Rattle.file_base.specs.declared.head.FileHead.{FileHead}
use Rattle.change_set.specs.Maps.{Map, applied, map_of_records}
use Rattle.change_set.proofs.Changes.{agree}
use Rattle.volume_files.specs.record_files.Any.{map_of}
use Rattle.vms_model.specs.Ids.{Id}
use Rattle.vms_model.specs.Keys.{Key, End}
use Rattle.vms_model.specs.Transactions.{Outcome, Commit}
use Rattle.script_model.specs.Statements.{Operation, Put, Update, Delete, Truncate, Get, Next}
use Rattle.records_model.specs.Records.{Change, Found, Records}
use Rattle.records_model.specs.Records as base
use Rattle.tree_model.specs.Setting.{layout_changed}
use Rattle.records_model.specs.History.{LiveChanges, changed_with, current, same_id, settled_at}
use Rattle.unit_laws.specs.Units.{SerialsDiffer, has_changes, is_free, moves_end}
use Rattle.unit_laws.specs.Journal.{RecoveryUnit, find_unit, units_in}
use Rattle.unit_laws.specs.JournalLaws.{is_unit}
use Rattle.unit_laws.proofs.HistoryLaws.{changes_more, commits_one}
use Rattle.commit_protocol.specs.World.{In}
use Rattle.recovery_units.specs.run_model.Answers.{held_against, keys_refused}
use Rattle.recovery_units.specs.run_model.Locks.{holder, is_locked}
use Rattle.recovery_units.specs.run_model.Operations.{changes_of, count_of, data_refused, delete_refused, form_refused, key_refused, keys_asked, put_keys, record_in, update_refused}
use Rattle.recovery_units.specs.run_model.World as world
use Rattle.recovery_units.specs.run_model.World.{AreUnitsOf, Directs, File, Node, Organization, Settlement, acted, directly_changed, next_id, sizes_of}
use Rattle.recovery_units.specs.world_laws.Nodes.{IsUp}
use Rattle.recovery_units.specs.world_laws.Restarts.{AreHeld}
use Rattle.recovery_units.proofs.world_laws.AnswerLemmas.{neither}
use Rattle.recovery_units.proofs.world_laws.DirectLemmas.{none_of}
use Rattle.recovery_units.proofs.world_laws.FoundLemmas.{changes_asked, changes_found}
use Rattle.recovery_units.proofs.world_laws.HeldLemmas.{IsFreeFor, free_for}
use Rattle.recovery_units.proofs.world_laws.LockLemmas.{held_free}
use Rattle.recovery_units.proofs.world_laws.OperationLemmas.{held_of}
use Rattle.recovery_units.proofs.world_laws.RunningLemmas.{end_is_free_for}
use Rattle.recovery_units.proofs.world_laws.ServedLemmas.{undrawn}
use Rattle.recovery_units.proofs.world_laws.TableLemmas.{in_serials}
use Rattle.recovery_units.proofs.world_laws.UpLemmas.{branch_drawn}
use Rattle.unit_world.specs.directory_model.Files.{AreFiles, IsFile, IsFoundAt, IsNamed, file_at, AgreesOnCarried, IsCarried}
use Rattle.unit_world.specs.directory_model.Laws.{AreFree, IsChanged, SameBut, carrying, directly_buckets}
use Rattle.unit_world.proofs.directory_model.Acts.{layout_after, same_there}
use Rattle.unit_world.proofs.directory_model.Finding.{finds_files}
use Rattle.unit_world.proofs.directory_model.Moving.{carried_moved, file_moved, places_moved}
use Rattle.unit_world.specs.restart_laws.Units.{EndIsFree, MayChange}

-- An operation that moves the end of a sequential file asks for it.

abbrev set_from : Key → Option (List ℕ) → List ℕ → List Change
set_from key before bytes = record { key = key; before = before; after = Some bytes } ∷ []

update_stays : (o : Organization) (key : Key) (before : Option (List ℕ)) (bytes : List ℕ) → update_refused o key before bytes ≡ None → moves_end (set_from key before bytes) ≡ true → ⊥
update_stays o key None bytes stands m = let none : ⊥ = cc in none
update_stays o key (Some old) bytes stands m = both_ways (moves_end (set_from key (Some old) bytes)) refl m

none_moves : moves_end [] ≡ true → ⊥
none_moves m = let none : ⊥ = cc in none

sequential_deletes : delete_refused world.Sequential ≡ None → ⊥
sequential_deletes e = let none : ⊥ = cc in none

moving_asks : (f : File) (op : Operation) → form_refused f op ≡ None → data_refused f op ≡ None → f.organization ≡ world.Sequential → moves_end (changes_of f op) ≡ true → In End (keys_asked f op)
moving_asks f (Put number bytes) form stands is m = subst (λ o. In End (put_keys o (count_of f) number bytes)) (sym is) (inl refl)
moving_asks f (Update key bytes) form stands is m = absurd (update_stays f.organization key (record_in f key) bytes stands m)
moving_asks f (Delete key) form stands is m = absurd (sequential_deletes (subst (λ o. delete_refused o ≡ None) is (neither (key_refused f.organization key) (delete_refused f.organization) form).1))
moving_asks f (Truncate number) form stands is m = inl refl
moving_asks f (Get key) form stands is m = absurd (none_moves m)
moving_asks f (Next after) form stands is m = absurd (none_moves m)

at_key : (P : Key → Type 0) (key : Key) (ks : List Key) → AllByRecursion P ks → In key ks → P key
at_key P key [] h i = absurd i
at_key P key (k ∷ ks) h i = elim i [ inl e ↦ subst P (sym e) h.0 | inr more ↦ at_key P key ks h.1 more ]

-- keys that are refused to no branch are refused to none
nobody : (o : Option Id) → held_against None o ≡ None → o ≡ None
nobody None e = refl
nobody (Some by) e = let none : ⊥ = cc in absurd none

refused_to_all : (n : Node) (serial : Id) (file : List ℕ) (ks : List Key) → keys_refused n None file ks ≡ None → keys_refused n (Some serial) file ks ≡ None
refused_to_all n serial file [] e = refl
refused_to_all n serial file (k ∷ ks) e =
    let parts = neither (held_against None (holder n.volatile.locks file k)) (keys_refused n None file ks) e in
    rw (nobody (holder n.volatile.locks file k) parts.0) (refused_to_all n serial file ks parts.1)

module _ (n : Node) (units : AreUnitsOf n) (up : IsUp n) (name : List ℕ) (f : ℕ) (file : File) (at : IsFoundAt name n.durable.directory f file) where
  -- the branch that is drawn next is no unit
  pub fresh : is_unit (next_id n) n.durable.units ≡ false
  fresh = go (find_unit (next_id n) (units_in n.durable.units.entries)) refl
    where
      go : (o : Option RecoveryUnit) → find_unit (next_id n) (units_in n.durable.units.entries) ≡ o → is_some o ≡ false
      go (Some u) k = let r = up.table.branches (next_id n) u k in absurd (undrawn n (r.branch).key.serial (branch_drawn n up.table (r.branch).key.serial (in_serials r.branch n.volatile.branches r.there)) r.serial)
      go None k = refl

  -- nor has it changed the file
  pub none_live : AllByRecursion (λ (l : LiveChanges). same_id (next_id n) l.serial ≡ false) file.history.live
  none_live = none_of n.durable.units (next_id n) file.history.live fresh (units.tells f file at.there).notes.units

  differ : SerialsDiffer file.history.live
  differ = (units.tells f file at.there).notes.differ

  pub live_held : AreHeld n.volatile.locks name file.history.live
  live_held = held_of n name file at.found up.running.held differ

  module _ (op : Operation) (form : form_refused file op ≡ None) (passed : data_refused file op ≡ None) (keys : keys_refused n None name (keys_asked file op) ≡ None) where
    for_it : keys_refused n (Some (next_id n)) name (keys_asked file op) ≡ None
    for_it = refused_to_all n (next_id n) name (keys_asked file op) keys

    frees : AreFree (next_id n) file (changes_of file op)
    frees = changes_asked (λ key. is_free (next_id n) file.history.live key ≡ true) file op passed (held_free n name file.history.live (next_id n) (keys_asked file op) live_held differ for_it)

    ends : (w : Organization) → file.organization ≡ w → EndIsFree w (next_id n) (changes_of file op) file.history.live
    ends world.Sequential is = λ moved. end_is_free_for n.volatile.locks name (next_id n) file differ is (up.holding.files name file at.found).end
        (at_key (IsFreeFor n.volatile.locks name (next_id n)) End (keys_asked file op) (free_for n (next_id n) name (keys_asked file op) for_it) (moving_asks file op form passed is moved))
    ends (world.Relative greatest) is = tt
    ends (world.Indexed position size) is = tt

    -- so it may make the changes that are asked for
    pub direct_may : has_changes (changes_of file op) ≡ true → MayChange (next_id n) file (changes_of file op)
    direct_may some = record { some = some; keys = frees; found = changes_found file op; end = ends file.organization refl }

-- The files after it.

applied_on : (m : Records) (keys : Map) (cs : List Change) (key : Key) → ((k : Key) → get m k ≡ keys k) → get (base.applied cs m) key ≡ applied cs keys key
applied_on m keys cs key same = ap (λ (x : Map). x key) (agree.applied_alike cs m) ∙ ap (λ (x : Map). applied cs x key) all
  where
    all : map_of_records m ≡ keys
    all = λ i k. same k i

pub files_directed : (a b : List (List ℕ)) (heads : List (Option FileHead)) (n : Node) (f : ℕ) (h new : FileHead) (name : List ℕ) (file : File) (cs : List Change) (s : Settlement) → AreFiles a heads n.durable.directory → AreUnitsOf n → s.outcome ≡ Commit →
    IsNamed heads f h name → file_at n.durable.directory f ≡ Some file → AreFree s.serial file cs → Found cs (current file.history) → IsChanged (is_locked n.volatile.locks name) cs a h b new → AgreesOnCarried h a b → SameBut f heads a b →
    AreFiles b (slice_set heads f (Some new)) (directly_buckets (is_locked n.volatile.locks name) s cs f file n.durable.directory)
files_directed a b heads n f h new name file cs s are units commit named there free found is stands same =
    let directory = n.durable.directory in
    let held = is_locked n.volatile.locks name in
    let at = finds_files.found a heads directory f h name are named in
    let one : at.0 ≡ file = same_there directory f at.0 file at.2.there there in
    let mine : IsFile a h file = subst (IsFile a h) one at.1 in
    let carried : IsCarried a f h file.carried = subst (λ (x : File). IsCarried a f h x.carried) one at.3 in
    let made = changes_more file.history s.serial cs (units.tells f file there).notes.orderly free found in
    let settled = commits_one (changed_with s.serial cs file.history) s.serial s.moment made.orderly in
    places_moved a b heads directory f h new (carrying file.carried (directly_changed held s cs file)) are named.there
    (file_moved a b h new file (settled_at s.serial s.outcome s.moment (changed_with s.serial cs file.history)) (layout_changed (sizes_of file) held cs file.layout) is.same is.form is.laid mine
    (λ key. ap (λ (o : Outcome). get (current (settled_at s.serial o s.moment (changed_with s.serial cs file.history))) key) commit ∙ settled.current key ∙ made.current key ∙ applied_on (current file.history) (map_of h a) cs key mine.records ∙ ap (λ (m : Map). m key) (sym is.map))
    (layout_after held file cs a b h new mine is.layout)) (carried_moved a b f h new file.carried is.same stands carried) same
