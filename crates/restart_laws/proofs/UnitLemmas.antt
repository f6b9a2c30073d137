-- The journal tells the changes of unsettled branches over each act.
use Rattle.std.proofs.Common.{◌≡◌, ℕ, zero, suc, ◌<◌, ◌⊎◌, Bool, true, false, cond, List, [], ◌∷◌, ◌++◌, length, map, replicate, Option, Some, None, refl, sym, ◌∙◌, ap, subst, arith, inl, inr, slice_set, slice_index_or}
use Rattle.std.specs.Prelude.{is_some}
use Rattle.std.specs.Option.{option_map}
use Rattle.std.specs.List.{AllByRecursion, list_any}
use Rattle.std.specs.Str.{bytes_eq}
use Rattle.std.proofs.lemmas.Bool.{cases_eq}
use Rattle.std.proofs.lemmas.Slice.Eq.{bytes_eq-Decides}
use Rattle.std.proofs.lemmas.List.{get_or-set_same, get_or-set_other}
use Rattle.vms_model.specs.Ids.{Id}
use Rattle.vms_model.specs.Keys.{Key}
use Rattle.vms_model.specs.Transactions.{Outcome, Commit, Abort, SegFail}
use Rattle.index_model.specs.records_model.Records.{Change, Found, Records}
use Rattle.index_model.specs.records_model.History.{History, LiveChanges, same_id, records, on_top, changes_by, changed_with, current, settled_at, with_changes, without}
use Rattle.unit_laws.specs.Units.{SerialsDiffer, Represents, IsOrderly, HasLatest, map_in, has_changes}
use Rattle.unit_laws.specs.Journal.{Journal, JournalEntry, ChangeEntry, PreparedEntry, SettledEntry, RecoveryUnit, empty_journal, entries_for, entries_from, find_unit, is_of_file, is_of_units, is_settled_in, note_of, serial_in, trimmed, units_in, with_entries, with_settled}
use Rattle.unit_laws.specs.JournalLaws.{HasNotes, is_unit}
use Rattle.unit_laws.proofs.EndLemmas.{changes_keep_end, settles_keep_end}
use Rattle.unit_laws.proofs.HistoryLaws.{changes_more, commits_one}
use Rattle.unit_laws.proofs.LiveLemmas.{id_is}
use Rattle.unit_laws.proofs.NoteLemmas.{changes_keep_notes, changes_elsewhere_keep_notes, prepares_keep_notes, settles_keep_notes, unchanged_has_notes}
use Rattle.unit_laws.proofs.TrimLemmas.{found_onto, had_onto, trim_keeps_units}
use Rattle.world_laws.specs.run_model.Locks.{is_locked}
use Rattle.world_laws.specs.run_model.World as world
use Rattle.world_laws.specs.run_model.World.{Node, File, Mark, Organization, Settlement, TellsUnits, AreUnitsOf, IsPreparedUnit, IsReached, OneMovesEndOf, acted, changed_file, directly_changed, marked_file, recovered_file, saved_file, settled_file, settlement, find_file}
use Rattle.world_laws.specs.commit_protocol.Table as table
use Rattle.world_laws.proofs.DirectLemmas.{live_same, none_of}
use Rattle.restart_laws.proofs.ListLemmas.{all_as}
use Rattle.directory_model.specs.Files.{IsFoundAt, file_at}
use Rattle.directory_model.proofs.Acts.{none_at}
use Rattle.directory_model.specs.Laws.{AreFree}
use Rattle.directory_model.proofs.Finding.{NoneCalled, found_at}
use Rattle.directory_model.proofs.Places.{file_mapped, within_list}
use Rattle.restart_laws.specs.Units.{EndIsFree, KeepsUnits, MayChange}
use Rattle.restart_laws.proofs.PreparedLemmas.{prepared_again, prepared_entered, prepared_settled, prepared_trimmed}
use Rattle.restart_laws.proofs.RestorableLemmas.{live_settled}

-- Entries of branches of this boot or an earlier one.
abbrev AllReached : Node → List JournalEntry → Type 0
AllReached n es = AllByRecursion (λ (e : JournalEntry). IsReached n (serial_in e)) es

reached_append : (n : Node) (es fs : List JournalEntry) → AllReached n es → AllReached n fs → AllReached n (es ++ fs)
reached_append n [] fs a b = b
reached_append n (e ∷ es) fs a b = (a.0, reached_append n es fs a.1 b)

reached_from : (n : Node) (us : List RecoveryUnit) (es : List JournalEntry) → AllReached n es → AllReached n (entries_from us es)
reached_from n us [] a = tt
reached_from n us (e ∷ es) a = step (is_of_units us e) (reached_from n us es a.1)
  where
    step : (b : Bool) → AllReached n (entries_from us es) → AllReached n (cond b (e ∷ es) (entries_from us es))
    step true later = a
    step false later = later

reached_for : (n : Node) (tid serial : Id) (name : List ℕ) (cs : List Change) → IsReached n serial → AllReached n (entries_for tid serial name cs)
reached_for n tid serial name [] p = tt
reached_for n tid serial name (c ∷ cs) p = reached_append n (entries_for tid serial name cs) (ChangeEntry tid serial name c.key c.before ∷ []) (reached_for n tid serial name cs p) (p, tt)

-- those of a node of the same name and boots
reached_at : (n m : Node) → m.name ≡ n.name → m.durable.boot ≡ n.durable.boot → (es : List JournalEntry) → AllReached n es → AllReached m es
reached_at n m name same [] a = tt
reached_at n m name same (e ∷ es) a = ((a.0.0 ∙ sym name, let below = a.0.1 in omega (arith, same, below)), reached_at n m name same es a.1)

-- that of a unit is one of them
reached_unit : (n : Node) (s : Id) (es : List JournalEntry) (b : Bool) → had_onto s b es ≡ true → (b ≡ true → IsReached n s) → AllReached n es → IsReached n s
reached_unit n s [] b is so all = so is
reached_unit n s (ChangeEntry tid t file key before ∷ es) b is so all = reached_unit n s es (cond (same_id s t) true b) is (now (same_id s t) refl) all.1
  where
    now : (x : Bool) → same_id s t ≡ x → cond x true b ≡ true → IsReached n s
    now true same e = subst (IsReached n) (sym (id_is s t same)) all.0
    now false same e = so e
reached_unit n s (PreparedEntry tid t ∷ es) b is so all = reached_unit n s es b is so all.1
reached_unit n s (SettledEntry tid t outcome moment ∷ es) b is so all = reached_unit n s es (cond (same_id s t) false b) is (now (same_id s t)) all.1
  where
    now : (x : Bool) → cond x false b ≡ true → IsReached n s
    now true e = absurd cc
    now false e = so e

-- The file of a name.
place_of : (name : List ℕ) (directory : List (Option File)) (file : File) → find_file name directory ≡ Some file → (q : ℕ) × (file_at directory q ≡ Some file) × (file.name ≡ name) × NoneCalled directory q name
place_of name [] file there = let none : ⊥ = cc in absurd none
place_of name (None ∷ fs) file there = let more = place_of name fs file there in (suc more.0, more.1, more.2, none more.0 more.3)
  where
    none : (q : ℕ) → NoneCalled fs q name → NoneCalled (None ∷ fs) (suc q) name
    none q lowest zero other below at called = let wrong : ⊥ = cc in absurd wrong
    none q lowest (suc g) other below at called = lowest g other (omega arith) at called
place_of name (Some first ∷ fs) file there = step (bytes_eq name first.name) refl there (place_of name fs file)
  where
    none : (q : ℕ) → bytes_eq name first.name ≡ false → NoneCalled fs q name → NoneCalled (Some first ∷ fs) (suc q) name
    none q differs lowest zero other below at called =
        let same : first ≡ other = cc in
        let wrong : true ≡ false = sym ((bytes_eq-Decides name first.name).1 (sym (ap (λ (x : File). x.name) same ∙ called))) ∙ differs in
        absurd cc
    none q differs lowest (suc g) other below at called = lowest g other (omega arith) at called

    step : (b : Bool) → bytes_eq name first.name ≡ b → cond b (Some first) (find_file name fs) ≡ Some file → (find_file name fs ≡ Some file → (q : ℕ) × (file_at fs q ≡ Some file) × (file.name ≡ name) × NoneCalled fs q name) →
        (q : ℕ) × (file_at (Some first ∷ fs) q ≡ Some file) × (file.name ≡ name) × NoneCalled (Some first ∷ fs) q name
    step true is at later = (0, at, sym ((bytes_eq-Decides name first.name).0 is ∙ ap (λ (x : File). x.name) (same at)), λ g other below. absurd (omega arith))
      where
        same : Some first ≡ Some file → first ≡ file
        same e = cc
    step false is at later = let more = later at in (suc more.0, more.1, more.2, none more.0 is more.3)

found_there : (name : List ℕ) (directory : List (Option File)) (file : File) → find_file name directory ≡ Some file → (q : ℕ) × IsFoundAt name directory q file × (file.name ≡ name)
found_there name directory file there = let at = place_of name directory file there in (at.0, found_at name directory at.0 file at.1 at.2 at.3, at.2)

none_there : (name : List ℕ) (directory : List (Option File)) (p : ℕ) (g : File) → find_file name directory ≡ None → file_at directory p ≡ Some g → name ≡ g.name → ⊥
none_there name [] p g none at called = cc
none_there name (None ∷ fs) zero g none at called = cc
none_there name (None ∷ fs) (suc p) g none at called = none_there name fs p g none at called
none_there name (Some first ∷ fs) p g none at called = step (bytes_eq name first.name) refl none p at (λ q absent there. none_there name fs q g absent there called)
  where
    step : (b : Bool) → bytes_eq name first.name ≡ b → cond b (Some first) (find_file name fs) ≡ None → (p : ℕ) → file_at (Some first ∷ fs) p ≡ Some g → ((q : ℕ) → find_file name fs ≡ None → file_at fs q ≡ Some g → ⊥) → ⊥
    step true is none p at later = cc
    step false is none zero at later =
        let same : first ≡ g = cc in
        let wrong : true ≡ false = sym ((bytes_eq-Decides name first.name).1 (called ∙ sym (ap (λ (x : File). x.name) same))) ∙ is in
        absurd cc
    step false is none (suc p) at later = later p none at

-- each branch that changed a file is prepared
abbrev AllPreparedIn : Journal → File → Type 0
AllPreparedIn units f = AllByRecursion (λ (l : LiveChanges). IsPreparedUnit units l.serial) f.history.live

none_changed : (units : Journal) (f : File) → f.history.live ≡ [] → AllPreparedIn units f
none_changed units f none = subst (AllByRecursion (λ (l : LiveChanges). IsPreparedUnit units l.serial)) (sym none) tt

-- A directory in which one file is another.
set_at : (d : List (Option File)) (q p : ℕ) (x g : File) → q < length d → file_at (slice_set d q (Some x)) p ≡ Some g → ((p ≡ q) × (g ≡ x)) ⊎ ((p ≡ q → ⊥) × (file_at d p ≡ Some g))
set_at d q p x g within is = elim (cases_eq p q) [
  | inl here ↦ inl (here, one (sym is ∙ subst (λ y. file_at (slice_set d q (Some x)) y ≡ Some x) (sym here) (get_or-set_same d q (Some x) None within)))
  | inr other ↦ inr (other, sym (get_or-set_other d q p (Some x) None other) ∙ is)
]
  where
    one : Some g ≡ Some x → g ≡ x
    one e = cc

-- the file there before has the new one's name
kept_set : (n m : Node) (q : ℕ) (x file : File) → AreUnitsOf n → file_at n.durable.directory q ≡ Some file → m.durable.directory ≡ slice_set n.durable.directory q (Some x) → x.name ≡ file.name → TellsUnits m.durable.units x →
    ((p : ℕ) (g : File) → (p ≡ q → ⊥) → file_at n.durable.directory p ≡ Some g → TellsUnits m.durable.units g) → AllReached m m.durable.units.entries → (m.up ≡ true → n.up ≡ true) →
    (m.up ≡ true → x.recovery_units ≡ false → AllPreparedIn m.durable.units x) → ((y : Id) → IsPreparedUnit n.durable.units y → IsPreparedUnit m.durable.units y) → AreUnitsOf m
kept_set n m q x file units there is called told others reached up unmarked still = record {
  tells = λ p g at. elim (after p g at) [
    | inl same ↦ subst (λ (y : File). TellsUnits m.durable.units y) (sym same.1) told
    | inr other ↦ others p g other.0 other.1
  ];
  marked = λ is_up p g at off. elim (after p g at) [
    | inl same ↦ subst (AllPreparedIn m.durable.units) (sym same.1) (unmarked is_up (subst (λ (y : File). y.recovery_units ≡ false) same.1 off))
    | inr other ↦ all_as (λ (l : LiveChanges). IsPreparedUnit n.durable.units l.serial) (λ (l : LiveChanges). IsPreparedUnit m.durable.units l.serial) g.history.live (λ l so. still l.serial so) (units.marked (up is_up) p g other.1 off)
  ];
  reached = reached;
  names = λ p r f g at other same. let a = was p f at in let b = was r g other in units.names p r a.0 b.0 a.1 b.1 (a.2 ∙ same ∙ sym b.2);
}
  where
    after : (p : ℕ) (g : File) → file_at m.durable.directory p ≡ Some g → ((p ≡ q) × (g ≡ x)) ⊎ ((p ≡ q → ⊥) × (file_at n.durable.directory p ≡ Some g))
    after p g at = set_at n.durable.directory q p x g (within_list n.durable.directory q file there) (sym (ap (λ (d : List (Option File)). file_at d p) is) ∙ at)

    was : (p : ℕ) (g : File) → file_at m.durable.directory p ≡ Some g → (o : File) × (file_at n.durable.directory p ≡ Some o) × (o.name ≡ g.name)
    was p g at = elim (after p g at) [
      | inl same ↦ (file, subst (λ y. file_at n.durable.directory y ≡ Some file) (sym same.0) there, sym called ∙ sym (ap (λ (y : File). y.name) same.1))
      | inr other ↦ (g, other.1, refl)
    ]

-- no other file has the name
not_named : (n : Node) (q p : ℕ) (file g : File) (name : List ℕ) → AreUnitsOf n → file_at n.durable.directory q ≡ Some file → file.name ≡ name → (p ≡ q → ⊥) → file_at n.durable.directory p ≡ Some g → g.name ≡ name → ⊥
not_named n q p file g name units there called other at same = other (units.names p q g file at there (same ∙ sym called))

-- INIT, BOOT, CREATE
formats : (n : Node) (slots journal : ℕ) → AreUnitsOf (acted (world.Formats slots journal) n)
formats n slots journal = record {
  tells = λ p f at. absurd (nothing p f at);
  marked = λ up p f at off. absurd (nothing p f at);
  reached = tt;
  names = λ p q f g at other same. absurd (nothing p f at);
}
  where
    nothing : (p : ℕ) (f : File) → slice_index_or (replicate 64 None) p None ≡ Some f → ⊥
    nothing p f at = let none : None ≡ Some f = sym (none_at {A = File} 64 p) ∙ at in cc

boots : (n : Node) → AreUnitsOf n → AreUnitsOf (acted world.Boots n)
boots n units = record { tells = units.tells; marked = units.marked; reached = later n.durable.units.entries units.reached; names = units.names }
  where
    later : (es : List JournalEntry) → AllReached n es → AllReached (acted world.Boots n) es
    later [] all = tt
    later (e ∷ es) all = ((all.0.0, let below = all.0.1 in omega arith), later es all.1)

end_none : (o : Organization) → OneMovesEndOf o []
end_none world.Sequential = tt
end_none (world.Relative greatest) = tt
end_none (world.Indexed position size) = tt

orderly_alone : (h : History) → h.live ≡ [] → IsOrderly h
orderly_alone h none = record {
  represents = subst (λ (ls : List LiveChanges). Represents ls (map_in (on_top ls (records h))) (map_in (records h))) (sym none) (record { apart = tt; restores = λ key. refl; images = tt });
  latest = subst (λ (ls : List LiveChanges). AllByRecursion (λ (l : LiveChanges). HasLatest (map_in (on_top ls (records h))) l.changes) ls) (sym none) tt;
}

tells_new : (units : Journal) (file : File) → file.history.live ≡ [] → list_any (is_of_file file.name) units.entries ≡ false → TellsUnits units file
tells_new units file none new = record {
  notes = unchanged_has_notes units file.name file.history none new;
  end = subst (OneMovesEndOf file.organization) (sym none) (end_none file.organization);
}

creates : (n : Node) (f : ℕ) (file : File) → AreUnitsOf n → f < length n.durable.directory → file.history.live ≡ [] → find_file file.name n.durable.directory ≡ None → list_any (is_of_file file.name) n.durable.units.entries ≡ false → AreUnitsOf (acted (world.Creates f file) n)
creates n f file units within live none new = record {
  tells = λ p g at. elim (set_at n.durable.directory f p file g within at) [
    | inl same ↦ subst (λ (y : File). TellsUnits n.durable.units y) (sym same.1) (tells_new n.durable.units file live new)
    | inr other ↦ units.tells p g other.1
  ];
  marked = λ up p g at off. elim (set_at n.durable.directory f p file g within at) [
    | inl same ↦ subst (AllPreparedIn n.durable.units) (sym same.1) (none_changed n.durable.units file live)
    | inr other ↦ units.marked up p g other.1 off
  ];
  reached = units.reached;
  names = λ p q a b at there same. one p q a b (set_at n.durable.directory f p file a within at) (set_at n.durable.directory f q file b within there) same;
}
  where
    one : (p q : ℕ) (a b : File) → ((p ≡ f) × (a ≡ file)) ⊎ ((p ≡ f → ⊥) × (file_at n.durable.directory p ≡ Some a)) → ((q ≡ f) × (b ≡ file)) ⊎ ((q ≡ f → ⊥) × (file_at n.durable.directory q ≡ Some b)) → a.name ≡ b.name → p ≡ q
    one p q a b (inl x) (inl y) same = x.0 ∙ sym y.0
    one p q a b (inl x) (inr y) same = absurd (none_there file.name n.durable.directory q b none y.1 (sym (ap (λ (z : File). z.name) x.1) ∙ same))
    one p q a b (inr x) (inl y) same = absurd (none_there file.name n.durable.directory p a none x.1 (sym (ap (λ (z : File). z.name) y.1) ∙ sym same))
    one p q a b (inr x) (inr y) same = units.names p q a b x.1 y.1 same

-- SET_FILE
marks : (n : Node) (name : List ℕ) (file : File) (mark : Mark) → AreUnitsOf n → find_file name n.durable.directory ≡ Some file → file.history.live ≡ [] → AreUnitsOf (acted (world.Marks name mark) n)
marks n name file mark are there none =
    let at = found_there name n.durable.directory file there in
    let tells = are.tells at.0 file at.1.there in
    kept_set n (acted (world.Marks name mark) n) at.0 (marked_file mark n.durable.greatest file) file are at.1.there (at.1.changed (marked_file mark n.durable.greatest)) refl
    (record { notes = tells.notes; end = tells.end }) (λ p g other g_at. are.tells p g g_at) are.reached (λ up. up) (λ up off. none_changed n.durable.units (marked_file mark n.durable.greatest file) none) (λ y so. so)

-- BACKUP
saves : (n : Node) (name : List ℕ) (file : File) (start : ℕ) → AreUnitsOf n → find_file name n.durable.directory ≡ Some file → file.history.live ≡ [] → AreUnitsOf (acted (world.Saves name start) n)
saves n name file start are there none =
    let at = found_there name n.durable.directory file there in
    let tells = are.tells at.0 file at.1.there in
    kept_set n (acted (world.Saves name start) n) at.0 (saved_file start n.durable.greatest file) file are at.1.there (at.1.changed (saved_file start n.durable.greatest)) refl
    (record { notes = tells.notes; end = tells.end }) (λ p g other g_at. are.tells p g g_at) are.reached (λ up. up) (λ up off. none_changed n.durable.units (saved_file start n.durable.greatest file) none) (λ y so. so)

-- RECOVER
rebased_notes : (units : Journal) (start buckets greatest : ℕ) (m : Records) (f : File) → f.history.live ≡ [] → HasNotes units f.name f.history → HasNotes units f.name (recovered_file start buckets m greatest f).history
rebased_notes units start buckets greatest m f none has = record {
  notes = has.notes;
  units = has.units;
  some = has.some;
  differ = has.differ;
  orderly = (unchanged_has_notes empty_journal f.name (recovered_file start buckets m greatest f).history none refl).orderly;
}

recovers : (n : Node) (name : List ℕ) (file : File) (start buckets : ℕ) (m : Records) → AreUnitsOf n → find_file name n.durable.directory ≡ Some file → file.history.live ≡ [] → AreUnitsOf (acted (world.Recovers name start buckets m) n)
recovers n name file start buckets m are there none =
    let at = found_there name n.durable.directory file there in
    let tells = are.tells at.0 file at.1.there in
    let change = recovered_file start buckets m n.durable.greatest in
    kept_set n (acted (world.Recovers name start buckets m) n) at.0 (change file) file are at.1.there (at.1.changed change) refl
    (record { notes = rebased_notes n.durable.units start buckets n.durable.greatest m file none tells.notes; end = tells.end }) (λ p g other g_at. are.tells p g g_at) are.reached (λ up. up) (λ up off. none_changed n.durable.units (change file) none) (λ y so. so)

-- PUT, UPDATE, DELETE, TRUNCATE
end_changed : (o : Organization) (ls : List LiveChanges) (serial : Id) (cs : List Change) → SerialsDiffer ls → EndIsFree o serial cs ls → OneMovesEndOf o ls → OneMovesEndOf o (with_changes serial cs ls)
end_changed world.Sequential ls serial cs differ free one = changes_keep_end ls serial cs differ one free
end_changed (world.Relative greatest) ls serial cs differ free one = tt
end_changed (world.Indexed position size) ls serial cs differ free one = tt

tells_changed : (units : Journal) (f : File) (held : Key → Bool) (tid serial : Id) (cs : List Change) → TellsUnits units f → is_settled_in serial units.entries ≡ false → MayChange serial f cs →
    TellsUnits (with_entries (entries_for tid serial f.name cs) units) (changed_file held tid serial cs f)
tells_changed units f held tid serial cs tells unsettled may = record {
  notes = changes_keep_notes units f.name f.history tid serial cs tells.notes unsettled may.some may.keys may.found;
  end = end_changed f.organization f.history.live serial cs tells.notes.differ may.end tells.end;
}

tells_elsewhere : (units : Journal) (f : File) (tid serial : Id) (name : List ℕ) (cs : List Change) → TellsUnits units f → (f.name ≡ name → ⊥) → is_settled_in serial units.entries ≡ false → TellsUnits (with_entries (entries_for tid serial name cs) units) f
tells_elsewhere units f tid serial name cs tells other unsettled = record {
  notes = changes_elsewhere_keep_notes units f.name name f.history tid serial cs tells.notes other unsettled;
  end = tells.end;
}

changes : (n : Node) (name : List ℕ) (file : File) (tid serial : Id) (cs : List Change) (keys : List Key) → AreUnitsOf n → IsReached n serial → is_settled_in serial n.durable.units.entries ≡ false → find_file name n.durable.directory ≡ Some file →
    MayChange serial file cs → (n.up ≡ true → file.recovery_units ≡ true) → AreUnitsOf (acted (world.Changes tid serial name cs keys) n)
changes n name file tid serial cs keys are own unsettled there may marked =
    let at = found_there name n.durable.directory file there in
    let held = is_locked n.volatile.locks name in
    kept_set n (acted (world.Changes tid serial name cs keys) n) at.0 (changed_file held tid serial cs file) file are at.1.there (at.1.changed (changed_file held tid serial cs)) refl
    (subst (λ (called : List ℕ). TellsUnits (with_entries (entries_for tid serial called cs) n.durable.units) (changed_file held tid serial cs file)) at.2
    (tells_changed n.durable.units file held tid serial cs (are.tells at.0 file at.1.there) unsettled may))
    (λ p g other g_at. tells_elsewhere n.durable.units g tid serial name cs (are.tells p g g_at) (not_named n at.0 p file g name are at.1.there at.2 other g_at) unsettled)
    (reached_append n n.durable.units.entries (entries_for tid serial name cs) are.reached (reached_for n tid serial name cs own)) (λ up. up)
    (λ up off. let never : ⊥ = (let wrong : true ≡ false = sym (marked up) ∙ off in cc) in absurd never) (λ y so. prepared_entered n.durable.units tid serial name cs y may.some so)

-- changes without a label
trim_noted : (j : Journal) (name : List ℕ) (h : History) → HasNotes j name h → HasNotes (trimmed j) name h
trim_noted j name h notes =
    let t = trim_keeps_units j in
    let same : (x : Id) → is_unit x (trimmed j) ≡ is_unit x j = λ x. ap (λ (us : List RecoveryUnit). is_some (find_unit x us)) t.units in
    record {
      notes = λ x unit. t.notes x name (sym (same x) ∙ unit) ∙ notes.notes x (sym (same x) ∙ unit);
      units = all_as (λ (l : LiveChanges). is_unit l.serial j ≡ true) (λ (l : LiveChanges). is_unit l.serial (trimmed j) ≡ true) h.live (λ l unit. same l.serial ∙ unit) notes.units;
      some = notes.some;
      differ = notes.differ;
      orderly = notes.orderly;
    }

tells_trimmed : (units : Journal) (f : File) → TellsUnits units f → TellsUnits (trimmed units) f
tells_trimmed units f tells = record { notes = trim_noted units f.name f.history tells.notes; end = tells.end }

-- the unsettled changes of the file are the same before and after them
live_stays : (units : Journal) (held : Key → Bool) (s : Settlement) (c : Change) (cs : List Change) (f : File) → s.outcome ≡ Commit → is_unit s.serial units ≡ false → HasNotes units f.name f.history → (directly_changed held s (c ∷ cs) f).history.live ≡ f.history.live
live_stays units held s c cs f commit fresh notes =
    ap (λ (o : Outcome). (settled_at s.serial o s.moment (changed_with s.serial (c ∷ cs) f.history)).live) commit ∙ live_same s.serial c cs s.moment f.history (none_of units s.serial f.history.live fresh notes.units)

tells_direct : (units : Journal) (f : File) (held : Key → Bool) (s : Settlement) (c : Change) (cs : List Change) → s.outcome ≡ Commit → is_unit s.serial units ≡ false → AreFree s.serial f (c ∷ cs) → Found (c ∷ cs) (current f.history) → TellsUnits units f →
    TellsUnits (trimmed units) (directly_changed held s (c ∷ cs) f)
tells_direct units f held s c cs commit fresh free found tells =
    let kept = trim_noted units f.name f.history tells.notes in
    let after = live_stays units held s c cs f commit fresh tells.notes in
    record {
      notes = record {
        notes = λ x u. kept.notes x u ∙ ap (λ (ls : List LiveChanges). map note_of (changes_by x ls)) (sym after);
        units = subst (AllByRecursion (λ (l : LiveChanges). is_unit l.serial (trimmed units) ≡ true)) (sym after) kept.units;
        some = subst (AllByRecursion (λ (l : LiveChanges). has_changes l.changes ≡ true)) (sym after) kept.some;
        differ = subst SerialsDiffer (sym after) kept.differ;
        orderly = subst (λ (o : Outcome). IsOrderly (settled_at s.serial o s.moment (changed_with s.serial (c ∷ cs) f.history))) (sym commit)
            (commits_one (changed_with s.serial (c ∷ cs) f.history) s.serial s.moment (changes_more f.history s.serial (c ∷ cs) tells.notes.orderly free found).orderly).orderly;
      };
      end = subst (OneMovesEndOf f.organization) (sym after) tells.end;
    }

directs : (n : Node) (name : List ℕ) (file : File) (c : Change) (cs : List Change) (s : Settlement) → AreUnitsOf n → s.outcome ≡ Commit → find_file name n.durable.directory ≡ Some file → is_unit s.serial n.durable.units ≡ false →
    AreFree s.serial file (c ∷ cs) → Found (c ∷ cs) (current file.history) → AreUnitsOf (acted (world.Directs name (c ∷ cs) s) n)
directs n name file c cs s are commit there fresh free found =
    let at = found_there name n.durable.directory file there in
    let held = is_locked n.volatile.locks name in
    let tells = are.tells at.0 file at.1.there in
    kept_set n (acted (world.Directs name (c ∷ cs) s) n) at.0 (directly_changed held s (c ∷ cs) file) file are at.1.there (at.1.changed (directly_changed held s (c ∷ cs))) refl
    (tells_direct n.durable.units file held s c cs commit fresh free found tells)
    (λ p g other g_at. tells_trimmed n.durable.units g (are.tells p g g_at)) (reached_from n (units_in n.durable.units.entries) n.durable.units.entries are.reached) (λ up. up)
    (λ up off. subst (AllByRecursion (λ (l : LiveChanges). IsPreparedUnit (trimmed n.durable.units) l.serial)) (sym (live_stays n.durable.units held s c cs file commit fresh tells.notes))
    (all_as (λ (l : LiveChanges). IsPreparedUnit n.durable.units l.serial) (λ (l : LiveChanges). IsPreparedUnit (trimmed n.durable.units) l.serial) file.history.live (λ l so. prepared_trimmed n.durable.units l.serial so) (are.marked up at.0 file at.1.there off)))
    (λ y so. prepared_trimmed n.durable.units y so)

-- END_TRANS, ABORT
mapped : (s : Settlement) (o : Option File) (g : File) → option_map (settled_file s) o ≡ Some g → (f : File) × (o ≡ Some f) × (settled_file s f ≡ g)
mapped s None g is = let none : ⊥ = cc in absurd none
mapped s (Some f) g is = (f, refl, one is)
  where
    one : Some (settled_file s f) ≡ Some g → settled_file s f ≡ g
    one e = cc

end_settled : (o : Organization) (ls : List LiveChanges) (serial : Id) → OneMovesEndOf o ls → OneMovesEndOf o (without serial ls)
end_settled world.Sequential ls serial one = settles_keep_end ls serial one
end_settled (world.Relative greatest) ls serial one = tt
end_settled (world.Indexed position size) ls serial one = tt

tells_settled : (units : Journal) (f : File) (s : Settlement) → TellsUnits units f → TellsUnits (with_settled s.tid s.serial s.outcome s.moment units) (settled_file s f)
tells_settled units f s tells =
    let after = live_settled f s tells.notes.some in
    record {
      notes = settles_keep_notes units f.name f.history s.tid s.serial s.outcome s.moment tells.notes;
      end = subst (OneMovesEndOf f.organization) (sym after) (end_settled f.organization f.history.live s.serial tells.end);
    }

abbrev entry_of : Settlement → JournalEntry
entry_of s = SettledEntry s.tid s.serial s.outcome s.moment

-- a node whose files noted a settlement, in their histories and in the journal
module _ (n m : Node) (s : Settlement) (are : AreUnitsOf n) (boot : m.durable.boot ≡ n.durable.boot) (name : m.name ≡ n.name) (up : m.up ≡ n.up) (directory : m.durable.directory ≡ map (option_map (settled_file s)) n.durable.directory)
    (units : m.durable.units ≡ with_settled s.tid s.serial s.outcome s.moment n.durable.units) where
  was : (p : ℕ) (g : File) → file_at m.durable.directory p ≡ Some g → (f : File) × (file_at n.durable.directory p ≡ Some f) × (settled_file s f ≡ g)
  was p g at = mapped s (file_at n.durable.directory p) g (sym (file_mapped (settled_file s) n.durable.directory p) ∙ sym (ap (λ (d : List (Option File)). file_at d p) directory) ∙ at)

  reached_settled : (o : Option RecoveryUnit) → find_unit s.serial (units_in n.durable.units.entries) ≡ o → AllReached n (trimmed (elim o [ Some u ↦ with_entries (entry_of s ∷ []) n.durable.units | None ↦ n.durable.units ])).entries
  reached_settled (Some u) is = reached_from n (units_in (n.durable.units.entries ++ entry_of s ∷ [])) (n.durable.units.entries ++ entry_of s ∷ [])
      (reached_append n n.durable.units.entries (entry_of s ∷ []) are.reached (reached_unit n s.serial n.durable.units.entries false (sym (found_onto s.serial n.durable.units.entries []) ∙ ap is_some is) (λ wrong. absurd cc) are.reached, tt))
  reached_settled None is = reached_from n (units_in n.durable.units.entries) n.durable.units.entries are.reached

  pub settled_units : AreUnitsOf m
  settled_units = record {
    tells = λ p g at. let f = was p g at in subst (λ (j : Journal). TellsUnits j g) (sym units) (subst (TellsUnits (with_settled s.tid s.serial s.outcome s.moment n.durable.units)) f.2 (tells_settled n.durable.units f.0 s (are.tells p f.0 f.1)));
    marked = λ is_up p g at off.
        let f = was p g at in
        subst (λ (j : Journal). AllPreparedIn j g) (sym units) (subst (AllPreparedIn (with_settled s.tid s.serial s.outcome s.moment n.durable.units)) f.2
        (prepared_settled n.durable.units f.0 s (are.tells p f.0 f.1).notes.some (are.tells p f.0 f.1).notes.differ (are.marked (sym up ∙ is_up) p f.0 f.1 (ap (λ (y : File). y.recovery_units) f.2 ∙ off))));
    reached = reached_at n m name boot m.durable.units.entries (subst (λ (j : Journal). AllReached n j.entries) (sym units) (reached_settled (find_unit s.serial (units_in n.durable.units.entries)) refl));
    names = λ p q a b at there same. let f = was p a at in let g = was q b there in are.names p q f.0 g.0 f.1 g.1 (ap (λ (y : File). y.name) f.2 ∙ same ∙ sym (ap (λ (y : File). y.name) g.2));
  }

-- PREPARE
prepares : (n : Node) (b : table.Branch) (moment : ℕ) → AreUnitsOf n → AreUnitsOf (acted (world.Tables (table.Prepares b) moment) n)
prepares n b moment are = go (find_unit b.key.serial (units_in n.durable.units.entries)) refl
  where
    -- the node with this journal
    after : Journal → Node
    after j = record (acted (world.Tables (table.Prepares b) moment) n) { durable = record (acted (world.Tables (table.Prepares b) moment) n).durable { units = j } }

    go : (o : Option RecoveryUnit) → find_unit b.key.serial (units_in n.durable.units.entries) ≡ o → AreUnitsOf (after (elim o [ Some u ↦ with_entries (PreparedEntry b.key.tid b.key.serial ∷ []) n.durable.units | None ↦ n.durable.units ]))
    go None is = record { tells = are.tells; marked = are.marked; reached = are.reached; names = are.names }
    go (Some u) is = record {
      tells = λ p f at. record { notes = prepares_keep_notes n.durable.units f.name f.history b.key.tid b.key.serial (are.tells p f at).notes; end = (are.tells p f at).end };
      marked = λ up p f at off. all_as (λ (l : LiveChanges). IsPreparedUnit n.durable.units l.serial) (λ (l : LiveChanges). IsPreparedUnit (with_entries (PreparedEntry b.key.tid b.key.serial ∷ []) n.durable.units) l.serial) f.history.live
          (λ l so. prepared_again n.durable.units b.key.tid b.key.serial u l.serial is so) (are.marked up p f at off);
      reached = reached_append n n.durable.units.entries (PreparedEntry b.key.tid b.key.serial ∷ []) are.reached
          (reached_unit n b.key.serial n.durable.units.entries false (sym (found_onto b.key.serial n.durable.units.entries []) ∙ ap is_some is) (λ wrong. absurd cc) are.reached, tt);
      names = are.names;
    }

tables : (n : Node) (a : table.Act) (moment : ℕ) → AreUnitsOf n → AreUnitsOf (acted (world.Tables a moment) n)
tables n (table.Prepares b) moment are = prepares n b moment are
tables n (table.Settles k outcome reason r) moment are = settled_units n (acted (world.Tables (table.Settles k outcome reason r) moment) n) (settlement k outcome reason moment) are refl refl refl refl refl
tables n (table.Undoes k) moment are = settled_units n (acted (world.Tables (table.Undoes k) moment) n) (settlement k Abort SegFail moment) are refl refl refl refl refl
tables n _ moment are = record { tells = are.tells; marked = are.marked; reached = are.reached; names = are.names }

pub keeps_units : KeepsUnits
keeps_units = record {
  formats = formats;
  boots = boots;
  draws = λ n are. record { tells = are.tells; marked = are.marked; reached = are.reached; names = are.names };
  clocks = λ n now are. record { tells = are.tells; marked = are.marked; reached = are.reached; names = are.names };
  holds = λ n serial name keys are. record { tells = are.tells; marked = are.marked; reached = are.reached; names = are.names };
  creates = creates;
  marks = marks;
  saves = saves;
  recovers = recovers;
  changes = changes;
  directs = directs;
  tables = tables;
}
