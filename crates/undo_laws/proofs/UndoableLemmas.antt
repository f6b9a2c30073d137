-- A branch that left changes in a volume can be undone there.
use Rattle.std.proofs.Common.{◌≡◌, ℕ, ◌≤◌, true, List, map, Option, Some, None, refl, sym, ◌∙◌, ap, subst, inl, inr, arith, Bool, false, cond, [], ◌∷◌}
use Rattle.std.specs.Prelude.{◌==◌}
use Rattle.std.specs.List.{AllByRecursion}
use Rattle.std.specs.Str.{bytes_eq}
use Rattle.std.proofs.lemmas.Bool.{cases_eq, false_from_ne_true}
use Rattle.std.proofs.lemmas.Slice.Eq.{bytes_eq-Decides}
use Rattle.file_base.specs.declared.head.FileHead.{FileHead}
use Rattle.file_base.specs.declared.head.Organization.{Organization as Kept}
use Rattle.file_base.specs.declared.head.Organization.TheVariants as kept
use Rattle.vms_model.specs.Ids.{Id}
use Rattle.vms_model.specs.Keys.{Key, Number, Text, End}
use Rattle.records_model.specs.History.{LiveChanges, same_id, changes_by, changes_key}
use Rattle.records_model.specs.Records.{Change}
use Rattle.unit_laws.proofs.Tests.{never}
use Rattle.unit_laws.proofs.LiveLemmas.{id_is}
use Rattle.unit_laws.specs.Journal.{Journal, note_of}
use Rattle.unit_laws.specs.JournalLaws.{is_unit}
use Rattle.unit_laws.specs.Units.{OneMovesEnd}
use Rattle.world_laws.specs.run_model.World.{Node, File, Organization, Sequential, OneMovesEndOf, find_file}
use Rattle.world_laws.specs.Ordered.{IsKeyOf}
use Rattle.volume.specs.State.{VolumeState, Holds}
use Rattle.unit_undo.specs.directory_model.Files.{head_at, file_at, organized_by}
use Rattle.unit_undo.specs.directory_model.Restoring.{IsLeft, IsPlaceLeft}
use Rattle.unit_undo.proofs.directory_model.Finding.{found_at}
use Rattle.settlement_laws.specs.volume_model.Volumes.{LeavesVolume}
use Rattle.unit_undo.specs.unit_entries.Told.{notes_of as notes_on}
use Rattle.unit_undo.proofs.unit_entries.KeyLemmas.{number_is, number_itself}
use Rattle.unit_undo.specs.Steps.{ArePositions}
use Rattle.unit_undo.specs.Way.{IsUndoable}
use Rattle.undo_laws.specs.Undoable.{UnitsAreUndoable, entered_at, entered_by}
use Rattle.undo_laws.proofs.EnteredLemmas.{entries_stand}
use Rattle.undo_laws.proofs.NoteLemmas.{IsOneFile, keys_suit, notes_alike}

place_left : (a : List (List ℕ)) (f : ℕ) (o : Option FileHead) (p : Option File) (h : FileHead) → o ≡ Some h → IsPlaceLeft a f o p → (x : File) × (p ≡ Some x) × IsLeft a h x
place_left a f None p h there left = let never : ⊥ = cc in absurd never
place_left a f (Some k) None h there left = absurd left
place_left a f (Some k) (Some x) h there left = let same : k ≡ h = cc in (x, refl, subst (λ (y : FileHead). IsLeft a y x) same left.0)

head_left : (a : List (List ℕ)) (f : ℕ) (o : Option FileHead) (p : Option File) (x : File) → p ≡ Some x → IsPlaceLeft a f o p → (h : FileHead) × (o ≡ Some h) × IsLeft a h x
head_left a f o None x there left = let never : ⊥ = cc in absurd never
head_left a f None (Some y) x there left = absurd left
head_left a f (Some h) (Some y) x there left = let same : y ≡ x = cc in (h, refl, subst (λ (z : File). IsLeft a h z) same left.0)

some_file : (x y : File) → Some x ≡ Some y → x ≡ y
some_file x y e = cc

position_of : (key : Key) → IsKeyOf Sequential key → (n : ℕ) × (key ≡ Number n) × (1 ≤ n)
position_of (Number n) is = (n, refl, is.0)
position_of (Text bytes) is = absurd is
position_of End is = absurd is

kept_sequential : (o : Kept) (h : FileHead) → o ≡ kept.Sequential → organized_by o h ≡ Sequential
kept_sequential o h is = ap (λ (x : Kept). organized_by x h) is

module _ (a : List (List ℕ)) (v : VolumeState) (n : Node) (serial : Id) (left : LeavesVolume a v.catalog n) where
  abbrev directory : List (Option File)
  directory = n.durable.directory

  at_head : (f : ℕ) (h : FileHead) → head_at v.catalog.heads f ≡ Some h → (x : File) × (file_at directory f ≡ Some x) × IsLeft a h x
  at_head f h there = place_left a f (head_at v.catalog.heads f) (file_at directory f) h there (left.files.each f)

  at_file : (f : ℕ) (x : File) → file_at directory f ≡ Some x → (h : FileHead) × (head_at v.catalog.heads f ≡ Some h) × IsLeft a h x
  at_file f x there = head_left a f (head_at v.catalog.heads f) (file_at directory f) x there (left.files.each f)

  found : (f : ℕ) (x : File) → file_at directory f ≡ Some x → find_file x.name directory ≡ Some x
  found f x there = (found_at x.name directory f x there refl (λ g other below at same. let one = left.units.names g f other x at there same in omega (arith, below, one))).found

  module _ (f : ℕ) (file : File) (there : file_at directory f ≡ Some file) where
    one_file : IsOneFile v.catalog.heads directory f file
    one_file = record {
      tied = tied;
      found = λ g k at. let x = at_head g k at in (x.0, ap (λ (name : List ℕ). find_file name directory) (sym x.2.head.name) ∙ found g x.0 x.1, x.2.head.organization);
    }
      where
        tied : (g : ℕ) (k : FileHead) → head_at v.catalog.heads g ≡ Some k → (g == f) ≡ bytes_eq file.name k.name
        tied g k at = elim (cases_eq g f) [
          | inl same ↦ ap (λ (m : ℕ). m == f) same ∙ number_itself f ∙ sym ((bytes_eq-Decides file.name k.name).1 (own same))
          | inr other ↦ false_from_ne_true _ (λ (e : (g == f) ≡ true). other (number_is g f e))
              ∙ sym (false_from_ne_true _ (λ (e : bytes_eq file.name k.name ≡ true). other (left.units.names g f x.0 file x.1 there (x.2.head.name ∙ sym ((bytes_eq-Decides file.name k.name).0 e)))))
        ]
          where
            x : (y : File) × (file_at directory g ≡ Some y) × IsLeft a k y
            x = at_head g k at

            own : g ≡ f → file.name ≡ k.name
            own same = ap (λ (y : File). y.name) (sym (some_file x.0 file (sym x.1 ∙ ap (file_at directory) same ∙ there))) ∙ x.2.head.name

    notes : is_unit serial n.durable.units ≡ true → map note_of (changes_by serial file.history.live) ≡ notes_on f v.catalog.heads (entered_by serial v.catalog left.journal.entries)
    notes unit =
        sym (notes_alike serial v.catalog.heads directory f file one_file v.catalog.ru.first n.durable.units.entries left.journal.entries left.journal.alike left.order.suit
        ∙ (left.units.tells f file there).notes.notes serial unit)

    organized : (h : FileHead) → head_at v.catalog.heads f ≡ Some h → h.organization ≡ kept.Sequential → file.organization ≡ Sequential
    organized h at sequential =
        let x = at_head f h at in
        ap (λ (y : File). y.organization) (sym (some_file x.0 file (sym x.1 ∙ there))) ∙ x.2.head.organization ∙ kept_sequential h.organization h sequential

    positions : is_unit serial n.durable.units ≡ true → (h : FileHead) → head_at v.catalog.heads f ≡ Some h → h.organization ≡ kept.Sequential → ArePositions (changes_by serial file.history.live)
    positions unit h at sequential key changed =
        position_of key (subst (λ (o : Organization). IsKeyOf o key) (organized h at sequential) (keys_suit serial directory file n.durable.units.entries (changes_by serial file.history.live) (found f file there) left.order.suit ((left.units.tells f file there).notes.notes serial unit) key changed))

    ends : (h : FileHead) → head_at v.catalog.heads f ≡ Some h → h.organization ≡ kept.Sequential → OneMovesEnd file.history.live
    ends h at sequential = subst (λ (o : Organization). OneMovesEndOf o file.history.live) (organized h at sequential) (left.units.tells f file there).end

-- a branch that is no unit of the journal changed nothing
changes_none : (serial : Id) (j : Journal) (ls : List LiveChanges) → is_unit serial j ≡ false → AllByRecursion (λ (l : LiveChanges). is_unit l.serial j ≡ true) ls → changes_by serial ls ≡ []
changes_none serial j [] none all = refl
changes_none serial j (l ∷ ls) none all = step (same_id serial l.serial) refl (changes_none serial j ls none all.1)
  where
    step : (b : Bool) → same_id serial l.serial ≡ b → changes_by serial ls ≡ [] → cond b l.changes (changes_by serial ls) ≡ []
    step true same rest = absurd (never (is_unit serial j) (subst (λ (x : Id). is_unit x j ≡ true) (sym (id_is serial l.serial same)) all.0) none)
    step false other rest = rest

module _ (a : List (List ℕ)) (v : VolumeState) (n : Node) (serial : Id) (left : LeavesVolume a v.catalog n) (told : v.store.current ≡ Some a) (holds : Holds v) where
  abbrev Can : Bool → Type 0
  Can b = IsUndoable serial (cond b (entered_at serial v.catalog left.journal.entries) []) v a n.durable.directory (cond b (entered_by serial v.catalog left.journal.entries) [])

  can : (b : Bool) → is_unit serial n.durable.units ≡ b → Can b
  can true unit = record {
    told = told;
    holds = holds;
    left = left.files;
    entries = entries_stand a v.catalog.ru left.journal.entries left.journal.is serial;
    notes = λ f file there. notes a v n serial left f file there unit;
    positions = λ f h file at there sequential. positions a v n serial left f file there unit h at sequential;
    ends = λ f h file at there sequential. ends a v n serial left f file there h at sequential;
  }
  can false none = record {
    told = told;
    holds = holds;
    left = left.files;
    entries = tt;
    notes = λ f file there. ap (map note_of) (nothing f file there);
    positions = λ f h file at there sequential key changed. let no : changes_key key [] ≡ true = subst (λ (cs : List Change). changes_key key cs ≡ true) (nothing f file there) changed in absurd cc;
    ends = λ f h file at there sequential. ends a v n serial left f file there h at sequential;
  }
    where
      nothing : (f : ℕ) (file : File) → file_at n.durable.directory f ≡ Some file → changes_by serial file.history.live ≡ []
      nothing f file there = changes_none serial n.durable.units file.history.live none (left.units.tells f file there).notes.units

  pub unit_undoable : Can (is_unit serial n.durable.units)
  unit_undoable = can (is_unit serial n.durable.units) refl

pub units_are_undoable : UnitsAreUndoable
units_are_undoable = unit_undoable
