-- Which files a branch changed, by the entries of a journal as by the histories of a node's files.
use Rattle.std.proofs.Common.{inl, inr, ◌≡◌, ℕ, zero, suc, ◌+◌, ◌<◌, ◌==◌, ◌&&◌, ◌||◌, List, [], ◌∷◌, ◌++◌, Bool, true, false, Option, Some, None, if◌then◌else◌, length, map, slice_index_or, slice_set, refl, sym, ◌∙◌, ap, subst, arith, length-set, get_or-set_same, get_or-set_other}
use Rattle.std.specs.Prelude.{is_some, replicate}
use Rattle.std.specs.Option.{IfSome}
use Rattle.std.specs.List.{AllByRecursion, list_any}
use Rattle.std.specs.Str.{bytes_eq}
use Rattle.std.proofs.lemmas.Bool.{both_ways, cases_eq, false_from_ne_true}
use Rattle.std.proofs.lemmas.Slice.Eq.{bytes_eq-Decides}
use Rattle.vms_model.specs.Ids.{Id}
use Rattle.records_model.specs.Records.{Change}
use Rattle.records_model.specs.History.{LiveChanges, changed_it, changes_by, same_id}
use Rattle.file_base.specs.declared.head.FileHead.{FileHead}
use Rattle.journal_model.specs.Entries.{Entry, spelling}
use Rattle.journal_model.specs.Ring.{IsJournal}
use Rattle.recovery_units.specs.run_model.World.{AreUnitsOf, File, Node}
use Rattle.unit_world.specs.directory_model.Files.{file_at, head_at}
use Rattle.unit_world.specs.directory_model.Restoring.{IsPlaceLeft}
use Rattle.unit_world.proofs.directory_model.Places.{within_list}
use Rattle.undo_laws.proofs.EnteredLemmas.{entries_stand}
use Rattle.rms_units.specs.unit_aborts.Reopening.{AreFound}
use Rattle.recovery_units.specs.unit_entries.Collecting.{AreChangesAt}
use Rattle.recovery_units.specs.unit_entries.Opening.{AreFilesAt, AreFilesOf, files_in, files_onto}
use Rattle.recovery_units.specs.unit_entries.Reading as entries
use Rattle.recovery_units.specs.unit_entries.Reading.{changes_of, is_change_of, placed}
use Rattle.undo_laws.proofs.unit_entries.KeyLemmas.{number_is, number_itself}
use Rattle.unit_laws.specs.Journal.{ChangeEntry, Journal, JournalEntry, Note, PreparedEntry, RecoveryUnit, SettledEntry, find_unit, is_of_units, is_settled_in, note_of, notes_in, notes_of, units_in}
use Rattle.unit_laws.specs.JournalLaws.{HasNotes, is_unit}
use Rattle.unit_table.specs.Units.{no_files}
use Rattle.volume.specs.State.{VolumeState}
use Rattle.recovery_units.specs.volume_model.Entries.{AreEntries, IsFileOf, entry_for}
use Rattle.recovery_units.specs.volume_model.Volumes.{LeavesVolume}
use Rattle.recovery_units.proofs.world_laws.IdLemmas.{id_is}
use Rattle.recovery_units.specs.State.{changed_at, is_change_by}
use Rattle.node_units.proofs.Positions.{changes_of_units}

-- Whether there are notes.

abbrev pub some_noted : List Note → Bool
some_noted [] = false
some_noted (n ∷ ns) = true

note_more : (ns ms : List Note) → some_noted (ns ++ ms) ≡ (some_noted ms || some_noted ns)
note_more [] ms = sym (no_more (some_noted ms))
  where
    no_more : (b : Bool) → (b || false) ≡ b
    no_more true = refl
    no_more false = refl
note_more (n ∷ ns) ms = all (some_noted ms)
  where
    all : (b : Bool) → true ≡ (b || true)
    all true = refl
    all false = refl

-- A branch without a unit has no changes.

pub quiet : (x : Id) (es : List JournalEntry) → is_settled_in x es ≡ false → find_unit x (units_in es) ≡ None → AllByRecursion (λ (e : JournalEntry). is_change_by x e ≡ false) es
quiet x es off none = all es (changes_of_units x es off)
  where
    one : (e : JournalEntry) → (is_change_by x e ≡ true → is_of_units (units_in es) e ≡ true) → is_change_by x e ≡ false
    one (PreparedEntry tid by) of = refl
    one (SettledEntry tid by outcome moment) of = refl
    one (ChangeEntry tid by file key before) of = false_from_ne_true (same_id x by) (λ own. both_ways _ (ap is_some none) (subst (λ (y : Id). is_some (find_unit y (units_in es)) ≡ true) (sym (id_is x by own)) (of own)))

    all : (fs : List JournalEntry) → AllByRecursion (λ (e : JournalEntry). is_change_by x e ≡ true → is_of_units (units_in es) e ≡ true) fs → AllByRecursion (λ (e : JournalEntry). is_change_by x e ≡ false) fs
    all [] of = tt
    all (e ∷ fs) of = (one e of.0, all fs of.1)

quiet_notes : (x : Id) (name : List ℕ) (es : List JournalEntry) → AllByRecursion (λ (e : JournalEntry). is_change_by x e ≡ false) es → notes_in x name es ≡ []
quiet_notes x name [] none = refl
quiet_notes x name (e ∷ es) none = (λ i. quiet_notes x name es none.1 i ++ one e none.0 i)
  where
    one : (e : JournalEntry) → is_change_by x e ≡ false → notes_of x name e ≡ []
    one (PreparedEntry tid by) off = refl
    one (SettledEntry tid by outcome moment) off = refl
    one (ChangeEntry tid by file key before) off = ap (λ (b : Bool). if b && bytes_eq name file then (key, before) ∷ [] else []) off

live_none : (x : Id) (j : Journal) (ls : List LiveChanges) → is_unit x j ≡ false → AllByRecursion (λ (l : LiveChanges). is_unit l.serial j ≡ true) ls → changes_by x ls ≡ []
live_none x j [] none all = refl
live_none x j (l ∷ ls) none all = step (same_id x l.serial) refl (live_none x j ls none all.1)
  where
    step : (b : Bool) → same_id x l.serial ≡ b → changes_by x ls ≡ [] → (if b then l.changes else changes_by x ls) ≡ []
    step true same rest = absurd (both_ways _ none (subst (λ (y : Id). is_unit y j ≡ true) (sym (id_is x l.serial same)) all.0))
    step false other rest = rest

-- the entries of a branch's changes
abbrev pub entries_by : Id → ℕ → List Entry → List Entry
entries_by x p ds = map (λ (e : ℕ × Entry). e.1) (changes_of x (placed p ds))

-- the file of a head
pub record HeadsFile (directory : List (Option File)) (g : ℕ) (h : FileHead) : Type 0 where
  pub file : File
  pub at : file_at directory g ≡ Some file
  pub name : file.name ≡ h.name

-- Entries of a journal, and the files of a node.

module _ (heads : List (Option FileHead)) (directory : List (Option File)) (names : (p q : ℕ) (f g : File) → slice_index_or directory p None ≡ Some f → slice_index_or directory q None ≡ Some g → f.name ≡ g.name → p ≡ q)
    (tie : (g : ℕ) (h : FileHead) → head_at heads g ≡ Some h → HeadsFile directory g h) where
  module _ (f : ℕ) (file : File) (there : file_at directory f ≡ Some file) where
    tied : (g : ℕ) (h : FileHead) → head_at heads g ≡ Some h → (g == f) ≡ bytes_eq file.name h.name
    tied g h at = elim (cases_eq g f) [
      | inl same ↦ ap (λ (m : ℕ). m == f) same ∙ number_itself f ∙ sym ((bytes_eq-Decides file.name h.name).1 (own same))
      | inr other ↦ false_from_ne_true _ (λ (e : (g == f) ≡ true). other (number_is g f e))
          ∙ sym (false_from_ne_true _ (λ (e : bytes_eq file.name h.name ≡ true). other (names g f x.file file x.at there (x.name ∙ sym ((bytes_eq-Decides file.name h.name).0 e)))))
    ]
      where
        x : HeadsFile directory g h
        x = tie g h at

        one : ◌≡◌ {A = Option File} (Some x.file) (Some file) → x.file ≡ file
        one e = cc

        own : g ≡ f → file.name ≡ h.name
        own same = ap (λ (y : File). y.name) (sym (one (sym x.at ∙ ap (file_at directory) same ∙ there))) ∙ x.name

    pub noted_alike : (x : Id) (p : ℕ) (es : List JournalEntry) (ds : List Entry) → AreEntries heads es ds → list_any (λ (e : Entry). e.file == f) (entries_by x p ds) ≡ some_noted (notes_in x file.name es)
    noted_alike x p [] [] are = refl
    noted_alike x p [] (d ∷ ds) are = absurd are
    noted_alike x p (e ∷ es) [] are = absurd are
    noted_alike x p (e ∷ es) (d ∷ ds) are =
        subst (λ (y : Entry). list_any (λ (e : Entry). e.file == f) (map (λ (z : ℕ × Entry). z.1) (if is_change_of x y then (p, y) ∷ later else later)) ≡ some_noted (notes_in x file.name (e ∷ es))) (sym are.2)
        (one e are.1 (noted_alike x (p + length (spelling d)) es ds are.3))
      where
        later : List (ℕ × Entry)
        later = changes_of x (placed (p + length (spelling d)) ds)

        none : (b : Bool) → b ≡ (false || b)
        none b = refl

        one : (e : JournalEntry) → IsFileOf heads e are.0 → list_any (λ (e : Entry). e.file == f) (map (λ (z : ℕ × Entry). z.1) later) ≡ some_noted (notes_in x file.name es) →
            list_any (λ (e : Entry). e.file == f) (map (λ (z : ℕ × Entry). z.1) (if is_change_of x (entry_for are.0 e) then (p, entry_for are.0 e) ∷ later else later)) ≡ some_noted (notes_in x file.name (e ∷ es))
        one (PreparedEntry tid by) of rest = rest ∙ sym (note_more (notes_in x file.name es) [])
        one (SettledEntry tid by outcome moment) of rest = rest ∙ sym (note_more (notes_in x file.name es) [])
        one (ChangeEntry tid by name key before) of rest = go (same_id x by) ∙ sym (note_more (notes_in x file.name es) (if same_id x by && bytes_eq file.name name then (key, before) ∷ [] else []))
          where
            same : (are.0 == f) ≡ bytes_eq file.name name
            same = tied are.0 of.0 of.1 ∙ ap (bytes_eq file.name) of.2

            some_if : (b : Bool) → b ≡ some_noted (if b then (key, before) ∷ [] else [])
            some_if true = refl
            some_if false = refl

            go : (b : Bool) → list_any (λ (e : Entry). e.file == f) (map (λ (z : ℕ × Entry). z.1) (if b then (p, entry_for are.0 (ChangeEntry tid by name key before)) ∷ later else later)) ≡
                (some_noted (if b && bytes_eq file.name name then (key, before) ∷ [] else []) || some_noted (notes_in x file.name es))
            go true = λ i. (same ∙ some_if (bytes_eq file.name name)) i || rest i
            go false = rest

  -- a file that is not there is none of them
  pub none_noted : (f : ℕ) → file_at directory f ≡ None → (x : Id) (p : ℕ) (es : List JournalEntry) (ds : List Entry) → AreEntries heads es ds → list_any (λ (e : Entry). e.file == f) (entries_by x p ds) ≡ false
  none_noted f none x p [] [] are = refl
  none_noted f none x p [] (d ∷ ds) are = absurd are
  none_noted f none x p (e ∷ es) [] are = absurd are
  none_noted f none x p (e ∷ es) (d ∷ ds) are =
      subst (λ (y : Entry). list_any (λ (e : Entry). e.file == f) (map (λ (z : ℕ × Entry). z.1) (if is_change_of x y then (p, y) ∷ later else later)) ≡ false) (sym are.2)
      (one e are.1 (none_noted f none x (p + length (spelling d)) es ds are.3))
    where
      later : List (ℕ × Entry)
      later = changes_of x (placed (p + length (spelling d)) ds)

      one : (e : JournalEntry) → IsFileOf heads e are.0 → list_any (λ (e : Entry). e.file == f) (map (λ (z : ℕ × Entry). z.1) later) ≡ false →
          list_any (λ (e : Entry). e.file == f) (map (λ (z : ℕ × Entry). z.1) (if is_change_of x (entry_for are.0 e) then (p, entry_for are.0 e) ∷ later else later)) ≡ false
      one (PreparedEntry tid by) of rest = rest
      one (SettledEntry tid by outcome moment) of rest = rest
      one (ChangeEntry tid by name key before) of rest = go (same_id x by)
        where
          other : (are.0 == f) ≡ false
          other = false_from_ne_true (are.0 == f) (λ same.
              let y = tie are.0 of.0 of.1 in
              let clash : ◌≡◌ {A = Option File} None (Some y.file) = sym none ∙ ap (file_at directory) (sym (number_is are.0 f same)) ∙ y.at in
              let never : ⊥ = cc in never)

          go : (b : Bool) → list_any (λ (e : Entry). e.file == f) (map (λ (z : ℕ × Entry). z.1) (if b then (p, entry_for are.0 (ChangeEntry tid by name key before)) ∷ later else later)) ≡ false
          go true = λ i. other i || rest i
          go false = rest

-- The units of a node.

module _ (heads : List (Option FileHead)) (n : Node) (units : AreUnitsOf n) (tie : (g : ℕ) (h : FileHead) → head_at heads g ≡ Some h → HeadsFile n.durable.directory g h) (p : ℕ) (ds : List Entry)
    (alike : AreEntries heads n.durable.units.entries ds) where
  abbrev es : List JournalEntry
  es = n.durable.units.entries

  -- a file that a branch changed is one of those that its entries tell
  pub file_bits : (x : Id) → is_settled_in x es ≡ false → (f : ℕ) → changed_at x (file_at n.durable.directory f) ≡ list_any (λ (e : Entry). e.file == f) (entries_by x p ds)
  file_bits x off f = go (file_at n.durable.directory f) refl
    where
      go : (o : Option File) → file_at n.durable.directory f ≡ o → changed_at x o ≡ list_any (λ (e : Entry). e.file == f) (entries_by x p ds)
      go None there = sym (none_noted heads n.durable.directory units.names tie f there x p es ds alike)
      go (Some file) there = by (find_unit x (units_in es)) refl ∙ sym (noted_alike heads n.durable.directory units.names tie f file there x p es ds alike)
        where
          notes : HasNotes n.durable.units file.name file.history
          notes = (units.tells f file there).notes

          of_changes : (cs : List Change) → (elim cs as (λ _. Bool) [ [] ↦ false | c ∷ cs ↦ true ]) ≡ some_noted (map note_of cs)
          of_changes [] = refl
          of_changes (c ∷ cs) = refl

          by : (o : Option RecoveryUnit) → find_unit x (units_in es) ≡ o → changed_it file.history x ≡ some_noted (notes_in x file.name es)
          by (Some u) is = of_changes (changes_by x file.history.live) ∙ ap some_noted (sym (notes.notes x (ap is_some is)))
          by None is =
              ap (λ (cs : List Change). elim cs as (λ _. Bool) [ [] ↦ false | c ∷ cs ↦ true ]) (live_none x n.durable.units file.history.live (ap is_some is) notes.units)
              ∙ sym (ap some_noted (quiet_notes x file.name es (quiet x es off is)))

pub files_below : (heads : List (Option FileHead)) → length heads ≡ 64 → (x : Id) (p : ℕ) (fs : List JournalEntry) (gs : List Entry) → AreEntries heads fs gs → AllByRecursion (λ (e : Entry). e.file < 64) (entries_by x p gs)
files_below heads long x p [] [] are = tt
files_below heads long x p [] (g ∷ gs) are = absurd are
files_below heads long x p (e ∷ fs) [] are = absurd are
files_below heads long x p (e ∷ fs) (g ∷ gs) are =
    subst (λ (y : Entry). AllByRecursion (λ (e : Entry). e.file < 64) (map (λ (z : ℕ × Entry). z.1) (if is_change_of x y then (p, y) ∷ later else later))) (sym are.2) (one e are.1 (files_below heads long x (p + length (spelling g)) fs gs are.3))
  where
    later : List (ℕ × Entry)
    later = changes_of x (placed (p + length (spelling g)) gs)

    one : (e : JournalEntry) → IsFileOf heads e are.0 → AllByRecursion (λ (e : Entry). e.file < 64) (map (λ (z : ℕ × Entry). z.1) later) →
        AllByRecursion (λ (e : Entry). e.file < 64) (map (λ (z : ℕ × Entry). z.1) (if is_change_of x (entry_for are.0 e) then (p, entry_for are.0 e) ∷ later else later))
    one (PreparedEntry tid by) of rest = rest
    one (SettledEntry tid by outcome moment) of rest = rest
    one (ChangeEntry tid by file key before) of rest = go (same_id x by)
      where
        go : (b : Bool) → AllByRecursion (λ (e : Entry). e.file < 64) (map (λ (z : ℕ × Entry). z.1) (if b then (p, entry_for are.0 (ChangeEntry tid by file key before)) ∷ later else later))
        go true = ((let within = within_list heads are.0 of.0 of.1 in omega (arith, within, long)), rest)
        go false = rest

-- The bits of the files.

bit_set : (fs : List Bool) (g f : ℕ) → g < length fs → slice_index_or (slice_set fs g true) f false ≡ ((g == f) || slice_index_or fs f false)
bit_set fs g f below = elim (cases_eq g f) [
  | inl same ↦ ap (λ (m : ℕ). slice_index_or (slice_set fs g true) m false) (sym same) ∙ get_or-set_same fs g true false below
      ∙ sym (ap (λ (b : Bool). b || slice_index_or fs f false) (ap (λ (m : ℕ). m == f) same ∙ number_itself f))
  | inr other ↦ get_or-set_other fs g f true false (λ e. other (sym e)) ∙ sym (ap (λ (b : Bool). b || slice_index_or fs f false) (false_from_ne_true (g == f) (λ e. other (number_is g f e))))
]

pub bits_onto : (fs : List Bool) (es : List Entry) (f : ℕ) → AllByRecursion (λ (e : Entry). e.file < length fs) es → slice_index_or (files_onto fs es) f false ≡ (list_any (λ (e : Entry). e.file == f) es || slice_index_or fs f false)
bits_onto fs [] f all = refl
bits_onto fs (e ∷ es) f all =
    bits_onto (slice_set fs e.file true) es f (below es all.1) ∙ ap (λ (b : Bool). list_any (λ (o : Entry). o.file == f) es || b) (bit_set fs e.file f all.0)
    ∙ turned (list_any (λ (o : Entry). o.file == f) es) (e.file == f) (slice_index_or fs f false)
  where
    below : (os : List Entry) → AllByRecursion (λ (o : Entry). o.file < length fs) os → AllByRecursion (λ (o : Entry). o.file < length (slice_set fs e.file true)) os
    below [] all = tt
    below (o ∷ os) all = (subst (λ (n : ℕ). o.file < n) (sym (length-set fs e.file true)) all.0, below os all.1)

    turned : (a b c : Bool) → (a || (b || c)) ≡ ((b || a) || c)
    turned true true c = refl
    turned true false c = refl
    turned false true c = refl
    turned false false c = refl

pub no_bits : (n f : ℕ) → slice_index_or (replicate n false) f false ≡ false
no_bits zero f = refl
no_bits (suc n) zero = refl
no_bits (suc n) (suc f) = no_bits n f

pub bits_in : (es : List Entry) (f : ℕ) → AllByRecursion (λ (e : Entry). e.file < 64) es → slice_index_or (files_in es) f false ≡ list_any (λ (e : Entry). e.file == f) es
bits_in es f all = bits_onto no_files es f all ∙ (λ i. list_any (λ (e : Entry). e.file == f) es || no_bits 64 f i) ∙ none (list_any (λ (e : Entry). e.file == f) es)
  where
    none : (b : Bool) → (b || false) ≡ b
    none true = refl
    none false = refl

-- What a node that fell has left of a volume: the files that the entries of a branch tell are those that it changed.

module _ (v : VolumeState) (n : Node) (content : List (List ℕ)) (told : v.store.current ≡ Some content) (leaves : LeavesVolume content v.catalog n) (long : length v.catalog.heads ≡ 64) where
  left_file : (g : ℕ) (h : FileHead) → head_at v.catalog.heads g ≡ Some h → HeadsFile n.durable.directory g h
  left_file g h there = go (file_at n.durable.directory g) refl (subst (λ o. IsPlaceLeft content g o (file_at n.durable.directory g)) there (leaves.files.each g))
    where
      go : (o : Option File) → file_at n.durable.directory g ≡ o → IsPlaceLeft content g (Some h) o → HeadsFile n.durable.directory g h
      go None at is = absurd is
      go (Some file) at is = record { file = file; at = at; name = is.0.head.name }

  abbrev ds : List Entry
  ds = leaves.journal.entries

  pub files_say : (x : Id) (ps : List ℕ) (files : List Bool) → AreFound x v ps → AreFilesAt v ps files → is_settled_in x n.durable.units.entries ≡ false →
      (f : ℕ) → changed_at x (file_at n.durable.directory f) ≡ slice_index_or files f false
  files_say x ps files found filed off f =
      file_bits v.catalog.heads n leaves.units left_file v.catalog.ru.first ds leaves.journal.alike x off f
      ∙ sym (bits_in (entries_by x v.catalog.ru.first ds) f (files_below v.catalog.heads long x v.catalog.ru.first n.durable.units.entries ds leaves.journal.alike))
      ∙ sym (ap (λ (bs : List Bool). slice_index_or bs f false) is_files)
    where
      places : ps ≡ entries.positions_of x (placed v.catalog.ru.first ds)
      places = subst (λ o. IfSome o (λ c. (es : List Entry) → IsJournal c v.catalog.ru es → ps ≡ entries.positions_of x (placed v.catalog.ru.first es))) told found ds leaves.journal.is

      stand : AreChangesAt v.catalog.ru ps (entries_by x v.catalog.ru.first ds) content
      stand = subst (λ (qs : List ℕ). AreChangesAt v.catalog.ru qs (entries_by x v.catalog.ru.first ds) content) (sym places) (entries_stand content v.catalog.ru ds leaves.journal.is x)

      is_files : files ≡ files_in (entries_by x v.catalog.ru.first ds)
      is_files = subst (λ o. IfSome o (λ c. AreFilesOf v.catalog.ru c ps files)) told filed (entries_by x v.catalog.ru.first ds) stand
