-- What the entries of a branch on the disk note of a file is what the world's journal notes of it.
use Rattle.std.proofs.Common.{◌≡◌, ℕ, ◌+◌, Bool, true, false, cond, List, [], ◌∷◌, ◌++◌, map, length, Option, Some, None, refl, sym, ◌∙◌, ap, subst, inl, inr, append-nil}
use Rattle.std.specs.Prelude.{◌==◌, ◌&&◌}
use Rattle.std.specs.List.{AllByRecursion}
use Rattle.std.specs.Str.{bytes_eq}
use Rattle.std.proofs.lemmas.Nat.{from_le_bytes-to_le_bytes_4}
use Rattle.std.proofs.lemmas.Slice.Eq.{bytes_eq-Decides}
use Rattle.file_base.specs.declared.head.FileHead.{FileHead}
use Rattle.file_base.specs.declared.head.Organization.{Organization as Kept}
use Rattle.file_base.specs.declared.head.Organization.TheVariants as kept
use Rattle.vms_model.specs.Ids.{Id}
use Rattle.vms_model.specs.Keys.{Key, Number, Text, End}
use Rattle.records_model.specs.Records.{Change}
use Rattle.records_model.specs.History.{same_id, changes_key}
use Rattle.records_model.proofs.RecordsLemmas as records
use Rattle.journal_model.specs.Entries.{Entry, spelling}
use Rattle.unit_laws.specs.Journal.{JournalEntry, ChangeEntry, PreparedEntry, SettledEntry, Note, note_of, notes_in, notes_of}
use Rattle.unit_laws.proofs.Tests.{or_either}
use Rattle.unit_laws.specs.Units.{is_of}
use Rattle.world_laws.specs.run_model.World.{File, Organization, find_file}
use Rattle.world_laws.specs.Ordered.{IsKeyOf, Suits}
use Rattle.unit_undo.specs.directory_model.Files.{head_at, organized_by}
use Rattle.unit_undo.specs.file_images.Images.{key_bytes}
use Rattle.settlement_laws.specs.volume_model.Entries.{AreEntries, IsFileOf, entry_for}
use Rattle.unit_undo.specs.unit_entries.Keys.{key_by, key_in}
use Rattle.unit_undo.specs.unit_entries.Reading.{changes_of, is_change_of, placed}
use Rattle.unit_undo.specs.unit_entries.Told.{before_in, noted, noted_of, notes_of as notes_on}

-- a key is spelled so that it is read again
pub key_read : (o : Kept) (h : FileHead) (key : Key) → IsKeyOf (organized_by o h) key → key_in o (key_bytes key) ≡ Some key
key_read kept.Sequential h (Number n) is = ap (λ (m : ℕ). Some (Number m)) (from_le_bytes-to_le_bytes_4 n is.1)
key_read kept.Sequential h (Text bytes) is = absurd is
key_read kept.Sequential h End is = absurd is
key_read kept.Relative h (Number n) is = ap (λ (m : ℕ). Some (Number m)) (from_le_bytes-to_le_bytes_4 n is.2)
key_read kept.Relative h (Text bytes) is = absurd is
key_read kept.Relative h End is = absurd is
key_read kept.Indexed h (Number n) is = absurd is
key_read kept.Indexed h (Text bytes) is = refl
key_read kept.Indexed h End is = absurd is

-- and so is what it had before
image_read : (g : ℕ) (tid serial : Id) (file : List ℕ) (key : Key) (before : Option (List ℕ)) → before_in (entry_for g (ChangeEntry tid serial file key before)) ≡ before
image_read g tid serial file key None = refl
image_read g tid serial file key (Some bytes) = refl

entry_noted : (g : ℕ) (tid serial : Id) (file : List ℕ) (key : Key) (before : Option (List ℕ)) (o : Option Key) → o ≡ Some key → noted (entry_for g (ChangeEntry tid serial file key before)) o ≡ (key, before) ∷ []
entry_noted g tid serial file key before o is = ap (noted (entry_for g (ChangeEntry tid serial file key before))) is ∙ ap (λ (b : Option (List ℕ)). (key, b) ∷ []) (image_read g tid serial file key before)

-- A file of this number: a head of its number, and no other, has its name, and entries of its name suit it.
pub record IsOneFile (heads : List (Option FileHead)) (directory : List (Option File)) (f : ℕ) (file : File) : Type 0 where
  pub tied : (g : ℕ) (k : FileHead) → head_at heads g ≡ Some k → (g == f) ≡ bytes_eq file.name k.name
  pub found : (g : ℕ) (k : FileHead) → head_at heads g ≡ Some k → (x : File) × (find_file k.name directory ≡ Some x) × (x.organization ≡ organized_by k.organization k)

module _ (serial : Id) (heads : List (Option FileHead)) (directory : List (Option File)) (f : ℕ) (file : File) (one : IsOneFile heads directory f file) where
  suited : (g : ℕ) (k : FileHead) (tid by : Id) (key : Key) (before : Option (List ℕ)) → head_at heads g ≡ Some k → Suits directory (ChangeEntry tid by k.name key before) → key_by (head_at heads g) (key_bytes key) ≡ Some key
  suited g k tid by key before there suits =
      let x = one.found g k there in
      ap (λ o. key_by o (key_bytes key)) there ∙ key_read k.organization k key (subst (λ (o : Organization). IsKeyOf o key) x.2 (suits x.0 x.1).0)

  change_noted : (g : ℕ) (k : FileHead) (tid by : Id) (key : Key) (before : Option (List ℕ)) → head_at heads g ≡ Some k → Suits directory (ChangeEntry tid by k.name key before)
      → noted_of f heads (entry_for g (ChangeEntry tid by k.name key before)) ≡ cond (bytes_eq file.name k.name) ((key, before) ∷ []) []
  change_noted g k tid by key before there suits =
      ap (λ (b : Bool). cond b (noted (entry_for g (ChangeEntry tid by k.name key before)) (key_by (head_at heads g) (key_bytes key))) []) (one.tied g k there)
      ∙ ap (λ (ns : List Note). cond (bytes_eq file.name k.name) ns []) (entry_noted g tid by k.name key before (key_by (head_at heads g) (key_bytes key)) (suited g k tid by key before there suits))

  abbrev Xs : Type 0
  Xs = List (ℕ × Entry)

  abbrev on_disk : Xs → List Note
  on_disk xs = notes_on f heads (map (λ (e : ℕ × Entry). e.1) xs)

  one_more : (p g : ℕ) (e : JournalEntry) (es : List JournalEntry) (xs : Xs) → IsFileOf heads e g → Suits directory e → on_disk xs ≡ notes_in serial file.name es
      → on_disk (cond (is_change_of serial (entry_for g e)) ((p, entry_for g e) ∷ xs) xs) ≡ notes_in serial file.name es ++ notes_of serial file.name e
  one_more p g (PreparedEntry tid by) es xs named suits rest = rest ∙ sym (append-nil (notes_in serial file.name es))
  one_more p g (SettledEntry tid by outcome moment) es xs named suits rest = rest ∙ sym (append-nil (notes_in serial file.name es))
  one_more p g (ChangeEntry tid by of key before) es xs named suits rest = step (same_id serial by) refl
    where
      k : FileHead
      k = named.0

      noted_here : noted_of f heads (entry_for g (ChangeEntry tid by of key before)) ≡ cond (bytes_eq file.name of) ((key, before) ∷ []) []
      noted_here = subst (λ (name : List ℕ). noted_of f heads (entry_for g (ChangeEntry tid by name key before)) ≡ cond (bytes_eq file.name name) ((key, before) ∷ []) []) named.2
          (change_noted g k tid by key before named.1 (subst (λ (name : List ℕ). Suits directory (ChangeEntry tid by name key before)) (sym named.2) suits))

      step : (b : Bool) → same_id serial by ≡ b → on_disk (cond b ((p, entry_for g (ChangeEntry tid by of key before)) ∷ xs) xs) ≡ notes_in serial file.name es ++ cond (b && bytes_eq file.name of) ((key, before) ∷ []) []
      step true same = ap (λ (ns : List Note). ns ++ noted_of f heads (entry_for g (ChangeEntry tid by of key before))) rest ∙ ap (λ (ns : List Note). notes_in serial file.name es ++ ns) noted_here
      step false other = rest ∙ sym (append-nil (notes_in serial file.name es))

  pub notes_alike : (p : ℕ) (es : List JournalEntry) (ds : List Entry) → AreEntries heads es ds → AllByRecursion (Suits directory) es → on_disk (changes_of serial (placed p ds)) ≡ notes_in serial file.name es
  notes_alike p [] [] are suit = refl
  notes_alike p [] (d ∷ ds) are suit = absurd are
  notes_alike p (e ∷ es) [] are suit = absurd are
  notes_alike p (e ∷ es) (d ∷ ds) are suit =
      let rest = notes_alike (p + length (spelling d)) es ds are.3 suit.1 in
      ap (λ (x : Entry). on_disk (cond (is_change_of serial x) ((p, x) ∷ changes_of serial (placed (p + length (spelling d)) ds)) (changes_of serial (placed (p + length (spelling d)) ds)))) are.2
      ∙ one_more p are.0 e es (changes_of serial (placed (p + length (spelling d)) ds)) are.1 suit.0 rest

-- The keys that are noted of a file suit it.

abbrev AllOf : Organization → List Note → Type 0
AllOf o ns = AllByRecursion (λ (n : Note). IsKeyOf o n.0) ns

both_of : (o : Organization) (ms ns : List Note) → AllOf o ms → AllOf o ns → AllOf o (ms ++ ns)
both_of o [] ns none all = all
both_of o (m ∷ ms) ns some all = (some.0, both_of o ms ns some.1 all)

notes_suit : (serial : Id) (directory : List (Option File)) (file : File) → find_file file.name directory ≡ Some file → (es : List JournalEntry) → AllByRecursion (Suits directory) es → AllOf file.organization (notes_in serial file.name es)
notes_suit serial directory file found [] suit = tt
notes_suit serial directory file found (e ∷ es) suit = both_of file.organization (notes_in serial file.name es) (notes_of serial file.name e) (notes_suit serial directory file found es suit.1) (here e suit.0)
  where
    here : (e : JournalEntry) → Suits directory e → AllOf file.organization (notes_of serial file.name e)
    here (PreparedEntry tid by) suits = tt
    here (SettledEntry tid by outcome moment) suits = tt
    here (ChangeEntry tid by of key before) suits = step (same_id serial by) (bytes_eq file.name of) refl
      where
        step : (a b : Bool) → bytes_eq file.name of ≡ b → AllOf file.organization (cond (a && b) ((key, before) ∷ []) [])
        step false b same = tt
        step true false same = tt
        step true true same = ((suits file (ap (λ (name : List ℕ). find_file name directory) (sym ((bytes_eq-Decides file.name of).0 same)) ∙ found)).0, tt)

-- so do those of changes that are noted so
change_suits : (o : Organization) (cs : List Change) (key : Key) → AllOf o (map note_of cs) → changes_key key cs ≡ true → IsKeyOf o key
change_suits o [] key all changed = absurd cc
change_suits o (c ∷ cs) key all changed = elim (or_either (is_of key c) (changes_key key cs) changed) [
  | inl here ↦ subst (IsKeyOf o) (sym (records.same_key key c.key here)) all.0
  | inr later ↦ change_suits o cs key all.1 later
]

pub keys_suit : (serial : Id) (directory : List (Option File)) (file : File) (es : List JournalEntry) (cs : List Change) → find_file file.name directory ≡ Some file → AllByRecursion (Suits directory) es → notes_in serial file.name es ≡ map note_of cs
    → (key : Key) → changes_key key cs ≡ true → IsKeyOf file.organization key
keys_suit serial directory file es cs found suit notes key changed = change_suits file.organization cs key (subst (AllOf file.organization) notes (notes_suit serial directory file found es suit)) changed
