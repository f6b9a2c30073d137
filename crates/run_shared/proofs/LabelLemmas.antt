-- What a look-up in the table finds.
use Rattle.std.proofs.Common.{◌≡◌, ℕ, ◌≤◌, ◌+◌, ◌-◌, ◌&&◌, ◌++◌, Bool, true, false, List, [], ◌∷◌, length, take, replicate, Option, Some, None, Result, Ok, Err, IsOk, OnOk, is_some, cond, nat_eq, option_map, if◌then◌else◌, Decides, refl, sym, ap, subst, ◌∙◌, arith}
use Rattle.std.proofs.lemmas.Bool.{false≢true}
use Rattle.std.proofs.lemmas.Bool.Decides.{same_from_decides, Decides-and, Decides-eqb}
use Rattle.std.proofs.lemmas.List.{take_at, length-append}
use Rattle.std.proofs.lemmas.Slice.Eq.{bytes_eq-Decides}
use Rattle.std.specs.Cmp.Lexicographic.{pointwise}
use Rattle.std.specs.Str.{bytes_eq}
use Rattle.indexmap.specs.IndexMap.{IndexMap, get, spare, insert_entry, Updates}
use Rattle.indexmap.proofs.CallerLemmas.{insert_entry-new}
use Rattle.run_model.specs.World.{Label, find_label}
use Rattle.run_shared.specs.declared.labels.LabelEntry.{LabelEntry}
use Rattle.run_shared.specs.LabelTable.{label_of, newest_first, AreApart, IsLabelTable}

-- a call that is Ok
pub of_ok : {T E P : Type 0} (r : Result T E) → IsOk r → OnOk r P → P
of_ok (Ok x) ok h = h
of_ok (Err e) ok h = absurd (false≢true ok)

padded_decides : (n : ℕ) (x y : List ℕ) → Decides (pointwise nat_eq (x ++ replicate (n - length x) 0) (y ++ replicate (n - length y) 0) && nat_eq (length x) (length y)) (x ≡ y)
padded_decides n x y = (λ same. to (both.0 same), λ same. both.1 (from same))
  where
    both : Decides (pointwise nat_eq (x ++ replicate (n - length x) 0) (y ++ replicate (n - length y) 0) && nat_eq (length x) (length y))
        ((x ++ replicate (n - length x) 0 ≡ y ++ replicate (n - length y) 0) × (length x ≡ length y))
    both = Decides-and _ _ (bytes_eq-Decides (x ++ replicate (n - length x) 0) (y ++ replicate (n - length y) 0)) (Decides-eqb (length x) (length y))

    to : (x ++ replicate (n - length x) 0 ≡ y ++ replicate (n - length y) 0) × (length x ≡ length y) → x ≡ y
    to h = sym (take_at x _ (length x) refl) ∙ ap (take (length x)) h.0 ∙ ap (λ (k : ℕ). take k (y ++ replicate (n - length y) 0)) h.1 ∙ take_at y _ (length y) refl

    from : x ≡ y → (x ++ replicate (n - length x) 0 ≡ y ++ replicate (n - length y) 0) × (length x ≡ length y)
    from same = (ap (λ (z : List ℕ). z ++ replicate (n - length z) 0) same, ap length same)

-- two labels are equal where their bytes are
pub same_label : (x y : List ℕ) → (pointwise nat_eq (x ++ replicate (15 - length x) 0) (y ++ replicate (15 - length y) 0) && nat_eq (length x) (length y)) ≡ bytes_eq x y
same_label x y = same_from_decides _ _ (padded_decides 15 x y) (bytes_eq-Decides x y)

newest_first-behind : (es : List (List ℕ × LabelEntry)) (name : List ℕ) (entry : LabelEntry) → newest_first (es ++ (name, entry) ∷ []) ≡ label_of name entry ∷ newest_first es
newest_first-behind [] name entry = refl
newest_first-behind (e ∷ es) name entry = ap (λ (ls : List Label). ls ++ label_of e.0 e.1 ∷ []) (newest_first-behind es name entry)

pub length-newest_first : (es : List (List ℕ × LabelEntry)) → length (newest_first es) ≡ length es
length-newest_first [] = refl
length-newest_first (e ∷ es) = let rest = length-newest_first es in length-append (newest_first es) (label_of e.0 e.1 ∷ []) ∙ omega (arith, rest)

same_from_none : (o : Option LabelEntry) (name : List ℕ) → option_map (label_of name) o ≡ None → o ≡ None
same_from_none None name none = refl
same_from_none (Some entry) name none = absurd (false≢true (sym (ap is_some none)))

-- the newest of two labels with one name
newest : (b : Bool) (name other : List ℕ) (entry : LabelEntry) (older : Option LabelEntry) (said : Option Label) → Decides b (other ≡ name) → option_map (label_of other) older ≡ said
    → option_map (label_of other) (cond b (Some entry) older) ≡ (if b then Some (label_of name entry) else said)
newest true name other entry older said decides is = ap (λ (n : List ℕ). Some (label_of n entry)) (decides.0 refl)
newest false name other entry older said decides is = is

pub bytes_eq_sym : (x y : List ℕ) → bytes_eq x y ≡ bytes_eq y x
bytes_eq_sym x y = let d = bytes_eq-Decides y x in same_from_decides _ _ (bytes_eq-Decides x y) (λ h. sym (d.0 h), λ h. d.1 (sym h))

-- a name is not that of another label
unlike : (name : List ℕ) (ls : List Label) (l : Label) → find_label name (l ∷ ls) ≡ None → bytes_eq name l.name ≡ false
unlike name ls l none = by (bytes_eq name l.name) refl
  where
    by : (b : Bool) → bytes_eq name l.name ≡ b → b ≡ false
    by true is = absurd (false≢true (sym (ap is_some (sym (ap (λ (c : Bool). if c then Some l else find_label name ls) is) ∙ none))))
    by false is = refl

-- a label of another name stands behind these
absent_behind : (name : List ℕ) (ls : List Label) (l : Label) → find_label name (ls ++ l ∷ []) ≡ None → (find_label name ls ≡ None) × (bytes_eq name l.name ≡ false)
absent_behind name [] l none = (refl, unlike name [] l none)
absent_behind name (x ∷ xs) l none = by (bytes_eq name x.name) refl (λ rest. absent_behind name xs l rest)
  where
    by : (b : Bool) → bytes_eq name x.name ≡ b → (find_label name (xs ++ l ∷ []) ≡ None → (find_label name xs ≡ None) × (bytes_eq name l.name ≡ false)) → (find_label name (x ∷ xs) ≡ None) × (bytes_eq name l.name ≡ false)
    by true is goes = absurd (false≢true (sym (ap is_some (sym (ap (λ (c : Bool). if c then Some x else find_label name (xs ++ l ∷ [])) is) ∙ none))))
    by false is goes =
        let rest = goes (sym (ap (λ (c : Bool). if c then Some x else find_label name (xs ++ l ∷ [])) is) ∙ none) in
        (ap (λ (c : Bool). if c then Some x else find_label name xs) is ∙ rest.0, rest.1)

apart_behind : (es : List (List ℕ × LabelEntry)) (name : List ℕ) (entry : LabelEntry) → AreApart es → find_label name (newest_first es) ≡ None → AreApart (es ++ (name, entry) ∷ [])
apart_behind [] name entry apart none = (refl, tt)
apart_behind (e ∷ es) name entry apart none =
    let other = absent_behind name (newest_first es) (label_of e.0 e.1) none in (
      ap (find_label e.0) (newest_first-behind es name entry) ∙ ap (λ (c : Bool). if c then Some (label_of name entry) else find_label e.0 (newest_first es)) (bytes_eq_sym e.0 name ∙ other.1) ∙ apart.0,
      apart_behind es name entry apart.1 other.0,
    )

module _ {S : Type 0} (eq : List ℕ → List ℕ → Bool) (same : (x y : List ℕ) → eq x y ≡ bytes_eq x y) where
  get_same : (table : IndexMap (List ℕ) LabelEntry S) (name : List ℕ) → get eq table name ≡ get bytes_eq table name
  get_same table name = ap (λ (e : List ℕ → List ℕ → Bool). get e table name) (λ i x y. same x y i)

  pub found_label : (table : IndexMap (List ℕ) LabelEntry S) (name : List ℕ) (result : Option LabelEntry) → IsLabelTable table → result ≡ get eq table name → option_map (label_of name) result ≡ find_label name (newest_first table.entries)
  found_label table name result is at = ap (option_map (label_of name)) (at ∙ get_same table name) ∙ is.found name

  pub absent_label : (table : IndexMap (List ℕ) LabelEntry S) (name : List ℕ) → IsLabelTable table → find_label name (newest_first table.entries) ≡ None → get eq table name ≡ None
  absent_label table name is none = get_same table name ∙ same_from_none (get bytes_eq table name) name (is.found name ∙ none)

  pub newest_label : (old new : IndexMap (List ℕ) LabelEntry S) (name : List ℕ) (entry : LabelEntry) → get eq old name ≡ None → new.entries ≡ insert_entry eq old.entries name entry → newest_first new.entries ≡ label_of name entry ∷ newest_first old.entries
  newest_label old new name entry none put = ap newest_first (put ∙ insert_entry-new eq old name entry none) ∙ newest_first-behind old.entries name entry

  pub still_table : (old new : IndexMap (List ℕ) LabelEntry S) (name : List ℕ) (entry : LabelEntry) → IsLabelTable old → get eq old name ≡ None → find_label name (newest_first old.entries) ≡ None → new.entries ≡ insert_entry eq old.entries name entry
      → Updates eq old new name (Some entry) → spare old ≤ spare new + 1 → IsLabelTable new
  still_table old new name entry is none fresh put updates spares = record {
    apart = subst AreApart (sym (put ∙ insert_entry-new eq old name entry none)) (apart_behind old.entries name entry is.apart fresh);
    room = let longer = ap length (put ∙ insert_entry-new eq old name entry none) ∙ length-append old.entries ((name, entry) ∷ []) in let room = is.room in omega (arith, longer, room);
    found = λ other.
        ap (option_map (label_of other)) (sym (get_same new other) ∙ updates.0 other ∙ ap (λ (b : Bool). cond b (Some entry) (get eq old other)) (same name other ∙ bytes_eq_sym name other)
        ∙ ap (cond (bytes_eq other name) (Some entry)) (get_same old other))
        ∙ newest (bytes_eq other name) name other entry (get bytes_eq old other) (find_label other (newest_first old.entries)) (bytes_eq-Decides other name) (is.found other)
        ∙ ap (find_label other) (sym (newest_label old new name entry none put));
  }
