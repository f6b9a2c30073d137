-- A label that gets its serial.
use Rattle.std.proofs.Common.{◌≡◌, ℕ, ◌++◌, Bool, true, false, List, [], ◌∷◌, length, Option, Some, None, cond, is_some, option_map, if◌then◌else◌, refl, sym, ap, subst, ◌∙◌, arith}
use Rattle.std.proofs.lemmas.Bool.{false≢true}
use Rattle.std.proofs.lemmas.Slice.Eq.{bytes_eq-Decides}
use Rattle.std.specs.Str.{bytes_eq}
use Rattle.std.specs.Map.{lookup, set_value}
use Rattle.indexmap.specs.IndexMap.{IndexMap, get, spare, Updates}
use Rattle.vms_model.specs.Ids.{Id}
use Rattle.vms_base.specs.Ids.{serial_of}
use Rattle.vms_base.specs.declared.ids.Serial.{Serial}
use Rattle.run_model.specs.World.{Label, find_label, with_serial}
use Rattle.run_shared.specs.declared.labels.LabelEntry.{LabelEntry}
use Rattle.run_shared.specs.LabelTable.{label_of, newest_first, AreApart, IsLabelTable}
use Rattle.run_shared.proofs.LabelLemmas.{bytes_eq_sym}

-- an entry that has this serial
abbrev pub numbered : Serial → LabelEntry → LabelEntry
numbered serial e = record e { serial = Some serial }

abbrev label_numbered : Id → Label → Label
label_numbered serial l = record l { serial = Some serial }

-- Labels, the one of a name with a serial.

numbered_last : (name : List ℕ) (serial : Id) (ls : List Label) (l : Label) → find_label name ls ≡ None → bytes_eq name l.name ≡ true → with_serial name serial (ls ++ l ∷ []) ≡ ls ++ label_numbered serial l ∷ []
numbered_last name serial [] l none is = ap (λ (c : Bool). if c then label_numbered serial l ∷ [] else l ∷ []) is
numbered_last name serial (x ∷ xs) l none is = by (bytes_eq name x.name) refl (λ rest. numbered_last name serial xs l rest is)
  where
    by : (b : Bool) → bytes_eq name x.name ≡ b → (find_label name xs ≡ None → with_serial name serial (xs ++ l ∷ []) ≡ xs ++ label_numbered serial l ∷ []) → with_serial name serial ((x ∷ xs) ++ l ∷ []) ≡ (x ∷ xs) ++ label_numbered serial l ∷ []
    by true same goes = absurd (false≢true (sym (ap is_some (sym (ap (λ (c : Bool). if c then Some x else find_label name xs) same) ∙ none))))
    by false other goes =
        ap (λ (c : Bool). if c then label_numbered serial x ∷ (xs ++ l ∷ []) else x ∷ with_serial name serial (xs ++ l ∷ [])) other
        ∙ ap (λ (ys : List Label). x ∷ ys) (goes (sym (ap (λ (c : Bool). if c then Some x else find_label name xs) other) ∙ none))

numbered_before : (name : List ℕ) (serial : Id) (ls : List Label) (l : Label) → is_some (find_label name ls) ≡ true → with_serial name serial (ls ++ l ∷ []) ≡ with_serial name serial ls ++ l ∷ []
numbered_before name serial [] l some = absurd (false≢true some)
numbered_before name serial (x ∷ xs) l some = by (bytes_eq name x.name) refl (λ rest. numbered_before name serial xs l rest)
  where
    by : (b : Bool) → bytes_eq name x.name ≡ b → (is_some (find_label name xs) ≡ true → with_serial name serial (xs ++ l ∷ []) ≡ with_serial name serial xs ++ l ∷ []) → with_serial name serial ((x ∷ xs) ++ l ∷ []) ≡ with_serial name serial (x ∷ xs) ++ l ∷ []
    by true same goes =
        ap (λ (c : Bool). if c then label_numbered serial x ∷ (xs ++ l ∷ []) else x ∷ with_serial name serial (xs ++ l ∷ [])) same
        ∙ sym (ap (λ (c : Bool). (if c then label_numbered serial x ∷ xs else x ∷ with_serial name serial xs) ++ l ∷ []) same)
    by false other goes =
        ap (λ (c : Bool). if c then label_numbered serial x ∷ (xs ++ l ∷ []) else x ∷ with_serial name serial (xs ++ l ∷ [])) other
        ∙ ap (λ (ys : List Label). x ∷ ys) (goes (sym (ap (λ (c : Bool). is_some (if c then Some x else find_label name xs)) other) ∙ some))
        ∙ sym (ap (λ (c : Bool). (if c then label_numbered serial x ∷ xs else x ∷ with_serial name serial xs) ++ l ∷ []) other)

-- a look-up of another label finds what it found, and one of this the label with its serial
pub find_numbered : (other name : List ℕ) (serial : Id) (ls : List Label) → find_label other (with_serial name serial ls) ≡ (if bytes_eq other name then option_map (label_numbered serial) (find_label other ls) else find_label other ls)
find_numbered other name serial [] = by (bytes_eq other name)
  where
    by : (b : Bool) → None ≡ (if b then option_map (label_numbered serial) None else None)
    by true = refl
    by false = refl
find_numbered other name serial (l ∷ ls) = by (find_numbered other name serial ls) (bytes_eq name l.name) refl (bytes_eq other l.name) refl
  where
    by : find_label other (with_serial name serial ls) ≡ (if bytes_eq other name then option_map (label_numbered serial) (find_label other ls) else find_label other ls) → (b : Bool) → bytes_eq name l.name ≡ b → (c : Bool) → bytes_eq other l.name ≡ c → find_label other (with_serial name serial (l ∷ ls)) ≡ (if bytes_eq other name then option_map (label_numbered serial) (find_label other (l ∷ ls)) else find_label other (l ∷ ls))
    by rest true same c is =
        ap (λ (t : Bool). find_label other (if t then label_numbered serial l ∷ ls else l ∷ with_serial name serial ls)) same
        ∙ ap (λ (t : Bool). if t then Some (label_numbered serial l) else find_label other ls) is
        ∙ split c is
        ∙ sym (ap (λ (t : Bool). if bytes_eq other name then option_map (label_numbered serial) (if t then Some l else find_label other ls) else (if t then Some l else find_label other ls)) is)
      where
        split : (c : Bool) → bytes_eq other l.name ≡ c → (if c then Some (label_numbered serial l) else find_label other ls)
            ≡ (if bytes_eq other name then option_map (label_numbered serial) (if c then Some l else find_label other ls) else (if c then Some l else find_label other ls))
        split true is = sym (ap (λ (t : Bool). if t then Some (label_numbered serial l) else Some l) (ap (bytes_eq other) ((bytes_eq-Decides name l.name).0 same) ∙ is))
        split false is = sym (ap (λ (t : Bool). if t then option_map (label_numbered serial) (find_label other ls) else find_label other ls) (ap (bytes_eq other) ((bytes_eq-Decides name l.name).0 same) ∙ is))
    by rest false unlike true is =
        ap (λ (t : Bool). find_label other (if t then label_numbered serial l ∷ ls else l ∷ with_serial name serial ls)) unlike
        ∙ ap (λ (t : Bool). if t then Some l else find_label other (with_serial name serial ls)) is
        ∙ sym (ap (λ (t : Bool). if t then option_map (label_numbered serial) (Some l) else Some l) apart)
        ∙ sym (ap (λ (t : Bool). if bytes_eq other name then option_map (label_numbered serial) (if t then Some l else find_label other ls) else (if t then Some l else find_label other ls)) is)
      where
        apart : bytes_eq other name ≡ false
        apart = go (bytes_eq other name) refl
          where
            go : (t : Bool) → bytes_eq other name ≡ t → t ≡ false
            go true h = absurd (false≢true (sym unlike ∙ ap (λ (x : List ℕ). bytes_eq x l.name) (sym ((bytes_eq-Decides other name).0 h)) ∙ is))
            go false h = refl
    by rest false unlike false is =
        ap (λ (t : Bool). find_label other (if t then label_numbered serial l ∷ ls else l ∷ with_serial name serial ls)) unlike
        ∙ ap (λ (t : Bool). if t then Some l else find_label other (with_serial name serial ls)) is
        ∙ rest
        ∙ sym (ap (λ (t : Bool). if bytes_eq other name then option_map (label_numbered serial) (if t then Some l else find_label other ls) else (if t then Some l else find_label other ls)) is)

-- Entries.

in_front : (name : List ℕ) (ls : List Label) (l : Label) → is_some (find_label name ls) ≡ true → is_some (find_label name (ls ++ l ∷ [])) ≡ true
in_front name [] l some = absurd (false≢true some)
in_front name (x ∷ xs) l some = go (bytes_eq name x.name) refl (λ rest. in_front name xs l rest)
  where
    go : (b : Bool) → bytes_eq name x.name ≡ b → (is_some (find_label name xs) ≡ true → is_some (find_label name (xs ++ l ∷ [])) ≡ true) → is_some (find_label name ((x ∷ xs) ++ l ∷ [])) ≡ true
    go true h goes = ap (λ (c : Bool). is_some (if c then Some x else find_label name (xs ++ l ∷ []))) h
    go false h goes = ap (λ (c : Bool). is_some (if c then Some x else find_label name (xs ++ l ∷ []))) h ∙ goes (sym (ap (λ (c : Bool). is_some (if c then Some x else find_label name xs)) h) ∙ some)

at_end : (name : List ℕ) (ls : List Label) (l : Label) → bytes_eq name l.name ≡ true → is_some (find_label name (ls ++ l ∷ [])) ≡ true
at_end name [] l is = ap (λ (c : Bool). is_some (if c then Some l else None)) is
at_end name (x ∷ xs) l is = go (bytes_eq name x.name) refl (at_end name xs l is)
  where
    go : (b : Bool) → bytes_eq name x.name ≡ b → is_some (find_label name (xs ++ l ∷ [])) ≡ true → is_some (find_label name ((x ∷ xs) ++ l ∷ [])) ≡ true
    go true h rest = ap (λ (c : Bool). is_some (if c then Some x else find_label name (xs ++ l ∷ []))) h
    go false h rest = ap (λ (c : Bool). is_some (if c then Some x else find_label name (xs ++ l ∷ []))) h ∙ rest

-- a name with an entry has a label
has_label : (es : List (List ℕ × LabelEntry)) (name : List ℕ) (entry : LabelEntry) → lookup (bytes_eq name) es ≡ Some entry → is_some (find_label name (newest_first es)) ≡ true
has_label [] name entry there = let never : ⊥ = cc in absurd never
has_label (e ∷ es) name entry there = by (bytes_eq name e.0) refl (λ later. has_label es name entry later)
  where
    by : (b : Bool) → bytes_eq name e.0 ≡ b → (lookup (bytes_eq name) es ≡ Some entry → is_some (find_label name (newest_first es)) ≡ true) → is_some (find_label name (newest_first (e ∷ es))) ≡ true
    by true is goes = at_end name (newest_first es) (label_of e.0 e.1) is
    by false is goes = in_front name (newest_first es) (label_of e.0 e.1) (goes (sym (ap (λ (c : Bool). cond c (Some e.1) (lookup (bytes_eq name) es)) is) ∙ there))

-- An entry that gets its serial: its label has it.
pub labels_numbered : (es : List (List ℕ × LabelEntry)) (name : List ℕ) (entry : LabelEntry) (serial : Serial) → AreApart es → lookup (bytes_eq name) es ≡ Some entry
    → newest_first (set_value (bytes_eq name) es (numbered serial entry)) ≡ with_serial name (serial_of serial) (newest_first es)
labels_numbered [] name entry serial apart there = let never : ⊥ = cc in absurd never
labels_numbered (e ∷ es) name entry serial apart there = by (bytes_eq name e.0) refl (λ later. labels_numbered es name entry serial apart.1 later)
  where
    by : (b : Bool) → bytes_eq name e.0 ≡ b → (lookup (bytes_eq name) es ≡ Some entry → newest_first (set_value (bytes_eq name) es (numbered serial entry)) ≡ with_serial name (serial_of serial) (newest_first es)) → newest_first (set_value (bytes_eq name) (e ∷ es) (numbered serial entry)) ≡ with_serial name (serial_of serial) (newest_first (e ∷ es))
    by true is goes =
        let same : ◌≡◌ {A = Option LabelEntry} (Some e.1) (Some entry) = sym (ap (λ (c : Bool). cond c (Some e.1) (lookup (bytes_eq name) es)) is) ∙ there in
        ap (λ (c : Bool). newest_first (cond c ((e.0, numbered serial entry) ∷ es) (e ∷ set_value (bytes_eq name) es (numbered serial entry)))) is
        ∙ ap (λ (o : Option LabelEntry). newest_first es ++ label_of e.0 (numbered serial (elim o [ Some x ↦ x | None ↦ entry ])) ∷ []) (sym same)
        ∙ sym (numbered_last name (serial_of serial) (newest_first es) (label_of e.0 e.1) (ap (λ (x : List ℕ). find_label x (newest_first es)) ((bytes_eq-Decides name e.0).0 is) ∙ apart.0) is)
    by false is goes =
        let later = sym (ap (λ (c : Bool). cond c (Some e.1) (lookup (bytes_eq name) es)) is) ∙ there in
        ap (λ (c : Bool). newest_first (cond c ((e.0, numbered serial entry) ∷ es) (e ∷ set_value (bytes_eq name) es (numbered serial entry)))) is
        ∙ ap (λ (ls : List Label). ls ++ label_of e.0 e.1 ∷ []) (goes later)
        ∙ sym (numbered_before name (serial_of serial) (newest_first es) (label_of e.0 e.1) (has_label es name entry later))

apart_numbered : (es : List (List ℕ × LabelEntry)) (name : List ℕ) (entry : LabelEntry) (serial : Serial) → AreApart es → lookup (bytes_eq name) es ≡ Some entry → AreApart (set_value (bytes_eq name) es (numbered serial entry))
apart_numbered [] name entry serial apart there = let never : ⊥ = cc in absurd never
apart_numbered (e ∷ es) name entry serial apart there = by (bytes_eq name e.0) refl (λ later. apart_numbered es name entry serial apart.1 later)
  where
    absent_still : (ls : List Label) → find_label e.0 ls ≡ None → find_label e.0 (with_serial name (serial_of serial) ls) ≡ None
    absent_still ls none = find_numbered e.0 name (serial_of serial) ls ∙ go (bytes_eq e.0 name) (find_label e.0 ls) none
      where
        go : (b : Bool) (o : Option Label) → o ≡ None → (if b then option_map (label_numbered (serial_of serial)) o else o) ≡ None
        go true o is = ap (option_map (label_numbered (serial_of serial))) is
        go false o is = is

    by : (b : Bool) → bytes_eq name e.0 ≡ b → (lookup (bytes_eq name) es ≡ Some entry → AreApart (set_value (bytes_eq name) es (numbered serial entry))) → AreApart (set_value (bytes_eq name) (e ∷ es) (numbered serial entry))
    by true is goes = subst (λ (c : Bool). AreApart (cond c ((e.0, numbered serial entry) ∷ es) (e ∷ set_value (bytes_eq name) es (numbered serial entry)))) (sym is) (apart.0, apart.1)
    by false is goes =
        let later = sym (ap (λ (c : Bool). cond c (Some e.1) (lookup (bytes_eq name) es)) is) ∙ there in
        subst (λ (c : Bool). AreApart (cond c ((e.0, numbered serial entry) ∷ es) (e ∷ set_value (bytes_eq name) es (numbered serial entry)))) (sym is)
        (ap (find_label e.0) (labels_numbered es name entry serial apart.1 later) ∙ absent_still (newest_first es) apart.0, goes later)

module _ {S : Type 0} (eq : List ℕ → List ℕ → Bool) (same : (x y : List ℕ) → eq x y ≡ bytes_eq x y) (old new : IndexMap (List ℕ) LabelEntry S) (name : List ℕ) (entry : LabelEntry) (serial : Serial) (is : IsLabelTable old) (there : get eq old name ≡ Some entry)
    (put : new.entries ≡ set_value (eq name) old.entries (numbered serial entry)) where
  is_eq : eq ≡ bytes_eq
  is_eq = λ i x y. same x y i

  found_entry : lookup (bytes_eq name) old.entries ≡ Some entry
  found_entry = sym (ap (λ (e : List ℕ → List ℕ → Bool). get e old name) is_eq) ∙ there

  entries_are : new.entries ≡ set_value (bytes_eq name) old.entries (numbered serial entry)
  entries_are = put ∙ ap (λ (e : List ℕ → List ℕ → Bool). set_value (e name) old.entries (numbered serial entry)) is_eq

  -- the labels, of which this one has its serial
  pub labels_replaced : newest_first new.entries ≡ with_serial name (serial_of serial) (newest_first old.entries)
  labels_replaced = ap newest_first entries_are ∙ labels_numbered old.entries name entry serial is.apart found_entry

  looked_up : (other : List ℕ) (b : Bool) → bytes_eq other name ≡ b → option_map (label_of other) (cond b (Some (numbered serial entry)) (get bytes_eq old other))
      ≡ (if b then option_map (label_numbered (serial_of serial)) (find_label other (newest_first old.entries)) else find_label other (newest_first old.entries))
  looked_up other true e =
      let n = (bytes_eq-Decides other name).0 e in
      sym (ap (option_map (label_numbered (serial_of serial))) (sym (is.found other) ∙ ap (λ (x : List ℕ). option_map (label_of other) (get bytes_eq old x)) n ∙ ap (option_map (label_of other)) found_entry))
  looked_up other false e = is.found other

  pub replaced_table : Updates eq old new name (Some (numbered serial entry)) → spare new ≡ spare old → length new.entries ≡ length old.entries → IsLabelTable new
  replaced_table updates spares long = record {
    apart = subst AreApart (sym entries_are) (apart_numbered old.entries name entry serial is.apart found_entry);
    room = let room = is.room in omega (arith, room, spares, long);
    found = λ other.
        ap (option_map (label_of other)) (ap (λ (e : List ℕ → List ℕ → Bool). get e new other) (sym is_eq) ∙ updates.0 other
        ∙ ap (λ (b : Bool). cond b (Some (numbered serial entry)) (get eq old other)) (same name other ∙ bytes_eq_sym name other)
        ∙ ap (λ (o : Option LabelEntry). cond (bytes_eq other name) (Some (numbered serial entry)) o) (ap (λ (e : List ℕ → List ℕ → Bool). get e old other) is_eq))
        ∙ looked_up other (bytes_eq other name) refl
        ∙ sym (find_numbered other name (serial_of serial) (newest_first old.entries))
        ∙ ap (find_label other) (sym labels_replaced);
  }
