-- What entries tell of the keys of a file.
use Rattle.std.proofs.Common.{◌≡◌, ℕ, Bool, true, false, cond, ◌||◌, ◌&&◌, not, List, [], ◌∷◌, ◌++◌, map, min, Option, Some, None, refl, sym, ◌∙◌, ap, subst, inl, inr, ◌⊎◌, arith, append_assoc, append-nil}
use Rattle.std.specs.Prelude.{◌==◌}
use Rattle.std.specs.List.{list_any, AllByRecursion}
use Rattle.std.specs.Cmp.{tied_itself}
use Rattle.std.specs.Ordering.{is_eq}
use Rattle.std.proofs.lemmas.Bool.Decides.{nat_tests}
use Rattle.file_base.specs.declared.head.FileHead.{FileHead}
use Rattle.file_base.specs.declared.head.Span.{Span}
use Rattle.vms_base.specs.vms_model.Keys.{Key, Number, Text, End}
use Rattle.table_keys.specs.records_model.Records.{Change}
use Rattle.table_keys.specs.records_model.History.{changes_key}
use Rattle.run_model.proofs.records_model.KeyLemmas.{key_cmp_total}
use Rattle.run_model.proofs.records_model.RecordsLemmas as records
use Rattle.sequence_laws.specs.change_set.Maps.{same_key}
use Rattle.run_model.specs.unit_laws.Units.{is_of}
use Rattle.run_model.specs.unit_laws.Journal.{Note, note_of}
use Rattle.run_model.proofs.unit_laws.Tests.{never, or_either, or_one, or_other, and_first, and_second, picked, passed}
use Rattle.sequence_laws.specs.Undoing.{lowest_absent, absent_at, lower}
use Rattle.journal_format.specs.journal_model.Entries.{Entry, has_image}
use Rattle.unit_entries.specs.Collecting.{IsChangeAt, AreChangesAt}
use Rattle.unit_entries.specs.Keys.{KeyTold, told_at, is_same, with_later, keys_after, keys_with, keys_onto, keys_told, key_told, number_for, number_of, lowest_in, lowest_with}
use Rattle.unit_entries.specs.Told.{before_in, noted, noted_of, notes_of, TellsKey, TellsKeys}

-- Keys.

pub itself : (key : Key) → same_key key key ≡ true
itself key = ap is_eq (tied_itself key_cmp_total key)

pub number_itself : (n : ℕ) → (n == n) ≡ true
number_itself n = grind (arith, nat_tests)

pub number_is : (m n : ℕ) → (m == n) ≡ true → m ≡ n
number_is m n e = grind (arith, nat_tests)

both : (a b : Bool) → a ≡ true → b ≡ true → (a && b) ≡ true
both true true p q = refl
both true false p q = absurd cc
both false b p q = absurd cc

-- the lowest of numbers

lower_again : (n : ℕ) (o : Option ℕ) → lower n (lower n o) ≡ lower n o
lower_again n None = let e : min n n ≡ n = omega arith in ap Some e
lower_again n (Some m) = let e : min n (min n m) ≡ min n m = omega arith in ap Some e

lower_swapped : (m n : ℕ) (o : Option ℕ) → lower m (lower n o) ≡ lower n (lower m o)
lower_swapped m n None = let e : min m n ≡ min n m = omega arith in ap Some e
lower_swapped m n (Some k) = let e : min m (min n k) ≡ min n (min m k) = omega arith in ap Some e

-- with a number, where it is there
abbrev with_number : Option ℕ → Option ℕ → Option ℕ
with_number None o = o
with_number (Some n) o = lower n o

abbrev with_if : Bool → Option ℕ → Option ℕ → Option ℕ
with_if b n o = cond b (with_number n o) o

number_again : (n o : Option ℕ) → with_number n (with_number n o) ≡ with_number n o
number_again None o = refl
number_again (Some n) o = lower_again n o

number_swapped : (m n o : Option ℕ) → with_number m (with_number n o) ≡ with_number n (with_number m o)
number_swapped None n o = refl
number_swapped (Some m) None o = refl
number_swapped (Some m) (Some n) o = lower_swapped m n o

if_either : (a b : Bool) (n o : Option ℕ) → with_if (a || b) n o ≡ with_if b n (with_if a n o)
if_either true true n o = sym (number_again n o)
if_either true false n o = refl
if_either false b n o = refl

if_swapped : (a b : Bool) (m n o : Option ℕ) → with_if a m (with_if b n o) ≡ with_if b n (with_if a m o)
if_swapped true true m n o = number_swapped m n o
if_swapped true false m n o = refl
if_swapped false b m n o = refl

lowest_step : (file : ℕ) (k : KeyTold) (o : Option ℕ) → lowest_with file k o ≡ with_if k.absent (number_for file k) o
lowest_step file k o = go (number_for file k)
  where
    go : (n : Option ℕ) → cond k.absent (elim n [ Some m ↦ lower m o | None ↦ o ]) o ≡ with_if k.absent n o
    go None = refl
    go (Some m) = refl

-- two of one key have one number
same_number : (file : ℕ) (a b : KeyTold) → is_same a b ≡ true → number_for file a ≡ number_for file b
same_number file a b same =
    ap (λ (n : ℕ). cond (file == n) (number_of a.key) None) (number_is a.file b.file (and_first (a.file == b.file) _ same))
    ∙ ap (λ (k : Key). cond (file == b.file) (number_of k) None) (records.same_key a.key b.key (and_second (a.file == b.file) _ same))

pub lowest_after : (file : ℕ) (new : KeyTold) (ks : List KeyTold) → lowest_in file (keys_after new ks) ≡ with_if new.absent (number_for file new) (lowest_in file ks)
lowest_after file new [] = lowest_step file new None
lowest_after file new (k ∷ ks) = step (is_same new k) refl (lowest_after file new ks)
  where
    step : (b : Bool) → is_same new k ≡ b → lowest_in file (keys_after new ks) ≡ with_if new.absent (number_for file new) (lowest_in file ks)
        → lowest_in file (cond b (with_later new k ∷ ks) (k ∷ keys_after new ks)) ≡ with_if new.absent (number_for file new) (lowest_in file (k ∷ ks))
    step true same later =
        lowest_step file (with_later new k) (lowest_in file ks)
        ∙ if_either k.absent new.absent (number_for file k) (lowest_in file ks)
        ∙ ap (λ (n : Option ℕ). with_if new.absent n (with_if k.absent (number_for file k) (lowest_in file ks))) (sym (same_number file new k same))
        ∙ ap (with_if new.absent (number_for file new)) (sym (lowest_step file k (lowest_in file ks)))
    step false other later =
        lowest_step file k (lowest_in file (keys_after new ks))
        ∙ ap (with_if k.absent (number_for file k)) later
        ∙ if_swapped k.absent new.absent (number_for file k) (number_for file new) (lowest_in file ks)
        ∙ ap (with_if new.absent (number_for file new)) (sym (lowest_step file k (lowest_in file ks)))

-- the lowest of one key more
pub lowest_behind : (file : ℕ) (ks : List KeyTold) (k : KeyTold) → lowest_in file (ks ++ k ∷ []) ≡ lowest_with file k (lowest_in file ks)
lowest_behind file [] k = refl
lowest_behind file (x ∷ ks) k =
    lowest_step file x (lowest_in file (ks ++ k ∷ [])) ∙ ap (with_if x.absent (number_for file x)) (lowest_behind file ks k ∙ lowest_step file k (lowest_in file ks))
    ∙ if_swapped x.absent k.absent (number_for file x) (number_for file k) (lowest_in file ks)
    ∙ ap (with_if k.absent (number_for file k)) (sym (lowest_step file x (lowest_in file ks))) ∙ sym (lowest_step file k (lowest_in file (x ∷ ks)))

-- One entry more.

after_each : (P Q : KeyTold → Type 0) (new : KeyTold) (ks : List KeyTold) → ((k : KeyTold) → P k → Q k) → ((k : KeyTold) → P k → Q (with_later new k)) → (list_any (is_same new) ks ≡ false → Q new) → AllByRecursion P ks → AllByRecursion Q (keys_after new ks)
after_each P Q new [] stays later first all = (first refl, tt)
after_each P Q new (k ∷ ks) stays later first all = step (is_same new k) refl (λ none. after_each P Q new ks stays later none all.1)
  where
    rest : (ks : List KeyTold) → AllByRecursion P ks → AllByRecursion Q ks
    rest [] p = tt
    rest (x ∷ xs) p = (stays x p.0, rest xs p.1)

    step : (b : Bool) → is_same new k ≡ b → ((list_any (is_same new) ks ≡ false → Q new) → AllByRecursion Q (keys_after new ks)) → AllByRecursion Q (cond b (with_later new k ∷ ks) (k ∷ keys_after new ks))
    step true same go = (later k all.0, rest ks all.1)
    step false other go = (stays k all.0, go (λ none. first (ap (λ (b : Bool). b || list_any (is_same new) ks) other ∙ none)))

-- a test that does not ask whether a record was absent
still_any : (p : KeyTold → Bool) (new : KeyTold) (ks : List KeyTold) → ((k : KeyTold) → p (with_later new k) ≡ p k) → list_any p ks ≡ true → list_any p (keys_after new ks) ≡ true
still_any p new [] blind any = absurd cc
still_any p new (k ∷ ks) blind any = step (is_same new k) (λ any. still_any p new ks blind any) (or_either (p k) (list_any p ks) any)
  where
    step : (b : Bool) → (list_any p ks ≡ true → list_any p (keys_after new ks) ≡ true) → (p k ≡ true) ⊎ (list_any p ks ≡ true) → list_any p (cond b (with_later new k ∷ ks) (k ∷ keys_after new ks)) ≡ true
    step true later (inl here) = or_one (p (with_later new k)) (list_any p ks) (blind k ∙ here)
    step true later (inr there) = or_other (p (with_later new k)) (list_any p ks) there
    step false later (inl here) = or_one (p k) (list_any p (keys_after new ks)) here
    step false later (inr there) = or_other (p k) (list_any p (keys_after new ks)) (later there)

joined_any : (p : KeyTold → Bool) (new : KeyTold) (ks : List KeyTold) → p new ≡ true → ((k : KeyTold) → is_same new k ≡ true → p (with_later new k) ≡ true) → list_any p (keys_after new ks) ≡ true
joined_any p new [] is like = or_one (p new) false is
joined_any p new (k ∷ ks) is like = step (is_same new k) refl (joined_any p new ks is like)
  where
    step : (b : Bool) → is_same new k ≡ b → list_any p (keys_after new ks) ≡ true → list_any p (cond b (with_later new k ∷ ks) (k ∷ keys_after new ks)) ≡ true
    step true same later = or_one (p (with_later new k)) (list_any p ks) (like k same)
    step false other later = or_other (p k) (list_any p (keys_after new ks)) later

-- Changes and what is noted of them.

module _ (s : Span) (c : List (List ℕ)) (file : ℕ) where
  abbrev of : Key → KeyTold → Bool
  of key k = (k.file == file) && same_key key k.key

  -- an entry on another file
  beside : (new : KeyTold) (ks : List KeyTold) (cs : List Change) → (new.file == file) ≡ false → TellsKeys s c file ks cs → TellsKeys s c file (keys_after new ks) cs
  beside new ks cs other t = record {
    each = after_each (λ k. (k.file == file) ≡ true → TellsKey s c cs k) (λ k. (k.file == file) ≡ true → TellsKey s c cs k) new ks (λ k p. p)
        (λ k p here. let is = p here in record { changed = is.changed; entry = is.entry; stands = is.stands; earliest = is.earliest; had = is.had }) (λ none here. absurd (never (new.file == file) here other)) t.each;
    all = λ key changed. still_any (of key) new ks (λ k. refl) (t.all key changed);
    lowest = lowest_after file new ks ∙ ap (λ (n : Option ℕ). with_if new.absent n (lowest_in file ks)) no_number ∙ nothing new.absent ∙ t.lowest;
  }
    where
      turned : (file == new.file) ≡ false
      turned = grind (arith, nat_tests)

      no_number : number_for file new ≡ None
      no_number = passed (file == new.file) (number_of new.key) None turned

      nothing : (b : Bool) → with_if b None (lowest_in file ks) ≡ lowest_in file ks
      nothing true = refl
      nothing false = refl

  -- an entry on this one
  here : (p : ℕ) (e : Entry) (key : Key) (ks : List KeyTold) (x : Change) (cs : List Change) → (e.file == file) ≡ true → IsChangeAt s p e c → x.key ≡ key → x.before ≡ before_in e → TellsKeys s c file ks cs
      → TellsKeys s c file (keys_after (told_at p e key) ks) (x ∷ cs)
  here p e key ks x cs own at is had t = record {
    each = after_each (λ k. (k.file == file) ≡ true → TellsKey s c cs k) (λ k. (k.file == file) ≡ true → TellsKey s c (x ∷ cs) k) new ks (λ k p there. more k (p there))
        (λ k p there. let is = more k (p there) in record { changed = is.changed; entry = is.entry; stands = is.stands; earliest = is.earliest; had = is.had }) first t.each;
    all = λ q changed. elim (or_either (is_of q x) (changes_key q cs) changed) [ inl this ↦ joins q (records.same_key q x.key this ∙ is) | inr there ↦ still_any (of q) new ks (λ k. refl) (t.all q there) ];
    lowest = lowest_after file new ks ∙ ap (with_if new.absent (number_for file new)) t.lowest ∙ ap (λ (n : Option ℕ). with_if new.absent n (lowest_absent cs)) numbered ∙ counted;
  }
    where
      new : KeyTold
      new = told_at p e key

      more : (k : KeyTold) → TellsKey s c cs k → TellsKey s c (x ∷ cs) k
      more k is = record { changed = or_other (is_of k.key x) (changes_key k.key cs) is.changed; entry = is.entry; stands = is.stands; earliest = picked (changes_key k.key cs) _ _ is.changed ∙ is.earliest; had = is.had }

      none_before : list_any (is_same new) ks ≡ false → (b : Bool) → changes_key key cs ≡ b → b ≡ false
      none_before none true changed = absurd (never (list_any (is_same new) ks) (same_any ks (t.all key changed)) none)
        where
          same_any : (ks : List KeyTold) → list_any (of key) ks ≡ true → list_any (is_same new) ks ≡ true
          same_any [] any = absurd cc
          same_any (k ∷ ks) any = elim (or_either (of key k) (list_any (of key) ks) any) [
            | inl this ↦ or_one (is_same new k) (list_any (is_same new) ks) (both (e.file == k.file) (same_key key k.key) (let a = number_is e.file file own in let b = number_is k.file file (and_first (k.file == file) _ this) in let same : e.file ≡ k.file = a ∙ sym b in ap (λ n. e.file == n) (sym same) ∙ number_itself e.file) (and_second (k.file == file) _ this))
            | inr later ↦ or_other (is_same new k) (list_any (is_same new) ks) (same_any ks later)
          ]
      none_before none false changed = refl

      first : list_any (is_same new) ks ≡ false → (e.file == file) ≡ true → TellsKey s c (x ∷ cs) new
      first none mine = record {
        changed = or_one (is_of key x) (changes_key key cs) (ap (same_key key) is ∙ itself key);
        entry = e;
        stands = at;
        earliest = passed (changes_key key cs) _ _ (none_before none (changes_key key cs) refl) ∙ had;
        had = refl;
      }

      joins : (q : Key) → q ≡ key → list_any (of q) (keys_after new ks) ≡ true
      joins q same = subst (λ (r : Key). list_any (of r) (keys_after new ks) ≡ true) (sym same)
          (joined_any (of key) new ks (both (e.file == file) (same_key key key) own (itself key)) (λ k one. both (k.file == file) (same_key key k.key) (subst (λ (n : ℕ). (n == file) ≡ true) (number_is e.file k.file (and_first (e.file == k.file) _ one)) own) (and_second (e.file == k.file) _ one)))

      numbered : number_for file new ≡ number_of key
      numbered = picked (file == e.file) (number_of key) None (let same = number_is e.file file own in ap (λ n. file == n) same ∙ number_itself file)

      counted : with_if (not (has_image e.kind e.flag)) (number_of key) (lowest_absent cs) ≡ absent_at x (lowest_absent cs)
      counted = sym (ap (λ (b : Option (List ℕ)). elim b [ Some r ↦ lowest_absent cs | None ↦ elim x.key [ Number n ↦ lower n (lowest_absent cs) | Text t ↦ lowest_absent cs | End ↦ lowest_absent cs ] ]) had
          ∙ ap (λ (k : Key). elim (before_in e) [ Some r ↦ lowest_absent cs | None ↦ elim k [ Number n ↦ lower n (lowest_absent cs) | Text t ↦ lowest_absent cs | End ↦ lowest_absent cs ] ]) is
          ∙ go (has_image e.kind e.flag) key)
        where
          go : (b : Bool) (k : Key) → elim (cond b (Some e.image) None) [ Some r ↦ lowest_absent cs | None ↦ elim k [ Number n ↦ lower n (lowest_absent cs) | Text t ↦ lowest_absent cs | End ↦ lowest_absent cs ] ] ≡ with_if (not b) (number_of k) (lowest_absent cs)
          go true k = refl
          go false (Number n) = refl
          go false (Text t) = refl
          go false End = refl

-- Entries, one after another.

pub notes_append : (file : ℕ) (heads : List (Option FileHead)) (es fs : List Entry) → notes_of file heads (es ++ fs) ≡ notes_of file heads fs ++ notes_of file heads es
notes_append file heads [] fs = sym (append-nil (notes_of file heads fs))
notes_append file heads (e ∷ es) fs = ap (λ (ns : List Note). ns ++ noted_of file heads e) (notes_append file heads es fs) ∙ append_assoc (notes_of file heads fs) (notes_of file heads es) (noted_of file heads e)

no_note : (n : Note) (ns : List Note) → [] ≡ n ∷ ns → ⊥
no_note n ns e = cc

first_note : (a b : Note) (xs ys : List Note) → a ∷ xs ≡ b ∷ ys → a ≡ b
first_note a b xs ys e = cc

later_notes : (a b : Note) (xs ys : List Note) → a ∷ xs ≡ b ∷ ys → xs ≡ ys
later_notes a b xs ys e = cc

module _ (s : Span) (c : List (List ℕ)) (file : ℕ) (heads : List (Option FileHead)) where
  -- the keys of all changes of which these entries are the notes
  abbrev Tell : List KeyTold → List Entry → Type 0
  Tell ks es = (cs : List Change) → map note_of cs ≡ notes_of file heads es → TellsKeys s c file ks cs

  one_noted : (done : List Entry) (e : Entry) → notes_of file heads (done ++ e ∷ []) ≡ noted_of file heads e ++ notes_of file heads done
  one_noted done e = notes_append file heads done (e ∷ [])

  one_more : (done : List Entry) (ks : List KeyTold) (p : ℕ) (e : Entry) → IsChangeAt s p e c → Tell ks done → Tell (keys_with p e (key_told heads e) ks) (done ++ e ∷ [])
  one_more done ks p e at t cs told = go (key_told heads e) (e.file == file) refl cs (told ∙ one_noted done e)
    where
      go : (o : Option Key) (b : Bool) → (e.file == file) ≡ b → (cs : List Change) → map note_of cs ≡ cond b (noted e o) [] ++ notes_of file heads done → TellsKeys s c file (keys_with p e o ks) cs
      go None true is cs told = t cs told
      go None false is cs told = t cs told
      go (Some key) false is cs told = beside s c file (told_at p e key) ks cs is (t cs told)
      go (Some key) true is [] told = absurd (no_note _ _ told)
      go (Some key) true is (x ∷ cs) told =
          let note = first_note (note_of x) (key, before_in e) _ _ told in
          here s c file p e key ks x cs is at (ap (λ (n : Note). n.0) note) (ap (λ (n : Note). n.1) note) (t cs (later_notes (note_of x) (key, before_in e) _ _ told))

  more : (ps : List ℕ) (es done : List Entry) (ks : List KeyTold) → AreChangesAt s ps es c → Tell ks done → Tell (keys_onto heads ks ps es) (done ++ es)
  more [] [] done ks at t cs told = t cs (told ∙ ap (notes_of file heads) (append-nil done))
  more [] (e ∷ es) done ks at t cs told = absurd at
  more (p ∷ ps) [] done ks at t cs told = absurd at
  more (p ∷ ps) (e ∷ es) done ks at t cs told =
      more ps es (done ++ e ∷ []) (keys_with p e (key_told heads e) ks) at.1 (one_more done ks p e at.0 t) cs (told ∙ ap (notes_of file heads) (sym (append_assoc done (e ∷ []) es)))

  pub keys_tell : (ps : List ℕ) (es : List Entry) (cs : List Change) → AreChangesAt s ps es c → map note_of cs ≡ notes_of file heads es → TellsKeys s c file (keys_told heads ps es) cs
  keys_tell ps es cs at told = more ps es [] [] at nothing cs told
    where
      nothing : Tell [] []
      nothing [] told = record { each = tt; all = λ key changed. absurd cc; lowest = refl }
      nothing (x ∷ cs) told = absurd (no_note _ _ (sym told))
