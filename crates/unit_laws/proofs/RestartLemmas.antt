-- Undoing all branches, also after some of it was done.
use Rattle.std.proofs.Common.{◌≡◌, ◌⊎◌, ℕ, Bool, true, false, cond, List, [], ◌∷◌, ◌++◌, Option, refl, sym, subst, ◌∙◌, inl, inr, IsPermutation}
use Rattle.std.specs.List.{AllByRecursion}
use Rattle.std.proofs.lemmas.List.Elements.{All-from_recursion, recursion_from_All}
use Rattle.std.proofs.lemmas.List.Sorted.{All-permutation, list_any-IsPermutation}
use Rattle.tree_model.specs.vms_model.Keys.{Key}
use Rattle.tree_model.specs.records_model.Records.{Change}
use Rattle.tree_model.specs.records_model.History.{LiveChanges, changes_key}
use Rattle.unit_laws.specs.Units.{Map, is_of, with_key, earliest_before, with_before_images, is_changed, restored, Apart, HasImages, IsImage, Represents, all_undone, IsUndoGroup, UndoGroups, none, more}
use Rattle.unit_laws.specs.Laws.{RestartsRestore, BeforeImageIsGroup}
use Rattle.unit_laws.proofs.Tests.{both_ways, never, or_one, or_other, or_first, or_second, or_either, picked, passed}
use Rattle.unit_laws.proofs.RestoredLemmas.{restored_unchanged}
use Rattle.unit_laws.proofs.RepresentLemmas.{group_keeps, images_one_back}

-- after each group of an undo, and of those that follow it, there is what represents the same committed records
pub groups_keep : (ls : List LiveChanges) (m n committed : Map) → Represents ls m committed → UndoGroups ls m n → Represents ls n committed
groups_keep ls m n committed h none = h
groups_keep ls m n committed h (more k o gs g) = group_keeps ls k n committed (groups_keep ls m k committed h gs) g.others g.images

-- where a branch changed this key, its earliest before image is this
abbrev IsBackAt : Key → Option (List ℕ) → LiveChanges → Type 0
IsBackAt key w l = changes_key key l.changes ≡ true → earliest_before l.changes key ≡ w

none_back : (ls : List LiveChanges) (key : Key) (w : Option (List ℕ)) → is_changed ls key ≡ false → AllByRecursion (IsBackAt key w) ls
none_back [] key w not = tt
none_back (l ∷ ls) key w not = ((λ here. absurd (never _ here (or_first _ _ not))), none_back ls key w (or_second (changes_key key l.changes) _ not))

-- what all branches restore is what the one has back that changed the key
each_back : (ls : List LiveChanges) (key : Key) (v : Option (List ℕ)) → Apart ls → AllByRecursion (IsBackAt key (restored ls key v)) ls
each_back [] key v apart = tt
each_back (l ∷ ls) key v apart = ((λ here. sym (picked (changes_key key l.changes) _ _ here)), others (changes_key key l.changes) (apart.0 key) (each_back ls key v apart.1))
  where
    others : (x : Bool) → (x ≡ true → is_changed ls key ≡ false) → AllByRecursion (IsBackAt key (restored ls key v)) ls → AllByRecursion (IsBackAt key (cond x (earliest_before l.changes key) (restored ls key v))) ls
    others true only h = none_back ls key _ (only refl)
    others false only h = h

-- branches undone one after another give a key that none of them changed what it had
unchanged_undone : (ls : List LiveChanges) (m : Map) (key : Key) → is_changed ls key ≡ false → all_undone ls m key ≡ m key
unchanged_undone [] m key not = refl
unchanged_undone (l ∷ ls) m key not = unchanged_undone ls (with_before_images l.changes m) key (or_second (changes_key key l.changes) _ not) ∙ passed (changes_key key l.changes) _ _ (or_first _ _ not)

-- and one that some changed what each of these has for it
changed_undone : (ls : List LiveChanges) (m : Map) (key : Key) (w : Option (List ℕ)) → AllByRecursion (IsBackAt key w) ls → is_changed ls key ≡ true → all_undone ls m key ≡ w
changed_undone [] m key w back changed = absurd cc
changed_undone (l ∷ ls) m key w back changed = elim (both_ways (is_changed ls key)) [
  | inl later ↦ changed_undone ls (with_before_images l.changes m) key w back.1 later
  | inr not ↦ unchanged_undone ls (with_before_images l.changes m) key not ∙ here (or_either _ _ changed) not
]
  where
    here : (changes_key key l.changes ≡ true) ⊎ (is_changed ls key ≡ true) → is_changed ls key ≡ false → with_before_images l.changes m key ≡ w
    here (inl mine) not = picked (changes_key key l.changes) _ _ mine ∙ back.0 mine
    here (inr other) not = absurd (never _ other not)

-- all branches undone one after another, in any order, restore what all of them together do
pub undone_in_any_order : (ls order : List LiveChanges) (m : Map) (key : Key) → Apart ls → IsPermutation ls order → all_undone order m key ≡ restored ls key (m key)
undone_in_any_order ls order m key apart same = elim (both_ways (is_changed ls key)) [
  | inl changed ↦ changed_undone order m key (restored ls key (m key)) back (sym alike ∙ changed)
  | inr not ↦ unchanged_undone order m key (sym alike ∙ not) ∙ sym (restored_unchanged ls key (m key) not)
]
  where
    alike : is_changed ls key ≡ is_changed order key
    alike = list_any-IsPermutation (λ (l : LiveChanges). changes_key key l.changes) ls order same

    back : AllByRecursion (IsBackAt key (restored ls key (m key))) order
    back = recursion_from_All (IsBackAt key (restored ls key (m key))) order (All-permutation (IsBackAt key (restored ls key (m key))) ls order same (All-from_recursion (IsBackAt key (restored ls key (m key))) ls (each_back ls key (m key) apart)))

pub restarts_restore : RestartsRestore
restarts_restore ls m n committed h gs =
    let at = groups_keep ls m n committed h gs in
    record { represents = at; restored = λ order same key. undone_in_any_order ls order n key at.apart same ∙ at.restores key }

-- The before image of one change is put back.

-- the image of a change among others is one of its key's
image_among : (newer older : List Change) (c : Change) (key : Key) → is_of key c ≡ true → IsImage (newer ++ c ∷ older) key c.before
image_among [] older c key is = inl (is, inl refl)
image_among (d ∷ newer) older c key is = inr (image_among newer older c key is)

key_among : (newer older : List Change) (c : Change) (key : Key) → is_of key c ≡ true → changes_key key (newer ++ c ∷ older) ≡ true
key_among [] older c key is = or_one _ _ is
key_among (d ∷ newer) older c key is = or_other (is_of key d) _ (key_among newer older c key is)

has_key : (front back : List LiveChanges) (l : LiveChanges) (key : Key) → changes_key key l.changes ≡ true → is_changed (front ++ l ∷ back) key ≡ true
has_key [] back l key is = or_one _ _ is
has_key (k ∷ front) back l key is = or_other (changes_key key k.changes) _ (has_key front back l key is)

abbrev AllImages : Map → List LiveChanges → Type 0
AllImages m ls = AllByRecursion (λ (l : LiveChanges). HasImages m l.changes) ls

others_keep : (cs : List Change) (c : Change) (m : Map) → ((key : Key) → is_of key c ≡ true → changes_key key cs ≡ false) → HasImages m cs → HasImages (with_key m c.key c.before) cs
others_keep cs c m apart has key mine = subst (IsImage cs key) (sym (passed (is_of key c) c.before (m key) (not_of (is_of key c) refl))) (has key mine)
  where
    not_of : (x : Bool) → is_of key c ≡ x → is_of key c ≡ false
    not_of true is = absurd (never _ mine (apart key is))
    not_of false is = is

all_keep : (ls : List LiveChanges) (c : Change) (m : Map) → ((key : Key) → is_of key c ≡ true → is_changed ls key ≡ false) → AllImages m ls → AllImages (with_key m c.key c.before) ls
all_keep [] c m apart has = tt
all_keep (l ∷ ls) c m apart has = (others_keep l.changes c m (λ key is. or_first _ _ (apart key is)) has.0, all_keep ls c m (λ key is. or_second (changes_key key l.changes) _ (apart key is)) has.1)

put_back : (front back : List LiveChanges) (l : LiveChanges) (c : Change) (m : Map) → Apart (front ++ l ∷ back) → ((key : Key) → is_of key c ≡ true → IsImage l.changes key c.before) → ((key : Key) → is_of key c ≡ true → changes_key key l.changes ≡ true)
    → AllImages m (front ++ l ∷ back) → AllImages (with_key m c.key c.before) (front ++ l ∷ back)
put_back [] back l c m apart one mine has = (images_one_back c l.changes m one has.0, all_keep back c m (λ key is. apart.0 key (mine key is)) has.1)
put_back (k ∷ front) back l c m apart one mine has = (others_keep k.changes c m free has.0, put_back front back l c m apart.1 one mine has.1)
  where
    free : (key : Key) → is_of key c ≡ true → changes_key key k.changes ≡ false
    free key is = elim (both_ways (changes_key key k.changes)) [ inl its ↦ absurd (never _ (has_key front back l key (mine key is)) (apart.0 key its)) | inr not ↦ not ]

pub before_image_is_group : BeforeImageIsGroup
before_image_is_group ls front back l newer older c m committed h parts changes = subst (λ (ks : List LiveChanges). IsUndoGroup ks m (with_key m c.key c.before)) (sym parts) (record {
  others = λ key not. passed (is_of key c) c.before (m key) (not_of key not (is_of key c) refl);
  images = put_back front back l c m (subst Apart parts h.apart) one mine (subst (AllImages m) parts h.images);
})
  where
    one : (key : Key) → is_of key c ≡ true → IsImage l.changes key c.before
    one key is = subst (λ (cs : List Change). IsImage cs key c.before) (sym changes) (image_among newer older c key is)

    mine : (key : Key) → is_of key c ≡ true → changes_key key l.changes ≡ true
    mine key is = subst (λ (cs : List Change). changes_key key cs ≡ true) (sym changes) (key_among newer older c key is)

    not_of : (key : Key) → is_changed (front ++ l ∷ back) key ≡ false → (x : Bool) → is_of key c ≡ x → is_of key c ≡ false
    not_of key not true is = absurd (never _ (has_key front back l key (mine key is)) not)
    not_of key not false is = is
