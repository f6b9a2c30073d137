-- What keeps a file representing what has been committed.
use Rattle.std.proofs.Common.{◌≡◌, ℕ, Bool, true, false, cond, List, [], ◌∷◌, Option, refl, sym, ◌∙◌, ap, subst, inl, inr, ◌||◌, ◌&&◌, not}
use Rattle.std.specs.List.{AllByRecursion}
use Rattle.tree_model.specs.vms_model.Ids.{Id}
use Rattle.tree_model.specs.vms_model.Keys.{Key}
use Rattle.tree_model.specs.records_model.Records.{Change}
use Rattle.tree_model.specs.records_model.History.{LiveChanges, same_id, changes_key, with_change, without, changes_by}
use Rattle.unit_laws.specs.Units.{Map, is_of, with_key, latest_after, with_after_images, with_before_images, is_changed, restored, Apart, is_free, HasImages, IsImage, HasLatest, Represents}
use Rattle.unit_laws.proofs.Tests.{or_first, or_second, or_either, or_one, or_other, or_neither, or_passed, and_first, and_second, not_true, both_ways, never, passed}
use Rattle.unit_laws.proofs.RestoredLemmas.{restored_change, restored_commit, restored_abort, restored_changed, changed_of}

abbrev pub AllImages : Map → List LiveChanges → Type 0
AllImages m ls = AllByRecursion (λ l. HasImages m l.changes) ls

-- which keys are changed after one change more
changed_change : (s : Id) (c : Change) (ls : List LiveChanges) (q : Key) → is_of q c ≡ false → is_changed (with_change s c ls) q ≡ is_changed ls q
changed_change s c [] q other = or_neither (is_of q c || false) false (or_neither (is_of q c) false other refl) refl
changed_change s c (l ∷ ls) q other = step (same_id s l.serial) (changed_change s c ls q other)
  where
    step : (here : Bool) → is_changed (with_change s c ls) q ≡ is_changed ls q → is_changed (cond here (record l { changes = c ∷ l.changes } ∷ ls) (l ∷ with_change s c ls)) q ≡ is_changed (l ∷ ls) q
    step true later = ap (λ (b : Bool). b || is_changed ls q) (or_passed (is_of q c) (changes_key q l.changes) other)
    step false later = ap (λ (b : Bool). changes_key q l.changes || b) later

-- what the keys of another branch have is not touched
pub images_one_kept : (cs : List Change) (m n : Map) → ((k : Key) → changes_key k cs ≡ true → n k ≡ m k) → HasImages m cs → HasImages n cs
images_one_kept cs m n same has k here = subst (IsImage cs k) (sym (same k here)) (has k here)

images_one_more : (c : Change) (cs : List Change) (m : Map) → HasImages m cs → HasImages (with_key m c.key c.after) (c ∷ cs)
images_one_more c cs m has k here = step (is_of k c) refl here
  where
    step : (x : Bool) → is_of k c ≡ x → (x || changes_key k cs) ≡ true → IsImage (c ∷ cs) k (cond x c.after (m k))
    step true is h = inl (is, inr refl)
    step false is h = inr (has k h)

-- a step of an undo: a key goes back to a before image, or stays
pub images_one_back : (c : Change) (cs : List Change) (m : Map) → ((k : Key) → is_of k c ≡ true → IsImage cs k c.before) → HasImages m cs → HasImages (with_key m c.key c.before) cs
images_one_back c cs m one has k here = step (is_of k c) refl
  where
    step : (x : Bool) → is_of k c ≡ x → IsImage cs k (cond x c.before (m k))
    step true is = one k is
    step false is = has k here

pub images_same : (ls : List LiveChanges) (m n : Map) → ((k : Key) → is_changed ls k ≡ true → n k ≡ m k) → AllImages m ls → AllImages n ls
images_same [] m n same h = tt
images_same (l ∷ ls) m n same h = (images_one_kept l.changes m n (λ k here. same k (or_one _ _ here)) h.0, images_same ls m n (λ k here. same k (or_other (changes_key k l.changes) _ here)) h.1)

-- the keys of a change are free for a branch
abbrev pub IsFreeFor : Id → Change → List LiveChanges → Type 0
IsFreeFor s c ls = (k : Key) → is_of k c ≡ true → is_free s ls k ≡ true

set_other : (c : Change) (m : Map) (k : Key) → is_of k c ≡ false → with_key m c.key c.after k ≡ m k
set_other c m k not = passed (is_of k c) _ _ not

apart_here : (c : Change) (l : LiveChanges) (ls : List LiveChanges) → ((k : Key) → is_of k c ≡ true → is_changed ls k ≡ false) → Apart (l ∷ ls) → Apart (record l { changes = c ∷ l.changes } ∷ ls)
apart_here c l ls free apart = (λ k h. elim (or_either (is_of k c) (changes_key k l.changes) h) [ inl at ↦ free k at | inr mine ↦ apart.0 k mine ], apart.1)

apart_change : (s : Id) (c : Change) (ls : List LiveChanges) → IsFreeFor s c ls → Apart ls → Apart (with_change s c ls)
apart_change s c [] free apart = (λ k h. refl, tt)
apart_change s c (l ∷ ls) free apart = step (same_id s l.serial) free (λ h. apart_change s c ls h apart.1)
  where
    step : (here : Bool) → ((k : Key) → is_of k c ≡ true → cond here (not (is_changed ls k)) (not (changes_key k l.changes) && is_free s ls k) ≡ true) → (IsFreeFor s c ls → Apart (with_change s c ls)) → Apart (cond here (record l { changes = c ∷ l.changes } ∷ ls) (l ∷ with_change s c ls))
    step true f later = apart_here c l ls (λ q at. not_true _ (f q at)) apart
    step false f later = (
      λ q mine. elim (both_ways (is_of q c)) [
        | inl at ↦ absurd (never _ mine (not_true _ (and_first _ _ (f q at))))
        | inr not ↦ changed_change s c ls q not ∙ apart.0 q mine
      ],
      later (λ q at. and_second (not (changes_key q l.changes)) _ (f q at)),
    )

images_change : (s : Id) (c : Change) (ls : List LiveChanges) (m : Map) → IsFreeFor s c ls → AllImages m ls → AllImages (with_key m c.key c.after) (with_change s c ls)
images_change s c [] m free h = (images_one_more c [] m (λ k none. absurd cc), tt)
images_change s c (l ∷ ls) m free h = step (same_id s l.serial) free (λ g. images_change s c ls m g h.1)
  where
    step : (here : Bool) → ((k : Key) → is_of k c ≡ true → cond here (not (is_changed ls k)) (not (changes_key k l.changes) && is_free s ls k) ≡ true) → (IsFreeFor s c ls → AllImages (with_key m c.key c.after) (with_change s c ls)) → AllImages (with_key m c.key c.after) (cond here (record l { changes = c ∷ l.changes } ∷ ls) (l ∷ with_change s c ls))
    step true f later = (images_one_more c l.changes m h.0, images_same ls m (with_key m c.key c.after) (λ q mine. elim (both_ways (is_of q c)) [ inl at ↦ absurd (never _ mine (not_true _ (f q at))) | inr not ↦ set_other c m q not ]) h.1)
    step false f later = (
      images_one_kept l.changes m (with_key m c.key c.after) (λ q mine. elim (both_ways (is_of q c)) [ inl at ↦ absurd (never _ mine (not_true _ (and_first _ _ (f q at)))) | inr not ↦ set_other c m q not ]) h.0,
      later (λ q at. and_second (not (changes_key q l.changes)) _ (f q at)),
    )

-- a change
pub change_keeps : (s : Id) (c : Change) (ls : List LiveChanges) (m committed : Map) → Represents ls m committed → IsFreeFor s c ls → ((k : Key) → is_of k c ≡ true → c.before ≡ m k) → Represents (with_change s c ls) (with_key m c.key c.after) committed
change_keeps s c ls m committed h free found = record {
  apart = apart_change s c ls free h.apart;
  restores = λ k. restored_change s c ls m k (λ at. (free k at, found k at)) ∙ h.restores k;
  images = images_change s c ls m free h.images;
}

-- a group of an undo: keys that no branch changed stay, the others have one of their images
pub group_keeps : (ls : List LiveChanges) (m n committed : Map) → Represents ls m committed → ((k : Key) → is_changed ls k ≡ false → n k ≡ m k) → AllImages n ls → Represents ls n committed
group_keeps ls m n committed h same has = record {
  apart = h.apart;
  restores = λ k. elim (both_ways (is_changed ls k)) [
    | inl changed ↦ restored_changed ls k (n k) (m k) changed ∙ h.restores k
    | inr not ↦ ap (restored ls k) (same k not) ∙ h.restores k
  ];
  images = has;
}

changed_without : (s : Id) (ls : List LiveChanges) (k : Key) → is_changed ls k ≡ false → is_changed (without s ls) k ≡ false
changed_without s [] k h = refl
changed_without s (l ∷ ls) k h = step (same_id s l.serial) (changed_without s ls k (or_second (changes_key k l.changes) _ h))
  where
    step : (here : Bool) → is_changed (without s ls) k ≡ false → is_changed (cond here ls (l ∷ without s ls)) k ≡ false
    step true later = or_second (changes_key k l.changes) _ h
    step false later = or_neither (changes_key k l.changes) _ (or_first (changes_key k l.changes) _ h) later

apart_without : (s : Id) (ls : List LiveChanges) → Apart ls → Apart (without s ls)
apart_without s [] h = tt
apart_without s (l ∷ ls) h = step (same_id s l.serial) (apart_without s ls h.1)
  where
    step : (here : Bool) → Apart (without s ls) → Apart (cond here ls (l ∷ without s ls))
    step true later = h.1
    step false later = (λ k mine. changed_without s ls k (h.0 k mine), later)

images_without : (s : Id) (ls : List LiveChanges) (m : Map) → AllImages m ls → AllImages m (without s ls)
images_without s [] m h = tt
images_without s (l ∷ ls) m h = step (same_id s l.serial) (images_without s ls m h.1)
  where
    step : (here : Bool) → AllImages m (without s ls) → AllImages m (cond here ls (l ∷ without s ls))
    step true later = h.1
    step false later = (h.0, later)

-- a commit: nothing is written in the files
pub commit_keeps : (s : Id) (ls : List LiveChanges) (m committed : Map) → Represents ls m committed → HasLatest m (changes_by s ls) → Represents (without s ls) m (with_after_images (changes_by s ls) committed)
commit_keeps s ls m committed h latest_is = record {
  apart = apart_without s ls h.apart;
  restores = λ k. restored_commit s ls k (m k) h.apart (latest_is k) ∙ ap (λ (v : Option (List ℕ)). cond (changes_key k (changes_by s ls)) (latest_after (changes_by s ls) k) v) (h.restores k);
  images = images_without s ls m h.images;
}

-- other branches changed other keys
undone_others : (s : Id) (ls : List LiveChanges) (m n : Map) → Apart ls → ((k : Key) → changes_key k (changes_by s ls) ≡ false → n k ≡ m k) → AllImages m ls → AllImages n (without s ls)
undone_others s [] m n apart same h = tt
undone_others s (l ∷ ls) m n apart same h = step (same_id s l.serial) same (λ g. undone_others s ls m n apart.1 g h.1)
  where
    step : (here : Bool) → ((k : Key) → changes_key k (cond here l.changes (changes_by s ls)) ≡ false → n k ≡ m k) → (((k : Key) → changes_key k (changes_by s ls) ≡ false → n k ≡ m k) → AllImages n (without s ls)) → AllImages n (cond here ls (l ∷ without s ls))
    step true g later = images_same ls m n (λ k mine. elim (both_ways (changes_key k l.changes)) [ inl here ↦ absurd (never _ mine (apart.0 k here)) | inr not ↦ g k not ]) h.1
    step false g later = (
      images_one_kept l.changes m n (λ k mine. elim (both_ways (changes_key k (changes_by s ls))) [ inl here ↦ absurd (never _ (changed_of s ls k here) (apart.0 k mine)) | inr not ↦ g k not ]) h.0,
      later g,
    )

-- an abort, once the branch is undone
pub abort_keeps : (s : Id) (ls : List LiveChanges) (m committed : Map) → Represents ls m committed → Represents (without s ls) (with_before_images (changes_by s ls) m) committed
abort_keeps s ls m committed h = record {
  apart = apart_without s ls h.apart;
  restores = λ k. restored_abort s ls k (m k) h.apart ∙ h.restores k;
  images = undone_others s ls m (with_before_images (changes_by s ls) m) h.apart (λ k not. passed (changes_key k (changes_by s ls)) _ _ not) h.images;
}
