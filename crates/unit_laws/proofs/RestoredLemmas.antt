-- What a change, an undo and a settlement of one branch do to what is restored.
use Rattle.std.proofs.Common.{◌≡◌, ℕ, Bool, true, false, cond, List, [], ◌∷◌, Option, refl, sym, ◌∙◌, ◌||◌, ◌&&◌, not}
use Rattle.tree_model.specs.vms_model.Ids.{Id}
use Rattle.tree_model.specs.vms_model.Keys.{Key}
use Rattle.tree_model.specs.records_model.Records.{Change}
use Rattle.tree_model.specs.records_model.History.{LiveChanges, same_id, changes_key, with_change, without, changes_by}
use Rattle.unit_laws.proofs.Tests.{and_second, not_true}
use Rattle.unit_laws.specs.Units.{Map, is_of, with_key, earliest_before, latest_after, is_changed, restored, Apart, is_free}

-- where a branch changed a key, what stands there does not count
pub restored_changed : (ls : List LiveChanges) (k : Key) (v w : Option (List ℕ)) → is_changed ls k ≡ true → restored ls k v ≡ restored ls k w
restored_changed [] k v w h = absurd cc
restored_changed (l ∷ ls) k v w h = step (changes_key k l.changes) h (restored_changed ls k v w)
  where
    step : (x : Bool) → (x || is_changed ls k) ≡ true → (is_changed ls k ≡ true → restored ls k v ≡ restored ls k w) → cond x (earliest_before l.changes k) (restored ls k v) ≡ cond x (earliest_before l.changes k) (restored ls k w)
    step true h later = refl
    step false h later = later h

-- where none did, it is what is restored
pub restored_unchanged : (ls : List LiveChanges) (k : Key) (v : Option (List ℕ)) → is_changed ls k ≡ false → restored ls k v ≡ v
restored_unchanged [] k v h = refl
restored_unchanged (l ∷ ls) k v h = step (changes_key k l.changes) h (restored_unchanged ls k v)
  where
    step : (x : Bool) → (x || is_changed ls k) ≡ false → (is_changed ls k ≡ false → restored ls k v ≡ v) → cond x (earliest_before l.changes k) (restored ls k v) ≡ v
    step true h later = absurd cc
    step false h later = later h

change_here : (ls : List LiveChanges) (cs : List Change) (c : Change) (q : Key) (m : Map) → (is_of q c ≡ true → (is_changed ls q ≡ false) × (c.before ≡ m q))
    → cond (is_of q c || changes_key q cs) (cond (changes_key q cs) (earliest_before cs q) c.before) (restored ls q (cond (is_of q c) c.after (m q))) ≡ cond (changes_key q cs) (earliest_before cs q) (restored ls q (m q))
change_here ls cs c q m found = step (is_of q c) (changes_key q cs) found
  where
    step : (x y : Bool) → (x ≡ true → (is_changed ls q ≡ false) × (c.before ≡ m q)) → cond (x || y) (cond y (earliest_before cs q) c.before) (restored ls q (cond x c.after (m q))) ≡ cond y (earliest_before cs q) (restored ls q (m q))
    step true true found = refl
    step false true found = refl
    step false false found = refl
    step true false found = (found refl).1 ∙ sym (restored_unchanged ls q (m q) (found refl).0)

-- at the key of the change no other branch changed anything, and its before is what stands
pub restored_change : (s : Id) (c : Change) (ls : List LiveChanges) (m : Map) (q : Key) → (is_of q c ≡ true → (is_free s ls q ≡ true) × (c.before ≡ m q)) → restored (with_change s c ls) q (with_key m c.key c.after q) ≡ restored ls q (m q)
restored_change s c [] m q finds = change_here [] [] c q m (λ at. (refl, (finds at).1))
restored_change s c (l ∷ ls) m q finds = step (same_id s l.serial) finds (restored_change s c ls m q)
  where
    other : (y : Bool) → restored (with_change s c ls) q (with_key m c.key c.after q) ≡ restored ls q (m q) → cond y (earliest_before l.changes q) (restored (with_change s c ls) q (with_key m c.key c.after q)) ≡ cond y (earliest_before l.changes q) (restored ls q (m q))
    other true e = refl
    other false e = e

    step : (here : Bool) → (is_of q c ≡ true → (cond here (not (is_changed ls q)) (not (changes_key q l.changes) && is_free s ls q) ≡ true) × (c.before ≡ m q)) → ((is_of q c ≡ true → (is_free s ls q ≡ true) × (c.before ≡ m q)) → restored (with_change s c ls) q (with_key m c.key c.after q) ≡ restored ls q (m q))
        → restored (cond here (record l { changes = c ∷ l.changes } ∷ ls) (l ∷ with_change s c ls)) q (with_key m c.key c.after q) ≡ restored (l ∷ ls) q (m q)
    step true found later = change_here ls l.changes c q m (λ at. (not_true _ (found at).0, (found at).1))
    step false found later = other (changes_key q l.changes) (later (λ at. (and_second _ _ (found at).0, (found at).1)))

-- what a branch changed is changed
pub changed_of : (s : Id) (ls : List LiveChanges) (q : Key) → changes_key q (changes_by s ls) ≡ true → is_changed ls q ≡ true
changed_of s [] q h = absurd cc
changed_of s (l ∷ ls) q h = step (same_id s l.serial) (changes_key q l.changes) refl h (changed_of s ls q)
  where
    or_right : (a b : Bool) → b ≡ true → (a || b) ≡ true
    or_right true b h = refl
    or_right false b h = h

    step : (at x : Bool) → x ≡ changes_key q l.changes → changes_key q (cond at l.changes (changes_by s ls)) ≡ true → (changes_key q (changes_by s ls) ≡ true → is_changed ls q ≡ true) → (x || is_changed ls q) ≡ true
    step true true is h later = refl
    step true false is h later = absurd cc
    step false x is h later = or_right x _ (later h)

-- a commit: the committed records get the branch's latest after images
pub restored_commit : (s : Id) (ls : List LiveChanges) (q : Key) (v : Option (List ℕ)) → Apart ls → (changes_key q (changes_by s ls) ≡ true → v ≡ latest_after (changes_by s ls) q) → restored (without s ls) q v ≡ cond (changes_key q (changes_by s ls)) (latest_after (changes_by s ls) q) (restored ls q v)
restored_commit s [] q v apart is = refl
restored_commit s (l ∷ ls) q v apart is = step (same_id s l.serial) is (restored_commit s ls q v apart.1)
  where
    here : (x : Bool) → (x ≡ true → is_changed ls q ≡ false) → (x ≡ true → v ≡ latest_after l.changes q) → restored ls q v ≡ cond x (latest_after l.changes q) (cond x (earliest_before l.changes q) (restored ls q v))
    here true only last = restored_unchanged ls q v (only refl) ∙ last refl
    here false only last = refl

    away : (x y : Bool) → (x ≡ true → is_changed ls q ≡ false) → (y ≡ true → is_changed ls q ≡ true) → restored (without s ls) q v ≡ cond y (latest_after (changes_by s ls) q) (restored ls q v) → cond x (earliest_before l.changes q) (restored (without s ls) q v) ≡ cond y (latest_after (changes_by s ls) q) (cond x (earliest_before l.changes q) (restored ls q v))
    away true true only mine e = let p = only refl in let r = mine refl in absurd cc
    away true false only mine e = refl
    away false y only mine e = e

    step : (at : Bool) → (changes_key q (cond at l.changes (changes_by s ls)) ≡ true → v ≡ latest_after (cond at l.changes (changes_by s ls)) q) → ((changes_key q (changes_by s ls) ≡ true → v ≡ latest_after (changes_by s ls) q) → restored (without s ls) q v ≡ cond (changes_key q (changes_by s ls)) (latest_after (changes_by s ls) q) (restored ls q v))
        → restored (cond at ls (l ∷ without s ls)) q v ≡ cond (changes_key q (cond at l.changes (changes_by s ls))) (latest_after (cond at l.changes (changes_by s ls)) q) (restored (l ∷ ls) q v)
    step true last later = here (changes_key q l.changes) (apart.0 q) last
    step false last later = away (changes_key q l.changes) (changes_key q (changes_by s ls)) (apart.0 q) (changed_of s ls q) (later last)

-- an abort: once the branch's keys have their earliest before images, the others restore the same
pub restored_abort : (s : Id) (ls : List LiveChanges) (q : Key) (v : Option (List ℕ)) → Apart ls → restored (without s ls) q (cond (changes_key q (changes_by s ls)) (earliest_before (changes_by s ls) q) v) ≡ restored ls q v
restored_abort s [] q v apart = refl
restored_abort s (l ∷ ls) q v apart = step (same_id s l.serial) (restored_abort s ls q v apart.1)
  where
    here : (x : Bool) → (x ≡ true → is_changed ls q ≡ false) → restored ls q (cond x (earliest_before l.changes q) v) ≡ cond x (earliest_before l.changes q) (restored ls q v)
    here true only = restored_unchanged ls q _ (only refl)
    here false only = refl

    away : (x y : Bool) (w : Option (List ℕ)) → restored (without s ls) q w ≡ restored ls q v → cond x (earliest_before l.changes q) (restored (without s ls) q w) ≡ cond x (earliest_before l.changes q) (restored ls q v)
    away true y w e = refl
    away false y w e = e

    step : (at : Bool) → (restored (without s ls) q (cond (changes_key q (changes_by s ls)) (earliest_before (changes_by s ls) q) v) ≡ restored ls q v)
        → restored (cond at ls (l ∷ without s ls)) q (cond (changes_key q (cond at l.changes (changes_by s ls))) (earliest_before (cond at l.changes (changes_by s ls)) q) v) ≡ restored (l ∷ ls) q v
    step true later = here (changes_key q l.changes) (apart.0 q)
    step false later = away (changes_key q l.changes) true _ later
