-- The records of a history as they stand, where several branches are unsettled.
use Rattle.std.proofs.Common.{◌≡◌, ℕ, Bool, true, false, cond, List, [], ◌∷◌, Option, None, refl, sym, ◌∙◌, ap, ◌||◌, ◌&&◌, not}
use Rattle.std.specs.FinMap.{get}
use Rattle.tree_model.specs.vms_model.Ids.{Id}
use Rattle.tree_model.specs.vms_model.Keys.{Key}
use Rattle.tree_model.specs.records_model.Records.{Records, Change, applied}
use Rattle.tree_model.specs.records_model.History.{LiveChanges, same_id, changes_key, with_change, without, changes_by, on_top}
use Rattle.unit_laws.specs.Units.{map_in, is_of, earliest_before, latest_after, with_after_images, is_changed, restored, Apart, is_free}
use Rattle.tree_model.proofs.records_model.RecordsLemmas.{get-set_key}
use Rattle.unit_laws.proofs.RestoredLemmas.{changed_of}
use Rattle.unit_laws.proofs.Tests.{never}

-- records with changes on top, at each key
pub applied_at : (cs : List Change) (m : Records) (key : Key) → get (applied cs m) key ≡ with_after_images cs (map_in m) key
applied_at [] m key = refl
applied_at (c ∷ cs) m key = get-set_key (applied cs m) c.key key c.after ∙ step (is_of key c) (changes_key key cs) (applied_at cs m key)
  where
    step : (x y : Bool) → get (applied cs m) key ≡ cond y (latest_after cs key) (get m key) → cond x c.after (get (applied cs m) key) ≡ cond (x || y) (cond x c.after (latest_after cs key)) (get m key)
    step true y e = refl
    step false y e = e

-- what a key has that stands at this, with the latest_after after image of a branch that changed it
abbrev topmost : List LiveChanges → Key → Option (List ℕ) → Option (List ℕ)
topmost [] key v = v
topmost (l ∷ ls) key v = cond (changes_key key l.changes) (latest_after l.changes key) (topmost ls key v)

on_top_at : (ls : List LiveChanges) (m : Records) (key : Key) → get (on_top ls m) key ≡ topmost ls key (get m key)
on_top_at [] m key = refl
on_top_at (l ∷ ls) m key = applied_at l.changes (on_top ls m) key ∙ ap (λ (v : Option (List ℕ)). cond (changes_key key l.changes) (latest_after l.changes key) v) (on_top_at ls m key)

topmost_unchanged : (ls : List LiveChanges) (key : Key) (v : Option (List ℕ)) → is_changed ls key ≡ false → topmost ls key v ≡ v
topmost_unchanged [] key v h = refl
topmost_unchanged (l ∷ ls) key v h = step (changes_key key l.changes) h (topmost_unchanged ls key v)
  where
    step : (x : Bool) → (x || is_changed ls key) ≡ false → (is_changed ls key ≡ false → topmost ls key v ≡ v) → cond x (latest_after l.changes key) (topmost ls key v) ≡ v
    step true h later = absurd cc
    step false h later = later h

-- without a branch, a key that it changed stands at what is below
topmost_without : (s : Id) (ls : List LiveChanges) (key : Key) (v : Option (List ℕ)) → Apart ls → topmost (without s ls) key v ≡ cond (changes_key key (changes_by s ls)) v (topmost ls key v)
topmost_without s [] key v apart = refl
topmost_without s (l ∷ ls) key v apart = step (same_id s l.serial) (topmost_without s ls key v apart.1)
  where
    here : (x : Bool) → (x ≡ true → is_changed ls key ≡ false) → topmost ls key v ≡ cond x v (cond x (latest_after l.changes key) (topmost ls key v))
    here true only = topmost_unchanged ls key v (only refl)
    here false only = refl

    away : (x y : Bool) → (x ≡ true → is_changed ls key ≡ false) → (y ≡ true → is_changed ls key ≡ true) → topmost (without s ls) key v ≡ cond y v (topmost ls key v) → cond x (latest_after l.changes key) (topmost (without s ls) key v) ≡ cond y v (cond x (latest_after l.changes key) (topmost ls key v))
    away true true only mine e = let p = only refl in let r = mine refl in absurd cc
    away true false only mine e = refl
    away false y only mine e = e

    step : (at : Bool) → topmost (without s ls) key v ≡ cond (changes_key key (changes_by s ls)) v (topmost ls key v)
        → topmost (cond at ls (l ∷ without s ls)) key v ≡ cond (changes_key key (cond at l.changes (changes_by s ls))) v (topmost (l ∷ ls) key v)
    step true later = here (changes_key key l.changes) (apart.0 key)
    step false later = away (changes_key key l.changes) (changes_key key (changes_by s ls)) (apart.0 key) (changed_of s ls key) later

-- where a branch's changes are below the others, its keys stand at its latest_after after images
topmost_moved : (s : Id) (ls : List LiveChanges) (key : Key) (v : Option (List ℕ)) → Apart ls → topmost (without s ls) key (cond (changes_key key (changes_by s ls)) (latest_after (changes_by s ls) key) v) ≡ topmost ls key v
topmost_moved s [] key v apart = refl
topmost_moved s (l ∷ ls) key v apart = step (same_id s l.serial) (topmost_moved s ls key v apart.1)
  where
    here : (x : Bool) → (x ≡ true → is_changed ls key ≡ false) → topmost ls key (cond x (latest_after l.changes key) v) ≡ cond x (latest_after l.changes key) (topmost ls key v)
    here true only = topmost_unchanged ls key _ (only refl)
    here false only = refl

    away : (x : Bool) (w : Option (List ℕ)) → topmost (without s ls) key w ≡ topmost ls key v → cond x (latest_after l.changes key) (topmost (without s ls) key w) ≡ cond x (latest_after l.changes key) (topmost ls key v)
    away true w e = refl
    away false w e = e

    step : (at : Bool) → topmost (without s ls) key (cond (changes_key key (changes_by s ls)) (latest_after (changes_by s ls) key) v) ≡ topmost ls key v
        → topmost (cond at ls (l ∷ without s ls)) key (cond (changes_key key (cond at l.changes (changes_by s ls))) (latest_after (cond at l.changes (changes_by s ls)) key) v) ≡ topmost (l ∷ ls) key v
    step true later = here (changes_key key l.changes) (apart.0 key)
    step false later = away (changes_key key l.changes) _ later

-- the records of a history as they stand, without the changes of a branch
pub current_without : (s : Id) (ls : List LiveChanges) (m : Records) (key : Key) → Apart ls → get (on_top (without s ls) m) key ≡ cond (changes_key key (changes_by s ls)) (get m key) (get (on_top ls m) key)
current_without s ls m key apart = on_top_at (without s ls) m key ∙ topmost_without s ls key (get m key) apart ∙ ap (λ (v : Option (List ℕ)). cond (changes_key key (changes_by s ls)) (get m key) v) (sym (on_top_at ls m key))

-- and with them below the others
pub current_moved : (s : Id) (ls : List LiveChanges) (m : Records) (key : Key) → Apart ls → get (on_top (without s ls) (applied (changes_by s ls) m)) key ≡ get (on_top ls m) key
current_moved s ls m key apart = on_top_at (without s ls) (applied (changes_by s ls) m) key ∙ ap (topmost (without s ls) key) (applied_at (changes_by s ls) m key) ∙ topmost_moved s ls key (get m key) apart ∙ sym (on_top_at ls m key)

-- what a branch changed is restored to its earliest_before before image
pub restored_of : (s : Id) (ls : List LiveChanges) (key : Key) (v : Option (List ℕ)) → Apart ls → changes_key key (changes_by s ls) ≡ true → restored ls key v ≡ earliest_before (changes_by s ls) key
restored_of s [] key v apart h = absurd cc
restored_of s (l ∷ ls) key v apart h = step (same_id s l.serial) h (restored_of s ls key v apart.1)
  where
    here : (x : Bool) → x ≡ true → cond x (earliest_before l.changes key) (restored ls key v) ≡ earliest_before l.changes key
    here true e = refl
    here false e = absurd cc

    away : (x : Bool) → (x ≡ true → is_changed ls key ≡ false) → is_changed ls key ≡ true → restored ls key v ≡ earliest_before (changes_by s ls) key → cond x (earliest_before l.changes key) (restored ls key v) ≡ earliest_before (changes_by s ls) key
    away true only mine e = absurd (never _ mine (only refl))
    away false only mine e = e

    step : (at : Bool) → changes_key key (cond at l.changes (changes_by s ls)) ≡ true → (changes_key key (changes_by s ls) ≡ true → restored ls key v ≡ earliest_before (changes_by s ls) key) → cond (changes_key key l.changes) (earliest_before l.changes key) (restored ls key v) ≡ earliest_before (cond at l.changes (changes_by s ls)) key
    step true h later = here (changes_key key l.changes) h
    step false h later = away (changes_key key l.changes) (apart.0 key) (changed_of s ls key h) (later h)

-- a change of a branch on top, where its key is free for it
topmost_change : (s : Id) (c : Change) (ls : List LiveChanges) (key : Key) (v : Option (List ℕ)) → (is_of key c ≡ true → is_free s ls key ≡ true) → topmost (with_change s c ls) key v ≡ cond (is_of key c) c.after (topmost ls key v)
topmost_change s c [] key v free = step (is_of key c)
  where
    step : (x : Bool) → cond (x || false) (cond x c.after None) v ≡ cond x c.after v
    step true = refl
    step false = refl
topmost_change s c (l ∷ ls) key v free = step (same_id s l.serial) free (topmost_change s c ls key v)
  where
    here : (x y : Bool) → cond (x || y) (cond x c.after (latest_after l.changes key)) (topmost ls key v) ≡ cond x c.after (cond y (latest_after l.changes key) (topmost ls key v))
    here true y = refl
    here false y = refl

    away : (x y : Bool) → (x ≡ true → (not y && is_free s ls key) ≡ true) → topmost (with_change s c ls) key v ≡ cond x c.after (topmost ls key v) → cond y (latest_after l.changes key) (topmost (with_change s c ls) key v) ≡ cond x c.after (cond y (latest_after l.changes key) (topmost ls key v))
    away true true f e = let p = f refl in absurd cc
    away true false f e = e
    away false true f e = refl
    away false false f e = e

    second : (a b : Bool) → (a && b) ≡ true → b ≡ true
    second true b h = h
    second false b h = absurd cc

    step : (at : Bool) → (is_of key c ≡ true → cond at (not (is_changed ls key)) (not (changes_key key l.changes) && is_free s ls key) ≡ true) → ((is_of key c ≡ true → is_free s ls key ≡ true) → topmost (with_change s c ls) key v ≡ cond (is_of key c) c.after (topmost ls key v))
        → topmost (cond at (record l { changes = c ∷ l.changes } ∷ ls) (l ∷ with_change s c ls)) key v ≡ cond (is_of key c) c.after (topmost (l ∷ ls) key v)
    step true f later = here (is_of key c) (changes_key key l.changes)
    step false f later = away (is_of key c) (changes_key key l.changes) f (later (λ at. second _ _ (f at)))

pub current_change : (s : Id) (c : Change) (ls : List LiveChanges) (m : Records) (key : Key) → (is_of key c ≡ true → is_free s ls key ≡ true) → get (on_top (with_change s c ls) m) key ≡ cond (is_of key c) c.after (get (on_top ls m) key)
current_change s c ls m key free = on_top_at (with_change s c ls) m key ∙ topmost_change s c ls key (get m key) free ∙ ap (λ (v : Option (List ℕ)). cond (is_of key c) c.after v) (sym (on_top_at ls m key))
