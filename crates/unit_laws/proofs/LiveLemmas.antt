-- The unsettled branches of a file: what one of them changed, once it or another changes more, or one is settled.
use Rattle.std.proofs.Common.{◌≡◌, Bool, true, false, cond, not, ◌&&◌, List, [], ◌∷◌, ◌++◌, refl, sym, ◌∙◌, ap, subst}
use Rattle.std.specs.List.{AllByRecursion}
use Rattle.std.proofs.lemmas.Bool.{and_parts, and_from, eqb-true, eq-eqb, false_from_ne_true}
use Rattle.std.proofs.lemmas.Slice.Eq.{bytes_eq-Decides}
use Rattle.tree_model.specs.vms_model.Ids.{Id}
use Rattle.tree_model.specs.vms_model.Keys.{Key}
use Rattle.tree_model.specs.records_model.Records.{Change}
use Rattle.tree_model.specs.records_model.History.{LiveChanges, same_id, changes_key, changes_by, with_change, with_changes, without}
use Rattle.unit_laws.specs.Units.{is_free, is_changed, SerialsDiffer, has_changes}
use Rattle.unit_laws.proofs.Tests.{never}

pub clash : {A : Type 0} → (b : Bool) → b ≡ true → b ≡ false → A
clash b p q = absurd (never b p q)

-- Ids.

pub id_is : (a b : Id) → same_id a b ≡ true → a ≡ b
id_is a b h =
    let whole = and_parts _ _ h in
    let parts = and_parts _ _ whole.0 in
    let node = (bytes_eq-Decides a.node b.node).0 parts.0 in
    let boot = eqb-true a.boot b.boot parts.1 in
    let seq = eqb-true a.seq b.seq whole.1 in
    λ i. record { node = node i; boot = boot i; seq = seq i }

pub id_itself : (a : Id) → same_id a a ≡ true
id_itself a = and_from _ _ (and_from _ _ ((bytes_eq-Decides a.node a.node).1 refl) (eq-eqb a.boot a.boot refl)) (eq-eqb a.seq a.seq refl)

pub turned : (a b : Id) → same_id a b ≡ false → same_id b a ≡ false
turned a b e = false_from_ne_true _ (λ (p : same_id b a ≡ true). clash (same_id a b) (subst (λ (x : Id). same_id a x ≡ true) (sym (id_is b a p)) (id_itself a)) e)

-- The changes of a branch once it, or another, made more.
pub by_change : (s : Id) (c : Change) (ls : List LiveChanges) → changes_by s (with_change s c ls) ≡ c ∷ changes_by s ls
by_change s c [] = step (same_id s s) (id_itself s)
  where
    step : (x : Bool) → x ≡ true → cond x (c ∷ []) [] ≡ c ∷ []
    step true e = refl
    step false e = absurd cc
by_change s c (l ∷ ls) = step (same_id s l.serial) refl (by_change s c ls)
  where
    step : (x : Bool) → same_id s l.serial ≡ x → changes_by s (with_change s c ls) ≡ c ∷ changes_by s ls → changes_by s (cond x (record l { changes = c ∷ l.changes } ∷ ls) (l ∷ with_change s c ls)) ≡ c ∷ cond x l.changes (changes_by s ls)
    step true is later = pick (same_id s l.serial) is
      where
        pick : (y : Bool) → y ≡ true → cond y (c ∷ l.changes) (changes_by s ls) ≡ c ∷ l.changes
        pick true e = refl
        pick false e = absurd cc
    step false is later = pick (same_id s l.serial) is ∙ later
      where
        pick : (y : Bool) → y ≡ false → cond y l.changes (changes_by s (with_change s c ls)) ≡ changes_by s (with_change s c ls)
        pick true e = absurd cc
        pick false e = refl

pub by_changes : (s : Id) (cs : List Change) (ls : List LiveChanges) → changes_by s (with_changes s cs ls) ≡ cs ++ changes_by s ls
by_changes s [] ls = refl
by_changes s (c ∷ cs) ls = by_change s c (with_changes s cs ls) ∙ ap (λ (ds : List Change). c ∷ ds) (by_changes s cs ls)

pub by_other : (q s : Id) (c : Change) (ls : List LiveChanges) → same_id q s ≡ false → changes_by q (with_change s c ls) ≡ changes_by q ls
by_other q s c [] other = step (same_id q s) other
  where
    step : (x : Bool) → x ≡ false → cond x (c ∷ []) [] ≡ []
    step true e = absurd cc
    step false e = refl
by_other q s c (l ∷ ls) other = step (same_id s l.serial) refl (by_other q s c ls other)
  where
    away : same_id s l.serial ≡ true → same_id q l.serial ≡ false
    away is = subst (λ (x : Id). same_id q x ≡ false) (id_is s l.serial is) other

    pick : (y : Bool) → y ≡ false → cond y (c ∷ l.changes) (changes_by q ls) ≡ cond y l.changes (changes_by q ls)
    pick true e = absurd cc
    pick false e = refl

    either : (y : Bool) (a b : List Change) → a ≡ b → cond y l.changes a ≡ cond y l.changes b
    either true a b e = refl
    either false a b e = e

    step : (x : Bool) → same_id s l.serial ≡ x → changes_by q (with_change s c ls) ≡ changes_by q ls → changes_by q (cond x (record l { changes = c ∷ l.changes } ∷ ls) (l ∷ with_change s c ls)) ≡ cond (same_id q l.serial) l.changes (changes_by q ls)
    step true is later = pick (same_id q l.serial) (away is)
    step false is later = either (same_id q l.serial) _ _ later

pub by_others : (q s : Id) (cs : List Change) (ls : List LiveChanges) → same_id q s ≡ false → changes_by q (with_changes s cs ls) ≡ changes_by q ls
by_others q s [] ls other = refl
by_others q s (c ∷ cs) ls other = by_other q s c (with_changes s cs ls) other ∙ by_others q s cs ls other

-- what holds of all branches, however many changes they have, and of this one, holds of all after a change of it
pub all_change : (P : Id → Type 0) (s : Id) (c : Change) (ls : List LiveChanges) → P s → AllByRecursion (λ (l : LiveChanges). P l.serial) ls → AllByRecursion (λ (l : LiveChanges). P l.serial) (with_change s c ls)
all_change P s c [] p h = (p, tt)
all_change P s c (l ∷ ls) p h = step (same_id s l.serial) (all_change P s c ls p h.1)
  where
    step : (x : Bool) → AllByRecursion (λ (l : LiveChanges). P l.serial) (with_change s c ls) → AllByRecursion (λ (l : LiveChanges). P l.serial) (cond x (record l { changes = c ∷ l.changes } ∷ ls) (l ∷ with_change s c ls))
    step true later = (h.0, h.1)
    step false later = (h.0, later)

pub all_changes : (P : Id → Type 0) (s : Id) (cs : List Change) (ls : List LiveChanges) → P s → AllByRecursion (λ (l : LiveChanges). P l.serial) ls → AllByRecursion (λ (l : LiveChanges). P l.serial) (with_changes s cs ls)
all_changes P s [] ls p h = h
all_changes P s (c ∷ cs) ls p h = all_change P s c (with_changes s cs ls) p (all_changes P s cs ls p h)

pub made_change : (s : Id) (c : Change) (ls : List LiveChanges) → AllByRecursion (λ (l : LiveChanges). has_changes l.changes ≡ true) ls → AllByRecursion (λ (l : LiveChanges). has_changes l.changes ≡ true) (with_change s c ls)
made_change s c [] h = (refl, tt)
made_change s c (l ∷ ls) h = step (same_id s l.serial) (made_change s c ls h.1)
  where
    step : (x : Bool) → AllByRecursion (λ (l : LiveChanges). has_changes l.changes ≡ true) (with_change s c ls) → AllByRecursion (λ (l : LiveChanges). has_changes l.changes ≡ true) (cond x (record l { changes = c ∷ l.changes } ∷ ls) (l ∷ with_change s c ls))
    step true later = (refl, h.1)
    step false later = (h.0, later)

pub made_changes : (s : Id) (cs : List Change) (ls : List LiveChanges) → AllByRecursion (λ (l : LiveChanges). has_changes l.changes ≡ true) ls → AllByRecursion (λ (l : LiveChanges). has_changes l.changes ≡ true) (with_changes s cs ls)
made_changes s [] ls h = h
made_changes s (c ∷ cs) ls h = made_change s c (with_changes s cs ls) (made_changes s cs ls h)

pub once_change : (s : Id) (c : Change) (ls : List LiveChanges) → SerialsDiffer ls → SerialsDiffer (with_change s c ls)
once_change s c [] h = (tt, tt)
once_change s c (l ∷ ls) h = step (same_id s l.serial) refl (once_change s c ls h.1)
  where
    step : (x : Bool) → same_id s l.serial ≡ x → SerialsDiffer (with_change s c ls) → SerialsDiffer (cond x (record l { changes = c ∷ l.changes } ∷ ls) (l ∷ with_change s c ls))
    step true is later = (h.0, h.1)
    step false is later = (all_change (λ (q : Id). same_id l.serial q ≡ false) s c ls (turned s l.serial is) h.0, later)

pub once_changes : (s : Id) (cs : List Change) (ls : List LiveChanges) → SerialsDiffer ls → SerialsDiffer (with_changes s cs ls)
once_changes s [] ls h = h
once_changes s (c ∷ cs) ls h = once_change s c (with_changes s cs ls) (once_changes s cs ls h)

-- Keys stay free for the branch that changes them.
pub free_change : (s : Id) (c : Change) (ls : List LiveChanges) (key : Key) → is_free s (with_change s c ls) key ≡ is_free s ls key
free_change s c [] key = step (same_id s s) (id_itself s)
  where
    step : (x : Bool) → x ≡ true → cond x true (not (changes_key key (c ∷ [])) && true) ≡ true
    step true e = refl
    step false e = absurd cc
free_change s c (l ∷ ls) key = step (same_id s l.serial) refl (free_change s c ls key)
  where
    here : (y : Bool) → y ≡ true → cond y (not (is_changed ls key)) (not (changes_key key (c ∷ l.changes)) && is_free s ls key) ≡ cond y (not (is_changed ls key)) (not (changes_key key l.changes) && is_free s ls key)
    here true e = refl
    here false e = absurd cc

    away : (y : Bool) → y ≡ false → is_free s (with_change s c ls) key ≡ is_free s ls key → cond y (not (is_changed (with_change s c ls) key)) (not (changes_key key l.changes) && is_free s (with_change s c ls) key) ≡ cond y (not (is_changed ls key)) (not (changes_key key l.changes) && is_free s ls key)
    away true e later = absurd cc
    away false e later = ap (λ (b : Bool). not (changes_key key l.changes) && b) later

    step : (x : Bool) → same_id s l.serial ≡ x → is_free s (with_change s c ls) key ≡ is_free s ls key → is_free s (cond x (record l { changes = c ∷ l.changes } ∷ ls) (l ∷ with_change s c ls)) key ≡ is_free s (l ∷ ls) key
    step true is later = here (same_id s l.serial) is
    step false is later = away (same_id s l.serial) is later

pub free_changes : (s : Id) (cs : List Change) (ls : List LiveChanges) (key : Key) → is_free s (with_changes s cs ls) key ≡ is_free s ls key
free_changes s [] ls key = refl
free_changes s (c ∷ cs) ls key = free_change s c (with_changes s cs ls) key ∙ free_changes s cs ls key

-- The branches that are left once one is taken out.

-- the other branches once one is taken out
pub by_without : (s t : Id) (ls : List LiveChanges) → same_id s t ≡ false → changes_by s (without t ls) ≡ changes_by s ls
by_without s t [] other = refl
by_without s t (l ∷ ls) other = step (same_id t l.serial) refl (by_without s t ls other)
  where
    gone : same_id t l.serial ≡ true → same_id s l.serial ≡ false
    gone is = subst (λ (x : Id). same_id s x ≡ false) (id_is t l.serial is) other

    passes : (x : Bool) → x ≡ false → changes_by s ls ≡ cond x l.changes (changes_by s ls)
    passes true e = absurd cc
    passes false e = refl

    either : (x : Bool) (a b : List Change) → a ≡ b → cond x l.changes a ≡ cond x l.changes b
    either true a b e = refl
    either false a b e = e

    step : (b : Bool) → same_id t l.serial ≡ b → changes_by s (without t ls) ≡ changes_by s ls → changes_by s (cond b ls (l ∷ without t ls)) ≡ cond (same_id s l.serial) l.changes (changes_by s ls)
    step true is later = passes (same_id s l.serial) (gone is)
    step false is later = either (same_id s l.serial) _ _ later

-- what holds of all branches holds of those that are left
pub left_so : (P : LiveChanges → Type 0) (t : Id) (ls : List LiveChanges) → AllByRecursion P ls → AllByRecursion P (without t ls)
left_so P t [] h = tt
left_so P t (l ∷ ls) h = step (same_id t l.serial) (left_so P t ls h.1)
  where
    step : (b : Bool) → AllByRecursion P (without t ls) → AllByRecursion P (cond b ls (l ∷ without t ls))
    step true later = h.1
    step false later = (h.0, later)

pub differ_left : (t : Id) (ls : List LiveChanges) → SerialsDiffer ls → SerialsDiffer (without t ls)
differ_left t [] h = tt
differ_left t (l ∷ ls) h = step (same_id t l.serial) (differ_left t ls h.1)
  where
    step : (b : Bool) → SerialsDiffer (without t ls) → SerialsDiffer (cond b ls (l ∷ without t ls))
    step true later = h.1
    step false later = (left_so (λ (k : LiveChanges). same_id l.serial k.serial ≡ false) t ls h.0, later)

-- none of those that are left is the one that was taken out
pub others_left : (t : Id) (ls : List LiveChanges) → SerialsDiffer ls → AllByRecursion (λ (l : LiveChanges). same_id l.serial t ≡ false) (without t ls)
others_left t [] h = tt
others_left t (l ∷ ls) h = step (same_id t l.serial) refl (others_left t ls h.1)
  where
    all : (ks : List LiveChanges) → same_id t l.serial ≡ true → AllByRecursion (λ (k : LiveChanges). same_id l.serial k.serial ≡ false) ks → AllByRecursion (λ (k : LiveChanges). same_id k.serial t ≡ false) ks
    all [] is k = tt
    all (k ∷ ks) is h = (turned t k.serial (subst (λ (x : Id). same_id x k.serial ≡ false) (sym (id_is t l.serial is)) h.0), all ks is h.1)

    step : (b : Bool) → same_id t l.serial ≡ b → AllByRecursion (λ (k : LiveChanges). same_id k.serial t ≡ false) (without t ls) → AllByRecursion (λ (k : LiveChanges). same_id k.serial t ≡ false) (cond b ls (l ∷ without t ls))
    step true is later = all ls is h.0
    step false is later = (turned t l.serial is, later)

-- a branch that changed nothing is none of them
pub no_such : (t : Id) (ls : List LiveChanges) → changes_by t ls ≡ [] → AllByRecursion (λ (l : LiveChanges). has_changes l.changes ≡ true) ls → without t ls ≡ ls
no_such t [] none made = refl
no_such t (l ∷ ls) none made = step (same_id t l.serial) none (no_such t ls)
  where
    step : (b : Bool) → cond b l.changes (changes_by t ls) ≡ [] → (changes_by t ls ≡ [] → AllByRecursion (λ (l : LiveChanges). has_changes l.changes ≡ true) ls → without t ls ≡ ls) → cond b ls (l ∷ without t ls) ≡ l ∷ ls
    step true e later = clash (has_changes l.changes) made.0 (ap has_changes e)
    step false e later = ap (λ (ks : List LiveChanges). l ∷ ks) (later e made.1)
