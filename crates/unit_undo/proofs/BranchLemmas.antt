-- One of several branches of a file, and the others.
use Rattle.std.proofs.Common.{◌≡◌, Bool, true, false, cond, List, [], ◌∷◌, refl, sym, subst, inl, inr, ◌⊎◌}
use Rattle.std.specs.List.{AllByRecursion}
use Rattle.std.proofs.lemmas.Bool.{false_from_ne_true}
use Rattle.vms_model.specs.Ids.{Id}
use Rattle.vms_model.specs.Keys.{Key}
use Rattle.records_model.specs.Records.{Change}
use Rattle.records_model.specs.History.{LiveChanges, same_id, changes_key, changes_by}
use Rattle.unit_entries.specs.unit_laws.Units.{Map, HasImages, is_changed, Apart, OneMovesEnd, moves_end}
use Rattle.unit_entries.proofs.unit_laws.Tests.{never, or_first, or_second, or_one, or_other}
use Rattle.unit_entries.proofs.unit_laws.RepresentLemmas.{images_one_kept}
use Rattle.unit_undo.specs.Steps.{IsBeside}

-- what a branch changed is changed
by_changed : (serial : Id) (ls : List LiveChanges) (key : Key) → changes_key key (changes_by serial ls) ≡ true → is_changed ls key ≡ true
by_changed serial [] key h = absurd cc
by_changed serial (l ∷ ls) key h = step (same_id serial l.serial) h (by_changed serial ls key)
  where
    step : (b : Bool) → changes_key key (cond b l.changes (changes_by serial ls)) ≡ true → (changes_key key (changes_by serial ls) ≡ true → is_changed ls key ≡ true) → is_changed (l ∷ ls) key ≡ true
    step true h later = or_one (changes_key key l.changes) (is_changed ls key) h
    step false h later = or_other (changes_key key l.changes) (is_changed ls key) (later h)

none_changed : (ls : List LiveChanges) (key : Key) → is_changed ls key ≡ false → AllByRecursion (λ (l : LiveChanges). changes_key key l.changes ≡ false) ls
none_changed [] key h = tt
none_changed (l ∷ ls) key h = (or_first (changes_key key l.changes) (is_changed ls key) h, none_changed ls key (or_second (changes_key key l.changes) (is_changed ls key) h))

pub not_by : (serial : Id) (ls : List LiveChanges) (key : Key) → is_changed ls key ≡ false → changes_key key (changes_by serial ls) ≡ false
not_by serial ls key h = false_from_ne_true _ (λ (e : changes_key key (changes_by serial ls) ≡ true). never (is_changed ls key) (by_changed serial ls key e) h)

-- of each branch the changes are these, or of other keys
abbrev pub IsOwnOr : List Change → LiveChanges → Type 0
IsOwnOr cs l = (l.changes ≡ cs) ⊎ ((key : Key) → changes_key key cs ≡ true → changes_key key l.changes ≡ false)

others_apart : (cs : List Change) (ls : List LiveChanges) → ((key : Key) → changes_key key cs ≡ true → is_changed ls key ≡ false) → AllByRecursion (IsOwnOr cs) ls
others_apart cs [] apart = tt
others_apart cs (l ∷ ls) apart =
    (inr (λ key ck. or_first (changes_key key l.changes) (is_changed ls key) (apart key ck)), others_apart cs ls (λ key ck. or_second (changes_key key l.changes) (is_changed ls key) (apart key ck)))

pub own_or : (serial : Id) (ls : List LiveChanges) → Apart ls → AllByRecursion (IsOwnOr (changes_by serial ls)) ls
own_or serial [] apart = tt
own_or serial (l ∷ ls) apart = step (same_id serial l.serial) (own_or serial ls apart.1)
  where
    step : (b : Bool) → AllByRecursion (IsOwnOr (changes_by serial ls)) ls → AllByRecursion (IsOwnOr (cond b l.changes (changes_by serial ls))) (l ∷ ls)
    step true later = (inl refl, others_apart l.changes ls apart.0)
    step false later = (inr (λ key ck. false_from_ne_true _ (λ (e : changes_key key l.changes ≡ true). never (is_changed ls key) (by_changed serial ls key ck) (apart.0 key e))), later)

-- and where one alone moved the end
abbrev pub IsOwnOrBeside : List Change → LiveChanges → Type 0
IsOwnOrBeside cs l = (l.changes ≡ cs) ⊎ IsBeside cs l.changes

abbrev EndsOr : List Change → LiveChanges → Type 0
EndsOr cs l = (l.changes ≡ cs) ⊎ (moves_end cs ≡ true → moves_end l.changes ≡ false)

others_end : (cs : List Change) (ls : List LiveChanges) → (moves_end cs ≡ true → AllByRecursion (λ (k : LiveChanges). moves_end k.changes ≡ false) ls) → AllByRecursion (EndsOr cs) ls
others_end cs [] ends = tt
others_end cs (l ∷ ls) ends = (inr (λ m. (ends m).0), others_end cs ls (λ m. (ends m).1))

by_moves : (serial : Id) (ls : List LiveChanges) → moves_end (changes_by serial ls) ≡ true → AllByRecursion (λ (k : LiveChanges). moves_end k.changes ≡ false) ls → ⊥
by_moves serial [] m none = cc
by_moves serial (l ∷ ls) m none = step (same_id serial l.serial) m (λ m. by_moves serial ls m none.1)
  where
    step : (b : Bool) → moves_end (cond b l.changes (changes_by serial ls)) ≡ true → (moves_end (changes_by serial ls) ≡ true → ⊥) → ⊥
    step true m later = never (moves_end l.changes) m none.0
    step false m later = later m

own_ends : (serial : Id) (ls : List LiveChanges) → OneMovesEnd ls → AllByRecursion (EndsOr (changes_by serial ls)) ls
own_ends serial [] one = tt
own_ends serial (l ∷ ls) one = step (same_id serial l.serial) (own_ends serial ls one.1)
  where
    step : (b : Bool) → AllByRecursion (EndsOr (changes_by serial ls)) ls → AllByRecursion (EndsOr (cond b l.changes (changes_by serial ls))) (l ∷ ls)
    step true later = (inl refl, others_end l.changes ls one.0)
    step false later = (inr (λ m. false_from_ne_true _ (λ (e : moves_end l.changes ≡ true). by_moves serial ls m (one.0 e))), later)

both_or : (cs : List Change) (ls : List LiveChanges) → AllByRecursion (IsOwnOr cs) ls → AllByRecursion (EndsOr cs) ls → AllByRecursion (IsOwnOrBeside cs) ls
both_or cs [] apart ends = tt
both_or cs (l ∷ ls) apart ends = (step apart.0 ends.0, both_or cs ls apart.1 ends.1)
  where
    step : IsOwnOr cs l → EndsOr cs l → IsOwnOrBeside cs l
    step (inl own) ends = inl own
    step (inr other) (inl own) = inl own
    step (inr other) (inr end) = inr (record { apart = other; ends = end })

pub own_or_beside : (serial : Id) (ls : List LiveChanges) → Apart ls → OneMovesEnd ls → AllByRecursion (IsOwnOrBeside (changes_by serial ls)) ls
own_or_beside serial ls apart one = both_or (changes_by serial ls) ls (own_or serial ls apart) (own_ends serial ls one)

pub each_apart : (cs : List Change) (ls : List LiveChanges) → AllByRecursion (IsOwnOrBeside cs) ls → AllByRecursion (IsOwnOr cs) ls
each_apart cs [] all = tt
each_apart cs (l ∷ ls) all = (elim all.0 [ inl own ↦ inl own | inr beside ↦ inr beside.apart ], each_apart cs ls all.1)

-- the images of all branches, where only keys of this one have other records
pub images_still : (cs : List Change) (ls : List LiveChanges) (m n : Map) → AllByRecursion (IsOwnOr cs) ls → AllByRecursion (λ (l : LiveChanges). HasImages m l.changes) ls → HasImages n cs → ((key : Key) → changes_key key cs ≡ false → n key ≡ m key)
    → AllByRecursion (λ (l : LiveChanges). HasImages n l.changes) ls
images_still cs [] m n each has own same = tt
images_still cs (l ∷ ls) m n each has own same = (step each.0, images_still cs ls m n each.1 has.1 own same)
  where
    step : IsOwnOr cs l → HasImages n l.changes
    step (inl is) = subst (λ (x : List Change). HasImages n x) (sym is) own
    step (inr other) = images_one_kept l.changes m n (λ key changed. same key (false_from_ne_true _ (λ (e : changes_key key cs ≡ true). never (changes_key key l.changes) changed (other key e)))) has.0

pub own_images : (serial : Id) (ls : List LiveChanges) (m : Map) → AllByRecursion (λ (l : LiveChanges). HasImages m l.changes) ls → HasImages m (changes_by serial ls)
own_images serial [] m has = λ key changed. absurd cc
own_images serial (l ∷ ls) m has = step (same_id serial l.serial) (own_images serial ls m has.1)
  where
    step : (b : Bool) → HasImages m (changes_by serial ls) → HasImages m (cond b l.changes (changes_by serial ls))
    step true later = has.0
    step false later = later
