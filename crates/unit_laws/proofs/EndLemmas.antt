-- The end of a sequential file stays one branch's.
use Rattle.std.proofs.Common.{◌≡◌, Bool, true, false, cond, not, ◌||◌, ◌&&◌, List, [], ◌∷◌, refl, sym, ◌∙◌, ap, subst}
use Rattle.std.specs.Option.{is_none}
use Rattle.std.specs.List.{AllByRecursion}
use Rattle.std.proofs.lemmas.Bool.{false_from_ne_true}
use Rattle.tree_model.specs.vms_model.Ids.{Id}
use Rattle.tree_model.specs.records_model.Records.{Change}
use Rattle.tree_model.specs.records_model.History.{LiveChanges, same_id, with_change, with_changes, without}
use Rattle.unit_laws.specs.Units.{SerialsDiffer, moves_end, OneMovesEnd, end_is_free}
use Rattle.unit_laws.specs.Laws.{ChangesKeepEnd, SettlesKeepEnd}
use Rattle.unit_laws.proofs.Tests.{and_first, and_second, or_neither, or_one, or_other}
use Rattle.unit_laws.proofs.LiveLemmas.{clash, id_is, id_itself, once_changes, left_so}

abbrev AreStill : List LiveChanges → Type 0
AreStill ls = AllByRecursion (λ (k : LiveChanges). moves_end k.changes ≡ false) ls

abbrev moves : Change → Bool
moves c = is_none c.before || is_none c.after

pub settles_keep_end : SettlesKeepEnd
settles_keep_end [] t h = tt
settles_keep_end (l ∷ ls) t h = step (same_id t l.serial) (settles_keep_end ls t h.1)
  where
    step : (b : Bool) → OneMovesEnd (without t ls) → OneMovesEnd (cond b ls (l ∷ without t ls))
    step true later = h.1
    step false later = ((λ moved. left_so (λ (k : LiveChanges). moves_end k.changes ≡ false) t ls (h.0 moved)), later)

end_stays : (s : Id) (c : Change) (ls : List LiveChanges) → end_is_free s (with_change s c ls) ≡ end_is_free s ls
end_stays s c [] = step (same_id s s) (id_itself s)
  where
    step : (x : Bool) → x ≡ true → ((x || not (moves_end (c ∷ []))) && true) ≡ true
    step true e = refl
    step false e = absurd cc
end_stays s c (l ∷ ls) = step (same_id s l.serial) refl (end_stays s c ls)
  where
    here : (y : Bool) → y ≡ true → ((y || not (moves_end (c ∷ l.changes))) && end_is_free s ls) ≡ ((y || not (moves_end l.changes)) && end_is_free s ls)
    here true e = refl
    here false e = absurd cc

    step : (x : Bool) → same_id s l.serial ≡ x → end_is_free s (with_change s c ls) ≡ end_is_free s ls → end_is_free s (cond x (record l { changes = c ∷ l.changes } ∷ ls) (l ∷ with_change s c ls)) ≡ end_is_free s (l ∷ ls)
    step true is later = here (same_id s l.serial) is
    step false is later = ap (λ (b : Bool). (same_id s l.serial || not (moves_end l.changes)) && b) later

ends_stay : (s : Id) (cs : List Change) (ls : List LiveChanges) → end_is_free s (with_changes s cs ls) ≡ end_is_free s ls
ends_stay s [] ls = refl
ends_stay s (c ∷ cs) ls = end_stays s c (with_changes s cs ls) ∙ ends_stay s cs ls

still : (a b : Bool) → (a || not b) ≡ true → a ≡ false → b ≡ false
still true b e f = absurd cc
still false true e f = absurd cc
still false false e f = refl

-- where the end is free, no other branch moved it
none_moved : (s : Id) (ls : List LiveChanges) → end_is_free s ls ≡ true → AllByRecursion (λ (k : LiveChanges). same_id s k.serial ≡ false) ls → AreStill ls
none_moved s [] free others = tt
none_moved s (l ∷ ls) free others = (still (same_id s l.serial) (moves_end l.changes) (and_first _ _ free) others.0, none_moved s ls (and_second (same_id s l.serial || not (moves_end l.changes)) _ free) others.1)

all_still : (s : Id) (c : Change) (ls : List LiveChanges) → moves c ≡ false → AreStill ls → AreStill (with_change s c ls)
all_still s c [] quiet h = (or_neither (moves c) false quiet refl, tt)
all_still s c (l ∷ ls) quiet h = pick (same_id s l.serial) (all_still s c ls quiet h.1)
  where
    pick : (x : Bool) → AreStill (with_change s c ls) → AreStill (cond x (record l { changes = c ∷ l.changes } ∷ ls) (l ∷ with_change s c ls))
    pick true later = (or_neither (moves c) (moves_end l.changes) quiet h.0, h.1)
    pick false later = (h.0, later)

change_keeps_end : (s : Id) (c : Change) (ls : List LiveChanges) → OneMovesEnd ls → SerialsDiffer ls → (moves c ≡ true → end_is_free s ls ≡ true) → OneMovesEnd (with_change s c ls)
change_keeps_end s c [] h differ free = ((λ e. tt), tt)
change_keeps_end s c (l ∷ ls) h differ free = step (same_id s l.serial) refl (change_keeps_end s c ls h.1 differ.1 (λ e. and_second (same_id s l.serial || not (moves_end l.changes)) _ (free e)))
  where
    here : same_id s l.serial ≡ true → (x : Bool) → moves c ≡ x → (x || moves_end l.changes) ≡ true → AreStill ls
    here is true at e = none_moved s ls (and_second (same_id s l.serial || not (moves_end l.changes)) _ (free at)) (subst (λ (q : Id). AllByRecursion (λ (k : LiveChanges). same_id q k.serial ≡ false) ls) (sym (id_is s l.serial is)) differ.0)
    here is false at e = h.0 e

    quiet : same_id s l.serial ≡ false → moves_end l.changes ≡ true → moves c ≡ false
    quiet is e = false_from_ne_true _ (λ (at : moves c ≡ true). clash (moves_end l.changes) e (still (same_id s l.serial) (moves_end l.changes) (and_first _ _ (free at)) is))

    step : (x : Bool) → same_id s l.serial ≡ x → OneMovesEnd (with_change s c ls) → OneMovesEnd (cond x (record l { changes = c ∷ l.changes } ∷ ls) (l ∷ with_change s c ls))
    step true is later = ((λ e. here is (moves c) refl e), h.1)
    step false is later = ((λ e. all_still s c ls (quiet is e) (h.0 e)), later)

pub changes_keep_end : ChangesKeepEnd
changes_keep_end ls s [] differ h free = h
changes_keep_end ls s (c ∷ cs) differ h free = change_keeps_end s c (with_changes s cs ls) (changes_keep_end ls s cs differ h (λ e. free (or_other (moves c) _ e))) (once_changes s cs ls differ) (λ e. ends_stay s cs ls ∙ free (or_one (moves c) _ e))
