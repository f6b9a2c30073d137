-- Leaves in which a key is set.
use Rattle.std.proofs.Common.{◌≡◌, ◌≤◌, ◌<◌, ◌⊎◌, ⊎_elim, ℕ, suc, ◌+◌, ◌||◌, Bool, true, false, not, List, [], ◌∷◌, ◌++◌, Option, Some, None, length, if◌then◌else◌, nat_le, refl, sym, ap, ◌∙◌, subst, append-nil, append_assoc, length-append, arith}
use Rattle.std.specs.List.{list_any}
use Rattle.records_model.specs.Slots.{Slot, same_bytes, bytes_before, size_of, with_new, put, tidied_slot, tidied, lookup, AllBehind, AllBefore, IsOrdered}
use Rattle.records_model.specs.Parts.{bytes_of, all_slots, parted}
use Rattle.records_model.specs.Chain.{place_of, bucket_with}
use Rattle.records_model.proofs.SlotLaws.{same_bytes_are, before_trans, before_total, behind_parts, behind_both, ordered_parts, put_cases, tidy_before}
use Rattle.records_model.proofs.PartLaws.{parts_keep, parted_by_rule}
use Rattle.records_model.proofs.ChainLemmas.{bucket_at, before_both, before_at_most, not_true, not_false}
use Rattle.tree_model.specs.Layouts.{Leaf, slots_along}
use Rattle.tree_model.specs.Setting.{starts_by, new_leaves, leaves_from, leaves_with, leaf_place}
use Rattle.tree_model.specs.Trees.{AllFrom, EndsBefore, AreBounded, AllHold, AllFit}
use Rattle.tree_model.specs.Laws.{first_lowest}
use Rattle.tree_model.proofs.PartsLemmas.{AllFull, PartsFit, not_itself, bucket_parts}

-- Keys.

-- a key at most one that comes before a third comes before it
at_most_before : (low s t : List ℕ) → bytes_before s low ≡ false → bytes_before s t ≡ true → bytes_before low t ≡ true
at_most_before low s t from less = go (same_bytes s low) refl
  where
    go : (b : Bool) → same_bytes s low ≡ b → bytes_before low t ≡ true
    go true same = ap (λ x. bytes_before x t) (sym (same_bytes_are s low same)) ∙ less
    go false other = before_trans low s t (before_total s low other from) less

-- a key behind another does not come before it
not_before : (a b : List ℕ) → bytes_before a b ≡ true → bytes_before b a ≡ false
not_before a b less = go (bytes_before b a) refl
  where
    go : (t : Bool) → bytes_before b a ≡ t → t ≡ false
    go true more = let clash = before_trans a b a less more in let never = not_itself a in let none : ⊥ = cc in absurd none
    go false more = refl

-- a key before the lowest comes before all from it on
before_from : (k low : List ℕ) (slots : List Slot) → bytes_before k low ≡ true → AllFrom low slots → AllBehind k slots
before_from k low [] less from = tt
before_from k low (s ∷ ss) less from = (before_at_most k low s.key less from.0, before_from k low ss less from.1)

before_at_most' : (k : List ℕ) (low : List ℕ) (slots : List Slot) → bytes_before k low ≡ false → AllBefore low slots → AllBefore k slots
before_at_most' k low [] more all = tt
before_at_most' k low (s ∷ ss) more all = (before_at_most s.key low k all.0 more, before_at_most' k low ss more all.1)

behind_from : (k : List ℕ) (slots : List Slot) → AllBehind k slots → AllFrom k slots
behind_from k [] all = tt
behind_from k (s ∷ ss) all = (not_before k s.key all.0, behind_from k ss all.1)

before_parts : (k : List ℕ) (a b : List Slot) → AllBefore k (a ++ b) → AllBefore k a × AllBefore k b
before_parts k [] b all = (tt, all)
before_parts k (s ∷ ss) b all = let rest = before_parts k ss b all.1 in ((all.0, rest.0), rest.1)

from_parts : (k : List ℕ) (a b : List Slot) → AllFrom k (a ++ b) → AllFrom k a × AllFrom k b
from_parts k [] b all = (tt, all)
from_parts k (s ∷ ss) b all = let rest = from_parts k ss b all.1 in ((all.0, rest.0), rest.1)

from_both : (k : List ℕ) (a b : List Slot) → AllFrom k a → AllFrom k b → AllFrom k (a ++ b)
from_both k [] b first second = second
from_both k (s ∷ ss) b first second = (first.0, from_both k ss b first.1 second)

-- what comes before a slot in order has lesser keys
ordered_before : (a : List Slot) (t : Slot) (rest : List Slot) → IsOrdered (a ++ t ∷ rest) → AllBefore t.key a
ordered_before [] t rest ordered = tt
ordered_before (s ∷ ss) t rest ordered = ((behind_parts s.key ss (t ∷ rest) ordered.0).1.0, ordered_before ss t rest ordered.1)

-- Slots of one leaf, once a key is put.

new_from : (low k : List ℕ) (v : Option (List ℕ)) (slots : List Slot) → bytes_before k low ≡ false → AllFrom low slots → AllFrom low (with_new k v slots)
new_from low k None slots above from = from
new_from low k (Some bytes) slots above from = (above, from)

put_from : (low k : List ℕ) (v : Option (List ℕ)) (slots : List Slot) → bytes_before k low ≡ false → AllFrom low slots → AllFrom low (put k v slots)
put_from low k v [] above from = new_from low k v [] above from
put_from low k v (s ∷ ss) above from =
    put_cases (AllFrom low) (same_bytes k s.key) (bytes_before k s.key) _ _ _
    (λ same. from) (λ other less. new_from low k v (s ∷ ss) above from) (λ other more. (from.0, put_from low k v ss above from.1))

new_before : (high k : List ℕ) (v : Option (List ℕ)) (slots : List Slot) → bytes_before k high ≡ true → AllBefore high slots → AllBefore high (with_new k v slots)
new_before high k None slots below all = all
new_before high k (Some bytes) slots below all = (below, all)

put_before : (high k : List ℕ) (v : Option (List ℕ)) (slots : List Slot) → bytes_before k high ≡ true → AllBefore high slots → AllBefore high (put k v slots)
put_before high k v [] below all = new_before high k v [] below all
put_before high k v (s ∷ ss) below all =
    put_cases (AllBefore high) (same_bytes k s.key) (bytes_before k s.key) _ _ _
    (λ same. all) (λ other less. new_before high k v (s ∷ ss) below all) (λ other more. (all.0, put_before high k v ss below all.1))

tidied_from : (held : List ℕ → Bool) (low : List ℕ) (slots : List Slot) → AllFrom low slots → AllFrom low (tidied held slots)
tidied_from held low [] from = tt
tidied_from held low (s ∷ ss) from = from_both low (tidied_slot (held s.key) s) (tidied held ss) (one (held s.key) s from.0) (tidied_from held low ss from.1)
  where
    none_or : (s : Slot) (v : Option (List ℕ)) → bytes_before s.key low ≡ false → AllFrom low (tidied_slot false (record s { value = v }))
    none_or s None h = tt
    none_or s (Some bytes) h = (h, tt)

    one : (b : Bool) (s : Slot) → bytes_before s.key low ≡ false → AllFrom low (tidied_slot b s)
    one true s h = (h, tt)
    one false s h = none_or s s.value h

-- what holds of the put slots, tidied or not, holds of a leaf with a key set
pub bucket_cases : (P : List Slot → Type 0) (cap : ℕ) (held : List ℕ → Bool) (k : List ℕ) (v : Option (List ℕ)) (b : List Slot) → P (put k v b) → P (put k v (tidied held b)) → P (all_slots (bucket_with cap held k v b))
bucket_cases P cap held k v b plain tidy = go (nat_le (bytes_of (put k v b)) cap)
  where
    more : List Slot
    more = put k v (tidied held b)

    go : (t : Bool) → P (all_slots (if t then put k v b ∷ [] else parted cap (place_of k more) more))
    go true = subst P (sym (append-nil (put k v b))) plain
    go false = subst P (sym (parts_keep cap more (place_of k more) (parted cap (place_of k more) more) (parted_by_rule cap (place_of k more) more)).same) tidy

-- Leaves made of parts.

slots_along-append : (bs cs : List Leaf) → slots_along (bs ++ cs) ≡ slots_along bs ++ slots_along cs
slots_along-append [] cs = refl
slots_along-append (b ∷ bs) cs = ap (λ x. b.slots ++ x) (slots_along-append bs cs) ∙ sym (append_assoc b.slots (slots_along bs) (slots_along cs))

slots_along-new : (ps : List (List Slot)) → slots_along (new_leaves ps) ≡ all_slots ps
slots_along-new [] = refl
slots_along-new (p ∷ ps) = ap (λ x. p ++ x) (slots_along-new ps)

pub slots_along-from : (low : List ℕ) (ps : List (List Slot)) → slots_along (leaves_from low ps) ≡ all_slots ps
slots_along-from low [] = refl
slots_along-from low (p ∷ ps) = ap (λ x. p ++ x) (slots_along-new ps)

pub slots_along-parts : (low : List ℕ) (ps : List (List Slot)) (bs : List Leaf) → slots_along (leaves_from low ps ++ bs) ≡ all_slots ps ++ slots_along bs
slots_along-parts low ps bs = slots_along-append (leaves_from low ps) bs ∙ ap (λ x. x ++ slots_along bs) (slots_along-from low ps)

-- all slots come before what the first of these leaves may hold
abbrev AllEnd : List Slot → List Leaf → Type 0
AllEnd slots [] = Unit {0}
AllEnd slots (c ∷ cs) = AllBefore c.lowest slots

all_end_parts : (a b : List Slot) (bs : List Leaf) → AllEnd (a ++ b) bs → AllEnd a bs × AllEnd b bs
all_end_parts a b [] ends = (tt, tt)
all_end_parts a b (c ∷ cs) ends = before_parts c.lowest a b ends

-- a part ends before the leaf that follows, which is made of the next part or stands already
ends_new : (low : List ℕ) (p : List Slot) (ps : List (List Slot)) (bs : List Leaf) → AllFull ps → IsOrdered (p ++ all_slots ps) → 1 ≤ length p → AllFrom low p → AllEnd p bs
    → EndsBefore (record { lowest = low; slots = p }) (new_leaves ps ++ bs)
ends_new low [] ps bs full ordered some from ends = absurd (omega arith)
ends_new low (s ∷ ss) [] [] full ordered some from ends = tt
ends_new low (s ∷ ss) [] (c ∷ cs) full ordered some from ends = (ends, at_most_before low s.key c.lowest from.0 ends.0)
ends_new low (s ∷ ss) ([] ∷ ps) bs full ordered some from ends = absurd (let none = full.0 in omega (arith, none))
ends_new low (s ∷ ss) ((t ∷ ts) ∷ ps) bs full ordered some from ends =
    let before = ordered_before (s ∷ ss) t (ts ++ all_slots ps) ordered in (before, at_most_before low s.key t.key from.0 before.0)

bounded_new : (ps : List (List Slot)) (bs : List Leaf) → AllFull ps → IsOrdered (all_slots ps) → AllEnd (all_slots ps) bs → AreBounded bs → AreBounded (new_leaves ps ++ bs)
bounded_new [] bs full ordered ends bounded = bounded
bounded_new ([] ∷ ps) bs full ordered ends bounded = absurd (let none = full.0 in omega (arith, none))
bounded_new ((s ∷ ss) ∷ ps) bs full ordered ends bounded =
    let from : AllFrom s.key (s ∷ ss) = (not_itself s.key, behind_from s.key ss (behind_parts s.key ss (all_slots ps) ordered.0).0) in
    let end = all_end_parts (s ∷ ss) (all_slots ps) bs ends in (
      from,
      ends_new s.key (s ∷ ss) ps bs full.1 ordered (omega arith) from end.0,
      bounded_new ps bs full.1 (ordered_parts (s ∷ ss) (all_slots ps) ordered).1 end.1 bounded,
    )

-- the lowest key comes before what the first of these leaves may hold
abbrev LowEnds : List ℕ → List Leaf → Type 0
LowEnds low [] = Unit {0}
LowEnds low (c ∷ cs) = bytes_before low c.lowest ≡ true

ends_one : (low : List ℕ) (p : List Slot) (bs : List Leaf) → AllEnd p bs → LowEnds low bs → EndsBefore (record { lowest = low; slots = p }) bs
ends_one low p [] ends less = tt
ends_one low p (c ∷ cs) ends less = (ends, less)

pub bounded_from : (low : List ℕ) (ps : List (List Slot)) (bs : List Leaf) → (length ps ≡ 1) ⊎ AllFull ps → IsOrdered (all_slots ps) → AllFrom low (all_slots ps) → AllEnd (all_slots ps) bs → LowEnds low bs → AreBounded bs
    → AreBounded (leaves_from low ps ++ bs)
bounded_from low [] bs full ordered from ends less bounded = bounded
bounded_from low (p ∷ ps) bs full ordered from ends less bounded = ⊎_elim (λ one. alone ps one from ends) many full
  where
    alone : (qs : List (List Slot)) → length (p ∷ qs) ≡ 1 → AllFrom low (p ++ all_slots qs) → AllEnd (p ++ all_slots qs) bs → AreBounded (record { lowest = low; slots = p } ∷ (new_leaves qs ++ bs))
    alone [] one starts last = ((from_parts low p [] starts).0, ends_one low p bs (all_end_parts p [] bs last).0 less, bounded)
    alone (q ∷ qs) one starts last = absurd (omega (arith, one))

    many : AllFull (p ∷ ps) → AreBounded (record { lowest = low; slots = p } ∷ (new_leaves ps ++ bs))
    many each =
        let starts = (from_parts low p (all_slots ps) from).0 in
        let end = all_end_parts p (all_slots ps) bs ends in (
          starts,
          ends_new low p ps bs each.1 ordered each.0 starts end.0,
          bounded_new ps bs each.1 (ordered_parts p (all_slots ps) ordered).1 end.1 bounded,
        )

-- what is in parts fits

fit_new : (capacity : ℕ) (ps : List (List Slot)) (bs : List Leaf) → PartsFit capacity ps → AllFit capacity bs → AllFit capacity (new_leaves ps ++ bs)
fit_new capacity [] bs parts rest = rest
fit_new capacity (p ∷ ps) bs parts rest = (parts.0, fit_new capacity ps bs parts.1 rest)

pub fit_from : (capacity : ℕ) (low : List ℕ) (ps : List (List Slot)) (bs : List Leaf) → PartsFit capacity ps → AllFit capacity bs → AllFit capacity (leaves_from low ps ++ bs)
fit_from capacity low [] bs parts rest = rest
fit_from capacity low (p ∷ ps) bs parts rest = (parts.0, fit_new capacity ps bs parts.1 rest)

-- the leaves are as many as the parts, and the first keeps the lowest key

length_new : (ps : List (List Slot)) → length (new_leaves ps) ≡ length ps
length_new [] = refl
length_new (p ∷ ps) = ap suc (length_new ps)

pub length_from : (low : List ℕ) (ps : List (List Slot)) → length (leaves_from low ps) ≡ length ps
length_from low [] = refl
length_from low (p ∷ ps) = ap suc (length_new ps)

pub first_from : (lowest : List ℕ) (parts : List (List Slot)) (bs : List Leaf) → 1 ≤ length parts → first_lowest (leaves_from lowest parts ++ bs) ≡ lowest
first_from lowest [] bs some = absurd (omega arith)
first_from lowest (p ∷ ps) bs some = refl

-- The leaf for a key.

-- where a leaf may hold a key, those before it may
starts_first : (k : List ℕ) (c : Leaf) (cs : List Leaf) → AreBounded (c ∷ cs) → list_any (starts_by k) (c ∷ cs) ≡ true → starts_by k c ≡ true
starts_first k c [] bounded any = go (starts_by k c) any
  where
    go : (t : Bool) → (t || false) ≡ true → t ≡ true
    go true h = refl
    go false h = h
starts_first k c (d ∷ ds) bounded any = go (starts_by k c) refl any (λ later. starts_first k d ds bounded.2 later)
  where
    go : (t : Bool) → starts_by k c ≡ t → (t || list_any (starts_by k) (d ∷ ds)) ≡ true → (list_any (starts_by k) (d ∷ ds) ≡ true → starts_by k d ≡ true) → t ≡ true
    go true is h later = refl
    go false is h later =
        let below : bytes_before k d.lowest ≡ true = before_trans k c.lowest d.lowest (not_false (bytes_before k c.lowest) is) bounded.1.1 in
        let above : bytes_before k d.lowest ≡ false = not_true (bytes_before k d.lowest) (later h) in
        let none : ⊥ = cc in absurd none

pub lower_slots : (k : List ℕ) (b : Leaf) (bs : List Leaf) → AreBounded (b ∷ bs) → list_any (starts_by k) bs ≡ true → AllBefore k b.slots
lower_slots k b [] bounded any = let none : ⊥ = cc in absurd none
lower_slots k b (c ∷ cs) bounded any = before_at_most' k c.lowest b.slots (not_true (bytes_before k c.lowest) (starts_first k c cs bounded.2 any)) bounded.1.0

pub higher_slots : (k : List ℕ) (bs : List Leaf) → AreBounded bs → list_any (starts_by k) bs ≡ false → AllBehind k (slots_along bs)
higher_slots k [] bounded none = tt
higher_slots k (c ∷ cs) bounded none = go (starts_by k c) refl none (λ h. higher_slots k cs bounded.2 h)
  where
    go : (t : Bool) → starts_by k c ≡ t → (t || list_any (starts_by k) cs) ≡ false → (list_any (starts_by k) cs ≡ false → AllBehind k (slots_along cs)) → AllBehind k (c.slots ++ slots_along cs)
    go true is h later = let clash : ⊥ = cc in absurd clash
    go false is h later = behind_both k c.slots (slots_along cs) (before_from k c.lowest c.slots (not_false (bytes_before k c.lowest) is) bounded.0) (later h)

first_behind : (k : List ℕ) (c : Leaf) (cs : List Leaf) → list_any (starts_by k) (c ∷ cs) ≡ false → bytes_before k c.lowest ≡ true
first_behind k c cs none = go (starts_by k c) refl none
  where
    go : (t : Bool) → starts_by k c ≡ t → (t || list_any (starts_by k) cs) ≡ false → bytes_before k c.lowest ≡ true
    go true is h = let clash : ⊥ = cc in absurd clash
    go false is h = not_false (bytes_before k c.lowest) is

pub place_below : (k : List ℕ) (b : Leaf) (bs : List Leaf) → leaf_place k (b ∷ bs) < length (b ∷ bs)
place_below k b [] = omega arith
place_below k b (c ∷ cs) = go (list_any (starts_by k) (c ∷ cs)) (place_below k c cs)
  where
    go : (t : Bool) → leaf_place k (c ∷ cs) < length (c ∷ cs) → (if t then suc (leaf_place k (c ∷ cs)) else 0) < suc (length (c ∷ cs))
    go true later = omega (arith, later)
    go false later = omega arith

module _ (capacity : ℕ) (held : List ℕ → Bool) (k : List ℕ) (v : Option (List ℕ)) (fits : 4 + size_of v ≤ capacity) where
  -- the leaf for a key is bounded where the key is set
  in_leaf : (b : Leaf) (bs : List Leaf) → IsOrdered (b.slots ++ slots_along bs) → AreBounded (b ∷ bs) → bytes_of b.slots ≤ capacity → AllHold b.slots → starts_by k b ≡ true → list_any (starts_by k) bs ≡ false
      → AreBounded (leaves_from b.lowest (bucket_with capacity held k v b.slots) ++ bs)
  in_leaf b bs ordered bounded small holds here none =
      let above : bytes_before k b.lowest ≡ false = not_true (bytes_before k b.lowest) here in
      let set = bucket_at capacity held k v [] b.slots (slots_along bs) (record { lower = tt; higher = higher_slots k bs bounded.2 none; ordered = ordered }) in
      bounded_from b.lowest (bucket_with capacity held k v b.slots) bs (bucket_parts capacity held k v b.slots fits small holds).full
      (ordered_parts (all_slots (bucket_with capacity held k v b.slots)) (slots_along bs) set.0).0
      (bucket_cases (AllFrom b.lowest) capacity held k v b.slots (put_from b.lowest k v b.slots above bounded.0) (put_from b.lowest k v (tidied held b.slots) above (tidied_from held b.lowest b.slots bounded.0)))
      (all_end bs bounded none) (low_ends bs bounded) bounded.2
    where
      all_end : (cs : List Leaf) → AreBounded (b ∷ cs) → list_any (starts_by k) cs ≡ false → AllEnd (all_slots (bucket_with capacity held k v b.slots)) cs
      all_end [] bound not = tt
      all_end (c ∷ cs) bound not =
          let below = first_behind k c cs not in
          bucket_cases (AllBefore c.lowest) capacity held k v b.slots (put_before c.lowest k v b.slots below bound.1.0) (put_before c.lowest k v (tidied held b.slots) below (tidy_before held c.lowest b.slots bound.1.0))

      low_ends : (cs : List Leaf) → AreBounded (b ∷ cs) → LowEnds b.lowest cs
      low_ends [] bound = tt
      low_ends (c ∷ cs) bound = bound.1.1

  -- the first leaf keeps its lowest key
  ends_from : (b : Leaf) (low : List ℕ) (slots : List Slot) (cs : List Leaf) (parts : List (List Slot)) (bs : List Leaf) → 1 ≤ length parts → EndsBefore b (record { lowest = low; slots = slots } ∷ cs) → EndsBefore b (leaves_from low parts ++ bs)
  ends_from b low slots cs [] bs some ends = absurd (omega arith)
  ends_from b low slots cs (p ∷ ps) bs some ends = ends

  ends_same : (b c : Leaf) (cs : List Leaf) → bytes_of c.slots ≤ capacity → AllHold c.slots → EndsBefore b (c ∷ cs) → EndsBefore b (leaves_with capacity held k v (c ∷ cs))
  ends_same b c cs small holds ends = go (list_any (starts_by k) cs)
    where
      go : (t : Bool) → EndsBefore b (if t then c ∷ leaves_with capacity held k v cs else leaves_from c.lowest (bucket_with capacity held k v c.slots) ++ cs)
      go true = ends
      go false = ends_from b c.lowest c.slots cs (bucket_with capacity held k v c.slots) cs (bucket_parts capacity held k v c.slots fits small holds).some ends

  pub first_kept : (b : Leaf) (bs : List Leaf) → AllFit capacity (b ∷ bs) → first_lowest (leaves_with capacity held k v (b ∷ bs)) ≡ b.lowest
  first_kept b bs fit = go (list_any (starts_by k) bs)
    where
      go : (t : Bool) → first_lowest (if t then b ∷ leaves_with capacity held k v bs else leaves_from b.lowest (bucket_with capacity held k v b.slots) ++ bs) ≡ b.lowest
      go true = refl
      go false = first_from b.lowest (bucket_with capacity held k v b.slots) bs (bucket_parts capacity held k v b.slots fits fit.0.0 fit.0.1).some

  pub leaves_bounded : (b : Leaf) (bs : List Leaf) → IsOrdered (slots_along (b ∷ bs)) → AreBounded (b ∷ bs) → AllFit capacity (b ∷ bs) → starts_by k b ≡ true → AreBounded (leaves_with capacity held k v (b ∷ bs))
  leaves_bounded b [] ordered bounded fit here = in_leaf b [] ordered bounded fit.0.0 fit.0.1 here refl
  leaves_bounded b (c ∷ cs) ordered bounded fit here =
      go (list_any (starts_by k) (c ∷ cs)) refl (λ any. leaves_bounded c cs (ordered_parts b.slots (slots_along (c ∷ cs)) ordered).1 bounded.2 fit.1 (starts_first k c cs bounded.2 any))
    where
      go : (t : Bool) → list_any (starts_by k) (c ∷ cs) ≡ t → (list_any (starts_by k) (c ∷ cs) ≡ true → AreBounded (leaves_with capacity held k v (c ∷ cs)))
          → AreBounded (if t then b ∷ leaves_with capacity held k v (c ∷ cs) else leaves_from b.lowest (bucket_with capacity held k v b.slots) ++ c ∷ cs)
      go true any later = (bounded.0, ends_same b c cs fit.1.0.0 fit.1.0.1 bounded.1, later any)
      go false none later = in_leaf b (c ∷ cs) ordered bounded fit.0.0 fit.0.1 here none

  -- what a leaf is parted in fits

  pub leaves_fit : (bs : List Leaf) → AllFit capacity bs → AllFit capacity (leaves_with capacity held k v bs)
  leaves_fit [] fit = tt
  leaves_fit (b ∷ bs) fit = go (list_any (starts_by k) bs) (leaves_fit bs fit.1)
    where
      go : (t : Bool) → AllFit capacity (leaves_with capacity held k v bs) → AllFit capacity (if t then b ∷ leaves_with capacity held k v bs else leaves_from b.lowest (bucket_with capacity held k v b.slots) ++ bs)
      go true later = (fit.0, later)
      go false later = fit_from capacity b.lowest (bucket_with capacity held k v b.slots) bs (bucket_parts capacity held k v b.slots fits fit.0.0 fit.0.1).fit fit.1

  -- and is up to two leaves more

  count_here : (b : Leaf) (cs : List Leaf) → bytes_of b.slots ≤ capacity → AllHold b.slots
      → (suc (length cs) ≤ length (leaves_from b.lowest (bucket_with capacity held k v b.slots) ++ cs)) × (length (leaves_from b.lowest (bucket_with capacity held k v b.slots) ++ cs) ≤ suc (length cs) + 2)
  count_here b cs small holds =
      let parts = bucket_parts capacity held k v b.slots fits small holds in
      let some = parts.some in let few = parts.few in
      let long = length_from b.lowest (bucket_with capacity held k v b.slots) in
      let all = length-append (leaves_from b.lowest (bucket_with capacity held k v b.slots)) cs in
      (omega (arith, some, long, all), omega (arith, few, long, all))

  pub leaves_count : (b : Leaf) (bs : List Leaf) → AllFit capacity (b ∷ bs) → (length (b ∷ bs) ≤ length (leaves_with capacity held k v (b ∷ bs))) × (length (leaves_with capacity held k v (b ∷ bs)) ≤ length (b ∷ bs) + 2)
  leaves_count b [] fit = count_here b [] fit.0.0 fit.0.1
  leaves_count b (c ∷ cs) fit = go (list_any (starts_by k) (c ∷ cs)) (leaves_count c cs fit.1)
    where
      go : (t : Bool) → (length (c ∷ cs) ≤ length (leaves_with capacity held k v (c ∷ cs))) × (length (leaves_with capacity held k v (c ∷ cs)) ≤ length (c ∷ cs) + 2)
          → (suc (length (c ∷ cs)) ≤ length (if t then b ∷ leaves_with capacity held k v (c ∷ cs) else leaves_from b.lowest (bucket_with capacity held k v b.slots) ++ c ∷ cs))
          × (length (if t then b ∷ leaves_with capacity held k v (c ∷ cs) else leaves_from b.lowest (bucket_with capacity held k v b.slots) ++ c ∷ cs) ≤ suc (length (c ∷ cs)) + 2)
      go true later = let low = later.0 in let high = later.1 in (omega (arith, low), omega (arith, high))
      go false later = count_here b (c ∷ cs) fit.0.0 fit.0.1

  -- The records of the leaves.

  -- these slots before leaves are those before the others with the key set
  abbrev IsSetBehind : (before : List Slot) (old new : List Leaf) → Type 0
  IsSetBehind before old new = IsOrdered (before ++ slots_along new) × ((q : List ℕ) → lookup (before ++ slots_along new) q ≡ (if same_bytes q k then v else lookup (before ++ slots_along old) q))

  set_in_leaf : (before : List Slot) (b : Leaf) (bs : List Leaf) → AllBefore k before → AllBehind k (slots_along bs) → IsOrdered (before ++ slots_along (b ∷ bs)) → IsSetBehind before (b ∷ bs) (leaves_from b.lowest (bucket_with capacity held k v b.slots) ++ bs)
  set_in_leaf before b bs lower higher ordered =
      subst (λ x. IsOrdered (before ++ x) × ((q : List ℕ) → lookup (before ++ x) q ≡ (if same_bytes q k then v else lookup (before ++ slots_along (b ∷ bs)) q))) (sym (slots_along-parts b.lowest (bucket_with capacity held k v b.slots) bs))
      (bucket_at capacity held k v before b.slots (slots_along bs) (record { lower = lower; higher = higher; ordered = ordered }))

  pub set_in_leaves : (before : List Slot) (b : Leaf) (bs : List Leaf) → AllBefore k before → IsOrdered (before ++ slots_along (b ∷ bs)) → AreBounded (b ∷ bs) → IsSetBehind before (b ∷ bs) (leaves_with capacity held k v (b ∷ bs))
  set_in_leaves before b [] lower ordered bounded = set_in_leaf before b [] lower tt ordered
  set_in_leaves before b (c ∷ cs) lower ordered bounded = go (list_any (starts_by k) (c ∷ cs)) refl (λ here. set_in_leaves (before ++ b.slots) c cs (before_both k before b.slots lower here) over bounded.2)
    where
      over : IsOrdered ((before ++ b.slots) ++ slots_along (c ∷ cs))
      over = subst IsOrdered (sym (append_assoc before b.slots (slots_along (c ∷ cs)))) ordered

      go : (t : Bool) → list_any (starts_by k) (c ∷ cs) ≡ t → (AllBefore k b.slots → IsSetBehind (before ++ b.slots) (c ∷ cs) (leaves_with capacity held k v (c ∷ cs)))
          → IsSetBehind before (b ∷ c ∷ cs) (if t then b ∷ leaves_with capacity held k v (c ∷ cs) else leaves_from b.lowest (bucket_with capacity held k v b.slots) ++ c ∷ cs)
      go true any later =
          let rest = later (lower_slots k b (c ∷ cs) bounded any) in (
            subst IsOrdered (append_assoc before b.slots (slots_along (leaves_with capacity held k v (c ∷ cs)))) rest.0,
            λ q. sym (ap (λ x. lookup x q) (append_assoc before b.slots (slots_along (leaves_with capacity held k v (c ∷ cs))))) ∙ rest.1 q ∙ ap (λ x. if same_bytes q k then v else lookup x q) (append_assoc before b.slots (slots_along (c ∷ cs))),
          )
      go false none later = set_in_leaf before b (c ∷ cs) lower (higher_slots k (c ∷ cs) bounded.2 none) ordered
