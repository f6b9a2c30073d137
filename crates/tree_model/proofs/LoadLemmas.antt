-- A tree that is loaded.
use Rattle.std.proofs.Common.{◌≡◌, ◌≤◌, ◌<◌, ◌⊎◌, inl, inr, ◌+◌, ◌-◌, ℕ, zero, suc, Bool, true, false, List, [], ◌∷◌, ◌++◌, length, map, replicate, if◌then◌else◌, nat_le, refl, sym, ap, ◌∙◌, subst, append-nil, append_assoc, arith}
use Rattle.records_model.specs.Slots.{Slot, bytes_before, IsOrdered}
use Rattle.records_model.specs.Parts.{bytes_of, all_slots}
use Rattle.tree_model.specs.Setting.{new_leaves, leaves_from}
use Rattle.tree_model.specs.Trees.{AllFrom, AreBounded, AllHold, AllFit, total, AllWithin, IsIndex}
use Rattle.tree_model.specs.Loads.{slot_for, filled, shared, index_over}
use Rattle.tree_model.specs.Laws.{first_lowest, first_bytes, AllLoad, AreFilled, IsShared, AreShared, TreeLoads}
use Rattle.tree_model.proofs.Tests.{fits_test, over_test, tests_fit}
use Rattle.tree_model.proofs.PartsLemmas.{AllFull, PartsFit, bytes-append, holds_both}
use Rattle.tree_model.proofs.BoundLemmas.{slots_along-from, bounded_from, fit_from, length_from, first_from}
use Rattle.tree_model.proofs.ZeroLemmas.{zeros_least}

-- The index.

-- so many are shared, each share has at most as many as a bucket holds, and there are fewer shares than two or more that are shared
record Shares (fan_out n : ℕ) (parts : List ℕ) : Type 0 where
  sum : total parts ≡ n
  within : AllWithin fan_out parts
  some : 1 ≤ length parts
  fewer : 2 ≤ n → length parts < n
  least : length parts ≤ n

shares : (fan_out more n : ℕ) → 2 ≤ fan_out → 1 ≤ n → n ≤ more → Shares fan_out n (shared fan_out more n)
shares fan_out zero n wide some below = absurd (omega (arith, some, below))
shares fan_out (suc more) n wide some below = go (nat_le n fan_out) refl (λ over. shares fan_out more (n - fan_out) wide (omega (arith, over)) (omega (arith, over, below, wide)))
  where
    go : (t : Bool) → nat_le n fan_out ≡ t → (fan_out < n → Shares fan_out (n - fan_out) (shared fan_out more (n - fan_out))) → Shares fan_out n (if t then n ∷ [] else fan_out ∷ shared fan_out more (n - fan_out))
    go true is later = let fits = fits_test n fan_out is in record { sum = omega arith; within = ((some, fits), tt); some = omega arith; fewer = λ two. omega (arith, two); least = omega (arith, some) }
    go false is later =
        let over = over_test n fan_out is in
        let rest = later over in
        let sum = rest.sum in let least = rest.least in
        record { sum = omega (arith, sum, over); within = ((omega (arith, wide), omega arith), rest.within); some = omega arith; fewer = λ two. omega (arith, least, over, wide); least = omega (arith, least, over, wide) }

index_loads : (fan_out more n : ℕ) → 2 ≤ fan_out → 1 ≤ n → n ≤ more → IsIndex fan_out n (index_over fan_out more n)
index_loads fan_out zero n wide some below = absurd (omega (arith, some, below))
index_loads fan_out (suc more) n wide some below =
    let all = shares fan_out n n wide some (omega arith) in
    let some_shares = all.some in
    go (nat_le n 1) refl (λ two. index_loads fan_out more (length (shared fan_out n n)) wide some_shares (let less = all.fewer two in omega (arith, less, below)))
  where
    go : (t : Bool) → nat_le n 1 ≡ t → (2 ≤ n → IsIndex fan_out (length (shared fan_out n n)) (index_over fan_out more (length (shared fan_out n n)))) → IsIndex fan_out n (if t then [] else shared fan_out n n ∷ index_over fan_out more (length (shared fan_out n n)))
    go true is later = let one = fits_test n 1 is in omega (arith, one, some)
    go false is later =
        let over = over_test n 1 is in
        let all = shares fan_out n n wide some (omega arith) in (all.sum, all.within, later (omega (arith, over)))

-- one more bucket in front, which is full
shared_behind : (fan_out more n : ℕ) → IsShared fan_out (shared fan_out more n) → IsShared fan_out (fan_out ∷ shared fan_out more n)
shared_behind fan_out zero n is = (refl, tt)
shared_behind fan_out (suc more) n is = go (nat_le n fan_out) is
  where
    go : (t : Bool) → IsShared fan_out (if t then n ∷ [] else fan_out ∷ shared fan_out more (n - fan_out)) → IsShared fan_out (fan_out ∷ (if t then n ∷ [] else fan_out ∷ shared fan_out more (n - fan_out)))
    go true all = (refl, tt)
    go false all = (refl, all)

is_shared : (fan_out more n : ℕ) → IsShared fan_out (shared fan_out more n)
is_shared fan_out zero n = tt
is_shared fan_out (suc more) n = go (nat_le n fan_out) (shared_behind fan_out more (n - fan_out) (is_shared fan_out more (n - fan_out)))
  where
    go : (t : Bool) → IsShared fan_out (fan_out ∷ shared fan_out more (n - fan_out)) → IsShared fan_out (if t then n ∷ [] else fan_out ∷ shared fan_out more (n - fan_out))
    go true later = tt
    go false later = later

are_shared : (fan_out more n : ℕ) → AreShared fan_out (index_over fan_out more n)
are_shared fan_out zero n = tt
are_shared fan_out (suc more) n = go (nat_le n 1) (are_shared fan_out more (length (shared fan_out n n)))
  where
    go : (t : Bool) → AreShared fan_out (index_over fan_out more (length (shared fan_out n n))) → AreShared fan_out (if t then [] else shared fan_out n n ∷ index_over fan_out more (length (shared fan_out n n)))
    go true later = tt
    go false later = (is_shared fan_out n n, later)

-- The leaves.

-- each slot fits a leaf
abbrev AllSmall : ℕ → List Slot → Type 0
AllSmall cap [] = Unit {0}
AllSmall cap (s ∷ ss) = (4 + s.room ≤ cap) × AllSmall cap ss

-- the first slot of the next part does not fit this one
abbrev PartEnds : ℕ → List Slot → List (List Slot) → Type 0
PartEnds cap p [] = Unit {0}
PartEnds cap p (q ∷ qs) = cap < bytes_of p + first_bytes q

abbrev PartsFilled : ℕ → List (List Slot) → Type 0
PartsFilled cap [] = Unit {0}
PartsFilled cap (p ∷ ps) = PartEnds cap p ps × PartsFilled cap ps

module _ (cap : ℕ) where
  one_more : (now : List Slot) (s : Slot) → bytes_of (now ++ s ∷ []) ≡ bytes_of now + (4 + s.room)
  one_more now s = let both = bytes-append now (s ∷ []) in omega (arith, both)

  filled_slots : (now ss : List Slot) → all_slots (filled cap now ss) ≡ now ++ ss
  filled_slots now [] = refl
  filled_slots now (s ∷ ss) = go (nat_le (bytes_of (now ++ s ∷ [])) cap) (filled_slots (now ++ s ∷ []) ss) (filled_slots (s ∷ []) ss)
    where
      go : (t : Bool) → all_slots (filled cap (now ++ s ∷ []) ss) ≡ (now ++ s ∷ []) ++ ss → all_slots (filled cap (s ∷ []) ss) ≡ s ∷ ss → all_slots (if t then filled cap (now ++ s ∷ []) ss else now ∷ filled cap (s ∷ []) ss) ≡ now ++ s ∷ ss
      go true here next = here ∙ append_assoc now (s ∷ []) ss
      go false here next = ap (λ x. now ++ x) next

  filled_fit : (now ss : List Slot) → bytes_of now ≤ cap → AllHold now → AllHold ss → AllSmall cap ss → PartsFit cap (filled cap now ss)
  filled_fit now [] fits holds more small = ((fits, holds), tt)
  filled_fit now (s ∷ ss) fits holds more small =
      let one = small.0 in
      go (nat_le (bytes_of (now ++ s ∷ [])) cap) refl (λ here. filled_fit (now ++ s ∷ []) ss here (holds_both now (s ∷ []) holds (more.0, tt)) more.1 small.1) (filled_fit (s ∷ []) ss (omega (arith, one)) (more.0, tt) more.1 small.1)
    where
      go : (t : Bool) → nat_le (bytes_of (now ++ s ∷ [])) cap ≡ t → (bytes_of (now ++ s ∷ []) ≤ cap → PartsFit cap (filled cap (now ++ s ∷ []) ss)) → PartsFit cap (filled cap (s ∷ []) ss)
          → PartsFit cap (if t then filled cap (now ++ s ∷ []) ss else now ∷ filled cap (s ∷ []) ss)
      go true is here next = here (fits_test (bytes_of (now ++ s ∷ [])) cap is)
      go false is here next = ((fits, holds), next)

  filled_full : (now ss : List Slot) → 1 ≤ length now → AllFull (filled cap now ss)
  filled_full now [] some = (some, tt)
  filled_full now (s ∷ ss) some = go (nat_le (bytes_of (now ++ s ∷ [])) cap) (filled_full (now ++ s ∷ []) ss (longer now)) (filled_full (s ∷ []) ss (omega arith))
    where
      longer : (xs : List Slot) → 1 ≤ length (xs ++ s ∷ [])
      longer [] = omega arith
      longer (x ∷ xs) = omega arith

      go : (t : Bool) → AllFull (filled cap (now ++ s ∷ []) ss) → AllFull (filled cap (s ∷ []) ss) → AllFull (if t then filled cap (now ++ s ∷ []) ss else now ∷ filled cap (s ∷ []) ss)
      go true here next = here
      go false here next = (some, next)

  filled_some : (now ss : List Slot) → 1 ≤ length (filled cap now ss)
  filled_some now [] = omega arith
  filled_some now (s ∷ ss) = go (nat_le (bytes_of (now ++ s ∷ [])) cap) (filled_some (now ++ s ∷ []) ss)
    where
      go : (t : Bool) → 1 ≤ length (filled cap (now ++ s ∷ []) ss) → 1 ≤ length (if t then filled cap (now ++ s ∷ []) ss else now ∷ filled cap (s ∷ []) ss)
      go true here = here
      go false here = omega arith

  -- one part without slots, or parts with slots
  filled_parts : (ss : List Slot) → AllSmall cap ss → (length (filled cap [] ss) ≡ 1) ⊎ AllFull (filled cap [] ss)
  filled_parts [] small = inl refl
  filled_parts (s ∷ ss) small = let one = small.0 in inr (subst (λ t. AllFull (if t then filled cap (s ∷ []) ss else [] ∷ filled cap (s ∷ []) ss)) (sym (tests_fit (bytes_of (s ∷ [])) cap (omega (arith, one)))) (filled_full (s ∷ []) ss (omega arith)))

  -- what is filled begins with the slot that began it
  filled_begins : (p : List Slot) (s : Slot) (now ss : List Slot) → cap < bytes_of p + (4 + s.room) → PartEnds cap p (filled cap (s ∷ now) ss)
  filled_begins p s now [] over = over
  filled_begins p s now (r ∷ rs) over = go (nat_le (bytes_of (s ∷ now ++ r ∷ [])) cap) (filled_begins p s (now ++ r ∷ []) rs over)
    where
      go : (t : Bool) → PartEnds cap p (filled cap (s ∷ now ++ r ∷ []) rs) → PartEnds cap p (if t then filled cap (s ∷ now ++ r ∷ []) rs else (s ∷ now) ∷ filled cap (r ∷ []) rs)
      go true here = here
      go false here = over

  parts_filled : (now ss : List Slot) → PartsFilled cap (filled cap now ss)
  parts_filled now [] = (tt, tt)
  parts_filled now (s ∷ ss) = go (nat_le (bytes_of (now ++ s ∷ [])) cap) refl (parts_filled (now ++ s ∷ []) ss) (parts_filled (s ∷ []) ss)
    where
      go : (t : Bool) → nat_le (bytes_of (now ++ s ∷ [])) cap ≡ t → PartsFilled cap (filled cap (now ++ s ∷ []) ss) → PartsFilled cap (filled cap (s ∷ []) ss)
          → PartsFilled cap (if t then filled cap (now ++ s ∷ []) ss else now ∷ filled cap (s ∷ []) ss)
      go true is here next = here
      go false is here next =
          let over = over_test (bytes_of (now ++ s ∷ [])) cap is in
          let bytes = one_more now s in (filled_begins now s [] ss (omega (arith, over, bytes)), next)

  new_filled : (ps : List (List Slot)) → PartsFilled cap ps → AreFilled cap (new_leaves ps)
  new_filled [] all = tt
  new_filled (p ∷ []) all = (tt, tt)
  new_filled (p ∷ q ∷ qs) all = (all.0, new_filled (q ∷ qs) all.1)

  from_filled : (lowest : List ℕ) (ps : List (List Slot)) → PartsFilled cap ps → AreFilled cap (leaves_from lowest ps)
  from_filled lowest [] all = tt
  from_filled lowest (p ∷ []) all = (tt, tt)
  from_filled lowest (p ∷ q ∷ qs) all = (all.0, new_filled (q ∷ qs) all.1)

-- The records.

records_hold : (records : List (List ℕ × List ℕ)) → AllHold (map slot_for records)
records_hold [] = tt
records_hold (e ∷ es) = (omega arith, records_hold es)

records_small : (cap key_size : ℕ) (records : List (List ℕ × List ℕ)) → AllLoad cap key_size records → AllSmall cap (map slot_for records)
records_small cap key_size [] all = tt
records_small cap key_size (e ∷ es) all = (all.0.1, records_small cap key_size es all.1)

records_from : (cap key_size : ℕ) (records : List (List ℕ × List ℕ)) → AllLoad cap key_size records → AllFrom (replicate key_size 0) (map slot_for records)
records_from cap key_size [] all = tt
records_from cap key_size (e ∷ es) all = (subst (λ n. bytes_before e.0 (replicate n 0) ≡ false) all.0.0 (zeros_least e.0), records_from cap key_size es all.1)

pub tree_loads : TreeLoads
tree_loads sizes key_size records wide ordered all = record {
  slots = slots_along-from zeros parts ∙ same;
  tree = record {
    ordered = subst IsOrdered (sym (slots_along-from zeros parts ∙ same)) ordered;
    bounded = subst AreBounded (append-nil (leaves_from zeros parts)) (bounded_from zeros parts [] (filled_parts sizes.capacity slots small) (subst IsOrdered (sym same) ordered)
        (subst (AllFrom zeros) (sym same) (records_from sizes.capacity key_size records all)) tt tt tt);
    fit = subst (AllFit sizes.capacity) (append-nil (leaves_from zeros parts)) (fit_from sizes.capacity zeros parts [] (filled_fit sizes.capacity [] slots (omega arith) tt (records_hold records) small) tt);
    index = subst (λ n. IsIndex sizes.fan_out n (index_over sizes.fan_out (length parts) (length parts))) (sym (length_from zeros parts)) (index_loads sizes.fan_out (length parts) (length parts) wide (filled_some sizes.capacity [] slots) (omega arith));
  };
  first = ap first_lowest (sym (append-nil (leaves_from zeros parts))) ∙ first_from zeros parts [] (filled_some sizes.capacity [] slots);
  leaves = from_filled sizes.capacity zeros parts (parts_filled sizes.capacity [] slots);
  index = are_shared sizes.fan_out (length parts) (length parts);
}
  where
    slots : List Slot
    slots = map slot_for records

    zeros : List ℕ
    zeros = replicate key_size 0

    parts : List (List Slot)
    parts = filled sizes.capacity [] slots

    small : AllSmall sizes.capacity slots
    small = records_small sizes.capacity key_size records all

    same : all_slots parts ≡ slots
    same = filled_slots sizes.capacity [] slots
