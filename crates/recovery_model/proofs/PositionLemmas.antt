-- Positions and moments of entries.
use Rattle.std.proofs.Common.{ℕ, ◌+◌, ◌<◌, ◌≤◌, List, [], ◌∷◌, arith}
use Rattle.recovery_model.specs.Journal.{Entry, Changed, Settled, entry_length, Below, Before}
use Rattle.recovery_model.specs.File.{Placed, ImageJournal, entries_length, StandFrom, IsInOrder}
use Rattle.recovery_model.proofs.Covering.{Ascends}

pub entry_counts : (e : Entry) → 0 < entry_length e
entry_counts (Changed s k v) = omega arith
entry_counts (Settled s c t) = omega arith

-- each lies before the one after it, and the last before the end
ascends_from : (first end : ℕ) (xs : List Placed) → StandFrom first xs → first + entries_length xs ≤ end → Ascends end xs
ascends_from first end [] h l = tt
ascends_from first end (x ∷ xs) h l = (let y = h.0 in let z = entry_counts x.entry in omega arith, ascends_from first x.at xs h.1 (let y = h.0 in omega arith))

pub ascends_in : (j : ImageJournal) → IsInOrder j → Ascends j.end j.entries
ascends_in j w = ascends_from j.first j.end j.entries w.places w.within

-- Moments.

pub before_later : (g t : ℕ) (es : List Entry) → g ≤ t → Before g es → Before t es
before_later g t [] l h = tt
before_later g t (Changed r k v ∷ es) l h = before_later g t es l h
before_later g t (Settled r outcome m ∷ es) l h = (let x = h.0 in omega arith, h.1)

below_from : (g t : ℕ) (es : List Entry) → t ≤ g + 1 → Before t es → Below g es
below_from g t [] l h = tt
below_from g t (Changed r k v ∷ es) l h = below_from g t es l h
below_from g t (Settled r outcome m ∷ es) l h = let x = h.0 in (omega arith, below_from g m es (omega arith) h.1)

pub before_below : (g : ℕ) (es : List Entry) → Before (g + 1) es → Below g es
before_below g es h = below_from g (g + 1) es (omega arith) h
