-- Which blocks extents have.
use Rattle.std.proofs.Common.{◌≡◌, inl, inr, ℕ, ◌+◌, ◌<◌, ◌≤◌, List, [], ◌∷◌, Bool, true, false, length, get_or, take, max, ◌-◌, subst, refl, sym, ap, ◌∙◌, arith, zero, suc}
use Rattle.std.specs.Prelude.{◌||◌, ◌&&◌, not}
use Rattle.std.proofs.lemmas.Bool.Decides.{nat_tests}
use Rattle.std.proofs.lemmas.Bool.{cases_lt}
use Rattle.std.proofs.lemmas.List.{take_more}
use Rattle.std.proofs.lemmas.List.Folds.{list_any-append}
use Rattle.extents.specs.declared.extent.Extent.{Extent}
use Rattle.extents.specs.Extents.{covers, is_used, is_free, nowhere, IsFreeRun, IsNextRun, FitsBehind}

-- what a cover is
pub covered : (e : Extent) (n : ℕ) → covers e n ≡ true → (e.start ≤ n) × (n < e.end)
covered e n h = (grind (arith, nat_tests), grind (arith, nat_tests))

pub covering : (e : Extent) (n : ℕ) → e.start ≤ n → n < e.end → covers e n ≡ true
covering e n from to = grind (arith, nat_tests)

pub uncovered : (e : Extent) (n : ℕ) → covers e n ≡ false → e.start ≤ n → e.end ≤ n
uncovered e n h from = grind (arith, nat_tests)

pub not_below : (e : Extent) (n : ℕ) → n < e.start → covers e n ≡ false
not_below e n h = grind (arith, nat_tests)

pub not_behind : (e : Extent) (n : ℕ) → e.end ≤ n → covers e n ≡ false
not_behind e n h = grind (arith, nat_tests)

-- choices
or_nothing : (b : Bool) → (b || false) ≡ b
or_nothing true = refl
or_nothing false = refl

pub either_false : (a b : Bool) → a ≡ false → b ≡ false → (a || b) ≡ false
either_false a b p q = rw (p, q) refl

or_left : (a b : Bool) → a ≡ true → (a || b) ≡ true
or_left a b h = rw h refl

or_right : (a b : Bool) → b ≡ true → (a || b) ≡ true
or_right true b h = refl
or_right false b h = h

no_left : (a b : Bool) → (a || b) ≡ false → a ≡ false
no_left true b h = cc
no_left false b h = refl

no_right : (a b : Bool) → (a || b) ≡ false → b ≡ false
no_right true b h = cc
no_right false b h = h

pub both : (a b : Bool) → (a && b) ≡ true → (a ≡ true) × (b ≡ true)
both true b h = (refl, h)
both false b h = cc

pub is_not : (b : Bool) → not b ≡ true → b ≡ false
is_not true h = cc
is_not false h = refl

pub not_both : {X : Type 0} (b : Bool) → b ≡ true → b ≡ false → X
not_both b is isnt = let k : true ≡ false = sym is ∙ isnt in cc

-- one extent more
pub used_more : (es : List Extent) (i n : ℕ) → i < length es → is_used (take (i + 1) es) n ≡ (is_used (take i es) n || covers (get_or es i nowhere) n)
used_more es i n within =
    ap (λ l. is_used l n) (take_more es i nowhere within) ∙ list_any-append (λ e. covers e n) (take i es) (get_or es i nowhere ∷ [])
    ∙ ap (λ b. is_used (take i es) n || b) (or_nothing (covers (get_or es i nowhere) n))

pub unused_more : (es : List Extent) (i n : ℕ) → i < length es → is_used (take i es) n ≡ false → covers (get_or es i nowhere) n ≡ false → is_used (take (i + 1) es) n ≡ false
unused_more es i n within before here = used_more es i n within ∙ either_false _ _ before here

-- an extent of the list has the block
pub used_at : (es : List Extent) (i n : ℕ) (d : Extent) → i < length es → covers (get_or es i d) n ≡ true → is_used es n ≡ true
used_at [] i n d within has = absurd (omega arith)
used_at (e ∷ es) zero n d within has = or_left (covers e n) (is_used es n) has
used_at (e ∷ es) (suc i) n d within has = or_right (covers e n) (is_used es n) (used_at es i n d (omega arith) has)

-- where none of the list has it, the one at a place has not
pub unused_at : (es : List Extent) (i n : ℕ) (d : Extent) → i < length es → is_used es n ≡ false → covers (get_or es i d) n ≡ false
unused_at [] i n d within none = absurd (omega arith)
unused_at (e ∷ es) zero n d within none = no_left (covers e n) (is_used es n) none
unused_at (e ∷ es) (suc i) n d within none = unused_at es i n d (omega arith) (no_right (covers e n) (is_used es n) none)

-- a free block
pub free_is : (area : Extent) (es : List Extent) (n : ℕ) → is_free area es n ≡ true → (covers area n ≡ true) × (is_used es n ≡ false)
free_is area es n h = let b = both (covers area n) (not (is_used es n)) h in (b.0, is_not (is_used es n) b.1)

pub is_free_block : (area : Extent) (es : List Extent) (n : ℕ) → covers area n ≡ true → is_used es n ≡ false → is_free area es n ≡ true
is_free_block area es n in_area unused = rw (in_area, unused) refl

-- a run found is a run of each length up to its own
pub run_found : (area : Extent) (es : List Extent) (at blocks : ℕ) (run : Extent) → area.start ≤ at → IsNextRun es at area.end run → run.start + blocks ≤ run.end → IsFreeRun area es run.start blocks
run_found area es at blocks run from next long =
    let free : (n : ℕ) → run.start ≤ n → n < run.end → is_free area es n ≡ true = λ n low high. is_free_block area es n
    (covering area n (let a = next.from in omega arith) (let b = next.within in omega arith)) (next.free n low high) in
    record { first = free run.start (omega arith) next.some; all = λ n low high. free n low (omega arith) }

-- a longer one begins at no block of it, nor before it
pub run_behind : (area : Extent) (es : List Extent) (at blocks : ℕ) (run : Extent) → IsNextRun es at area.end run → run.end < run.start + blocks → (n : ℕ) → at ≤ n → n < run.end → IsFreeRun area es n blocks → ⊥
run_behind area es at blocks run next long n from to found =
    elim (cases_lt n run.start) [
      | inl before ↦ not_both (is_used es n) (next.used n from before) (free_is area es n found.first).1
      | inr in_run ↦ let f = free_is area es run.end (found.all run.end (omega arith) (omega arith)) in
          not_both (is_used es run.end) (next.stops (covered area run.end f.0).1) f.1
    ]

-- no run begins where all blocks are used, or behind the area
pub run_nowhere : (area : Extent) (es : List Extent) (at blocks : ℕ) → ((n : ℕ) → at ≤ n → n < area.end → is_used es n ≡ true) → (n : ℕ) → at ≤ n → IsFreeRun area es n blocks → ⊥
run_nowhere area es at blocks used n from found =
    let f = free_is area es n found.first in
    not_both (is_used es n) (used n from (covered area n f.0).1) f.1

-- nor before it
pub run_before : (area : Extent) (es : List Extent) (n blocks : ℕ) → n < area.start → IsFreeRun area es n blocks → ⊥
run_before area es n blocks below found = not_both (covers area n) (free_is area es n found.first).0 (not_below area n below)

-- a longest run, and one more that was found
pub longest_found : (area : Extent) (es : List Extent) (at most longest : ℕ) (run : Extent) → area.start ≤ at → IsNextRun es at area.end run → longest ≡ max most (run.end - run.start)
    → (0 < most → (start : ℕ) × IsFreeRun area es start most) → 0 < longest → (start : ℕ) × IsFreeRun area es start longest
longest_found area es at most longest run from next is found some =
    elim (cases_lt most (run.end - run.start)) [
      | inl more ↦ (run.start, run_found area es at longest run from next (omega arith))
      | inr less ↦ let same : longest ≡ most = omega arith in subst (λ m. (start : ℕ) × IsFreeRun area es start m) (sym same) (found (omega arith))
    ]

pub longest_step : (area : Extent) (es : List Extent) (at most longest : ℕ) (run : Extent) → IsNextRun es at area.end run → longest ≡ max most (run.end - run.start)
    → ((start blocks : ℕ) → start < at → IsFreeRun area es start blocks → blocks ≤ most) → (start blocks : ℕ) → start < run.end → IsFreeRun area es start blocks → blocks ≤ longest
longest_step area es at most longest run next is so_far start blocks below found =
    elim (cases_lt start at) [
      | inl before ↦ let few = so_far start blocks before found in omega arith
      | inr behind ↦ elim (cases_lt run.end (run.start + blocks)) [
        | inl long ↦ absurd (run_behind area es at blocks run next long start behind below found)
        | inr short ↦ omega arith
      ]
    ]

pub longest_end : (area : Extent) (es : List Extent) (at most : ℕ) → ((n : ℕ) → at ≤ n → n < area.end → is_used es n ≡ true)
    → ((start blocks : ℕ) → start < at → IsFreeRun area es start blocks → blocks ≤ most) → (start blocks : ℕ) → IsFreeRun area es start blocks → blocks ≤ most
longest_end area es at most used so_far start blocks found =
    elim (cases_lt start at) [
      | inl before ↦ so_far start blocks before found
      | inr behind ↦ absurd (run_nowhere area es at blocks used start behind found)
    ]

-- no extent without blocks has one
pub covers_none : (e : Extent) (n : ℕ) → e.end ≤ e.start → covers e n ≡ false
covers_none e n h = elim (cases_lt n e.start) [
  | inl low ↦ not_below e n low
  | inr high ↦ not_behind e n (omega arith)
]

-- so it fits anywhere
pub none_fits : (area : Extent) (before : List Extent) (e : Extent) → ((n : ℕ) → covers e n ≡ false) → FitsBehind area before e
none_fits area before e none = record { inside = λ n has. not_both (covers e n) has (none n); apart = λ n has. not_both (covers e n) has (none n) }
