-- An index that grows.
use Rattle.std.proofs.Common.{◌≡◌, ◌≤◌, ◌<◌, ℕ, zero, suc, ◌+◌, ◌-◌, ◌/◌, Bool, true, false, List, [], ◌∷◌, ◌++◌, length, if◌then◌else◌, nat_le, refl, subst, length-append, arith}
use Rattle.std.specs.Prelude.{nat_lt}
use Rattle.tree_model.specs.Layouts.{index_size}
use Rattle.tree_model.specs.Setting.{halves, level_with, place_above, index_with}
use Rattle.tree_model.specs.Trees.{total, AllWithin, IsIndex}
use Rattle.tree_model.specs.Laws.{IndexGrows, OneLevelOneBucket}
use Rattle.tree_model.proofs.Tests.{not_below_test, fits_test, over_test}

total-append : (a b : List ℕ) → total (a ++ b) ≡ total a + total b
total-append [] b = omega arith
total-append (n ∷ ns) b = let later = total-append ns b in omega (arith, later)

within_both : (fan_out : ℕ) (a b : List ℕ) → AllWithin fan_out a → AllWithin fan_out b → AllWithin fan_out (a ++ b)
within_both fan_out [] b first second = second
within_both fan_out (n ∷ ns) b first second = (first.0, within_both fan_out ns b first.1 second)

-- the buckets of so many entries
record Shares (fan_out n : ℕ) (parts : List ℕ) : Type 0 where
  sum : total parts ≡ n
  within : AllWithin fan_out parts
  some : 1 ≤ length parts
  few : length parts ≤ 2

halves_share : (fan_out n : ℕ) → 1 ≤ n → n ≤ fan_out + 2 → 3 ≤ fan_out → Shares fan_out n (halves fan_out n)
halves_share fan_out n some few wide = go (nat_le n fan_out) refl
  where
    go : (t : Bool) → nat_le n fan_out ≡ t → Shares fan_out n (if t then n ∷ [] else n / 2 ∷ (n - n / 2) ∷ [])
    go true is = let fits = fits_test n fan_out is in record { sum = omega arith; within = ((some, fits), tt); some = omega arith; few = omega arith }
    go false is = let over = over_test n fan_out is in record { sum = omega arith; within = ((omega (arith, over), omega (arith, over)), ((omega (arith, over), omega (arith, over)), tt)); some = omega arith; few = omega arith }

-- a level that has more entries
record LevelGrows (fan_out more : ℕ) (old new : List ℕ) : Type 0 where
  sum : total new ≡ total old + more
  within : AllWithin fan_out new
  most : length new ≤ suc (length old)
  least : length old ≤ length new

level_grows : (fan_out p more : ℕ) (level : List ℕ) → 3 ≤ fan_out → more ≤ 2 → p < total level → AllWithin fan_out level → LevelGrows fan_out more level (level_with fan_out p more level)
level_grows fan_out p more [] wide few there within = absurd (omega arith)
level_grows fan_out p more (n ∷ ns) wide few there within = go (nat_lt p n) refl (λ less. level_grows fan_out (p - n) more ns wide few less within.1)
  where
    go : (t : Bool) → nat_lt p n ≡ t → (p - n < total ns → LevelGrows fan_out more ns (level_with fan_out (p - n) more ns))
        → LevelGrows fan_out more (n ∷ ns) (if t then halves fan_out (n + more) ++ ns else n ∷ level_with fan_out (p - n) more ns)
    go true is later =
        let one = within.0.0 in
        let fits = within.0.1 in
        let parts = halves_share fan_out (n + more) (omega (arith, one)) (omega (arith, fits)) wide in
        let sum = parts.sum in
        let some = parts.some in
        let most = parts.few in
        let all = total-append (halves fan_out (n + more)) ns in
        let long = length-append (halves fan_out (n + more)) ns in
        record { sum = omega (arith, sum, all); within = within_both fan_out (halves fan_out (n + more)) ns parts.within within.1; most = omega (arith, most, long); least = omega (arith, some, long) }
    go false is later =
        let above = not_below_test p n is in
        let rest = later (omega (arith, above)) in
        let sum = rest.sum in
        let most = rest.most in
        let least = rest.least in
        record { sum = omega (arith, sum); within = (within.0, rest.within); most = omega (arith, most); least = omega (arith, least) }

place_within : (p : ℕ) (level : List ℕ) → p < total level → place_above p level < length level
place_within p [] there = absurd (omega arith)
place_within p (n ∷ ns) there = go (nat_lt p n) refl (λ less. place_within (p - n) ns less)
  where
    go : (t : Bool) → nat_lt p n ≡ t → (p - n < total ns → place_above (p - n) ns < length ns) → (if t then 0 else suc (place_above (p - n) ns)) < suc (length ns)
    go true is later = omega arith
    go false is later = let above = not_below_test p n is in let rest = later (omega (arith, above)) in omega (arith, rest)

pub index_is_grown : IndexGrows
index_is_grown fan_out n p zero index wide few there is = record {
  is = subst (λ m. IsIndex fan_out m index) (omega arith) is;
  buckets = omega arith;
  no_less = omega arith;
  levels = omega arith;
  no_lower = omega arith;
}
index_is_grown fan_out n p (suc more) [] wide few there is = record {
  is = (omega (arith, is), ((omega arith, omega arith), tt), refl);
  buckets = omega arith;
  no_less = omega arith;
  levels = omega arith;
  no_lower = omega arith;
}
index_is_grown fan_out n p (suc more) (level ∷ above) wide few there is =
    let sum = is.0 in
    let below : p < total level = omega (arith, sum) in
    let level_new = level_grows fan_out p (suc more) level wide few below is.1 in
    let most = level_new.most in
    let least = level_new.least in
    let sum_new = level_new.sum in
    let upper = index_is_grown fan_out (length level) (place_above p level) (length (level_with fan_out p (suc more) level) - length level) above wide (omega (arith, most)) (place_within p level below) is.2 in
    let buckets = upper.buckets in
    let no_less = upper.no_less in
    let levels = upper.levels in
    let no_lower = upper.no_lower in
    record {
      is = (omega (arith, sum, sum_new), level_new.within, subst (λ m. IsIndex fan_out m (index_with fan_out (place_above p level) (length (level_with fan_out p (suc more) level) - length level) above)) (omega (arith, least)) upper.is);
      buckets = omega (arith, buckets, most);
      no_less = omega (arith, no_less, least);
      levels = omega (arith, levels);
      no_lower = omega (arith, no_lower);
    }

-- an index stands over a bucket at least, and has a bucket of its own where it has a level
pub index_some : (fan_out n : ℕ) (index : List (List ℕ)) → IsIndex fan_out n index → 1 ≤ n
index_some fan_out n [] is = omega (arith, is)
index_some fan_out n (level ∷ above) is =
    let long = index_some fan_out (length level) above is.2 in
    let sum = is.0 in
    let more = least level is.1 long in omega (arith, sum, more)
  where
    least : (ns : List ℕ) → AllWithin fan_out ns → 1 ≤ length ns → 1 ≤ total ns
    least [] within some = absurd (omega (arith, some))
    least (m ∷ ms) within some = let one = within.0.0 in omega (arith, one)

one_bucket : (fan_out n : ℕ) (index : List (List ℕ)) → IsIndex fan_out n index → (suc (length index) ≡ 1 → n + index_size index ≡ 1) × (n + index_size index ≡ 1 → suc (length index) ≡ 1)
one_bucket fan_out n [] is = ((λ h. omega (arith, is)), (λ h. refl))
one_bucket fan_out n (level ∷ above) is =
    let some = index_some fan_out n (level ∷ above) is in
    let long = index_some fan_out (length level) above is.2 in
    ((λ h. absurd (omega (arith, h))), (λ h. absurd (omega (arith, h, some, long))))

pub one_level_one_bucket : OneLevelOneBucket
one_level_one_bucket sizes l tree = one_bucket sizes.fan_out (length l.leaves) l.index tree.index
