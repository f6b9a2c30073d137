-- Keys that are numbers, in the order of keys.
use Rattle.std.proofs.Common.{◌≡◌, ◌≢◌, ℕ, ◌<◌, ◌≤◌, ◌==◌, Option, Some, None, Bool, true, false, nat_lt, cond, refl, sym, ◌∙◌, arith}
use Rattle.std.proofs.lemmas.Bool.Decides.{nat_tests}
use Rattle.std.specs.Cmp.{unsigned_tied}
use Rattle.std.specs.Ordering.{is_lt}
use Rattle.std.specs.declared.cmp.Ordering.TheVariants.{Less, Equal, Greater}
use Rattle.tree_model.specs.vms_model.Keys.{Key, Number, Text, End}
use Rattle.change_set.specs.Maps.{same_key, key_before, is_after, StartsAt}

pub same_test : (m n : ℕ) → m ≡ n → same_key (Number m) (Number n) ≡ true
same_test m n is = unsigned_tied m n ∙ same_number m n is
  where
    same_number : (m n : ℕ) → m ≡ n → (m == n) ≡ true
    same_number m n is = grind (arith, nat_tests)

pub other_test : (m n : ℕ) → m ≢ n → same_key (Number m) (Number n) ≡ false
other_test m n not = unsigned_tied m n ∙ other_number m n not
  where
    other_number : (m n : ℕ) → m ≢ n → (m == n) ≡ false
    other_number m n not = grind (arith, nat_tests)

-- numbers come before others as they are below them
before_is : (m n : ℕ) → key_before (Number m) (Number n) ≡ nat_lt m n
before_is m n = tests (nat_lt m n) (m == n)
  where
    tests : (a b : Bool) → is_lt (cond a Less (cond b Equal Greater)) ≡ a
    tests true b = refl
    tests false true = refl
    tests false false = refl

pub below_number : (m n : ℕ) → key_before (Number m) (Number n) ≡ true → m < n
below_number m n is = from_test m n (sym (before_is m n) ∙ is)
  where
    from_test : (m n : ℕ) → nat_lt m n ≡ true → m < n
    from_test m n is = grind (arith, nat_tests)

pub number_below : (m n : ℕ) → m < n → key_before (Number m) (Number n) ≡ true
number_below m n below = before_is m n ∙ to_test m n below
  where
    to_test : (m n : ℕ) → m < n → nat_lt m n ≡ true
    to_test m n is = grind (arith, nat_tests)

-- what comes behind a key
pub number_after : (from m : ℕ) (after : Option Key) → StartsAt from after → is_after after (Number m) ≡ true → 1 ≤ m → from < m
number_after from m None starts is one = omega arith
number_after from m (Some (Number k)) starts is one = let below = below_number k m is in omega arith
number_after from m (Some (Text t)) starts is one = absurd starts
number_after from m (Some End) starts is one = absurd starts

pub after_number : (from m : ℕ) (after : Option Key) → StartsAt from after → from < m → is_after after (Number m) ≡ true
after_number from m None starts below = refl
after_number from m (Some (Number k)) starts below = number_below k m (omega arith)
after_number from m (Some (Text t)) starts below = absurd starts
after_number from m (Some End) starts below = absurd starts
