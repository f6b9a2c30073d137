-- What the tests of numbers tell.
use Rattle.std.proofs.Common.{◌≡◌, ◌≤◌, ◌<◌, ℕ, true, false, nat_le, arith}
use Rattle.std.specs.Prelude.{nat_lt}
use Rattle.std.proofs.lemmas.Bool.Decides.{nat_tests}

pub below_test : (a b : ℕ) → nat_lt a b ≡ true → a < b
below_test a b h = grind (arith, nat_tests)

pub not_below_test : (a b : ℕ) → nat_lt a b ≡ false → b ≤ a
not_below_test a b h = grind (arith, nat_tests)

pub fits_test : (a b : ℕ) → nat_le a b ≡ true → a ≤ b
fits_test a b h = grind (arith, nat_tests)

pub over_test : (a b : ℕ) → nat_le a b ≡ false → b < a
over_test a b h = grind (arith, nat_tests)

pub tests_fit : (a b : ℕ) → a ≤ b → nat_le a b ≡ true
tests_fit a b h = grind (arith, nat_tests)

pub tests_over : (a b : ℕ) → b < a → nat_le a b ≡ false
tests_over a b h = grind (arith, nat_tests)
