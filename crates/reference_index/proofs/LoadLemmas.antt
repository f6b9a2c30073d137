-- The index over buckets that are loaded, by how many buckets may be made.
use Rattle.std.proofs.Common.{◌≡◌, ℕ, zero, suc, ◌-◌, ◌<◌, ◌≤◌, List, [], ◌∷◌, true, false, refl, arith, length}
use Rattle.std.specs.Prelude.{if◌then◌else◌, nat_le}
use Rattle.std.proofs.lemmas.Bool.Decides.{nat_tests}
use Rattle.run_model.specs.tree_model.Loads.{shared, index_over}

at_most : (a b : ℕ) → a ≤ b → nat_le a b ≡ true
at_most a b h = grind (arith, nat_tests)

past : (a b : ℕ) → b < a → nat_le a b ≡ false
past a b h = grind (arith, nat_tests)

pub shared_none : (fan_out most n : ℕ) → most ≡ 0 → shared fan_out most n ≡ n ∷ []
shared_none fan_out most n h = rw h refl

pub shared_last : (fan_out most n : ℕ) → n ≤ fan_out → shared fan_out most n ≡ n ∷ []
shared_last fan_out zero n h = refl
shared_last fan_out (suc more) n h = rw (at_most n fan_out h) refl

pub shared_more : (fan_out most n : ℕ) → 0 < most → fan_out < n → shared fan_out most n ≡ fan_out ∷ shared fan_out (most - 1) (n - fan_out)
shared_more fan_out zero n some h = absurd (omega arith)
shared_more fan_out (suc more) n some h = let e : suc more - 1 ≡ more = omega arith in rw (past n fan_out h, e) refl

pub index_none : (fan_out most n : ℕ) → most ≡ 0 → index_over fan_out most n ≡ []
index_none fan_out most n h = rw h refl

pub index_last : (fan_out most n : ℕ) → n ≤ 1 → index_over fan_out most n ≡ []
index_last fan_out zero n h = refl
index_last fan_out (suc more) n h = rw (at_most n 1 h) refl

pub index_more : (fan_out most n : ℕ) → 0 < most → 1 < n → index_over fan_out most n ≡ shared fan_out n n ∷ index_over fan_out (most - 1) (length (shared fan_out n n))
index_more fan_out zero n some h = absurd (omega arith)
index_more fan_out (suc more) n some h = let e : suc more - 1 ≡ more = omega arith in rw (past n 1 h, e) refl
