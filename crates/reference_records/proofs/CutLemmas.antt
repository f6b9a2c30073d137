-- The positions that go where a sequential file is truncated.
use Rattle.std.proofs.Common.{◌≡◌, ℕ, ◌-◌, ◌≤◌, List, true, refl, arith, drop, reverse}
use Rattle.std.specs.Prelude.{map, nat_le}
use Rattle.std.proofs.lemmas.Bool.Decides.{nat_tests}
use Rattle.vms_model.specs.Keys.{Key}
use Rattle.reference_index.specs.run_model.World.{File}
use Rattle.reference_index.specs.run_model.Operations.{in_order, cut_keys}

-- the keys of these records, from the last down
abbrev pub keys_back : List (Key × List ℕ) → List Key
keys_back es = reverse (map (λ e. e.0) es)

some : (n : ℕ) → 1 ≤ n → nat_le 1 n ≡ true
some n h = grind (arith, nat_tests)

pub cut_is : (f : File) (n : ℕ) → 1 ≤ n → keys_back (drop (n - 1) (in_order f)) ≡ cut_keys f n
cut_is f n h = rw (some n h) refl
