-- An index one level after another.
use Rattle.std.proofs.Common.{◌≡◌, ◌≤◌, ℕ, zero, suc, ◌+◌, ◌-◌, List, [], ◌∷◌, length, refl, ap, arith}
use Rattle.run_model.specs.tree_model.Setting.{index_with, level_with, place_above}

-- where nothing is new
pub index_still : (fan_out p more : ℕ) (index : List (List ℕ)) → more ≡ 0 → index ≡ index_with fan_out p more index
index_still fan_out p zero index none = refl
index_still fan_out p (suc more) index none = absurd (omega (arith, none))

-- where the root was parted
pub index_root : (fan_out p more : ℕ) → 1 ≤ more → ((more + 1) ∷ []) ∷ [] ≡ index_with fan_out p more []
index_root fan_out p zero some = absurd (omega (arith, some))
index_root fan_out p (suc more) some = let same : suc more + 1 ≡ suc (suc more) = omega arith in ap (λ n. (n ∷ []) ∷ []) same

-- where a level takes entries
pub index_step : (fan_out p more : ℕ) (level : List ℕ) (above : List (List ℕ)) → 1 ≤ more →
    level_with fan_out p more level ∷ index_with fan_out (place_above p level) (length (level_with fan_out p more level) - length level) above ≡ index_with fan_out p more (level ∷ above)
index_step fan_out p zero level above some = absurd (omega (arith, some))
index_step fan_out p (suc more) level above some = refl
