-- The least key of a size, and the layout of a new file.
use Rattle.std.proofs.Common.{◌≡◌, ⊎_elim, false, [], ◌∷◌, length, replicate, refl, ap, ◌∙◌, subst, arith}
use Rattle.std.specs.declared.cmp.Ordering.TheVariants.{Greater}
use Rattle.std.specs.Ordering.{nat_cmp}
use Rattle.std.specs.Cmp.{nat_cmp_is}
use Rattle.std.proofs.lemmas.Bool.{cases_lt}
use Rattle.records_model.specs.Slots.{bytes_before}
use Rattle.tree_model.specs.Laws.{ZerosAreLeast, FirstIsTree}

pub zeros_least : ZerosAreLeast
zeros_least [] = refl
zeros_least (x ∷ xs) = ⊎_elim
    (λ more. let greater : Greater ≡ nat_cmp x 0 = nat_cmp_is x 0 Greater more in grind (arith, greater))
    (λ none. let zero_is : x ≡ 0 = omega arith in ap (λ y. bytes_before (y ∷ xs) (0 ∷ replicate (length xs) 0)) zero_is ∙ zeros_least xs)
    (cases_lt 0 x)

pub first_is_tree : FirstIsTree
first_is_tree sizes key_size = record {
  tree = record { ordered = tt; bounded = (tt, tt, tt); fit = ((omega arith, tt), tt); index = refl };
  none = refl;
  holds = λ k size. subst (λ n. bytes_before k (replicate n 0) ≡ false) size (zeros_least k);
}
