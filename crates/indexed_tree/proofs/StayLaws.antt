-- An index whose buckets stay is read as before.
use Rattle.std.proofs.Common.{◌≡◌, ◌≤◌, ◌+◌, ◌-◌, ℕ, zero, suc, List, [], ◌∷◌, map, refl, sym, ap, ◌∙◌, subst, arith}
use Rattle.file_base.specs.declared.head.FileHead.{FileHead}
use Rattle.index_blocks.specs.index_model.Indexes.{Entry, entries_along, parent_entry, numbers_of}
use Rattle.index_blocks.specs.index_model.Trees.{child_of}
use Rattle.index_blocks.proofs.index_model.HandLemmas.{AgreeOn, along_agree, parents_agree}
use Rattle.index_blocks.specs.index_bucket.Entries.{entries_at, IsIndexBucket}
use Rattle.index_blocks.specs.Buckets.{bucket_at}
use Rattle.index_blocks.specs.Levels.{entries_in, below_at, levels_above, height, leaf_entries, levels_of, AllAre, LeadsDown}
use Rattle.index_blocks.proofs.LevelLaws.{are_parts}

-- what holds of each of some buckets, where these are the same
pub moved : (P Q : ℕ → Type 0) (ns : List ℕ) → ((n : ℕ) → P n → Q n) → AllAre P ns → AllAre Q ns
moved P Q [] f all = tt
moved P Q (n ∷ ns) f all = (f n all.0, moved P Q ns f all.1)

pub both_are : (P Q R : ℕ → Type 0) (ns : List ℕ) → ((n : ℕ) → P n → Q n → R n) → AllAre P ns → AllAre Q ns → AllAre R ns
both_are P Q R [] f first second = tt
both_are P Q R (n ∷ ns) f first second = (f n first.0 second.0, both_are P Q R ns f first.1 second.1)

module _ (h : FileHead) (b b' : List (List ℕ)) where
  abbrev pub Same : List ℕ → Type 0
  Same ns = AllAre (λ n. bucket_at h b' n ≡ bucket_at h b n) ns

  pub entries_agree : (ns : List ℕ) → Same ns → AgreeOn (entries_in h b') (entries_in h b) ns
  entries_agree [] same = tt
  entries_agree (n ∷ ns) same = (ap (entries_at h) same.0, entries_agree ns same.1)

  same_at : (d : ℕ) → Same (numbers_of (levels_above h b d)) → (below_at h b' d ≡ below_at h b d) × (levels_above h b' d ≡ levels_above h b d)
  same_at zero same = (refl, refl)
  same_at (suc d) same =
      let parts = are_parts (λ n. bucket_at h b' n ≡ bucket_at h b n) (map child_of (below_at h b d)) (numbers_of (levels_above h b d)) same in
      let rest = same_at d parts.1 in
      let numbers : map child_of (below_at h b' d) ≡ map child_of (below_at h b d) = ap (map child_of) rest.0 in (
        ap (entries_along (entries_in h b')) numbers ∙ along_agree (entries_in h b') (entries_in h b) (map child_of (below_at h b d)) (entries_agree (map child_of (below_at h b d)) parts.0),
        (λ i. numbers i ∷ rest.1 i),
      )

  module _ (same : Same (numbers_of (levels_of h b))) where
    same_down : (more d : ℕ) → height h ≡ d + more → Same (numbers_of (levels_above h b d))
    same_down zero d is = let here : height h ≡ d = omega (arith, is) in subst (λ m. Same (numbers_of (levels_above h b m))) here same
    same_down (suc more) d is = (are_parts (λ n. bucket_at h b' n ≡ bucket_at h b n) (map child_of (below_at h b d)) (numbers_of (levels_above h b d)) (same_down more (suc d) (omega (arith, is)))).1

    pub below_stays : (d : ℕ) → d ≤ height h → below_at h b' d ≡ below_at h b d
    below_stays d within = (same_at d (same_down (height h - d) d (omega (arith, within)))).0

    pub leaves_stay : leaf_entries h b' ≡ leaf_entries h b
    leaves_stay = below_stays (height h) (omega arith)

    pub levels_stay : levels_of h b' ≡ levels_of h b
    levels_stay = (same_at (height h) same).1

    pub leads_stays : LeadsDown h b → LeadsDown h b'
    leads_stays is = record {
      buckets = subst (λ (levels : List (List ℕ)). AllAre (λ n. IsIndexBucket h (bucket_at h b' n)) (numbers_of levels)) (sym levels_stay)
          (both_are (λ n. bucket_at h b' n ≡ bucket_at h b n) (λ n. IsIndexBucket h (bucket_at h b n)) (λ n. IsIndexBucket h (bucket_at h b' n)) (numbers_of (levels_of h b))
          (λ n stays bucket. subst (λ (x : List ℕ). IsIndexBucket h x) (sym stays) bucket) same is.buckets);
      joins = λ d below.
          let ns = map child_of (below_at h b d) in
          let here = below_stays d (omega (arith, below)) in
          let parts = are_parts (λ n. bucket_at h b' n ≡ bucket_at h b n) ns (numbers_of (levels_above h b d)) (same_down (height h - suc d) (suc d) (omega (arith, below))) in
          ap (λ (es : List Entry). map (parent_entry (entries_in h b')) (map child_of es)) here ∙ parents_agree (entries_in h b') (entries_in h b) ns (entries_agree ns parts.0) ∙ is.joins d below ∙ sym here;
    }
