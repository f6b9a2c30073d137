-- An index that leads to its leaves.
use Rattle.std.proofs.Common.{◌≡◌, ◌≤◌, ◌<◌, ⊎_elim, ◌+◌, ◌-◌, ℕ, zero, suc, Bool, true, false, List, [], ◌∷◌, ◌++◌, length, map, if◌then◌else◌, refl, sym, ap, ◌∙◌, subst, arith}
use Rattle.std.specs.List.{list_any}
use Rattle.std.proofs.lemmas.Bool.{cases_lt}
use Rattle.file_base.specs.declared.head.FileHead.{FileHead}
use Rattle.index_bucket.specs.index_model.Indexes.{Entry, entries_along, parent_entry, AllSome, AreLevels, leads_by, child_for, descended, Ascends, numbers_of}
use Rattle.index_bucket.specs.index_model.Trees.{child_of}
use Rattle.index_bucket.proofs.index_model.DescentLemmas.{descends, parents_ascend, some_below}
use Rattle.index_bucket.proofs.index_model.HandLemmas.{AgreeOn, levels_agree}
use Rattle.index_bucket.specs.Entries.{IsIndexBucket}
use Rattle.index_blocks.specs.Buckets.{bucket_at}
use Rattle.index_blocks.specs.Levels.{entries_in, least_key, below_at, levels_above, height, AllAre, LeadsDown, IsWay, way, leaf_for}
use Rattle.index_blocks.specs.Laws.{LevelsLead, LevelsRead}

pub are_parts : (P : ℕ → Type 0) (a b : List ℕ) → AllAre P (a ++ b) → AllAre P a × AllAre P b
are_parts P [] b all = (tt, all)
are_parts P (n ∷ ns) b all = let rest = are_parts P ns b all.1 in ((all.0, rest.0), rest.1)

pub child_is : (P : ℕ → Type 0) (k : List ℕ) (es : List Entry) → 1 ≤ length es → AllAre P (map child_of es) → P (child_for k es)
child_is P k [] some all = absurd (omega arith)
child_is P k (e ∷ []) some all = all.0
child_is P k (e ∷ f ∷ fs) some all = go (list_any (leads_by k) (f ∷ fs)) (child_is P k (f ∷ fs) (omega arith) all.1)
  where
    go : (t : Bool) → P (child_for k (f ∷ fs)) → P (if t then child_for k (f ∷ fs) else e.child)
    go true later = later
    go false later = all.0

pub length_levels : (h : FileHead) (b : List (List ℕ)) (d : ℕ) → length (levels_above h b d) ≡ d
length_levels h b zero = refl
length_levels h b (suc d) = ap suc (length_levels h b d)

module _ (h : FileHead) (b : List (List ℕ)) (is : LeadsDown h b) (up : Ascends (below_at h b (height h))) where
  buckets_at : (d : ℕ) → d ≤ height h → AllAre (λ n. IsIndexBucket h (bucket_at h b n)) (numbers_of (levels_above h b d))
  buckets_at d within = go (height h - d) d (omega (arith, within))
    where
      go : (more d : ℕ) → height h ≡ d + more → AllAre (λ n. IsIndexBucket h (bucket_at h b n)) (numbers_of (levels_above h b d))
      go zero d same = let here : height h ≡ d = omega (arith, same) in subst (λ m. AllAre (λ n. IsIndexBucket h (bucket_at h b n)) (numbers_of (levels_above h b m))) here is.buckets
      go (suc more) d same = (are_parts (λ n. IsIndexBucket h (bucket_at h b n)) (map child_of (below_at h b d)) (numbers_of (levels_above h b d)) (go more (suc d) (omega (arith, same)))).1

  some_of : (ns : List ℕ) → AllAre (λ n. IsIndexBucket h (bucket_at h b n)) ns → AllSome (entries_in h b) ns
  some_of [] all = tt
  some_of (n ∷ ns) all = (all.0.some, some_of ns all.1)

  level_buckets : (d : ℕ) → d < height h → AllAre (λ n. IsIndexBucket h (bucket_at h b n)) (map child_of (below_at h b d))
  level_buckets d below = (are_parts (λ n. IsIndexBucket h (bucket_at h b n)) (map child_of (below_at h b d)) (numbers_of (levels_above h b d)) (buckets_at (suc d) (omega (arith, below)))).0

  levels_at : (d : ℕ) → d ≤ height h → AreLevels (least_key h) (entries_in h b) (below_at h b d) (levels_above h b d) h.root
  levels_at zero within = refl
  levels_at (suc d) within = (
    refl,
    some_of (map child_of (below_at h b d)) (level_buckets d (omega (arith, within))),
    subst (λ es. AreLevels (least_key h) (entries_in h b) es (levels_above h b d) h.root) (sym (is.joins d (omega (arith, within)))) (levels_at d (omega (arith, within))),
  )

  ascends_at : (more d : ℕ) → height h ≡ d + more → Ascends (below_at h b d)
  ascends_at zero d same = let here : height h ≡ d = omega (arith, same) in subst (λ m. Ascends (below_at h b m)) here up
  ascends_at (suc more) d same =
      let below : d < height h = omega (arith, same) in
      subst Ascends (is.joins d below) (parents_ascend (entries_in h b) [] (map child_of (below_at h b d)) (some_of (map child_of (below_at h b d)) (level_buckets d below)) (ascends_at more (suc d) (omega (arith, same))))

  pub way_is : (k : List ℕ) (d : ℕ) → d ≤ height h → way h b k d ≡ child_for k (below_at h b d)
  way_is k d within =
      ap (descended (entries_in h b) k h.root) (sym (length_levels h b d))
      ∙ descends (least_key h) (entries_in h b) (below_at h b d) (levels_above h b d) h.root k (ascends_at (height h - d) d (omega (arith, within))) (levels_at d within)

  way_laid : (k : List ℕ) → IsWay h b k
  way_laid k = record {
    buckets = λ d below. subst (λ n. IsIndexBucket h (bucket_at h b n)) (sym (way_is k d (omega (arith, below))))
        (child_is (λ n. IsIndexBucket h (bucket_at h b n)) k (below_at h b d) (some_below (least_key h) (entries_in h b) (below_at h b d) (levels_above h b d) h.root (levels_at d (omega (arith, below)))) (level_buckets d below));
  }

  pub leads : AreLevels (least_key h) (entries_in h b) (below_at h b (height h)) (levels_above h b (height h)) h.root × ((k : List ℕ) → IsWay h b k) × ((k : List ℕ) → way h b k (height h) ≡ leaf_for h b k)
  leads = (levels_at (height h) (omega arith), way_laid, λ k. way_is k (height h) (omega arith))

pub levels_lead : LevelsLead
levels_lead h b is up = let all = leads h b is up in record { levels = all.0; ways = all.1; ends = all.2 }

pub children_of_parents : (f : ℕ → List Entry) (ns : List ℕ) → map child_of (map (parent_entry f) ns) ≡ ns
children_of_parents f [] = refl
children_of_parents f (n ∷ ns) = ap (λ l. n ∷ l) (children_of_parents f ns)

pub agree_on : (f g : ℕ → List Entry) (ns : List ℕ) → AllAre (λ n. f n ≡ g n) ns → AgreeOn f g ns
agree_on f g [] all = tt
agree_on f g (n ∷ ns) all = (all.0, agree_on f g ns all.1)

-- levels are read from the root down
record Reads (h : FileHead) (b : List (List ℕ)) (below : List Entry) (levels : List (List ℕ)) : Type 0 where
  below_is : below_at h b (length levels) ≡ below
  levels_are : levels_above h b (length levels) ≡ levels
  joins : (steps : ℕ) → steps < length levels → map (parent_entry (entries_in h b)) (map child_of (below_at h b steps)) ≡ below_at h b steps

reads : (h : FileHead) (b : List (List ℕ)) (below : List Entry) (levels : List (List ℕ)) → AreLevels (least_key h) (entries_in h b) below levels h.root → Reads h b below levels
reads h b below [] leads = record { below_is = sym leads; levels_are = refl; joins = λ steps less. absurd (omega (arith, less)) }
reads h b below (ns ∷ above) leads =
    let rest = reads h b (map (parent_entry (entries_in h b)) ns) above leads.2 in
    let numbers : map child_of (below_at h b (length above)) ≡ ns = ap (map child_of) rest.below_is ∙ children_of_parents (entries_in h b) ns in
    record {
      below_is = ap (entries_along (entries_in h b)) numbers ∙ leads.0;
      levels_are = λ i. numbers i ∷ rest.levels_are i;
      joins = λ steps less. ⊎_elim (λ under. rest.joins steps under)
          (λ more. let here : length above ≡ steps = omega (arith, less, more) in
          subst (λ d. map (parent_entry (entries_in h b)) (map child_of (below_at h b d)) ≡ below_at h b d) here (ap (map (parent_entry (entries_in h b))) numbers ∙ sym rest.below_is))
          (cases_lt steps (length above));
    }

pub levels_read : LevelsRead
levels_read h b entries below levels leads count same =
    let here = levels_agree (least_key h) (entries_in h b) entries below levels h.root (agree_on (entries_in h b) entries (numbers_of levels) same) leads in
    let all = reads h b below levels here in
    let high : length levels ≡ height h = omega (arith, count) in
    record {
      leaves_are = ap (below_at h b) (sym high) ∙ all.below_is;
      levels_are = ap (levels_above h b) (sym high) ∙ all.levels_are;
      joins = λ steps less. all.joins steps (omega (arith, less, high));
    }
