-- The way of a key.
use Rattle.std.proofs.Common.{◌≡◌, ◌<◌, ⊎_elim, ◌+◌, ℕ, suc, List, Option, Some, None, IfSome, set, length, slice_index_or, sym, ap, ◌∙◌, subst, arith}
use Rattle.std.proofs.lemmas.Bool.{cases_lt}
use Rattle.std.proofs.Common.{get_or-set_same, get_or-set_other}
use Rattle.file_base.specs.declared.head.FileHead.{FileHead}
use Rattle.index_bucket.specs.index_model.Indexes.{child_for}
use Rattle.index_bucket.specs.Entries.{IsIndexBucket}
use Rattle.index_blocks.specs.Buckets.{bucket_at}
use Rattle.index_blocks.specs.Levels.{entries_in, height, way, IsWay}

abbrev Told : Type 0
Told = Option (List (List ℕ))

-- one step more
pub way_step : (told : Told) (h : FileHead) (k : List ℕ) (i n to : ℕ) → i < height h → IfSome told (λ b. IsWay h b k → n ≡ way h b k i)
    → IfSome told (λ b. IsIndexBucket h (bucket_at h b n) → to ≡ child_for k (entries_in h b n)) → IfSome told (λ b. IsWay h b k → to ≡ way h b k (i + 1))
way_step None h k i n to below at leads = tt
way_step (Some b) h k i n to below at leads = λ is.
    let here : n ≡ way h b k i = at is in
    let more : suc i ≡ i + 1 = omega arith in
    leads (subst (λ m. IsIndexBucket h (bucket_at h b m)) (sym here) (is.buckets i below)) ∙ ap (λ m. child_for k (entries_in h b m)) here ∙ ap (way h b k) more

-- the numbers that were noted, with one more
pub noted : (P : ℕ → ℕ → Type 0) (path : List ℕ) (i n : ℕ) → i < length path → ((steps : ℕ) → steps < i → P steps (slice_index_or path steps 0)) → P i n → (steps : ℕ) → steps < i + 1 → P steps (slice_index_or (set path i n) steps 0)
noted P path i n within before here steps below = ⊎_elim
    (λ less. subst (P steps) (sym (get_or-set_other path i steps n 0 (λ same. omega (arith, same, less)))) (before steps less))
    (λ more. let same : i ≡ steps = omega (arith, below, more) in subst (λ s. P s (slice_index_or (set path i n) s 0)) same (subst (P i) (sym (get_or-set_same path i n 0 within)) here))
    (cases_lt steps i)

pub way_noted : (told : Told) (h : FileHead) (k path : List ℕ) (i n : ℕ) → i < length path → IfSome told (λ b. IsWay h b k → n ≡ way h b k i)
    → IfSome told (λ b. IsWay h b k → (steps : ℕ) → steps < i → slice_index_or path steps 0 ≡ way h b k steps) → IfSome told (λ b. IsWay h b k → (steps : ℕ) → steps < i + 1 → slice_index_or (set path i n) steps 0 ≡ way h b k steps)
way_noted None h k path i n within at before = tt
way_noted (Some b) h k path i n within at before = λ is. noted (λ steps m. m ≡ way h b k steps) path i n within (before is) (at is)
