-- Buckets that are staged through a frame.
use Rattle.std.proofs.Common.{◌≡◌, ℕ, ◌≤◌, ◌+◌, List, length, set, Option, Some, None, option_map, refl, sym, ap, subst, ◌∙◌, arith}
use Rattle.std.proofs.lemmas.List.{set-set}
use Rattle.change_set.specs.careful_write.State.{StoreState}
use Rattle.change_set.proofs.careful_write.Reading.{same_all, same_so}
use Rattle.file_base.specs.declared.head.FileHead.{FileHead}
use Rattle.change_set.specs.Buckets.{frame_of, with_frame, with_bucket, WasFree}
use Rattle.change_set.proofs.Frames.{Lent, lent_given}
use Rattle.change_set.proofs.Loading.{length-with_numbers}
use Rattle.indexed_file.specs.Chain.{bucket_first}
use Rattle.indexed_file.specs.Sets.{with_parts, with_blocks_of, touched_by}

abbrev Told : Type 0
Told = Option (List (List ℕ))

-- one bucket after the other, through the same frame
frame_again : (f : ℕ) (t s s' : StoreState) (C : Told → Told) (T : List ℕ → List ℕ) → s ≡ with_frame f (frame_of s.pool f) t → s' ≡ with_frame f (frame_of s'.pool f) (record s { current = C s.current; touched = T s.touched })
    → s' ≡ with_frame f (frame_of s'.pool f) (record t { current = C t.current; touched = T t.touched })
frame_again f t s s' C T was is =
    is ∙ (λ i. with_frame f (frame_of s'.pool f) (record (was i) { current = C (was i).current; touched = T (was i).touched }))
    ∙ (λ i. record t { current = C t.current; touched = T t.touched; pool = set-set t.pool f (Some (frame_of s.pool f)) (Some (frame_of s'.pool f)) i })

told_twice : (f g : List (List ℕ) → List (List ℕ)) (o : Told) → option_map g (option_map f o) ≡ option_map (λ x. g (f x)) o
told_twice f g None = refl
told_twice f g (Some x) = refl

-- the store with the parts staged, beside a frame
abbrev pub PartsStaged : FileHead → ℕ → ℕ → ℕ → List ℕ → List ℕ → List ℕ → StoreState → StoreState → Type 0
PartsStaged h f n added low mid high s s' = s' ≡ with_frame f (frame_of s'.pool f) (record s { current = option_map (with_parts h n added low mid high) s.current; touched = touched_by h n added s.touched })

pub parts_none : (h : FileHead) (f n added : ℕ) (low mid high : List ℕ) (s0 s1 : StoreState) → added ≡ 0
    → s1 ≡ with_frame f (frame_of s1.pool f) (record s0 { current = option_map (λ b. with_bucket low b (bucket_first h n) h.bucket) s0.current; touched = with_blocks_of h n s0.touched })
    → PartsStaged h f n added low mid high s0 s1
parts_none h f n added low mid high s0 s1 none is = subst (λ (a : ℕ). PartsStaged h f n a low mid high s0 s1) (sym none) is

two_staged : (h : FileHead) (f n : ℕ) (low mid high : List ℕ) (s0 s1 s2 : StoreState)
    → s1 ≡ with_frame f (frame_of s1.pool f) (record s0 { current = option_map (λ b. with_bucket low b (bucket_first h n) h.bucket) s0.current; touched = with_blocks_of h n s0.touched })
    → s2 ≡ with_frame f (frame_of s2.pool f) (record s1 { current = option_map (λ b. with_bucket mid b (bucket_first h h.used) h.bucket) s1.current; touched = with_blocks_of h h.used s1.touched })
    → PartsStaged h f n 1 low mid high s0 s2
two_staged h f n low mid high s0 s1 s2 first second =
    let g = λ (b : List (List ℕ)). with_bucket low b (bucket_first h n) h.bucket in
    let k = λ (b : List (List ℕ)). with_bucket mid b (bucket_first h h.used) h.bucket in
    frame_again f (record s0 { current = option_map g s0.current; touched = with_blocks_of h n s0.touched }) s1 s2 (option_map k) (with_blocks_of h h.used) first second
    ∙ (λ i. with_frame f (frame_of s2.pool f) (record s0 { current = told_twice g k s0.current i; touched = touched_by h n 1 s0.touched }))

pub parts_one : (h : FileHead) (f n added : ℕ) (low mid high : List ℕ) (s0 s1 s2 : StoreState) → added ≡ 1
    → s1 ≡ with_frame f (frame_of s1.pool f) (record s0 { current = option_map (λ b. with_bucket low b (bucket_first h n) h.bucket) s0.current; touched = with_blocks_of h n s0.touched })
    → s2 ≡ with_frame f (frame_of s2.pool f) (record s1 { current = option_map (λ b. with_bucket mid b (bucket_first h h.used) h.bucket) s1.current; touched = with_blocks_of h h.used s1.touched })
    → PartsStaged h f n added low mid high s0 s2
parts_one h f n added low mid high s0 s1 s2 one first second = subst (λ (a : ℕ). PartsStaged h f n a low mid high s0 s2) (sym one) (two_staged h f n low mid high s0 s1 s2 first second)

pub parts_two : (h : FileHead) (f n added : ℕ) (low mid high : List ℕ) (s0 s1 s2 s3 : StoreState) → added ≡ 2
    → s1 ≡ with_frame f (frame_of s1.pool f) (record s0 { current = option_map (λ b. with_bucket low b (bucket_first h n) h.bucket) s0.current; touched = with_blocks_of h n s0.touched })
    → s2 ≡ with_frame f (frame_of s2.pool f) (record s1 { current = option_map (λ b. with_bucket mid b (bucket_first h h.used) h.bucket) s1.current; touched = with_blocks_of h h.used s1.touched })
    → s3 ≡ with_frame f (frame_of s3.pool f) (record s2 { current = option_map (λ b. with_bucket high b (bucket_first h (h.used + 1)) h.bucket) s2.current; touched = with_blocks_of h (h.used + 1) s2.touched })
    → PartsStaged h f n added low mid high s0 s3
parts_two h f n added low mid high s0 s1 s2 s3 two first second third =
    let g = with_parts h n 1 low mid high in
    let k = λ (b : List (List ℕ)). with_bucket high b (bucket_first h (h.used + 1)) h.bucket in
    let both = two_staged h f n low mid high s0 s1 s2 first second in
    let all : PartsStaged h f n 2 low mid high s0 s3 =
    frame_again f (record s0 { current = option_map g s0.current; touched = touched_by h n 1 s0.touched }) s2 s3 (option_map k) (with_blocks_of h (h.used + 1)) both third
    ∙ (λ i. with_frame f (frame_of s3.pool f) (record s0 { current = told_twice g k s0.current i; touched = touched_by h n 2 s0.touched })) in
    subst (λ (a : ℕ). PartsStaged h f n a low mid high s0 s3) (sym two) all

-- a bucket's blocks are at most 16 numbers more
pub touched_few : (h : FileHead) (f n : ℕ) (bytes : List ℕ) (s0 s1 : StoreState) → h.bucket ≤ 16
    → s1 ≡ with_frame f (frame_of s1.pool f) (record s0 { current = option_map (λ b. with_bucket bytes b (bucket_first h n) h.bucket) s0.current; touched = with_blocks_of h n s0.touched })
    → length s1.touched ≤ length s0.touched + 16
touched_few h f n bytes s0 s1 most is = omega (arith, ap (λ (s : StoreState). length s.touched) is, length-with_numbers (518 + bucket_first h n) h.bucket s0.touched)

-- a frame that was taken, and given back after all
lent_more : (f : ℕ) (s0 s1 s3 : StoreState) → WasFree s0.pool f → s1 ≡ with_frame f (frame_of s1.pool f) s0 → s3 ≡ with_frame f (frame_of s3.pool f) (record s3 { pool = s1.pool }) → Lent f (record s3 { pool = s0.pool }) s3
lent_more f s0 s1 s3 was taken kept =
    let pool1 : s1.pool ≡ set s0.pool f (Some (frame_of s1.pool f)) = ap (λ (s : StoreState). s.pool) taken in
    record {
      was = was;
      is = same_so _ s3 (kept ∙ (λ i. record s3 { pool = set (pool1 i) f (Some (frame_of s3.pool f)) }) ∙ (λ i. record s3 { pool = set-set s0.pool f (Some (frame_of s1.pool f)) (Some (frame_of s3.pool f)) i }));
    }

pub given_after : (f : ℕ) (s0 s1 s3 s4 : StoreState) → WasFree s0.pool f → s1 ≡ with_frame f (frame_of s1.pool f) s0 → s3 ≡ with_frame f (frame_of s3.pool f) (record s3 { pool = s1.pool })
    → s4 ≡ record s3 { pool = set s3.pool f None } → s4 ≡ record s3 { pool = s0.pool }
given_after f s0 s1 s3 s4 was taken kept gave = same_all (record s3 { pool = s0.pool }) s4 (lent_given f (record s3 { pool = s0.pool }) s3 s4 (lent_more f s0 s1 s3 was taken kept) gave) (ap (λ (s : StoreState). s.reads) gave)
