-- Buckets that are read and staged through a frame.
use Rattle.std.proofs.Common.{◌≡◌, ◌≤◌, ◌<◌, ◌+◌, ◌-◌, ◌*◌, ℕ, Bool, true, false, List, [], ◌∷◌, length, take, Option, Some, None, IfSome, is_some, option_map, refl, sym, ap, subst, ◌∙◌, arith, ◌⊎◌, ⊎_elim, inl, inr, zero, suc, MatchOption, IsSomeAnd}
use Rattle.std.proofs.lemmas.List.{set-set, length-take-le}
use Rattle.block_disk.specs.Disk.{DiskState}
use Rattle.change_set.specs.careful_write.Reads.{SameButReads, as_read_by}
use Rattle.change_set.specs.careful_write.State.{StoreState}
use Rattle.change_set.proofs.careful_write.Reading.{same_as}
use Rattle.frame_pool.specs.Pool.{IsOut}
use Rattle.file_base.specs.declared.head.FileHead.{FileHead}
use Rattle.change_set.specs.Buckets.{frame_of, with_frame, with_bucket, with_numbers, LiesInHome}
use Rattle.change_set.specs.Files.{IsPlaced, StagesIn, in_extent}
use Rattle.change_set.proofs.Frames.{frame_of-with_frame}
use Rattle.std.proofs.lemmas.Nat.{mul-le}
use Rattle.change_set.specs.careful_write.Steps.{AgreesOff}
use Rattle.change_set.proofs.Extents.{ranges_apart, bucket_staged as extent_staged, agrees_trans, stages_more, stages_read}
use Rattle.change_set.proofs.Loading.{length-with_numbers}
use Rattle.index_bucket.specs.bucket_page.Pages.{slots_of, IsBucket}
use Rattle.index_bucket.specs.index_model.Indexes.{Entry, first_separator}
use Rattle.index_bucket.specs.declared.hand.Handed.{Handed}
use Rattle.index_bucket.specs.Entries.{index_kind, entries_at}
use Rattle.index_bucket.specs.Takes.{entries_of, TakesIn}
use Rattle.index_bucket.proofs.EntryLaws.{length_entries}
use Rattle.index_blocks.specs.Buckets.{bucket_first, bucket_at, with_blocks_of}
use Rattle.index_blocks.specs.Writes.{with_halves, with_blocks_of_halves, HandsIn}

abbrev pub Told : Type 0
Told = Option (List (List ℕ))

-- a bucket of the file is one of the content
pub bucket_lies : (h : FileHead) (disk disk' : DiskState) (n : ℕ) → IsPlaced h disk → disk' ≡ disk → n < h.alloc → LiesInHome disk' (h.start + n * h.bucket) h.bucket
bucket_lies h disk disk' n placed same below =
    let lies = ranges_apart n h.alloc h.bucket below in
    let size = ap (λ (d : DiskState). d.size) same in
    record {
      from = omega (arith, placed.from);
      to = omega (arith, lies, placed.to, size);
      fits = omega (arith, lies, placed.to, placed.fits);
    }

pub block_fits : (h : FileHead) (disk : DiskState) (n : ℕ) → IsPlaced h disk → n < h.alloc → h.start + n * h.bucket ≤ 65536
block_fits h disk n placed below = let lies = ranges_apart n h.alloc h.bucket below in omega (arith, lies, placed.to, placed.fits)

-- what is told of the blocks is told of the same blocks
pub told_same : (a b : Told) (P : List (List ℕ) → Type 0) → a ≡ b → IfSome a P → IfSome b P
told_same a b P is h = subst (λ (o : Told). IfSome o P) is h

-- a bucket that was written into a frame and staged
pub bucket_staged : (h : FileHead) (f n : ℕ) (bytes : List ℕ) (s0 s1 s2 : StoreState) → IsOut s0.pool f → 518 ≤ h.start → s1 ≡ with_frame f bytes s0
    → s2 ≡ record s1 { current = option_map (λ b. with_bucket (frame_of s1.pool f) b (h.start + n * h.bucket - 518) h.bucket) s1.current; touched = with_numbers (h.start + n * h.bucket) h.bucket s1.touched }
    → s2 ≡ with_frame f (frame_of s2.pool f) (record s0 { current = option_map (λ b. with_bucket bytes b (bucket_first h n) h.bucket) s0.current; touched = with_blocks_of h n s0.touched })
bucket_staged h f n bytes s0 s1 s2 out from filled e =
    let frame1 : frame_of s1.pool f ≡ bytes = ap (λ (s : StoreState). frame_of s.pool f) filled ∙ frame_of-with_frame f bytes s0.pool out in
    let frame2 : frame_of s2.pool f ≡ bytes = ap (λ (s : StoreState). frame_of s.pool f) e ∙ frame1 in
    let at : h.start + n * h.bucket - 518 ≡ bucket_first h n = omega (arith, from) in
    let is : h.start + n * h.bucket ≡ 518 + bucket_first h n = omega (arith, from) in
    e
    ∙ (λ i. record (filled i) { current = option_map (λ (b : List (List ℕ)). with_bucket (frame1 i) b (at i) h.bucket) (filled i).current; touched = with_numbers (is i) h.bucket (filled i).touched })
    ∙ (λ i. with_frame f (sym frame2 i) (record s0 { current = option_map (λ b. with_bucket bytes b (bucket_first h n) h.bucket) s0.current; touched = with_blocks_of h n s0.touched }))

-- what was staged through a frame that was written or read before
pub staged_so : (f : ℕ) (x : List ℕ) (s0 t s : StoreState) (C : Told → Told) (T : List ℕ → List ℕ) → t ≡ with_frame f x s0
    → s ≡ with_frame f (frame_of s.pool f) (record t { current = C t.current; touched = T t.touched }) → s ≡ with_frame f (frame_of s.pool f) (record s0 { current = C s0.current; touched = T s0.touched })
staged_so f x s0 t s C T was is =
    is
    ∙ (λ i. with_frame f (frame_of s.pool f) (record (was i) { current = C (was i).current; touched = T (was i).touched }))
    ∙ (λ i. record s0 { current = C s0.current; touched = T s0.touched; pool = set-set s0.pool f (Some x) (Some (frame_of s.pool f)) i })

told_twice : (f g : List (List ℕ) → List (List ℕ)) (o : Told) → option_map g (option_map f o) ≡ option_map (λ x. g (f x)) o
told_twice f g None = refl
told_twice f g (Some x) = refl

-- a bucket and another one, through the same frame
pub both_staged : (h : FileHead) (f n fresh : ℕ) (low high : List ℕ) (s0 s1 s2 : StoreState)
    → s1 ≡ with_frame f (frame_of s1.pool f) (record s0 { current = option_map (λ b. with_bucket low b (bucket_first h n) h.bucket) s0.current; touched = with_blocks_of h n s0.touched })
    → s2 ≡ with_frame f (frame_of s2.pool f) (record s1 { current = option_map (λ b. with_bucket high b (bucket_first h fresh) h.bucket) s1.current; touched = with_blocks_of h fresh s1.touched })
    → s2 ≡ with_frame f (frame_of s2.pool f) (record s0 { current = option_map (with_halves h n fresh true low high) s0.current; touched = with_blocks_of_halves h n fresh true s0.touched })
both_staged h f n fresh low high s0 s1 s2 first second =
    let g : List (List ℕ) → List (List ℕ) = λ b. with_bucket low b (bucket_first h n) h.bucket in
    let k : List (List ℕ) → List (List ℕ) = λ b. with_bucket high b (bucket_first h fresh) h.bucket in
    staged_so f (frame_of s1.pool f) (record s0 { current = option_map g s0.current; touched = with_blocks_of h n s0.touched }) s1 s2 (option_map k) (with_blocks_of h fresh) first second
    ∙ (λ i. with_frame f (frame_of s2.pool f) (record s0 { current = told_twice g k s0.current i; touched = with_blocks_of_halves h n fresh true s0.touched }))

-- a bucket's blocks are at most 16 numbers more
pub blocks_few : (h : FileHead) (n : ℕ) (touched : List ℕ) → h.bucket ≤ 16 → length (with_blocks_of h n touched) ≤ length touched + 16
blocks_few h n touched most = omega (arith, length-with_numbers (518 + bucket_first h n) h.bucket touched)

pub halves_few : (h : FileHead) (n fresh : ℕ) (parted : Bool) (touched : List ℕ) → h.bucket ≤ 16 → length (with_blocks_of_halves h n fresh parted touched) ≤ length touched + 32
halves_few h n fresh false touched most = let few = blocks_few h n touched most in omega arith
halves_few h n fresh true touched most = let few = blocks_few h n touched most in let more = blocks_few h fresh (with_blocks_of h n touched) most in omega arith

-- the store beside the frame, and the frame in it
pub beside_frame : (f : ℕ) (s0 t s : StoreState) → t.pool ≡ s0.pool → s ≡ with_frame f (frame_of s.pool f) t → record s { pool = s0.pool } ≡ t
beside_frame f s0 t s same is = (λ i. record (is i) { pool = s0.pool }) ∙ (λ i. record t { pool = sym same i })

pub frame_beside : (f : ℕ) (s0 t s : StoreState) → t.pool ≡ s0.pool → s ≡ with_frame f (frame_of s.pool f) t → s ≡ with_frame f (frame_of s.pool f) (record s { pool = s0.pool })
frame_beside f s0 t s same is = is ∙ sym (λ i. with_frame f (frame_of s.pool f) (beside_frame f s0 t s same is i))

-- what was read of a bucket's bytes is so of the bucket
pub bucket_read : (told : Told) (h : FileHead) (n size : ℕ) (frame bytes : List ℕ) (P : List ℕ → Type 0) → frame ≡ bytes → size ≡ 512 * h.bucket → 512 * h.bucket ≤ length bytes
    → IfSome told (λ b. take (512 * h.bucket) frame ≡ bucket_at h b n) → (length (take size bytes) ≡ 512 * h.bucket → P (take size bytes)) → IfSome told (λ b. P (bucket_at h b n))
bucket_read None h n size frame bytes P same is long read fact = tt
bucket_read (Some b) h n size frame bytes P same is long read fact =
    let here : take size bytes ≡ bucket_at h b n = (λ i. take (is i) (sym same i)) ∙ read in
    let count : length (take size bytes) ≡ 512 * h.bucket = length-take-le size bytes (omega (arith, is, long)) ∙ is in subst P here (fact count)

-- what became of the bytes that were read became of the bucket
pub taken : (told : Told) (h : FileHead) (n : ℕ) (frame bytes : List ℕ) (P : List ℕ → Type 0) → bytes ≡ frame → IfSome told (λ b. take (512 * h.bucket) frame ≡ bucket_at h b n) → P (take (512 * h.bucket) bytes) → IfSome told (λ b. P (bucket_at h b n))
taken None h n frame bytes P same read fact = tt
taken (Some b) h n frame bytes P same read fact = subst P (ap (take (512 * h.bucket)) same ∙ read) fact

match_trans : (p : ℕ → Bool) (a b c : Told) → MatchOption a (b ≡ None) (λ x. IsSomeAnd b (AgreesOff p x)) → MatchOption b (c ≡ None) (λ x. IsSomeAnd c (AgreesOff p x)) → MatchOption a (c ≡ None) (λ x. IsSomeAnd c (AgreesOff p x))
match_trans p None None c first second = second
match_trans p None (Some y) c first second = cc
match_trans p (Some x) None c first second = absurd first
match_trans p (Some x) (Some y) None first second = absurd second
match_trans p (Some x) (Some y) (Some z) first second = agrees_trans p x y z first second

-- what is staged in two steps
pub stages_both : (h : FileHead) (x y : ℕ) (s0 s1 s2 : StoreState) → StagesIn h x s0 s1 → StagesIn h y s1 s2 → StagesIn h (x + y) s0 s2
stages_both h x y s0 s1 s2 first second = record {
  rest = second.rest ∙ (λ i. record (first.rest i) { current = s2.current; touched = s2.touched; reads = s2.reads });
  blocks = match_trans (in_extent h) s0.current s1.current s2.current first.blocks second.blocks;
  touched = λ n has. ⊎_elim (λ one. first.touched n one) inr (second.touched n has);
  few = let a = first.few in let b = second.few in omega arith;
}

-- the same beside other frames
pub stages_beside : (h : FileHead) (limit : ℕ) (s s' : StoreState) (pool : List (Option (List ℕ))) → StagesIn h limit s (record s' { pool = s.pool }) → StagesIn h limit (record s { pool = pool }) (record s' { pool = pool })
stages_beside h limit s s' pool stages = record { rest = λ i. record (stages.rest i) { pool = pool }; blocks = stages.blocks; touched = stages.touched; few = stages.few }

with_one : FileHead → ℕ → List ℕ → StoreState → StoreState
with_one h n bytes s = record s { current = option_map (λ b. with_bucket bytes b (bucket_first h n) h.bucket) s.current; touched = with_blocks_of h n s.touched }

one_staged : (h : FileHead) (n : ℕ) (bytes : List ℕ) (s : StoreState) → n < h.alloc → StagesIn h h.bucket s (with_one h n bytes s)
unfolding with_one
one_staged h n bytes s below = extent_staged h n bytes s (with_one h n bytes s) below refl

pub stages_one : (h : FileHead) (f n : ℕ) (bytes : List ℕ) (s0 s : StoreState) → n < h.alloc
    → s ≡ with_frame f (frame_of s.pool f) (record s0 { current = option_map (λ b. with_bucket bytes b (bucket_first h n) h.bucket) s0.current; touched = with_blocks_of h n s0.touched }) → StagesIn h h.bucket s0 (record s { pool = s0.pool })
unfolding with_one
stages_one h f n bytes s0 s below is = subst (λ (t : StoreState). StagesIn h h.bucket s0 t) (sym (λ i. record (is i) { pool = s0.pool })) (one_staged h n bytes s0 below)

pub stages_halves : (h : FileHead) (n fresh : ℕ) (parted : Bool) (low high : List ℕ) (s : StoreState) → n < h.alloc → fresh < h.alloc
    → StagesIn h (2 * h.bucket) s (record s { current = option_map (with_halves h n fresh parted low high) s.current; touched = with_blocks_of_halves h n fresh parted s.touched })
unfolding with_one
stages_halves h n fresh false low high s there free = stages_more h h.bucket (2 * h.bucket) s _ (omega arith) (one_staged h n low s there)
stages_halves h n fresh true low high s there free =
    let first = one_staged h n low s there in
    let second = one_staged h fresh high (with_one h n low s) free in
    let both = stages_both h h.bucket h.bucket s (with_one h n low s) (with_one h fresh high (with_one h n low s)) first second in
    let is : with_one h fresh high (with_one h n low s) ≡ record s { current = option_map (with_halves h n fresh true low high) s.current; touched = with_blocks_of_halves h n fresh true s.touched } =
    λ i. record s { current = told_twice (λ b. with_bucket low b (bucket_first h n) h.bucket) (λ b. with_bucket high b (bucket_first h fresh) h.bucket) s.current i; touched = with_blocks_of_halves h n fresh true s.touched } in
    subst (λ (t : StoreState). StagesIn h (2 * h.bucket) s t) is (stages_more h (h.bucket + h.bucket) (2 * h.bucket) s _ (omega arith) both)

-- two steps of a climb
pub stages_climb : (h : FileHead) (depth : ℕ) (s0 s1 s2 : StoreState) → 1 ≤ depth → StagesIn h (2 * h.bucket) s0 (record s1 { pool = s0.pool }) → StagesIn h ((2 * (depth - 1) + 1) * h.bucket) s1 (record s2 { pool = s1.pool })
    → StagesIn h ((2 * depth + 1) * h.bucket) s0 (record s2 { pool = s0.pool })
stages_climb h depth s0 s1 s2 some first second =
    let same : depth - 1 + 1 ≡ depth = omega (arith, some) in
    let sum : 2 * h.bucket + (2 * (depth - 1) + 1) * h.bucket ≡ (2 * (depth - 1 + 1) + 1) * h.bucket = omega arith in
    subst (λ (d : ℕ). StagesIn h ((2 * d + 1) * h.bucket) s0 (record s2 { pool = s0.pool })) same
    (subst (λ (l : ℕ). StagesIn h l s0 (record s2 { pool = s0.pool })) sum
    (stages_both h (2 * h.bucket) ((2 * (depth - 1) + 1) * h.bucket) s0 (record s1 { pool = s0.pool }) (record s2 { pool = s0.pool }) first (stages_beside h ((2 * (depth - 1) + 1) * h.bucket) s1 s2 s0.pool second)))

pub stages_least : (h : FileHead) (depth few : ℕ) (s s' : StoreState) → few ≤ 2 * depth + 1 → StagesIn h (few * h.bucket) s s' → StagesIn h ((2 * depth + 1) * h.bucket) s s'
stages_least h depth few s s' less stages = stages_more h (few * h.bucket) ((2 * depth + 1) * h.bucket) s s' (mul-le few h.bucket (2 * depth + 1) h.bucket less (omega arith)) stages

-- a bucket that was read, took entries, and was staged
pub record HandedIn (h : FileHead) (k : List ℕ) (added : List Entry) (n fresh : ℕ) (up : Option Handed) (f : ℕ) (s0 s : StoreState) : Type 0 where
  pub hands : HandsIn h k added n fresh up s0 (record s { pool = s0.pool })
  pub pool : s ≡ with_frame f (frame_of s.pool f) (record s { pool = s0.pool })
  pub few : length s.touched ≤ length s0.touched + 32
  pub stages : StagesIn h (2 * h.bucket) s0 (record s { pool = s0.pool })

pub handed_in : (h : FileHead) (k : List ℕ) (added : List Entry) (n fresh : ℕ) (up : Option Handed) (f : ℕ) (x : List ℕ) (s0 t s : StoreState) (parted : Bool) (bytes low high : List ℕ) → h.bucket ≤ 16 → n < h.alloc → fresh < h.alloc → is_some up ≡ parted
    → SameButReads (with_frame f x s0) t
    → s ≡ with_frame f (frame_of s.pool f) (record t { current = option_map (with_halves h n fresh parted low high) t.current; touched = with_blocks_of_halves h n fresh parted t.touched })
    → bytes ≡ x → IfSome s0.current (λ b. take (512 * h.bucket) x ≡ bucket_at h b n)
    → (IsBucket (index_kind h) (512 * h.bucket) (take (512 * h.bucket) bytes) → 1 ≤ length (slots_of (index_kind h) (take (512 * h.bucket) bytes)) → TakesIn h (512 * h.bucket) k added (take (512 * h.bucket) bytes) parted (take (512 * h.bucket) low) (take (512 * h.bucket) high))
    → IfSome up (λ handed. entries_of h handed ≡ record { separator = first_separator (entries_at h (take (512 * h.bucket) high)); child = fresh } ∷ []) → HandedIn h k added n fresh up f s0 s
handed_in h k added n fresh up f x s0 t s parted bytes low high most there free is was staged same read takes leads =
    let C : Told → Told = option_map (with_halves h n fresh (is_some up) low high) in
    let T : List ℕ → List ℕ = with_blocks_of_halves h n fresh (is_some up) in
    let staged' : s ≡ with_frame f (frame_of s.pool f) (record t { current = C t.current; touched = T t.touched }) =
    subst (λ (p : Bool). s ≡ with_frame f (frame_of s.pool f) (record t { current = option_map (with_halves h n fresh p low high) t.current; touched = with_blocks_of_halves h n fresh p t.touched })) (sym is) staged in
    let staged0 : StoreState = record s0 { current = C s0.current; touched = T s0.touched } in
    let after : StoreState = as_read_by t staged0 in
    let whole : s ≡ with_frame f (frame_of s.pool f) after = staged_so f x (as_read_by t s0) t s C T was staged' in
    let P : List ℕ → Type 0 = λ y. IsBucket (index_kind h) (512 * h.bucket) y → 1 ≤ length (entries_at h y) → TakesIn h (512 * h.bucket) k added y (is_some up) (take (512 * h.bucket) low) (take (512 * h.bucket) high) in
    let here : P (take (512 * h.bucket) bytes) = λ laid some. subst (λ (p : Bool). TakesIn h (512 * h.bucket) k added (take (512 * h.bucket) bytes) p (take (512 * h.bucket) low) (take (512 * h.bucket) high)) (sym is)
    (takes laid (let count = length_entries h (slots_of (index_kind h) (take (512 * h.bucket) bytes)) in omega (arith, count, some))) in
    record {
      hands = record {
        low = low;
        high = high;
        state = same_as (record s { pool = s0.pool }) staged0 t.reads (beside_frame f s0 after s refl whole);
        takes = taken s0.current h n x bytes P same read here;
        leads = leads;
      };
      pool = frame_beside f s0 after s refl whole;
      few = let many = halves_few h n fresh (is_some up) s0.touched most in omega (arith, many, ap (λ (y : StoreState). length y.touched) whole);
      stages = subst (λ (y : StoreState). StagesIn h (2 * h.bucket) s0 y) (sym (beside_frame f s0 after s refl whole)) (stages_read h (2 * h.bucket) t.reads s0 staged0 (stages_halves h n fresh (is_some up) low high s0 there free));
    }

-- the store beside a frame that was read, after an error
pub err_beside : (f : ℕ) (s0 s : StoreState) (d : DiskState) → SameButReads (with_frame f (frame_of s.pool f) (record s0 { disk = d })) s → SameButReads (record s0 { disk = d }) (record s { pool = s0.pool })
err_beside f s0 s d is = λ i. record (is i) { pool = s0.pool }

pub err_pool : (f : ℕ) (s0 s : StoreState) (d : DiskState) → SameButReads (with_frame f (frame_of s.pool f) (record s0 { disk = d })) s → s ≡ with_frame f (frame_of s.pool f) (record s { pool = s0.pool })
err_pool f s0 s d is = λ i. record s { pool = ap (λ (t : StoreState). t.pool) is i }

-- a store that was read, and then staged into, is the old one but for the disk and what was staged
pub rest_again : (f : ℕ) (s0 s1 s2 : StoreState) (C : Told) (T : List ℕ) (D : DiskState → DiskState) → SameButReads (record s0 { current = C; touched = T }) (record s1 { pool = s0.pool }) → s1 ≡ with_frame f (frame_of s1.pool f) (record s1 { pool = s0.pool })
    → SameButReads (with_frame f (frame_of s2.pool f) (record s1 { disk = D s1.disk; current = s2.current; touched = s2.touched })) s2 → SameButReads (with_frame f (frame_of s2.pool f) (record s0 { disk = D s0.disk; current = s2.current; touched = s2.touched })) s2
rest_again f s0 s1 s2 C T D state pool is =
    let was : s1 ≡ with_frame f (frame_of s1.pool f) (as_read_by s1 (record s0 { current = C; touched = T })) = pool ∙ (λ i. with_frame f (frame_of s1.pool f) (state i)) in
    is ∙ (λ i. as_read_by s2 (with_frame f (frame_of s2.pool f) (record (was i) { disk = D (was i).disk; current = s2.current; touched = s2.touched })))
    ∙ (λ i. record s0 { disk = D s0.disk; current = s2.current; touched = s2.touched; pool = set-set s0.pool f (Some (frame_of s1.pool f)) (Some (frame_of s2.pool f)) i; reads = s2.reads })
