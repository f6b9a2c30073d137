-- Leaves that are staged through a frame, and what is handed up for them.
use Rattle.std.proofs.Common.{◌≡◌, ◌≤◌, ◌<◌, ◌+◌, ◌-◌, ◌*◌, ℕ, zero, suc, List, length, take, set, Option, Some, None, IfSome, IsSomeAnd, option_map, refl, sym, ap, subst, ◌∙◌, arith}
use Rattle.std.proofs.lemmas.List.{set-set}
use Rattle.std.proofs.lemmas.Nat.{mul-le}
use Rattle.block_disk.specs.Disk.{DiskState}
use Rattle.careful_write.specs.Reads.{SameButReads, as_read_by}
use Rattle.careful_write.specs.State.{StoreState}
use Rattle.careful_write.proofs.Reading.{more_read}
use Rattle.file_base.specs.declared.head.FileHead.{FileHead}
use Rattle.frame_pool.specs.Pool.{IsOut}
use Rattle.indexed_file.specs.change_set.Buckets.{frame_of, with_frame, with_bucket, WasFree}
use Rattle.indexed_file.specs.change_set.Files.{IsPlaced, StagesIn}
use Rattle.indexed_file.proofs.change_set.Extents.{bucket_staged, stages_more}
use Rattle.indexed_file.proofs.change_set.Frames.{with_frame_own}
use Rattle.indexed_file.specs.records_model.Slots.{size_of}
use Rattle.index_blocks.specs.index_model.Indexes.{Entry}
use Rattle.index_blocks.specs.index_bucket.Entries.{sizes_of}
use Rattle.index_blocks.specs.Buckets.{bucket_first, with_blocks_of}
use Rattle.index_blocks.specs.Climbs.{MayClimb, Climbs}
use Rattle.index_blocks.specs.Laws.{IsNoted, grown_head}
use Rattle.index_blocks.specs.Levels.{height, leaf_entries, levels_of, leaf_for, way, HasRoot, IsWay}
use Rattle.index_blocks.specs.declared.growing.Growth.{Growth}
use Rattle.index_blocks.proofs.LevelLaws.{length_levels}
use Rattle.index_blocks.proofs.StageLaws.{blocks_few, stages_both, stages_beside}
use Rattle.indexed_file.specs.Sets.{with_parts, touched_by}
use Rattle.indexed_file.proofs.StoreLaws.{given_after}
use Rattle.indexed_tree.specs.Rooted.{IsRooted}
use Rattle.indexed_tree.specs.Sets.{added_leaves, entries_to, NewHaveSlots, MaySet, StagesLeaf}
use Rattle.indexed_tree.specs.Puts.{PutsLeaf, PutsBack}
use Rattle.indexed_tree.proofs.BackLaws.{back_stages}
use Rattle.indexed_tree.proofs.RootLaws.{rooted_finds}
use Rattle.indexed_tree.proofs.SetLaws.{set_stages}

abbrev pub Told : Type 0
Told = Option (List (List ℕ))

-- the leaf that was found is the one for the key
pub leaf_told : (told : Told) (h : FileHead) (k : List ℕ) (n : ℕ) → h.root < h.used → IfSome told (λ b. IsWay h b k → n ≡ way h b k (height h)) → IfSome told (λ b. IsRooted h b → n ≡ leaf_for h b k)
leaf_told None h k n root at = tt
leaf_told (Some b) h k n root at = λ is. let finds = rooted_finds h b k root is in at finds.ways ∙ finds.ends

pub path_told : (told : Told) (h : FileHead) (k path : List ℕ) → h.root < h.used → IfSome told (λ b. IsWay h b k → IsNoted h b k path) → IfSome told (λ b. IsRooted h b → IsNoted h b k path)
path_told None h k path root at = tt
path_told (Some b) h k path root at = λ is. at (rooted_finds h b k root is).ways

-- how many numbers of blocks come in
pub touched_few : (h : FileHead) (n added : ℕ) (touched : List ℕ) → h.bucket ≤ 16 → length (touched_by h n added touched) ≤ length touched + 48
touched_few h n zero touched most = let one = blocks_few h n touched most in omega (arith, one)
touched_few h n (suc zero) touched most = let one = blocks_few h n touched most in let two = blocks_few h h.used (with_blocks_of h n touched) most in omega (arith, one, two)
touched_few h n (suc (suc more)) touched most =
    let one = blocks_few h n touched most in
    let two = blocks_few h h.used (with_blocks_of h n touched) most in
    let three = blocks_few h (h.used + 1) (with_blocks_of h h.used (with_blocks_of h n touched)) most in
    omega (arith, one, two, three)

-- Which blocks are staged.

with_one : FileHead → ℕ → List ℕ → StoreState → StoreState
with_one h n bytes s = record s { current = option_map (λ b. with_bucket bytes b (bucket_first h n) h.bucket) s.current; touched = with_blocks_of h n s.touched }

one_staged : (h : FileHead) (n : ℕ) (bytes : List ℕ) (s : StoreState) → n < h.alloc → StagesIn h h.bucket s (with_one h n bytes s)
unfolding with_one
one_staged h n bytes s below = bucket_staged h n bytes s (with_one h n bytes s) below refl

told_twice : (f g : List (List ℕ) → List (List ℕ)) (o : Told) → option_map g (option_map f o) ≡ option_map (λ x. g (f x)) o
told_twice f g None = refl
told_twice f g (Some x) = refl

leaves_staged : (h : FileHead) (n added : ℕ) (low mid high : List ℕ) (s : StoreState) → n < h.alloc → added ≤ 2 → h.used + added ≤ h.alloc
    → StagesIn h ((1 + added) * h.bucket) s (record s { current = option_map (with_parts h n added low mid high) s.current; touched = touched_by h n added s.touched })
unfolding with_one
leaves_staged h n zero low mid high s below few free = stages_more h h.bucket (1 * h.bucket) s _ (omega arith) (one_staged h n low s below)
leaves_staged h n (suc zero) low mid high s below few free =
    let first = one_staged h n low s below in
    let second = one_staged h h.used mid (with_one h n low s) (omega (arith, free)) in
    let both = stages_both h h.bucket h.bucket s (with_one h n low s) (with_one h h.used mid (with_one h n low s)) first second in
    let is : with_one h h.used mid (with_one h n low s) ≡ record s { current = option_map (with_parts h n 1 low mid high) s.current; touched = touched_by h n 1 s.touched } =
    λ i. record s { current = told_twice (λ b. with_bucket low b (bucket_first h n) h.bucket) (λ b. with_bucket mid b (bucket_first h h.used) h.bucket) s.current i; touched = touched_by h n 1 s.touched } in
    subst (λ (t : StoreState). StagesIn h (2 * h.bucket) s t) is (stages_more h (h.bucket + h.bucket) (2 * h.bucket) s _ (omega arith) both)
leaves_staged h n (suc (suc zero)) low mid high s below few free =
    let s1 = with_one h n low s in
    let s2 = with_one h h.used mid s1 in
    let s3 = with_one h (h.used + 1) high s2 in
    let first = one_staged h n low s below in
    let second = one_staged h h.used mid s1 (omega (arith, free)) in
    let third = one_staged h (h.used + 1) high s2 (omega (arith, free)) in
    let both = stages_both h h.bucket h.bucket s s1 s2 first second in
    let all = stages_both h (h.bucket + h.bucket) h.bucket s s2 s3 both third in
    let f = λ (b : List (List ℕ)). with_bucket low b (bucket_first h n) h.bucket in
    let g = λ (b : List (List ℕ)). with_bucket mid b (bucket_first h h.used) h.bucket in
    let k = λ (b : List (List ℕ)). with_bucket high b (bucket_first h (h.used + 1)) h.bucket in
    let is : s3 ≡ record s { current = option_map (with_parts h n 2 low mid high) s.current; touched = touched_by h n 2 s.touched } =
    λ i. record s { current = (ap (option_map k) (told_twice f g s.current) ∙ told_twice (λ b. g (f b)) k s.current) i; touched = touched_by h n 2 s.touched } in
    subst (λ (t : StoreState). StagesIn h (3 * h.bucket) s t) is (stages_more h (h.bucket + h.bucket + h.bucket) (3 * h.bucket) s _ (omega arith) all)
leaves_staged h n (suc (suc (suc more))) low mid high s below few free = absurd (omega (arith, few))

pub stages_leaves : (h : FileHead) (f n added : ℕ) (low mid high : List ℕ) (s0 s1 : StoreState) → n < h.alloc → added ≤ 2 → h.used + added ≤ h.alloc
    → s1 ≡ with_frame f (frame_of s1.pool f) (record s0 { current = option_map (with_parts h n added low mid high) s0.current; touched = touched_by h n added s0.touched })
    → StagesIn h ((1 + added) * h.bucket) s0 (record s1 { pool = s0.pool })
stages_leaves h f n added low mid high s0 s1 below few free is =
    subst (λ (t : StoreState). StagesIn h ((1 + added) * h.bucket) s0 t) (sym (λ i. record (is i) { pool = s0.pool })) (leaves_staged h n added low mid high s0 below few free)

pub stages_whole : (h : FileHead) (few : ℕ) (s s' : StoreState) → 1 ≤ h.levels → few ≤ 4 → StagesIn h (few * h.bucket) s s' → StagesIn h ((2 * h.levels + 2) * h.bucket) s s'
stages_whole h few s s' some less stages = stages_more h (few * h.bucket) ((2 * h.levels + 2) * h.bucket) s s' (mul-le few h.bucket (2 * h.levels + 2) h.bucket (omega (arith, some, less)) (omega arith)) stages

-- and what is handed up
pub stages_all : (h : FileHead) (added : ℕ) (s0 s1 s2 : StoreState) → 1 ≤ h.levels → added ≤ 2 → StagesIn h ((1 + added) * h.bucket) s0 (record s1 { pool = s0.pool }) → StagesIn h ((2 * (h.levels - 1) + 1) * h.bucket) s1 (record s2 { pool = s1.pool })
    → StagesIn h ((2 * h.levels + 2) * h.bucket) s0 (record s2 { pool = s0.pool })
stages_all h added s0 s1 s2 some few first second =
    let d = h.levels - 1 in
    let same : d + 1 ≡ h.levels = omega (arith, some) in
    let three = stages_more h ((1 + added) * h.bucket) (3 * h.bucket) s0 (record s1 { pool = s0.pool }) (mul-le (1 + added) h.bucket 3 h.bucket (omega (arith, few)) (omega arith)) first in
    let sum : 3 * h.bucket + (2 * d + 1) * h.bucket ≡ (2 * (d + 1) + 2) * h.bucket = omega arith in
    subst (λ (l : ℕ). StagesIn h ((2 * l + 2) * h.bucket) s0 (record s2 { pool = s0.pool })) same
    (subst (λ (l : ℕ). StagesIn h l s0 (record s2 { pool = s0.pool })) sum
    (stages_both h (3 * h.bucket) ((2 * d + 1) * h.bucket) s0 (record s1 { pool = s0.pool }) (record s2 { pool = s0.pool }) three (stages_beside h ((2 * d + 1) * h.bucket) s1 s2 s0.pool second)))

-- a store that was staged into, and then read and staged into
pub rest_staged : (f : ℕ) (s0 s1 s2 : StoreState) (C : Told) (T : List ℕ) (D : DiskState → DiskState) → s1 ≡ with_frame f (frame_of s1.pool f) (record s0 { current = C; touched = T })
    → SameButReads (with_frame f (frame_of s2.pool f) (record s1 { disk = D s1.disk; current = s2.current; touched = s2.touched })) s2 → SameButReads (with_frame f (frame_of s2.pool f) (record s0 { disk = D s0.disk; current = s2.current; touched = s2.touched })) s2
rest_staged f s0 s1 s2 C T D was is =
    is ∙ (λ i. as_read_by s2 (with_frame f (frame_of s2.pool f) (record (was i) { disk = D (was i).disk; current = s2.current; touched = s2.touched })))
    ∙ (λ i. record s0 { disk = D s0.disk; current = s2.current; touched = s2.touched; pool = set-set s0.pool f (Some (frame_of s1.pool f)) (Some (frame_of s2.pool f)) i; reads = s2.reads })

-- What is promised.

may_set : (h : FileHead) (disk : DiskState) (b : List (List ℕ)) (k : List ℕ) (v : Option (List ℕ)) (added : ℕ) → HasRoot h → IsPlaced h disk → h.used + added ≤ h.alloc → length b + 518 ≡ disk.size → length k ≡ h.key_size
    → 4 + size_of v ≤ (sizes_of h).capacity → MaySet h b k v added
may_set h disk b k v added form placed free whole key fits =
    let product : h.alloc * 1 ≤ h.alloc * h.bucket = mul-le h.alloc 1 h.alloc h.bucket (omega arith) placed.one in
    record {
      form = form;
      one = placed.one;
      within = omega (arith, placed.from, placed.to, whole);
      numbers = omega (arith, product, placed.to, placed.fits);
      key = key;
      fits = fits;
      free = free;
    }

pub sets_whole : (told now : Told) (h : FileHead) (disk : DiskState) (k path : List ℕ) (n added : ℕ) (low mid high : List ℕ) → HasRoot h → IsPlaced h disk → added ≡ 0 → IfSome told (λ b. length b + 518 ≡ disk.size)
    → now ≡ option_map (with_parts h n added low mid high) told → IfSome told (λ old. IsSomeAnd now (PutsLeaf h (grown_head h (record { root = None; used = h.used })) k path n added low mid high old))
sets_whole None now h disk k path n added low mid high form placed none whole is = tt
sets_whole (Some b) now h disk k path n added low mid high form placed none whole is =
    let P : List (List ℕ) → Type 0 = PutsLeaf h (grown_head h (record { root = None; used = h.used })) k path n added low mid high b in
    let puts : P (with_parts h n added low mid high b) = λ held v key fits rooted noted at leaf.
    (set_stages h b held k v path n added low mid high (may_set h disk b k v added form placed (omega (arith, none, form.within)) whole key fits) rooted noted at leaf).whole none in
    subst (λ (o : Told). IsSomeAnd o P) (sym is) puts

pub sets_parted : (told mid_told now : Told) (h : FileHead) (disk : DiskState) (k path : List ℕ) (n added : ℕ) (low mid high : List ℕ) (handed : List Entry) (growth : Growth) → HasRoot h → IsPlaced h disk → 1 ≤ added → h.used + added ≤ h.alloc
    → IfSome told (λ b. length b + 518 ≡ disk.size) → mid_told ≡ option_map (with_parts h n added low mid high) told
    → (NewHaveSlots h added (take (512 * h.bucket) mid) (take (512 * h.bucket) high) → handed ≡ entries_to h added (take (512 * h.bucket) mid) (take (512 * h.bucket) high))
    → IfSome mid_told (λ old. IsSomeAnd now (λ new. (levels : List (List ℕ)) (below : List Entry) → length levels ≡ h.levels - 1 → MayClimb h k handed below levels path (h.used + added) old → Climbs h k handed levels (h.used + added) growth old new))
    → IfSome told (λ old. IsSomeAnd now (PutsLeaf h (grown_head h growth) k path n added low mid high old))
sets_parted None mid_told now h disk k path n added low mid high handed growth form placed some free whole is entries climbs = tt
sets_parted (Some b) mid_told now h disk k path n added low mid high handed growth form placed some free whole is entries climbs =
    go now (subst (λ (o : Told). IfSome o (λ old. IsSomeAnd now (λ new. (levels : List (List ℕ)) (below : List Entry) → length levels ≡ h.levels - 1 → MayClimb h k handed below levels path (h.used + added) old → Climbs h k handed levels (h.used + added) growth old new))) is climbs)
  where
    go : (o : Told) → IsSomeAnd o (λ new. (levels : List (List ℕ)) (below : List Entry) → length levels ≡ h.levels - 1 → MayClimb h k handed below levels path (h.used + added) (with_parts h n added low mid high b)
        → Climbs h k handed levels (h.used + added) growth (with_parts h n added low mid high b) new)
        → IsSomeAnd o (PutsLeaf h (grown_head h growth) k path n added low mid high b)
    go None fact = fact
    go (Some c) fact = λ held v key fits rooted noted at leaf.
        let b1 = with_parts h n added low mid high b in
        let st : StagesLeaf h held k v path added (take (512 * h.bucket) mid) (take (512 * h.bucket) high) b b1 = set_stages h b held k v path n added low mid high (may_set h disk b k v added form placed free whole key fits) rooted noted at leaf in
        let same : handed ≡ added_leaves h b held k v = entries st.slots ∙ sym st.entries in
        st.climbs some growth c
        (subst (λ (xs : List Entry). Climbs h k xs (levels_of h b1) (h.used + added) growth b1 c) same
        (fact (levels_of h b1) (leaf_entries h b1) (length_levels h b1 (height h)) (subst (λ (xs : List Entry). MayClimb h k xs (leaf_entries h b1) (levels_of h b1) path (h.used + added) b1) (sym same) (st.may some))))

pub sets_back : (told now : Told) (h : FileHead) (disk : DiskState) (n : ℕ) (bytes : List ℕ) → HasRoot h → IsPlaced h disk → IfSome told (λ b. length b + 518 ≡ disk.size) → now ≡ option_map (λ b. with_bucket bytes b (bucket_first h n) h.bucket) told
    → IfSome told (λ old. IsSomeAnd now (PutsBack h n bytes old))
sets_back None now h disk n bytes form placed whole is = tt
sets_back (Some b) now h disk n bytes form placed whole is =
    let puts : PutsBack h n bytes b (with_parts h n 0 bytes bytes bytes b) = λ k v key fits some rooted at tries. back_stages h b k v n bytes (may_set h disk b k v 0 form placed (omega (arith, form.within)) whole key fits) some rooted at tries in
    subst (λ (o : Told). IsSomeAnd o (PutsBack h n bytes b)) (sym is) puts

-- Stores that were read through a frame.

-- and then staged into
pub rest_read : (f : ℕ) (s0 s2 s3 : StoreState) (D : DiskState → DiskState) → SameButReads (with_frame f (frame_of s2.pool f) s0) s2 → SameButReads (with_frame f (frame_of s3.pool f) (record s2 { disk = D s2.disk; current = s3.current; touched = s3.touched })) s3
    → SameButReads (with_frame f (frame_of s3.pool f) (record s0 { disk = D s0.disk; current = s3.current; touched = s3.touched })) s3
rest_read f s0 s2 s3 D was is =
    is ∙ (λ i. as_read_by s3 (with_frame f (frame_of s3.pool f) (record (was i) { disk = D (was i).disk; current = s3.current; touched = s3.touched })))
    ∙ (λ i. record s0 { disk = D s0.disk; current = s3.current; touched = s3.touched; pool = set-set s0.pool f (Some (frame_of s2.pool f)) (Some (frame_of s3.pool f)) i; reads = s3.reads })

-- and no more
pub rest_same : (f : ℕ) (s0 s : StoreState) (d : DiskState) → SameButReads (with_frame f (frame_of s.pool f) (record s0 { disk = d })) s → SameButReads (with_frame f (frame_of s.pool f) (record s0 { disk = d; current = s.current; touched = s.touched })) s
rest_same f s0 s d is = is ∙ (λ i. as_read_by s (with_frame f (frame_of s.pool f) (record s0 { disk = d; current = ap (λ (t : StoreState). t.current) (sym is) i; touched = ap (λ (t : StoreState). t.touched) (sym is) i })))

-- a store that is the same, beside its frame
pub rest_own : (f : ℕ) (s0 s : StoreState) → IsOut s0.pool f → s ≡ s0 → s ≡ with_frame f (frame_of s.pool f) (record s0 { current = s.current; touched = s.touched })
rest_own f s0 s out same = same ∙ with_frame_own f s0 out ∙ (λ i. with_frame f (frame_of (sym same i).pool f) (record s0 { current = (sym same i).current; touched = (sym same i).touched }))

-- How many blocks are read.

-- a bucket of each level
pub levels_read : (above levels bucket at found now : ℕ) → above + 1 ≡ levels → found ≤ at + above * bucket → now ≤ found + bucket → now ≤ at + levels * bucket
levels_read above levels bucket at found now is first second = subst (λ (l : ℕ). now ≤ at + l * bucket) is (more_read above bucket at found now first second)

-- A frame that was taken, and given back.

abbrev pub Kept : ℕ → (DiskState → DiskState) → StoreState → StoreState → Type 0
Kept f D s1 s3 = SameButReads (with_frame f (frame_of s3.pool f) (record s1 { disk = D s1.disk; current = s3.current; touched = s3.touched })) s3

given : (f : ℕ) (D : DiskState → DiskState) (s0 s1 s3 s4 : StoreState) → WasFree s0.pool f → s1 ≡ with_frame f (frame_of s1.pool f) s0 → Kept f D s1 s3 → s4 ≡ record s3 { pool = set s3.pool f None } → s4 ≡ record s3 { pool = s0.pool }
given f D s0 s1 s3 s4 was taken kept gave = given_after f s0 s1 s3 s4 was taken (λ i. record s3 { pool = ap (λ (s : StoreState). s.pool) kept i }) gave

pub rest_given : (f : ℕ) (D : DiskState → DiskState) (s0 s1 s3 s4 : StoreState) → WasFree s0.pool f → s1 ≡ with_frame f (frame_of s1.pool f) s0 → Kept f D s1 s3 → s4 ≡ record s3 { pool = set s3.pool f None }
    → SameButReads (record s0 { disk = D s0.disk; current = s4.current; touched = s4.touched }) s4
rest_given f D s0 s1 s3 s4 was taken kept gave =
    let gives = given f D s0 s1 s3 s4 was taken kept gave in
    gives ∙ (λ i. record (kept i) { pool = s0.pool })
    ∙ (λ i. record (taken i) { disk = D (taken i).disk; current = s3.current; touched = s3.touched; pool = s0.pool; reads = s3.reads })
    ∙ (λ i. record s0 { disk = D s0.disk; current = ap (λ (t : StoreState). t.current) (sym gives) i; touched = ap (λ (t : StoreState). t.touched) (sym gives) i; reads = ap (λ (t : StoreState). t.reads) (sym gives) i })

pub stages_given : (h : FileHead) (limit f : ℕ) (D : DiskState → DiskState) (s0 s1 s3 s4 : StoreState) → WasFree s0.pool f → s1 ≡ with_frame f (frame_of s1.pool f) s0 → Kept f D s1 s3 → s4 ≡ record s3 { pool = set s3.pool f None }
    → StagesIn h limit s1 (record s3 { pool = s1.pool }) → StagesIn h limit s0 s4
stages_given h limit f D s0 s1 s3 s4 was taken kept gave stages =
    subst (λ (t : StoreState). StagesIn h limit s0 t) (sym (given f D s0 s1 s3 s4 was taken kept gave))
    (subst (λ (t : StoreState). StagesIn h limit t (record s3 { pool = s0.pool })) (λ i. record (taken i) { pool = s0.pool }) (stages_beside h limit s1 s3 s0.pool stages))
