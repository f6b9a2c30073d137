-- Buckets of a file's extent, and what is written to them.
use Rattle.std.proofs.Common.{◌≡◌, ◌⊎◌, ⊎_elim, inl, inr, ℕ, zero, suc, ◌<◌, ◌≤◌, ◌+◌, ◌-◌, ◌*◌, ◌&&◌, Bool, true, false, List, length, nat_le, nat_lt, Option, Some, None, IfSome, MatchOption, IsSomeAnd, option_map, refl, sym, ap, subst, ◌∙◌, arith}
use Rattle.std.proofs.lemmas.Bool.Decides.{nat_tests}
use Rattle.std.proofs.lemmas.Nat.{mul-le}
use Rattle.careful_write.specs.block_disk.Blocks.{block_at, has_number}
use Rattle.careful_write.specs.block_disk.Disk.{DiskState}
use Rattle.careful_write.proofs.block_disk.Laid.{has_number-with_number}
use Rattle.careful_write.specs.Reads.{SameButReads}
use Rattle.careful_write.specs.State.{StoreState, IsEither}
use Rattle.careful_write.specs.Steps.{AgreesOff}
use Rattle.file_base.specs.declared.head.FileHead.{FileHead}
use Rattle.change_set.specs.Buckets.{bucket_bytes, with_bucket, with_numbers}
use Rattle.change_set.specs.Files.{AgreesOn, StagesIn, in_extent, AgreesOut, LeavesOut}
use Rattle.change_set.proofs.BucketLaws.{length-with_bucket, block_at-with_bucket_other, bucket_bytes_agree}
use Rattle.change_set.proofs.Loading.{length-with_numbers}

-- the ranges of w from x * w and from y * w lie apart
pub ranges_apart : (x y w : ℕ) → x < y → x * w + w ≤ y * w
ranges_apart x y w below =
    let step : (x + 1) * w ≤ y * w = mul-le (x + 1) w y w (omega arith) (omega arith) in
    let grown : (x + 1) * w ≡ x * w + w = omega arith in omega arith

pub in_extent_is : (from size n : ℕ) → from ≤ n → n < from + size → (nat_le from n && nat_lt n (from + size)) ≡ true
in_extent_is from size n a b = grind (arith, nat_tests)

off_extent : (from size n : ℕ) → (nat_le from n && nat_lt n (from + size)) ≡ false → (n < from) ⊎ (from + size ≤ n)
off_extent from size n off = grind (arith, nat_tests)

-- a bucket of the extent is the same in contents that agree there
pub extent_bucket : (h : FileHead) (a b : List (List ℕ)) (i : ℕ) → i < h.alloc → AgreesOn h a b → bucket_bytes a (h.start - 518 + i * h.bucket) h.bucket ≡ bucket_bytes b (h.start - 518 + i * h.bucket) h.bucket
extent_bucket h a b i below agrees =
    let lies = ranges_apart i h.alloc h.bucket below in
    bucket_bytes_agree a b (h.start - 518 + i * h.bucket) h.bucket (λ k from to. agrees k (in_extent_is (h.start - 518) (h.alloc * h.bucket) k (omega arith) (omega (arith, lies))))

-- a bucket of the extent is written, and no other block
pub agrees_bucket : (h : FileHead) (i : ℕ) (bytes : List ℕ) (b : List (List ℕ)) → i < h.alloc → AgreesOff (in_extent h) b (with_bucket bytes b (h.start - 518 + i * h.bucket) h.bucket)
agrees_bucket h i bytes b below =
    let lies = ranges_apart i h.alloc h.bucket below in
    record {
      size = length-with_bucket bytes b (h.start - 518 + i * h.bucket) h.bucket;
      others = λ k off. block_at-with_bucket_other bytes b (h.start - 518 + i * h.bucket) h.bucket k
          (⊎_elim (λ under. inl (omega arith)) (λ over. inr (omega arith)) (off_extent (h.start - 518) (h.alloc * h.bucket) k off));
    }

has_with_numbers : (k first count : ℕ) (ns : List ℕ) → has_number k (with_numbers first count ns) ≡ true → (has_number k ns ≡ true) ⊎ ((first ≤ k) × (k < first + count))
has_with_numbers k first zero ns has = inl has
has_with_numbers k first (suc n) ns has =
    ⊎_elim (λ here. inr (omega arith, omega arith)) (λ rest. ⊎_elim inl (λ in_it. inr (in_it.0, omega (arith, in_it.1))) (has_with_numbers k first n ns rest))
    (has_number-with_number k (first + n) (with_numbers first n ns) has)

-- a bucket of the extent is staged
pub bucket_staged : (h : FileHead) (i : ℕ) (bytes : List ℕ) (old new : StoreState) → i < h.alloc
    → SameButReads (record old {
      current = option_map (λ b. with_bucket bytes b (h.start - 518 + i * h.bucket) h.bucket) old.current;
      touched = with_numbers (518 + (h.start - 518 + i * h.bucket)) h.bucket old.touched;
    }) new
    → StagesIn h h.bucket old new
bucket_staged h i bytes old new below state =
    let lies = ranges_apart i h.alloc h.bucket below in
    record {
      rest = state ∙ (λ k. record old { current = sym current k; touched = sym touched k; reads = new.reads });
      blocks = subst (λ (now : Option (List (List ℕ))). MatchOption old.current (now ≡ None) (λ before. IsSomeAnd now (AgreesOff (in_extent h) before))) (sym current) (told old.current);
      touched = λ k has. ⊎_elim inl (λ in_it. inr (in_extent_is (h.start - 518) (h.alloc * h.bucket) (k - 518) (omega (arith, in_it.0)) (omega (arith, in_it.0, in_it.1, lies))))
          (has_with_numbers k (518 + (h.start - 518 + i * h.bucket)) h.bucket old.touched (subst (λ (ns : List ℕ). has_number k ns ≡ true) touched has));
      few = omega (arith, ap length touched, length-with_numbers (518 + (h.start - 518 + i * h.bucket)) h.bucket old.touched);
    }
  where
    current : new.current ≡ option_map (λ b. with_bucket bytes b (h.start - 518 + i * h.bucket) h.bucket) old.current
    current = ap (λ (s : StoreState). s.current) state

    touched : new.touched ≡ with_numbers (518 + (h.start - 518 + i * h.bucket)) h.bucket old.touched
    touched = ap (λ (s : StoreState). s.touched) state

    told : (c : Option (List (List ℕ))) → MatchOption c (option_map (λ b. with_bucket bytes b (h.start - 518 + i * h.bucket) h.bucket) c ≡ None)
        (λ before. IsSomeAnd (option_map (λ b. with_bucket bytes b (h.start - 518 + i * h.bucket) h.bucket) c) (AgreesOff (in_extent h) before))
    told None = refl
    told (Some b) = agrees_bucket h i bytes b below

pub stages_more : (h : FileHead) (few many : ℕ) (old new : StoreState) → few ≤ many → StagesIn h few old new → StagesIn h many old new
stages_more h few many old new le stages = record { rest = stages.rest; blocks = stages.blocks; touched = stages.touched; few = let count = stages.few in omega arith }

-- and whatever was read besides
pub stages_read : (h : FileHead) (limit reads : ℕ) (old new : StoreState) → StagesIn h limit old new → StagesIn h limit old (record new { reads = reads })
stages_read h limit reads old new stages = record { rest = λ i. record (stages.rest i) { reads = reads }; blocks = stages.blocks; touched = stages.touched; few = stages.few }

-- the blocks are the same but in the extent, before and after a bucket was written
pub either_out : (h : FileHead) (i : ℕ) (bytes : List ℕ) (told now : Option (List (List ℕ))) (c : List (List ℕ)) → i < h.alloc
    → now ≡ option_map (λ b. with_bucket bytes b (h.start - 518 + i * h.bucket) h.bucket) told → IsEither told now c → IfSome told (λ before. AgreesOff (in_extent h) before c)
either_out h i bytes None now c below is e = tt
either_out h i bytes (Some b) now c below is e = ⊎_elim
    (λ before. let same : c ≡ b = cc in record { size = ap length same; others = λ k off. ap (λ x. block_at x k) same })
    (λ after. let same : c ≡ with_bucket bytes b (h.start - 518 + i * h.bucket) h.bucket = cc in
    subst (λ (x : List (List ℕ)). AgreesOff (in_extent h) b x) (sym same) (agrees_bucket h i bytes b below))
    e

pub agrees_trans : (p : ℕ → Bool) (a b c : List (List ℕ)) → AgreesOff p a b → AgreesOff p b c → AgreesOff p a c
agrees_trans p a b c f s = record { size = s.size ∙ f.size; others = λ k off. s.others k off ∙ f.others k off }

pub leaves_out : (p : ℕ → Bool) (old now : Option (List (List ℕ))) (disk : DiskState) → AgreesOut p old now → LeavesOut p now disk → LeavesOut p old disk
leaves_out p None now disk agrees leaves = λ image left. ((leaves image left).0, tt)
leaves_out p (Some a) None disk agrees leaves = absurd agrees
leaves_out p (Some a) (Some b) disk agrees leaves = λ image left. ((leaves image left).0, agrees_trans p a b _ agrees (leaves image left).1)
