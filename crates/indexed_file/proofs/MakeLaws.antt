-- A new indexed file is valid and empty.
use Rattle.std.proofs.Common.{◌≡◌, ℕ, ◌≤◌, ◌+◌, ◌*◌, List, [], length, take, Option, Some, None, IfSome, IsSomeAnd, sym, subst, arith}
use Rattle.std.proofs.lemmas.Nat.{mul-le}
use Rattle.file_base.specs.declared.head.FileHead.{FileHead}
use Rattle.bucket_page.specs.Pages.{no_next, Holds}
use Rattle.change_set.specs.Buckets.{with_bucket}
use Rattle.change_set.specs.careful_write.Steps.{AgreesOff}
use Rattle.change_set.specs.Files.{in_extent, AgreesOut}
use Rattle.change_set.proofs.Extents.{agrees_bucket}
use Rattle.change_set.proofs.BucketLaws.{bucket_bytes-with_bucket}
use Rattle.indexed_file.specs.Chain.{kind_of, bucket_first, bucket_at}
use Rattle.indexed_file.specs.Made.{MakesLeaf}

-- a file with one bucket without slots
pub record IsBlank (h : FileHead) (b : List (List ℕ)) : Type 0 where
  pub one : h.used ≡ 1
  pub holds : Holds (kind_of h) (512 * h.bucket) [] no_next (bucket_at h b 0)

-- what was written is such a file
pub made_blank : (told now : Option (List (List ℕ))) (h : FileHead) (size : ℕ) → h.used ≡ 1 → 1 ≤ h.alloc → 518 ≤ h.start → h.start + h.alloc * h.bucket ≤ size → IfSome told (λ b. length b + 518 ≡ size)
    → MakesLeaf h told now → IfSome now (IsBlank h)
made_blank None now h size one some from to whole makes = subst (λ (o : Option (List (List ℕ))). IfSome o (IsBlank h)) (sym makes.is) tt
made_blank (Some b) now h size one some from to whole makes =
    let product : 1 * h.bucket ≤ h.alloc * h.bucket = mul-le 1 h.bucket h.alloc h.bucket some (omega arith) in
    let room : h.bucket ≤ h.alloc * h.bucket = omega arith in
    let here : bucket_at h (with_bucket makes.bytes b (bucket_first h 0) h.bucket) 0 ≡ take (512 * h.bucket) makes.bytes =
    bucket_bytes-with_bucket makes.bytes b (bucket_first h 0) h.bucket (omega (arith, whole, room)) in
    let P : List ℕ → Type 0 = λ bytes. Holds (kind_of h) (512 * h.bucket) [] no_next bytes in
    subst (λ (o : Option (List (List ℕ))). IfSome o (IsBlank h)) (sym makes.is) (record { one = one; holds = subst P (sym here) makes.front })

-- other blocks are as they were
pub made_out : (told now : Option (List (List ℕ))) (h : FileHead) → 1 ≤ h.alloc → MakesLeaf h told now → AgreesOut (in_extent h) told now
made_out None now h some makes = makes.is
made_out (Some b) now h some makes =
    subst (λ (o : Option (List (List ℕ))). IsSomeAnd o (AgreesOff (in_extent h) b)) (sym makes.is) (agrees_bucket h 0 makes.bytes b (omega arith))
