-- Buckets at another place.
use Rattle.std.proofs.Common.{◌≡◌, ℕ, zero, suc, ◌<◌, ◌+◌, ◌-◌, ◌*◌, ◌++◌, List, refl, ap, ◌∙◌, arith}
use Rattle.record_files.specs.block_disk.Blocks.{block_at}
use Rattle.record_files.specs.file_base.declared.head.FileHead.{FileHead}
use Rattle.record_files.specs.change_set.Buckets.{bucket_bytes}
use Rattle.record_files.proofs.change_set.Extents.{ranges_apart}
use Rattle.save_laws.specs.Saves.{StandAt}

pub bytes_alike : (a b : List (List ℕ)) (x y n : ℕ) → ((k : ℕ) → k < n → block_at b (y + k) ≡ block_at a (x + k)) → bucket_bytes b y n ≡ bucket_bytes a x n
bytes_alike a b x y zero same = refl
bytes_alike a b x y (suc n) same = λ i. bytes_alike a b x y n (λ k below. same k (omega arith)) i ++ same n (omega arith) i

-- bucket i has the same bytes
pub moved_bucket : (h : FileHead) (to : ℕ) (a b : List (List ℕ)) (i : ℕ) → i < h.alloc → StandAt h to a b → bucket_bytes b (to - 518 + i * h.bucket) h.bucket ≡ bucket_bytes a (h.start - 518 + i * h.bucket) h.bucket
moved_bucket h to a b i below stands =
    let lies = ranges_apart i h.alloc h.bucket below in
    bytes_alike a b (h.start - 518 + i * h.bucket) (to - 518 + i * h.bucket) h.bucket (λ k under.
    let at : to - 518 + i * h.bucket + k ≡ to - 518 + (i * h.bucket + k) = omega arith in
    let from : h.start - 518 + (i * h.bucket + k) ≡ h.start - 518 + i * h.bucket + k = omega arith in
    ap (block_at b) at ∙ stands (i * h.bucket + k) (omega (arith, lies)) ∙ ap (block_at a) from)
