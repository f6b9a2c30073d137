-- A key that is set back in place, through a frame.
use Rattle.std.proofs.Common.{◌≡◌, ℕ, ◌*◌, Bool, List, Option, subst}
use Rattle.file_base.specs.declared.head.FileHead.{FileHead}
use Rattle.indexed_file.specs.Backs.{TriesBytes}

-- what was done to a bucket of so many bytes
pub tries_bytes : (h : FileHead) (k : List ℕ) (v : Option (List ℕ)) (size : ℕ) (done is_done : Bool) (bytes low0 low : List ℕ) → size ≡ 512 * h.bucket → low0 ≡ bytes → done ≡ is_done → TriesBytes h k v size done low0 low
    → TriesBytes h k v (512 * h.bucket) is_done bytes low
tries_bytes h k v size done is_done bytes low0 low is same told tries =
    subst (λ (x : List ℕ). TriesBytes h k v (512 * h.bucket) is_done x low) same
    (subst (λ (n : ℕ). TriesBytes h k v n is_done low0 low) is (subst (λ (b : Bool). TriesBytes h k v size b low0 low) told tries))
