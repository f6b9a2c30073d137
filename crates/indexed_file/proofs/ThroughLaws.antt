-- A key that is set through a frame.
use Rattle.std.proofs.Common.{◌≡◌, ℕ, ◌*◌, Bool, true, List, take, Option, subst}
use Rattle.file_base.specs.declared.head.FileHead.{FileHead}
use Rattle.bucket_page.specs.Pages.{slots_of, IsBucket}
use Rattle.indexed_file.specs.Chain.{kind_of, all_keep}
use Rattle.indexed_file.specs.Raws.{SetsLeaf}
use Rattle.indexed_file.specs.Sets.{SetsBytes}

-- what was done to a bucket of so many bytes
pub sets_bytes : (h : FileHead) (held : List ℕ → Bool) (k : List ℕ) (v : Option (List ℕ)) (size : ℕ) (bytes low0 : List ℕ) (added : ℕ) (low mid high : List ℕ) → size ≡ 512 * h.bucket → low0 ≡ bytes
    → (IsBucket (kind_of h) size (take size low0) → all_keep h (slots_of (kind_of h) (take size low0)) ≡ true → SetsLeaf h held k v size h.used (take size low0) added (take size low) (take size mid) (take size high))
    → SetsBytes h held k v bytes added low mid high
sets_bytes h held k v size bytes low0 added low mid high is same fact =
    let P : ℕ → List ℕ → Type 0 = λ n x. IsBucket (kind_of h) n (take n x) → all_keep h (slots_of (kind_of h) (take n x)) ≡ true → SetsLeaf h held k v n h.used (take n x) added (take n low) (take n mid) (take n high) in
    subst (λ (x : List ℕ). P (512 * h.bucket) x) same (subst (λ (n : ℕ). P n low0) is fact)
