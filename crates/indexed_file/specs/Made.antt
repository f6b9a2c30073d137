-- The blocks of a new indexed file.
use Rattle.std.specs.Prelude.{◌≡◌, ℕ, ◌*◌, List, [], Option, take, option_map}
use Rattle.file_base.specs.declared.head.FileHead.{FileHead}
use Rattle.bucket_page.specs.Pages.{no_next, Holds}
use Rattle.change_set.specs.Buckets.{with_bucket}
use Rattle.indexed_file.specs.Chain.{kind_of, bucket_first}

-- the first bucket became one without slots and without a next one
pub record MakesLeaf (h : FileHead) (old new : Option (List (List ℕ))) : Type 0 where
  pub bytes : List ℕ
  pub front : Holds (kind_of h) (512 * h.bucket) [] no_next (take (512 * h.bucket) bytes)
  pub is : new ≡ option_map (λ b. with_bucket bytes b (bucket_first h 0) h.bucket) old
