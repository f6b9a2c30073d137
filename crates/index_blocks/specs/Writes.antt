-- Index buckets that are written.
use Rattle.std.specs.Prelude.{◌≡◌, ◌≤◌, ◌*◌, ◌/◌, ℕ, Bool, true, false, List, [], ◌∷◌, length, take, drop, IfSome, Option, is_some, option_map}
use Rattle.change_set.specs.careful_write.Reads.{SameButReads}
use Rattle.change_set.specs.careful_write.State.{StoreState}
use Rattle.file_base.specs.declared.head.FileHead.{FileHead}
use Rattle.index_bucket.specs.bucket_page.Pages.{IsBucket}
use Rattle.change_set.specs.Buckets.{with_bucket}
use Rattle.index_bucket.specs.index_model.Indexes.{Entry, first_separator, set_entries}
use Rattle.index_bucket.specs.declared.hand.Handed.{Handed}
use Rattle.index_bucket.specs.Entries.{index_kind, entries_at}
use Rattle.index_bucket.specs.Takes.{entries_of, TakesIn}
use Rattle.index_blocks.specs.Buckets.{bucket_first, bucket_at, with_blocks_of}
use Rattle.index_blocks.specs.Levels.{entries_in}

-- the blocks, bucket n written, and a new one where it was parted
abbrev pub with_halves : FileHead → ℕ → ℕ → Bool → List ℕ → List ℕ → List (List ℕ) → List (List ℕ)
with_halves h n fresh false low high blocks = with_bucket low blocks (bucket_first h n) h.bucket
with_halves h n fresh true low high blocks = with_bucket high (with_bucket low blocks (bucket_first h n) h.bucket) (bucket_first h fresh) h.bucket

-- the entries of all buckets, once bucket n has these, or shares them with a new one
abbrev pub entries_set : ℕ → ℕ → Bool → List Entry → (ℕ → List Entry) → ℕ → List Entry
entries_set n fresh false all entries = set_entries n all entries
entries_set n fresh true all entries = set_entries fresh (drop (length all / 2) all) (set_entries n (take (length all / 2) all) entries)

-- the numbers of the blocks of bucket n, and of the new one where it was parted, beside these
abbrev pub with_blocks_of_halves : FileHead → ℕ → ℕ → Bool → List ℕ → List ℕ
with_blocks_of_halves h n fresh false touched = with_blocks_of h n touched
with_blocks_of_halves h n fresh true touched = with_blocks_of h fresh (with_blocks_of h n touched)

-- bucket n took entries and was staged, with a new one where it was parted, whose entry is handed up
pub record HandsIn (h : FileHead) (k : List ℕ) (added : List Entry) (n fresh : ℕ) (up : Option Handed) (s s' : StoreState) : Type 0 where
  pub low : List ℕ
  pub high : List ℕ
  pub state : SameButReads (record s { current = option_map (with_halves h n fresh (is_some up) low high) s.current; touched = with_blocks_of_halves h n fresh (is_some up) s.touched }) s'
  pub takes : IfSome s.current (λ b. IsBucket (index_kind h) (512 * h.bucket) (bucket_at h b n) → 1 ≤ length (entries_in h b n) → TakesIn h (512 * h.bucket) k added (bucket_at h b n) (is_some up) (take (512 * h.bucket) low) (take (512 * h.bucket) high))
  pub leads : IfSome up (λ handed. entries_of h handed ≡ record { separator = first_separator (entries_at h (take (512 * h.bucket) high)); child = fresh } ∷ [])
