-- A bucket of a file in a frame, and what the file becomes once it is written.
use Rattle.std.specs.Prelude.{◌≡◌, ◌⊎◌, ◌≤◌, ◌<◌, ℕ, ◌+◌, ◌*◌, ◌++◌, List, [], ◌∷◌, length, slice_set, None, option_map, IfSome, IsSomeAnd}
use Rattle.change_set.specs.block_disk.Sizes.{content_start}
use Rattle.change_set.specs.careful_write.Reads.{SameButReads}
use Rattle.change_set.specs.careful_write.State.{StoreState}
use Rattle.file_base.specs.declared.head.FileHead.{FileHead}
use Rattle.change_set.specs.Buckets.{frame_of, with_frame, with_bucket, with_numbers}
use Rattle.change_set.specs.Files.{StagesIn, SameFile}
use Rattle.bucket_page.specs.declared.kind.PageKind.TheVariants.{Seq}
use Rattle.bucket_page.specs.Frames.{bucket_in}
use Rattle.bucket_page.specs.Pages.{slots_of, slot_at, joined, IsBucket}
use Rattle.seq_file.specs.declared.spot.Rewrite.{Rewrite}
use Rattle.seq_file.specs.Placing.{slots_along}
use Rattle.seq_file.specs.Layout.{bucket_first, bucket_at, slots_at, slot_of, records_in, capacity, head_with, IsSequential, Becomes, Changed}

-- the bucket in a frame
abbrev pub page_in : FileHead → StoreState → ℕ → List ℕ
page_in h s f = bucket_in s.pool f (512 * h.bucket)

-- bytes of a bucket with these slots
pub record HasSlots (h : FileHead) (bytes : List ℕ) (slots : List (List ℕ)) : Type 0 where
  pub bucket : IsBucket Seq (512 * h.bucket) bytes
  pub are : slots_of Seq bytes ≡ slots

-- a frame is lent, and nothing else of the store is other
abbrev pub InFrame : ℕ → StoreState → StoreState → Type 0
InFrame f old new = new ≡ with_frame f (frame_of new.pool f) old

-- and only what tells of reads
abbrev pub ReadsInFrame : ℕ → StoreState → StoreState → Type 0
ReadsInFrame f old new = SameButReads (with_frame f (frame_of new.pool f) old) new

-- a bucket of records stays as it is, and other bytes become one without slots
abbrev pub Settles : ℕ → List ℕ → List ℕ → Type 0
Settles size old new = (IsBucket Seq size old × (new ≡ old)) ⊎ ((IsBucket Seq size old → ⊥) × (slots_of Seq new ≡ []))

-- the bytes are those of bucket i, and have no slots where no bucket of records stands there
abbrev pub Reads : FileHead → ℕ → List ℕ → List (List ℕ) → Type 0
Reads h i bytes b = Settles (512 * h.bucket) (bucket_at h b i) bytes

-- a bucket of records stands as bucket i, and the bytes are its own
abbrev pub IsRead : FileHead → ℕ → List ℕ → List (List ℕ) → Type 0
IsRead h i bytes b = IsBucket Seq (512 * h.bucket) (bucket_at h b i) × (bytes ≡ bucket_at h b i)

-- the bytes are those of bucket k, and its slot j is that of position n
pub record IsAt (h : FileHead) (n k j : ℕ) (bytes : List ℕ) (b : List (List ℕ)) : Type 0 where
  pub page : bytes ≡ bucket_at h b k
  pub there : j < length (slots_at h b k)
  pub number : n ≡ length (slots_along (slots_at h b) k) + j + 1

-- a record more behind these slots of the last used bucket, as position n
pub record PutBehind (h : FileHead) (n : ℕ) (slots : List (List ℕ)) (r bytes : List ℕ) (w : Rewrite) : Type 0 where
  pub last : h.used ≡ w.bucket + 1
  pub used : w.used ≡ h.used
  pub count : w.count ≡ n
  pub page : HasSlots h bytes (slots ++ slot_of r ∷ [])

-- a record more in the next bucket, since it does not fit behind these slots of the last used one
pub record PutAnew (h : FileHead) (n : ℕ) (slots : List (List ℕ)) (r bytes : List ℕ) (w : Rewrite) : Type 0 where
  pub next : w.bucket ≡ h.used
  pub free : h.used < h.alloc
  pub used : w.used ≡ h.used + 1
  pub count : w.count ≡ n
  pub over : capacity h < length (joined slots) + (length r + 2)
  pub page : HasSlots h bytes (slot_of r ∷ [])

-- another record of the same length in place of slot j of these
pub record PutOver (h : FileHead) (j : ℕ) (slots : List (List ℕ)) (r bytes : List ℕ) : Type 0 where
  pub same : length r + 2 ≡ length (slot_at slots j)
  pub page : HasSlots h bytes (slice_set slots j (slot_of r))

-- where this is so of the blocks, the file has these records once the bucket is written with the bytes
abbrev pub Leads : FileHead → Rewrite → List ℕ → (List (List ℕ) → Type 0) → (List (List ℕ) → List (List ℕ)) → List (List ℕ) → Type 0
Leads h w bytes given after b = given b → (c : List (List ℕ)) → Changed h w.bucket bytes b c → Becomes (head_with h w.used w.count) c (after (records_in h b))

-- the numbers of a bucket that may be written
pub record MayWrite (h : FileHead) (w : Rewrite) : Type 0 where
  pub bucket : w.bucket < h.alloc
  pub one : 1 ≤ w.used
  pub used : w.used ≤ h.alloc

-- only the extent was changed, and where this was so of the blocks, the file has other records
pub record Changes (h h' : FileHead) (given : List (List ℕ) → Type 0) (after : List (List ℕ) → List (List ℕ)) (old new : StoreState) : Type 0 where
  pub becomes : IfSome old.current (λ b. given b → IsSomeAnd new.current (λ c. Becomes h' c (after (records_in h b))))
  pub staged : StagesIn h h.bucket old new
  pub file : SameFile h h'
  pub form : IsSequential h'

-- the bucket in a frame is staged, and the frame given back
pub record Written (h : FileHead) (w : Rewrite) (f : ℕ) (old new : StoreState) : Type 0 where
  pub is : new ≡ record old {
    current = option_map (λ b. with_bucket (frame_of old.pool f) b (bucket_first h w.bucket) h.bucket) old.current;
    touched = with_numbers (content_start + bucket_first h w.bucket) h.bucket old.touched;
    pool = slice_set old.pool f None;
  }
