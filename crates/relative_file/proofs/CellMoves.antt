-- The cells of a file over the blocks of the content.
use Rattle.std.proofs.Common.{◌≡◌, inl, inr, ℕ, ◌≤◌, ◌+◌, ◌-◌, ◌*◌, ◌/◌, ◌%◌, true, List, length, take, Option, Some, None, IfSome, sym, ap, ◌∙◌, arith}
use Rattle.block_disk.specs.Disk.{DiskState}
use Rattle.file_base.specs.declared.head.FileHead.{FileHead}
use Rattle.file_base.specs.Bytes.{piece_at, spliced}
use Rattle.file_base.proofs.Splices.{take-spliced, piece_at-spliced_same, piece_at-spliced_below, piece_at-spliced_above}
use Rattle.change_set.specs.Buckets.{with_bucket, LiesInHome}
use Rattle.change_set.specs.Files.{IsPlaced}
use Rattle.change_set.proofs.Extents.{ranges_apart}
use Rattle.change_set.proofs.BucketLaws.{block_at-with_bucket_other, bucket_bytes_agree}
use Rattle.std.proofs.lemmas.List.{length-take-le}
use Rattle.relative_file.specs.Cells.{IsRelative, has_cell, cells_in, first_of, place_of, cell_at, as_read, bucket_at}
use Rattle.relative_file.proofs.ReadLaws.{bucket_after}
use Rattle.relative_file.proofs.Places.{bucket_within, Apart, lower, higher, before, behind}

pub cell_lies : (h : FileHead) (disk disk' : DiskState) (n first : ℕ) → IsRelative h → IsPlaced h disk → has_cell h n ≡ true → first ≡ 518 + first_of h n → disk'.size ≡ disk.size → LiesInHome disk' first h.bucket
cell_lies h disk disk' n first form placed there is size =
    let within = bucket_within n h.mrn h.alloc (cells_in h) h.bucket there form.cells form.one in
    record {
      from = omega (arith, is);
      to = omega (arith, is, within, size, placed.to, placed.from);
      fits = omega (arith, is, within, placed.to, placed.from, placed.fits);
    }

-- a bucket with a cell written
pub bucket_told : (told : Option (List (List ℕ))) (g : List (List ℕ) → ℕ → List ℕ) (first first' size place place' : ℕ) (frame cell : List ℕ) → IfSome told (λ b. take size frame ≡ g b first)
    → first ≡ first' → place ≡ place' → place' + length cell ≤ size → size ≤ length frame
    → IfSome told (λ b. take size (spliced frame place cell) ≡ spliced (g b first') place' cell)
bucket_told None g first first' size place place' frame cell read f p within long = tt
bucket_told (Some b) g first first' size place place' frame cell read f p within long =
    ap (λ m. take size (spliced frame m cell)) p ∙ take-spliced frame size place' cell within long
    ∙ ap (λ x. spliced x place' cell) (read ∙ ap (g b) f)

pub long_told : (told : Option (List (List ℕ))) (g : List (List ℕ) → ℕ → List ℕ) (first first' size : ℕ) (frame : List ℕ) → IfSome told (λ b. take size frame ≡ g b first) → first ≡ first' → size ≤ length frame
    → IfSome told (λ b. length (g b first') ≡ size)
long_told None g first first' size frame read f long = tt
long_told (Some b) g first first' size frame read f long = ap (λ m. length (g b m)) (sym f) ∙ sym (ap length read) ∙ length-take-le size frame long

pub cell_after_same : (h : FileHead) (b : List (List ℕ)) (n : ℕ) (bytes cell : List ℕ) → first_of h n + h.bucket ≤ length b
    → take (512 * h.bucket) bytes ≡ spliced (bucket_at h b (first_of h n)) (place_of h n) cell → length (bucket_at h b (first_of h n)) ≡ 512 * h.bucket
    → length cell ≡ h.mrs + 2 → place_of h n + (h.mrs + 2) ≤ 512 * h.bucket
    → cell_at h (with_bucket bytes b (first_of h n) h.bucket) n ≡ cell
cell_after_same h b n bytes cell within is long size place =
    ap (λ x. piece_at x (place_of h n) (h.mrs + 2)) (bucket_after h b (first_of h n) (place_of h n) bytes cell within (omega arith) (omega arith) is)
    ∙ piece_at-spliced_same (bucket_at h b (first_of h n)) (place_of h n) cell (h.mrs + 2) (omega arith) (sym size)

pub cell_after_other : (h : FileHead) (b : List (List ℕ)) (n m : ℕ) (bytes cell : List ℕ) → first_of h n + h.bucket ≤ length b
    → take (512 * h.bucket) bytes ≡ spliced (bucket_at h b (first_of h n)) (place_of h n) cell → length (bucket_at h b (first_of h n)) ≡ 512 * h.bucket
    → length cell ≡ h.mrs + 2 → place_of h n + (h.mrs + 2) ≤ 512 * h.bucket → place_of h m + (h.mrs + 2) ≤ 512 * h.bucket
    → Apart ((m - 1) / cells_in h) ((n - 1) / cells_in h) ((m - 1) % cells_in h) ((n - 1) % cells_in h)
    → cell_at h (with_bucket bytes b (first_of h n) h.bucket) m ≡ cell_at h b m
cell_after_other h b n m bytes cell within is long size place place' (lower below) =
    let apart = ranges_apart ((m - 1) / cells_in h) ((n - 1) / cells_in h) h.bucket below in
    ap (λ x. piece_at (as_read h x) (place_of h m) (h.mrs + 2)) (bucket_bytes_agree _ b (first_of h m) h.bucket (λ k from to. block_at-with_bucket_other bytes b (first_of h n) h.bucket k (inl (omega arith))))
cell_after_other h b n m bytes cell within is long size place place' (higher above) =
    let apart = ranges_apart ((n - 1) / cells_in h) ((m - 1) / cells_in h) h.bucket above in
    ap (λ x. piece_at (as_read h x) (place_of h m) (h.mrs + 2)) (bucket_bytes_agree _ b (first_of h m) h.bucket (λ k from to. block_at-with_bucket_other bytes b (first_of h n) h.bucket k (inr (omega arith))))
cell_after_other h b n m bytes cell within is long size place place' (before same below) =
    let apart = ranges_apart ((m - 1) % cells_in h) ((n - 1) % cells_in h) (h.mrs + 2) below in
    let first : first_of h m ≡ first_of h n = ap (λ x. h.start - 518 + x * h.bucket) same in
    ap (λ x. piece_at (bucket_at h (with_bucket bytes b (first_of h n) h.bucket) x) (place_of h m) (h.mrs + 2)) first
    ∙ ap (λ x. piece_at x (place_of h m) (h.mrs + 2)) (bucket_after h b (first_of h n) (place_of h n) bytes cell within (omega arith) (omega arith) is)
    ∙ piece_at-spliced_below (bucket_at h b (first_of h n)) (place_of h n) cell (place_of h m) (h.mrs + 2) (omega arith) (omega arith)
    ∙ ap (λ x. piece_at (bucket_at h b x) (place_of h m) (h.mrs + 2)) (sym first)
cell_after_other h b n m bytes cell within is long size place place' (behind same above) =
    let apart = ranges_apart ((n - 1) % cells_in h) ((m - 1) % cells_in h) (h.mrs + 2) above in
    let first : first_of h m ≡ first_of h n = ap (λ x. h.start - 518 + x * h.bucket) same in
    ap (λ x. piece_at (bucket_at h (with_bucket bytes b (first_of h n) h.bucket) x) (place_of h m) (h.mrs + 2)) first
    ∙ ap (λ x. piece_at x (place_of h m) (h.mrs + 2)) (bucket_after h b (first_of h n) (place_of h n) bytes cell within (omega arith) (omega arith) is)
    ∙ piece_at-spliced_above (bucket_at h b (first_of h n)) (place_of h n) cell (place_of h m) (h.mrs + 2) (omega arith) (omega arith)
    ∙ ap (λ x. piece_at (bucket_at h b x) (place_of h m) (h.mrs + 2)) (sym first)
