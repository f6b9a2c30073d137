-- The layout of a relative file once a cell was written, and once all buckets are empty.
use Rattle.std.proofs.Common.{◌≡◌, ⊎_elim, inl, inr, ℕ, ◌<◌, ◌≤◌, ◌+◌, ◌-◌, ◌*◌, ◌/◌, ◌%◌, ◌++◌, List, [], length, take, drop, replicate, Option, Some, None, IfSome, option_map, unwrap_or, refl, sym, ap, subst, ◌∙◌, arith, rules}
use Rattle.std.proofs.lemmas.List.{same_lists, places}
use Rattle.std.proofs.lemmas.Bool.{cases_eq, cases_lt}
use Rattle.std.proofs.lemmas.Nat.{mod_below}
use Rattle.change_set.specs.careful_write.State.{StoreState}
use Rattle.file_base.specs.declared.head.FileHead.{FileHead}
use Rattle.file_base.specs.Bytes.{piece_at, spliced}
use Rattle.vms_base.specs.vms_model.Keys.{Key, Number}
use Rattle.change_set.specs.Buckets.{bucket_bytes, with_bucket}
use Rattle.change_set.specs.Files.{IsPlaced}
use Rattle.change_set.proofs.BucketLaws.{block_at-with_bucket_other, bucket_bytes_agree, bucket_bytes-with_bucket}
use Rattle.relative_file.specs.Cells.{IsRelative, IsLaidOut, Suits, WritesCell, EmptyTo, cells_in, cells_end, first_of, place_of, cell_at, cell_of, size_in, bucket_first, front_of, empty_bucket, as_read, bucket_at}
use Rattle.change_set.proofs.Extents.{ranges_apart}
use Rattle.relative_file.specs.Local.{bucket_within, bucket_below}
use Rattle.relative_file.proofs.Places.{cell_within, place_within, places_fit, apart, in_range}
use Rattle.relative_file.proofs.CellLaws.{length-cell_of, size_in-cell_of}
use Rattle.relative_file.proofs.CellMoves.{cell_after_same, cell_after_other}
use Rattle.relative_file.proofs.ReadLaws.{take_spliced_below, as_read_same}
use Rattle.relative_file.proofs.MapLaws.{value_holds, less_one}
use Rattle.relative_file.proofs.MakeLaws.{size_in_empty}

-- what stands behind a piece stays
drop_spliced_above : (bytes : List ℕ) (n at : ℕ) (piece : List ℕ) → at + length piece ≤ n → n ≤ length bytes → drop n (spliced bytes at piece) ≡ drop n bytes
drop_spliced_above bytes n at piece above within = same_lists _ _ (search (rules, places)) (λ k d h. grind (arith, places))

drop_zeros : (F : List ℕ) (n k : ℕ) → length F ≡ 16 → 16 ≤ k → k ≤ 16 + n → let d : ℕ = 0 in drop k (F ++ replicate n d) ≡ replicate (16 + n - k) d
drop_zeros F n k front from to = same_lists _ _ (search (rules, places)) (λ j d h. grind (arith, places))

-- a cell ends where the cells of its bucket end, or before
pub cell_ends : (h : FileHead) (n : ℕ) → 1 ≤ cells_in h → place_of h n + (h.mrs + 2) ≤ cells_end h
cell_ends h n one = place_within ((n - 1) % cells_in h) (cells_in h) (h.mrs + 2) (cells_end h) (mod_below (n - 1) (cells_in h) one) (omega arith)

-- what a bucket keeps of its bytes where one cell is written, all buckets keep
pub kept : (h : FileHead) (b : List (List ℕ)) (n i : ℕ) (bytes cell : List ℕ) (f : List ℕ → List ℕ) → first_of h n + h.bucket ≤ length b
    → take (512 * h.bucket) bytes ≡ spliced (bucket_bytes b (first_of h n) h.bucket) (place_of h n) cell
    → f (spliced (bucket_bytes b (first_of h n) h.bucket) (place_of h n) cell) ≡ f (bucket_bytes b (first_of h n) h.bucket)
    → f (bucket_bytes (with_bucket bytes b (first_of h n) h.bucket) (bucket_first h i) h.bucket) ≡ f (bucket_bytes b (bucket_first h i) h.bucket)
kept h b n i bytes cell f within is keeps = ⊎_elim
    (λ same. ap (λ j. f (bucket_bytes (with_bucket bytes b (first_of h n) h.bucket) (bucket_first h j) h.bucket)) same
    ∙ ap f (bucket_bytes-with_bucket bytes b (first_of h n) h.bucket within ∙ is) ∙ keeps ∙ ap (λ j. f (bucket_bytes b (bucket_first h j) h.bucket)) (sym same))
    (λ not. ⊎_elim
    (λ lower. let lies = ranges_apart i ((n - 1) / cells_in h) h.bucket lower in
    ap f (bucket_bytes_agree _ b (bucket_first h i) h.bucket (λ k from to. block_at-with_bucket_other bytes b (first_of h n) h.bucket k (inl (omega arith)))))
    (λ least. let higher : (n - 1) / cells_in h < i = omega arith in let lies = ranges_apart ((n - 1) / cells_in h) i h.bucket higher in
    ap f (bucket_bytes_agree _ b (bucket_first h i) h.bucket (λ k from to. block_at-with_bucket_other bytes b (first_of h n) h.bucket k (inr (omega arith)))))
    (cases_lt i ((n - 1) / cells_in h)))
    (cases_eq i ((n - 1) / cells_in h))

pub layout_after : (h : FileHead) (b : List (List ℕ)) (n : ℕ) (v : Option (List ℕ)) (bytes : List ℕ) → IsRelative h → h.mrs + 32 ≤ 512 * h.bucket → first_of h n + h.bucket ≤ length b
    → take (512 * h.bucket) bytes ≡ spliced (bucket_at h b (first_of h n)) (place_of h n) (cell_of h.mrs (unwrap_or v [])) → length (bucket_at h b (first_of h n)) ≡ 512 * h.bucket
    → Suits h (Number n) v → IsLaidOut h b → IsLaidOut h (with_bucket bytes b (first_of h n) h.bucket)
layout_after h b n v bytes form records within is long suits valid =
    let cell = cell_of h.mrs (unwrap_or v []) in
    let holds = value_holds h.mrs v suits.1 in
    let size = length-cell_of h.mrs (unwrap_or v []) holds in
    let place = cell_within n h.bucket h.mrs form.one records in
    let ends = cell_ends h n form.one in
    let all = places_fit (512 * h.bucket) (h.mrs + 2) (omega arith) in
    let old = bucket_bytes b (first_of h n) h.bucket in
    let range = in_range n h.mrn suits.0 in
    let same = as_read_same h old (valid.headers ((n - 1) / cells_in h) (bucket_below n h.alloc (cells_in h) range.0 (omega (arith, range.1, form.cells)) form.one)) in
    let now = is ∙ ap (λ x. spliced x (place_of h n) cell) same in
    let size_old : length old ≡ 512 * h.bucket = ap length (sym same) ∙ long in
    record {
      headers = λ i below. kept h b n i bytes cell (take 16) within now (take_spliced_below old 16 (place_of h n) cell (omega arith) (omega arith)) ∙ valid.headers i below;
      rests = λ i below. kept h b n i bytes cell (drop (cells_end h)) within now (drop_spliced_above old (cells_end h) (place_of h n) cell (omega arith) (omega arith)) ∙ valid.rests i below;
      sizes = λ m from to. ⊎_elim
          (λ same. let told = ap (λ k. size_in (cell_at h (with_bucket bytes b (first_of h n) h.bucket) k)) same
          ∙ ap size_in (cell_after_same h b n bytes cell within is long size place) ∙ size_in-cell_of h.mrs (unwrap_or v []) in omega (arith, told, holds))
          (λ not. let told = ap size_in (cell_after_other h b n m bytes cell within is long size place (cell_within m h.bucket h.mrs form.one records)
          (apart (m - 1) (n - 1) (cells_in h) (less_one m n from (in_range n h.mrn suits.0).0 not))) in
          let was = valid.sizes m from to in omega (arith, told, was))
          (cases_eq m n);
    }

-- the same where the blocks are told
pub layout_set : (h : FileHead) (key : Key) (n : ℕ) (v : Option (List ℕ)) (value : List ℕ) (old new : StoreState) → key ≡ Number n → value ≡ unwrap_or v [] → Suits h key v → IsRelative h → IsPlaced h old.disk
    → IfSome old.current (λ b. length b + 518 ≡ old.disk.size) → IfSome old.current (IsLaidOut h) → WritesCell h n value old new → IfSome new.current (IsLaidOut h)
layout_set h key n v value old new is bytes suits form placed whole valid writes =
    subst (λ (now : Option (List (List ℕ))). IfSome now (IsLaidOut h)) (sym (ap (λ (s : StoreState). s.current) writes.state))
    (told old.current (subst (λ (k : Key). Suits h k v) is suits) whole valid
    (subst (λ (x : List ℕ). IfSome old.current (λ b. take (512 * h.bucket) writes.bytes ≡ spliced (bucket_at h b (first_of h n)) (place_of h n) (cell_of h.mrs x))) bytes writes.is) writes.long)
  where
    told : (current : Option (List (List ℕ))) → Suits h (Number n) v → IfSome current (λ b. length b + 518 ≡ old.disk.size) → IfSome current (IsLaidOut h)
        → IfSome current (λ b. take (512 * h.bucket) writes.bytes ≡ spliced (bucket_at h b (first_of h n)) (place_of h n) (cell_of h.mrs (unwrap_or v [])))
        → IfSome current (λ b. length (bucket_at h b (first_of h n)) ≡ 512 * h.bucket)
        → IfSome (option_map (λ b. with_bucket writes.bytes b (first_of h n) h.bucket) current) (IsLaidOut h)
    told None suits whole valid is long = tt
    told (Some b) suits whole valid is long =
        let lies = bucket_within n h.mrn h.alloc (cells_in h) h.bucket suits.0 form.cells form.one in
        layout_after h b n v writes.bytes form placed.records (omega (arith, lies, placed.to, placed.from, whole)) is long suits valid

-- empty buckets are laid out
pub layout_empty : (told : Option (List (List ℕ))) (h : FileHead) → IsRelative h → h.mrs + 32 ≤ 512 * h.bucket → IfSome told (EmptyTo h h.alloc) → IfSome told (IsLaidOut h)
layout_empty None h form records empty = tt
layout_empty (Some b) h form records empty =
    let all = places_fit (512 * h.bucket) (h.mrs + 2) (omega arith) in
    let rest : 16 + (512 * h.bucket - 16) ≡ 512 * h.bucket = omega arith in
    record {
      headers = λ i below. ap (take 16) (empty i below);
      rests = λ i below. ap (drop (cells_end h)) (empty i below) ∙ drop_zeros (front_of h) (512 * h.bucket - 16) (cells_end h) refl (omega arith) (omega arith) ∙ ap (λ m. replicate (m - cells_end h) 0) rest;
      sizes = λ n from to. let none = ap (λ x. size_in (piece_at (as_read h x) (place_of h n) (h.mrs + 2))) (empty ((n - 1) / cells_in h) (bucket_below n h.alloc (cells_in h) from to form.one))
          ∙ ap (λ x. size_in (piece_at x (place_of h n) (h.mrs + 2))) (as_read_same h (empty_bucket h) refl) ∙ size_in_empty h (place_of h n) (omega arith) in omega (arith, none);
    }
