-- Buckets of absent cells.
use Rattle.std.proofs.Common.{◌≡◌, ◌⊎◌, ⊎_elim, inl, inr, ℕ, Bool, ◌<◌, ◌≤◌, ◌+◌, ◌-◌, ◌*◌, ◌/◌, ◌++◌, List, length, take, drop, replicate, get_or, Option, Some, None, IfSome, IsSomeAnd, option_map, refl, sym, ap, subst, ◌∙◌, arith, rules}
use Rattle.std.proofs.lemmas.List.{same_lists, places, get_or-take, get_or-drop, get_or-append_right, get_or-replicate, get_or_past, length-replicate}
use Rattle.std.proofs.lemmas.Bool.{cases_lt, cases_eq}
use Rattle.block_disk.specs.Blocks.{block_at}
use Rattle.change_set.specs.careful_write.State.{IsEither}
use Rattle.change_set.specs.careful_write.Steps.{AgreesOff}
use Rattle.file_base.specs.declared.head.FileHead.{FileHead}
use Rattle.vms_base.specs.vms_model.Keys.{Key, Number, Text, End}
use Rattle.file_base.specs.Bytes.{piece_at, spliced}
use Rattle.change_set.specs.Buckets.{bucket_bytes, with_bucket}
use Rattle.change_set.specs.Files.{in_extent, AgreesOut}
use Rattle.change_set.specs.Maps.{empty_map}
use Rattle.change_set.proofs.BucketLaws.{block_at-with_bucket_other, bucket_bytes_agree, bucket_bytes-with_bucket}
use Rattle.relative_file.specs.Cells.{IsRelative, has_cell, cells_in, place_of, record_in, size_in, map_of, front_of, empty_bucket, as_read, bucket_first, EmptyTo, Empties}
use Rattle.change_set.proofs.Extents.{ranges_apart, agrees_bucket, agrees_trans}
use Rattle.relative_file.specs.Local.{bucket_within}
use Rattle.relative_file.proofs.CellLaws.{record_none}
use Rattle.relative_file.proofs.MapLaws.{if_none}
use Rattle.relative_file.proofs.ReadLaws.{as_read_same}

-- a front over zeros
pub filled : (bytes F : List ℕ) (n : ℕ) → length F ≡ 16 → 16 ≤ n → n ≤ length bytes → take n (spliced (spliced bytes 0 (replicate n 0)) 0 F) ≡ F ++ replicate (n - 16) 0
filled bytes F n front least long = same_lists _ _ (search (rules, places)) (λ k d h. grind (arith, places))

zeros_at : (F : List ℕ) (n k : ℕ) → length F ≡ 16 → 16 ≤ k → let d : ℕ = 0 in get_or (F ++ replicate n d) k d ≡ d
zeros_at F n k front far = get_or-append_right F (replicate n 0) 16 k 0 front far ∙ zeros (cases_lt (k - 16) n)
  where
    zeros : ((k - 16) < n) ⊎ (n ≤ (k - 16)) → let d : ℕ = 0 in get_or (replicate n d) (k - 16) d ≡ d
    zeros (inl below) = get_or-replicate n (k - 16) 0 0 below
    zeros (inr past) = get_or_past (replicate n 0) (k - 16) 0 (omega (arith, length-replicate {A = ℕ} n 0))

-- a cell of an empty bucket tells no bytes
pub size_in_empty : (h : FileHead) (at : ℕ) → 16 ≤ at → size_in (piece_at (empty_bucket h) at (h.mrs + 2)) ≡ 0
size_in_empty h at far =
    let cell = piece_at (empty_bucket h) at (h.mrs + 2) in
    let byte0 : get_or cell 0 0 ≡ 0 = get_or-take (h.mrs + 2) (drop at (empty_bucket h)) 0 0 (omega arith) ∙ get_or-drop at (empty_bucket h) 0 0 ∙ zeros_at (front_of h) (512 * h.bucket - 16) (at + 0) refl (omega arith) in
    let byte1 : get_or cell 1 0 ≡ 0 = get_or-take (h.mrs + 2) (drop at (empty_bucket h)) 1 0 (omega arith) ∙ get_or-drop at (empty_bucket h) 1 0 ∙ zeros_at (front_of h) (512 * h.bucket - 16) (at + 1) refl (omega arith) in
    omega (arith, byte0, byte1)

pub record_in_empty : (h : FileHead) (at : ℕ) → 16 ≤ at → record_in h.mrs (piece_at (empty_bucket h) at (h.mrs + 2)) ≡ None
record_in_empty h at far =
    let cell = piece_at (empty_bucket h) at (h.mrs + 2) in
    record_none h.mrs (take (size_in cell) (drop 2 cell)) (size_in cell) (inl (size_in_empty h at far))

pub map_empty : (told : Option (List (List ℕ))) (h : FileHead) → IsRelative h → IfSome told (EmptyTo h h.alloc) → IfSome told (λ b. map_of h b ≡ empty_map)
map_empty None h form empty = tt
map_empty (Some b) h form empty = λ i key. at_key key i
  where
    at_key : (key : Key) → map_of h b key ≡ empty_map key
    at_key (Number m) = if_none (has_cell h m) _ (λ there.
        let below = bucket_within m h.mrn h.alloc (cells_in h) 1 there form.cells form.one in
        ap (λ x. record_in h.mrs (piece_at (as_read h x) (place_of h m) (h.mrs + 2))) (empty ((m - 1) / cells_in h) (omega (arith, below))) ∙ ap (λ x. record_in h.mrs (piece_at x (place_of h m) (h.mrs + 2))) (as_read_same h (empty_bucket h) refl) ∙ record_in_empty h (place_of h m) (omega arith))
    at_key (Text t) = refl
    at_key End = refl

pub out_bucket : (h : FileHead) (i : ℕ) (old now next : Option (List (List ℕ))) → i < h.alloc → AgreesOut (in_extent h) old now → Empties h i now next → AgreesOut (in_extent h) old next
out_bucket h i None now next below agrees e = e.is ∙ ap (option_map (λ b. with_bucket e.bytes b (bucket_first h i) h.bucket)) agrees
out_bucket h i (Some a) None next below agrees e = absurd agrees
out_bucket h i (Some a) (Some b) next below agrees e =
    subst (λ (x : Option (List (List ℕ))). IsSomeAnd x (AgreesOff (in_extent h) a)) (sym e.is) (agrees_trans (in_extent h) a b _ agrees (agrees_bucket h i e.bytes b below))

pub empty_more : (h : FileHead) (i size : ℕ) (now next : Option (List (List ℕ))) → i < h.alloc → 518 ≤ h.start → h.start + h.alloc * h.bucket ≤ size → IfSome now (λ b. length b + 518 ≡ size)
    → IfSome now (EmptyTo h i) → Empties h i now next → IfSome next (EmptyTo h (i + 1))
empty_more h i size None next below from to whole empty e = subst (λ (x : Option (List (List ℕ))). IfSome x (EmptyTo h (i + 1))) (sym e.is) tt
empty_more h i size (Some b) next below from to whole empty e =
    subst (λ (x : Option (List (List ℕ))). IfSome x (EmptyTo h (i + 1))) (sym e.is) (λ j under. ⊎_elim
    (λ here. let within = ranges_apart i h.alloc h.bucket below in
    ap (λ n. bucket_bytes (with_bucket e.bytes b (bucket_first h i) h.bucket) (bucket_first h n) h.bucket) here
    ∙ bucket_bytes-with_bucket e.bytes b (bucket_first h i) h.bucket (omega (arith, within, whole)) ∙ e.front)
    (λ other. let less : j < i = omega arith in let apart = ranges_apart j i h.bucket less in
    bucket_bytes_agree _ b (bucket_first h j) h.bucket (λ k a z. block_at-with_bucket_other e.bytes b (bucket_first h i) h.bucket k (inl (omega arith))) ∙ empty j less)
    (cases_eq j i))

-- of two contents that differ in the extent alone, either has the blocks of the first outside it
pub either_agrees : (p : ℕ → Bool) (told now : Option (List (List ℕ))) (c : List (List ℕ)) → AgreesOut p told now → IsEither told now c → IfSome told (λ before. AgreesOff p before c)
either_agrees p None now c agrees e = tt
either_agrees p (Some a) None c agrees e = absurd agrees
either_agrees p (Some a) (Some b) c agrees e = ⊎_elim
    (λ before. let same : c ≡ a = cc in record { size = ap length same; others = λ k off. ap (λ x. block_at x k) same })
    (λ after. let same : c ≡ b = cc in subst (AgreesOff p a) (sym same) agrees)
    e

pub agrees_more : (p : ℕ → Bool) (old now next : Option (List (List ℕ))) → AgreesOut p old now → AgreesOut p now next → AgreesOut p old next
agrees_more p None now next first second = subst (λ (x : Option (List (List ℕ))). AgreesOut p x next) first second
agrees_more p (Some a) None next first second = absurd first
agrees_more p (Some a) (Some b) None first second = absurd second
agrees_more p (Some a) (Some b) (Some c) first second = agrees_trans p a b c first second
