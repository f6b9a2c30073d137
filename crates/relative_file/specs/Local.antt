-- The laws of a relative file: its map and its layout rest on the file's extent alone.
use Rattle.std.specs.Prelude.{◌≡◌, ◌≤◌, ◌<◌, ◌+◌, ◌-◌, ◌*◌, ◌/◌, ◌&&◌, Bool, true, false, List, ℕ, Option, None, if◌then◌else◌, nat_le, refl}
use Rattle.std.proofs.Common.{take, drop, sym, ap, ◌∙◌, arith}
use Rattle.std.proofs.lemmas.Bool.Decides.{nat_tests}
use Rattle.std.proofs.lemmas.Nat.{div_below}
use Rattle.block_disk.specs.Sizes.{content_start}
use Rattle.file_base.specs.declared.head.FileHead.{FileHead}
use Rattle.vms_base.specs.vms_model.Keys.{Key, Number, Text, End}
use Rattle.file_base.specs.Bytes.{piece_at}
use Rattle.change_set.specs.Files.{AgreesOn}
use Rattle.change_set.proofs.BucketLaws.{bucket_bytes_agree}
use Rattle.change_set.proofs.Extents.{ranges_apart, in_extent_is, extent_bucket}
use Rattle.relative_file.specs.Cells.{map_of, IsRelative, IsLaidOut, has_cell, cells_in, cells_end, first_of, place_of, record_in, size_in, as_read}

pub in_range : (n mrn : ℕ) → (nat_le 1 n && nat_le n mrn) ≡ true → (1 ≤ n) × (n ≤ mrn)
in_range n mrn there = grind (arith, nat_tests)

-- the bucket of a number lies in the extent
pub bucket_within : (n mrn alloc c b : ℕ) → (nat_le 1 n && nat_le n mrn) ≡ true → mrn ≤ alloc * c → 1 ≤ c → (n - 1) / c * b + b ≤ alloc * b
bucket_within n mrn alloc c b there cells one =
    let range = in_range n mrn there in
    ranges_apart ((n - 1) / c) alloc b (div_below (n - 1) c alloc one (omega (arith, range)))

pub local_law : (h : FileHead) (a b : List (List ℕ)) → IsRelative h → AgreesOn h a b → map_of h a ≡ map_of h b
local_law h a b form agrees = λ i key. at_key key i
  where
    if_same : (t : Bool) (x y : Option (List ℕ)) → (t ≡ true → x ≡ y) → (if t then x else None) ≡ (if t then y else None)
    if_same true x y h = h refl
    if_same false x y h = refl

    at_key : (key : Key) → map_of h a key ≡ map_of h b key
    at_key (Number m) = if_same (has_cell h m) _ _ (λ there.
        let lies = bucket_within m h.mrn h.alloc (cells_in h) h.bucket there form.cells form.one in
        ap (λ x. record_in h.mrs (piece_at (as_read h x) (place_of h m) (h.mrs + 2)))
        (bucket_bytes_agree a b (first_of h m) h.bucket (λ k from to. agrees k (in_extent_is (h.start - content_start) (h.alloc * h.bucket) k (omega arith) (omega (arith, lies))))))
    at_key (Text t) = refl
    at_key End = refl

pub bucket_below : (n alloc c : ℕ) → 1 ≤ n → n ≤ alloc * c → 1 ≤ c → (n - 1) / c < alloc
bucket_below n alloc c from to one = div_below (n - 1) c alloc one (omega arith)

pub valid_local_law : (h : FileHead) (a b : List (List ℕ)) → IsRelative h → AgreesOn h a b → IsLaidOut h a → IsLaidOut h b
valid_local_law h a b form agrees valid = record {
  headers = λ i below. ap (take 16) (sym (extent_bucket h a b i below agrees)) ∙ valid.headers i below;
  rests = λ i below. ap (drop (cells_end h)) (sym (extent_bucket h a b i below agrees)) ∙ valid.rests i below;
  sizes = λ n from to. let same = ap (λ x. size_in (piece_at (as_read h x) (place_of h n) (h.mrs + 2))) (extent_bucket h a b ((n - 1) / cells_in h) (bucket_below n h.alloc (cells_in h) from to form.one) agrees) in
      let was = valid.sizes n from to in omega (arith, same);
}
