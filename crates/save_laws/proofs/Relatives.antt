-- A relative file at another place.
use Rattle.std.proofs.Common.{◌≡◌, ℕ, ◌+◌, ◌-◌, ◌/◌, Bool, true, false, List, Option, None, take, drop, refl, ap, ◌∙◌, arith}
use Rattle.std.specs.Prelude.{if◌then◌else◌}
use Rattle.std.proofs.lemmas.Nat.{div_below}
use Rattle.record_files.specs.file_base.declared.head.FileHead.{FileHead}
use Rattle.record_files.specs.file_base.Bytes.{piece_at}
use Rattle.records_model.specs.vms_model.Keys.{Key, Number, Text, End}
use Rattle.record_files.specs.relative_file.Cells.{map_of, IsRelative, IsLaidOut, has_cell, cells_in, cells_end, place_of, record_in, size_in, as_read}
use Rattle.record_files.specs.relative_file.Local.{in_range, bucket_below}
use Rattle.save_laws.specs.Saves.{kept_as, StandAt}
use Rattle.save_laws.proofs.Moves.{moved_bucket}

pub is_relative : (h own : FileHead) → IsRelative h → IsRelative (kept_as h own)
is_relative h own form = record { organization = form.organization; cells = form.cells; one = form.one; used = form.used; root = form.root; levels = form.levels; count = form.count }

if_same : (t : Bool) (x y : Option (List ℕ)) → (t ≡ true → x ≡ y) → (if t then x else None) ≡ (if t then y else None)
if_same true x y h = h refl
if_same false x y h = refl

pub map_moved : (h own : FileHead) (a b : List (List ℕ)) → IsRelative h → StandAt h own.start a b → map_of (kept_as h own) b ≡ map_of h a
map_moved h own a b form stands = λ i key. at_key key i
  where
    at_key : (key : Key) → map_of (kept_as h own) b key ≡ map_of h a key
    at_key (Number n) = if_same (has_cell h n) _ _ (λ there.
        let range = in_range n h.mrn there in
        let cells = form.cells in
        ap (λ x. record_in h.mrs (piece_at (as_read h x) (place_of h n) (h.mrs + 2)))
        (moved_bucket h own.start a b ((n - 1) / cells_in h) (div_below (n - 1) (cells_in h) h.alloc form.one (omega (arith, range, cells))) stands))
    at_key (Text t) = refl
    at_key End = refl

pub laid_out_moved : (h own : FileHead) (a b : List (List ℕ)) → IsRelative h → StandAt h own.start a b → IsLaidOut h a → IsLaidOut (kept_as h own) b
laid_out_moved h own a b form stands valid = record {
  headers = λ i below. ap (take 16) (moved_bucket h own.start a b i below stands) ∙ valid.headers i below;
  rests = λ i below. ap (drop (cells_end h)) (moved_bucket h own.start a b i below stands) ∙ valid.rests i below;
  sizes = λ n from to.
      let same = ap (λ x. size_in (piece_at (as_read h x) (place_of h n) (h.mrs + 2))) (moved_bucket h own.start a b ((n - 1) / cells_in h) (bucket_below n h.alloc (cells_in h) from to form.one) stands) in
      let was = valid.sizes n from to in omega (arith, same, was);
}
