-- Cells of one bucket, as they are read from a frame one after the other.
use Rattle.std.proofs.Common.{◌≡◌, ℕ, ◌<◌, ◌≤◌, ◌+◌, ◌-◌, ◌*◌, ◌/◌, ◌%◌, ◌&&◌, true, List, length, take, Option, Some, None, IfSome, nat_le, sym, ap, ◌∙◌, arith}
use Rattle.std.proofs.lemmas.Bool.Decides.{nat_tests}
use Rattle.std.proofs.lemmas.Nat.{div-add-mod', mod_below, div-mul-add, mod-mul-add}
use Rattle.file_base.specs.declared.head.FileHead.{FileHead}
use Rattle.file_base.specs.Bytes.{piece_at}
use Rattle.file_base.proofs.Splices.{piece_at-take}
use Rattle.relative_file.specs.Cells.{IsRelative, cells_in, first_of, place_of, cell_at, bucket_at, cell_in, record_in, last_in, FirstIn, NoneIn, FindsCell, NoneFrom}
use Rattle.relative_file.proofs.Places.{cell_within}

-- numbers whose cells are in one bucket
pub record Together (n m c : ℕ) : Type 0 where
  pub bucket : (m - 1) / c ≡ (n - 1) / c
  pub cell : (m - 1) % c ≡ (n - 1) % c + (m - n)

pub together : (n m c : ℕ) → 1 ≤ c → 1 ≤ n → n ≤ m → m - n ≤ c - 1 - (n - 1) % c → Together n m c
together n m c one from least few =
    let parts = div-add-mod' (n - 1) c in
    let below = mod_below (n - 1) c one in
    let within : (n - 1) % c + (m - n) < c = omega arith in
    let number : m - 1 ≡ (n - 1) / c * c + ((n - 1) % c + (m - n)) = omega arith in
    record {
      bucket = ap (λ x. x / c) number ∙ div-mul-add ((n - 1) / c) c ((n - 1) % c + (m - n)) within;
      cell = ap (λ x. x % c) number ∙ mod-mul-add ((n - 1) / c) c ((n - 1) % c + (m - n)) within;
    }

is_there : (m mrn : ℕ) → 1 ≤ m → m ≤ mrn → (nat_le 1 m && nat_le m mrn) ≡ true
is_there m mrn from to = grind (arith, nat_tests)

-- a cell of the bucket that was read
cell_read : (h : FileHead) (b : List (List ℕ)) (n m first : ℕ) (frame : List ℕ) → IsRelative h → h.mrs + 32 ≤ 512 * h.bucket → take (512 * h.bucket) frame ≡ bucket_at h b first
    → first ≡ first_of h n → 512 * h.bucket ≤ length frame → Together n m (cells_in h) → cell_at h b m ≡ cell_in h.mrs frame ((n - 1) % cells_in h + (m - n))
cell_read h b n m first frame form records read at long same =
    let lies : first_of h m ≡ first = ap (λ x. h.start - 518 + x * h.bucket) same.bucket ∙ sym at in
    ap (λ x. piece_at (bucket_at h b x) (place_of h m) (h.mrs + 2)) lies
    ∙ ap (λ x. piece_at x (place_of h m) (h.mrs + 2)) (sym read)
    ∙ piece_at-take frame (512 * h.bucket) (place_of h m) (h.mrs + 2) (cell_within m h.bucket h.mrs form.one records) long
    ∙ ap (λ x. piece_at frame (16 + x * (h.mrs + 2)) (h.mrs + 2)) same.cell

-- no cell up to one of the bucket
none_scanned : (h : FileHead) (b : List (List ℕ)) (n last first : ℕ) (frame : List ℕ) → IsRelative h → h.mrs + 32 ≤ 512 * h.bucket → take (512 * h.bucket) frame ≡ bucket_at h b first
    → first ≡ first_of h n → 512 * h.bucket ≤ length frame → 1 ≤ n → last < n + (cells_in h - (n - 1) % cells_in h)
    → NoneIn h.mrs frame ((n - 1) % cells_in h) ((n - 1) % cells_in h + (last + 1 - n)) → NoneFrom h b (n - 1) last
none_scanned h b n last first frame form records read at long one within none = λ m behind to.
    let same = together n m (cells_in h) form.one one (omega arith) (omega arith) in
    ap (record_in h.mrs) (cell_read h b n m first frame form records read at long same) ∙ none ((n - 1) % cells_in h + (m - n)) (omega arith) (omega arith)

pub scan_none : (told : Option (List (List ℕ))) (h : FileHead) (n first from to last : ℕ) (frame : List ℕ) → IsRelative h → h.mrs + 32 ≤ 512 * h.bucket → IfSome told (λ b. take (512 * h.bucket) frame ≡ bucket_at h b first)
    → first ≡ first_of h n → 512 * h.bucket ≤ length frame → 1 ≤ n → n ≤ h.mrn → from ≡ (n - 1) % cells_in h → last ≡ last_in h n → to ≡ from + (last - n) + 1
    → NoneIn h.mrs frame from to → IfSome told (λ b. NoneFrom h b (n - 1) last)
scan_none None h n first from to last frame form records read at long one there is end count none = tt
scan_none (Some b) h n first from to last frame form records read at long one there is end count none =
    none_scanned h b n last first frame form records read at long one (let below = mod_below (n - 1) (cells_in h) form.one in omega arith) (λ k least below. none k (omega arith) (omega arith))

pub scan_found : (told : Option (List (List ℕ))) (h : FileHead) (n first from to last k : ℕ) (frame bytes : List ℕ) → IsRelative h → h.mrs + 32 ≤ 512 * h.bucket → IfSome told (λ b. take (512 * h.bucket) frame ≡ bucket_at h b first)
    → first ≡ first_of h n → 512 * h.bucket ≤ length frame → 1 ≤ n → n ≤ h.mrn → from ≡ (n - 1) % cells_in h → last ≡ last_in h n → to ≡ from + (last - n) + 1
    → FirstIn h.mrs frame from to k bytes → IfSome told (FindsCell h (n - 1) (n + (k - from)) bytes)
scan_found None h n first from to last k frame bytes form records read at long one there is end count found = tt
scan_found (Some b) h n first from to last k frame bytes form records read at long one there is end count found =
    let below = mod_below (n - 1) (cells_in h) form.one in
    let m = n + (k - from) in
    let here = found.behind in
    let under = found.below in
    let same = together n m (cells_in h) form.one one (omega arith) (omega arith) in
    let cell : (n - 1) % cells_in h + (m - n) ≡ k = omega arith in
    record {
      there = is_there m h.mrn (omega arith) (omega arith);
      behind = omega arith;
      has = ap (record_in h.mrs) (cell_read h b n m first frame form records read at long same ∙ ap (cell_in h.mrs frame) cell) ∙ found.has;
      least = none_scanned h b n (m - 1) first frame form records read at long one (omega arith) (λ j least less. found.least j (omega arith) (omega arith));
    }
