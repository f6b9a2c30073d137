-- Cells that are filled one after another.
use Rattle.std.proofs.Common.{◌≡◌, ⊎_elim, ◌<◌, ◌≤◌, ◌+◌, ◌-◌, ◌*◌, ◌++◌, ℕ, zero, suc, List, [], ◌∷◌, length, map, take, drop, get_or, replicate, Option, unwrap_or, refl, sym, ap, subst, ◌∙◌, arith, rules}
use Rattle.std.specs.FinMap.Entries.{find}
use Rattle.std.proofs.lemmas.List.{same_lists, places, take-take, take-append-drop, take_more, drop_more, drop_all}
use Rattle.std.proofs.lemmas.Bool.{cases_lt, cases_eq}
use Rattle.file_base.specs.declared.head.FileHead.{FileHead}
use Rattle.file_base.specs.Bytes.{piece_at, spliced}
use Rattle.file_base.proofs.Splices.{length-spliced, piece_at-spliced_same, piece_at-spliced_below, piece_at-spliced_above, piece_at-take, take-spliced}
use Rattle.vms_model.specs.Keys.{Key, Number, Text, End}
use Rattle.records_model.specs.Records.{key_cmp}
use Rattle.relative_file.proofs.change_set.Extents.{ranges_apart}
use Rattle.relative_file.specs.Cells.{cells_in, cells_end, cell_of, cell_in, front_of, empty_bucket}
use Rattle.relative_file.proofs.CellLaws.{length-cell_of}
use Rattle.relative_file.proofs.ReadLaws.{take_spliced_below}
use Rattle.relative_file.proofs.Places.{place_within, places_fit}
use Rattle.load_laws.specs.Records.{Keyed}
use Rattle.load_laws.specs.Cells.{number_in, value_at, values_behind, AllTo, Climbs, AllShort, IsBehind, IsTo}
use Rattle.load_laws.specs.Pages.{HasCells}
use Rattle.load_pages.specs.declared.records.KeyedRecord.{KeyedRecord}
use Rattle.load_pages.specs.Given.{keyed}
use Rattle.load_laws.proofs.CellLemmas.{behind_key, find_here, find_passed, find_behind}

-- the first cells of a bucket have their records, and the others none
pub record Fills (h : FileHead) (es : List Keyed) (first k : ℕ) (bytes : List ℕ) : Type 0 where
  pub long : length bytes ≡ 8192
  pub front : take 16 bytes ≡ front_of h
  pub rest : drop (cells_end h) (take (512 * h.bucket) bytes) ≡ replicate (512 * h.bucket - cells_end h) 0
  pub done : (j : ℕ) → j < k → cell_in h.mrs bytes j ≡ cell_of h.mrs (values_behind es first j)
  pub left : (j : ℕ) → k ≤ j → j < cells_in h → cell_in h.mrs bytes j ≡ cell_of h.mrs []

no_record : (mrs : ℕ) → replicate (mrs + 2) 0 ≡ cell_of mrs []
no_record mrs = ap (λ n. replicate n 0) (let same : mrs + 2 ≡ suc (suc mrs) = omega arith in same) ∙ ap (λ n. 0 ∷ 0 ∷ replicate n 0) (let same : mrs ≡ mrs - 0 = omega arith in same)

zeros_in : (F : List ℕ) (n at count : ℕ) → length F ≡ 16 → 16 ≤ at → at + count ≤ 16 + n → piece_at (F ++ replicate n 0) at count ≡ replicate count 0
zeros_in F n at count front from to = same_lists _ _ (search (rules, places)) (λ k d h. grind (arith, places))

zeros_behind : (F : List ℕ) (n at : ℕ) → length F ≡ 16 → 16 ≤ at → at ≤ 16 + n → drop at (F ++ replicate n 0) ≡ replicate (16 + n - at) 0
zeros_behind F n at front from to = same_lists _ _ (search (rules, places)) (λ k d h. grind (arith, places))

cells_fit : (h : FileHead) → 1 ≤ h.bucket → cells_end h ≤ 512 * h.bucket
cells_fit h one = let fit = places_fit (512 * h.bucket) (h.mrs + 2) (omega (arith, one)) in omega (arith, fit)

cell_fits : (h : FileHead) (j : ℕ) → 1 ≤ h.bucket → j < cells_in h → 16 + j * (h.mrs + 2) + (h.mrs + 2) ≤ cells_end h
cell_fits h j one below = place_within j (cells_in h) (h.mrs + 2) (cells_end h) below (omega arith)

pub fills_empty : (h : FileHead) (es : List Keyed) (first : ℕ) (bytes : List ℕ) → 1 ≤ h.bucket → h.bucket ≤ 16 → length bytes ≡ 8192 → take (512 * h.bucket) bytes ≡ empty_bucket h → Fills h es first 0 bytes
fills_empty h es first bytes one blocks long is = record {
  long = long;
  front = sym (take-take 16 (512 * h.bucket) bytes (omega (arith, one))) ∙ ap (take 16) is;
  rest = ap (drop (cells_end h)) is ∙ zeros_behind (front_of h) (512 * h.bucket - 16) (cells_end h) refl (omega arith) (let fit = cells_fit h one in omega (arith, fit, one))
      ∙ ap (λ n. replicate n 0) (let same : 16 + (512 * h.bucket - 16) - cells_end h ≡ 512 * h.bucket - cells_end h = omega (arith, one) in same);
  done = λ j below. absurd (omega (arith, below));
  left = λ j from below.
      let fit = cell_fits h j one below in
      let all = cells_fit h one in
      sym (piece_at-take bytes (512 * h.bucket) (16 + j * (h.mrs + 2)) (h.mrs + 2) (omega (arith, fit, all)) (omega (arith, long, blocks)))
      ∙ ap (λ x. piece_at x (16 + j * (h.mrs + 2)) (h.mrs + 2)) is
      ∙ zeros_in (front_of h) (512 * h.bucket - 16) (16 + j * (h.mrs + 2)) (h.mrs + 2) refl (omega arith) (omega (arith, fit, all, one)) ∙ no_record h.mrs;
}

-- one cell more that has no record
pub fills_none : (h : FileHead) (es : List Keyed) (first k : ℕ) (bytes : List ℕ) → k < cells_in h → values_behind es first k ≡ [] → Fills h es first k bytes → Fills h es first (k + 1) bytes
fills_none h es first k bytes below none before = record {
  long = before.long;
  front = before.front;
  rest = before.rest;
  done = λ j less. ⊎_elim (λ here. ap (cell_in h.mrs bytes) here ∙ before.left k (omega arith) below ∙ ap (cell_of h.mrs) (sym none) ∙ ap (λ i. cell_of h.mrs (values_behind es first i)) (sym here))
      (λ other. before.done j (omega arith)) (cases_eq j k);
  left = λ j from under. before.left j (omega (arith, from)) under;
}

-- and one that was written
pub fills_cell : (h : FileHead) (es : List Keyed) (first k : ℕ) (bytes value : List ℕ) → 1 ≤ h.bucket → h.bucket ≤ 16 → k < cells_in h → length value ≤ h.mrs → values_behind es first k ≡ value → Fills h es first k bytes
    → Fills h es first (k + 1) (spliced bytes (16 + k * (h.mrs + 2)) (cell_of h.mrs value))
fills_cell h es first k bytes value one blocks below short is before =
    let at = 16 + k * (h.mrs + 2) in
    let cell = cell_of h.mrs value in
    let size = length-cell_of h.mrs value short in
    let fit = cell_fits h k one below in
    let all = cells_fit h one in
    let long = before.long in
    let within : at + length cell ≤ length bytes = omega (arith, size, fit, all, long, blocks) in
    record {
      long = length-spliced bytes at cell within ∙ long;
      front = take_spliced_below bytes 16 at cell (omega arith) within ∙ before.front;
      rest = ap (drop (cells_end h)) (take-spliced bytes (512 * h.bucket) at cell (omega (arith, size, fit, all)) (omega (arith, long, blocks)))
          ∙ behind (take (512 * h.bucket) bytes) (cells_end h) at cell (omega (arith, size, fit)) ∙ before.rest;
      done = λ j less. ⊎_elim
          (λ here. ap (λ i. piece_at (spliced bytes at cell) (16 + i * (h.mrs + 2)) (h.mrs + 2)) here ∙ piece_at-spliced_same bytes at cell (h.mrs + 2) within (sym size)
          ∙ ap (cell_of h.mrs) (sym is) ∙ ap (λ i. cell_of h.mrs (values_behind es first i)) (sym here))
          (λ other. let lower : j < k = omega arith in let apart = ranges_apart j k (h.mrs + 2) lower in
          piece_at-spliced_below bytes at cell (16 + j * (h.mrs + 2)) (h.mrs + 2) within (omega (arith, apart)) ∙ before.done j lower)
          (cases_eq j k);
      left = λ j from under.
          let higher : k < j = omega (arith, from) in let apart = ranges_apart k j (h.mrs + 2) higher in let fits = cell_fits h j one under in
          piece_at-spliced_above bytes at cell (16 + j * (h.mrs + 2)) (h.mrs + 2) (omega (arith, apart, size)) (omega (arith, fits, all, long, blocks)) ∙ before.left j (omega (arith, from)) under;
    }
  where
    behind : (x : List ℕ) (n at : ℕ) (piece : List ℕ) → at + length piece ≤ n → drop n (spliced x at piece) ≡ drop n x
    behind x n at piece above = same_lists _ _ (search (rules, places)) (λ k d h. grind (arith, places))

pub fills_all : (h : FileHead) (es : List Keyed) (first : ℕ) (bytes : List ℕ) → 1 ≤ h.bucket → h.bucket ≤ 16 → Fills h es first (cells_in h) bytes → HasCells h (values_behind es first) (take (512 * h.bucket) bytes)
fills_all h es first bytes one blocks all = record {
  front = take-take 16 (512 * h.bucket) bytes (omega (arith, one)) ∙ all.front;
  rest = all.rest;
  cells = λ k below.
      let fit = cell_fits h k one below in let end = cells_fit h one in let long = all.long in
      piece_at-take bytes (512 * h.bucket) (16 + k * (h.mrs + 2)) (h.mrs + 2) (omega (arith, fit, end)) (omega (arith, long, blocks)) ∙ all.done k below;
}

-- The records of the cells.

-- the records before one have numbers of at most this, and those from it on greater ones that climb
pub record Between (n : ℕ) (es : List Keyed) (at : ℕ) : Type 0 where
  pub passed : AllTo n (take at es)
  pub climbs : Climbs n (drop at es)

here_of : (n : ℕ) (es : List Keyed) (at : ℕ) → find key_cmp (Number (n + 1)) es ≡ find key_cmp (Number (n + 1)) (take at es ++ drop at es)
here_of n es at = ap (find key_cmp (Number (n + 1))) (sym (take-append-drop at es))

pub none_next : (n at : ℕ) (es : List Keyed) → length es ≤ at → Between n es at → value_at es (n + 1) ≡ []
none_next n at es most between =
    ap (λ (o : Option (List ℕ)). unwrap_or o []) (here_of n es at ∙ find_passed (n + 1) n (take at es) (drop at es) (omega arith) between.passed ∙ ap (find key_cmp (Number (n + 1))) (drop_all at es most))

other_climbs : (n : ℕ) (e : Keyed) (es : List Keyed) → (number_in e.0 ≡ n + 1 → ⊥) → Climbs n (e ∷ es) → Climbs (n + 1) (e ∷ es)
other_climbs n e es not climbs = (more e.0 climbs.0 not, climbs.1)
  where
    more : (k : Key) → IsBehind n k → (number_in k ≡ n + 1 → ⊥) → IsBehind (n + 1) k
    more (Number m) less other = ⊎_elim (λ below. below) (λ above. absurd (other (omega (arith, less, above)))) (cases_lt (n + 1) m)
    more (Text t) less other = absurd less
    more End less other = absurd less

to_more : (n : ℕ) (es : List Keyed) → AllTo n es → AllTo (n + 1) es
to_more n [] all = tt
to_more n (e ∷ es) all = (more e.0 all.0, to_more n es all.1)
  where
    more : (k : Key) → IsTo n k → IsTo (n + 1) k
    more (Number m) few = omega (arith, few)
    more (Text t) few = few
    more End few = few

to_last : (n : ℕ) (es : List Keyed) (e : Keyed) → AllTo n es → IsTo n e.0 → AllTo n (es ++ e ∷ [])
to_last n [] e all last = (last, tt)
to_last n (x ∷ xs) e all last = (all.0, to_last n xs e all.1 last)

pub between_none : (n at : ℕ) (es : List Keyed) → length es ≤ at → Between n es at → Between (n + 1) es at
between_none n at es most between = record { passed = to_more n (take at es) between.passed; climbs = subst (Climbs (n + 1)) (sym (drop_all at es most)) tt }

pub between_other : (n at : ℕ) (es : List Keyed) (d : Keyed) → at < length es → (number_in (get_or es at d).0 ≡ n + 1 → ⊥) → Between n es at → (value_at es (n + 1) ≡ []) × Between (n + 1) es at
between_other n at es d below not between =
    let rest = drop_more es at d below in
    let climbs = other_climbs n (get_or es at d) (drop (at + 1) es) not (subst (Climbs n) rest between.climbs) in
    let behind = subst (Climbs (n + 1)) (sym rest) climbs in (
      ap (λ (o : Option (List ℕ)). unwrap_or o []) (here_of n es at ∙ find_passed (n + 1) n (take at es) (drop at es) (omega arith) between.passed ∙ find_behind (n + 1) (n + 1) (drop at es) (omega arith) behind),
      record { passed = to_more n (take at es) between.passed; climbs = behind },
    )

pub between_here : (n at : ℕ) (es : List Keyed) (d : Keyed) → at < length es → number_in (get_or es at d).0 ≡ n + 1 → Between n es at → (value_at es (n + 1) ≡ (get_or es at d).1) × Between (n + 1) es (at + 1)
between_here n at es d below is between =
    let e = get_or es at d in
    let rest = drop_more es at d below in
    let climbs = subst (Climbs n) rest between.climbs in
    let key = (behind_key n e.0 climbs.0).0 ∙ ap Number is in (
      ap (λ (o : Option (List ℕ)). unwrap_or o []) (here_of n es at ∙ find_passed (n + 1) n (take at es) (drop at es) (omega arith) between.passed
          ∙ ap (find key_cmp (Number (n + 1))) rest ∙ find_here (n + 1) e.0 e.1 (drop (at + 1) es) key),
      record {
        passed = subst (AllTo (n + 1)) (sym (take_more es at d below)) (to_last (n + 1) (take at es) e (to_more n (take at es) between.passed) (subst (IsTo (n + 1)) (sym key) (omega arith)));
        climbs = subst (λ m. Climbs m (drop (at + 1) es)) is climbs.1;
      },
    )

pub short_at : (mrs : ℕ) (es : List Keyed) (i : ℕ) (d : Keyed) → i < length es → AllShort mrs es → length (get_or es i d).1 ≤ mrs
short_at mrs [] i d below all = absurd (omega (arith, below))
short_at mrs (e ∷ es) zero d below all = all.0
short_at mrs (e ∷ es) (suc i) d below all = short_at mrs es i d (omega (arith, below)) all.1

pub keyed_at : (rs : List KeyedRecord) (i : ℕ) (d : KeyedRecord) → get_or (map keyed rs) i (keyed d) ≡ keyed (get_or rs i d)
keyed_at [] i d = refl
keyed_at (r ∷ rs) zero d = refl
keyed_at (r ∷ rs) (suc i) d = keyed_at rs i d

pub get_any : (es : List Keyed) (i : ℕ) (d e : Keyed) → i < length es → get_or es i d ≡ get_or es i e
get_any [] i d e below = absurd (omega (arith, below))
get_any (x ∷ xs) zero d e below = refl
get_any (x ∷ xs) (suc i) d e below = get_any xs i d e (omega (arith, below))
