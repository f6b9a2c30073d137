-- A file whose head tells other numbers of what it has.
use Rattle.std.proofs.Common.{◌≡◌, ◌*◌, ℕ, zero, suc, List, [], ◌∷◌, map, replicate, Some, refl, ap}
use Rattle.record_files.specs.file_base.declared.head.FileHead.{FileHead}
use Rattle.record_files.specs.file_base.declared.head.Organization.TheVariants.{Relative, Indexed}
use Rattle.vms_model.specs.Keys.{Key, Number, Text, End}
use Rattle.index_bucket.specs.index_model.Indexes.{Entry}
use Rattle.record_files.specs.relative_file.Cells as relative
use Rattle.record_files.specs.indexed_file.Chain as leaf
use Rattle.load_laws.specs.Records.{Keyed}
use Rattle.load_laws.specs.Pages.{Page, Slots, Entries, Cells, IsPage, Stand}
use Rattle.load_laws.specs.Cells.{values_behind, cell_pages}
use Rattle.load_laws.specs.Keys.{first_raw_key, lowest_keys}
use Rattle.load_laws.specs.Loads.{AllSuitBy}

module _ (h : FileHead) (u r l c : ℕ) where
  abbrev pub told : FileHead
  told = record h { used = u; root = r; levels = l; count = c }

  page_told : (p : Page) (bytes : List ℕ) → IsPage h p bytes → IsPage told p bytes
  page_told (Slots kind slots next) bytes is = is
  page_told (Entries es) bytes is = record { packed = is.packed; are = is.are; none = is.none }
  page_told (Cells value) bytes is = record { front = is.front; rest = is.rest; cells = is.cells }

  pub stand_told : (b : List (List ℕ)) (n : ℕ) (ps : List Page) → Stand h b n ps → Stand told b n ps
  stand_told b n [] stand = tt
  stand_told b n (p ∷ ps) stand = (page_told p _ stand.0, stand_told b (suc n) ps stand.1)

  first_told : (p : List (List ℕ)) → first_raw_key told p ≡ first_raw_key h p
  first_told [] = refl
  first_told (s ∷ ss) = refl

  firsts_told : (ps : List (List (List ℕ))) → map (first_raw_key told) ps ≡ map (first_raw_key h) ps
  firsts_told [] = refl
  firsts_told (p ∷ ps) = λ i. first_told p i ∷ firsts_told ps i

  pub lowest_told : (ps : List (List (List ℕ))) → lowest_keys told ps ≡ lowest_keys h ps
  lowest_told [] = refl
  lowest_told (p ∷ ps) = ap (λ ks. replicate h.key_size 0 ∷ ks) (firsts_told ps)

  pub cells_told : (es : List Keyed) (n count : ℕ) → cell_pages told es n count ≡ cell_pages h es n count
  cells_told es n zero = refl
  cells_told es n (suc count) = ap (λ (ps : List Page). Cells (values_behind es (n * relative.cells_in h)) ∷ ps) (cells_told es (suc n) count)

  cell_suits : (k : Key) (v : List ℕ) → relative.Suits h k (Some v) → relative.Suits told k (Some v)
  cell_suits (Number n) v suits = suits
  cell_suits (Text t) v suits = suits
  cell_suits End v suits = suits

  pub all_cells_suit : (es : List Keyed) → AllSuitBy Relative h es → AllSuitBy Relative told es
  all_cells_suit [] all = tt
  all_cells_suit (e ∷ es) all = (cell_suits e.0 e.1 all.0, all_cells_suit es all.1)

  text_suits : (k : Key) (v : List ℕ) → leaf.Suits h k (Some v) → leaf.Suits told k (Some v)
  text_suits (Text t) v suits = record { size = suits.size; has = suits.has; most = suits.most }
  text_suits (Number n) v suits = suits
  text_suits End v suits = suits

  pub all_texts_suit : (es : List Keyed) → AllSuitBy Indexed h es → AllSuitBy Indexed told es
  all_texts_suit [] all = tt
  all_texts_suit (e ∷ es) all = (text_suits e.0 e.1 all.0, all_texts_suit es all.1)
