-- A content that tells a sound catalog meets all conditions.
use Rattle.std.proofs.Common.{◌≡◌, ℕ, ◌+◌, ◌-◌, ◌<◌, List, [], ◌∷◌, true, Option, Some, None, length, refl, sym, ap, subst, ◌∙◌, arith}
use Rattle.careful_write.specs.block_disk.Blocks.{block_at}
use Rattle.file_base.specs.declared.head.FileHead.{FileHead}
use Rattle.file_base.specs.vms_base.Ids.{until_zero}
use Rattle.file_base.specs.vms_model.Ids.{padded}
use Rattle.volume_format.specs.declared.home.Home.{Home}
use Rattle.volume_format.specs.Head.{IsHead, head_block_of}
use Rattle.volume_format.specs.Home.{IsHome, IsSizes, HasHome, HasSizes, home_rows, size_rows, sizes_of, last_tid, last_serial, last_kind, last_reason}
use Rattle.file_base.specs.Bytes.{piece_at}
use Rattle.volume_format.specs.Layout.{Row, AllStand, row, number_8, number_32, number_64}
use Rattle.volume_format.proofs.Splices.{laid_again, stand_parts}
use Rattle.volume_format.proofs.Names.{until_padded}
use Rattle.volume_format.proofs.Homes.{home_stands}
use Rattle.volume_format.proofs.Heads.{head_stands, head_parts}
use Rattle.volume.specs.declared.catalog.Catalog.{Catalog}
use Rattle.volume.specs.Catalogs.{TellsEntry, TellsCatalog, IsSound, IsNew, NewName, head_at}
use Rattle.volume.specs.Conditions.{IsNamed, IsValid}

abbrev Content : Type 0
Content = List (List ℕ)

-- the front of a home with version 1
rows_stand : (h : Home) (block : List ℕ) → h.version ≡ 1 → AllStand block (home_rows h) → AllStand block (size_rows 1 (sizes_of h))
unfolding home_rows
rows_stand h block one all = subst (λ n. AllStand block (size_rows n (sizes_of h))) one (stand_parts block (size_rows h.version (sizes_of h)) rest all).0
  where
    rest : List Row
    rest = row 24 8 (padded 8 h.node) ∷ number_32 32 h.boot ∷ number_64 40 h.greatest_moment.0 ∷ row 48 16 (last_tid h.last) ∷ row 64 16 (last_serial h.last) ∷ number_8 80 (last_kind h.last) ∷ number_8 81 (last_reason h.last) ∷ []

front_of : (h : Home) (block : List ℕ) → IsHome h → HasHome block h → h.version ≡ 1 → length block ≡ 512 → HasSizes block (sizes_of h)
front_of h block is has one long =
    let all : AllStand block (home_rows h) = subst (λ b. AllStand b (home_rows h)) has (home_stands h block is long) in
    laid_again 0 (size_rows 1 (sizes_of h)) block refl (refl, (refl, (refl, (refl, (refl, tt))))) long (rows_stand h block one all)

sizes_in : (h : Home) → IsHome h → IsSizes (sizes_of h)
sizes_in h is = record { blocks = is.blocks; slots = is.slots; ru_blocks = is.ru_blocks }

-- two files with one directory block have one name
name_in : (h : FileHead) (block : List ℕ) → IsHead h → head_block_of h ≡ block → until_zero (piece_at block 4 40) ≡ h.name
name_in h block is has =
    let form = (head_parts h block (head_stands h block is has)).form in
    ap until_zero form.1.1.1.1.0 ∙ until_padded 40 39 (95 ∷ 36 ∷ 46 ∷ []) h.name refl is.form.name

named_so : (o : Option FileHead) (h : FileHead) (block : List ℕ) → TellsEntry block o → TellsEntry block (Some h) → (other : FileHead) × (o ≡ Some other) × (other.name ≡ h.name)
named_so None h block t s =
    let free : piece_at block 0 1 ≡ 0 ∷ [] = ap (λ b. piece_at b 0 1) (sym t.bytes) ∙ refl in
    let full : piece_at block 0 1 ≡ 1 ∷ [] = (head_parts h block (head_stands h block s.ranges s.bytes)).form.0 in
    let none : ⊥ = cc in absurd none
named_so (Some other) h block t s = (other, refl, sym (name_in other block t.ranges t.bytes) ∙ name_in h block s.ranges s.bytes)

-- a catalog's own names are new in its content
names_new : (v : Catalog) (c : Content) (f : ℕ) (h : FileHead) → TellsCatalog v c → f < 64 → head_at v.heads f ≡ Some h → IsNew v.heads f (head_at v.heads f) → IsNamed v.home.greatest_moment.0 c f h
names_new v c f h tells within there new g other below told fits same =
    let found = named_so (head_at v.heads g) other (block_at c (1 + g)) (tells.heads g (omega arith)) told in
    let fresh : NewName v.heads f h.name = subst (IsNew v.heads f) there new in
    fresh g found.0 below found.1 (found.2 ∙ same)

-- all five conditions hold
pub sound_valid : (node : List ℕ) (c : Content) (v : Catalog) → TellsCatalog v c → IsSound node (length c + 518) v → length v.heads ≡ 64 → length (block_at c 0) ≡ 512 → IsValid node true c
sound_valid node c v tells sound long whole number block tested = record {
  front = λ _. record { sizes = sizes_of v.home; ranges = sizes_in v.home tells.ranges; stands = front };
  sized = λ _. record { sizes = sizes_of v.home; ranges = sizes_in v.home tells.ranges; stands = front; fit = sound.sizes; group = refl };
  owned = λ _. record { home = v.home; ranges = tells.ranges; stands = tells.home; fit = sound.home };
  listed = λ e. let at = tested.directory (omega arith) in let from = at.0 in let to = at.1 in
      let within : block - 519 < 64 = omega arith in
      record {
        home = v.home;
        ranges = tells.ranges;
        stands = tells.home;
        entry = head_at v.heads (block - 519);
        tells = tells.heads (block - 519) within;
        fits = sound.files (block - 519) within;
        named = λ h there. names_new v c (block - 519) h tells within there (sound.names (block - 519) within);
      };
  placed = λ e. let at = tested.directory (omega arith) in let from = at.0 in let to = at.1 in
      record { home = v.home; ranges = tells.ranges; stands = tells.home; heads = v.heads; count = long; tells = tells.heads; extents = λ i low high. sound.extents i (omega arith) };
}
  where
    front : HasSizes (block_at c 0) (sizes_of v.home)
    front = front_of v.home (block_at c 0) tells.ranges tells.home sound.version whole
