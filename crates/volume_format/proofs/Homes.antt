-- The home block is read as it was written.
use Rattle.std.proofs.Common.{◌≡◌, ℕ, ◌<◌, ◌^◌, List, [], ◌∷◌, length, arith, refl, ◌∙◌, ap, sym, Some, None, Option, subst}
use Rattle.std.specs.Int.{to_le_bytes, from_le_bytes, w32, w64}
use Rattle.std.proofs.lemmas.Nat.{from_le_bytes-to_le_bytes_4}
use Rattle.file_base.specs.vms_model.Ids.{padded}
use Rattle.file_base.specs.vms_base.Ids.{tid_of, serial_of}
use Rattle.volume_format.specs.declared.home.Home.{Home}
use Rattle.volume_format.specs.declared.home.Settled.{Settled}
use Rattle.file_base.specs.Bytes.{piece_at}
use Rattle.volume_format.specs.Layout.{Row, laid, AllWide, AllStand, row_at}
use Rattle.volume_format.specs.declared.home.Sizes.{Sizes}
use Rattle.volume_format.specs.Home.{home_rows, size_rows, sizes_of, IsSizes, HasSizes, IsHome, IsLast, HasHome, last_tid, last_serial, last_kind, last_reason}
use Rattle.volume_format.proofs.Splices.{laid_read, laid_stand, laid_again, length-laid}
use Rattle.volume_format.proofs.Names.{length-padded, length-id_bytes}

tid_wide : (last : Option Settled) → IsLast last → length (last_tid last) ≡ 16
tid_wide None h = refl
tid_wide (Some s) h = length-id_bytes (tid_of s.tid) h.0

serial_wide : (last : Option Settled) → IsLast last → length (last_serial last) ≡ 16
serial_wide None h = refl
serial_wide (Some s) h = length-id_bytes (serial_of s.serial) h.1

-- each field is as wide as the table says
pub home_wide : (h : Home) → IsHome h → AllWide (home_rows h)
unfolding home_rows
home_wide h is = (
  refl,
  (
    refl,
    (
      refl,
      (
        refl,
        (
          refl,
          (
            length-padded 8 6 [] h.node (omega arith) is.node,
            (
              refl,
              (
                refl,
                (tid_wide h.last is.last, (serial_wide h.last is.last, (refl, (refl, tt)))),
              ),
            ),
          ),
        ),
      ),
    ),
  ),
)

-- the fields that a block with a home has
pub record Fields (block : List ℕ) (h : Home) : Type 0 where
  pub version : piece_at block 8 4 ≡ to_le_bytes w32 h.version
  pub blocks : piece_at block 12 4 ≡ to_le_bytes w32 h.blocks
  pub slots : piece_at block 16 4 ≡ to_le_bytes w32 h.slots
  pub ru_blocks : piece_at block 20 4 ≡ to_le_bytes w32 h.ru_blocks
  pub node : piece_at block 24 8 ≡ padded 8 h.node
  pub boot : piece_at block 32 4 ≡ to_le_bytes w32 h.boot
  pub greatest_moment : piece_at block 40 8 ≡ to_le_bytes w64 h.greatest_moment.0
  pub tid : piece_at block 48 16 ≡ last_tid h.last
  pub serial : piece_at block 64 16 ≡ last_serial h.last
  pub kind : piece_at block 80 1 ≡ last_kind h.last ∷ []
  pub reason : piece_at block 81 1 ≡ last_reason h.last ∷ []

one_field : (h : Home) (block : List ℕ) (n : ℕ) (r : Row) → row_at n (home_rows h) ≡ Some r → IsHome h → length block ≡ 512 → HasHome block h → piece_at block r.at r.wide ≡ r.bytes
unfolding home_rows
one_field h block n r at is long has =
    ap (λ b. piece_at b r.at r.wide) (sym has) ∙ laid_read 0 n (home_rows h) block r at refl (home_wide h is) long

pub home_fields : (h : Home) (block : List ℕ) → IsHome h → length block ≡ 512 → HasHome block h → Fields block h
unfolding home_rows
home_fields h block is long has = record {
  version = one_field h block 1 _ refl is long has;
  blocks = one_field h block 2 _ refl is long has;
  slots = one_field h block 3 _ refl is long has;
  ru_blocks = one_field h block 4 _ refl is long has;
  node = one_field h block 5 _ refl is long has;
  boot = one_field h block 6 _ refl is long has;
  greatest_moment = one_field h block 7 _ refl is long has;
  tid = one_field h block 8 _ refl is long has;
  serial = one_field h block 9 _ refl is long has;
  kind = one_field h block 10 _ refl is long has;
  reason = one_field h block 11 _ refl is long has;
}

-- what is read of a block with a home is that home
pub same_home : (h : Home) (version blocks slots ru_blocks boot moment : ℕ) (node : List ℕ) (last : Option Settled)
    → version ≡ h.version → blocks ≡ h.blocks → slots ≡ h.slots → ru_blocks ≡ h.ru_blocks → Some node ≡ Some h.node → boot ≡ h.boot → moment ≡ h.greatest_moment.0 → Some last ≡ Some h.last
    → Some (record { version = version; blocks = blocks; slots = slots; ru_blocks = ru_blocks; node = node; boot = boot; greatest_moment = record { 0 = moment }; last = last }) ≡ Some h
same_home h version blocks slots ru_blocks boot moment node last v b s r n t m l =
    let n2 : node ≡ h.node = cc in
    let l2 : last ≡ h.last = cc in
    rw (v, b, s, r, n2, t, m, l2) refl

-- each field of a home stands where it was written
pub home_stands : (h : Home) (block : List ℕ) → IsHome h → length block ≡ 512 → AllStand (laid (home_rows h) block) (home_rows h)
unfolding home_rows
home_stands h block is long = laid_stand 0 (home_rows h) block refl (home_wide h is) long

-- a block that a home was written into has this home
pub home_written : (h : Home) (block : List ℕ) → IsHome h → length block ≡ 512 → HasHome (laid (home_rows h) block) h
unfolding home_rows
home_written h block is long =
    laid_again 0 (home_rows h) (laid (home_rows h) block) refl (home_wide h is) (length-laid 0 (home_rows h) block refl (home_wide h is) long) (home_stands h block is long)

-- the fields of the front
pub record SizeFields (block : List ℕ) (s : Sizes) : Type 0 where
  pub version : piece_at block 8 4 ≡ to_le_bytes w32 1
  pub blocks : piece_at block 12 4 ≡ to_le_bytes w32 s.blocks
  pub slots : piece_at block 16 4 ≡ to_le_bytes w32 s.slots
  pub ru_blocks : piece_at block 20 4 ≡ to_le_bytes w32 s.ru_blocks

pub size_fields : (s : Sizes) (block : List ℕ) → length block ≡ 512 → HasSizes block s → SizeFields block s
size_fields s block long has =
    let all : AllStand block (size_rows 1 s) = subst (λ b. AllStand b (size_rows 1 s)) has (laid_stand 0 (size_rows 1 s) block refl (refl, (refl, (refl, (refl, (refl, tt))))) long) in
    record { version = all.1.0; blocks = all.1.1.0; slots = all.1.1.1.0; ru_blocks = all.1.1.1.1.0 }

pub same_sizes : (s : Sizes) (blocks slots ru_blocks : ℕ) → blocks ≡ s.blocks → slots ≡ s.slots → ru_blocks ≡ s.ru_blocks → record { blocks = blocks; slots = slots; ru_blocks = ru_blocks } ≡ s
same_sizes s blocks slots ru_blocks b l r = rw (b, l, r) refl

-- a number is told by its four bytes
same_word : (a b : ℕ) (bytes : List ℕ) → a < 2 ^ 32 → b < 2 ^ 32 → bytes ≡ to_le_bytes w32 a → bytes ≡ to_le_bytes w32 b → a ≡ b
same_word a b bytes less fewer is has =
    sym (from_le_bytes-to_le_bytes_4 a less) ∙ ap (from_le_bytes w32) (sym is ∙ has) ∙ from_le_bytes-to_le_bytes_4 b fewer

pub sizes_of_home : (h : Home) (s : Sizes) (block : List ℕ) → IsHome h → IsSizes s → length block ≡ 512 → HasHome block h → HasSizes block s → s ≡ sizes_of h
sizes_of_home h s block is in_range long has fronts =
    let f = home_fields h block is long has in
    let g = size_fields s block long fronts in
    sym (same_sizes s h.blocks h.slots h.ru_blocks
    (same_word h.blocks s.blocks _ is.blocks in_range.blocks f.blocks g.blocks)
    (same_word h.slots s.slots _ is.slots in_range.slots f.slots g.slots)
    (same_word h.ru_blocks s.ru_blocks _ is.ru_blocks in_range.ru_blocks f.ru_blocks g.ru_blocks))

pub version_of_home : (h : Home) (s : Sizes) (block : List ℕ) → IsHome h → length block ≡ 512 → HasHome block h → HasSizes block s → h.version ≡ 1
version_of_home h s block is long has fronts = same_word h.version 1 _ is.version (omega arith) (home_fields h block is long has).version (size_fields s block long fronts).version
