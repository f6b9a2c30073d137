-- Each content has a sound volume or a condition that fails first.
use Rattle.std.proofs.Common.{◌≡◌, ◌⊎◌, inl, inr, ℕ, ◌<◌, ◌≤◌, ◌+◌, ◌/◌, List, Bool, length, get_or, drop, refl, sym, arith}
use Rattle.std.specs.Int.{to_le_bytes, w64}
use Rattle.std.specs.List.{All}
use Rattle.std.proofs.lemmas.Bool.{cases_lt}
use Rattle.std.proofs.lemmas.List.{get_or_past}
use Rattle.std.proofs.lemmas.List.Elements.{All-drop, All-get_or, All-take}
use Rattle.std.proofs.lemmas.Nat.{le_bytes_8}
use Rattle.careful_write.specs.block_disk.Blocks.{block_at}
use Rattle.file_base.specs.Bytes.{piece_at}
use Rattle.file_base.specs.declared.head.Span.{Span}
use Rattle.file_base.proofs.Splices.{length-piece_at}
use Rattle.volume_format.specs.declared.home.Home.{Home}
use Rattle.volume_format.specs.Home.{HasRu, ru_rows, sizes_of}
use Rattle.volume_format.proofs.Splices.{laid_again}
use Rattle.extents.specs.Extents.{FitsAt, all_extents}
use Rattle.volume.specs.declared.catalog.Catalog.{Catalog}
use Rattle.volume.specs.Limits.{data_area}
use Rattle.volume.specs.Contents.{IsContent, HasSound, HasFinding, SoundOrFinding}
use Rattle.volume.proofs.FirstFindings.{Homed, home_finding, listed_finding, placed_finding, loaded_of, sound_of}
use Rattle.volume.proofs.Deciding.{below}
use Rattle.volume.proofs.LimitsDecided.{fits_at}
use Rattle.volume.proofs.HomesDecided.{long_in, long_is, home_tried}
use Rattle.volume.proofs.EntriesDecided.{Read, heads_tried}

abbrev Content : Type 0
Content = List (List ℕ)

-- each byte of a block is below 256, and a place behind them reads as zero
small_at : (bytes : List ℕ) (i : ℕ) → All (λ b. b < 256) bytes → get_or bytes i 0 < 256
small_at bytes i all = elim (cases_lt i (length bytes)) [
  | inl within ↦ All-get_or (λ b. b < 256) bytes i 0 within all
  | inr past ↦ let e : get_or bytes i 0 ≡ 0 = get_or_past bytes i 0 past in omega (arith, e)
]

-- the eight bytes of a number are those of the number that is read of them
long_again : (block : List ℕ) (at : ℕ) → at + 8 ≤ length block → All (λ b. b < 256) block → piece_at block at 8 ≡ to_le_bytes w64 (long_in block at)
long_again block at within all =
    sym (le_bytes_8 (piece_at block at 8) (long_in block at) (length-piece_at block at 8 within) (λ i. small_at (piece_at block at 8) i (All-take (λ b. b < 256) 8 (drop at block) (All-drop (λ b. b < 256) at block all))) (long_is block at))

-- the journal whose positions a block tells
abbrev span_of : List ℕ → ℕ → ℕ → Span
span_of block start blocks = record { start = start; blocks = blocks; first = long_in block 0; end = long_in block 8 }

has_span : (block : List ℕ) (start blocks : ℕ) → length block ≡ 512 → All (λ b. b < 256) block → HasRu block (span_of block start blocks)
has_span block start blocks long all =
    laid_again 0 (ru_rows (record { start = start; blocks = blocks; first = long_in block 0; end = long_in block 8 })) block refl (refl, (refl, tt)) long
    (long_again block 0 (omega arith) all, (long_again block 8 (omega arith) all, tt))

module _ (node : List ℕ) (fits : Bool) (c : Content) (is : IsContent c) where
  front_is : (n : ℕ) → n < 66 → length (block_at c n) ≡ 512
  front_is n low = let enough = is.front in is.whole n (omega arith)

  -- the extents of all files fit
  sound : (home : Home) → Homed node fits c home → (read : Read home.greatest_moment.0 c 64) → ((k : ℕ) → k < 256 → FitsAt (data_area (sizes_of home)) (all_extents read.heads) k) → HasSound node fits c
  sound home homed read all =
      let enough = is.front in
      let v : Catalog = record { home = home; heads = read.heads; ru = span_of (block_at c 65) (584 + home.slots) home.ru_blocks } in
      let loaded = loaded_of node fits c v homed read.found read.long all (has_span (block_at c 65) (584 + home.slots) home.ru_blocks (front_is 65 (omega arith)) (is.bytes 65 (omega arith))) in
      record {
        group = homed.group;
        catalog = v;
        count = read.long;
        tells = loaded.tells;
        sound = sound_of node (length c + 518) v (record { version = homed.version; sizes = homed.sizes; fit = homed.fit }) (λ f within. record { fits = (read.found f within).fits; new = (read.found f within).new }) all refl refl;
      }

  -- the whole directory was found
  placed : (home : Home) → Homed node fits c home → Read home.greatest_moment.0 c 64 → HasSound node fits c ⊎ HasFinding node fits c
  placed home homed read = elim (below (λ i. FitsAt (data_area (sizes_of home)) (all_extents read.heads) i) (fits_at (data_area (sizes_of home)) (all_extents read.heads)) 256) [
    | inr first ↦ inr (record { number = 5; block = 519 + first.at / 4; first = placed_finding node fits c home read.heads first.at first.within homed read.found read.long first.misses first.lower })
    | inl all ↦ inl (sound home homed read all)
  ]

  listed : (home : Home) → Homed node fits c home → HasSound node fits c ⊎ HasFinding node fits c
  listed home homed = elim (heads_tried home.greatest_moment.0 c 64 (omega arith)) [
    | inl read ↦ placed home homed read
    | inr stop ↦ inr (record { number = 4; block = 519 + stop.at; first = listed_finding node fits c home stop.heads stop.at stop.within homed stop.found stop.misses })
  ]

  decided : HasSound node fits c ⊎ HasFinding node fits c
  decided = elim (home_tried node fits (length c + 518) (block_at c 0) (front_is 0 (omega arith))) [
    | inl h ↦ listed h.0 h.1
    | inr m ↦ inr (record { number = m.0; block = 518; first = home_finding node fits c m.0 m.1 })
  ]

pub sound_or_finding : SoundOrFinding
sound_or_finding = decided
