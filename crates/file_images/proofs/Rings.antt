-- A journal stands where the blocks of its ring do.
use Rattle.std.proofs.Common.{◌≡◌, ℕ, zero, suc, ◌+◌, ◌-◌, ◌%◌, ◌<◌, List, ◌∷◌, refl, ◌∙◌, ap, arith}
use Rattle.std.specs.Prelude.{slice_index}
use Rattle.std.proofs.lemmas.Nat.{mod_below, div-add-mod'}
use Rattle.unit_entries.specs.file_base.declared.head.Span.{Span}
use Rattle.unit_entries.specs.journal_model.Entries.{Entry}
use Rattle.unit_entries.specs.journal_model.Ring.{ring_size, block_of, place_of, byte_at, stream, IsJournal}
use Rattle.file_images.specs.Files.{SameRing}

block_within : (s : Span) (p : ℕ) → 0 < s.blocks → block_of s p < s.start - 518 + s.blocks
block_within s p some =
    let below = mod_below p (ring_size s) (omega (arith, some)) in
    let parts = div-add-mod' (p % ring_size s) 512 in
    omega (arith, below, parts)

byte_same : (s : Span) (a b : List (List ℕ)) (p : ℕ) → 0 < s.blocks → SameRing s a b → byte_at b s p ≡ byte_at a s p
byte_same s a b p some same = ap (λ (block : List ℕ). slice_index block (place_of s p)) (same.blocks (block_of s p) (omega arith) (block_within s p some))

stream_same : (n : ℕ) (s : Span) (a b : List (List ℕ)) (p : ℕ) → 0 < s.blocks → SameRing s a b → stream b s p n ≡ stream a s p n
stream_same zero s a b p some same = refl
stream_same (suc n) s a b p some same = λ i. byte_same s a b p some same i ∷ stream_same n s a b (p + 1) some same i

pub journal_stands : (s : Span) (a b : List (List ℕ)) (es : List Entry) → IsJournal a s es → SameRing s a b → IsJournal b s es
journal_stands s a b es is same = record {
  ring = record { some = is.ring.some; within = (let size = same.size in let lies = is.ring.within in omega (arith, size, lies)); whole = same.whole };
  order = is.order;
  room = is.room;
  spelled = stream_same (s.end - s.first) s a b s.first is.ring.some same ∙ is.spelled;
  each = is.each;
}
