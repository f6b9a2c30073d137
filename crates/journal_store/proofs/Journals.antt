-- An entry more at the end of a journal.
use Rattle.std.proofs.Common.{◌≡◌, ◌≢◌, ℕ, zero, suc, ◌<◌, ◌≤◌, ◌+◌, ◌-◌, ◌*◌, ◌/◌, ◌%◌, List, [], ◌∷◌, ◌++◌, length, get_or, set, refl, sym, ◌∙◌, ap, arith, inl, inr, append_assoc}
use Rattle.std.specs.List.{flat_map, AllByRecursion}
use Rattle.std.proofs.Math.Nat.{div-add-mod', mul-le-mul_right}
use Rattle.std.proofs.lemmas.Nat.{mod_below}
use Rattle.std.proofs.lemmas.Bool.{cases_lt, cases_eq}
use Rattle.std.proofs.lemmas.List.{get_or-set_same, get_or-set_other, set_past, append-nil, length-set}
use Rattle.std.proofs.lemmas.List.Concat.{flat_map-cons}
use Rattle.careful_write.specs.block_disk.Blocks.{block_at}
use Rattle.journal_format.specs.journal_model.Entries.{Entry, IsEntry, spelling}
use Rattle.journal_format.specs.journal_model.Ring.{ring_size, block_of, place_of, byte_at, stream, put_byte, put_stream, HasRing, IsJournal, KeepsOthers}
use Rattle.file_base.specs.declared.head.Span.{Span}

-- two positions that are less than a ring apart lie at two places
pub mod_apart : (q p size : ℕ) → q < p → p < q + size → p % size ≢ q % size
mod_apart q p size less near = λ same.
    let a : p / size * size + p % size ≡ p = div-add-mod' p size in
    let b : q / size * size + q % size ≡ q = div-add-mod' q size in
    elim (cases_lt (q / size) (p / size)) [
      | inl lt ↦ let more : (q / size + 1) * size ≤ p / size * size = mul-le-mul_right size (omega arith) in omega arith
      | inr le ↦ let more : p / size * size ≤ q / size * size = mul-le-mul_right size le in omega arith
    ]

block_put_other : (c : List (List ℕ)) (s : Span) (p b n : ℕ) → n ≢ block_of s p → block_at (put_byte c s p b) n ≡ block_at c n
block_put_other c s p b n not = get_or-set_other c (block_of s p) n _ [] not

pub byte_put_other : (c : List (List ℕ)) (s : Span) (p q b : ℕ) → p % ring_size s ≢ q % ring_size s → byte_at (put_byte c s p b) s q ≡ byte_at c s q
byte_put_other c s p q b not = elim (cases_eq (block_of s q) (block_of s p)) [
  | inr other ↦ ap (λ (x : List ℕ). get_or x (place_of s q) 0) (block_put_other c s p b (block_of s q) other)
  | inl same ↦
      let apart : place_of s q ≢ place_of s p = λ (x : place_of s q ≡ place_of s p). not (omega arith) in
      elim (cases_lt (block_of s p) (length c)) [
        | inl lt ↦ ap (λ (n : ℕ). get_or (block_at (put_byte c s p b) n) (place_of s q) 0) same ∙ ap (λ (x : List ℕ). get_or x (place_of s q) 0) (get_or-set_same c (block_of s p) _ [] lt) ∙ get_or-set_other (block_at c (block_of s p)) (place_of s p) (place_of s q) b 0 apart ∙ ap (λ (n : ℕ). get_or (block_at c n) (place_of s q) 0) (sym same)
        | inr le ↦ ap (λ (x : List (List ℕ)). byte_at x s q) (set_past c (block_of s p) _ le)
      ]
]

in_ring : (c : List (List ℕ)) (s : Span) (p : ℕ) → HasRing c s → block_of s p < length c
in_ring c s p ring = let below : p % ring_size s < ring_size s = mod_below p (ring_size s) (omega (arith, ring.some)) in omega (arith, ring.within)

pub byte_put_same : (c : List (List ℕ)) (s : Span) (p b : ℕ) → HasRing c s → byte_at (put_byte c s p b) s p ≡ b
byte_put_same c s p b ring =
    let here = in_ring c s p ring in
    ap (λ (x : List ℕ). get_or x (place_of s p) 0) (get_or-set_same c (block_of s p) _ [] here) ∙ get_or-set_same (block_at c (block_of s p)) (place_of s p) b 0 (omega (arith, ring.whole (block_of s p) here))

ring_put : (c : List (List ℕ)) (s : Span) (p b : ℕ) → HasRing c s → HasRing (put_byte c s p b) s
ring_put c s p b ring =
    let here = in_ring c s p ring in
    let size = length-set c (block_of s p) (set (block_at c (block_of s p)) (place_of s p) b) in
    record {
      some = ring.some;
      within = omega (arith, size, ring.within);
      whole = λ n lt. elim (cases_eq n (block_of s p)) [
        | inl same ↦ ap (λ (k : ℕ). length (block_at (put_byte c s p b) k)) same ∙ ap length (get_or-set_same c (block_of s p) _ [] here) ∙ length-set _ _ _ ∙ ring.whole (block_of s p) here
        | inr other ↦ ap length (block_put_other c s p b n other) ∙ ring.whole n (omega (arith, size))
      ];
    }

pub ring_stream : (bs : List ℕ) (c : List (List ℕ)) (s : Span) (p : ℕ) → HasRing c s → HasRing (put_stream c s p bs) s
ring_stream [] c s p ring = ring
ring_stream (b ∷ bs) c s p ring = ring_stream bs (put_byte c s p b) s (p + 1) (ring_put c s p b ring)

byte_before : (bs : List ℕ) (c : List (List ℕ)) (s : Span) (p q : ℕ) → q < p → p + length bs ≤ q + ring_size s → byte_at (put_stream c s p bs) s q ≡ byte_at c s q
byte_before [] c s p q less near = refl
byte_before (b ∷ bs) c s p q less near = byte_before bs (put_byte c s p b) s (p + 1) q (omega arith) (omega arith) ∙ byte_put_other c s p q b (mod_apart q p (ring_size s) less (omega arith))

-- what stands before the new bytes stays
pub stream_before : (n : ℕ) (bs : List ℕ) (c : List (List ℕ)) (s : Span) (p a : ℕ) → a + n ≤ p → p + length bs ≤ a + ring_size s → stream (put_stream c s p bs) s a n ≡ stream c s a n
stream_before zero bs c s p a less near = refl
stream_before (suc n) bs c s p a less near =
    let first = byte_before bs c s p a (omega arith) near in
    let rest = stream_before n bs c s p (a + 1) (omega arith) (omega arith) in
    λ i. first i ∷ rest i

-- and the new bytes stand there
pub stream_here : (bs : List ℕ) (c : List (List ℕ)) (s : Span) (p : ℕ) → HasRing c s → length bs ≤ ring_size s → stream (put_stream c s p bs) s p (length bs) ≡ bs
stream_here [] c s p ring room = refl
stream_here (b ∷ bs) c s p ring room =
    let first = byte_before bs (put_byte c s p b) s (p + 1) p (omega arith) (omega arith) ∙ byte_put_same c s p b ring in
    let rest = stream_here bs (put_byte c s p b) s (p + 1) (ring_put c s p b ring) (omega arith) in
    λ i. first i ∷ rest i

pub stream-add : (m n : ℕ) (c : List (List ℕ)) (s : Span) (a : ℕ) → stream c s a (m + n) ≡ stream c s a m ++ stream c s (a + m) n
stream-add zero n c s a = (let e : zero + n ≡ n = omega arith in ap (stream c s a) e) ∙ ap (λ (k : ℕ). stream c s k n) (let e : a ≡ a + 0 = omega arith in e)
stream-add (suc m) n c s a =
    (let e : suc m + n ≡ suc (m + n) = omega arith in ap (stream c s a) e)
    ∙ ap (λ (x : List ℕ). byte_at c s a ∷ x) (stream-add m n c s (a + 1) ∙ ap (λ (k : ℕ). stream c s (a + 1) m ++ stream c s k n) (let e : a + 1 + m ≡ a + suc m = omega arith in e))

-- the end of the span does not count
stream_end : (n : ℕ) (c : List (List ℕ)) (s : Span) (end a : ℕ) → stream c (record s { end = end }) a n ≡ stream c s a n
stream_end zero c s end a = refl
stream_end (suc n) c s end a = ap (λ (x : List ℕ). byte_at c s a ∷ x) (stream_end n c s end (a + 1))

spelled_more : (es : List Entry) (e : Entry) → flat_map spelling (es ++ e ∷ []) ≡ flat_map spelling es ++ spelling e
spelled_more [] e = flat_map-cons spelling e [] ∙ append-nil (spelling e)
spelled_more (x ∷ es) e = flat_map-cons spelling x (es ++ e ∷ []) ∙ ap (λ (l : List ℕ). spelling x ++ l) (spelled_more es e) ∙ sym (append_assoc (spelling x) (flat_map spelling es) (spelling e)) ∙ ap (λ (l : List ℕ). l ++ spelling e) (sym (flat_map-cons spelling x es))

each_more : (es : List Entry) (e : Entry) → AllByRecursion IsEntry es → IsEntry e → AllByRecursion IsEntry (es ++ e ∷ [])
each_more [] e each is = (is, tt)
each_more (x ∷ es) e each is = (each.0, each_more es e each.1 is)

pub appended : (c : List (List ℕ)) (s : Span) (es : List Entry) (e : Entry) → IsJournal c s es → IsEntry e → s.end - s.first + length (spelling e) ≤ ring_size s → IsJournal (put_stream c s s.end (spelling e)) (record s { end = s.end + length (spelling e) }) (es ++ e ∷ [])
appended c s es e j is room =
    let bs : List ℕ = spelling e in
    let new : List (List ℕ) = put_stream c s s.end bs in
    let ring = ring_stream bs c s s.end j.ring in
    let size : s.end + length bs - s.first ≡ s.end - s.first + length bs = omega (arith, j.order) in
    let meets : s.first + (s.end - s.first) ≡ s.end = omega (arith, j.order) in
    record {
      ring = record { some = ring.some; within = ring.within; whole = ring.whole };
      order = omega (arith, j.order);
      room = omega arith;
      spelled = stream_end _ new s (s.end + length bs) s.first ∙ ap (stream new s s.first) size ∙ stream-add (s.end - s.first) (length bs) new s s.first
          ∙ ap (λ (x : List ℕ). x ++ stream new s (s.first + (s.end - s.first)) (length bs)) (stream_before (s.end - s.first) bs c s s.end s.first (omega (arith, j.order)) (omega (arith, j.order)) ∙ j.spelled)
          ∙ ap (λ (k : ℕ). flat_map spelling es ++ stream new s k (length bs)) meets
          ∙ ap (λ (x : List ℕ). flat_map spelling es ++ x) (stream_here bs c s s.end j.ring (omega arith)) ∙ sym (spelled_more es e);
      each = each_more es e j.each is;
    }

-- only blocks of the ring are written
pub keeps_others : (bs : List ℕ) (c : List (List ℕ)) (s : Span) (p : ℕ) → 0 < s.blocks → KeepsOthers s c (put_stream c s p bs)
keeps_others [] c s p some = record { size = refl; others = λ n out. refl }
keeps_others (b ∷ bs) c s p some =
    let later = keeps_others bs (put_byte c s p b) s (p + 1) some in
    let below : p % ring_size s < ring_size s = mod_below p (ring_size s) (omega arith) in
    record {
      size = later.size ∙ length-set _ _ _;
      others = λ n out. later.others n out ∙ block_put_other c s p b n (λ (x : n ≡ block_of s p). elim out [ inl lt ↦ omega arith | inr le ↦ omega arith ]);
    }

-- bytes behind the end are not in the journal
pub written_behind : (c : List (List ℕ)) (s : Span) (es : List Entry) (p : ℕ) (bs : List ℕ) → IsJournal c s es → s.end ≤ p → p + length bs ≤ s.first + ring_size s → IsJournal (put_stream c s p bs) s es
written_behind c s es p bs j far room = record {
  ring = ring_stream bs c s p j.ring;
  order = j.order;
  room = j.room;
  spelled = stream_before (s.end - s.first) bs c s p s.first (omega (arith, j.order)) room ∙ j.spelled;
  each = j.each;
}
