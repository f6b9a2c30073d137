-- What is read of a ring, and the entry that it is.
use Rattle.std.proofs.Common.{◌≡◌, ℕ, zero, suc, ◌<◌, ◌≤◌, ◌+◌, ◌-◌, ◌*◌, ◌%◌, List, [], ◌∷◌, ◌++◌, length, get_or, take, refl, sym, ◌∙◌, ap, subst, arith, inl, inr, Option, Some, None, IfSome}
use Rattle.std.proofs.lemmas.Bool.{cases_lt}
use Rattle.std.proofs.lemmas.List.{get_or-take, length-take-le, length-take, take_at, append-nil}
use Rattle.file_base.specs.declared.head.Span.{Span}
use Rattle.careful_write.specs.block_disk.Blocks.{block_at}
use Rattle.journal_format.specs.journal_model.Entries.{Entry, IsEntry, spelling, total}
use Rattle.journal_format.specs.journal_model.Ring.{ring_size, block_of, place_of, byte_at, stream, StandsAt}
use Rattle.journal_format.proofs.Decoding.{entry_size, total_is}
use Rattle.journal_format.specs.Heads.{entry_of, IsPlain}
use Rattle.journal_format.specs.declared.head.EntryHead.{EntryHead}
use Rattle.journal_store.specs.Reading.{Holds, told_size, ReadsAt}
use Rattle.journal_store.proofs.Streams.{goes_on}
use Rattle.journal_store.proofs.Journals.{stream-add}
use Rattle.journal_store.proofs.EntriesAt.{length-stream}

-- bytes of one block more
pub held_more : (c : List (List ℕ)) (s : Span) (p done count k o n : ℕ) (out new : List ℕ) → (p + done) % ring_size s ≡ 512 * k + o → k < s.blocks → o + count ≤ 512 → n ≡ s.start - 518 + k
    → ((i : ℕ) → i < done → get_or new i 0 ≡ get_or out i 0) → ((i : ℕ) → i < count → get_or new (done + i) 0 ≡ get_or (block_at c n) (o + i) 0)
    → Holds s p done out c → Holds s p (done + count) new c
held_more c s p done count k o n out new at within room is before here held i lt = elim (cases_lt i done) [
  | inl less ↦ before i less ∙ held i less
  | inr le ↦
      let j : ℕ = i - done in
      let i-is : done + j ≡ i = omega arith in
      let near : j < count = omega arith in
      let fits : 512 * k + o + j < ring_size s = omega arith in
      let there : p + done + j ≡ p + i = omega arith in
      let far : (p + i) % ring_size s ≡ 512 * k + o + j = ap (λ (q : ℕ). q % ring_size s) (sym there) ∙ goes_on (p + done) (ring_size s) (512 * k + o) j at fits in
      let block : block_of s (p + i) ≡ n = omega (arith, far) in
      let place : place_of s (p + i) ≡ o + j = omega (arith, far) in
      ap (λ (q : ℕ). get_or new q 0) (sym i-is) ∙ here j near ∙ ap (λ (q : ℕ). get_or (block_at c n) q 0) (sym place) ∙ ap (λ (q : ℕ). get_or (block_at c q) (place_of s (p + i)) 0) (sym block)
]

-- the step where the content is told, and where it is not
held_told : (told : Option (List (List ℕ))) (s : Span) (p from done count k o n : ℕ) (first out new : List ℕ) → (p + done) % ring_size s ≡ 512 * k + o → k < s.blocks → o + count ≤ 512 → n ≡ s.start - 518 + k
    → ((i : ℕ) → i < done → get_or new i 0 ≡ get_or out i 0) → IfSome told (λ c. (i : ℕ) → i < count → get_or new (done + i) 0 ≡ get_or (block_at c n) (o + i) 0)
    → IfSome told (λ c. Holds s p from first c → Holds s p done out c) → IfSome told (λ c. Holds s p from first c → Holds s p (done + count) new c)
held_told None s p from done count k o n first out new at within room is before here held = tt
held_told (Some c) s p from done count k o n first out new at within room is before here held = λ start. held_more c s p done count k o n out new at within room is before here (held start)

pub held_step : (told now : Option (List (List ℕ))) (s : Span) (p from done count k o n : ℕ) (first out new : List ℕ) → now ≡ told → (p + done) % ring_size s ≡ 512 * k + o → k < s.blocks → o + count ≤ 512 → n ≡ s.start - 518 + k
    → ((i : ℕ) → i < done → get_or new i 0 ≡ get_or out i 0) → IfSome now (λ c. (i : ℕ) → i < count → get_or new (done + i) 0 ≡ get_or (block_at c n) (o + i) 0)
    → IfSome told (λ c. Holds s p from first c → Holds s p done out c) → IfSome told (λ c. Holds s p from first c → Holds s p (done + count) new c)
held_step told now s p from done count k o n first out new same at within room is before here held =
    held_told told s p from done count k o n first out new at within room is before (subst (λ (t : Option (List (List ℕ))). IfSome t (λ c. (i : ℕ) → i < count → get_or new (done + i) 0 ≡ get_or (block_at c n) (o + i) 0)) same here) held

-- bytes that are held are the stream
holds_stream : (n : ℕ) (c : List (List ℕ)) (s : Span) (p : ℕ) (bytes : List ℕ) → length bytes ≡ n → Holds s p n bytes c → bytes ≡ stream c s p n
holds_stream zero c s p [] size h = refl
holds_stream zero c s p (b ∷ bs) size h = absurd (omega arith)
holds_stream (suc n) c s p [] size h = absurd (omega arith)
holds_stream (suc n) c s p (b ∷ bs) size h =
    let first : b ≡ byte_at c s p = h 0 (omega arith) ∙ ap (byte_at c s) (let e : p + 0 ≡ p = omega arith in e) in
    let rest = holds_stream n c s (p + 1) bs (omega arith) (λ i lt. h (suc i) (omega arith) ∙ ap (byte_at c s) (let e : p + suc i ≡ p + 1 + i = omega arith in e)) in
    λ k. first k ∷ rest k

stream_at : (n i : ℕ) (c : List (List ℕ)) (s : Span) (p : ℕ) → i < n → get_or (stream c s p n) i 0 ≡ byte_at c s (p + i)
stream_at zero i c s p lt = absurd (omega arith)
stream_at (suc n) zero c s p lt = ap (byte_at c s) (let e : p ≡ p + 0 = omega arith in e)
stream_at (suc n) (suc i) c s p lt = stream_at n i c s (p + 1) (omega arith) ∙ ap (byte_at c s) (let e : p + 1 + i ≡ p + suc i = omega arith in e)

stream_front : (n size : ℕ) (c : List (List ℕ)) (s : Span) (p : ℕ) → n ≤ size → take n (stream c s p size) ≡ stream c s p n
stream_front n size c s p le =
    let parts : size ≡ n + (size - n) = omega arith in
    ap (λ (k : ℕ). take n (stream c s p k)) parts ∙ ap (take n) (stream-add n (size - n) c s p) ∙ take_at (stream c s p n) (stream c s (p + n) (size - n)) n (length-stream n c s p)

-- what was read, as far as it tells its length
pub front_is : (c : List (List ℕ)) (s : Span) (p size : ℕ) (bytes : List ℕ) → size ≤ length bytes → Holds s p size bytes c → take size bytes ≡ stream c s p size
front_is c s p size bytes le held = holds_stream size c s p (take size bytes) (length-take-le size bytes le) (λ i lt. get_or-take size bytes i 0 lt ∙ held i lt)

-- an entry that was decoded stands there
pub decoded_stands : (c : List (List ℕ)) (s : Span) (p size n : ℕ) (bytes : List ℕ) (e : Entry) → size ≤ length bytes → Holds s p size bytes c → n ≡ length (spelling e) → take n (take size bytes) ≡ spelling e → StandsAt s p e c
decoded_stands c s p size n bytes e le held size-is spelled =
    let near : n ≤ size = omega (arith, size-is, ap length spelled, length-take n (take size bytes), length-take size bytes) in
    record { bytes = ap (stream c s p) (sym size-is) ∙ sym (stream_front n size c s p near) ∙ ap (take n) (sym (front_is c s p size bytes le held)) ∙ spelled }

-- the length that the front of an entry tells is its own
told_is : (c : List (List ℕ)) (s : Span) (p : ℕ) (first : List ℕ) (e : Entry) → IsEntry e → StandsAt s p e c → Holds s p 48 first c → told_size first ≡ length (spelling e)
told_is c s p first e is stands held =
    let size = entry_size e is in
    let whole = total_is e is in
    let at : (i : ℕ) → i < 48 → get_or first i 0 ≡ get_or (spelling e) i 0 = λ i lt. held i lt ∙ sym (stream_at (length (spelling e)) i c s p (omega arith)) ∙ ap (λ (x : List ℕ). get_or x i 0) stands.bytes in
    let six = at 6 (omega arith) in
    let seven = at 7 (omega arith) in
    let n : ℕ = total (length e.key) (length e.image) in
    omega (arith, six, seven, size.0, size.1, whole)

-- an entry that stands there is what was read
pub stands_read : (c : List (List ℕ)) (s : Span) (p size : ℕ) (first bytes : List ℕ) (e : Entry) → IsEntry e → StandsAt s p e c → Holds s p 48 first c → size ≡ told_size first → size ≤ length bytes → Holds s p size bytes c → take size bytes ≡ spelling e ++ []
stands_read c s p size first bytes e is stands front told le held =
    let same : size ≡ length (spelling e) = told ∙ told_is c s p first e is stands front in
    front_is c s p size bytes le held ∙ ap (stream c s p) same ∙ stands.bytes ∙ sym (append-nil (spelling e))

module _ (s : Span) (p size : ℕ) (zeros first bytes image : List ℕ) (told now : Option (List (List ℕ))) (same : now ≡ told)
    (head : IfSome told (λ c. Holds s p 0 zeros c → Holds s p 48 first c)) (is : size ≡ told_size first) (le : size ≤ length bytes)
    (rest : IfSome now (λ c. Holds s p 48 first c → Holds s p size bytes c)) where
  both : IfSome told (λ c. Holds s p 48 first c × Holds s p size bytes c)
  both = step told head (subst (λ (t : Option (List (List ℕ))). IfSome t (λ c. Holds s p 48 first c → Holds s p size bytes c)) same rest)
    where
      step : (t : Option (List (List ℕ))) → IfSome t (λ c. Holds s p 0 zeros c → Holds s p 48 first c) → IfSome t (λ c. Holds s p 48 first c → Holds s p size bytes c) → IfSome t (λ c. Holds s p 48 first c × Holds s p size bytes c)
      step None h k = tt
      step (Some c) h k = let f = h (λ i lt. absurd (omega arith)) in (f, k f)

  -- an entry was read
  pub read_some : (e : EntryHead) (n : ℕ) → IsEntry (entry_of e image) → n ≡ length (spelling (entry_of e image)) → take n (take size bytes) ≡ spelling (entry_of e image) → IsPlain e image
      → ((x : Entry) (more : List ℕ) → IsEntry x → take size bytes ≡ spelling x ++ more → (entry_of e image ≡ x) × (n ≡ length (spelling x))) → IfSome told (ReadsAt s p (Some (e, p + n)) image)
  read_some e n entry long spelled plain only = step told both
    where
      step : (t : Option (List (List ℕ))) → IfSome t (λ c. Holds s p 48 first c × Holds s p size bytes c) → IfSome t (ReadsAt s p (Some (e, p + n)) image)
      step None h = tt
      step (Some c) h = record {
        is = entry;
        plain = plain;
        stands = decoded_stands c s p size n bytes (entry_of e image) le h.1 long spelled;
        behind = ap (λ (k : ℕ). p + k) long;
        only = λ x is-x stands. (only x [] is-x (stands_read c s p size first bytes x is-x stands h.0 is le h.1)).0;
      }

  -- no entry stands there
  pub read_none : ((x : Entry) (more : List ℕ) → IsEntry x → take size bytes ≡ spelling x ++ more → ⊥) → IfSome told (ReadsAt s p None image)
  read_none only = step told both
    where
      step : (t : Option (List (List ℕ))) → IfSome t (λ c. Holds s p 48 first c × Holds s p size bytes c) → IfSome t (ReadsAt s p None image)
      step None h = tt
      step (Some c) h = λ x is-x stands. only x [] is-x (stands_read c s p size first bytes x is-x stands h.0 is le h.1)
