-- Bytes in the ring, block by block.
use Rattle.std.proofs.Common.{◌≡◌, ℕ, suc, ◌<◌, ◌≤◌, ◌+◌, ◌-◌, ◌*◌, ◌%◌, List, [], ◌∷◌, ◌++◌, length, take, drop, set, refl, sym, ◌∙◌, ap, subst, arith, inl, inr, Option, Some, None, option_map}
use Rattle.std.proofs.Math.Seq.{set-set}
use Rattle.std.proofs.Math.Nat.{mod-add-mod, mod-eq_of_lt, mod_self}
use Rattle.std.proofs.lemmas.Bool.{cases_lt}
use Rattle.std.proofs.lemmas.List.{set-get_or, get_or-set_same, set_past, take-append-drop, drop-drop, length-take-le, length-drop}
use Rattle.careful_write.specs.block_disk.Blocks.{block_at}
use Rattle.journal_format.specs.journal_model.Ring.{ring_size, block_of, place_of, put_bytes, put_byte, put_stream}
use Rattle.file_base.specs.declared.head.Span.{Span}

pub put_stream-append : (xs ys : List ℕ) (c : List (List ℕ)) (s : Span) (p : ℕ) → put_stream c s p (xs ++ ys) ≡ put_stream (put_stream c s p xs) s (p + length xs) ys
put_stream-append [] ys c s p = ap (λ (k : ℕ). put_stream c s k ys) (let e : p ≡ p + 0 = omega arith in e)
put_stream-append (x ∷ xs) ys c s p =
    put_stream-append xs ys (put_byte c s p x) s (p + 1) ∙ ap (λ (k : ℕ). put_stream (put_stream (put_byte c s p x) s (p + 1) xs) s k ys) (let e : p + 1 + length xs ≡ p + suc (length xs) = omega arith in e)

pub goes_on : (p size r n : ℕ) → p % size ≡ r → r + n < size → (p + n) % size ≡ r + n
goes_on p size r n is less = sym (mod-add-mod p size n) ∙ ap (λ (k : ℕ). (k + n) % size) is ∙ mod-eq_of_lt less

pub wraps : (p size r n : ℕ) → p % size ≡ r → r + n ≡ size → (p + n) % size ≡ 0
wraps p size r n is whole = sym (mod-add-mod p size n) ∙ ap (λ (k : ℕ). (k + n) % size) is ∙ ap (λ (k : ℕ). k % size) whole ∙ mod_self size

-- one byte more within a block
chunk_step : (b : ℕ) (bs : List ℕ) (c : List (List ℕ)) (s : Span) (p k o n : ℕ) → p % ring_size s ≡ 512 * k + o → k < s.blocks → o < 512 → n ≡ s.start - 518 + k
    → (let c1 : List (List ℕ) = set c n (set (block_at c n) o b) in set c1 n (put_bytes (o + 1) bs (block_at c1 n)) ≡ put_stream c1 s (p + 1) bs)
    → set c n (put_bytes o (b ∷ bs) (block_at c n)) ≡ put_stream c s p (b ∷ bs)
chunk_step b bs c s p k o n at within room is later =
    let block : block_of s p ≡ n = omega (arith, at) in
    let place : place_of s p ≡ o = omega (arith, at) in
    let c1 : List (List ℕ) = set c n (set (block_at c n) o b) in
    let first : put_byte c s p b ≡ c1 = rw (block, place) refl in
    let same : set c n (put_bytes (o + 1) bs (set (block_at c n) o b)) ≡ set c1 n (put_bytes (o + 1) bs (block_at c1 n)) = elim (cases_lt n (length c)) [
      | inl lt ↦ ap (λ (x : List ℕ). set c n (put_bytes (o + 1) bs x)) (sym (get_or-set_same c n (set (block_at c n) o b) [] lt)) ∙ sym (set-set c n (set (block_at c n) o b) (put_bytes (o + 1) bs (block_at c1 n)))
      | inr le ↦
          let c1-is : c1 ≡ c = set_past c n (set (block_at c n) o b) le in
          set_past c n _ le ∙ sym (ap (λ (x : List (List ℕ)). set x n (put_bytes (o + 1) bs (block_at c1 n))) c1-is ∙ set_past c n _ le)
    ] in
    same ∙ later ∙ ap (λ (x : List (List ℕ)). put_stream x s (p + 1) bs) (sym first)

-- bytes within one block are a piece of the stream
pub chunk : (bs : List ℕ) (c : List (List ℕ)) (s : Span) (p k o n : ℕ) → p % ring_size s ≡ 512 * k + o → k < s.blocks → o + length bs ≤ 512 → n ≡ s.start - 518 + k → set c n (put_bytes o bs (block_at c n)) ≡ put_stream c s p bs
chunk [] c s p k o n at within room is = set-get_or c n []
chunk (b ∷ []) c s p k o n at within room is = chunk_step b [] c s p k o n at within (omega arith) is (set-get_or (set c n (set (block_at c n) o b)) n [])
chunk (b ∷ y ∷ ys) c s p k o n at within room is =
    let fits : 512 * k + o + 1 < ring_size s = omega arith in
    let next : (p + 1) % ring_size s ≡ 512 * k + (o + 1) = goes_on p (ring_size s) (512 * k + o) 1 at fits ∙ omega arith in
    chunk_step b (y ∷ ys) c s p k o n at within (omega arith) is (chunk (y ∷ ys) (set c n (set (block_at c n) o b)) s (p + 1) k (o + 1) n next within (omega arith) is)

-- one block more is written
pub block_more : (bytes : List ℕ) (s : Span) (at done count k o n : ℕ) (told new first : Option (List (List ℕ))) → (at + done) % ring_size s ≡ 512 * k + o → k < s.blocks → o + count ≤ 512 → done + count ≤ length bytes → n ≡ s.start - 518 + k
    → new ≡ option_map (λ (c : List (List ℕ)). set c n (put_bytes o (take count (drop done bytes)) (block_at c n))) told
    → option_map (λ (c : List (List ℕ)). put_stream c s (at + done) (drop done bytes)) told ≡ first
    → option_map (λ (c : List (List ℕ)). put_stream c s (at + (done + count)) (drop (done + count) bytes)) new ≡ first
block_more bytes s at done count k o n told new first here within room left is wrote so_far =
    ap (option_map (λ (c : List (List ℕ)). put_stream c s (at + (done + count)) (drop (done + count) bytes))) wrote ∙ cases told ∙ so_far
  where
    size : length (take count (drop done bytes)) ≡ count
    size = length-take-le count (drop done bytes) (omega (arith, length-drop done bytes))

    one : (c : List (List ℕ)) → put_stream (set c n (put_bytes o (take count (drop done bytes)) (block_at c n))) s (at + (done + count)) (drop (done + count) bytes) ≡ put_stream c s (at + done) (drop done bytes)
    one c =
        let at-is : at + (done + count) ≡ at + done + length (take count (drop done bytes)) = omega (arith, size) in
        ap (λ (x : List (List ℕ)). put_stream x s (at + (done + count)) (drop (done + count) bytes)) (chunk (take count (drop done bytes)) c s (at + done) k o n here within (omega (arith, size)) is)
        ∙ ap (λ (q : ℕ). put_stream (put_stream c s (at + done) (take count (drop done bytes))) s q (drop (done + count) bytes)) at-is
        ∙ ap (λ (ys : List ℕ). put_stream (put_stream c s (at + done) (take count (drop done bytes))) s (at + done + length (take count (drop done bytes))) ys) (sym (drop-drop count done bytes))
        ∙ sym (put_stream-append (take count (drop done bytes)) (drop count (drop done bytes)) c s (at + done))
        ∙ ap (put_stream c s (at + done)) (take-append-drop count (drop done bytes))

    cases : (o' : Option (List (List ℕ))) → option_map (λ (c : List (List ℕ)). put_stream c s (at + (done + count)) (drop (done + count) bytes)) (option_map (λ (c : List (List ℕ)). set c n (put_bytes o (take count (drop done bytes)) (block_at c n))) o') ≡ option_map (λ (c : List (List ℕ)). put_stream c s (at + done) (drop done bytes)) o'
    cases None = refl
    cases (Some c) = ap Some (one c)

pub block_more_at : (bytes : List ℕ) (s : Span) (at done count m k o n : ℕ) (told new first : Option (List (List ℕ))) → m ≡ count → (at + done) % ring_size s ≡ 512 * k + o → k < s.blocks → o + count ≤ 512 → done + count ≤ length bytes → n ≡ s.start - 518 + k
    → new ≡ option_map (λ (c : List (List ℕ)). set c n (put_bytes o (take m (drop done bytes)) (block_at c n))) told
    → option_map (λ (c : List (List ℕ)). put_stream c s (at + done) (drop done bytes)) told ≡ first
    → option_map (λ (c : List (List ℕ)). put_stream c s (at + (done + count)) (drop (done + count) bytes)) new ≡ first
block_more_at bytes s at done count m k o n told new first same here within room left is wrote so_far =
    block_more bytes s at done count k o n told new first here within room left is (subst (λ (j : ℕ). new ≡ option_map (λ (c : List (List ℕ)). set c n (put_bytes o (take j (drop done bytes)) (block_at c n))) told) same wrote) so_far
