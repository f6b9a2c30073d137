-- An entry that is read where it stands.
use Rattle.std.specs.List.{flat_map, AllByRecursion}
use Rattle.std.proofs.lemmas.List.{take_at, drop_at, length-append}
use Rattle.std.proofs.lemmas.List.Concat.{flat_map-cons}
use Rattle.std.proofs.Common.{zero, suc, take, drop, [], ◌∷◌, refl, append_assoc, ◌≡◌, ℕ, ◌+◌, ◌-◌, List, ◌++◌, length, sym, ◌∙◌, ap, arith}
use Rattle.journal_format.specs.journal_model.Entries.{Entry, IsEntry, spelling}
use Rattle.journal_format.specs.journal_model.Ring.{byte_at, stream, StandsAt, IsJournal, BeginsAt}
use Rattle.file_base.specs.declared.head.Span.{Span}
use Rattle.journal_store.proofs.Journals.{stream-add}

pub length-stream : (n : ℕ) (c : List (List ℕ)) (s : Span) (p : ℕ) → length (stream c s p n) ≡ n
length-stream zero c s p = refl
length-stream (suc n) c s p = ap suc (length-stream n c s (p + 1))

-- the middle of a stream
middle : (a n r : ℕ) (c : List (List ℕ)) (s : Span) (p : ℕ) → take n (drop a (stream c s p (a + (n + r)))) ≡ stream c s (p + a) n
middle a n r c s p =
    ap (λ (x : List ℕ). take n (drop a x)) (stream-add a (n + r) c s p)
    ∙ ap (take n) (drop_at (stream c s p a) (stream c s (p + a) (n + r)) a (length-stream a c s p))
    ∙ ap (take n) (stream-add n r c s (p + a))
    ∙ take_at (stream c s (p + a) n) (stream c s (p + a + n) r) n (length-stream n c s (p + a))

flat_split : (front : List Entry) (e : Entry) (back : List Entry) → flat_map spelling (front ++ e ∷ back) ≡ flat_map spelling front ++ (spelling e ++ flat_map spelling back)
flat_split [] e back = flat_map-cons spelling e back
flat_split (x ∷ front) e back = flat_map-cons spelling x (front ++ e ∷ back) ∙ ap (λ (l : List ℕ). spelling x ++ l) (flat_split front e back) ∙ sym (append_assoc (spelling x) (flat_map spelling front) (spelling e ++ flat_map spelling back)) ∙ ap (λ (l : List ℕ). l ++ (spelling e ++ flat_map spelling back)) (sym (flat_map-cons spelling x front))

-- an entry of a journal stands where it begins
pub stands_in : (c : List (List ℕ)) (s : Span) (es : List Entry) (p : ℕ) (e : Entry) → IsJournal c s es → BeginsAt s es p e → StandsAt s p e c
stands_in c s es p e j at =
    let f : List ℕ = flat_map spelling at.front in
    let b : List ℕ = flat_map spelling at.back in
    let a : ℕ = length f in
    let n : ℕ = length (spelling e) in
    let all : stream c s s.first (s.end - s.first) ≡ f ++ (spelling e ++ b) = j.spelled ∙ ap (λ (x : List Entry). flat_map spelling x) at.split ∙ flat_split at.front e at.back in
    let size : s.end - s.first ≡ a + (n + length b) = sym (length-stream (s.end - s.first) c s s.first) ∙ ap length all ∙ length-append f (spelling e ++ b) ∙ ap (λ (k : ℕ). a + k) (length-append (spelling e) b) in
    let same : stream c s s.first (a + (n + length b)) ≡ f ++ (spelling e ++ b) = ap (stream c s s.first) (sym size) ∙ all in
    record {
      bytes = ap (λ (k : ℕ). stream c s k n) at.place ∙ sym (middle a n (length b) c s s.first) ∙ ap (λ (x : List ℕ). take n (drop a x)) same ∙ ap (take n) (drop_at f (spelling e ++ b) a refl) ∙ take_at (spelling e) b n refl;
    }

-- behind the first bytes of a stream
behind : (a r : ℕ) (c : List (List ℕ)) (s : Span) (p : ℕ) → drop a (stream c s p (a + r)) ≡ stream c s (p + a) r
behind a r c s p = ap (drop a) (stream-add a r c s p) ∙ drop_at (stream c s p a) (stream c s (p + a) r) a (length-stream a c s p)

flat_front : (front back : List Entry) → flat_map spelling (front ++ back) ≡ flat_map spelling front ++ flat_map spelling back
flat_front [] back = refl
flat_front (x ∷ front) back = flat_map-cons spelling x (front ++ back) ∙ ap (λ (l : List ℕ). spelling x ++ l) (flat_front front back) ∙ sym (append_assoc (spelling x) (flat_map spelling front) (flat_map spelling back)) ∙ ap (λ (l : List ℕ). l ++ flat_map spelling back) (sym (flat_map-cons spelling x front))

each_behind : (front back : List Entry) → AllByRecursion IsEntry (front ++ back) → AllByRecursion IsEntry back
each_behind [] back h = h
each_behind (x ∷ front) back h = each_behind front back h.1

-- the place of the first entry does not count for a byte
stream_first : (n : ℕ) (c : List (List ℕ)) (s : Span) (first p : ℕ) → stream c (record s { first = first }) p n ≡ stream c s p n
stream_first zero c s first p = refl
stream_first (suc n) c s first p = ap (λ (x : List ℕ). byte_at c s p ∷ x) (stream_first n c s first (p + 1))

-- a journal without its first entries
pub front_dropped : (c : List (List ℕ)) (s : Span) (front back : List Entry) → IsJournal c s (front ++ back) → IsJournal c (record s { first = s.first + length (flat_map spelling front) }) back
front_dropped c s front back j =
    let f : List ℕ = flat_map spelling front in
    let b : List ℕ = flat_map spelling back in
    let a : ℕ = length f in
    let all : stream c s s.first (s.end - s.first) ≡ f ++ b = j.spelled ∙ flat_front front back in
    let size : s.end - s.first ≡ a + length b = sym (length-stream (s.end - s.first) c s s.first) ∙ ap length all ∙ length-append f b in
    let same : stream c s s.first (a + length b) ≡ f ++ b = ap (stream c s s.first) (sym size) ∙ all in
    let left : s.end - (s.first + a) ≡ length b = omega (arith, size, j.order) in
    record {
      ring = record { some = j.ring.some; within = j.ring.within; whole = j.ring.whole };
      order = omega (arith, size, j.order);
      room = omega (arith, size, j.room, left);
      spelled = stream_first _ c s (s.first + a) (s.first + a) ∙ ap (stream c s (s.first + a)) left ∙ sym (behind a (length b) c s s.first) ∙ ap (drop a) same ∙ drop_at f b a refl;
      each = each_behind front back j.each;
    }
