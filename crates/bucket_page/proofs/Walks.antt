-- Slots that are read one behind the other.
use Rattle.std.proofs.Common.{◌≡◌, ⊎_elim, ℕ, zero, suc, ◌<◌, ◌≤◌, ◌+◌, ◌-◌, ◌&&◌, ◌++◌, Bool, true, false, List, [], ◌∷◌, length, take, drop, replicate, slice_index, refl, sym, ap, ◌∙◌, arith, length-append, append_assoc, add-one}
use Rattle.std.proofs.lemmas.Bool.{cases_Bool}
use Rattle.std.proofs.lemmas.List.{take-append-drop, length-replicate, length-drop, drop-drop, get_or-replicate}
use Rattle.std.proofs.Math.Seq.{take-length, drop-length}
use Rattle.bucket_page.specs.Pages.{u16_at, u32_at, tag_of, front_size, front_slot, slots_from, slots_of, next_of, joined, suits, all_suit, header, IsPacked, reach}
use Rattle.bucket_page.specs.declared.kind.PageKind.{PageKind}
use Rattle.bucket_page.proofs.PageLaws.{both_true, front_size-append, all_suit-take, all_suit-append, rest_at, used_is, count_is}

-- a slot that suits is whole
pub front_whole : (kind : PageKind) (rest : List ℕ) → suits kind (front_slot kind rest) ≡ true → length (front_slot kind rest) ≡ front_size kind rest
front_whole kind rest suit =
    sym (ap (front_size kind) (sym (take-append-drop (front_size kind rest) rest)) ∙ front_size-append kind (front_slot kind rest) (drop (front_size kind rest) rest) suit)

more_from : (kind : PageKind) (k : ℕ) (rest : List ℕ) → all_suit kind (slots_from kind k rest) ≡ true
    → slots_from kind (suc k) rest ≡ slots_from kind k rest ++ front_slot kind (drop (length (joined (slots_from kind k rest))) rest) ∷ []
more_from kind zero rest suit = refl
more_from kind (suc k) rest suit =
    let s = front_slot kind rest in
    let behind = drop (front_size kind rest) rest in
    let both = both_true (suits kind s) (all_suit kind (slots_from kind k behind)) suit in
    let J = length (joined (slots_from kind k behind)) in
    let long : front_size kind rest + J ≡ length (s ++ joined (slots_from kind k behind)) = omega (arith, front_whole kind rest both.0, length-append s (joined (slots_from kind k behind))) in
    let there : drop J behind ≡ drop (length (s ++ joined (slots_from kind k behind))) rest = drop-drop J (front_size kind rest) rest ∙ ap (λ n. drop n rest) long in
    ap (λ t. s ∷ t) (more_from kind k behind both.1 ∙ ap (λ r. slots_from kind k behind ++ front_slot kind r ∷ []) there)

-- one slot more
pub slots_more : (kind : PageKind) (k : ℕ) (rest : List ℕ) → all_suit kind (slots_from kind k rest) ≡ true
    → slots_from kind (k + 1) rest ≡ slots_from kind k rest ++ front_slot kind (drop (length (joined (slots_from kind k rest))) rest) ∷ []
slots_more kind k rest suit = ap (λ n. slots_from kind n rest) (add-one k) ∙ more_from kind k rest suit

pub slots_from-take : (kind : PageKind) (k n : ℕ) (rest : List ℕ) → k ≤ n → slots_from kind k rest ≡ take k (slots_from kind n rest)
slots_from-take kind zero n rest le = refl
slots_from-take kind (suc k) zero rest le = absurd (omega arith)
slots_from-take kind (suc k) (suc n) rest le = ap (λ t. front_slot kind rest ∷ t) (slots_from-take kind k n (drop (front_size kind rest) rest) (omega arith))

pub length-slots_from : (kind : PageKind) (n : ℕ) (rest : List ℕ) → length (slots_from kind n rest) ≡ n
length-slots_from kind zero rest = refl
length-slots_from kind (suc n) rest = ap suc (length-slots_from kind n (drop (front_size kind rest) rest))

-- the slots, without gaps, are what stands there
pub joined_front : (kind : PageKind) (n : ℕ) (rest : List ℕ) → all_suit kind (slots_from kind n rest) ≡ true
    → joined (slots_from kind n rest) ++ drop (length (joined (slots_from kind n rest))) rest ≡ rest
joined_front kind zero rest suit = refl
joined_front kind (suc n) rest suit =
    let s = front_slot kind rest in
    let behind = drop (front_size kind rest) rest in
    let j = joined (slots_from kind n behind) in
    let both = both_true (suits kind s) (all_suit kind (slots_from kind n behind)) suit in
    let long : length (s ++ j) ≡ front_size kind rest + length j = omega (arith, front_whole kind rest both.0, length-append s j) in
    let there : drop (length (s ++ j)) rest ≡ drop (length j) behind = ap (λ m. drop m rest) long ∙ sym (drop-drop (length j) (front_size kind rest) rest) in
    append_assoc s j (drop (length (s ++ j)) rest) ∙ ap (λ t. s ++ (j ++ t)) there ∙ ap (λ t. s ++ t) (joined_front kind n behind both.1) ∙ take-append-drop (front_size kind rest) rest

pub joined_within : (kind : PageKind) (n : ℕ) (rest : List ℕ) → all_suit kind (slots_from kind n rest) ≡ true → length (joined (slots_from kind n rest)) ≤ length rest
joined_within kind n rest suit =
    let j = joined (slots_from kind n rest) in
    omega (arith, ap length (joined_front kind n rest suit), length-append j (drop (length j) rest))

-- where one of the first slots does not suit, not all do
pub not_all_suit : (kind : PageKind) (k n : ℕ) (rest : List ℕ) → k ≤ n → all_suit kind (slots_from kind k rest) ≡ false → all_suit kind (slots_from kind n rest) ≡ false
not_all_suit kind k n rest le wrong = ⊎_elim
    (λ right. let here : all_suit kind (slots_from kind k rest) ≡ true = ap (all_suit kind) (slots_from-take kind k n rest le) ∙ all_suit-take kind k (slots_from kind n rest) right in absurd (cc))
    (λ wrong. wrong)
    (cases_Bool (all_suit kind (slots_from kind n rest)))

last_false : (kind : PageKind) (a : List (List ℕ)) (s : List ℕ) → suits kind s ≡ false → all_suit kind (a ++ s ∷ []) ≡ false
last_false kind [] s wrong = λ i. wrong i && true
last_false kind (t ∷ ts) s wrong = ap (λ b. suits kind t && b) (last_false kind ts s wrong) ∙ nothing (suits kind t)
  where
    nothing : (b : Bool) → (b && false) ≡ false
    nothing true = refl
    nothing false = refl

-- what the next slot says of all so far
pub none_more : (kind : PageKind) (k n : ℕ) (rest here : List ℕ) → k < n → all_suit kind (slots_from kind k rest) ≡ true → here ≡ drop (length (joined (slots_from kind k rest))) rest
    → suits kind (front_slot kind here) ≡ false → all_suit kind (slots_from kind n rest) ≡ false
none_more kind k n rest here less suit is wrong =
    not_all_suit kind (k + 1) n rest (omega arith)
    (ap (all_suit kind) (slots_more kind k rest suit)
    ∙ last_false kind (slots_from kind k rest) (front_slot kind (drop (length (joined (slots_from kind k rest))) rest)) (sym (ap (λ h. suits kind (front_slot kind h)) is) ∙ wrong))

pub record OneMore (kind : PageKind) (k : ℕ) (rest here : List ℕ) : Type 0 where
  pub suit : all_suit kind (slots_from kind (k + 1) rest) ≡ true
  pub long : length (joined (slots_from kind (k + 1) rest)) ≡ length (joined (slots_from kind k rest)) + length (front_slot kind here)

joined_last : (a : List (List ℕ)) (s : List ℕ) → length (joined (a ++ s ∷ [])) ≡ length (joined a) + length s
joined_last [] s = omega (arith, length-append s [])
joined_last (t ∷ ts) s = omega (arith, joined_last ts s, length-append t (joined (ts ++ s ∷ [])), length-append t (joined ts))

pub one_more : (kind : PageKind) (k : ℕ) (rest here : List ℕ) → all_suit kind (slots_from kind k rest) ≡ true → here ≡ drop (length (joined (slots_from kind k rest))) rest
    → suits kind (front_slot kind here) ≡ true → OneMore kind k rest here
one_more kind k rest here suit is fit =
    let more : slots_from kind (k + 1) rest ≡ slots_from kind k rest ++ front_slot kind here ∷ [] = slots_more kind k rest suit ∙ ap (λ h. slots_from kind k rest ++ front_slot kind h ∷ []) (sym is) in
    record {
      suit = ap (all_suit kind) more ∙ all_suit-append kind (slots_from kind k rest) (front_slot kind here ∷ []) suit (λ i. fit i && true);
      long = ap (λ (ss : List (List ℕ)). length (joined ss)) more ∙ joined_last (slots_from kind k rest) (front_slot kind here);
    }

-- the bytes of a header and of the slots that were read from behind it
pub packed_from : (kind : PageKind) (bytes head : List ℕ) (end : ℕ) → 16 ≤ length bytes → take 16 bytes ≡ head
    → head ≡ header (tag_of kind) (u16_at bytes 2) (u16_at bytes 4) (u32_at bytes 8)
    → all_suit kind (slots_of kind bytes) ≡ true → end ≡ 16 + length (joined (slots_of kind bytes)) → end ≡ 16 + u16_at bytes 4
    → ((k : ℕ) → k < length (drop end bytes) → slice_index (drop end bytes) k ≡ 0) → IsPacked kind (length bytes) bytes
packed_from kind bytes head end long first is suit to used zeros =
    let slots = slots_of kind bytes in
    let rest = drop 16 bytes in
    let count : u16_at bytes 2 ≡ length slots = sym (length-slots_from kind (u16_at bytes 2) rest) in
    let size : u16_at bytes 4 ≡ length (joined slots) = omega (arith, to, used) in
    let behind : drop (length (joined slots)) rest ≡ drop end bytes = drop-drop (length (joined slots)) 16 bytes ∙ ap (λ n. drop n bytes) (sym to) in
    let blank : drop end bytes ≡ replicate (length (drop end bytes)) 0 = zeros_are (drop end bytes) zeros in
    let left : length (drop end bytes) ≡ length bytes - 16 - length (joined slots) = omega (arith, length-drop end bytes, to) in
    record {
      is = sym (take-append-drop 16 bytes)
          ∙ (λ k. (first ∙ is) k ++ sym (joined_front kind (u16_at bytes 2) rest suit) k)
          ∙ (λ k. header (tag_of kind) (count k) (size k) (next_of bytes) ++ (joined slots ++ (behind ∙ blank) k))
          ∙ ap (λ n. header (tag_of kind) (length slots) (length (joined slots)) (next_of bytes) ++ (joined slots ++ replicate n 0)) left;
      suit = suit;
      fits = omega (arith, joined_within kind (u16_at bytes 2) rest suit, length-drop 16 bytes);
    }
  where
    zeros_are : (xs : List ℕ) → ((k : ℕ) → k < length xs → slice_index xs k ≡ 0) → xs ≡ replicate (length xs) 0
    zeros_are [] all = refl
    zeros_are (x ∷ xs) all = λ i. all 0 (omega arith) i ∷ zeros_are xs (λ k less. all (suc k) (omega arith)) i

-- the first bytes of packed ones
pub packed_front : (kind : PageKind) (bytes : List ℕ) → IsPacked kind (length bytes) bytes → take 16 bytes ≡ header (tag_of kind) (u16_at bytes 2) (u16_at bytes 4) (u32_at bytes 8)
packed_front kind bytes packed =
    let slots = slots_of kind bytes in
    ap (take 16) packed.is ∙ (λ k. header (tag_of kind) (sym (count_is kind (length bytes) bytes packed) k) (sym (used_is kind (length bytes) bytes packed) k) (next_of bytes))

-- the bytes behind the slots of packed ones
pub packed_behind : (kind : PageKind) (bytes : List ℕ) (end : ℕ) → IsPacked kind (length bytes) bytes → end ≡ 16 + u16_at bytes 4
    → (k : ℕ) → k < length (drop end bytes) → slice_index (drop end bytes) k ≡ 0
packed_behind kind bytes end packed to k less =
    let slots = slots_of kind bytes in
    let z = length bytes - 16 - length (joined slots) in
    let whole : take (length slots) slots ≡ slots = take-length slots in
    let reached : end ≡ reach slots (length slots) = omega (arith, to, used_is kind (length bytes) bytes packed, ap (λ (ss : List (List ℕ)). length (joined ss)) whole) in
    let blank : drop end bytes ≡ replicate z 0 =
    ap (λ n. drop n bytes) reached ∙ rest_at kind (length bytes) (length slots) bytes packed ∙ ap (λ (ss : List (List ℕ)). joined ss ++ replicate z 0) (drop-length slots) in
    let below : k < z = omega (arith, ap length blank, length-replicate {A = ℕ} z 0) in
    ap (λ (xs : List ℕ). slice_index xs k) blank ∙ get_or-replicate z k 0 0 below
