-- The bytes of an id are those of one id.
use Rattle.std.proofs.Common.{◌≡◌, ℕ, zero, suc, ◌<◌, ◌≤◌, ◌+◌, ◌-◌, ◌^◌, ◌++◌, true, false, List, [], ◌∷◌, length, get_or, take, drop, replicate, Option, Some, eqb, not, refl, sym, ap, ◌∙◌, arith, append_assoc, inl, inr}
use Rattle.std.specs.Int.{w32, to_le_bytes, from_le_bytes}
use Rattle.std.proofs.lemmas.Bool.{eqb-true, cases_lt}
use Rattle.std.proofs.lemmas.Bool.Decides.{nat_tests}
use Rattle.std.proofs.lemmas.List.{get_or_append_left, get_or-append_right, get_or-replicate, get_or_past, get_or-take, get_or-drop, length-append, length-replicate, length-take, length-take-le, length-drop, drop-drop}
use Rattle.std.proofs.lemmas.Nat.{le_bytes_4, from_le_bytes-to_le_bytes_4}
use Rattle.vms_base.specs.vms_model.Names.{node_named}
use Rattle.vms_base.specs.vms_model.Ids.{Id, IsId, padded, id_bytes}
use Rattle.vms_base.specs.Ids.{until_zero}
use Rattle.vms_base.proofs.IdLemmas.{node_read, rest_read}
use Rattle.journal_format.specs.IdForms.{is_letter, is_letter_or_digit, id_byte, IsIdForm, id_said}
use Rattle.journal_format.proofs.NameForms.{Chain, named_front, until_seam, two_more, name_of_words, IsNodeName, node_name, word_at}

-- each is a byte
abbrev pub Bytes : List ℕ → Type 0
Bytes x = (i : ℕ) → get_or x i 0 < 256

pub record Said (x : List ℕ) : Type 0 where
  pub is : IsId (id_said x)
  pub spelled : id_bytes (id_said x) ≡ x

pub piece_small : (n at : ℕ) (x : List ℕ) → Bytes x → Bytes (take n (drop at x))
piece_small n at x small i = elim (cases_lt i n) [
  | inl lt ↦ rw (get_or-take n (drop at x) i 0 lt, get_or-drop at x i 0) (small (at + i))
  | inr le ↦ rw (get_or_past (take n (drop at x)) i 0 (omega (arith, length-take n (drop at x)))) (omega arith)
]

number_below : (t : List ℕ) → Bytes t → from_le_bytes w32 t < 2 ^ 32
number_below t fits = omega (arith, fits 0, fits 1, fits 2, fits 3)

not_zero : (b : ℕ) → is_letter b ≡ true → eqb b 0 ≡ false
not_zero b h = grind (arith, nat_tests)

said_cons : (a b c d e f : ℕ) (t : List ℕ) → is_letter a ≡ true → Chain a (b ∷ c ∷ d ∷ e ∷ f ∷ []) → length t ≡ 8 → Bytes t → Said (a ∷ b ∷ c ∷ d ∷ e ∷ f ∷ 0 ∷ 0 ∷ t)
said_cons a b c d e f t letter chain long small =
    let five : List ℕ = b ∷ c ∷ d ∷ e ∷ f ∷ [] in
    let n = named_front a five chain in
    let k : ℕ = length (until_zero five) in
    let few : k ≤ 5 = n.few in
    let x : List ℕ = a ∷ five ++ 0 ∷ 0 ∷ t in
    let node : until_zero x ≡ a ∷ until_zero five = rw (not_zero a letter) (ap (λ (r : List ℕ). a ∷ r) (until_seam five (0 ∷ t))) in
    let six : suc k ≤ 6 = omega arith in
    let name : node_named (a ∷ until_zero five) ≡ Some (a ∷ until_zero five) = name_of_words a (until_zero five) letter n.words six in
    let first : List ℕ = take 4 t in
    let last : List ℕ = take 4 (drop 4 t) in
    let boot : to_le_bytes w32 (from_le_bytes w32 first) ≡ first = le_bytes_4 first _ (length-take-le 4 t (omega arith)) (piece_small 4 0 t small) refl in
    let seq : to_le_bytes w32 (from_le_bytes w32 last) ≡ last = le_bytes_4 last _ (length-take-le 4 (drop 4 t) (omega (arith, length-drop 4 t))) (piece_small 4 4 t small) refl in
    let zeros : 8 - suc k ≡ suc (suc (5 - k)) = omega arith in
    let front : padded 8 (a ∷ until_zero five) ≡ a ∷ five ++ 0 ∷ 0 ∷ [] =
    rw (zeros, ← two_more (5 - k)) (ap (λ (r : List ℕ). a ∷ r) (sym (append_assoc (until_zero five) (replicate (5 - k) 0) (0 ∷ 0 ∷ [])) ∙ ap (λ (r : List ℕ). r ++ 0 ∷ 0 ∷ []) (sym n.zeros))) in
    let whole : first ++ last ≡ t = eight t long in
    record {
      is = record { node = rw node name; boot = number_below first (piece_small 4 0 t small); seq = number_below last (piece_small 4 4 t small) };
      spelled = (λ k. padded 8 (node k) ++ (boot k ++ seq k)) ∙ (λ k. front k ++ whole k);
    }
  where
    eight : (t : List ℕ) → length t ≡ 8 → take 4 t ++ take 4 (drop 4 t) ≡ t
    eight (a ∷ b ∷ c ∷ d ∷ e ∷ f ∷ g ∷ h ∷ []) is = refl
    eight [] is = absurd (omega arith)
    eight (a ∷ []) is = absurd (omega arith)
    eight (a ∷ b ∷ []) is = absurd (omega arith)
    eight (a ∷ b ∷ c ∷ []) is = absurd (omega arith)
    eight (a ∷ b ∷ c ∷ d ∷ []) is = absurd (omega arith)
    eight (a ∷ b ∷ c ∷ d ∷ e ∷ []) is = absurd (omega arith)
    eight (a ∷ b ∷ c ∷ d ∷ e ∷ f ∷ []) is = absurd (omega arith)
    eight (a ∷ b ∷ c ∷ d ∷ e ∷ f ∷ g ∷ []) is = absurd (omega arith)
    eight (a ∷ b ∷ c ∷ d ∷ e ∷ f ∷ g ∷ h ∷ i ∷ r) is = absurd (omega arith)

-- the bytes of an id tell an id that is spelled so
pub said : (x : List ℕ) → IsIdForm x → Bytes x → Said x
said (a ∷ b ∷ c ∷ d ∷ e ∷ f ∷ g ∷ h ∷ t) is small =
    let g0 : g ≡ 0 = eqb-true g 0 (is.bytes 6 (omega arith)) in
    let h0 : h ≡ 0 = eqb-true h 0 (is.bytes 7 (omega arith)) in
    let long : length t ≡ 8 = let s = is.size in omega arith in
    let five : Chain a (b ∷ c ∷ d ∷ e ∷ f ∷ []) = (is.bytes 1 (omega arith), (is.bytes 2 (omega arith), (is.bytes 3 (omega arith), (is.bytes 4 (omega arith), (is.bytes 5 (omega arith), tt))))) in
    rw (g0, h0) (said_cons a b c d e f t (is.bytes 0 (omega arith)) five long (λ i. small (suc (suc (suc (suc (suc (suc (suc (suc i))))))))))
said [] is small = absurd (let s = is.size in omega arith)
said (a ∷ []) is small = absurd (let s = is.size in omega arith)
said (a ∷ b ∷ []) is small = absurd (let s = is.size in omega arith)
said (a ∷ b ∷ c ∷ []) is small = absurd (let s = is.size in omega arith)
said (a ∷ b ∷ c ∷ d ∷ []) is small = absurd (let s = is.size in omega arith)
said (a ∷ b ∷ c ∷ d ∷ e ∷ []) is small = absurd (let s = is.size in omega arith)
said (a ∷ b ∷ c ∷ d ∷ e ∷ f ∷ []) is small = absurd (let s = is.size in omega arith)
said (a ∷ b ∷ c ∷ d ∷ e ∷ f ∷ g ∷ []) is small = absurd (let s = is.size in omega arith)

-- the bytes of an id, one by one

padded_size : (node : List ℕ) → length node ≤ 6 → length (padded 8 node) ≡ 8
padded_size node few = omega (arith, length-append node (replicate (8 - length node) 0), length-replicate {A = ℕ} (8 - length node) 0)

in_padded : (node : List ℕ) (j : ℕ) → j < length node → get_or (padded 8 node) j 0 ≡ get_or node j 0
in_padded node j lt = get_or_append_left node (replicate (8 - length node) 0) 0 j lt

behind_name : (node : List ℕ) (j : ℕ) → length node ≤ j → get_or (padded 8 node) j 0 ≡ 0
behind_name node j le = get_or-append_right node (replicate (8 - length node) 0) (length node) j 0 refl le ∙ zeros (8 - length node) (j - length node)
  where
    zeros : (m i : ℕ) → let v : ℕ = get_or (replicate m 0) i 0 in let o : ℕ = 0 in v ≡ o
    zeros m i = elim (cases_lt i m) [ inl lt ↦ get_or-replicate {A = ℕ} m i 0 0 lt | inr le ↦ get_or_past {X = ℕ} (replicate m 0) i 0 (omega (arith, length-replicate {A = ℕ} m 0)) ]

zero_follows : (j before b : ℕ) → 1 ≤ j → b ≡ 0 → id_byte j before b ≡ true
zero_follows j before b some is = grind (arith, nat_tests)

word_not_zero : (b : ℕ) → is_letter_or_digit b ≡ true → eqb b 0 ≡ false
word_not_zero b h = grind (arith, nat_tests)

word_follows : (j before b : ℕ) → 1 ≤ j → j < 6 → eqb before 0 ≡ false → is_letter_or_digit b ≡ true → id_byte j before b ≡ true
word_follows j before b some lt not word = grind (arith, nat_tests)

number_follows : (j before b : ℕ) → 8 ≤ j → id_byte j before b ≡ true
number_follows j before b le = grind (arith, nat_tests)

later_byte : (node rest : List ℕ) → IsNodeName node → (i : ℕ) → id_byte (suc i) (get_or (padded 8 node ++ rest) i 0) (get_or (padded 8 node ++ rest) (suc i) 0) ≡ true
later_byte node rest is i =
    let j : ℕ = suc i in
    let size = padded_size node is.few in
    elim (cases_lt j 8) [
      | inr le ↦ number_follows j (get_or (padded 8 node ++ rest) i 0) (get_or (padded 8 node ++ rest) j 0) le
      | inl lt ↦
          let here : get_or (padded 8 node ++ rest) j 0 ≡ get_or (padded 8 node) j 0 = get_or_append_left (padded 8 node) rest 0 j (omega arith) in
          let prior : get_or (padded 8 node ++ rest) i 0 ≡ get_or (padded 8 node) i 0 = get_or_append_left (padded 8 node) rest 0 i (omega arith) in
          elim (cases_lt j (length node)) [
            | inr le ↦ zero_follows j (get_or (padded 8 node ++ rest) i 0) (get_or (padded 8 node ++ rest) j 0) (omega arith) (here ∙ behind_name node j le)
            | inl within ↦
                let few = is.few in
                let less : i < length node = omega arith in
                let before : eqb (get_or (padded 8 node ++ rest) i 0) 0 ≡ false = rw (prior ∙ in_padded node i less) (word_not_zero _ (word_at node i is.words less)) in
                let word : is_letter_or_digit (get_or (padded 8 node ++ rest) j 0) ≡ true = rw (here ∙ in_padded node j within) (word_at node j is.words within) in
                word_follows j (get_or (padded 8 node ++ rest) i 0) (get_or (padded 8 node ++ rest) j 0) (omega arith) (omega arith) before word
          ]
    ]

form_byte : (node rest : List ℕ) → IsNodeName node → (j : ℕ) → id_byte j (get_or (padded 8 node ++ rest) (j - 1) 0) (get_or (padded 8 node ++ rest) j 0) ≡ true
form_byte node rest is zero =
    let here : get_or (padded 8 node ++ rest) 0 0 ≡ get_or node 0 0 = get_or_append_left (padded 8 node) rest 0 0 (let p = padded_size node is.few in omega arith) ∙ in_padded node 0 (let s = is.some in omega arith) in
    rw here is.first
form_byte node rest is (suc i) =
    let back : suc i - 1 ≡ i = omega arith in
    rw back (later_byte node rest is i)

pub id_size : (id : Id) → IsId id → length (id_bytes id) ≡ 16
id_size id is =
    let size = padded_size id.node (node_name id.node is.node).few in
    omega (arith, length-append (padded 8 id.node) (to_le_bytes w32 id.boot ++ to_le_bytes w32 id.seq), length-append (to_le_bytes w32 id.boot) (to_le_bytes w32 id.seq))

pub form : (id : Id) → IsId id → IsIdForm (id_bytes id)
form id is = record { size = id_size id is; bytes = λ j lt. form_byte id.node _ (node_name id.node is.node) j }

-- an id is read again from its bytes
pub said_again : (id : Id) → IsId id → id_said (id_bytes id) ≡ id
said_again id is =
    let node : until_zero (id_bytes id) ≡ id.node = node_read id (id_bytes id) is refl in
    let rest = rest_read id (id_bytes id) is refl in
    let boot : from_le_bytes w32 (take 4 (drop 8 (id_bytes id))) ≡ id.boot = rw rest (from_le_bytes-to_le_bytes_4 id.boot is.boot) in
    let seq : from_le_bytes w32 (take 4 (drop 12 (id_bytes id))) ≡ id.seq = rw (← drop-drop 4 8 (id_bytes id), rest) (from_le_bytes-to_le_bytes_4 id.seq is.seq) in
    λ k. record { node = node k; boot = boot k; seq = seq k }

-- what reads the ids of bytes, and no others, reads the one that they tell
pub told_id : (x y : List ℕ) (r : Option Id) → IsIdForm x → Bytes x → y ≡ x → ((id : Id) → (r ≡ Some id → IsId id × (id_bytes id ≡ y)) × (IsId id × (id_bytes id ≡ y) → r ≡ Some id)) → r ≡ Some (id_said x)
told_id x y r is small same reads = let s = said x is small in (reads (id_said x)).1 (s.is, s.spelled ∙ sym same)
