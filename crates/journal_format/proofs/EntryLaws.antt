-- What is read is spelled so, and what is spelled is read again.
use Rattle.std.proofs.Common.{◌≡◌, ℕ, zero, suc, ◌<◌, ◌≤◌, ◌+◌, ◌-◌, ◌*◌, ◌^◌, Bool, true, false, cond, List, [], ◌∷◌, ◌++◌, length, get_or, take, drop, refl, sym, ◌∙◌, ap, subst, arith, append_assoc, eqb, inl, inr, replicate}
use Rattle.std.specs.Int.{w64, to_le_bytes, from_le_bytes, byte_at}
use Rattle.std.proofs.Math.Seq.{take-add}
use Rattle.std.proofs.lemmas.Bool.{eqb-true, eq-eqb, cases_lt}
use Rattle.std.proofs.lemmas.Bool.Decides.{nat_tests}
use Rattle.std.proofs.lemmas.List.{get_or-take, get_or-drop, get_or_past, length-take-le, length-take, length-drop, length-append, drop-drop, take_at, drop_at, ext_get_or, get_or-replicate}
use Rattle.std.proofs.lemmas.Nat.{le_bytes_8, from_le_bytes-to_le_bytes_8}
use Rattle.vms_base.specs.vms_model.Ids.{id_bytes}
use Rattle.journal_format.specs.IdForms.{IsIdForm, id_said}
use Rattle.journal_model.specs.Entries.{Entry, IsEntry, has_image, is_image, is_moment, total, tail_of, spelling}
use Rattle.journal_format.specs.Fronts.{next_ok, Begun, size_of, read_entry}
use Rattle.journal_format.proofs.IdSpellings.{Bytes, piece_small, Said, said, form, id_size, said_again}
use Rattle.journal_format.proofs.FormLaws.{IdFrom, id_from_8, id_from_24, moment_from, id_of, id_begun}

pub eight : (h : List ℕ) → 8 ≤ length h → h ≡ get_or h 0 0 ∷ get_or h 1 0 ∷ get_or h 2 0 ∷ get_or h 3 0 ∷ get_or h 4 0 ∷ get_or h 5 0 ∷ get_or h 6 0 ∷ get_or h 7 0 ∷ drop 8 h
eight (a ∷ b ∷ c ∷ d ∷ e ∷ f ∷ g ∷ i ∷ t) long = refl
eight [] long = absurd (omega arith)
eight (a ∷ []) long = absurd (omega arith)
eight (a ∷ b ∷ []) long = absurd (omega arith)
eight (a ∷ b ∷ c ∷ []) long = absurd (omega arith)
eight (a ∷ b ∷ c ∷ d ∷ []) long = absurd (omega arith)
eight (a ∷ b ∷ c ∷ d ∷ e ∷ []) long = absurd (omega arith)
eight (a ∷ b ∷ c ∷ d ∷ e ∷ f ∷ []) long = absurd (omega arith)
eight (a ∷ b ∷ c ∷ d ∷ e ∷ f ∷ g ∷ []) long = absurd (omega arith)

-- the parts behind the first 8 bytes
parts : (t : List ℕ) (k i : ℕ) → take (40 + k + i) t ≡ take 16 t ++ (take 16 (drop 16 t) ++ (take 8 (drop 32 t) ++ (take k (drop 40 t) ++ take i (drop k (drop 40 t)))))
parts t k i =
    let e : 40 + k + i ≡ 16 + (16 + (8 + (k + i))) = omega arith in
    rw (e, take-add 16 (16 + (8 + (k + i))) t, take-add 16 (8 + (k + i)) (drop 16 t), drop-drop 16 16 t, take-add 8 (k + i) (drop 32 t), drop-drop 8 32 t, take-add k i (drop 40 t)) refl

take_small : (t : List ℕ) → ((i : ℕ) → get_or t i 0 < 256) → (i : ℕ) → get_or (take 8 t) i 0 < 256
take_small t small i = elim (cases_lt i 8) [
  | inl lt ↦ rw (get_or-take 8 t i 0 lt) (small i)
  | inr le ↦ rw (get_or_past (take 8 t) i 0 (omega (arith, length-take 8 t))) (omega arith)
]

-- a moment's bytes
moment_bytes : (t : List ℕ) → 8 ≤ length t → ((i : ℕ) → get_or t i 0 < 256) → to_le_bytes w64 (from_le_bytes w64 (take 8 t)) ≡ take 8 t
moment_bytes t long small = le_bytes_8 (take 8 t) _ (length-take-le 8 t long) (take_small t small) refl

-- bytes that are all zero make the moment 0
no_moment : (t : List ℕ) → 8 ≤ length t → ((j : ℕ) → j < 8 → get_or t j 0 ≡ 0) → from_le_bytes w64 (take 8 t) ≡ 0
no_moment t long zeros =
    let same : take 8 t ≡ replicate 8 0 = ext_get_or 0 (take 8 t) (replicate 8 0) (length-take-le 8 t long) (λ j lt. let near : j < 8 = omega (arith, length-take-le 8 t long) in get_or-take 8 t j 0 near ∙ zeros j near ∙ sym (get_or-replicate 8 j 0 0 near)) in
    rw same refl

moment_is : (kind : ℕ) (t : List ℕ) → 8 ≤ length t → ((j : ℕ) → j < 8 → is_moment kind (get_or t j 0) ≡ true) → is_moment kind (from_le_bytes w64 (take 8 t)) ≡ true
moment_is kind t long ok = by_test (eqb kind 3) t long ok
  where
    by_test : (settled : Bool) (t : List ℕ) → 8 ≤ length t → ((j : ℕ) → j < 8 → cond settled true (eqb (get_or t j 0) 0) ≡ true) → cond settled true (eqb (from_le_bytes w64 (take 8 t)) 0) ≡ true
    by_test true t long ok = refl
    by_test false t long ok = eq-eqb _ 0 (no_moment t long (λ j lt. eqb-true _ 0 (ok j lt)))

moment_below : (t : List ℕ) → ((i : ℕ) → get_or t i 0 < 256) → from_le_bytes w64 t < 2 ^ 64
moment_below t fits = omega (arith, fits 0, fits 1, fits 2, fits 3, fits 4, fits 5, fits 6, fits 7)

image_is : (has : Bool) (lo hi : ℕ) → cond has true (eqb lo 0) ≡ true → cond has (is_image true (lo + 256 * hi)) (eqb hi 0) ≡ true → is_image has (lo + 256 * hi) ≡ true
image_is true lo hi p q = q
image_is false lo hi p q = eq-eqb _ 0 (omega (arith, eqb-true lo 0 p, eqb-true hi 0 q))

pub record Taken (h : List ℕ) : Type 0 where
  pub is : IsEntry (read_entry h)
  pub spelled : take (size_of h) h ≡ spelling (read_entry h)

same_eight : (a b c d e f g i : ℕ) (t : List ℕ) (d' e' f' g' i' : ℕ) (t' : List ℕ) → d ≡ d' → e ≡ e' → f ≡ f' → g ≡ g' → i ≡ i' → t ≡ t' → a ∷ b ∷ c ∷ d ∷ e ∷ f ∷ g ∷ i ∷ t ≡ a ∷ b ∷ c ∷ d' ∷ e' ∷ f' ∷ g' ∷ i' ∷ t'
same_eight a b c d e f g i t d' e' f' g' i' t' p q r s u v = cc

-- the id that stands at a place
id_from : (o : ℕ) → IdFrom o → (h : List ℕ) → Begun 48 h → o + 16 ≤ 48 → 48 ≤ length h → Bytes h → Said (take 16 (drop o h))
id_from o from h begun within long small = said (take 16 (drop o h)) (id_of o 48 from h within (omega arith) begun) (piece_small 16 o h small)

same_parts : (a b c a' b' c' r : List ℕ) → a ≡ a' → b ≡ b' → c ≡ c' → a ++ (b ++ (c ++ r)) ≡ a' ++ (b' ++ (c' ++ r))
same_parts a b c a' b' c' r p q s = cc

taken_cons : (a b c d e f g i : ℕ) (t : List ℕ) → let h = a ∷ b ∷ c ∷ d ∷ e ∷ f ∷ g ∷ i ∷ t in
    Begun 48 h → 48 ≤ length h → size_of h ≤ length h → Bytes h → Taken h
taken_cons a b c d e f g i t begun long whole small =
    let h : List ℕ = a ∷ b ∷ c ∷ d ∷ e ∷ f ∷ g ∷ i ∷ t in
    let n : ℕ = e + 256 * f in
    let t-long : 40 + d + n ≤ length t = omega arith in
    let key-size : length (take d (drop 40 t)) ≡ d = length-take-le d (drop 40 t) (omega (arith, length-drop 40 t)) in
    let image-size : length (take n (drop d (drop 40 t))) ≡ n = length-take-le n (drop d (drop 40 t)) (omega (arith, length-drop d (drop 40 t), length-drop 40 t)) in
    let far-long : 8 ≤ length (drop 32 t) = omega (arith, length-drop 32 t) in
    let far_at : (j : ℕ) → get_or (drop 32 t) j 0 ≡ get_or h (40 + j) 0 = λ j. get_or-drop 40 h j 0 in
    let far-small : (j : ℕ) → get_or (drop 32 t) j 0 < 256 = λ j. subst (λ (v : ℕ). v < 256) (sym (far_at j)) (small (40 + j)) in
    let ok4 : cond (has_image a b) true (eqb e 0) ≡ true = begun 4 (omega arith) in
    let ok5 : cond (has_image a b) (is_image true n) (eqb f 0) ≡ true = begun 5 (omega arith) in
    let ok6 : g ≡ byte_at 0 (total d n) = eqb-true g _ (begun 6 (omega arith)) in
    let ok7 : i ≡ byte_at 1 (total d n) = eqb-true i _ (begun 7 (omega arith)) in
    let e-small : e < 256 = small 4 in
    let f-small : f < 256 = small 5 in
    let moments : (j : ℕ) → j < 8 → is_moment a (get_or (drop 32 t) j 0) ≡ true = λ j lt.
    let le : 40 ≤ length (take (40 + j) h) = omega (arith, length-take (40 + j) h) in
    let first : get_or (take (40 + j) h) 0 0 ≡ a = get_or-take (40 + j) h 0 0 (omega arith) in
    subst (λ (v : ℕ). is_moment a v ≡ true) (sym (far_at j)) (ap (λ (k : ℕ). is_moment k (get_or h (40 + j) 0)) (sym first) ∙ sym (moment_from (take (40 + j) h) (get_or h (40 + j) 0) le) ∙ begun (40 + j) (omega arith)) in
    let tid = id_from 8 id_from_8 h begun (omega arith) (omega arith) small in
    let serial = id_from 24 id_from_24 h begun (omega arith) (omega arith) small in
    let eight_more : total d n ≡ suc (suc (suc (suc (suc (suc (suc (suc (40 + d + n)))))))) = omega arith in
    record {
      is = record {
        kind = begun 0 (omega arith);
        flag = begun 1 (omega arith);
        file = begun 2 (omega arith);
        key = rw key-size (begun 3 (omega arith));
        image = rw image-size (image_is (has_image a b) e f ok4 ok5);
        tid = tid.is;
        serial = serial.is;
        moment = moment_is a (drop 32 t) far-long moments;
        fits = moment_below (take 8 (drop 32 t)) (take_small (drop 32 t) far-small);
      };
      spelled = rw eight_more (same_eight a b c d e f g i (take (40 + d + n) t) _ _ _ _ _ _
          (sym key-size)
          (rw image-size (omega arith))
          (rw image-size (omega arith))
          (rw (key-size, image-size) ok6)
          (rw (key-size, image-size) ok7)
          (parts t d n ∙ sym (same_parts _ _ _ _ _ _ _ (tid.spelled) (serial.spelled) (moment_bytes (drop 32 t) far-long far-small))));
    }

pub taken : (h : List ℕ) → Begun 48 h → 48 ≤ length h → size_of h ≤ length h → Bytes h → Taken h
taken h begun long whole small =
    let is = eight h (omega arith) in
    subst Taken (sym is) (taken_cons _ _ _ _ _ _ _ _ (drop 8 h) (subst (Begun 48) is begun) (subst (λ (x : List ℕ). 48 ≤ length x) is long) (subst (λ (x : List ℕ). size_of x ≤ length x) is whole) (subst Bytes is small))

-- ---- what is spelled is read again

abbrev low : ℕ → ℕ
low n = byte_at 0 n

abbrev high : ℕ → ℕ
high n = byte_at 1 n

halves : (n : ℕ) → n < 65536 → low n + 256 * high n ≡ n
halves n lt = omega arith

below : (has : Bool) (n : ℕ) → is_image has n ≡ true → n < 65536
below true n ok = grind (arith, nat_tests)
below false n ok = grind (arith, nat_tests)

image_below : (e : Entry) → IsEntry e → length e.image < 65536
image_below e is = below (has_image e.kind e.flag) (length e.image) is.image

pub tail_long : (e : Entry) → IsEntry e → (rest : List ℕ) → length (tail_of e ++ rest) ≡ 40 + length e.key + length e.image + length rest
tail_long e is rest = omega (arith, length-append (tail_of e) rest, length-append (id_bytes e.tid) (id_bytes e.serial ++ (to_le_bytes w64 e.moment ++ (e.key ++ e.image))), length-append (id_bytes e.serial) (to_le_bytes w64 e.moment ++ (e.key ++ e.image)), length-append (to_le_bytes w64 e.moment) (e.key ++ e.image), length-append e.key e.image, id_size e.tid is.tid, id_size e.serial is.serial)

-- the parts of the tail
pub record Tail (e : Entry) (rest t : List ℕ) : Type 0 where
  pub tid : take 16 t ≡ id_bytes e.tid
  pub serial : take 16 (drop 16 t) ≡ id_bytes e.serial
  pub moment : take 8 (drop 32 t) ≡ to_le_bytes w64 e.moment
  pub behind : drop 40 t ≡ e.key ++ (e.image ++ rest)

pub tail_parts : (e : Entry) → IsEntry e → (rest : List ℕ) → Tail e rest (tail_of e ++ rest)
tail_parts e is rest =
    let m : List ℕ = to_le_bytes w64 e.moment in
    let tid-size = id_size e.tid is.tid in
    let serial-size = id_size e.serial is.serial in
    let joined : tail_of e ++ rest ≡ id_bytes e.tid ++ (id_bytes e.serial ++ (m ++ (e.key ++ (e.image ++ rest)))) = simp append_assoc in
    let d16 : drop 16 (tail_of e ++ rest) ≡ id_bytes e.serial ++ (m ++ (e.key ++ (e.image ++ rest))) = rw joined (drop_at (id_bytes e.tid) _ 16 tid-size) in
    let d32 : drop 32 (tail_of e ++ rest) ≡ m ++ (e.key ++ (e.image ++ rest)) = sym (drop-drop 16 16 (tail_of e ++ rest)) ∙ rw d16 (drop_at (id_bytes e.serial) _ 16 serial-size) in
    record {
      tid = rw joined (take_at (id_bytes e.tid) _ 16 tid-size);
      serial = rw d16 (take_at (id_bytes e.serial) _ 16 serial-size);
      moment = rw d32 (take_at m (e.key ++ (e.image ++ rest)) 8 refl);
      behind = sym (drop-drop 8 32 (tail_of e ++ rest)) ∙ rw d32 (drop_at m (e.key ++ (e.image ++ rest)) 8 refl);
    }

pub read_again : (e : Entry) → IsEntry e → (rest : List ℕ) → read_entry (spelling e ++ rest) ≡ e
read_again e is rest =
    let t = tail_parts e is rest in
    let n = halves (length e.image) (image_below e is) in
    let tid = ap id_said t.tid ∙ said_again e.tid is.tid in
    let serial = ap id_said t.serial ∙ said_again e.serial is.serial in
    let key : take (length e.key) (drop 40 (tail_of e ++ rest)) ≡ e.key = rw t.behind (take_at e.key _ (length e.key) refl) in
    let image : take (low (length e.image) + 256 * high (length e.image)) (drop (length e.key) (drop 40 (tail_of e ++ rest))) ≡ e.image = rw (n, t.behind, drop_at e.key (e.image ++ rest) (length e.key) refl) (take_at e.image rest (length e.image) refl) in
    let moment : from_le_bytes w64 (take 8 (drop 32 (tail_of e ++ rest))) ≡ e.moment = rw t.moment (from_le_bytes-to_le_bytes_8 e.moment is.fits) in
    λ k. record { kind = e.kind; flag = e.flag; file = e.file; tid = tid k; serial = serial k; moment = moment k; key = key k; image = image k }

pub size_again : (e : Entry) → IsEntry e → (rest : List ℕ) → size_of (spelling e ++ rest) ≡ length (spelling e)
size_again e is rest = omega (arith, halves (length e.image) (image_below e is), tail_long e is [], length-append (tail_of e) [])

ok5_of : (has : Bool) (n : ℕ) → is_image has n ≡ true → cond has (is_image true (low n + 256 * high n)) (eqb (high n) 0) ≡ true
ok5_of true n ok = rw (halves n (below true n ok)) ok
ok5_of false n ok = let z : n ≡ 0 = eqb-true n 0 ok in eq-eqb (high n) 0 (omega arith)

ok4_of : (has : Bool) (n : ℕ) → is_image has n ≡ true → cond has true (eqb (low n) 0) ≡ true
ok4_of true n ok = refl
ok4_of false n ok = let z : n ≡ 0 = eqb-true n 0 ok in eq-eqb (low n) 0 (omega arith)

no_moment_bytes : (kind m : ℕ) → is_moment kind m ≡ true → (j : ℕ) → is_moment kind (get_or (to_le_bytes w64 m) j 0) ≡ true
no_moment_bytes kind m ok j = by_test (eqb kind 3) m ok
  where
    zeros : (j : ℕ) → let v : ℕ = get_or (replicate 8 0) j 0 in let o : ℕ = 0 in v ≡ o
    zeros j = elim (cases_lt j 8) [ inl lt ↦ get_or-replicate 8 j 0 0 lt | inr le ↦ get_or_past (replicate 8 0) j 0 le ]

    by_test : (settled : Bool) (m : ℕ) → cond settled true (eqb m 0) ≡ true → cond settled true (eqb (get_or (to_le_bytes w64 m) j 0) 0) ≡ true
    by_test true m ok = refl
    by_test false m ok = let z : m ≡ 0 = eqb-true m 0 ok in eq-eqb _ 0 (ap (λ (x : ℕ). get_or (to_le_bytes w64 x) j 0) z ∙ zeros j)

begun_far : (e : Entry) → IsEntry e → (rest : List ℕ) → (i : ℕ) → 8 ≤ i → i < 48 → next_ok (take i (spelling e ++ rest)) (get_or (spelling e ++ rest) i 0) ≡ true
begun_far e is rest i above below =
    let s : List ℕ = spelling e ++ rest in
    let t = tail_parts e is rest in
    let long : 48 ≤ length s = omega (arith, tail_long e is rest) in
    elim (cases_lt i 24) [
      | inl lt ↦ id_begun 8 id_from_8 s (omega arith) (subst IsIdForm (sym t.tid) (form e.tid is.tid)) i above lt
      | inr le ↦ elim (cases_lt i 40) [
        | inl lt ↦ id_begun 24 id_from_24 s (omega arith) (subst IsIdForm (sym t.serial) (form e.serial is.serial)) i le lt
        | inr far ↦
            let j : ℕ = i - 40 in
            let at : 40 + j ≡ i = omega arith in
            let near : j < 8 = omega arith in
            let size : length (take i s) ≡ i = length-take-le i s (omega arith) in
            let first : get_or (take i s) 0 0 ≡ e.kind = get_or-take i s 0 0 (omega arith) in
            let here : get_or (to_le_bytes w64 e.moment) j 0 ≡ get_or s i 0 = ap (λ (x : List ℕ). get_or x j 0) (sym t.moment) ∙ get_or-take 8 (drop 40 s) j 0 near ∙ get_or-drop 40 s j 0 ∙ ap (λ (k : ℕ). get_or s k 0) at in
            moment_from (take i s) (get_or s i 0) (omega arith) ∙ ap (λ (k : ℕ). is_moment k (get_or s i 0)) first ∙ ap (is_moment e.kind) (sym here) ∙ no_moment_bytes e.kind e.moment is.moment j
      ]
    ]

pub begun_again : (e : Entry) → IsEntry e → (rest : List ℕ) → Begun 48 (spelling e ++ rest)
begun_again e is rest zero lt = is.kind
begun_again e is rest (suc zero) lt = is.flag
begun_again e is rest (suc (suc zero)) lt = is.file
begun_again e is rest (suc (suc (suc zero))) lt = is.key
begun_again e is rest (suc (suc (suc (suc zero)))) lt = ok4_of (has_image e.kind e.flag) (length e.image) is.image
begun_again e is rest (suc (suc (suc (suc (suc zero))))) lt = ok5_of (has_image e.kind e.flag) (length e.image) is.image
begun_again e is rest (suc (suc (suc (suc (suc (suc zero)))))) lt = eq-eqb _ _ (ap (λ (n : ℕ). low (total (length e.key) n)) (sym (halves (length e.image) (image_below e is))))
begun_again e is rest (suc (suc (suc (suc (suc (suc (suc zero))))))) lt = eq-eqb _ _ (ap (λ (n : ℕ). high (total (length e.key) n)) (sym (halves (length e.image) (image_below e is))))
begun_again e is rest (suc (suc (suc (suc (suc (suc (suc (suc j)))))))) lt = begun_far e is rest (suc (suc (suc (suc (suc (suc (suc (suc j)))))))) (omega arith) lt
