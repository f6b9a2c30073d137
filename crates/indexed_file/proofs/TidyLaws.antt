-- Slots that are tidied one after the other, from the last one down.
use Rattle.std.proofs.Common.{◌≡◌, ⊎_elim, ℕ, suc, ◌<◌, ◌≤◌, ◌+◌, ◌-◌, ◌&&◌, Bool, true, false, List, [], ◌∷◌, ◌++◌, length, take, drop, if◌then◌else◌, nat_lt, refl, sym, ap, subst, ◌∙◌, arith, append_assoc, length-append}
use Rattle.std.proofs.lemmas.Bool.Decides.{nat_tests}
use Rattle.std.proofs.lemmas.Bool.{cases_lt}
use Rattle.std.proofs.lemmas.List.{take_at, drop_at, take_more, drop_more, length-take-le, length-take, length-drop, append-nil}
use Rattle.std.proofs.Math.Seq.{take-length, drop-length}
use Rattle.file_base.specs.declared.head.FileHead.{FileHead}
use Rattle.bucket_page.specs.Pages.{key_in, slots_of, next_of, suits, all_suit, joined, slot_at, inserted, removed, IsPacked, Packs}
use Rattle.bucket_page.proofs.PageLaws.{joined-append, joined_parts, all_suit-take, all_suit-drop}
use Rattle.indexed_file.specs.Chain.{kind_of}
use Rattle.indexed_file.specs.Raws.{tidied_raw, tidied_raws, one_of, TidiesSlot}
use Rattle.indexed_file.proofs.LeafLaws.{slot_suits}
use Rattle.indexed_file.proofs.RawLaws.{tidied_fits}

abbrev Raws : Type 0
Raws = List (List ℕ)

-- a slot put where one was taken out
pub put_back : (s : Raws) (i : ℕ) (x : List ℕ) → i < length s → inserted (removed s i) i x ≡ take i s ++ (x ∷ drop (i + 1) s)
put_back s i x below =
    let long = length-take-le i s (omega arith) in
    λ k. take_at (take i s) (drop (i + 1) s) i long k ++ (x ∷ drop_at (take i s) (drop (i + 1) s) i long k)

pub removed_joined : (s : Raws) (i : ℕ) → i < length s → length (joined (removed s i)) + length (slot_at s i) ≡ length (joined s)
removed_joined s i below =
    omega (
      arith,
      ap length (joined-append (take i s) (drop (i + 1) s)),
      length-append (joined (take i s)) (joined (drop (i + 1) s)),
      ap length (joined_parts s i),
      length-append (joined (take i s)) (joined (drop i s)),
      ap (λ (ss : Raws). length (joined ss)) (drop_more s i [] below),
      length-append (slot_at s i) (joined (drop (i + 1) s)),
    )

one_joined : (x : List ℕ) → length (joined (one_of x)) ≡ length x
one_joined [] = refl
one_joined (y ∷ ys) = ap length (append-nil (y ∷ ys))

one_some : (x : List ℕ) → 1 ≤ length x → one_of x ≡ x ∷ []
one_some [] some = absurd (omega arith)
one_some (y ∷ ys) some = refl

first_suit : (h : FileHead) (x : List ℕ) (rest : Raws) → one_of x ≡ rest → 1 ≤ length x → all_suit (kind_of h) rest ≡ true → suits (kind_of h) x ≡ true
first_suit h x rest same some suit =
    let all : all_suit (kind_of h) (x ∷ []) ≡ true = ap (all_suit (kind_of h)) (sym (one_some x some) ∙ same) ∙ suit in
    both_one (suits (kind_of h) x) all
  where
    both_one : (a : Bool) → (a && true) ≡ true → a ≡ true
    both_one true h = refl
    both_one false h = cc

-- a slot that goes
pub tidies_none : (h : FileHead) (held : List ℕ → Bool) (size i : ℕ) (old b1 raw short : List ℕ) → i < length (slots_of (kind_of h) (take size old)) → raw ≡ slot_at (slots_of (kind_of h) (take size old)) i
    → one_of (take 0 short) ≡ tidied_raw h (held (key_in (kind_of h) raw)) raw
    → Packs (kind_of h) size (removed (slots_of (kind_of h) (take size old)) i) (next_of (take size old)) (take size b1) → TidiesSlot h held size i false old b1
tidies_none h held size i old b1 raw short below is one packs =
    let s = slots_of (kind_of h) (take size old) in
    let none : tidied_raw h (held (key_in (kind_of h) (slot_at s i))) (slot_at s i) ≡ [] = ap (λ x. tidied_raw h (held (key_in (kind_of h) x)) x) (sym is) ∙ sym one in
    record {
      packs = subst (λ (t : Raws). Packs (kind_of h) size (take i s ++ (t ++ drop (i + 1) s)) (next_of (take size old)) (take size b1)) (sym none) packs;
      stays_is = ap length none;
    }

-- a slot that stays, with its room or a shorter one
pub record Back (h : FileHead) (size i : ℕ) (old b1 x : List ℕ) : Type 0 where
  pub suit : suits (kind_of h) x ≡ true
  pub room : 16 + length (joined (slots_of (kind_of h) (take size b1))) + length x ≤ size
  pub there : i ≤ length (slots_of (kind_of h) (take size b1))

pub goes_back : (h : FileHead) (held : List ℕ → Bool) (size i : ℕ) (old b1 raw x : List ℕ) → IsPacked (kind_of h) size (take size old) → i < length (slots_of (kind_of h) (take size old))
    → raw ≡ slot_at (slots_of (kind_of h) (take size old)) i → one_of x ≡ tidied_raw h (held (key_in (kind_of h) raw)) raw → 1 ≤ length x
    → Packs (kind_of h) size (removed (slots_of (kind_of h) (take size old)) i) (next_of (take size old)) (take size b1) → Back h size i old b1 x
goes_back h held size i old b1 raw x packed below is one some packs =
    let s = slots_of (kind_of h) (take size old) in
    let suit : suits (kind_of h) raw ≡ true = ap (suits (kind_of h)) is ∙ slot_suits (kind_of h) s i packed.suit below in
    let fits = tidied_fits h (held (key_in (kind_of h) raw)) raw suit in
    record {
      suit = first_suit h x (tidied_raw h (held (key_in (kind_of h) raw)) raw) one some fits.suit;
      room = omega (
        arith,
        fits.most,
        packed.fits,
        ap (λ (rs : Raws). length (joined rs)) one,
        one_joined x,
        removed_joined s i below,
        ap length is,
        ap (λ (rs : Raws). length (joined rs)) packs.slots_are,
      );
      there = omega (arith, ap (λ (rs : Raws). length rs) packs.slots_are, length-append (take i s) (drop (i + 1) s), length-take-le i s (omega arith));
    }

pub tidies_back : (h : FileHead) (held : List ℕ → Bool) (size i : ℕ) (old b1 b2 raw x : List ℕ) → i < length (slots_of (kind_of h) (take size old))
    → raw ≡ slot_at (slots_of (kind_of h) (take size old)) i → one_of x ≡ tidied_raw h (held (key_in (kind_of h) raw)) raw → 1 ≤ length x
    → Packs (kind_of h) size (removed (slots_of (kind_of h) (take size old)) i) (next_of (take size old)) (take size b1)
    → Packs (kind_of h) size (inserted (slots_of (kind_of h) (take size b1)) i x) (next_of (take size b1)) (take size b2) → TidiesSlot h held size i true old b2
tidies_back h held size i old b1 b2 raw x below is one some taken put =
    let s = slots_of (kind_of h) (take size old) in
    let this : tidied_raw h (held (key_in (kind_of h) (slot_at s i))) (slot_at s i) ≡ x ∷ [] = ap (λ y. tidied_raw h (held (key_in (kind_of h) y)) y) (sym is) ∙ sym one ∙ one_some x some in
    let list : inserted (slots_of (kind_of h) (take size b1)) i x ≡ take i s ++ ((x ∷ []) ++ drop (i + 1) s) = ap (λ (t : Raws). inserted t i x) taken.slots_are ∙ put_back s i x below in
    let P : Raws → ℕ → Type 0 = λ t n. Packs (kind_of h) size t n (take size b2) in
    let here : Packs (kind_of h) size (take i s ++ ((x ∷ []) ++ drop (i + 1) s)) (next_of (take size old)) (take size b2) =
    subst (λ (t : Raws). P t (next_of (take size old))) list (subst (λ (n : ℕ). P (inserted (slots_of (kind_of h) (take size b1)) i x) n) taken.next_is put) in
    record {
      packs = subst (λ (t : Raws). Packs (kind_of h) size (take i s ++ (t ++ drop (i + 1) s)) (next_of (take size old)) (take size b2)) (sym this) here;
      stays_is = ap length this;
    }

-- one slot more is tidied

pub tidied_count : (h : FileHead) (held : List ℕ → Bool) (raws : Raws) → all_suit (kind_of h) raws ≡ true → length (tidied_raws h held raws) ≤ length raws
tidied_count h held [] suit = omega arith
tidied_count h held (raw ∷ raws) suit =
    let both = slot_suits (kind_of h) (raw ∷ raws) 0 suit (omega arith) in
    let fits = tidied_fits h (held (key_in (kind_of h) raw)) raw both in
    let later = tidied_count h held raws (rest_suit (suits (kind_of h) raw) (all_suit (kind_of h) raws) suit) in
    omega (arith, fits.few, later, length-append (tidied_raw h (held (key_in (kind_of h) raw)) raw) (tidied_raws h held raws))
  where
    rest_suit : (a b : Bool) → (a && b) ≡ true → b ≡ true
    rest_suit true b h = h
    rest_suit false b h = cc

-- the list of which slots from a place on are tidied
abbrev pub half_tidied : FileHead → (List ℕ → Bool) → Raws → ℕ → Raws
half_tidied h held s i = take i s ++ tidied_raws h held (drop i s)

tidied_drop : (h : FileHead) (held : List ℕ → Bool) (s : Raws) (i : ℕ) → i < length s
    → tidied_raws h held (drop i s) ≡ tidied_raw h (held (key_in (kind_of h) (slot_at s i))) (slot_at s i) ++ tidied_raws h held (drop (i + 1) s)
tidied_drop h held s i below = ap (tidied_raws h held) (drop_more s i [] below)

pub tidies_more : (h : FileHead) (held : List ℕ → Bool) (size i : ℕ) (stays : Bool) (s : Raws) (next : ℕ) (old new : List ℕ) → i < length s
    → Packs (kind_of h) size (half_tidied h held s (i + 1)) next (take size old) → TidiesSlot h held size i stays old new → Packs (kind_of h) size (half_tidied h held s i) next (take size new)
tidies_more h held size i stays s next old new below was tidies =
    let t = slots_of (kind_of h) (take size old) in
    let T = tidied_raws h held (drop (i + 1) s) in
    let x = slot_at s i in
    let front : take (i + 1) s ≡ take i s ++ (x ∷ []) = take_more s i [] below in
    let list : t ≡ take i s ++ (x ∷ T) = was.slots_are ∙ ap (λ (a : Raws). a ++ T) front ∙ append_assoc (take i s) (x ∷ []) T in
    let long : length (take i s) ≡ i = length-take-le i s (omega arith) in
    let first : take i t ≡ take i s = ap (take i) list ∙ take_at (take i s) (x ∷ T) i long in
    let rest : drop i t ≡ x ∷ T = ap (drop i) list ∙ drop_at (take i s) (x ∷ T) i long in
    let within : i < length t = omega (arith, ap (λ (a : Raws). length a) list, length-append (take i s) (x ∷ T), long) in
    let cons = sym (drop_more t i [] within) ∙ rest in
    let at : slot_at t i ≡ x = ap (λ (a : Raws). slot_at a 0) cons in
    let behind : drop (i + 1) t ≡ T = ap (λ (a : Raws). drop 1 a) cons in
    let P : Raws → ℕ → Type 0 = λ a n. Packs (kind_of h) size a n (take size new) in
    let whole : take i t ++ (tidied_raw h (held (key_in (kind_of h) (slot_at t i))) (slot_at t i) ++ drop (i + 1) t) ≡ half_tidied h held s i =
    (λ k. first k ++ (tidied_raw h (held (key_in (kind_of h) (at k))) (at k) ++ behind k)) ∙ ap (λ (a : Raws). take i s ++ a) (sym (tidied_drop h held s i below)) in
    subst (λ (n : ℕ). P (half_tidied h held s i) n) was.next_is (subst (λ (a : Raws). P a (next_of (take size old))) whole tidies.packs)

pub stays_same : (h : FileHead) (held : List ℕ → Bool) (size i : ℕ) (stays : Bool) (s : Raws) (next : ℕ) (old new : List ℕ) → i < length s
    → Packs (kind_of h) size (half_tidied h held s (i + 1)) next (take size old) → TidiesSlot h held size i stays old new
    → length (tidied_raw h (held (key_in (kind_of h) (slot_at s i))) (slot_at s i)) ≡ (if stays then 1 else 0)
stays_same h held size i stays s next old new below was tidies =
    let t = slots_of (kind_of h) (take size old) in
    let T = tidied_raws h held (drop (i + 1) s) in
    let x = slot_at s i in
    let front : take (i + 1) s ≡ take i s ++ (x ∷ []) = take_more s i [] below in
    let list : t ≡ take i s ++ (x ∷ T) = was.slots_are ∙ ap (λ (a : Raws). a ++ T) front ∙ append_assoc (take i s) (x ∷ []) T in
    let long : length (take i s) ≡ i = length-take-le i s (omega arith) in
    let rest : drop i t ≡ x ∷ T = ap (drop i) list ∙ drop_at (take i s) (x ∷ T) i long in
    let within : i < length t = omega (arith, ap (λ (a : Raws). length a) list, length-append (take i s) (x ∷ T), long) in
    let at : slot_at t i ≡ x = ap (λ (a : Raws). slot_at a 0) (sym (drop_more t i [] within) ∙ rest) in
    ap (λ y. length (tidied_raw h (held (key_in (kind_of h) y)) y)) (sym at) ∙ tidies.stays_is

-- where a place is, once slots from i on were tidied
abbrev pub moved_to : FileHead → (List ℕ → Bool) → Raws → ℕ → ℕ → ℕ
moved_to h held s place i = length (tidied_raws h held (take (place - i) (drop i s)))

abbrev pub count_if : Bool → ℕ
count_if t = if t then 1 else 0

if_both : (stays : Bool) (i place : ℕ) → i < place → count_if (stays && nat_lt i place) ≡ count_if stays
if_both true i place below = grind (arith, nat_tests)
if_both false i place below = refl

if_not : (stays : Bool) (i place : ℕ) → place ≤ i → count_if (stays && nat_lt i place) ≡ 0
if_not true i place over = grind (arith, nat_tests)
if_not false i place over = refl

pub moved_more : (h : FileHead) (held : List ℕ → Bool) (s : Raws) (place i moved : ℕ) (stays : Bool) → i < length s → moved ≡ moved_to h held s place (i + 1)
    → length (tidied_raw h (held (key_in (kind_of h) (slot_at s i))) (slot_at s i)) ≡ (if stays then 1 else 0) → moved + count_if (stays && nat_lt i place) ≡ moved_to h held s place i
moved_more h held s place i moved stays below was here = ⊎_elim
    (λ under. let more : place - i ≡ suc (place - (i + 1)) = omega arith in
    let list : take (place - i) (drop i s) ≡ slot_at s i ∷ take (place - (i + 1)) (drop (i + 1) s) = (λ k. take (more k) (drop_more s i [] below k)) in
    let t = tidied_raw h (held (key_in (kind_of h) (slot_at s i))) (slot_at s i) in
    let sum : moved_to h held s place i ≡ length t + moved_to h held s place (i + 1) = ap (λ (a : Raws). length (tidied_raws h held a)) list ∙ length-append t (tidied_raws h held (take (place - (i + 1)) (drop (i + 1) s))) in
    omega (arith, sum, was, here, if_both stays i place under))
    (λ over. let none : place - i ≡ 0 = omega arith in
    let none' : place - (i + 1) ≡ 0 = omega arith in
    let now : moved_to h held s place i ≡ 0 = ap (λ n. length (tidied_raws h held (take n (drop i s)))) none in
    let then_is : moved_to h held s place (i + 1) ≡ 0 = ap (λ n. length (tidied_raws h held (take n (drop (i + 1) s)))) none' in
    omega (arith, now, then_is, was, if_not stays i place over))
    (cases_lt i place)

-- the whole loop

half_all : (h : FileHead) (held : List ℕ → Bool) (s : Raws) (n : ℕ) → n ≡ length s → half_tidied h held s n ≡ s
half_all h held s n is = (λ k. take (is k) s ++ tidied_raws h held (drop (is k) s)) ∙ (λ k. take-length s k ++ tidied_raws h held (drop-length s k)) ∙ append-nil s

pub tidy_starts : (h : FileHead) (held : List ℕ → Bool) (size n : ℕ) (bytes : List ℕ) → IsPacked (kind_of h) size (take size bytes) → n ≡ length (slots_of (kind_of h) (take size bytes))
    → Packs (kind_of h) size (half_tidied h held (slots_of (kind_of h) (take size bytes)) n) (next_of (take size bytes)) (take size bytes)
tidy_starts h held size n bytes packed is = record { packed = packed; slots_are = sym (half_all h held (slots_of (kind_of h) (take size bytes)) n is); next_is = refl }

pub moved_starts : (h : FileHead) (held : List ℕ → Bool) (s : Raws) (place n : ℕ) → place ≤ n → 0 ≡ moved_to h held s place n
moved_starts h held s place n le = let none : place - n ≡ 0 = omega arith in sym (ap (λ m. length (tidied_raws h held (take m (drop n s)))) none)

pub half_long : (h : FileHead) (held : List ℕ → Bool) (s : Raws) (n : ℕ) → n ≤ length s → n ≤ length (half_tidied h held s n)
half_long h held s n within = omega (arith, length-append (take n s) (tidied_raws h held (drop n s)), length-take-le n s within)

-- one more step down
pub record Step (h : FileHead) (held : List ℕ → Bool) (size place i moved : ℕ) (s : Raws) (next : ℕ) (new : List ℕ) : Type 0 where
  pub packs : Packs (kind_of h) size (half_tidied h held s i) next (take size new)
  pub moved_is : moved ≡ moved_to h held s place i

pub tidy_goes_on : (h : FileHead) (held : List ℕ → Bool) (size place i k moved more : ℕ) (stays : Bool) (s : Raws) (next : ℕ) (old new : List ℕ) → k ≡ i + 1 → k ≤ length s
    → Packs (kind_of h) size (half_tidied h held s k) next (take size old) → moved ≡ moved_to h held s place k → TidiesSlot h held size i stays old new → more ≡ (if stays && nat_lt i place then 1 else 0)
    → Step h held size place i (moved + more) s next new
tidy_goes_on h held size place i k moved more stays s next old new is within was moved_was tidies more_is =
    let below : i < length s = omega arith in
    let packs : Packs (kind_of h) size (half_tidied h held s (i + 1)) next (take size old) = subst (λ (n : ℕ). Packs (kind_of h) size (half_tidied h held s n) next (take size old)) is was in
    let moved_then : moved ≡ moved_to h held s place (i + 1) = moved_was ∙ ap (moved_to h held s place) is in
    record {
      packs = tidies_more h held size i stays s next old new below packs tidies;
      moved_is = ap (λ n. moved + n) more_is ∙ moved_more h held s place i moved stays below moved_then (stays_same h held size i stays s next old new below packs tidies);
    }

pub moved_few : (h : FileHead) (held : List ℕ → Bool) (s : Raws) (place k : ℕ) → all_suit (kind_of h) s ≡ true → k ≤ length s → moved_to h held s place k + k ≤ length s
moved_few h held s place k suit within =
    let rest = take (place - k) (drop k s) in
    let few = tidied_count h held rest (all_suit-take (kind_of h) (place - k) (drop k s) (all_suit-drop (kind_of h) k s suit)) in
    omega (arith, few, length-take (place - k) (drop k s), length-drop k s)

pub few_one : (t : Bool) → count_if t ≤ 1
few_one true = omega arith
few_one false = omega arith

pub true_if : (t : Bool) → (t ≡ false → ⊥) → t ≡ true
true_if true h = refl
true_if false h = absurd (h refl)
