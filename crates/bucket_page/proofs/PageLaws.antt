-- Slots that are written are read back.
use Rattle.std.proofs.Common.{◌≡◌, ℕ, zero, suc, ◌<◌, ◌≤◌, ◌+◌, ◌-◌, ◌*◌, ◌/◌, ◌%◌, ◌==◌, ◌&&◌, ◌++◌, Bool, true, false, List, [], ◌∷◌, length, take, drop, replicate, get_or, refl, sym, ap, ◌∙◌, arith, rules, length-append, append_assoc}
use Rattle.std.proofs.lemmas.Bool.Decides.{nat_tests}
use Rattle.std.proofs.lemmas.List.{same_lists, places, take_at, drop_at, get_or_append_left, take-append-drop, length-take-le, length-drop, drop-drop, take_more, drop_more}
use Rattle.bucket_page.specs.declared.kind.PageKind.{PageKind}
use Rattle.bucket_page.specs.declared.kind.PageKind.TheVariants.{Seq, Rel, Data, Index}
use Rattle.file_base.specs.Bytes.{spliced}
use Rattle.bucket_page.specs.Moves.{opened, closed}
use Rattle.bucket_page.specs.Pages.{u16_at, u16_bytes, tag_of, front_size, slots_from, slots_of, next_of, joined, suits, tells_well, all_suit, header, page_of, IsPacked, reach, inserted, removed, replaced, Packs}

pub both_true : (a b : Bool) → (a && b) ≡ true → (a ≡ true) × (b ≡ true)
both_true true b h = (refl, h)
both_true false b h = cc

pub same_number : (m n : ℕ) → (m == n) ≡ true → m ≡ n
same_number m n is = grind (arith, nat_tests)

-- a slot is as long as its first bytes tell
pub suit_size : (kind : PageKind) (slot : List ℕ) → suits kind slot ≡ true → length slot ≡ front_size kind slot
suit_size kind slot suit = same_number (length slot) (front_size kind slot) (both_true (length slot == front_size kind slot) (tells_well kind slot) suit).0

pub front_size_least : (kind : PageKind) (rest : List ℕ) → 2 ≤ front_size kind rest
front_size_least Seq rest = omega arith
front_size_least (Rel mrs) rest = omega arith
front_size_least (Data pos size) rest = omega arith
front_size_least (Index size) rest = omega arith

u16_at-append : (slot more : List ℕ) → 2 ≤ length slot → u16_at (slot ++ more) 0 ≡ u16_at slot 0
u16_at-append slot more long = λ i. get_or_append_left slot more 0 0 (omega arith) i + 256 * get_or_append_left slot more 0 1 (omega arith) i

pub front_size_same : (kind : PageKind) (slot more : List ℕ) → 2 ≤ length slot → front_size kind (slot ++ more) ≡ front_size kind slot
front_size_same Seq slot more long = ap (λ n. 2 + n) (u16_at-append slot more long)
front_size_same (Rel mrs) slot more long = refl
front_size_same (Data pos size) slot more long = ap (λ n. 4 + n) (u16_at-append slot more long)
front_size_same (Index size) slot more long = refl

-- the first slot tells its own length
pub front_size-append : (kind : PageKind) (slot more : List ℕ) → suits kind slot ≡ true → front_size kind (slot ++ more) ≡ length slot
front_size-append kind slot more suit =
    let size = suit_size kind slot suit in
    front_size_same kind slot more (omega (arith, size, front_size_least kind slot)) ∙ sym size

pub slots_from-joined : (kind : PageKind) (slots : List (List ℕ)) (rest : List ℕ) → all_suit kind slots ≡ true → slots_from kind (length slots) (joined slots ++ rest) ≡ slots
slots_from-joined kind [] rest suit = refl
slots_from-joined kind (s ∷ ss) rest suit =
    let both = both_true (suits kind s) (all_suit kind ss) suit in
    let whole : (s ++ joined ss) ++ rest ≡ s ++ (joined ss ++ rest) = append_assoc s (joined ss) rest in
    let size : front_size kind ((s ++ joined ss) ++ rest) ≡ length s = ap (front_size kind) whole ∙ front_size-append kind s (joined ss ++ rest) both.0 in
    let first : take (front_size kind ((s ++ joined ss) ++ rest)) ((s ++ joined ss) ++ rest) ≡ s = (λ i. take (size i) (whole i)) ∙ take_at s (joined ss ++ rest) (length s) refl in
    let behind : drop (front_size kind ((s ++ joined ss) ++ rest)) ((s ++ joined ss) ++ rest) ≡ joined ss ++ rest = (λ i. drop (size i) (whole i)) ∙ drop_at s (joined ss ++ rest) (length s) refl in
    (λ i. first i ∷ slots_from kind (length ss) (behind i)) ∙ ap (λ t. s ∷ t) (slots_from-joined kind ss rest both.1)

-- a bucket that is written has its slots
pub slots_of-page_of : (kind : PageKind) (size : ℕ) (slots : List (List ℕ)) (next : ℕ) → all_suit kind slots ≡ true → slots_of kind (page_of kind size slots next) ≡ slots
slots_of-page_of kind size slots next suit =
    let count : length slots % 256 + 256 * (length slots / 256) ≡ length slots = omega arith in
    ap (λ n. slots_from kind n (joined slots ++ replicate (size - 16 - length (joined slots)) 0)) count ∙ slots_from-joined kind slots _ suit

pub joined-append : (a b : List (List ℕ)) → joined (a ++ b) ≡ joined a ++ joined b
joined-append [] b = refl
joined-append (s ∷ ss) b = ap (λ t. s ++ t) (joined-append ss b) ∙ sym (append_assoc s (joined ss) (joined b))

pub joined_parts : (slots : List (List ℕ)) (i : ℕ) → joined slots ≡ joined (take i slots) ++ joined (drop i slots)
joined_parts slots i = ap joined (sym (take-append-drop i slots)) ∙ joined-append (take i slots) (drop i slots)

pub all_suit-append : (kind : PageKind) (a b : List (List ℕ)) → all_suit kind a ≡ true → all_suit kind b ≡ true → all_suit kind (a ++ b) ≡ true
all_suit-append kind [] b ha hb = hb
all_suit-append kind (s ∷ ss) b ha hb =
    let both = both_true (suits kind s) (all_suit kind ss) ha in
    (λ i. both.0 i && all_suit-append kind ss b both.1 hb i)

pub all_suit-take : (kind : PageKind) (i : ℕ) (slots : List (List ℕ)) → all_suit kind slots ≡ true → all_suit kind (take i slots) ≡ true
all_suit-take kind zero slots h = refl
all_suit-take kind (suc i) [] h = refl
all_suit-take kind (suc i) (s ∷ ss) h = let both = both_true (suits kind s) (all_suit kind ss) h in λ k. both.0 k && all_suit-take kind i ss both.1 k

pub all_suit-drop : (kind : PageKind) (i : ℕ) (slots : List (List ℕ)) → all_suit kind slots ≡ true → all_suit kind (drop i slots) ≡ true
all_suit-drop kind zero slots h = h
all_suit-drop kind (suc i) [] h = refl
all_suit-drop kind (suc i) (s ∷ ss) h = all_suit-drop kind i ss (both_true (suits kind s) (all_suit kind ss) h).1

pub all_suit-inserted : (kind : PageKind) (i : ℕ) (slots : List (List ℕ)) (slot : List ℕ) → all_suit kind slots ≡ true → suits kind slot ≡ true → all_suit kind (inserted slots i slot) ≡ true
all_suit-inserted kind i slots slot h suit = all_suit-append kind (take i slots) (slot ∷ drop i slots) (all_suit-take kind i slots h) (λ k. suit k && all_suit-drop kind i slots h k)

-- where room was made among parts of which the last is zeros
pub opened_parts : (H a b slot : List ℕ) (z at end : ℕ) → at ≡ length H + length a → end ≡ at + length b → length slot ≤ z
    → opened (H ++ (a ++ (b ++ replicate z 0))) at end slot ≡ H ++ (a ++ (slot ++ (b ++ replicate (z - length slot) 0)))
opened_parts H a b slot z at end is to room = same_lists _ _ (search (rules, places)) (λ k d h. grind (arith, places))

-- the bytes from slot k on
pub rest_at : (kind : PageKind) (size k : ℕ) (bytes : List ℕ) → IsPacked kind size bytes
    → drop (reach (slots_of kind bytes) k) bytes ≡ joined (drop k (slots_of kind bytes)) ++ replicate (size - 16 - length (joined (slots_of kind bytes))) 0
rest_at kind size k bytes bucket =
    let slots = slots_of kind bytes in
    let zeros : List ℕ = replicate (size - 16 - length (joined slots)) 0 in
    ap (drop (reach slots k)) bucket.is
    ∙ sym (drop-drop (length (joined (take k slots))) 16 (page_of kind size slots (next_of bytes)))
    ∙ ap (λ j. drop (length (joined (take k slots))) (j ++ zeros)) (joined_parts slots k)
    ∙ ap (drop (length (joined (take k slots)))) (append_assoc (joined (take k slots)) (joined (drop k slots)) zeros)
    ∙ drop_at (joined (take k slots)) (joined (drop k slots) ++ zeros) (length (joined (take k slots))) refl

suit_long : (kind : PageKind) (slot : List ℕ) → suits kind slot ≡ true → 2 ≤ length slot
suit_long kind slot suit = omega (arith, suit_size kind slot suit, front_size_least kind slot)

-- slot k, and where the next one begins
pub record Stands (kind : PageKind) (slots : List (List ℕ)) (k : ℕ) (rest : List ℕ) : Type 0 where
  pub size : front_size kind rest ≡ length (get_or slots k [])
  pub long : 2 ≤ length (get_or slots k [])
  pub after : reach slots (k + 1) ≡ reach slots k + length (get_or slots k [])
  pub within : reach slots (k + 1) ≤ 16 + length (joined slots)

pub reach_more : (slots : List (List ℕ)) (k : ℕ) → k < length slots → reach slots (k + 1) ≡ reach slots k + length (get_or slots k [])
reach_more slots k below =
    let more : joined (take (k + 1) slots) ≡ joined (take k slots) ++ (get_or slots k [] ++ []) = ap joined (take_more slots k [] below) ∙ joined-append (take k slots) (get_or slots k [] ∷ []) in
    omega (arith, ap length more, length-append (joined (take k slots)) (get_or slots k [] ++ []), length-append (get_or slots k []) [])

pub reach_within : (slots : List (List ℕ)) (k : ℕ) → reach slots k ≤ 16 + length (joined slots)
reach_within slots k = omega (arith, ap length (joined_parts slots k), length-append (joined (take k slots)) (joined (drop k slots)))

pub slot_stands : (kind : PageKind) (size k : ℕ) (bytes : List ℕ) → IsPacked kind size bytes → k < length (slots_of kind bytes) → Stands kind (slots_of kind bytes) k (drop (reach (slots_of kind bytes) k) bytes)
slot_stands kind size k bytes bucket below =
    let slots = slots_of kind bytes in
    let zeros : List ℕ = replicate (size - 16 - length (joined slots)) 0 in
    let front = drop_more slots k [] below in
    let suit = both_true (suits kind (get_or slots k [])) (all_suit kind (drop (k + 1) slots)) (sym (ap (all_suit kind) front) ∙ all_suit-drop kind k slots bucket.suit) in
    record {
      size = ap (front_size kind) (rest_at kind size k bytes bucket ∙ ap (λ d. joined d ++ zeros) front ∙ append_assoc (get_or slots k []) (joined (drop (k + 1) slots)) zeros)
          ∙ front_size-append kind (get_or slots k []) (joined (drop (k + 1) slots) ++ zeros) suit.0;
      long = suit_long kind (get_or slots k []) suit.0;
      after = reach_more slots k below;
      within = reach_within slots (k + 1);
    }

pub few_slots : (kind : PageKind) (slots : List (List ℕ)) → all_suit kind slots ≡ true → 2 * length slots ≤ length (joined slots)
few_slots kind [] suit = omega arith
few_slots kind (s ∷ ss) suit =
    let both = both_true (suits kind s) (all_suit kind ss) suit in
    omega (arith, suit_long kind s both.0, few_slots kind ss both.1, length-append s (joined ss))

-- bytes that are those of such a bucket
pub held : (kind : PageKind) (size : ℕ) (slots : List (List ℕ)) (next : ℕ) (bytes : List ℕ) → bytes ≡ page_of kind size slots next → all_suit kind slots ≡ true
    → 16 + length (joined slots) ≤ size → next_of (page_of kind size slots next) ≡ next → Packs kind size slots next bytes
held kind size slots next bytes is suit fits same =
    let slots' = ap (slots_of kind) is ∙ slots_of-page_of kind size slots next suit in
    let next' = ap next_of is ∙ same in
    record {
      packed = record {
        is = is ∙ (λ i. page_of kind size (sym slots' i) (sym next' i));
        suit = ap (all_suit kind) slots' ∙ suit;
        fits = omega (arith, ap (λ (ss : List (List ℕ)). length (joined ss)) slots');
      };
      slots_are = slots';
      next_is = next';
    }

pub length-inserted : (slots : List (List ℕ)) (i : ℕ) (slot : List ℕ) → length (inserted slots i slot) ≡ length slots + 1
length-inserted slots i slot =
    omega (arith, length-append (take i slots) (slot ∷ drop i slots), ap length (sym (take-append-drop i slots)), length-append (take i slots) (drop i slots))

pub length-joined-inserted : (slots : List (List ℕ)) (i : ℕ) (slot : List ℕ) → length (joined (inserted slots i slot)) ≡ length (joined slots) + length slot
length-joined-inserted slots i slot =
    omega (
      arith,
      ap length (joined-append (take i slots) (slot ∷ drop i slots)),
      length-append (joined (take i slots)) (slot ++ joined (drop i slots)),
      length-append slot (joined (drop i slots)),
      ap length (joined_parts slots i),
      length-append (joined (take i slots)) (joined (drop i slots)),
    )

-- a slot put in, and the header brought up to it
pub insert_held : (kind : PageKind) (size i : ℕ) (bytes slot b1 b2 : List ℕ) (at end : ℕ) → IsPacked kind size bytes → suits kind slot ≡ true → 16 + length (joined (slots_of kind bytes)) + length slot ≤ size
    → at ≡ reach (slots_of kind bytes) i → end ≡ 16 + length (joined (slots_of kind bytes)) → b1 ≡ opened bytes at end slot
    → b2 ≡ spliced b1 2 (u16_bytes (length (slots_of kind bytes) + 1) ++ u16_bytes (length (joined (slots_of kind bytes)) + length slot))
    → Packs kind size (inserted (slots_of kind bytes) i slot) (next_of bytes) b2
insert_held kind size i bytes slot b1 b2 at end bucket suit room is to first second =
    let slots = slots_of kind bytes in
    let next = next_of bytes in
    let a = joined (take i slots) in
    let b = joined (drop i slots) in
    let z = size - 16 - length (joined slots) in
    let H = header (tag_of kind) (length slots) (length (joined slots)) next in
    let parts : bytes ≡ H ++ (a ++ (b ++ replicate z 0)) = bucket.is ∙ ap (λ j. H ++ (j ++ replicate z 0)) (joined_parts slots i) ∙ ap (λ t. H ++ t) (append_assoc a b (replicate z 0)) in
    let sum = length-append a b in
    let all = ap length (joined_parts slots i) in
    let opened1 = first ∙ ap (λ x. opened x at end slot) parts ∙ opened_parts H a b slot z at end is (omega (arith, is, to, sum, all)) (omega arith) in
    let count' = length-inserted slots i slot in
    let used' = length-joined-inserted slots i slot in
    let tail : a ++ (slot ++ (b ++ replicate (z - length slot) 0)) ≡ joined (inserted slots i slot) ++ replicate (z - length slot) 0 =
    ap (λ t. a ++ t) (sym (append_assoc slot b (replicate (z - length slot) 0))) ∙ sym (append_assoc a (slot ++ b) (replicate (z - length slot) 0))
    ∙ ap (λ j. j ++ replicate (z - length slot) 0) (sym (joined-append (take i slots) (slot ∷ drop i slots))) in
    let zeros : z - length slot ≡ size - 16 - length (joined (inserted slots i slot)) = omega (arith, used') in
    let page : b2 ≡ page_of kind size (inserted slots i slot) next =
    second ∙ ap (λ x. spliced x 2 (u16_bytes (length slots + 1) ++ u16_bytes (length (joined slots) + length slot))) opened1
    ∙ (λ k. header (tag_of kind) (sym count' k) (sym used' k) next ++ tail k)
    ∙ ap (λ n. header (tag_of kind) (length (inserted slots i slot)) (length (joined (inserted slots i slot))) next ++ (joined (inserted slots i slot) ++ replicate n 0)) zeros in
    held kind size (inserted slots i slot) next b2 page (all_suit-inserted kind i slots slot bucket.suit suit) (omega (arith, used')) (sym (ap next_of bucket.is))

low_high : (n : ℕ) → n % 256 + 256 * (n / 256) ≡ n
low_high n = omega arith

pub used_is : (kind : PageKind) (size : ℕ) (bytes : List ℕ) → IsPacked kind size bytes → u16_at bytes 4 ≡ length (joined (slots_of kind bytes))
used_is kind size bytes bucket = ap (λ b. u16_at b 4) bucket.is ∙ low_high (length (joined (slots_of kind bytes)))

pub count_is : (kind : PageKind) (size : ℕ) (bytes : List ℕ) → IsPacked kind size bytes → u16_at bytes 2 ≡ length (slots_of kind bytes)
count_is kind size bytes bucket = ap (λ b. u16_at b 2) bucket.is ∙ low_high (length (slots_of kind bytes))

-- where a piece was taken out among parts of which the last is zeros
pub closed_parts : (H a m b : List ℕ) (z at end : ℕ) → at ≡ length H + length a → end ≡ at + length m + length b
    → closed (H ++ (a ++ (m ++ (b ++ replicate z 0)))) at (length m) end ≡ H ++ (a ++ (b ++ replicate (z + length m) 0))
closed_parts H a m b z at end is to = same_lists _ _ (search (rules, places)) (λ k d h. grind (arith, places))

slot_between : (slots : List (List ℕ)) (i : ℕ) → i < length slots → joined slots ≡ joined (take i slots) ++ (get_or slots i [] ++ joined (drop (i + 1) slots))
slot_between slots i below = joined_parts slots i ∙ ap (λ d. joined (take i slots) ++ joined d) (drop_more slots i [] below)

length-removed : (slots : List (List ℕ)) (i : ℕ) → i < length slots → length (removed slots i) ≡ length slots - 1
length-removed slots i below =
    omega (arith, length-append (take i slots) (drop (i + 1) slots), length-take-le i slots (omega arith), length-drop {A = List ℕ} (i + 1) slots)

-- a slot taken out, and the header brought up to it
pub remove_held : (kind : PageKind) (size i : ℕ) (bytes b1 b2 : List ℕ) (at end long : ℕ) → IsPacked kind size bytes → i < length (slots_of kind bytes)
    → at ≡ reach (slots_of kind bytes) i → end ≡ 16 + length (joined (slots_of kind bytes)) → long ≡ length (get_or (slots_of kind bytes) i []) → b1 ≡ closed bytes at long end
    → b2 ≡ spliced b1 2 (u16_bytes (length (slots_of kind bytes) - 1) ++ u16_bytes (length (joined (slots_of kind bytes)) - long))
    → Packs kind size (removed (slots_of kind bytes) i) (next_of bytes) b2
remove_held kind size i bytes b1 b2 at end long bucket below is to tells first second =
    let slots = slots_of kind bytes in
    let next = next_of bytes in
    let a = joined (take i slots) in
    let m = get_or slots i [] in
    let b = joined (drop (i + 1) slots) in
    let z = size - 16 - length (joined slots) in
    let H = header (tag_of kind) (length slots) (length (joined slots)) next in
    let parts : bytes ≡ H ++ (a ++ (m ++ (b ++ replicate z 0))) =
    bucket.is ∙ ap (λ j. H ++ (j ++ replicate z 0)) (slot_between slots i below)
    ∙ ap (λ t. H ++ t) (append_assoc a (m ++ b) (replicate z 0) ∙ ap (λ t. a ++ t) (append_assoc m b (replicate z 0))) in
    let all = ap length (slot_between slots i below) in
    let sum1 = length-append a (m ++ b) in
    let sum2 = length-append m b in
    let sum3 = length-append a b in
    let joined' : joined (removed slots i) ≡ a ++ b = joined-append (take i slots) (drop (i + 1) slots) in
    let closed1 = first ∙ (λ k. closed (parts k) at (tells k) end) ∙ closed_parts H a m b z at end is (omega (arith, is, to, sum1, sum2, all)) in
    let count' = length-removed slots i below in
    let used' : length (joined slots) - long ≡ length (joined (removed slots i)) = omega (arith, ap length joined', sum1, sum2, sum3, all, tells) in
    let zeros : z + length m ≡ size - 16 - length (joined (removed slots i)) = omega (arith, ap length joined', sum1, sum2, sum3, all, bucket.fits) in
    let tail : a ++ (b ++ replicate (z + length m) 0) ≡ joined (removed slots i) ++ replicate (z + length m) 0 =
    sym (append_assoc a b (replicate (z + length m) 0)) ∙ ap (λ j. j ++ replicate (z + length m) 0) (sym joined') in
    let page : b2 ≡ page_of kind size (removed slots i) next =
    second ∙ ap (λ x. spliced x 2 (u16_bytes (length slots - 1) ++ u16_bytes (length (joined slots) - long))) closed1
    ∙ (λ k. header (tag_of kind) (sym count' k) (used' k) next ++ tail k)
    ∙ ap (λ n. header (tag_of kind) (length (removed slots i)) (length (joined (removed slots i))) next ++ (joined (removed slots i) ++ replicate n 0)) zeros in
    held kind size (removed slots i) next b2 page (all_suit-append kind (take i slots) (drop (i + 1) slots) (all_suit-take kind i slots bucket.suit) (all_suit-drop kind (i + 1) slots bucket.suit))
    (omega (arith, ap length joined', sum1, sum2, sum3, all, bucket.fits)) (sym (ap next_of bucket.is))

-- a piece over zeros, and zeros over a piece
pub over_zeros : (H j : List ℕ) (z at : ℕ) → at ≡ length H → length j ≤ z → spliced (H ++ replicate z 0) at j ≡ H ++ (j ++ replicate (z - length j) 0)
over_zeros H j z at is room = same_lists _ _ (search (rules, places)) (λ k d h. grind (arith, places))

pub zeros_over : (H a b : List ℕ) (z at count : ℕ) → at ≡ length H + length a → count ≡ length b → spliced (H ++ (a ++ (b ++ replicate z 0))) at (replicate count 0) ≡ H ++ (a ++ replicate (z + length b) 0)
zeros_over H a b z at count is all = same_lists _ _ (search (rules, places)) (λ k d h. grind (arith, places))

-- the slots from a place on, in a bucket that was empty
pub high_held : (kind : PageKind) (size i : ℕ) (low high piece b1 b2 : List ℕ) → IsPacked kind size low → Packs kind size [] (next_of high) high → i ≤ length (slots_of kind low)
    → piece ≡ joined (drop i (slots_of kind low)) → b1 ≡ spliced high 16 piece
    → b2 ≡ spliced b1 2 (u16_bytes (length (slots_of kind low) - i) ++ u16_bytes (length piece))
    → Packs kind size (drop i (slots_of kind low)) (next_of high) b2
high_held kind size i low high piece b1 b2 bucket empty there is first second =
    let slots = slots_of kind low in
    let next = next_of high in
    let j = joined (drop i slots) in
    let H = header (tag_of kind) 0 0 next in
    let none : size - 16 - 0 ≡ size - 16 = omega arith in
    let blank : high ≡ H ++ replicate (size - 16) 0 = empty.packed.is ∙ ap (λ (ss : List (List ℕ)). page_of kind size ss next) empty.slots_are ∙ ap (λ n. H ++ replicate n 0) none in
    let all = ap length (joined_parts slots i) in
    let sum = length-append (joined (take i slots)) j in
    let over = first ∙ (λ k. spliced (blank k) 16 (is k)) ∙ over_zeros H j (size - 16) 16 refl (omega (arith, bucket.fits, all, sum)) in
    let count : length slots - i ≡ length (drop i slots) = sym (length-drop i slots) in
    let page : b2 ≡ page_of kind size (drop i slots) next =
    second ∙ (λ k. spliced (over k) 2 (u16_bytes (count k) ++ u16_bytes (length (is k)))) in
    held kind size (drop i slots) next b2 page (all_suit-drop kind i slots bucket.suit) (omega (arith, bucket.fits, all, sum)) (sym (ap next_of blank))

-- the slots before a place stay
pub low_held : (kind : PageKind) (size i : ℕ) (low b1 b2 : List ℕ) (at count : ℕ) → IsPacked kind size low → i ≤ length (slots_of kind low) → at ≡ reach (slots_of kind low) i
    → count ≡ length (joined (drop i (slots_of kind low))) → b1 ≡ spliced low at (replicate count 0) → b2 ≡ spliced b1 2 (u16_bytes i ++ u16_bytes (at - 16))
    → Packs kind size (take i (slots_of kind low)) (next_of low) b2
low_held kind size i low b1 b2 at count bucket there is to first second =
    let slots = slots_of kind low in
    let next = next_of low in
    let a = joined (take i slots) in
    let b = joined (drop i slots) in
    let z = size - 16 - length (joined slots) in
    let H = header (tag_of kind) (length slots) (length (joined slots)) next in
    let parts : low ≡ H ++ (a ++ (b ++ replicate z 0)) = bucket.is ∙ ap (λ j. H ++ (j ++ replicate z 0)) (joined_parts slots i) ∙ ap (λ t. H ++ t) (append_assoc a b (replicate z 0)) in
    let all = ap length (joined_parts slots i) in
    let sum = length-append a b in
    let cleared = first ∙ ap (λ x. spliced x at (replicate count 0)) parts ∙ zeros_over H a b z at count is to in
    let few : i ≡ length (take i slots) = sym (length-take-le i slots there) in
    let used : at - 16 ≡ length a = omega (arith, is) in
    let zeros : z + length b ≡ size - 16 - length a = omega (arith, all, sum, bucket.fits) in
    let page : b2 ≡ page_of kind size (take i slots) next =
    second ∙ ap (λ x. spliced x 2 (u16_bytes i ++ u16_bytes (at - 16))) cleared
    ∙ (λ k. header (tag_of kind) (few k) (used k) next ++ (a ++ replicate (zeros k) 0)) in
    held kind size (take i slots) next b2 page (all_suit-take kind i slots bucket.suit) (omega (arith, all, sum, bucket.fits)) (sym (ap next_of bucket.is))

-- the bytes of the slots from a place on
pub piece_is : (kind : PageKind) (size i : ℕ) (bytes : List ℕ) (at end : ℕ) → IsPacked kind size bytes → at ≡ reach (slots_of kind bytes) i → end ≡ 16 + length (joined (slots_of kind bytes))
    → take (end - at) (drop at bytes) ≡ joined (drop i (slots_of kind bytes))
piece_is kind size i bytes at end bucket is to =
    let slots = slots_of kind bytes in
    let all = ap length (joined_parts slots i) in
    let sum = length-append (joined (take i slots)) (joined (drop i slots)) in
    let count : end - at ≡ length (joined (drop i slots)) = omega (arith, is, to, all, sum) in
    (λ k. take (count k) (drop (is k) bytes)) ∙ ap (take (length (joined (drop i slots)))) (rest_at kind size i bytes bucket)
    ∙ take_at (joined (drop i slots)) (replicate (size - 16 - length (joined slots)) 0) (length (joined (drop i slots))) refl

-- a piece among parts replaced by one of the same length
swapped : (H a m b slot : List ℕ) (z at : ℕ) → at ≡ length H + length a → length slot ≡ length m
    → spliced (H ++ (a ++ (m ++ (b ++ replicate z 0)))) at slot ≡ H ++ (a ++ (slot ++ (b ++ replicate z 0)))
swapped H a m b slot z at is same = same_lists _ _ (search (rules, places)) (λ k d h. grind (arith, places))

pub length-replaced : (slots : List (List ℕ)) (i : ℕ) (slot : List ℕ) → i < length slots → length (replaced slots i slot) ≡ length slots
length-replaced slots i slot below =
    omega (arith, length-append (take i slots) (slot ∷ drop (i + 1) slots), length-take-le i slots (omega arith), length-drop {A = List ℕ} (i + 1) slots)

-- another slot of the same length in place of one
pub replace_held : (kind : PageKind) (size i : ℕ) (bytes slot b1 : List ℕ) (at : ℕ) → IsPacked kind size bytes → suits kind slot ≡ true → i < length (slots_of kind bytes)
    → at ≡ reach (slots_of kind bytes) i → length slot ≡ length (get_or (slots_of kind bytes) i []) → b1 ≡ spliced bytes at slot
    → Packs kind size (replaced (slots_of kind bytes) i slot) (next_of bytes) b1
replace_held kind size i bytes slot b1 at bucket suit below is same first =
    let slots = slots_of kind bytes in
    let next = next_of bytes in
    let a = joined (take i slots) in
    let m = get_or slots i [] in
    let b = joined (drop (i + 1) slots) in
    let z = size - 16 - length (joined slots) in
    let H = header (tag_of kind) (length slots) (length (joined slots)) next in
    let parts : bytes ≡ H ++ (a ++ (m ++ (b ++ replicate z 0))) =
    bucket.is ∙ ap (λ j. H ++ (j ++ replicate z 0)) (slot_between slots i below)
    ∙ ap (λ t. H ++ t) (append_assoc a (m ++ b) (replicate z 0) ∙ ap (λ t. a ++ t) (append_assoc m b (replicate z 0))) in
    let all = ap length (slot_between slots i below) in
    let sum1 = length-append a (m ++ b) in
    let sum2 = length-append m b in
    let sum3 = length-append a (slot ++ b) in
    let sum4 = length-append slot b in
    let joined' : joined (replaced slots i slot) ≡ a ++ (slot ++ b) = joined-append (take i slots) (slot ∷ drop (i + 1) slots) in
    let swapped1 = first ∙ ap (λ x. spliced x at slot) parts ∙ swapped H a m b slot z at is same in
    let count' : length slots ≡ length (replaced slots i slot) = sym (length-replaced slots i slot below) in
    let used' : length (joined slots) ≡ length (joined (replaced slots i slot)) = omega (arith, ap length joined', sum1, sum2, sum3, sum4, all, same) in
    let tail : a ++ (slot ++ (b ++ replicate z 0)) ≡ joined (replaced slots i slot) ++ replicate z 0 =
    ap (λ t. a ++ t) (sym (append_assoc slot b (replicate z 0))) ∙ sym (append_assoc a (slot ++ b) (replicate z 0)) ∙ ap (λ j. j ++ replicate z 0) (sym joined') in
    let page : b1 ≡ page_of kind size (replaced slots i slot) next =
    swapped1 ∙ (λ k. header (tag_of kind) (count' k) (used' k) next ++ tail k)
    ∙ ap (λ n. header (tag_of kind) (length (replaced slots i slot)) (length (joined (replaced slots i slot))) next ++ (joined (replaced slots i slot) ++ replicate (size - 16 - n) 0)) used' in
    held kind size (replaced slots i slot) next b1 page
    (all_suit-append kind (take i slots) (slot ∷ drop (i + 1) slots) (all_suit-take kind i slots bucket.suit) (λ k. suit k && all_suit-drop kind (i + 1) slots bucket.suit k))
    (omega (arith, used', bucket.fits)) (sym (ap next_of bucket.is))
