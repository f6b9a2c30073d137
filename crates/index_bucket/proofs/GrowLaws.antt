-- Entries that a bucket of the index takes.
use Rattle.std.proofs.Common.{◌≡◌, ◌≤◌, ◌<◌, ◌+◌, ◌-◌, ◌*◌, ◌/◌, ℕ, true, List, length, take, drop, refl, sym, ap, ◌∙◌, subst, arith}
use Rattle.std.proofs.lemmas.Nat.{mul-le}
use Rattle.std.proofs.lemmas.List.{length-take, length-drop}
use Rattle.bucket_page.specs.declared.kind.PageKind.{PageKind}
use Rattle.bucket_page.specs.Pages.{suits, all_suit, joined, inserted, Packs}
use Rattle.bucket_page.proofs.PageLaws.{all_suit-inserted, all_suit-take, all_suit-drop, length-inserted, length-joined-inserted}
use Rattle.file_base.specs.declared.head.FileHead.{FileHead}
use Rattle.index_bucket.proofs.Places.{take_below, drop_below, take_above, drop_above}
use Rattle.index_bucket.specs.Entries.{index_kind}
use Rattle.index_bucket.proofs.EntryLaws.{joined_size}

abbrev Raws : Type 0
Raws = List (List ℕ)

pub high_room : (size i j : ℕ) (s t : Raws) (x : List ℕ) → 16 + length (joined (drop j (inserted s i x))) ≤ size → j ≤ i → i ≤ length s → t ≡ drop j s → 16 + length (joined t) + length x ≤ size
high_room size i j s t x room side place is =
    omega (arith, room, ap (λ (r : Raws). length (joined r)) (drop_below s i j x side place), length-joined-inserted (drop j s) (i - j) x, ap (λ (r : Raws). length (joined r)) is)

pub high_there : (i j : ℕ) (s t : Raws) → j ≤ i → i ≤ length s → t ≡ drop j s → i - j ≤ length t
high_there i j s t side place is = omega (arith, ap (λ (r : Raws). length r) is, length-drop j s, place)

pub low_there : (i j : ℕ) (s t : Raws) → i < j → i ≤ length s → t ≡ take (j - 1) s → i ≤ length t
low_there i j s t side place is = omega (arith, ap (λ (r : Raws). length r) is, length-take (j - 1) s, place)

pub low_room : (size i j : ℕ) (s t : Raws) (x : List ℕ) → 16 + length (joined (take j (inserted s i x))) ≤ size → i < j → j ≤ length s + 1 → t ≡ take (j - 1) s → 16 + length (joined t) + length x ≤ size
low_room size i j s t x room side within is =
    omega (arith, room, ap (λ (r : Raws). length (joined r)) (take_above s i j x side within), length-joined-inserted (take (j - 1) s) i x, ap (λ (r : Raws). length (joined r)) is)

-- packed bytes with the same slots and next bucket
pub packs_so : (kind : PageKind) (size next next' : ℕ) (r r' : Raws) (b : List ℕ) → r ≡ r' → next ≡ next' → Packs kind size r next b → Packs kind size r' next' b
packs_so kind size next next' r r' b same led packs = record { packed = packs.packed; slots_are = packs.slots_are ∙ same; next_is = packs.next_is ∙ led }

-- entries that are not too many fit
pub entries_fit : (h : FileHead) (size fan_out : ℕ) (raws : Raws) → all_suit (index_kind h) raws ≡ true → length raws ≤ fan_out → 16 + fan_out * (h.key_size + 4) ≤ size → 16 + length (joined raws) ≤ size
entries_fit h size fan_out raws suit few fits =
    let long = joined_size h raws suit in
    let most = mul-le (length raws) (h.key_size + 4) fan_out (h.key_size + 4) few (omega arith) in omega (arith, long, most, fits)

pub half_fits : (n fan_out : ℕ) → n ≤ fan_out + 2 → 3 ≤ fan_out → (n / 2 ≤ fan_out) × (n - n / 2 ≤ fan_out)
half_fits n fan_out few wide = (omega (arith, few, wide), omega (arith, few, wide))

-- one entry more in a bucket, or shared between two
module _ (h : FileHead) (size fan_out at : ℕ) (s : Raws) (x : List ℕ) (suit : all_suit (index_kind h) s ≡ true) (one : suits (index_kind h) x ≡ true) (fits : 16 + fan_out * (h.key_size + 4) ≤ size) where
  all_one : all_suit (index_kind h) (inserted s at x) ≡ true
  all_one = all_suit-inserted (index_kind h) at s x suit one

  pub one_room : length s + 1 ≤ fan_out → 16 + length (joined s) + length x ≤ size
  one_room few =
      let long = length-joined-inserted s at x in
      let room = entries_fit h size fan_out (inserted s at x) all_one (let n = length-inserted s at x in omega (arith, n, few)) fits in omega (arith, long, room)

  pub low_half : length s ≤ fan_out → 3 ≤ fan_out → 16 + length (joined (take ((length s + 1) / 2) (inserted s at x))) ≤ size
  low_half few wide =
      let n = length-inserted s at x in
      let taken = length-take ((length s + 1) / 2) (inserted s at x) in
      entries_fit h size fan_out (take ((length s + 1) / 2) (inserted s at x)) (all_suit-take (index_kind h) ((length s + 1) / 2) (inserted s at x) all_one) (omega (arith, n, taken, few, wide)) fits

  pub high_half : length s ≤ fan_out → 3 ≤ fan_out → 16 + length (joined (drop ((length s + 1) / 2) (inserted s at x))) ≤ size
  high_half few wide =
      let n = length-inserted s at x in
      let left = length-drop ((length s + 1) / 2) (inserted s at x) in
      entries_fit h size fan_out (drop ((length s + 1) / 2) (inserted s at x)) (all_suit-drop (index_kind h) ((length s + 1) / 2) (inserted s at x) all_one) (omega (arith, n, left, few, wide)) fits

-- Two entries, of which the first was shared already.

both_there : (i : ℕ) (s : Raws) (x : List ℕ) → i ≤ length s → i + 1 ≤ length (inserted s i x)
both_there i s x place = let n = length-inserted s i x in omega (arith, n, place)

-- a room for parts of a list is one for its shorter parts
pub shorter_low : (size i j : ℕ) (s : Raws) (y : List ℕ) → 16 + length (joined (take j (inserted s i y))) ≤ size → i < j → j ≤ length s + 1 → (16 + length (joined (take (j - 1) s)) + length y ≤ size)
shorter_low size i j s y room side within = low_room size i j s (take (j - 1) s) y room side within refl

pub shorter_high : (size i j : ℕ) (s : Raws) (y : List ℕ) → 16 + length (joined (drop j (inserted s i y))) ≤ size → j ≤ i → i ≤ length s → (16 + length (joined (drop j s)) + length y ≤ size)
shorter_high size i j s y room side place = high_room size i j s (drop j s) y room side place refl

-- the second comes into the lower bucket
module _ (size at half : ℕ) (s : Raws) (x y : List ℕ) (place : at ≤ length s) (within : half ≤ length s + 1) where
  abbrev one : Raws
  one = inserted s at x

  long_one : length one ≡ length s + 1
  long_one = length-inserted s at x

  pub low_first : at + 1 < half → 16 + length (joined (take half (inserted one (at + 1) y))) ≤ size → 16 + length (joined (take (half - 1) one)) ≤ size
  low_first side room = let n = long_one in let r = shorter_low size (at + 1) half one y room side (omega (arith, n, within)) in omega (arith, r)

  pub low_other : at + 1 < half → 16 + length (joined (drop half (inserted one (at + 1) y))) ≤ size → 16 + length (joined (drop (half - 1) one)) ≤ size
  low_other side room = let n = long_one in subst (λ (r : Raws). 16 + length (joined r) ≤ size) (drop_above one (at + 1) half y side (omega (arith, n, within))) room

  pub low_put : (t : Raws) → at + 1 < half → 16 + length (joined (take half (inserted one (at + 1) y))) ≤ size → t ≡ take (half - 1) one → 16 + length (joined t) + length y ≤ size
  low_put t side room is = let n = long_one in low_room size (at + 1) half one t y room side (omega (arith, n, within)) is

  pub low_is : at + 1 < half → inserted (take (half - 1) one) (at + 1) y ≡ take half (inserted one (at + 1) y)
  low_is side = let n = long_one in sym (take_above one (at + 1) half y side (omega (arith, n, within)))

  pub low_rest : at + 1 < half → drop (half - 1) one ≡ drop half (inserted one (at + 1) y)
  low_rest side = let n = long_one in sym (drop_above one (at + 1) half y side (omega (arith, n, within)))

  -- or into the upper one

  pub high_first : half ≤ at + 1 → 16 + length (joined (take half (inserted one (at + 1) y))) ≤ size → 16 + length (joined (take half one)) ≤ size
  high_first side room = let n = long_one in subst (λ (r : Raws). 16 + length (joined r) ≤ size) (take_below one (at + 1) half y side (omega (arith, n, place))) room

  pub high_other : half ≤ at + 1 → 16 + length (joined (drop half (inserted one (at + 1) y))) ≤ size → 16 + length (joined (drop half one)) ≤ size
  high_other side room = let n = long_one in let r = shorter_high size (at + 1) half one y room side (omega (arith, n, place)) in omega (arith, r)

  pub high_put : (t : Raws) → half ≤ at + 1 → 16 + length (joined (drop half (inserted one (at + 1) y))) ≤ size → t ≡ drop half one → 16 + length (joined t) + length y ≤ size
  high_put t side room is = let n = long_one in high_room size (at + 1) half one t y room side (omega (arith, n, place)) is

  pub high_is : half ≤ at + 1 → inserted (drop half one) (at + 1 - half) y ≡ drop half (inserted one (at + 1) y)
  high_is side = let n = long_one in sym (drop_below one (at + 1) half y side (omega (arith, n, place)))

  pub high_rest : half ≤ at + 1 → take half one ≡ take half (inserted one (at + 1) y)
  high_rest side = let n = long_one in sym (take_below one (at + 1) half y side (omega (arith, n, place)))

pub upper_there : (at half : ℕ) (s t : Raws) (x : List ℕ) → at ≤ length s → half ≤ at + 1 → t ≡ drop half (inserted s at x) → at + 1 - half ≤ length t
upper_there at half s t x place side is =
    let n = length-inserted s at x in let left = length-drop half (inserted s at x) in let long = ap (λ (r : Raws). length r) is in omega (arith, n, left, long, place, side)

-- two entries more in a bucket, or shared between two
module _ (h : FileHead) (size fan_out at : ℕ) (s : Raws) (x y : List ℕ) (suit : all_suit (index_kind h) s ≡ true) (one_suits : suits (index_kind h) x ≡ true) (two_suits : suits (index_kind h) y ≡ true) (fits : 16 + fan_out * (h.key_size + 4) ≤ size) where
  abbrev both : Raws
  both = inserted (inserted s at x) (at + 1) y

  all_both : all_suit (index_kind h) both ≡ true
  all_both = all_suit-inserted (index_kind h) (at + 1) (inserted s at x) y (all_suit-inserted (index_kind h) at s x suit one_suits) two_suits

  pub long_both : length both ≡ length s + 2
  long_both = let a = length-inserted s at x in let b = length-inserted (inserted s at x) (at + 1) y in omega (arith, a, b)

  pub first_room : length s + 2 ≤ fan_out → 16 + length (joined s) + length x ≤ size
  first_room few =
      let a = length-joined-inserted s at x in
      let n = length-inserted s at x in
      let room = entries_fit h size fan_out (inserted s at x) (all_suit-inserted (index_kind h) at s x suit one_suits) (omega (arith, n, few)) fits in omega (arith, a, room)

  pub second_room : (t : Raws) → length s + 2 ≤ fan_out → t ≡ inserted s at x → 16 + length (joined t) + length y ≤ size
  second_room t few is =
      let b = length-joined-inserted (inserted s at x) (at + 1) y in
      let n = long_both in
      let same = ap (λ (r : Raws). length (joined r)) is in
      let room = entries_fit h size fan_out both all_both (omega (arith, n, few)) fits in omega (arith, b, room, same)

  pub low_both : length s ≤ fan_out → 3 ≤ fan_out → 16 + length (joined (take ((length s + 2) / 2) both)) ≤ size
  low_both few wide =
      let n = long_both in
      let taken = length-take ((length s + 2) / 2) both in
      entries_fit h size fan_out (take ((length s + 2) / 2) both) (all_suit-take (index_kind h) ((length s + 2) / 2) both all_both) (omega (arith, n, taken, few, wide)) fits

  pub high_both : length s ≤ fan_out → 3 ≤ fan_out → 16 + length (joined (drop ((length s + 2) / 2) both)) ≤ size
  high_both few wide =
      let n = long_both in
      let left = length-drop ((length s + 2) / 2) both in
      entries_fit h size fan_out (drop ((length s + 2) / 2) both) (all_suit-drop (index_kind h) ((length s + 2) / 2) both all_both) (omega (arith, n, left, few, wide)) fits
