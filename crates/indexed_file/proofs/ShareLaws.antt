-- Slots that are shared between two buckets.
use Rattle.std.proofs.Common.{◌≡◌, ℕ, ◌<◌, ◌≤◌, ◌+◌, ◌-◌, Bool, true, false, List, [], length, take, drop, map, refl, sym, ap, subst, ◌∙◌, arith}
use Rattle.std.proofs.lemmas.List.{length-map, length-take, length-drop}
use Rattle.file_base.specs.declared.head.FileHead.{FileHead}
use Rattle.bucket_page.specs.Pages.{slots_of, next_of, suits, all_suit, joined, inserted, Packs}
use Rattle.bucket_page.proofs.PageLaws.{all_suit-inserted, length-inserted, length-joined-inserted}
use Rattle.change_set.specs.records_model.Parts.{bytes_of, fits_at}
use Rattle.indexed_file.specs.Chain.{kind_of, slot_of}
use Rattle.indexed_file.proofs.TidyLaws.{true_if}
use Rattle.indexed_file.proofs.PlaceLaws.{bytes_taken, bytes_dropped, take_below, drop_below, take_above, drop_above, fits_tells}

abbrev Raws : Type 0
Raws = List (List ℕ)

-- what a place that fits tells of the slots about it
pub record Shares (size i j : ℕ) (s : Raws) (x : List ℕ) : Type 0 where
  pub one : 1 ≤ j
  pub within : j ≤ length s
  pub low : 16 + length (joined (take j (inserted s i x))) ≤ size
  pub high : 16 + length (joined (drop j (inserted s i x))) ≤ size

pub shares : (h : FileHead) (size i j : ℕ) (s : Raws) (x : List ℕ) → 16 ≤ size → all_suit (kind_of h) s ≡ true → suits (kind_of h) x ≡ true → fits_at (size - 16) (map (slot_of h) (inserted s i x)) j ≡ true → Shares size i j s x
shares h size i j s x least suit one fits =
    let raws = inserted s i x in
    let all = all_suit-inserted (kind_of h) i s x suit one in
    let slots = map (slot_of h) raws in
    let tells = fits_tells (size - 16) j (length slots) (bytes_of (take j slots)) (bytes_of (drop j slots)) fits in
    let count = length-map raws (slot_of h) in
    record {
      one = tells.one;
      within = omega (arith, tells.within, count, length-inserted s i x);
      low = omega (arith, tells.low, bytes_taken h raws j all, least);
      high = omega (arith, tells.high, bytes_dropped h raws j all, least);
    }

-- the slot comes into the upper bucket

pub high_there : (size i j : ℕ) (s t : Raws) (x : List ℕ) → Shares size i j s x → j ≤ i → i ≤ length s → t ≡ drop j s → i - j ≤ length t
high_there size i j s t x shared side place is = omega (arith, ap (λ (r : Raws). length r) is, length-drop j s, shared.within)

pub high_room : (size i j : ℕ) (s t : Raws) (x : List ℕ) → Shares size i j s x → j ≤ i → i ≤ length s → t ≡ drop j s → 16 + length (joined t) + length x ≤ size
high_room size i j s t x shared side place is =
    omega (arith, shared.high, ap (λ (r : Raws). length (joined r)) (drop_below s i j x side place), length-joined-inserted (drop j s) (i - j) x, ap (λ (r : Raws). length (joined r)) is)

pub high_low : (h : FileHead) (size i j next : ℕ) (s : Raws) (x low : List ℕ) → j ≤ i → i ≤ length s → Packs (kind_of h) size (take j s) next low → Packs (kind_of h) size (take j (inserted s i x)) next low
high_low h size i j next s x low side place packs = subst (λ (r : Raws). Packs (kind_of h) size r next low) (sym (take_below s i j x side place)) packs

pub high_high : (h : FileHead) (size i j next : ℕ) (s : Raws) (x high1 high2 : List ℕ) → j ≤ i → i ≤ length s → Packs (kind_of h) size (drop j s) next high1
    → Packs (kind_of h) size (inserted (slots_of (kind_of h) high1) (i - j) x) (next_of high1) high2 → Packs (kind_of h) size (drop j (inserted s i x)) next high2
high_high h size i j next s x high1 high2 side place was put =
    let P : Raws → ℕ → Type 0 = λ r n. Packs (kind_of h) size r n high2 in
    subst (λ (r : Raws). P r next) (ap (λ (r : Raws). inserted r (i - j) x) was.slots_are ∙ sym (drop_below s i j x side place))
    (subst (λ (n : ℕ). P (inserted (slots_of (kind_of h) high1) (i - j) x) n) was.next_is put)

-- and into the lower one

pub low_there : (size i j : ℕ) (s t : Raws) (x : List ℕ) → Shares size i j s x → i < j → t ≡ take (j - 1) s → i ≤ length t
low_there size i j s t x shared side is = omega (arith, ap (λ (r : Raws). length r) is, length-take (j - 1) s, shared.within)

pub low_room : (size i j : ℕ) (s t : Raws) (x : List ℕ) → Shares size i j s x → i < j → t ≡ take (j - 1) s → 16 + length (joined t) + length x ≤ size
low_room size i j s t x shared side is =
    omega (arith, shared.low, ap (λ (r : Raws). length (joined r)) (take_above s i j x side (omega (arith, shared.within))), length-joined-inserted (take (j - 1) s) i x, ap (λ (r : Raws). length (joined r)) is)

pub low_low : (h : FileHead) (size i j next : ℕ) (s : Raws) (x low1 low2 : List ℕ) → i < j → j ≤ length s → Packs (kind_of h) size (take (j - 1) s) next low1
    → Packs (kind_of h) size (inserted (slots_of (kind_of h) low1) i x) (next_of low1) low2 → Packs (kind_of h) size (take j (inserted s i x)) next low2
low_low h size i j next s x low1 low2 side within was put =
    let P : Raws → ℕ → Type 0 = λ r n. Packs (kind_of h) size r n low2 in
    subst (λ (r : Raws). P r next) (ap (λ (r : Raws). inserted r i x) was.slots_are ∙ sym (take_above s i j x side (omega arith)))
    (subst (λ (n : ℕ). P (inserted (slots_of (kind_of h) low1) i x) n) was.next_is put)

pub low_high : (h : FileHead) (size i j next : ℕ) (s : Raws) (x high : List ℕ) → i < j → j ≤ length s → Packs (kind_of h) size (drop (j - 1) s) next high → Packs (kind_of h) size (drop j (inserted s i x)) next high
low_high h size i j next s x high side within packs = subst (λ (r : Raws). Packs (kind_of h) size r next high) (sym (drop_above s i j x side (omega arith))) packs

-- a slot that has room is put in
pub was_put : (t : Bool) (size m n : ℕ) → (t ≡ false → size < 16 + m + n) → 16 + m + n ≤ size → t ≡ true
was_put t size m n full room = true_if t (λ none. let wrong = full none in omega arith)

-- a bucket without slots has the next one that it has
pub empty_as : (h : FileHead) (size next : ℕ) (b : List ℕ) → Packs (kind_of h) size [] next b → Packs (kind_of h) size [] (next_of b) b
empty_as h size next b packs = record { packed = packs.packed; slots_are = packs.slots_are; next_is = refl }

pub packs_as : (h : FileHead) (size next next' : ℕ) (r r' : Raws) (b : List ℕ) → r ≡ r' → next ≡ next' → Packs (kind_of h) size r next b → Packs (kind_of h) size r' next' b
packs_as h size next next' r r' b same led packs =
    subst (λ (n : ℕ). Packs (kind_of h) size r' n b) led (subst (λ (q : Raws). Packs (kind_of h) size q next b) same packs)

-- a slot put into a bucket without slots
pub alone_room : (size : ℕ) (t : Raws) (x : List ℕ) → t ≡ [] → 16 + length x ≤ size → 16 + length (joined t) + length x ≤ size
alone_room size t x none room = omega (arith, room, ap (λ (r : Raws). length (joined r)) none)
