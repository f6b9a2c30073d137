-- Entries of one bucket of an index.
use Rattle.std.proofs.Common.{◌≡◌, ◌≤◌, ◌<◌, ⊎_elim, ℕ, suc, ◌+◌, ◌-◌, ◌*◌, ◌==◌, ◌&&◌, ◌||◌, Bool, true, false, not, List, [], ◌∷◌, length, map, if◌then◌else◌, take, drop, refl, sym, ap, ◌∙◌, length-append, arith}
use Rattle.std.specs.List.{list_any}
use Rattle.std.specs.Ordering.{nat_cmp, is_lt, ordering_reverse}
use Rattle.std.specs.declared.cmp.Ordering.{Ordering}
use Rattle.std.specs.declared.cmp.Ordering.TheVariants.{Greater}
use Rattle.std.specs.Cmp.Lexicographic.{slice_cmp}
use Rattle.std.proofs.lemmas.Bool.{cases_lt}
use Rattle.std.proofs.lemmas.Bool.Decides.{nat_tests}
use Rattle.std.proofs.lemmas.Cmp.{nat_list_cmp_total}
use Rattle.std.proofs.lemmas.List.{length-take-le, get_or-drop}
use Rattle.std.specs.Prelude.{slice_index}
use Rattle.file_base.specs.declared.head.FileHead.{FileHead}
use Rattle.bucket_page.specs.Pages.{key_in, slot_at, slots_of, joined, reach, suits, all_suit, ascend, u32_at, IsPacked}
use Rattle.bucket_page.proofs.PageLaws.{both_true, all_suit-take, slot_stands}
use Rattle.bucket_page.proofs.Orders.{ascend_at, slot_here}
use Rattle.byteorder.specs.Endian.{little_number}
use Rattle.index_bucket.proofs.Places.{slot_suits}
use Rattle.index_model.specs.records_model.Slots.{bytes_before}
use Rattle.index_model.proofs.records_model.SlotLaws.{before_trans, if_true, if_false}
use Rattle.index_model.specs.Indexes.{Entry, leads_by, child_for, entry_place, AllBelow}
use Rattle.index_bucket.specs.Entries.{index_kind, entry_of, entries_at}
use Rattle.index_model.specs.Trees.{child_of}

pub same_number : (m n : ℕ) → ((m == n) && true) ≡ true → m ≡ n
same_number m n h = grind (arith, nat_tests)

pub entry_size : (h : FileHead) (slots : List (List ℕ)) (i : ℕ) → all_suit (index_kind h) slots ≡ true → i < length slots → length (slot_at slots i) ≡ h.key_size + 4
entry_size h slots i suit below = same_number _ _ (slot_suits (index_kind h) slots i suit below)

-- the key of entry j
abbrev pub separator_at : FileHead → List (List ℕ) → ℕ → List ℕ
separator_at h raws j = key_in (index_kind h) (slot_at raws j)

not_after : (a k : List ℕ) (o : Ordering) → slice_cmp nat_cmp a k ≡ o → is_lt (ordering_reverse o) ≡ false → bytes_before k a ≡ false
not_after a k o is low = ap is_lt (nat_list_cmp_total.antisymm k a) ∙ ap (λ x. is_lt (ordering_reverse x)) is ∙ low

pub all_lead : (h : FileHead) (k : List ℕ) (raws : List (List ℕ)) (m : ℕ) (o : Ordering) → ascend (index_kind h) raws ≡ true → m < length raws → slice_cmp nat_cmp (separator_at h raws m) k ≡ o → is_lt (ordering_reverse o) ≡ false
    → (j : ℕ) → j < m + 1 → bytes_before k (separator_at h raws j) ≡ false
all_lead h k raws m o order below is low j under = ⊎_elim
    (λ before. go (bytes_before k (separator_at h raws j)) refl (ascend_at (index_kind h) raws j m order before below))
    (λ here. let same : j ≡ m = omega arith in ap (λ n. bytes_before k (separator_at h raws n)) same ∙ not_after (separator_at h raws m) k o is low)
    (cases_lt j m)
  where
    go : (t : Bool) → bytes_before k (separator_at h raws j) ≡ t → bytes_before (separator_at h raws j) (separator_at h raws m) ≡ true → t ≡ false
    go true less up =
        let more = before_trans k (separator_at h raws j) (separator_at h raws m) less up in
        let not = not_after (separator_at h raws m) k o is low in
        let none : ⊥ = cc in absurd none
    go false not up = refl

pub all_above : (h : FileHead) (k : List ℕ) (raws : List (List ℕ)) (m : ℕ) → ascend (index_kind h) raws ≡ true → slice_cmp nat_cmp (separator_at h raws m) k ≡ Greater
    → (j : ℕ) → m ≤ j → j < length raws → bytes_before k (separator_at h raws j) ≡ true
all_above h k raws m order more j from below =
    let first : bytes_before k (separator_at h raws m) ≡ true = ap is_lt (nat_list_cmp_total.antisymm k (separator_at h raws m) ∙ ap ordering_reverse more) in
    ⊎_elim
    (λ after. before_trans k (separator_at h raws m) (separator_at h raws j) first (ascend_at (index_kind h) raws m j order after below))
    (λ here. let same : j ≡ m = omega arith in ap (λ n. bytes_before k (separator_at h raws n)) same ∙ first)
    (cases_lt m j)

none_leads : (h : FileHead) (k : List ℕ) (raws : List (List ℕ)) → ((j : ℕ) → j < length raws → bytes_before k (separator_at h raws j) ≡ true) → list_any (leads_by k) (map (entry_of h) raws) ≡ false
none_leads h k [] above = refl
none_leads h k (s ∷ ss) above = go (bytes_before k (key_in (index_kind h) s)) (above 0 (omega arith)) (none_leads h k ss (λ j below. above (suc j) (omega (arith, below))))
  where
    go : (t : Bool) → t ≡ true → list_any (leads_by k) (map (entry_of h) ss) ≡ false → (not t || list_any (leads_by k) (map (entry_of h) ss)) ≡ false
    go true is later = later
    go false is later = cc

first_leads : (h : FileHead) (k : List ℕ) (raws : List (List ℕ)) → 1 ≤ length raws → bytes_before k (separator_at h raws 0) ≡ false → list_any (leads_by k) (map (entry_of h) raws) ≡ true
first_leads h k [] some low = absurd (omega arith)
first_leads h k (s ∷ ss) some low = go (bytes_before k (key_in (index_kind h) s)) low
  where
    go : (t : Bool) → t ≡ false → (not t || list_any (leads_by k) (map (entry_of h) ss)) ≡ true
    go true is = cc
    go false is = refl

-- the place of the last entry that is at most a key, of which so many are
pub place_is : (h : FileHead) (k : List ℕ) (raws : List (List ℕ)) (low : ℕ) → low ≤ length raws → ((j : ℕ) → j < low → bytes_before k (separator_at h raws j) ≡ false)
    → ((j : ℕ) → low ≤ j → j < length raws → bytes_before k (separator_at h raws j) ≡ true) → entry_place k (map (entry_of h) raws) ≡ low - 1
place_is h k [] low within lower higher = omega (arith, within)
place_is h k (s ∷ ss) low within lower higher = ⊎_elim few
    (λ more. many more (place_is h k ss (low - 1) (omega (arith, within)) (λ j under. lower (suc j) (omega (arith, under))) (λ j from below. higher (suc j) (omega (arith, from)) (omega (arith, below)))))
    (cases_lt low 2)
  where
    few : low < 2 → (if list_any (leads_by k) (map (entry_of h) ss) then suc (entry_place k (map (entry_of h) ss)) else 0) ≡ low - 1
    few less = if_false (list_any (leads_by k) (map (entry_of h) ss)) _ _ (none_leads h k ss (λ j below. higher (suc j) (omega (arith, less)) (omega (arith, below)))) ∙ zero_is
      where
        zero_is : 0 ≡ low - 1
        zero_is = omega (arith, less)

    many : 2 ≤ low → entry_place k (map (entry_of h) ss) ≡ (low - 1) - 1 → (if list_any (leads_by k) (map (entry_of h) ss) then suc (entry_place k (map (entry_of h) ss)) else 0) ≡ low - 1
    many more rest = if_true (list_any (leads_by k) (map (entry_of h) ss)) _ _ (first_leads h k ss (omega (arith, within, more)) (lower 1 (omega (arith, more)))) ∙ one_more
      where
        one_more : suc (entry_place k (map (entry_of h) ss)) ≡ low - 1
        one_more = omega (arith, rest, more)

-- the child that a key leads to is that of the entry at the place
pub child_at : (h : FileHead) (k : List ℕ) (raws : List (List ℕ)) → 1 ≤ length raws → u32_at (slot_at raws (entry_place k (map (entry_of h) raws))) h.key_size ≡ child_for k (map (entry_of h) raws)
child_at h k [] some = absurd (omega arith)
child_at h k (s ∷ []) some = refl
child_at h k (s ∷ t ∷ ts) some = go (list_any (leads_by k) (map (entry_of h) (t ∷ ts))) (child_at h k (t ∷ ts) (omega arith))
  where
    go : (b : Bool) → u32_at (slot_at (t ∷ ts) (entry_place k (map (entry_of h) (t ∷ ts)))) h.key_size ≡ child_for k (map (entry_of h) (t ∷ ts))
        → u32_at (slot_at (s ∷ t ∷ ts) (if b then suc (entry_place k (map (entry_of h) (t ∷ ts))) else 0)) h.key_size ≡ (if b then child_for k (map (entry_of h) (t ∷ ts)) else u32_at s h.key_size)
    go true same = same
    go false same = refl

pub child_below : (used : ℕ) (k : List ℕ) (es : List Entry) → 1 ≤ length es → AllBelow used (map child_of es) → child_for k es < used
child_below used k [] some all = absurd (omega arith)
child_below used k (e ∷ []) some all = all.0
child_below used k (e ∷ f ∷ fs) some all = go (list_any (leads_by k) (f ∷ fs)) (child_below used k (f ∷ fs) (omega arith) all.1)
  where
    go : (b : Bool) → child_for k (f ∷ fs) < used → (if b then child_for k (f ∷ fs) else e.child) < used
    go true later = later
    go false later = all.0

pub length_entries : (h : FileHead) (raws : List (List ℕ)) → length (map (entry_of h) raws) ≡ length raws
length_entries h [] = refl
length_entries h (s ∷ ss) = ap suc (length_entries h ss)

pub count_entries : (h : FileHead) (bytes : List ℕ) → length (entries_at h bytes) ≡ length (slots_of (index_kind h) bytes)
count_entries h bytes = length_entries h (slots_of (index_kind h) bytes)

-- where the search for a key ends
pub place_found : (h : FileHead) (k : List ℕ) (raws : List (List ℕ)) (low high : ℕ) → low ≤ high → high ≤ length raws → high ≤ low → ((j : ℕ) → j < low → bytes_before k (separator_at h raws j) ≡ false)
    → ((j : ℕ) → high ≤ j → j < length raws → bytes_before k (separator_at h raws j) ≡ true) → entry_place k (map (entry_of h) raws) ≡ low - 1
place_found h k raws low high order within end lower higher = place_is h k raws low (omega (arith, order, within)) lower (λ j from below. higher j (omega (arith, end, from)) below)

-- Where an entry stands.

-- entries of one length
pub joined_size : (h : FileHead) (raws : List (List ℕ)) → all_suit (index_kind h) raws ≡ true → length (joined raws) ≡ length raws * (h.key_size + 4)
joined_size h [] suit = omega arith
joined_size h (s ∷ ss) suit =
    let both = both_true (suits (index_kind h) s) (all_suit (index_kind h) ss) suit in
    let one = same_number _ _ both.0 in
    let later = joined_size h ss both.1 in
    let long = length-append s (joined ss) in
    let more : suc (length ss) * (h.key_size + 4) ≡ (h.key_size + 4) + length ss * (h.key_size + 4) = step (length ss) (h.key_size + 4) in omega (arith, one, later, long, more)
  where
    step : (n w : ℕ) → suc n * w ≡ w + n * w
    step n w = grind arith

-- entries stand behind the header, one behind the other
pub entry_reach : (h : FileHead) (slots : List (List ℕ)) (i : ℕ) → all_suit (index_kind h) slots ≡ true → i ≤ length slots → reach slots i ≡ 16 + i * (h.key_size + 4)
entry_reach h slots i suit within =
    let long = joined_size h (take i slots) (all_suit-take (index_kind h) i slots suit) in
    let count = length-take-le i slots within in
    let all : length (take i slots) * (h.key_size + 4) ≡ i * (h.key_size + 4) = ap (λ n. n * (h.key_size + 4)) count in omega (arith, long, all)

-- an entry ends within the bucket
pub entry_within : (h : FileHead) (size i : ℕ) (bytes : List ℕ) → IsPacked (index_kind h) size bytes → i < length (slots_of (index_kind h) bytes) → 16 + i * (h.key_size + 4) + (h.key_size + 4) ≤ size
entry_within h size i bytes packed below =
    let stands = slot_stands (index_kind h) size i bytes packed below in
    let at = entry_reach h (slots_of (index_kind h) bytes) i packed.suit (omega (arith, below)) in
    let long = entry_size h (slots_of (index_kind h) bytes) i packed.suit below in
    let after = stands.after in
    let within = stands.within in
    let fits = packed.fits in omega (arith, at, long, after, within, fits)

-- the bytes there are those of the slot
pub entry_there : (h : FileHead) (size i : ℕ) (bytes : List ℕ) → IsPacked (index_kind h) size bytes → i < length (slots_of (index_kind h) bytes)
    → take (h.key_size + 4) (drop (16 + i * (h.key_size + 4)) bytes) ≡ slot_at (slots_of (index_kind h) bytes) i
entry_there h size i bytes packed below =
    ap (λ n. take (h.key_size + 4) (drop n bytes)) (sym (entry_reach h (slots_of (index_kind h) bytes) i packed.suit (omega (arith, below)))) ∙ (slot_here (index_kind h) size i bytes packed below).is

-- a number of four bytes at the end of an entry
pub child_read : (raw : List ℕ) (k : ℕ) → little_number 4 (drop k raw) ≡ u32_at raw k
child_read raw k =
    let a = byte 0 k (omega arith) in
    let b = byte 1 (k + 1) refl in
    let c = byte 2 (k + 2) refl in
    let d = byte 3 (k + 2 + 1) (omega arith) in omega (arith, a, b, c, d)
  where
    byte : (i j : ℕ) → k + i ≡ j → slice_index (drop k raw) i ≡ slice_index raw j
    byte i j is = get_or-drop k raw i _ ∙ ap (slice_index raw) is
