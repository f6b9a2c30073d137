-- The parts of a leaf in which a key is set.
use Rattle.std.proofs.Common.{◌≡◌, ◌≤◌, ◌<◌, ◌⊎◌, ⊎_elim, inl, inr, ℕ, zero, suc, ◌+◌, ◌&&◌, ◌||◌, Bool, true, false, List, [], ◌∷◌, ◌++◌, Option, Some, None, length, take, drop, if◌then◌else◌, nat_le, refl, sym, ap, ◌∙◌, subst, length-drop, arith}
use Rattle.std.proofs.lemmas.List.{drop-drop}
use Rattle.std.proofs.lemmas.Bool.{cases_lt}
use Rattle.std.proofs.lemmas.Bool.Decides.{nat_tests}
use Rattle.records_model.specs.Slots.{Slot, same_bytes, bytes_before, size_of, with_value, with_new, put, tidied_slot, tidied}
use Rattle.records_model.specs.Parts.{bytes_of, fits_at, has_place, whole, two, three, IsParted, parted}
use Rattle.records_model.specs.Chain.{place_of, bucket_with}
use Rattle.records_model.proofs.SlotLaws.{same_bytes_are, same_self, before_not_same, before_total, if_true, if_false, put_cases}
use Rattle.records_model.proofs.PartLaws.{parted_by_rule}
use Rattle.tree_model.specs.Trees.{AllHold}
use Rattle.tree_model.proofs.Tests.{fits_test}

-- each part has slots
abbrev pub AllFull : List (List Slot) → Type 0
AllFull [] = Unit {0}
AllFull (p ∷ ps) = (1 ≤ length p) × AllFull ps

-- each part fits, and its records
abbrev pub PartsFit : ℕ → List (List Slot) → Type 0
PartsFit cap [] = Unit {0}
PartsFit cap (p ∷ ps) = ((bytes_of p ≤ cap) × AllHold p) × PartsFit cap ps

-- the parts of a leaf: one alone, or up to three with slots
pub record AreParts (cap : ℕ) (parts : List (List Slot)) : Type 0 where
  pub full : (length parts ≡ 1) ⊎ AllFull parts
  pub fit : PartsFit cap parts
  pub some : 1 ≤ length parts
  pub few : length parts ≤ 3

pub not_itself : (k : List ℕ) → bytes_before k k ≡ false
not_itself k = go (bytes_before k k) refl
  where
    go : (t : Bool) → bytes_before k k ≡ t → t ≡ false
    go true less = let a = before_not_same k k less in let b = same_self k in let none : ⊥ = cc in absurd none
    go false not = refl

-- The slot that is new or grown: all others have no more bytes than before, and it fits alone.
record PutsOne (cap : ℕ) (slots more : List Slot) (p : ℕ) : Type 0 where
  place : p < length more
  others : bytes_of (take p more) + bytes_of (drop (suc p) more) ≤ bytes_of slots
  one : bytes_of (take 1 (drop p more)) ≤ cap

at_front : (cap : ℕ) (k : List ℕ) (slots : List Slot) (x : Slot) (rest : List Slot) → bytes_before x.key k ≡ false → bytes_of rest ≤ bytes_of slots → 4 + x.room ≤ cap → PutsOne cap slots (x ∷ rest) (place_of k (x ∷ rest))
at_front cap k slots x rest not less fits = subst (PutsOne cap slots (x ∷ rest)) (sym (if_false (bytes_before x.key k) _ 0 not)) (record { place = omega arith; others = omega (arith, less); one = omega (arith, fits) })

behind_front : (cap : ℕ) (k : List ℕ) (s : Slot) (slots more : List Slot) → bytes_before s.key k ≡ true → PutsOne cap slots more (place_of k more) → PutsOne cap (s ∷ slots) (s ∷ more) (place_of k (s ∷ more))
behind_front cap k s slots more less is = subst (PutsOne cap (s ∷ slots) (s ∷ more)) (sym (if_true (bytes_before s.key k) (suc (place_of k more)) 0 less))
    (let place = is.place in let others = is.others in let one = is.one in record { place = omega (arith, place); others = omega (arith, others); one = one })

-- a put slot makes no more bytes, or is the one that is new or grown
abbrev Puts : ℕ → List ℕ → List Slot → List Slot → Type 0
Puts cap k slots more = (bytes_of more ≤ bytes_of slots) ⊎ PutsOne cap slots more (place_of k more)

new_puts : (cap : ℕ) (k : List ℕ) (v : Option (List ℕ)) (slots : List Slot) → 4 + size_of v ≤ cap → Puts cap k slots (with_new k v slots)
new_puts cap k None slots fits = inl (omega arith)
new_puts cap k (Some bytes) slots fits = inr (at_front cap k slots (record { key = k; room = length bytes; value = Some bytes }) slots (not_itself k) (omega arith) fits)

put_puts : (cap : ℕ) (k : List ℕ) (v : Option (List ℕ)) (slots : List Slot) → 4 + size_of v ≤ cap → bytes_of slots ≤ cap → Puts cap k slots (put k v slots)
put_puts cap k v [] fits small = new_puts cap k v [] fits
put_puts cap k v (s ∷ ss) fits small =
    let later = put_puts cap k v ss fits (omega (arith, small)) in
    put_cases (Puts cap k (s ∷ ss)) (same_bytes k s.key) (bytes_before k s.key) _ _ _
    (λ same. inr (at_front cap k (s ∷ ss) (with_value v s) ss (ap (λ x. bytes_before x k) (sym (same_bytes_are k s.key same)) ∙ not_itself k) (omega arith) (omega (arith, fits, small))))
    (λ other less. new_puts cap k v (s ∷ ss) fits)
    (λ other more. ⊎_elim (λ less. inl (omega (arith, less))) (λ one. inr (behind_front cap k s ss (put k v ss) (before_total k s.key other more) one)) later)

-- tidied slots have no more bytes

tidy_step_bytes : (b : Bool) (s : Slot) → size_of s.value ≤ s.room → bytes_of (tidied_slot b s) ≤ 4 + s.room
tidy_step_bytes true s holds = omega arith
tidy_step_bytes false s holds = go s.value holds
  where
    go : (v : Option (List ℕ)) → size_of v ≤ s.room → bytes_of (tidied_slot false (record s { value = v })) ≤ 4 + s.room
    go None h = omega arith
    go (Some bytes) h = omega (arith, h)

pub bytes-append : (a b : List Slot) → bytes_of (a ++ b) ≡ bytes_of a + bytes_of b
bytes-append [] b = omega arith
bytes-append (s ∷ ss) b = let later = bytes-append ss b in omega (arith, later)

pub tidied_bytes : (held : List ℕ → Bool) (slots : List Slot) → AllHold slots → bytes_of (tidied held slots) ≤ bytes_of slots
tidied_bytes held [] holds = omega arith
tidied_bytes held (s ∷ ss) holds =
    let later = tidied_bytes held ss holds.1 in
    let one = tidy_step_bytes (held s.key) s holds.0 in
    let both = bytes-append (tidied_slot (held s.key) s) (tidied held ss) in omega (arith, later, one, both)

-- records fit their slots

pub holds_both : (a b : List Slot) → AllHold a → AllHold b → AllHold (a ++ b)
holds_both [] b first second = second
holds_both (s ∷ ss) b first second = (first.0, holds_both ss b first.1 second)

pub tidied_holds : (held : List ℕ → Bool) (slots : List Slot) → AllHold slots → AllHold (tidied held slots)
tidied_holds held [] holds = tt
tidied_holds held (s ∷ ss) holds = holds_both (tidied_slot (held s.key) s) (tidied held ss) (one (held s.key) s holds.0) (tidied_holds held ss holds.1)
  where
    none_or : (s : Slot) (v : Option (List ℕ)) → AllHold (tidied_slot false (record s { value = v }))
    none_or s None = tt
    none_or s (Some bytes) = (omega arith, tt)

    one : (b : Bool) (s : Slot) → size_of s.value ≤ s.room → AllHold (tidied_slot b s)
    one true s h = (h, tt)
    one false s h = none_or s s.value

new_holds : (k : List ℕ) (v : Option (List ℕ)) (slots : List Slot) → AllHold slots → AllHold (with_new k v slots)
new_holds k None slots holds = holds
new_holds k (Some bytes) slots holds = (omega arith, holds)

put_holds : (k : List ℕ) (v : Option (List ℕ)) (slots : List Slot) → AllHold slots → AllHold (put k v slots)
put_holds k v [] holds = new_holds k v [] holds
put_holds k v (s ∷ ss) holds =
    put_cases AllHold (same_bytes k s.key) (bytes_before k s.key) _ _ _
    (λ same. (omega arith, holds.1)) (λ other less. new_holds k v (s ∷ ss) holds) (λ other more. (holds.0, put_holds k v ss holds.1))

holds_take : (j : ℕ) (slots : List Slot) → AllHold slots → AllHold (take j slots)
holds_take zero slots holds = tt
holds_take (suc j) [] holds = tt
holds_take (suc j) (s ∷ ss) holds = (holds.0, holds_take j ss holds.1)

holds_drop : (j : ℕ) (slots : List Slot) → AllHold slots → AllHold (drop j slots)
holds_drop zero slots holds = holds
holds_drop (suc j) [] holds = tt
holds_drop (suc j) (s ∷ ss) holds = holds_drop j ss holds.1

-- what is parted

bytes_parts : (j : ℕ) (slots : List Slot) → bytes_of (take j slots) + bytes_of (drop j slots) ≡ bytes_of slots
bytes_parts zero slots = omega arith
bytes_parts (suc j) [] = omega arith
bytes_parts (suc j) (s ∷ ss) = let later = bytes_parts j ss in omega (arith, later)

no_bytes : (slots : List Slot) → length slots ≡ 0 → bytes_of slots ≡ 0
no_bytes [] none = refl
no_bytes (s ∷ ss) none = absurd (omega (arith, none))

take_some : (j : ℕ) (slots : List Slot) → 1 ≤ j → 1 ≤ length slots → 1 ≤ length (take j slots)
take_some zero slots some there = absurd (omega (arith, some))
take_some (suc j) [] some there = absurd (omega arith)
take_some (suc j) (s ∷ ss) some there = omega arith

drop_some : (j : ℕ) (slots : List Slot) → j < length slots → 1 ≤ length (drop j slots)
drop_some j slots below = let long = length-drop j slots in omega (arith, long, below)

fits_tests : (cap j n a b : ℕ) → 1 ≤ j → j + 1 ≤ n → a ≤ cap → b ≤ cap → (nat_le 1 j && nat_le (j + 1) n && nat_le a cap && nat_le b cap) ≡ true
fits_tests cap j n a b one within low high = grind (arith, nat_tests)

tells_fit : (cap j n a b : ℕ) → (nat_le 1 j && nat_le (j + 1) n && nat_le a cap && nat_le b cap) ≡ true → (1 ≤ j) × (j + 1 ≤ n) × (a ≤ cap) × (b ≤ cap)
tells_fit cap j n a b h = (grind (arith, nat_tests), grind (arith, nat_tests), grind (arith, nat_tests), grind (arith, nat_tests))

either : (a b : Bool) → a ≡ true → (a || b) ≡ true
either true b h = refl
either false b h = cc

place_step : (a b : Bool) → b ≡ true → (a || b) ≡ true
place_step true b h = refl
place_step false b h = h

has_place_at : (cap : ℕ) (slots : List Slot) (j n : ℕ) → fits_at cap slots j ≡ true → j < n → has_place cap slots n ≡ true
has_place_at cap slots j zero fits below = absurd (omega arith)
has_place_at cap slots j (suc n) fits below = ⊎_elim
    (λ less. place_step (fits_at cap slots n) (has_place cap slots n) (has_place_at cap slots j n fits less))
    (λ more. let same : n ≡ j = omega arith in either (fits_at cap slots n) (has_place cap slots n) (ap (fits_at cap slots) same ∙ fits))
    (cases_lt j n)

-- where no place parts slots in two, the new or grown one stands in their midst
module _ (cap : ℕ) (slots more : List Slot) (i : ℕ) (small : bytes_of slots ≤ cap) (over : cap < bytes_of more) (none : has_place cap more (length more) ≡ false) (is : PutsOne cap slots more i) where
  two_at_least : 2 ≤ length more
  two_at_least = ⊎_elim (λ less. absurd (alone (omega (arith, less)))) (λ more_than. omega (arith, more_than)) (cases_lt (length more) 2)
    where
      alone : length more ≤ 1 → ⊥
      alone short =
          let place = is.place in let one = is.one in let others = is.others in
          let first : i ≡ 0 = omega (arith, place, short) in
          let one' : bytes_of (take 1 more) ≤ cap = subst (λ j. bytes_of (take 1 (drop j more)) ≤ cap) first one in
          let parts = bytes_parts 1 more in
          let long = length-drop 1 more in
          let rest = no_bytes (drop 1 more) (omega (arith, long, short)) in
          omega (arith, one', parts, rest, over)

  no_fit : (j : ℕ) → fits_at cap more j ≡ true → j < length more → ⊥
  no_fit j fits below = let there = has_place_at cap more j (length more) fits below in cc

  not_first : 1 ≤ i
  not_first = ⊎_elim (λ less. absurd (first (omega (arith, less)))) (λ here. here) (cases_lt i 1)
    where
      first : i ≡ 0 → ⊥
      first zeroth =
          let one : bytes_of (take 1 more) ≤ cap = subst (λ j. bytes_of (take 1 (drop j more)) ≤ cap) zeroth is.one in
          let others = subst (λ j. bytes_of (take j more) + bytes_of (drop (suc j) more) ≤ bytes_of slots) zeroth is.others in
          let rest : bytes_of (drop 1 more) ≤ cap = omega (arith, others, small) in
          let long = two_at_least in
          no_fit 1 (fits_tests cap 1 (length more) (bytes_of (take 1 more)) (bytes_of (drop 1 more)) (omega arith) (omega (arith, long)) one rest) (omega (arith, long))

  not_last : suc i < length more
  not_last = ⊎_elim (λ less. less) (λ here. absurd (last (omega (arith, here)))) (cases_lt (suc i) (length more))
    where
      last : length more ≤ suc i → ⊥
      last short =
          let place = is.place in let one = is.one in let others = is.others in
          let parts = bytes_parts 1 (drop i more) in
          let long = length-drop (suc i) more in
          let behind = no_bytes (drop (suc i) more) (omega (arith, long, short)) in
          let next : i + 1 ≡ suc i = omega arith in
          let same : bytes_of (drop 1 (drop i more)) ≡ bytes_of (drop (suc i) more) = ap bytes_of (drop-drop 1 i more ∙ ap (λ j. drop j more) next) in
          let at : bytes_of (drop i more) ≤ cap = omega (arith, parts, same, behind, one) in
          no_fit i (fits_tests cap i (length more) (bytes_of (take i more)) (bytes_of (drop i more)) not_first (omega (arith, place)) (omega (arith, others, small)) at) place

  in_three_full : AllFull (take i more ∷ take 1 (drop i more) ∷ drop (i + 1) more ∷ [])
  in_three_full =
      let place = is.place in let behind = not_last in (
        take_some i more not_first (omega (arith, place)),
        (take_some 1 (drop i more) (omega arith) (drop_some i more place), (drop_some (i + 1) more (omega (arith, behind)), tt)),
      )

parts_are : (cap : ℕ) (slots more : List Slot) (i : ℕ) (parts : List (List Slot)) → bytes_of slots ≤ cap → AllHold more → (bytes_of more ≤ bytes_of slots) ⊎ PutsOne cap slots more i → IsParted cap more i parts → AreParts cap parts
parts_are cap slots more i parts small holds puts (whole fits is) = subst (AreParts cap) (sym is) (record { full = inl refl; fit = ((fits, holds), tt); some = omega arith; few = omega arith })
parts_are cap slots more i parts small holds puts (two j over best is) =
    let fits = tells_fit cap j (length more) (bytes_of (take j more)) (bytes_of (drop j more)) best.fits in
    let one = fits.0 in let within = fits.1 in
    subst (AreParts cap) (sym is) (record {
      full = inr (take_some j more one (omega (arith, within)), (drop_some j more (omega (arith, within)), tt));
      fit = ((fits.2, holds_take j more holds), ((fits.3, holds_drop j more holds), tt));
      some = omega arith;
      few = omega arith;
    })
parts_are cap slots more i parts small holds puts (three over none is) = ⊎_elim (λ less. absurd (omega (arith, less, small, over))) in_three puts
  where
    in_three : PutsOne cap slots more i → AreParts cap parts
    in_three one =
        let others = one.others in
        let same : bytes_of (drop (i + 1) more) ≡ bytes_of (drop (suc i) more) = let next : i + 1 ≡ suc i = omega arith in ap (λ j. bytes_of (drop j more)) next in
        subst (AreParts cap) (sym is) (record {
          full = inr (in_three_full cap slots more i small over none one);
          fit = ((omega (arith, others, small), holds_take i more holds), ((one.one, holds_take 1 (drop i more) (holds_drop i more holds)), ((omega (arith, others, small, same), holds_drop (i + 1) more holds), tt)));
          some = omega arith;
          few = omega arith;
        })

pub bucket_parts : (cap : ℕ) (held : List ℕ → Bool) (k : List ℕ) (v : Option (List ℕ)) (slots : List Slot) → 4 + size_of v ≤ cap → bytes_of slots ≤ cap → AllHold slots → AreParts cap (bucket_with cap held k v slots)
bucket_parts cap held k v slots fits small holds = go (nat_le (bytes_of (put k v slots)) cap) refl
  where
    more : List Slot
    more = put k v (tidied held slots)

    tidy : bytes_of (tidied held slots) ≤ cap
    tidy = let less = tidied_bytes held slots holds in omega (arith, less, small)

    go : (t : Bool) → nat_le (bytes_of (put k v slots)) cap ≡ t → AreParts cap (if t then put k v slots ∷ [] else parted cap (place_of k more) more)
    go true is = record { full = inl refl; fit = ((fits_test (bytes_of (put k v slots)) cap is, put_holds k v slots holds), tt); some = omega arith; few = omega arith }
    go false is = parts_are cap (tidied held slots) more (place_of k more) (parted cap (place_of k more) more) tidy (put_holds k v (tidied held slots) (tidied_holds held slots holds))
        (put_puts cap k v (tidied held slots) fits tidy) (parted_by_rule cap (place_of k more) more)
