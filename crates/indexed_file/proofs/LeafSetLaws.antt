-- A key that is set in the bytes of a bucket.
use Rattle.std.proofs.Common.{◌≡◌, inl, inr, ⊎_elim, ℕ, zero, suc, ◌<◌, ◌≤◌, ◌+◌, ◌-◌, ◌==◌, ◌&&◌, Bool, true, false, List, [], ◌∷◌, ◌++◌, length, take, drop, map, Option, Some, None, nat_le, refl, sym, ap, subst, ◌∙◌, arith, length-append}
use Rattle.std.proofs.lemmas.Bool.{cases_Bool}
use Rattle.std.proofs.lemmas.Bool.Decides.{nat_tests}
use Rattle.std.proofs.lemmas.List.{take_at, drop_at, take-append-drop, drop_more, length-take-le, length-drop, map-append, length-map}
use Rattle.file_base.specs.declared.head.FileHead.{FileHead}
use Rattle.bucket_page.specs.Pages.{u16_at, slots_of, next_of, suits, all_suit, joined, slot_at, inserted, removed, replaced, IsBucket, Packs}
use Rattle.bucket_page.proofs.PageLaws.{all_suit-append, all_suit-take, all_suit-drop, length-joined-inserted}
use Rattle.bucket_page.proofs.Orders.{ascend_at}
use Rattle.change_set.specs.records_model.Slots.{Slot, bytes_before, with_value, size_of, put, tidied, AllBefore, AllBehind}
use Rattle.change_set.specs.records_model.Parts.{bytes_of}
use Rattle.indexed_file.specs.Chain.{kind_of, slot_of, value_of, keeps_record, all_keep, slots_set}
use Rattle.indexed_file.specs.Places.{key_at, IsPlace}
use Rattle.indexed_file.specs.Raws.{written_slot, Means, tidied_raws, fits_in, raws_added, place_added, slots_at, Parted, whole, SetsLeaf}
use Rattle.indexed_file.specs.Sets.{ChangesSlot}
use Rattle.indexed_file.proofs.LeafLaws.{slot_suits}
use Rattle.indexed_file.proofs.TargetLaws.{missing_at}
use Rattle.change_set.proofs.records_model.SlotLaws.{if_true, if_false, tidy_before, tidy_behind}
use Rattle.indexed_file.proofs.SetLaws.{put_between, put_none_between, put_at, put_tidied, tidied-append, set_fits, set_over, max_right, max_left, place_at, place_between}
use Rattle.indexed_file.proofs.RawLaws.{all_keep-append, all_keep-take, all_keep-drop, tidies_all, tidied_raws-append, bytes_of_raws, value_size}
use Rattle.change_set.specs.records_model.Chain.{place_of}

abbrev Raws : Type 0
Raws = List (List ℕ)

-- keys about a place

pub before_place : (h : FileHead) (k : List ℕ) (raws : Raws) (i : ℕ) → i ≤ length raws → ((j : ℕ) → j < i → bytes_before (key_at h raws j) k ≡ true) → AllBefore k (map (slot_of h) (take i raws))
before_place h k raws zero within lower = tt
before_place h k [] (suc i) within lower = tt
before_place h k (s ∷ ss) (suc i) within lower = (lower 0 (omega arith), before_place h k ss i (omega arith) (λ j below. lower (suc j) (omega arith)))

pub behind_place : (h : FileHead) (k : List ℕ) (raws : Raws) (i : ℕ) → ((j : ℕ) → i ≤ j → j < length raws → bytes_before k (key_at h raws j) ≡ true) → AllBehind k (map (slot_of h) (drop i raws))
behind_place h k [] zero higher = tt
behind_place h k [] (suc i) higher = tt
behind_place h k (s ∷ ss) zero higher = (higher 0 (omega arith) (omega arith), behind_place h k ss zero (λ j from below. higher (suc j) (omega arith) (omega arith)))
behind_place h k (s ∷ ss) (suc i) higher = behind_place h k ss i (λ j from below. higher (suc j) (omega arith) (omega arith))

parted_list : (raws : Raws) (i : ℕ) → i < length raws → raws ≡ take i raws ++ (slot_at raws i ∷ drop (i + 1) raws)
parted_list raws i below = sym (take-append-drop i raws) ∙ ap (λ t. take i raws ++ t) (drop_more raws i [] below)

map_about : (h : FileHead) (raws : Raws) (i : ℕ) → i < length raws → map (slot_of h) raws ≡ map (slot_of h) (take i raws) ++ (slot_of h (slot_at raws i) ∷ map (slot_of h) (drop (i + 1) raws))
map_about h raws i below = ap (map (slot_of h)) (parted_list raws i below) ∙ map-append (slot_of h) (take i raws) (slot_at raws i ∷ drop (i + 1) raws)

map_split : (h : FileHead) (raws : Raws) (i : ℕ) → map (slot_of h) raws ≡ map (slot_of h) (take i raws) ++ map (slot_of h) (drop i raws)
map_split h raws i = ap (map (slot_of h)) (sym (take-append-drop i raws)) ∙ map-append (slot_of h) (take i raws) (drop i raws)

-- the number of slots before a place
place_is : (h : FileHead) (s : Raws) (i : ℕ) {n : ℕ} → i ≤ length s → n ≡ length (map (slot_of h) (take i s)) → i ≡ n
place_is h s i within is = omega (arith, is, length-map (take i s) (slot_of h), length-take-le i s within)

-- the slot of a key that was written

seam_at : (a b : Raws) (x : List ℕ) (n : ℕ) → n ≡ length a → slot_at (a ++ (x ∷ b)) n ≡ x
seam_at [] b x zero is = refl
seam_at [] b x (suc n) is = absurd (omega arith)
seam_at (y ∷ a) b x zero is = absurd (omega arith)
seam_at (y ∷ a) b x (suc n) is = seam_at a b x n (omega arith)

written_at : (h : FileHead) (k : List ℕ) (room : ℕ) (v : Option (List ℕ)) (x : List ℕ) (raws : Raws) (n : ℕ) → slot_at raws n ≡ x → Means h k room v x → slot_at raws n ≡ written_slot h k (u16_at (slot_at raws n) 0) v
written_at h k room v x raws n at means =
    let room_is : u16_at (slot_at raws n) 0 ≡ room = ap (λ y. u16_at y 0) at ∙ ap (λ (s : Slot). s.room) means.is in
    at ∙ means.bytes ∙ ap (λ m. written_slot h k m v) (sym room_is)

-- in place

slot_with : (k key : List ℕ) (room n : ℕ) (v value : Option (List ℕ)) → key ≡ k → n ≡ room → size_of v ≤ room
    → with_value v (record { key = key; room = n; value = value }) ≡ record { key = k; room = room; value = v }
slot_with k key room n v value here same holds = λ i. record { key = here i; room = (max_left n (size_of v) (omega (arith, same)) ∙ same) i; value = v }

pub sets_in_place : (h : FileHead) (held : List ℕ → Bool) (k : List ℕ) (v : Option (List ℕ)) (size fresh i room : ℕ) (old low mid high : List ℕ) → 16 ≤ size → IsBucket (kind_of h) size old → all_keep h (slots_of (kind_of h) old) ≡ true
    → IsPlace h k (slots_of (kind_of h) old) i true → room ≡ u16_at (slot_at (slots_of (kind_of h) old) i) 0 → size_of v ≤ room → ChangesSlot h k room v size i old low → SetsLeaf h held k v size fresh old 0 low mid high
sets_in_place h held k v size fresh i room old low mid high least bucket kept place room_is holds changes =
    let s = slots_of (kind_of h) old in
    let below = place.there refl in
    let within = place.within in
    let raws = replaced s i changes.raw in
    let A = map (slot_of h) (take i s) in
    let B = map (slot_of h) (drop (i + 1) s) in
    let lower = before_place h k s i place.within place.lower in
    let put_is : put k v (map (slot_of h) s) ≡ map (slot_of h) raws =
    ap (put k v) (map_about h s i below)
    ∙ put_at k v A B (slot_of h (slot_at s i)) lower (place.here refl)
    ∙ ap (λ x. A ++ (x ∷ B)) (slot_with k (key_at h s i) room (u16_at (slot_at s i) 0) v (value_of h.mrs (slot_at s i)) (place.here refl) (sym room_is) holds ∙ sym changes.means.is)
    ∙ sym (map-append (slot_of h) (take i s) (changes.raw ∷ drop (i + 1) s)) in
    let suit : all_suit (kind_of h) raws ≡ true = ap (all_suit (kind_of h)) (sym changes.packs.slots_are) ∙ changes.packs.packed.suit in
    let fits : bytes_of (put k v (map (slot_of h) s)) ≤ size - 16 =
    omega (arith, ap bytes_of put_is, bytes_of_raws h raws suit, changes.packs.packed.fits, ap (λ (r : Raws). length (joined r)) changes.packs.slots_are) in
    record {
      raws = raws;
      place = i;
      slots = sym put_is ∙ sym (set_fits (size - 16) held k v (map (slot_of h) s) fits);
      suit = suit;
      kept = all_keep-append h (take i s) (changes.raw ∷ drop (i + 1) s) (all_keep-take h i s kept) (λ j. changes.means.kept j && all_keep-drop h (i + 1) s kept j);
      at = place_is h s i within (ap (place_of k) (map-append (slot_of h) (take i s) (changes.raw ∷ drop (i + 1) s)) ∙ place_at k A B (slot_of h changes.raw) lower (ap (λ (x : Slot). x.key) changes.means.is));
      written = inr (written_at h k room v changes.raw raws i (seam_at (take i s) (drop (i + 1) s) changes.raw i (sym (length-take-le i s within))) changes.means);
      parted = whole refl changes.packs;
    }

-- nothing to take away

pub sets_nothing : (h : FileHead) (held : List ℕ → Bool) (k : List ℕ) (size fresh i : ℕ) (old mid high : List ℕ) → 16 ≤ size → IsBucket (kind_of h) size old → all_keep h (slots_of (kind_of h) old) ≡ true
    → IsPlace h k (slots_of (kind_of h) old) i false → SetsLeaf h held k None size fresh old 0 old mid high
sets_nothing h held k size fresh i old mid high least bucket kept place =
    let s = slots_of (kind_of h) old in
    let put_is : put k None (map (slot_of h) s) ≡ map (slot_of h) s =
    ap (put k None) (map_split h s i) ∙ put_none_between k (map (slot_of h) (take i s)) (map (slot_of h) (drop i s)) (before_place h k s i place.within place.lower) (behind_place h k s i (place.higher refl)) ∙ sym (map_split h s i) in
    let fits : bytes_of (put k None (map (slot_of h) s)) ≤ size - 16 = omega (arith, ap bytes_of put_is, bytes_of_raws h s bucket.packed.suit, bucket.packed.fits) in
    record {
      raws = s;
      place = i;
      slots = sym put_is ∙ sym (set_fits (size - 16) held k None (map (slot_of h) s) fits);
      suit = bucket.packed.suit;
      kept = kept;
      at = place_is h s i place.within
          (ap (place_of k) (map_split h s i) ∙ place_between k (map (slot_of h) (take i s)) (map (slot_of h) (drop i s)) (before_place h k s i place.within place.lower) (behind_place h k s i (place.higher refl)));
      written = inl (missing_at h k s i place.lower (place.higher refl));
      parted = whole refl (record { packed = bucket.packed; slots_are = refl; next_is = refl });
    }

-- a record that is added

-- the slots about the place of a key, and what they become
pub record About (h : FileHead) (held : List ℕ → Bool) (k r : List ℕ) (slots : List Slot) (a b : Raws) : Type 0 where
  pub suit_a : all_suit (kind_of h) a ≡ true
  pub suit_b : all_suit (kind_of h) b ≡ true
  pub kept_a : all_keep h a ≡ true
  pub kept_b : all_keep h b ≡ true
  pub lower : AllBefore k (map (slot_of h) a)
  pub plain : put k (Some r) slots ≡ map (slot_of h) a ++ (record { key = k; room = length r; value = Some r } ∷ map (slot_of h) b)
  pub tidy : put k (Some r) (tidied held slots) ≡ tidied held (map (slot_of h) a) ++ (record { key = k; room = length r; value = Some r } ∷ tidied held (map (slot_of h) b))

inserted_between : (a b : Raws) (i : ℕ) (x : List ℕ) → i ≡ length a → inserted (a ++ b) i x ≡ a ++ (x ∷ b)
inserted_between a b i x is = λ k. take_at a b i (sym is) k ++ (x ∷ drop_at a b i (sym is) k)

-- a list with the slot between
record Between (h : FileHead) (raws a b : Raws) (x : List ℕ) (new : Slot) : Type 0 where
  pub slots : map (slot_of h) raws ≡ map (slot_of h) a ++ (new ∷ map (slot_of h) b)
  pub suit : all_suit (kind_of h) raws ≡ true
  pub kept : all_keep h raws ≡ true

between : (h : FileHead) (raws a b : Raws) (x : List ℕ) (new : Slot) → raws ≡ a ++ (x ∷ b) → slot_of h x ≡ new → suits (kind_of h) x ≡ true → keeps_record h x ≡ true
    → all_suit (kind_of h) a ≡ true → all_suit (kind_of h) b ≡ true → all_keep h a ≡ true → all_keep h b ≡ true → Between h raws a b x new
between h raws a b x new is means suit kept sa sb ka kb = record {
  slots = ap (map (slot_of h)) is ∙ map-append (slot_of h) a (x ∷ b) ∙ ap (λ y. map (slot_of h) a ++ (y ∷ map (slot_of h) b)) means;
  suit = ap (all_suit (kind_of h)) is ∙ all_suit-append (kind_of h) a (x ∷ b) sa (λ i. suit i && sb i);
  kept = ap (all_keep h) is ∙ all_keep-append h a (x ∷ b) ka (λ i. kept i && kb i);
}

fits_says : (m n size : ℕ) → nat_le (16 + m + n) size ≡ true → 16 + m + n ≤ size
fits_says m n size h = grind (arith, nat_tests)

over_says : (m n size : ℕ) → nat_le (16 + m + n) size ≡ false → size < 16 + m + n
over_says m n size h = grind (arith, nat_tests)

record Added (h : FileHead) (held : List ℕ → Bool) (k r : List ℕ) (size : ℕ) (slots : List Slot) (raws : Raws) (place : ℕ) : Type 0 where
  pub slots_are : map (slot_of h) raws ≡ slots_set (size - 16) held k (Some r) slots
  pub suit : all_suit (kind_of h) raws ≡ true
  pub kept : all_keep h raws ≡ true
  pub at : place ≡ place_of k (map (slot_of h) raws)
  pub written : slot_at raws place ≡ written_slot h k (u16_at (slot_at raws place) 0) (Some r)

added_raws : (h : FileHead) (held : List ℕ → Bool) (k r : List ℕ) (size i : ℕ) (slots : List Slot) (s a b : Raws) (x : List ℕ) → 16 ≤ size → 1 ≤ h.key_size → s ≡ a ++ b → i ≡ length a → About h held k r slots a b → Means h k (length r) (Some r) x
    → Added h held k r size slots (raws_added h held size s i x) (place_added h held size s i x)
added_raws h held k r size i slots s a b x least one s_is i_is about means =
    let new : Slot = record { key = k; room = length r; value = Some r } in
    let plain_list : inserted s i x ≡ a ++ (x ∷ b) = ap (λ (t : Raws). inserted t i x) s_is ∙ inserted_between a b i x i_is in
    let plain = between h (inserted s i x) a b x new plain_list means.is means.suit means.kept about.suit_a about.suit_b about.kept_a about.kept_b in
    let put_is : map (slot_of h) (inserted s i x) ≡ put k (Some r) slots = plain.slots ∙ sym about.plain in
    let bytes : bytes_of (put k (Some r) slots) ≡ length (joined s) + length x = ap bytes_of (sym put_is) ∙ bytes_of_raws h (inserted s i x) plain.suit ∙ length-joined-inserted s i x in
    ⊎_elim
    (λ fits. let choice : raws_added h held size s i x ≡ inserted s i x = if_true (fits_in size s x) _ _ fits in
    let room = fits_says (length (joined s)) (length x) size fits in
    record {
      slots_are = ap (map (slot_of h)) choice ∙ put_is ∙ sym (set_fits (size - 16) held k (Some r) slots (omega (arith, bytes, room)));
      suit = ap (all_suit (kind_of h)) choice ∙ plain.suit;
      kept = ap (all_keep h) choice ∙ plain.kept;
      at = let place = if_true (fits_in size s x) i (length (tidied_raws h held (take i s))) fits in
          let count = ap (place_of k) (ap (map (slot_of h)) choice ∙ plain.slots) ∙ place_at k (map (slot_of h) a) (map (slot_of h) b) new about.lower refl in
          omega (arith, place, count, i_is, length-map a (slot_of h));
      written = let place = if_true (fits_in size s x) i (length (tidied_raws h held (take i s))) fits in
          written_at h k (length r) (Some r) x (raws_added h held size s i x) (place_added h held size s i x) ((λ j. slot_at ((choice ∙ plain_list) j) (place j)) ∙ seam_at a b x i i_is) means;
    })
    (λ over. let n = length (tidied_raws h held (take i s)) in
    let choice : raws_added h held size s i x ≡ inserted (tidied_raws h held s) n x = if_false (fits_in size s x) _ _ over in
    let full = over_says (length (joined s)) (length x) size over in
    let ta = tidies_all h held a one about.suit_a about.kept_a in
    let tb = tidies_all h held b one about.suit_b about.kept_b in
    let front : take i s ≡ a = ap (take i) s_is ∙ take_at a b i (sym i_is) in
    let list : inserted (tidied_raws h held s) n x ≡ tidied_raws h held a ++ (x ∷ tidied_raws h held b) =
    ap (λ (t : Raws). inserted t n x) (ap (tidied_raws h held) s_is ∙ tidied_raws-append h held a b)
    ∙ inserted_between (tidied_raws h held a) (tidied_raws h held b) n x (ap (λ (t : Raws). length (tidied_raws h held t)) front) in
    let tidy = between h (inserted (tidied_raws h held s) n x) (tidied_raws h held a) (tidied_raws h held b) x new list means.is means.suit means.kept ta.suit tb.suit ta.kept tb.kept in
    record {
      slots_are = ap (map (slot_of h)) choice ∙ tidy.slots ∙ (λ j. ta.is j ++ (new ∷ tb.is j)) ∙ sym about.tidy ∙ sym (set_over (size - 16) held k (Some r) slots (omega (arith, bytes, full)));
      suit = ap (all_suit (kind_of h)) choice ∙ tidy.suit;
      kept = ap (all_keep h) choice ∙ tidy.kept;
      at = let place = if_false (fits_in size s x) i n over in
          let lower : AllBefore k (map (slot_of h) (tidied_raws h held a)) = subst (AllBefore k) (sym ta.is) (tidy_before held k (map (slot_of h) a) about.lower) in
          let count = ap (place_of k) (ap (map (slot_of h)) choice ∙ tidy.slots) ∙ place_at k (map (slot_of h) (tidied_raws h held a)) (map (slot_of h) (tidied_raws h held b)) new lower refl in
          omega (arith, place, count, ap (λ (t : Raws). length (tidied_raws h held t)) front, length-map (tidied_raws h held a) (slot_of h));
      written = let place = if_false (fits_in size s x) i n over in
          written_at h k (length r) (Some r) x (raws_added h held size s i x) (place_added h held size s i x)
          ((λ j. slot_at ((choice ∙ list) j) (place j)) ∙ seam_at (tidied_raws h held a) (tidied_raws h held b) x n (ap (λ (t : Raws). length (tidied_raws h held t)) front)) means;
    })
    (cases_Bool (fits_in size s x))

sets_added : (h : FileHead) (held : List ℕ → Bool) (k r : List ℕ) (size fresh i added next : ℕ) (s a b : Raws) (x old low mid high : List ℕ) → 16 ≤ size → 1 ≤ h.key_size → next ≡ next_of old → s ≡ a ++ b → i ≡ length a
    → About h held k r (slots_at h old) a b → Means h k (length r) (Some r) x → Parted h size fresh next (raws_added h held size s i x) (place_added h held size s i x) added low mid high
    → SetsLeaf h held k (Some r) size fresh old added low mid high
sets_added h held k r size fresh i added next s a b x old low mid high least one next_is s_is i_is about means parted =
    let made = added_raws h held k r size i (slots_at h old) s a b x least one s_is i_is about means in
    let raws = raws_added h held size s i x in
    let place = place_added h held size s i x in
    record {
      raws = raws;
      place = place;
      slots = made.slots_are;
      suit = made.suit;
      kept = made.kept;
      at = made.at;
      written = inr made.written;
      parted = subst (λ (n : ℕ). Parted h size fresh n raws place added low mid high) next_is parted;
    }

-- a key that has no slot
pub sets_new : (h : FileHead) (held : List ℕ → Bool) (k r : List ℕ) (size fresh i added : ℕ) (x old low mid high : List ℕ) → 16 ≤ size → 1 ≤ h.key_size → IsBucket (kind_of h) size old → all_keep h (slots_of (kind_of h) old) ≡ true
    → IsPlace h k (slots_of (kind_of h) old) i false → Means h k (length r) (Some r) x
    → Parted h size fresh (next_of old) (raws_added h held size (slots_of (kind_of h) old) i x) (place_added h held size (slots_of (kind_of h) old) i x) added low mid high → SetsLeaf h held k (Some r) size fresh old added low mid high
sets_new h held k r size fresh i added x old low mid high least one bucket kept place means parted =
    let s = slots_of (kind_of h) old in
    let a = take i s in
    let b = drop i s in
    let A = map (slot_of h) a in
    let B = map (slot_of h) b in
    let lower = before_place h k s i place.within place.lower in
    let higher = behind_place h k s i (place.higher refl) in
    let about : About h held k r (map (slot_of h) s) a b = record {
      suit_a = all_suit-take (kind_of h) i s bucket.packed.suit;
      suit_b = all_suit-drop (kind_of h) i s bucket.packed.suit;
      kept_a = all_keep-take h i s kept;
      kept_b = all_keep-drop h i s kept;
      lower = lower;
      plain = ap (put k (Some r)) (map_split h s i) ∙ put_between k r A B lower higher;
      tidy = ap (λ (t : List Slot). put k (Some r) (tidied held t)) (map_split h s i) ∙ ap (put k (Some r)) (tidied-append held A B)
          ∙ put_between k r (tidied held A) (tidied held B) (tidy_before held k A lower) (tidy_behind held k B higher);
    } in
    sets_added h held k r size fresh i added (next_of old) s a b x old low mid high least one refl (sym (take-append-drop i s)) (sym (length-take-le i s place.within)) about means parted

-- a key whose slot is too short
pub sets_grown : (h : FileHead) (held : List ℕ → Bool) (k r : List ℕ) (size fresh i added : ℕ) (x old gone low mid high : List ℕ) → 16 ≤ size → 1 ≤ h.key_size → IsBucket (kind_of h) size old → all_keep h (slots_of (kind_of h) old) ≡ true
    → IsPlace h k (slots_of (kind_of h) old) i true → u16_at (slot_at (slots_of (kind_of h) old) i) 0 < length r → Means h k (length r) (Some r) x
    → Packs (kind_of h) size (removed (slots_of (kind_of h) old) i) (next_of old) gone
    → Parted h size fresh (next_of gone) (raws_added h held size (slots_of (kind_of h) gone) i x) (place_added h held size (slots_of (kind_of h) gone) i x) added low mid high → SetsLeaf h held k (Some r) size fresh old added low mid high
sets_grown h held k r size fresh i added x old gone low mid high least one bucket kept place short means packs parted =
    let s = slots_of (kind_of h) old in
    let below = place.there refl in
    let here = place.here refl in
    let a = take i s in
    let b = drop (i + 1) s in
    let A = map (slot_of h) a in
    let B = map (slot_of h) b in
    let this = slot_at s i in
    let room = u16_at this 0 in
    let value = value_of h.mrs this in
    let lower = before_place h k s i place.within place.lower in
    let higher = behind_place h k s (i + 1) (λ j from under. ap (λ y. bytes_before y (key_at h s j)) (sym here) ∙ ascend_at (kind_of h) s i j bucket.order (omega arith) under) in
    let suit = slot_suits (kind_of h) s i bucket.packed.suit below in
    let tells = size_tells (length this) room (u16_at this 2) (h.key_pos + h.key_size) suit in
    let whole_list : map (slot_of h) s ≡ A ++ (record { key = k; room = room; value = value } ∷ B) = map_about h s i below ∙ (λ j. A ++ (record { key = here j; room = room; value = value } ∷ B)) in
    let about : About h held k r (map (slot_of h) s) a b = record {
      suit_a = all_suit-take (kind_of h) i s bucket.packed.suit;
      suit_b = all_suit-drop (kind_of h) (i + 1) s bucket.packed.suit;
      kept_a = all_keep-take h i s kept;
      kept_b = all_keep-drop h (i + 1) s kept;
      lower = lower;
      plain = ap (put k (Some r)) whole_list ∙ put_at k (Some r) A B (record { key = k; room = room; value = value }) lower refl
          ∙ ap (λ n. A ++ (record { key = k; room = n; value = Some r } ∷ B)) (max_right room (length r) (omega (arith, short)));
      tidy = ap (λ (t : List Slot). put k (Some r) (tidied held t)) whole_list
          ∙ put_tidied held k r room value A B (tidy_before held k A lower) (tidy_behind held k B higher) (omega (arith, short)) (omega (arith, value_size h.mrs this, tells));
    } in
    sets_added h held k r size fresh i added (next_of gone) (slots_of (kind_of h) gone) a b x old low mid high least one packs.next_is packs.slots_are (sym (length-take-le i s (omega arith))) about means parted
  where
    size_tells : (m n l p : ℕ) → ((m == 4 + n) && (nat_le l n && nat_le p n)) ≡ true → l ≤ n
    size_tells m n l p suit = grind (arith, nat_tests)

pub length_removed : (s : Raws) (i : ℕ) → i < length s → length (removed s i) + 1 ≡ length s
length_removed s i below = omega (arith, length-append (take i s) (drop (i + 1) s), length-take-le i s (omega arith), length-drop (i + 1) s)

-- a value that is there
pub sets_as : (h : FileHead) (held : List ℕ → Bool) (k : List ℕ) (v w : Option (List ℕ)) (size fresh : ℕ) (old : List ℕ) (added : ℕ) (low mid high : List ℕ) → v ≡ w → SetsLeaf h held k w size fresh old added low mid high → SetsLeaf h held k v size fresh old added low mid high
sets_as h held k v w size fresh old added low mid high same sets = subst (λ (o : Option (List ℕ)). SetsLeaf h held k o size fresh old added low mid high) (sym same) sets
