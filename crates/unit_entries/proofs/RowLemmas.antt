-- The place of a key among keys, and what becomes of them with one entry more.
use Rattle.std.proofs.Common.{◌≡◌, ℕ, zero, suc, ◌+◌, ◌^◌, ◌≤◌, ◌<◌, Bool, true, false, List, [], ◌∷◌, ◌++◌, length, map, take, set, get_or, Option, Some, None, is_some, slice_get, if◌then◌else◌, refl, sym, ap, subst, ◌∙◌, arith}
use Rattle.std.specs.Prelude.{nat_lt, position, not, ◌||◌, vec_capacity, Vec}
use Rattle.std.proofs.lemmas.Bool.{false≢true}
use Rattle.std.proofs.lemmas.Bool.Decides.{nat_tests}
use Rattle.std.proofs.lemmas.List.{map-append, length-append, length-set, take_more, take-map}
use Rattle.indexmap.specs.IndexSet.{IndexSet, insert_key, spare}
use Rattle.table_keys.specs.declared.place.Place.{Place}
use Rattle.table_keys.specs.Places.{same_place}
use Rattle.std.specs.List.{AllByRecursion, list_any, position_or_len}
use Rattle.unit_entries.specs.declared.keys.ChangedKey.{ChangedKey}
use Rattle.unit_entries.specs.Keys.{KeyTold, is_same, find_key, keys_after, with_later}
use Rattle.unit_entries.specs.Rows.{key_said, place_said, IsPlace, AreLow, AreKept}

no_some : {X : Type 0} {x : X} → None ≡ Some x → ⊥
no_some e = false≢true (ap is_some e)

same_some : {X : Type 0} (x y : X) → Some x ≡ Some y → x ≡ y
same_some x y e = ap (λ (o : Option _). elim o [ Some z ↦ z | None ↦ x ]) e

pub indexed : {X : Type 0} (xs : List X) (i : ℕ) (x : X) → i < length xs → x ≡ get_or xs i x → slice_get xs i ≡ Some x
indexed [] i x lt at = absurd (omega (arith, lt))
indexed (y ∷ xs) zero x lt at = ap Some (sym at)
indexed (y ∷ xs) (suc i) x lt at = indexed xs i x (omega (arith, lt)) at

pub same_at : {X : Type 0} (xs : List X) (i : ℕ) (x y : X) → slice_get xs i ≡ Some y → x ≡ get_or xs i x → x ≡ y
same_at [] i x y got at = absurd (no_some got)
same_at (z ∷ xs) zero x y got at = at ∙ same_some z y got
same_at (z ∷ xs) (suc i) x y got at = same_at xs i x y got at

skipped : (b : Bool) (k : KeyTold) (r : Option KeyTold) → (if b then Some k else r) ≡ None → (b ≡ false) × (r ≡ None)
skipped true k r h = absurd (no_some (sym h))
skipped false k r h = (refl, h)

-- the index finds a key where it stands
module _ (new : ChangedKey) where
  abbrev is_there : Place → Bool
  is_there = same_place (place_said new)

  there : (ks : List ChangedKey) → position_or_len is_there (map place_said ks) < length ks → IsPlace new ks (position_or_len is_there (map place_said ks))
  there [] lt = absurd (omega (arith, lt))
  there (k ∷ ks) lt = go (is_there (place_said k)) refl lt (there ks)
    where
      go : (b : Bool) → is_there (place_said k) ≡ b → (if not b then 1 + position_or_len is_there (map place_said ks) else 0) < length (k ∷ ks)
          → (position_or_len is_there (map place_said ks) < length ks → IsPlace new ks (position_or_len is_there (map place_said ks))) → IsPlace new (k ∷ ks) (if not b then 1 + position_or_len is_there (map place_said ks) else 0)
      go true same lt later = record { within = omega (arith, lt); key = k; at = refl; here = same; before = refl }
      go false other lt later =
          let more : suc (position_or_len is_there (map place_said ks)) ≡ 1 + position_or_len is_there (map place_said ks) = omega arith in
          let is = later (omega (arith, lt)) in
          subst (IsPlace new (k ∷ ks)) more record {
            within = omega (arith, lt, more);
            key = is.key;
            at = is.at;
            here = is.here;
            before = ap (λ (b : Bool). if b then Some (key_said k) else find_key (key_said new) (map key_said (take (position_or_len is_there (map place_said ks)) ks))) other ∙ is.before;
          }

  length_places : (ks : List ChangedKey) → length (map place_said ks) ≡ length ks
  length_places [] = refl
  length_places (k ∷ ks) = ap suc (length_places ks)

  pub found : (ks : List ChangedKey) (i : ℕ) → Some i ≡ position is_there (map place_said ks) → IsPlace new ks i
  found ks i at = go (nat_lt (position_or_len is_there (map place_said ks)) (length (map place_said ks))) refl at
    where
      go : (b : Bool) → nat_lt (position_or_len is_there (map place_said ks)) (length (map place_said ks)) ≡ b → Some i ≡ (if b then Some (position_or_len is_there (map place_said ks)) else None) → IsPlace new ks i
      go true lt at =
          let long = length_places ks in
          let few : position_or_len is_there (map place_said ks) < length (map place_said ks) = grind (arith, nat_tests) in
          subst (IsPlace new ks) (sym (same_some i _ at)) (there ks (omega (arith, few, long)))
      go false lt at = absurd (no_some (sym at))

  -- and nowhere if it does not stand there
  pub not_there : (ks : List ChangedKey) → list_any is_there (map place_said ks) ≡ false → find_key (key_said new) (map key_said ks) ≡ None
  not_there [] none = refl
  not_there (k ∷ ks) none = go (is_there (place_said k)) none (not_there ks)
    where
      go : (b : Bool) → (b || list_any is_there (map place_said ks)) ≡ false → (list_any is_there (map place_said ks) ≡ false → find_key (key_said new) (map key_said ks) ≡ None) → (if b then Some (key_said k) else find_key (key_said new) (map key_said ks)) ≡ None
      go true none later = absurd (false≢true (sym none))
      go false none later = later none

pub here_at : (new : ChangedKey) (ks : List ChangedKey) (i : ℕ) (x : ChangedKey) → IsPlace new ks i → slice_get ks i ≡ Some x → is_same (key_said new) (key_said x) ≡ true
here_at new ks i x is at = ap (λ (k : ChangedKey). is_same (key_said new) (key_said k)) (same_some x is.key (sym at ∙ is.at)) ∙ is.here

pub changed_at : (new : KeyTold) (y : ChangedKey) (ks : List ChangedKey) (i : ℕ) (k : ChangedKey) → slice_get ks i ≡ Some k → find_key new (map key_said (take i ks)) ≡ None → is_same new (key_said k) ≡ true → key_said y ≡ with_later new (key_said k)
    → map key_said (set ks i y) ≡ keys_after new (map key_said ks)
changed_at new y [] i k at before here is = absurd (no_some at)
changed_at new y (x ∷ ks) zero k at before here is =
    ap (λ (z : KeyTold). z ∷ map key_said ks) (is ∙ ap (λ (z : ChangedKey). with_later new (key_said z)) (sym (same_some x k at)))
    ∙ ap (λ (b : Bool). if b then with_later new (key_said x) ∷ map key_said ks else key_said x ∷ keys_after new (map key_said ks)) (sym (ap (λ (z : ChangedKey). is_same new (key_said z)) (same_some x k at) ∙ here))
changed_at new y (x ∷ ks) (suc i) k at before here is = let s = skipped (is_same new (key_said x)) (key_said x) (find_key new (map key_said (take i ks))) before in
    ap (λ (r : List KeyTold). key_said x ∷ r) (changed_at new y ks i k at s.1 here is)
    ∙ ap (λ (b : Bool). if b then with_later new (key_said x) ∷ map key_said ks else key_said x ∷ keys_after new (map key_said ks)) (sym s.0)

pub added : (new : ChangedKey) (ks : List ChangedKey) → find_key (key_said new) (map key_said ks) ≡ None → map key_said (ks ++ new ∷ []) ≡ keys_after (key_said new) (map key_said ks)
added new [] none = refl
added new (x ∷ ks) none = let s = skipped (is_same (key_said new) (key_said x)) (key_said x) (find_key (key_said new) (map key_said ks)) none in
    ap (λ (r : List KeyTold). key_said x ∷ r) (added new ks s.1)
    ∙ ap (λ (b : Bool). if b then with_later (key_said new) (key_said x) ∷ map key_said ks else key_said x ∷ keys_after (key_said new) (map key_said ks)) (sym s.0)

module _ {X : Type 0} (P : X → Type 0) where
  pub all_at : (xs : List X) (i : ℕ) (x : X) → slice_get xs i ≡ Some x → AllByRecursion P xs → P x
  all_at [] i x at all = absurd (no_some at)
  all_at (y ∷ xs) zero x at all = subst P (same_some y x at) all.0
  all_at (y ∷ xs) (suc i) x at all = all_at xs i x at all.1

  pub all_set : (xs : List X) (i : ℕ) (x : X) → P x → AllByRecursion P xs → AllByRecursion P (set xs i x)
  all_set [] i x is all = tt
  all_set (y ∷ xs) zero x is all = (is, all.1)
  all_set (y ∷ xs) (suc i) x is all = (all.0, all_set xs i x is all.1)

  pub all_behind : (xs : List X) (x : X) → P x → AllByRecursion P xs → AllByRecursion P (xs ++ x ∷ [])
  all_behind [] x is all = (is, tt)
  all_behind (y ∷ xs) x is all = (all.0, all_behind xs x is all.1)

pub mapped_at : (ks : List ChangedKey) (i : ℕ) (k : ChangedKey) → slice_get ks i ≡ Some k → slice_get (map key_said ks) i ≡ Some (key_said k)
mapped_at [] i k at = absurd (no_some at)
mapped_at (x ∷ ks) zero k at = ap (λ (y : ChangedKey). Some (key_said y)) (same_some x k at)
mapped_at (x ∷ ks) (suc i) k at = mapped_at ks i k at

-- The index.

pub same_places : (y : ChangedKey) (ks : List ChangedKey) (i : ℕ) (k : ChangedKey) → slice_get ks i ≡ Some k → place_said y ≡ place_said k → map place_said (set ks i y) ≡ map place_said ks
same_places y [] i k at same = refl
same_places y (x ∷ ks) zero k at same = ap (λ (p : Place). p ∷ map place_said ks) (same ∙ ap place_said (sym (same_some x k at)))
same_places y (x ∷ ks) (suc i) k at same = ap (λ (ps : List Place). place_said x ∷ ps) (same_places y ks i k at same)

-- a key that changes in its place
pub kept_changed : {A S : Type 0} (keys new : Vec ChangedKey A) (places : IndexSet Place S) (y : ChangedKey) (i : ℕ) (k : ChangedKey) → AreKept keys places → slice_get keys.items i ≡ Some k → place_said y ≡ place_said k → y.first ≤ 2 ^ 62
    → new.items ≡ set keys.items i y → vec_capacity keys ≤ vec_capacity new → AreKept new places
kept_changed keys new places y i k is at same low put wide =
    let room = is.room in
    let few = is.few in
    let long = ap length put ∙ length-set keys.items i y in
    record {
      room = omega (arith, room, wide);
      few = omega (arith, few, long);
      low = subst AreLow (sym put) (all_set (λ (k : ChangedKey). k.first ≤ 2 ^ 62) keys.items i y low is.low);
      alike = is.alike ∙ sym (ap (map place_said) put ∙ same_places y keys.items i k at same);
      free = is.free;
    }

-- a key that is new
pub kept_added : {A S : Type 0} (keys new : Vec ChangedKey A) (places more : IndexSet Place S) (y : ChangedKey) → AreKept keys places → length keys.items < 1024 → y.first ≤ 2 ^ 62 → list_any (same_place (place_said y)) places.keys ≡ false
    → new.items ≡ keys.items ++ y ∷ [] → vec_capacity keys ≤ vec_capacity new → more.keys ≡ insert_key same_place places.keys (place_said y) → spare places ≤ spare more + 1 → AreKept new more
kept_added keys new places more y is lt low none put wide into left =
    let room = is.room in
    let long = ap length put ∙ length-append keys.items (y ∷ []) in
    let behind = into ∙ ap (λ (b : Bool). if b then places.keys else places.keys ++ place_said y ∷ []) none in
    let longer = ap length behind ∙ length-append places.keys (place_said y ∷ []) in
    let free = is.free in
    record {
      room = omega (arith, room, wide);
      few = omega (arith, long, lt);
      low = subst AreLow (sym put) (all_behind (λ (k : ChangedKey). k.first ≤ 2 ^ 62) keys.items y low is.low);
      alike = behind ∙ ap (λ (ps : List Place). ps ++ place_said y ∷ []) is.alike ∙ sym (ap (map place_said) put ∙ map-append place_said keys.items (y ∷ []));
      free = omega (arith, free, longer, left);
    }

-- The first keys, and one more.

pub said_more : (ks : List ChangedKey) (i : ℕ) (x : ChangedKey) → i < length ks → x ≡ get_or ks i x → map key_said (take (i + 1) ks) ≡ map key_said (take i ks) ++ key_said x ∷ []
said_more ks i x lt at = ap (map key_said) (take_more ks i x lt) ∙ map-append key_said (take i ks) (get_or ks i x ∷ []) ∙ ap (λ (y : ChangedKey). map key_said (take i ks) ++ key_said y ∷ []) (sym at)

pub taken_more : (ks : List ChangedKey) (all : List KeyTold) (i : ℕ) (x : ChangedKey) → map key_said ks ≡ all → i < length ks → x ≡ get_or ks i x → take (i + 1) all ≡ take i all ++ key_said x ∷ []
taken_more ks all i x said lt at = subst (λ (all : List KeyTold). take (i + 1) all ≡ take i all ++ key_said x ∷ []) said (take-map key_said (i + 1) ks ∙ said_more ks i x lt at ∙ ap (λ (r : List KeyTold). r ++ key_said x ∷ []) (sym (take-map key_said i ks)))
