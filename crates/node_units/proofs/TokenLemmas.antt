-- The units that tokens stand for.
use Rattle.std.proofs.Common.{◌≡◌, ℕ, zero, suc, ◌+◌, ◌<◌, ◌≤◌, List, [], ◌∷◌, ◌++◌, Bool, true, false, not, Option, Some, None, length, map, get_or, slice_set, refl, sym, ◌∙◌, ap, subst, arith, inl, inr, get_or-set_same, get_or-set_other}
use Rattle.std.specs.Prelude.{◌==◌, ◌||◌, IsSome, if◌then◌else◌, is_some}
use Rattle.std.specs.List.{AllByRecursion, filter, list_any, position, position_from, remove}
use Rattle.std.proofs.lemmas.Bool.{cases_eq}
use Rattle.std.proofs.lemmas.Bool.Decides.{nat_tests}
use Rattle.std.proofs.lemmas.Iterator.Adapters.{position_from-zero}
use Rattle.std.proofs.Math.Seq.{map-set_same}
use Rattle.std.proofs.lemmas.List.{get_or-map, length-map, map-append}
use Rattle.std.proofs.lemmas.List.Quantifiers.{position-Some}
use Rattle.vms_model.specs.Ids.{Id}
use Rattle.records_model.specs.History.{same_id}
use Rattle.recovery_units.proofs.world_laws.EntryLemmas.{all_append}
use Rattle.recovery_units.proofs.world_laws.FindLemmas.{some_is}
use Rattle.recovery_units.proofs.world_laws.IdLemmas.{id_is}
use Rattle.record_locks.specs.Locks.{Lock, released}
use Rattle.vms_base.specs.Ids.{serial_of, tid_of}
use Rattle.unit_table.specs.Places.{AreInOrder, count_at, occurrences}
use Rattle.unit_table.specs.Units as table
use Rattle.unit_table.specs.Units.{OpenUnit, begun, new_unit, prepared_unit, unit_at, units_of}
use Rattle.unit_table.proofs.OrderLemmas.{all_in_order, at_below, more_here, more_there}
use Rattle.log_laws.specs.Slots.{Slots}
use Rattle.recovery_units.specs.State as calls
use Rattle.recovery_units.specs.State.{is_begun, serials_in, with_prepared, without_begun, without_unit}
use Rattle.file_base.specs.declared.head.FileHead.{FileHead}
use Rattle.record_operations.specs.declared.ops.RecordOp.{RecordOp}
use Rattle.record_operations.specs.declared.ops.RecordOp.TheVariants as op
use Rattle.volume.specs.State.{VolumeState}
use Rattle.rms_units.specs.Calls.{ChangesOk}
use Rattle.rms_units.specs.Truncating.{with_positions}
use Rattle.rms_units.specs.unit_cuts.Truncating.{begins_at}
use Rattle.rms_units.specs.State as rms
use Rattle.rms_units.specs.State.{unit_of}
use Rattle.node_units.specs.declared.begun.BegunUnit.{BegunUnit}
use Rattle.node_units.specs.declared.begun.Token.TheVariants as token
use Rattle.node_units.specs.Seen.{seen}
use Rattle.node_units.specs.declared.begun.Token.{Token}
use Rattle.node_units.specs.Tokens.{TokensRepresent, is_active, is_held, is_of, is_waiting, place_in}
use Rattle.unit_table.proofs.BegunLemmas.{begun_last, units_other}

-- Whether a unit is found.

from_any : {X : Type 0} (p : X → Bool) (xs : List X) (i : ℕ) → is_some (position_from p i xs) ≡ list_any p xs
from_any p [] i = refl
from_any p (x ∷ xs) i = go (p x) (from_any p xs (i + 1))
  where
    go : (b : Bool) → is_some (position_from p (i + 1) xs) ≡ list_any p xs → is_some (if b then Some i else position_from p (i + 1) xs) ≡ (b || list_any p xs)
    go true rest = refl
    go false rest = rest

any_of : {X Y : Type 0} (p : Y → Bool) (f : X → Y) (xs : List X) → list_any (λ x. p (f x)) xs ≡ list_any p (map f xs)
any_of p f [] = refl
any_of p f (x ∷ xs) = ap (λ b. p (f x) || b) (any_of p f xs)

pub found_if : (ts : List BegunUnit) (s : rms.UnitsState) (log : Slots) (x : Id) → TokensRepresent ts s → is_some (position (is_of x) ts) ≡ is_begun x (seen s log)
found_if ts s log x stand =
    ap is_some (position_from-zero (is_of x) ts) ∙ from_any (is_of x) ts 0 ∙ any_of (same_id x) (λ (t : BegunUnit). serial_of t.serial) ts
    ∙ ap (list_any (same_id x)) stand.serials ∙ sym (any_of (same_id x) (λ (u : OpenUnit). u.serial) (begun s.units))

-- Each place has a unit, and stands once.

abbrev pub AreTaken : List (Option OpenUnit) → List ℕ → Type 0
AreTaken us qs = AllByRecursion (λ p. IsSome (unit_at us p)) qs

abbrev pub StandOnce : List ℕ → Type 0
StandOnce qs = (p : ℕ) → occurrences p qs ≤ 1

once_behind : (q : ℕ) (qs : List ℕ) → StandOnce (q ∷ qs) → StandOnce qs
once_behind q qs once p = step (q == p) (once p)
  where
    step : (b : Bool) → (if b then suc (occurrences p qs) else occurrences p qs) ≤ 1 → occurrences p qs ≤ 1
    step true h = omega (arith, h)
    step false h = h

gone_behind : (q : ℕ) (qs : List ℕ) → StandOnce (q ∷ qs) → occurrences q qs ≡ 0
gone_behind q qs once = let one = once q in let here = more_here q qs in omega (arith, one, here)

-- a place that stands there
stands : (qs : List ℕ) (i : ℕ) → i < length qs → 1 ≤ occurrences (get_or qs i 0) qs
stands [] i below = absurd (omega (arith, below))
stands (q ∷ qs) zero below = let here = more_here q qs in omega (arith, here)
stands (q ∷ qs) (suc i) below = go (q == get_or qs i 0) (stands qs i (omega (arith, below)))
  where
    go : (b : Bool) → 1 ≤ occurrences (get_or qs i 0) qs → 1 ≤ (if b then suc (occurrences (get_or qs i 0) qs) else occurrences (get_or qs i 0) qs)
    go true h = omega (arith, h)
    go false h = h

-- another place than those behind it
apart_behind : (q : ℕ) (qs : List ℕ) (i : ℕ) → StandOnce (q ∷ qs) → i < length qs → q ≡ get_or qs i 0 → ⊥
apart_behind q qs i once below same = let none = gone_behind q qs once in let some = stands qs i below in let at = ap (λ p. occurrences p qs) same in omega (arith, none, some, at)

-- The unit at the place that stands at an index.
pub unit_there : (us : List (Option OpenUnit)) (qs : List ℕ) (i : ℕ) → AreTaken us qs → i < length qs → (u : OpenUnit) × (unit_at us (get_or qs i 0) ≡ Some u) × ((d : OpenUnit) → get_or (units_of us qs) i d ≡ u)
unit_there us [] i taken below = absurd (omega (arith, below))
unit_there us (q ∷ qs) zero taken below = go (unit_at us q) refl taken.0
  where
    go : (o : Option OpenUnit) → unit_at us q ≡ o → IsSome o → (u : OpenUnit) × (unit_at us q ≡ Some u) × ((d : OpenUnit) → get_or (elim o [ Some w ↦ w ∷ units_of us qs | None ↦ units_of us qs ]) 0 d ≡ u)
    go (Some u) is some = (u, is, λ d. refl)
    go None is some = let never : ⊥ = cc in absurd never
unit_there us (q ∷ qs) (suc i) taken below = go (unit_at us q) taken.0 (unit_there us qs i taken.1 (omega (arith, below)))
  where
    go : (o : Option OpenUnit) → IsSome o → (u : OpenUnit) × (unit_at us (get_or qs i 0) ≡ Some u) × ((d : OpenUnit) → get_or (units_of us qs) i d ≡ u) →
        (u : OpenUnit) × (unit_at us (get_or qs i 0) ≡ Some u) × ((d : OpenUnit) → get_or (elim o [ Some w ↦ w ∷ units_of us qs | None ↦ units_of us qs ]) (suc i) d ≡ u)
    go (Some w) some r = r
    go None some r = let never : ⊥ = cc in absurd never

-- Another unit in the place of one, of which the same is told.
pub same_each : {X : Type 0} (g : OpenUnit → X) (us : List (Option OpenUnit)) (qs : List ℕ) (p : ℕ) (u w : OpenUnit) → unit_at us p ≡ Some u → g w ≡ g u → map g (units_of (slice_set us p (Some w)) qs) ≡ map g (units_of us qs)
same_each g us [] p u w there same = refl
same_each g us (q ∷ qs) p u w there same = elim (cases_eq q p) [
  | inl is ↦
      (λ i. map g (elim (now is i) [ Some y ↦ y ∷ units_of (slice_set us p (Some w)) qs | None ↦ units_of (slice_set us p (Some w)) qs ]))
      ∙ (λ i. same i ∷ same_each g us qs p u w there same i)
      ∙ (λ i. map g (elim (sym (was is) i) [ Some y ↦ y ∷ units_of us qs | None ↦ units_of us qs ]))
  | inr apart ↦
      (λ i. map g (elim (get_or-set_other us p q (Some w) None apart i) [ Some y ↦ y ∷ units_of (slice_set us p (Some w)) qs | None ↦ units_of (slice_set us p (Some w)) qs ]))
      ∙ go (unit_at us q) (same_each g us qs p u w there same)
]
  where
    was : q ≡ p → unit_at us q ≡ Some u
    was is = ap (unit_at us) is ∙ there

    now : q ≡ p → unit_at (slice_set us p (Some w)) q ≡ Some w
    now is = ap (unit_at (slice_set us p (Some w))) is ∙ get_or-set_same us p (Some w) None (at_below us p (subst IsSome (sym there) refl))

    go : (o : Option OpenUnit) → map g (units_of (slice_set us p (Some w)) qs) ≡ map g (units_of us qs) →
        map g (elim o [ Some y ↦ y ∷ units_of (slice_set us p (Some w)) qs | None ↦ units_of (slice_set us p (Some w)) qs ]) ≡ map g (elim o [ Some y ↦ y ∷ units_of us qs | None ↦ units_of us qs ])
    go (Some y) rest = ap (λ xs. g y ∷ xs) rest
    go None rest = rest

-- In the place that stands at an index.
pub units_set : (us : List (Option OpenUnit)) (qs : List ℕ) (i : ℕ) (w : OpenUnit) → AreTaken us qs → StandOnce qs → i < length qs → units_of (slice_set us (get_or qs i 0) (Some w)) qs ≡ slice_set (units_of us qs) i w
units_set us [] i w taken once below = absurd (omega (arith, below))
units_set us (q ∷ qs) zero w taken once below =
    (λ j. elim (get_or-set_same us q (Some w) None (at_below us q taken.0) j) [ Some y ↦ y ∷ units_other us q (Some w) qs (gone_behind q qs once) j | None ↦ units_other us q (Some w) qs (gone_behind q qs once) j ]) ∙ go (unit_at us q) taken.0
  where
    go : (o : Option OpenUnit) → IsSome o → w ∷ units_of us qs ≡ slice_set (elim o [ Some u ↦ u ∷ units_of us qs | None ↦ units_of us qs ]) 0 w
    go (Some u) some = refl
    go None some = let never : ⊥ = cc in absurd never
units_set us (q ∷ qs) (suc i) w taken once below =
    let less : i < length qs = omega (arith, below) in
    (λ j. elim (get_or-set_other us (get_or qs i 0) q (Some w) None (apart_behind q qs i once less) j) [ Some y ↦ y ∷ units_of (slice_set us (get_or qs i 0) (Some w)) qs | None ↦ units_of (slice_set us (get_or qs i 0) (Some w)) qs ])
    ∙ go (unit_at us q) taken.0 (units_set us qs i w taken.1 (once_behind q qs once) less)
  where
    go : (o : Option OpenUnit) → IsSome o → units_of (slice_set us (get_or qs i 0) (Some w)) qs ≡ slice_set (units_of us qs) i w →
        (elim o [ Some y ↦ y ∷ units_of (slice_set us (get_or qs i 0) (Some w)) qs | None ↦ units_of (slice_set us (get_or qs i 0) (Some w)) qs ]) ≡ slice_set (elim o [ Some u ↦ u ∷ units_of us qs | None ↦ units_of us qs ]) (suc i) w
    go (Some u) some rest = ap (λ (ws : List OpenUnit). u ∷ ws) rest
    go None some rest = let never : ⊥ = cc in absurd never

-- A unit less.

-- without a number that does not stand there
kept_all : (q : ℕ) (qs : List ℕ) → occurrences q qs ≡ 0 → filter (λ r. not (r == q)) qs ≡ qs
kept_all q [] none = refl
kept_all q (r ∷ qs) none = go (r == q) none (kept_all q qs)
  where
    go : (b : Bool) → (if b then suc (occurrences q qs) else occurrences q qs) ≡ 0 → (occurrences q qs ≡ 0 → filter (λ s. not (s == q)) qs ≡ qs) →
        (if not b then r ∷ filter (λ s. not (s == q)) qs else filter (λ s. not (s == q)) qs) ≡ r ∷ qs
    go true e rest = absurd (omega (arith, e))
    go false e rest = ap (λ (ps : List ℕ). r ∷ ps) (rest e)

same_here : (q : ℕ) → (q == q) ≡ true
same_here q = grind (arith, nat_tests)

apart_here : (q p : ℕ) → (q ≡ p → ⊥) → (q == p) ≡ false
apart_here q p apart = grind (arith, nat_tests, apart)

-- without the place that stands at an index
pub filtered : (qs : List ℕ) (i : ℕ) → StandOnce qs → i < length qs → filter (λ q. not (q == get_or qs i 0)) qs ≡ remove qs i
filtered [] i once below = absurd (omega (arith, below))
filtered (q ∷ qs) zero once below = (λ j. if not (same_here q j) then q ∷ filter (λ r. not (r == q)) qs else filter (λ r. not (r == q)) qs) ∙ kept_all q qs (gone_behind q qs once)
filtered (q ∷ qs) (suc i) once below =
    let less : i < length qs = omega (arith, below) in
    (λ j. if not (apart_here q (get_or qs i 0) (apart_behind q qs i once less) j) then q ∷ filter (λ r. not (r == get_or qs i 0)) qs else filter (λ r. not (r == get_or qs i 0)) qs)
    ∙ ap (λ (ps : List ℕ). q ∷ ps) (filtered qs i (once_behind q qs once) less)

-- so it stands there no more
gone_there : (qs : List ℕ) (i : ℕ) → StandOnce qs → i < length qs → occurrences (get_or qs i 0) (remove qs i) ≡ 0
gone_there [] i once below = absurd (omega (arith, below))
gone_there (q ∷ qs) zero once below = gone_behind q qs once
gone_there (q ∷ qs) (suc i) once below =
    let less : i < length qs = omega (arith, below) in
    more_there (get_or qs i 0) q (remove qs i) (apart_behind q qs i once less) ∙ gone_there qs i (once_behind q qs once) less

-- the units then
units_without : (us : List (Option OpenUnit)) (qs : List ℕ) (i : ℕ) → AreTaken us qs → i < length qs → units_of us (remove qs i) ≡ remove (units_of us qs) i
units_without us [] i taken below = absurd (omega (arith, below))
units_without us (q ∷ qs) zero taken below = go (unit_at us q) taken.0
  where
    go : (o : Option OpenUnit) → IsSome o → units_of us qs ≡ remove (elim o [ Some u ↦ u ∷ units_of us qs | None ↦ units_of us qs ]) 0
    go (Some u) some = refl
    go None some = let never : ⊥ = cc in absurd never
units_without us (q ∷ qs) (suc i) taken below = go (unit_at us q) taken.0 (units_without us qs i taken.1 (omega (arith, below)))
  where
    go : (o : Option OpenUnit) → IsSome o → units_of us (remove qs i) ≡ remove (units_of us qs) i →
        elim o [ Some u ↦ u ∷ units_of us (remove qs i) | None ↦ units_of us (remove qs i) ] ≡ remove (elim o [ Some u ↦ u ∷ units_of us qs | None ↦ units_of us qs ]) (suc i)
    go (Some u) some rest = ap (λ (ws : List OpenUnit). u ∷ ws) rest
    go None some rest = let never : ⊥ = cc in absurd never

-- what holds of each, without one, and with another in the place of one
all_less : {A : Type 0} (P : A → Type 0) (xs : List A) (i : ℕ) → AllByRecursion P xs → AllByRecursion P (remove xs i)
all_less P [] zero h = h
all_less P [] (suc i) h = h
all_less P (x ∷ xs) zero h = h.1
all_less P (x ∷ xs) (suc i) h = (h.0, all_less P xs i h.1)

all_set : {A : Type 0} (P : A → Type 0) (xs : List A) (i : ℕ) (y : A) → AllByRecursion P xs → P y → AllByRecursion P (slice_set xs i y)
all_set P [] i y h p = h
all_set P (x ∷ xs) zero y h p = (p, h.1)
all_set P (x ∷ xs) (suc i) y h p = (h.0, all_set P xs i y h.1 p)

all_get : {A : Type 0} (P : A → Type 0) (xs : List A) (i : ℕ) (d : A) → i < length xs → AllByRecursion P xs → P (get_or xs i d)
all_get P [] i d below h = absurd (omega (arith, below))
all_get P (x ∷ xs) zero d below h = h.0
all_get P (x ∷ xs) (suc i) d below h = all_get P xs i d (omega (arith, below)) h.1

map_set : {A B : Type 0} (f : A → B) (xs : List A) (i : ℕ) (y : A) → map f (slice_set xs i y) ≡ slice_set (map f xs) i (f y)
map_set f [] i y = refl
map_set f (x ∷ xs) zero y = refl
map_set f (x ∷ xs) (suc i) y = ap (λ ys. f x ∷ ys) (map_set f xs i y)

map_without : {A B : Type 0} (f : A → B) (xs : List A) (i : ℕ) → i < length xs → map f (remove xs i) ≡ remove (map f xs) i
map_without f [] i below = absurd (omega (arith, below))
map_without f (x ∷ xs) zero below = refl
map_without f (x ∷ xs) (suc i) below = ap (λ ys. f x ∷ ys) (map_without f xs i (omega (arith, below)))

-- the first unit of a branch is the one that goes
first_gone : (x : Id) (us : List OpenUnit) (i : ℕ) (d : Id) → i < length us → same_id x (get_or (map (λ (u : OpenUnit). u.serial) us) i d) ≡ true →
    ((k : ℕ) → k < i → same_id x (get_or (map (λ (u : OpenUnit). u.serial) us) k d) ≡ false) → without_unit x us ≡ remove us i
first_gone x [] i d below is before = absurd (omega (arith, below))
first_gone x (u ∷ us) zero d below is before = ap (λ (t : Bool). if t then us else u ∷ without_unit x us) is
first_gone x (u ∷ us) (suc i) d below is before =
    (λ j. if before 0 (omega arith) j then us else u ∷ without_unit x us) ∙ ap (λ (ws : List OpenUnit). u ∷ ws) (first_gone x us i d (omega (arith, below)) is (λ k less. before (suc k) (omega (arith, less))))

-- the one that is found,
first_found : (x : Id) (us : List OpenUnit) (i : ℕ) (e : OpenUnit) (d : Id) → i < length us → same_id x (get_or (map (λ (u : OpenUnit). u.serial) us) i d) ≡ true →
    ((k : ℕ) → k < i → same_id x (get_or (map (λ (u : OpenUnit). u.serial) us) k d) ≡ false) → calls.unit_of x us ≡ Some (get_or us i e)
first_found x [] i e d below is before = absurd (omega (arith, below))
first_found x (u ∷ us) zero e d below is before = ap (λ (t : Bool). if t then Some u else calls.unit_of x us) is
first_found x (u ∷ us) (suc i) e d below is before =
    (λ j. if before 0 (omega arith) j then Some u else calls.unit_of x us) ∙ first_found x us i e d (omega (arith, below)) is (λ k less. before (suc k) (omega (arith, less)))

-- and the one that is prepared
first_prepared : (x : Id) (us : List OpenUnit) (i : ℕ) (e : OpenUnit) (d : Id) → i < length us → same_id x (get_or (map (λ (u : OpenUnit). u.serial) us) i d) ≡ true →
    ((k : ℕ) → k < i → same_id x (get_or (map (λ (u : OpenUnit). u.serial) us) k d) ≡ false) → with_prepared x us ≡ slice_set us i (prepared_unit (get_or us i e))
first_prepared x [] i e d below is before = absurd (omega (arith, below))
first_prepared x (u ∷ us) zero e d below is before = ap (λ (t : Bool). if t then prepared_unit u ∷ us else u ∷ with_prepared x us) is
first_prepared x (u ∷ us) (suc i) e d below is before =
    (λ j. if before 0 (omega arith) j then prepared_unit u ∷ us else u ∷ with_prepared x us) ∙ ap (λ (ws : List OpenUnit). u ∷ ws) (first_prepared x us i e d (omega (arith, below)) is (λ k less. before (suc k) (omega (arith, less))))

-- The tokens of units.

-- the unit of a token: of its branch, and prepared where it is
pub record HasUnit (x : Id) (t : BegunUnit) (s : rms.UnitsState) : Type 0 where
  pub unit : OpenUnit
  pub there : unit_of (place_in t.token) s ≡ Some unit
  pub serial : unit.serial ≡ x
  pub tid : unit.tid ≡ tid_of t.tid
  pub prepared : unit.prepared ≡ is_waiting t.token
  pub held : is_held t.token ≡ true
  pub found : calls.unit_of x (begun s.units) ≡ Some unit

pub waits_not : (t : Token) → is_active t ≡ true → is_waiting t ≡ false
waits_not (token.Active place) active = refl
waits_not (token.Prepared place) active = let never : ⊥ = cc in absurd never
waits_not token.Spent active = refl

pub held_active : (t : Token) → is_active t ≡ true → is_held t ≡ true
held_active (token.Active place) active = refl
held_active (token.Prepared place) active = refl
held_active token.Spent active = active

-- a token that is held is that of a unit that may be changed, or that waits
pub active_of : (t : Token) → is_held t ≡ true → is_waiting t ≡ false → is_active t ≡ true
active_of (token.Active place) held is = refl
active_of (token.Prepared place) held is = let never : ⊥ = cc in absurd never
active_of token.Spent held is = held

module _ (ts : List BegunUnit) (s : rms.UnitsState) (stand : TokensRepresent ts s) (order : AreInOrder s.units.places s.units.order) where
  abbrev us : List (Option OpenUnit)
  us = s.units.places

  taken : AreTaken us s.units.order
  taken = all_in_order us s.units.order order

  once : StandOnce s.units.order
  once p = few (unit_at us p) (order.each p)
    where
      few : (o : Option OpenUnit) → occurrences p s.units.order ≡ count_at o → occurrences p s.units.order ≤ 1
      few None e = omega (arith, e)
      few (Some u) e = omega (arith, e)

  many : length s.units.order ≡ length ts
  many = sym (ap length stand.places) ∙ length-map ts (λ (t : BegunUnit). place_in t.token)

  pub stand_long : length (begun s.units) ≡ length ts
  stand_long = sym (length-map (begun s.units) (λ (u : OpenUnit). u.serial)) ∙ sym (ap length stand.serials) ∙ length-map ts (λ (t : BegunUnit). serial_of t.serial)

  -- what tokens tell of units is told of each
  alike : {X : Type 0} (f : BegunUnit → X) (g : OpenUnit → X) → map f ts ≡ map g (begun s.units) → (i : ℕ) (t : BegunUnit) (u : OpenUnit) → i < length ts → get_or (begun s.units) i u ≡ u → g u ≡ f (get_or ts i t)
  alike f g same i t u below at =
      ap g (sym at) ∙ sym (get_or-map g (begun s.units) i u (f t) (omega (arith, below, stand_long))) ∙ ap (λ xs. get_or xs i (f t)) (sym same) ∙ get_or-map f ts i t (f t) below

  place_at : (i : ℕ) (t : BegunUnit) → i < length ts → get_or s.units.order i 0 ≡ place_in (get_or ts i t).token
  place_at i t below = ap (λ (qs : List ℕ). get_or qs i 0) (sym stand.places) ∙ get_or-map (λ (w : BegunUnit). place_in w.token) ts i t 0 below

  -- where the first token of a branch goes, its unit goes
  module _ (x : Id) (i : ℕ) (t : BegunUnit) (below : i < length ts) (is : is_of x (get_or ts i t) ≡ true) (before : (k : ℕ) → k < i → is_of x (get_or ts k t) ≡ false) where
    place : get_or s.units.order i 0 ≡ place_in (get_or ts i t).token
    place = place_at i t below

    serial_at : (k : ℕ) → k < length ts → get_or (map (λ (u : OpenUnit). u.serial) (begun s.units)) k (serial_of t.serial) ≡ serial_of (get_or ts k t).serial
    serial_at k less = ap (λ (xs : List Id). get_or xs k (serial_of t.serial)) (sym stand.serials) ∙ get_or-map (λ (w : BegunUnit). serial_of w.serial) ts k t (serial_of t.serial) less

    order_then : (table.without_place (place_in (get_or ts i t).token) s.units).order ≡ remove s.units.order i
    order_then = ap (λ (p : ℕ). filter (λ q. not (q == p)) s.units.order) (sym place) ∙ filtered s.units.order i once (omega (arith, below, many))

    begun_then : begun (table.without_place (place_in (get_or ts i t).token) s.units) ≡ remove (begun s.units) i
    begun_then =
        ap (units_of (slice_set us (place_in (get_or ts i t).token) None)) order_then
        ∙ ap (λ (p : ℕ). units_of (slice_set us p None) (remove s.units.order i)) (sym place)
        ∙ units_other us (get_or s.units.order i 0) None (remove s.units.order i) (gone_there s.units.order i once (omega (arith, below, many)))
        ∙ units_without us s.units.order i taken (omega (arith, below, many))

    own_at : same_id x (get_or (map (λ (u : OpenUnit). u.serial) (begun s.units)) i (serial_of t.serial)) ≡ true
    own_at = ap (same_id x) (serial_at i below) ∙ is

    none_before : (k : ℕ) → k < i → same_id x (get_or (map (λ (u : OpenUnit). u.serial) (begun s.units)) k (serial_of t.serial)) ≡ false
    none_before k less = ap (same_id x) (serial_at k (omega (arith, less, below))) ∙ before k less

    -- it stands for a unit of that branch
    pub stands_for : HasUnit x (get_or ts i t) s
    stands_for =
        let r = unit_there us s.units.order i taken (omega (arith, below, many)) in
        let at = r.2 r.0 in record {
          unit = r.0;
          there = ap (unit_at us) (sym place) ∙ r.1;
          serial = alike (λ (w : BegunUnit). serial_of w.serial) (λ (u : OpenUnit). u.serial) stand.serials i t r.0 below at ∙ sym (id_is x (serial_of (get_or ts i t).serial) is);
          tid = alike (λ (w : BegunUnit). tid_of w.tid) (λ (u : OpenUnit). u.tid) stand.tids i t r.0 below at;
          prepared = alike (λ (w : BegunUnit). is_waiting w.token) (λ (u : OpenUnit). u.prepared) stand.prepared i t r.0 below at;
          held = all_get (λ (w : BegunUnit). is_held w.token ≡ true) ts i t below stand.held;
          found = first_found x (begun s.units) i r.0 (serial_of t.serial) (omega (arith, below, stand_long)) own_at none_before ∙ ap (λ (u : OpenUnit). Some u) at;
        }

    pub unit_gone : begun (table.without_place (place_in (get_or ts i t).token) s.units) ≡ without_unit x (begun s.units)
    unit_gone = begun_then ∙ sym (first_gone x (begun s.units) i (serial_of t.serial) (omega (arith, below, stand_long)) own_at none_before)

    less_alike : {X : Type 0} (f : BegunUnit → X) (g : OpenUnit → X) → map f ts ≡ map g (begun s.units) → map f (remove ts i) ≡ map g (begun (table.without_place (place_in (get_or ts i t).token) s.units))
    less_alike f g same = map_without f ts i below ∙ ap (λ xs. remove xs i) same ∙ sym (map_without g (begun s.units) i (omega (arith, below, stand_long))) ∙ ap (map g) (sym begun_then)

    pub stand_less : TokensRepresent (remove ts i) (rms.without_place (place_in (get_or ts i t).token) x s)
    stand_less = record {
      places = map_without (λ (w : BegunUnit). place_in w.token) ts i below ∙ ap (λ (qs : List ℕ). remove qs i) stand.places ∙ sym order_then;
      tids = less_alike (λ (w : BegunUnit). tid_of w.tid) (λ (u : OpenUnit). u.tid) stand.tids;
      serials = less_alike (λ (w : BegunUnit). serial_of w.serial) (λ (u : OpenUnit). u.serial) stand.serials;
      prepared = less_alike (λ (w : BegunUnit). is_waiting w.token) (λ (u : OpenUnit). u.prepared) stand.prepared;
      held = all_less (λ (w : BegunUnit). is_held w.token ≡ true) ts i stand.held;
    }

    -- where it is prepared, its unit is
    module _ (u : OpenUnit) (there : unit_of (place_in (get_or ts i t).token) s ≡ Some u) where
      unit_is : get_or (begun s.units) i u ≡ u
      unit_is = let r = unit_there us s.units.order i taken (omega (arith, below, many)) in r.2 u ∙ some_is r.0 u (sym r.1 ∙ ap (unit_at us) place ∙ there)

      begun_set : begun (table.with_unit (place_in (get_or ts i t).token) (prepared_unit u) s.units) ≡ slice_set (begun s.units) i (prepared_unit u)
      begun_set = ap (λ (p : ℕ). units_of (slice_set us p (Some (prepared_unit u))) s.units.order) (sym place) ∙ units_set us s.units.order i (prepared_unit u) taken once (omega (arith, below, many))

      pub unit_prepared : begun (table.with_unit (place_in (get_or ts i t).token) (prepared_unit u) s.units) ≡ with_prepared x (begun s.units)
      unit_prepared =
          begun_set ∙ ap (λ (w : OpenUnit). slice_set (begun s.units) i (prepared_unit w)) (sym unit_is)
          ∙ sym (first_prepared x (begun s.units) i u (serial_of t.serial) (omega (arith, below, stand_long)) own_at none_before)

      set_alike : {X : Type 0} (f : BegunUnit → X) (g : OpenUnit → X) (y : BegunUnit) → map f ts ≡ map g (begun s.units) → f y ≡ g (prepared_unit u) →
          map f (slice_set ts i y) ≡ map g (begun (table.with_unit (place_in (get_or ts i t).token) (prepared_unit u) s.units))
      set_alike f g y same at = map_set f ts i y ∙ (λ j. slice_set (same j) i (at j)) ∙ sym (map_set g (begun s.units) i (prepared_unit u)) ∙ ap (map g) (sym begun_set)

      pub stand_prepared : (y : BegunUnit) (locks : List Lock) → place_in y.token ≡ place_in (get_or ts i t).token → tid_of y.tid ≡ u.tid → serial_of y.serial ≡ u.serial → is_waiting y.token ≡ true → is_held y.token ≡ true →
          TokensRepresent (slice_set ts i y) (record { units = table.with_unit (place_in (get_or ts i t).token) (prepared_unit u) s.units; locks = locks })
      stand_prepared y locks at tid serial waiting held = record {
        places = map-set_same (λ (w : BegunUnit). place_in w.token) ts i y t at ∙ stand.places;
        tids = set_alike (λ (w : BegunUnit). tid_of w.tid) (λ (w : OpenUnit). w.tid) y stand.tids tid;
        serials = set_alike (λ (w : BegunUnit). serial_of w.serial) (λ (w : OpenUnit). w.serial) y stand.serials serial;
        prepared = set_alike (λ (w : BegunUnit). is_waiting w.token) (λ (w : OpenUnit). w.prepared) y stand.prepared waiting;
        held = all_set (λ (w : BegunUnit). is_held w.token ≡ true) ts i y stand.held held;
      }

  -- a unit that begins
  pub begun_more : (p : ℕ) (tid serial : Id) → p < 64 → unit_of p s ≡ None → begun (table.with_begun p tid serial s.units) ≡ begun s.units ++ new_unit tid serial ∷ []
  begun_more p tid serial below free = begun_last us s.units.order p (new_unit tid serial) (omega (arith, below, order.whole)) (order.each p ∙ ap count_at free)

  module _ (p : ℕ) (t : BegunUnit) (below : p < 64) (free : unit_of p s ≡ None) where
    more_alike : {X : Type 0} (f : BegunUnit → X) (g : OpenUnit → X) → map f ts ≡ map g (begun s.units) → f t ≡ g (new_unit (tid_of t.tid) (serial_of t.serial)) →
        map f (ts ++ t ∷ []) ≡ map g (begun (table.with_begun p (tid_of t.tid) (serial_of t.serial) s.units))
    more_alike f g same at =
        map-append f ts (t ∷ []) ∙ (λ i. same i ++ at i ∷ []) ∙ sym (map-append g (begun s.units) (new_unit (tid_of t.tid) (serial_of t.serial) ∷ []))
        ∙ ap (map g) (sym (begun_more p (tid_of t.tid) (serial_of t.serial) below free))

    pub stand_more : place_in t.token ≡ p → is_active t.token ≡ true → TokensRepresent (ts ++ t ∷ []) (rms.with_begun p (tid_of t.tid) (serial_of t.serial) s)
    stand_more at active = record {
      places = map-append (λ (w : BegunUnit). place_in w.token) ts (t ∷ []) ∙ (λ i. stand.places i ++ at i ∷ []);
      tids = more_alike (λ (w : BegunUnit). tid_of w.tid) (λ (u : OpenUnit). u.tid) stand.tids refl;
      serials = more_alike (λ (w : BegunUnit). serial_of w.serial) (λ (u : OpenUnit). u.serial) stand.serials refl;
      prepared = more_alike (λ (w : BegunUnit). is_waiting w.token) (λ (u : OpenUnit). u.prepared) stand.prepared (waits_not t.token active);
      held = all_append (λ (w : BegunUnit). is_held w.token ≡ true) ts (t ∷ []) stand.held (held_active t.token active, tt);
    }

  -- a unit that changed
  pub stand_changed : (p : ℕ) (u w : OpenUnit) (locks : List Lock) → unit_of p s ≡ Some u → w.serial ≡ u.serial → w.tid ≡ u.tid → w.prepared ≡ u.prepared → TokensRepresent ts (record { units = table.with_unit p w s.units; locks = locks })
  stand_changed p u w locks there serial tid prepared = record {
    places = stand.places;
    tids = stand.tids ∙ sym (same_each (λ (x : OpenUnit). x.tid) us s.units.order p u w there tid);
    serials = stand.serials ∙ sym (same_each (λ (x : OpenUnit). x.serial) us s.units.order p u w there serial);
    prepared = stand.prepared ∙ sym (same_each (λ (x : OpenUnit). x.prepared) us s.units.order p u w there prepared);
    held = stand.held;
  }

-- The unit of a branch that is looked for.

-- one that is begun is found
pub is_found : (ts : List BegunUnit) (s : rms.UnitsState) (log : Slots) (x : Id) (o : Option ℕ) → TokensRepresent ts s → o ≡ position (is_of x) ts → is_begun x (seen s log) ≡ true → o ≡ None → ⊥
is_found ts s log x o stand found begun none = let never : ◌≡◌ {A = Bool} false true = ap is_some (sym none ∙ found) ∙ found_if ts s log x stand ∙ begun in cc

pub own_unit : (ts : List BegunUnit) (s : rms.UnitsState) → TokensRepresent ts s → AreInOrder s.units.places s.units.order → (x : Id) (i : ℕ) (b : BegunUnit) → position (is_of x) ts ≡ Some i → b ≡ get_or ts i b → HasUnit x b s
own_unit ts s stand order x i b found at =
    let first = position-Some (is_of x) ts i b found in
    subst (λ (t : BegunUnit). HasUnit x t s) (sym at) (stands_for ts s stand order x i b first.0 first.1 first.2)

-- The tokens of the same units.
pub stand_as : (ts : List BegunUnit) (s t : rms.UnitsState) → t.units ≡ s.units → TokensRepresent ts s → TokensRepresent ts t
stand_as ts s t same stand = record {
  places = stand.places ∙ ap (λ (us : table.Units). us.order) (sym same);
  tids = stand.tids ∙ ap (λ (us : table.Units). map (λ (u : OpenUnit). u.tid) (begun us)) (sym same);
  serials = stand.serials ∙ ap (λ (us : table.Units). map (λ (u : OpenUnit). u.serial) (begun us)) (sym same);
  prepared = stand.prepared ∙ ap (λ (us : table.Units). map (λ (u : OpenUnit). u.prepared) (begun us)) (sym same);
  held = stand.held;
}

-- a token that is written back
pub stand_set : (ts : List BegunUnit) (s : rms.UnitsState) (i : ℕ) (y d : BegunUnit) → y ≡ get_or ts i d → i < length ts → TokensRepresent ts s → TokensRepresent (slice_set ts i y) s
stand_set ts s i y d same below stand = record {
  places = map-set_same (λ (t : BegunUnit). place_in t.token) ts i y d (ap (λ (t : BegunUnit). place_in t.token) same) ∙ stand.places;
  tids = map-set_same (λ (t : BegunUnit). tid_of t.tid) ts i y d (ap (λ (t : BegunUnit). tid_of t.tid) same) ∙ stand.tids;
  serials = map-set_same (λ (t : BegunUnit). serial_of t.serial) ts i y d (ap (λ (t : BegunUnit). serial_of t.serial) same) ∙ stand.serials;
  prepared = map-set_same (λ (t : BegunUnit). is_waiting t.token) ts i y d (ap (λ (t : BegunUnit). is_waiting t.token) same) ∙ stand.prepared;
  held = all_set (λ (t : BegunUnit). is_held t.token ≡ true) ts i y stand.held (subst (λ (t : BegunUnit). is_held t.token ≡ true) (sym same) (all_get (λ (t : BegunUnit). is_held t.token ≡ true) ts i d below stand.held));
}

-- the units that both stand for are of the same branches
pub same_seen : (ts : List BegunUnit) (s t : rms.UnitsState) (log more : Slots) → TokensRepresent ts s → TokensRepresent ts t → serials_in (seen t more) ≡ serials_in (seen s log)
same_seen ts s t log more one two = sym two.serials ∙ one.serials

-- A unit that noted changes.
noted_same : {X : Type 0} (g : OpenUnit → X) → ((p file : ℕ) (u : OpenUnit) → g (table.with_position p file u) ≡ g u) → (ps : List ℕ) (file : ℕ) (u : OpenUnit) → g (with_positions ps file u) ≡ g u
noted_same g one [] file u = refl
noted_same g one (p ∷ ps) file u = noted_same g one ps file (table.with_position p file u) ∙ one p file u

pub stand_changes : (ts : List BegunUnit) (s t : rms.UnitsState) (place : ℕ) (u : OpenUnit) (h : FileHead) (o : RecordOp) (bytes : List ℕ) (told : ℕ) (v w : VolumeState) → TokensRepresent ts s → AreInOrder s.units.places s.units.order → unit_of place s ≡ Some u →
    ChangesOk place u h o bytes told s v t w → TokensRepresent ts t
stand_changes ts s t place u h (op.Put file key) bytes told v w stand order there ok = let k = ok.changes refl in
    stand_as ts (record { units = table.with_unit place (table.with_position v.catalog.ru.end file u) s.units; locks = s.locks }) t k.units (stand_changed ts s stand order place u (table.with_position v.catalog.ru.end file u) s.locks there refl refl refl)
stand_changes ts s t place u h (op.Update file key) bytes told v w stand order there ok = let k = ok.changes refl in
    stand_as ts (record { units = table.with_unit place (table.with_position v.catalog.ru.end file u) s.units; locks = s.locks }) t k.units (stand_changed ts s stand order place u (table.with_position v.catalog.ru.end file u) s.locks there refl refl refl)
stand_changes ts s t place u h (op.Delete file key) bytes told v w stand order there ok = let k = ok.changes refl in
    stand_as ts (record { units = table.with_unit place (table.with_position v.catalog.ru.end file u) s.units; locks = s.locks }) t k.units (stand_changed ts s stand order place u (table.with_position v.catalog.ru.end file u) s.locks there refl refl refl)
stand_changes ts s t place u h (op.Truncate file from) bytes told v w stand order there ok = let k = ok.cuts file from refl in
    let w = with_positions (begins_at v.catalog.ru.end k.entries.had) file u in
    stand_as ts (record { units = table.with_unit place w s.units; locks = s.locks }) t k.units (stand_changed ts s stand order place u w s.locks there
    (noted_same (λ (x : OpenUnit). x.serial) (λ p f y. refl) (begins_at v.catalog.ru.end k.entries.had) file u) (noted_same (λ (x : OpenUnit). x.tid) (λ p f y. refl) (begins_at v.catalog.ru.end k.entries.had) file u)
    (noted_same (λ (x : OpenUnit). x.prepared) (λ p f y. refl) (begins_at v.catalog.ru.end k.entries.had) file u))

-- The unit of a branch is no more.
module _ (ts : List BegunUnit) (s : rms.UnitsState) (stand : TokensRepresent ts s) (order : AreInOrder s.units.places s.units.order) (x : Id) (i : ℕ) (b : BegunUnit) (found : position (is_of x) ts ≡ Some i) (at : b ≡ get_or ts i b) (y : Id) (same : y ≡ x) where
  pub seen_less : (log : Slots) → seen (rms.without_place (place_in b.token) y s) log ≡ without_begun x (seen s log)
  seen_less log =
      let first = position-Some (is_of x) ts i b found in
      let gone = ap (λ (t : BegunUnit). begun (table.without_place (place_in t.token) s.units)) at ∙ unit_gone ts s stand order x i b first.0 first.1 first.2 in
      λ j. record { begun = gone j; locks = released (same j) s.locks; log = log }

  pub stand_then : TokensRepresent (remove ts i) (rms.without_place (place_in b.token) y s)
  stand_then =
      let first = position-Some (is_of x) ts i b found in
      stand_as (remove ts i) (rms.without_place (place_in (get_or ts i b).token) x s) (rms.without_place (place_in b.token) y s) (ap (λ (t : BegunUnit). table.without_place (place_in t.token) s.units) at) (stand_less ts s stand order x i b first.0 first.1 first.2)

-- A unit that there is is begun, and is an active one where its token says so.

pub begun_some : (x : Id) (us : List OpenUnit) → IsSome (calls.unit_of x us) → list_any (λ (u : OpenUnit). same_id x u.serial) us ≡ true
begun_some x [] some = let never : ⊥ = cc in absurd never
begun_some x (u ∷ us) some = go (same_id x u.serial) some (begun_some x us)
  where
    go : (t : Bool) → IsSome (if t then Some u else calls.unit_of x us) → (IsSome (calls.unit_of x us) → list_any (λ (w : OpenUnit). same_id x w.serial) us ≡ true) → (t || list_any (λ (w : OpenUnit). same_id x w.serial) us) ≡ true
    go true is rest = refl
    go false is rest = rest is

pub changed_none : (x : Id) (us : List OpenUnit) → list_any (λ (u : OpenUnit). same_id x u.serial) us ≡ false → calls.has_changed_by x us ≡ false
changed_none x us none = ap (λ (o : Option OpenUnit). elim o as (λ _. Bool) [ Some u ↦ calls.are_there u.positions | None ↦ false ]) (absent us none)
  where
    absent : (ws : List OpenUnit) → list_any (λ (u : OpenUnit). same_id x u.serial) ws ≡ false → calls.unit_of x ws ≡ None
    absent [] is = refl
    absent (w ∷ ws) is = go (same_id x w.serial) is (absent ws)
      where
        go : (t : Bool) → (t || list_any (λ (u : OpenUnit). same_id x u.serial) ws) ≡ false → (list_any (λ (u : OpenUnit). same_id x u.serial) ws ≡ false → calls.unit_of x ws ≡ None) → (if t then Some w else calls.unit_of x ws) ≡ None
        go true e rest = let never : ⊥ = cc in absurd never
        go false e rest = rest e

one_more : (n : ℕ) → (suc n == 0) ≡ false
one_more n = grind (arith, nat_tests)

pub some_there : (ps : List ℕ) → not (length ps == 0) ≡ calls.are_there ps
some_there [] = refl
some_there (p ∷ ps) = ap not (one_more (length ps))

pub active_is : (t : Token) → is_active t ≡ true → (p : ℕ) × (t ≡ token.Active p)
active_is (token.Active place) active = (place, refl)
active_is (token.Prepared place) active = let never : ⊥ = cc in absurd never
active_is token.Spent active = let never : ⊥ = cc in absurd never

-- The unit of a branch is prepared.
module _ (ts : List BegunUnit) (s : rms.UnitsState) (stand : TokensRepresent ts s) (order : AreInOrder s.units.places s.units.order) (x : Id) (i : ℕ) (b : BegunUnit) (found : position (is_of x) ts ≡ Some i) (at : b ≡ get_or ts i b) (u : OpenUnit) (there : unit_of (place_in b.token) s ≡ Some u) where
  there_at : unit_of (place_in (get_or ts i b).token) s ≡ Some u
  there_at = subst (λ (t : BegunUnit). unit_of (place_in t.token) s ≡ Some u) at there

  pub prepared_then : (y : BegunUnit) → place_in y.token ≡ place_in b.token → tid_of y.tid ≡ u.tid → serial_of y.serial ≡ u.serial → is_waiting y.token ≡ true → is_held y.token ≡ true →
      TokensRepresent (slice_set ts i y) (record s { units = table.with_unit (place_in b.token) (prepared_unit u) s.units })
  prepared_then y place tid serial waiting held =
      let first = position-Some (is_of x) ts i b found in
      subst (λ (t : BegunUnit). TokensRepresent (slice_set ts i y) (record s { units = table.with_unit (place_in t.token) (prepared_unit u) s.units })) (sym at)
      (stand_prepared ts s stand order x i b first.0 first.1 first.2 u there_at y s.locks (place ∙ ap (λ (t : BegunUnit). place_in t.token) at) tid serial waiting held)

  pub prepared_begun : begun (table.with_unit (place_in b.token) (prepared_unit u) s.units) ≡ with_prepared x (begun s.units)
  prepared_begun =
      let first = position-Some (is_of x) ts i b found in
      ap (λ (t : BegunUnit). begun (table.with_unit (place_in t.token) (prepared_unit u) s.units)) at ∙ unit_prepared ts s stand order x i b first.0 first.1 first.2 u there_at
