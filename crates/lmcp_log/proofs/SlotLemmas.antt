-- What a call does to the slots, by the place at which it does it.
use Rattle.std.specs.Prelude.{if◌then◌else◌}
use Rattle.std.proofs.Common.{◌≡◌, ℕ, zero, suc, ◌<◌, Bool, true, false, [], ◌∷◌, length, take, set, Option, Some, None, inl, inr, refl, ap, sym, arith}
use Rattle.std.specs.Prelude.{is_some}
use Rattle.std.proofs.lemmas.Bool.{cases_Bool}
use Rattle.vms_base.specs.declared.protocol.LogRec.{LogRec}
use Rattle.vms_base.specs.vms_model.Ids.{Id}
use Rattle.log_laws.specs.commit_protocol.Messages.{LogRecord, same_id}
use Rattle.log_laws.specs.Slots.{Slots, has_slot, has_free, replaced, filled, put_in, forgotten}
use Rattle.log_laws.specs.Slots.{records_in}
use Rattle.lmcp_log.specs.Log.{slot_of, slot_at, is_of, is_free, record_with, IsFirst}

-- the first one of a list, or one of those behind it
pub first_here : (test : Option LogRecord → Bool) (o : Option LogRecord) (ss : Slots) → IsFirst test (o ∷ ss) 0 → test o ≡ true
first_here test o ss h = h.here

pub first_later : (test : Option LogRecord → Bool) (o : Option LogRecord) (ss : Slots) (p : ℕ) → IsFirst test (o ∷ ss) (suc p) → (test o ≡ false) × IsFirst test ss p
first_later test o ss p h = (h.before 0 (omega arith), record { within = (let w : suc p < suc (length ss) = h.within in omega arith); here = h.here; before = λ k lt. h.before (suc k) (omega arith) })

pub none_first : (test : Option LogRecord → Bool) (p : ℕ) → IsFirst test [] p → ⊥
none_first test p h = let w : p < 0 = h.within in absurd (omega arith)

pub clash : true ≡ false → ⊥
clash e = cc

pub first_replaced : (r : LogRecord) (ss : Slots) (p : ℕ) → IsFirst (is_of r.serial) ss p → (has_slot r.serial ss ≡ true) × (replaced r ss ≡ set ss p (Some r))
first_replaced r [] p h = absurd (none_first (is_of r.serial) p h)
first_replaced r (None ∷ ss) zero h = absurd (clash (sym (first_here (is_of r.serial) None ss h)))
first_replaced r (None ∷ ss) (suc p) h =
    let m = first_replaced r ss p (first_later (is_of r.serial) None ss p h).1 in
    (m.0, ap (λ (ts : Slots). None ∷ ts) m.1)
first_replaced r (Some q ∷ ss) zero h =
    let e : same_id q.serial r.serial ≡ true = first_here (is_of r.serial) (Some q) ss h in
    (rw e refl, rw e refl)
first_replaced r (Some q ∷ ss) (suc p) h =
    let l = first_later (is_of r.serial) (Some q) ss p h in
    let e : same_id q.serial r.serial ≡ false = l.0 in
    let m = first_replaced r ss p l.1 in
    (rw e (m.0), rw e (ap (λ (ts : Slots). Some q ∷ ts) m.1))

pub first_filled : (r : LogRecord) (ss : Slots) (p : ℕ) → IsFirst is_free ss p → (has_free ss ≡ true) × (filled r ss ≡ set ss p (Some r))
first_filled r [] p h = absurd (none_first is_free p h)
first_filled r (None ∷ ss) zero h = (refl, refl)
first_filled r (None ∷ ss) (suc p) h = absurd (clash (first_later is_free None ss p h).0)
first_filled r (Some q ∷ ss) zero h = absurd (clash (sym (first_here is_free (Some q) ss h)))
first_filled r (Some q ∷ ss) (suc p) h =
    let m = first_filled r ss p (first_later is_free (Some q) ss p h).1 in
    (m.0, ap (λ (ts : Slots). Some q ∷ ts) m.1)

pub first_forgotten : (s : Id) (ss : Slots) (p : ℕ) → IsFirst (is_of s) ss p → (has_slot s ss ≡ true) × (forgotten s ss ≡ set ss p None) × (record_with s ss ≡ slot_at ss p)
first_forgotten s [] p h = absurd (none_first (is_of s) p h)
first_forgotten s (None ∷ ss) zero h = absurd (clash (sym (first_here (is_of s) None ss h)))
first_forgotten s (None ∷ ss) (suc p) h =
    let m = first_forgotten s ss p (first_later (is_of s) None ss p h).1 in
    (m.0, ap (λ (ts : Slots). None ∷ ts) m.1, m.2)
first_forgotten s (Some q ∷ ss) zero h =
    let e : same_id q.serial s ≡ true = first_here (is_of s) (Some q) ss h in
    (rw e refl, rw e refl, rw e refl)
first_forgotten s (Some q ∷ ss) (suc p) h =
    let l = first_later (is_of s) (Some q) ss p h in
    let e : same_id q.serial s ≡ false = l.0 in
    let m = first_forgotten s ss p l.1 in
    (rw e (m.0), rw e (ap (λ (ts : Slots). Some q ∷ ts) m.1), rw e (m.2))

-- where no slot has the serial
pub none_forgotten : (s : Id) (ss : Slots) → has_slot s ss ≡ false → (forgotten s ss ≡ ss) × (record_with s ss ≡ None)
none_forgotten s [] h = (refl, refl)
none_forgotten s (None ∷ ss) h = let m = none_forgotten s ss h in (ap (λ (ts : Slots). None ∷ ts) m.0, m.1)
none_forgotten s (Some q ∷ ss) h = elim (cases_Bool (same_id q.serial s)) [
  | inl e ↦ absurd (clash (let z : true ≡ false = rw e at h in z))
  | inr e ↦ (let z : has_slot s ss ≡ false = rw e at h in let m = none_forgotten s ss z in (rw e (ap (λ (ts : Slots). Some q ∷ ts) m.0), rw e (m.1)))
]

-- no slot of all
pub no_slot : (s : Id) (ss : Slots) → ((k : ℕ) → k < length ss → is_of s (slot_at ss k) ≡ false) → has_slot s ss ≡ false
no_slot s [] h = refl
no_slot s (None ∷ ss) h = no_slot s ss (λ k lt. h (suc k) (omega arith))
no_slot s (Some q ∷ ss) h =
    let e : same_id q.serial s ≡ false = h 0 (omega arith) in
    rw e (no_slot s ss (λ k lt. h (suc k) (omega arith)))

pub no_free : (ss : Slots) → ((k : ℕ) → k < length ss → is_free (slot_at ss k) ≡ false) → has_free ss ≡ false
no_free [] h = refl
no_free (None ∷ ss) h = absurd (clash (h 0 (omega arith)))
no_free (Some q ∷ ss) h = no_free ss (λ k lt. h (suc k) (omega arith))

-- a slot with the serial stands among the first so many, or none does
pub slot_below : (s : Id) (ss : Slots) (i : ℕ) → has_slot s (take i ss) ≡ true → (k : ℕ) × (k < i) × (k < length ss) × (is_of s (slot_at ss k) ≡ true)
slot_below s ss zero h = absurd (clash (sym h))
slot_below s [] (suc i) h = absurd (clash (sym h))
slot_below s (None ∷ ss) (suc i) h = let m = slot_below s ss i h in (suc m.0, omega (arith, m.1), omega (arith, m.2), m.3)
slot_below s (Some q ∷ ss) (suc i) h = elim (cases_Bool (same_id q.serial s)) [
  | inl e ↦ (0, omega arith, omega arith, e)
  | inr e ↦ (let z : has_slot s (take i ss) ≡ true = rw e at h in let m = slot_below s ss i z in (suc m.0, omega (arith, m.1), omega (arith, m.2), m.3))
]

-- a record comes into the slot of its serial, else into the lowest free one
pub putting : (r : LogRecord) (ss : Slots) (p : ℕ) → (has_slot r.serial ss ≡ true → IsFirst (is_of r.serial) ss p) → (has_slot r.serial ss ≡ false → IsFirst is_free ss p) → (put_in r ss ≡ set ss p (Some r)) × (p < length ss)
putting r ss p there free = go (has_slot r.serial ss) refl
  where
    go : (b : Bool) → has_slot r.serial ss ≡ b → ((if b then replaced r ss else filled r ss) ≡ set ss p (Some r)) × (p < length ss)
    go true e = ((first_replaced r ss p (there e)).1, (there e).within)
    go false e = ((first_filled r ss p (free e)).1, (free e).within)

-- whether a slot has a record, and how many it has
pub taken_slot : (x : Option LogRec) → is_some x ≡ true → (is_free (slot_of x) ≡ false) × (length (records_in (slot_of x ∷ [])) ≡ 1)
taken_slot None e = absurd (let z : false ≡ true = e in cc)
taken_slot (Some r) e = (refl, refl)

pub free_slot : (x : Option LogRec) → is_some x ≡ false → length (records_in (slot_of x ∷ [])) ≡ 0
free_slot None e = refl
free_slot (Some r) e = absurd (let z : true ≡ false = e in cc)
