-- Serials stay apart where one slot changes.
use Rattle.std.specs.Prelude.{◌⊎◌}
use Rattle.std.proofs.Common.{◌≡◌, ◌≢◌, ℕ, zero, suc, ◌<◌, Bool, true, false, List, [], ◌∷◌, length, set, Option, Some, None, inl, inr, refl, ap, sym, subst, ◌∙◌, arith}
use Rattle.std.proofs.lemmas.Bool.{cases_Bool}
use Rattle.vms_base.specs.vms_model.Ids.{Id}
use Rattle.log_laws.specs.commit_protocol.Messages.{LogRecord, same_id}
use Rattle.log_laws.specs.commit_protocol.Table.{record_serials}
use Rattle.log_laws.specs.commit_protocol.World.{In}
use Rattle.log_laws.specs.commit_protocol.Agreement.{Distinct}
use Rattle.log_laws.proofs.commit_protocol.Lists.{told_id}
use Rattle.log_laws.specs.Slots.{Slots, records_in, has_slot}
use Rattle.lmcp_log.specs.Log.{slot_at, is_of, is_free, IsFirst}
use Rattle.lmcp_log.proofs.SlotLemmas.{first_here, first_later, none_first, clash}
use Rattle.lmcp_log.proofs.Reading.{not_among}

-- ids that are the same, or not
pub same_ids : (a b : Id) → same_id a b ≡ true → a ≡ b
same_ids a b h = elim (told_id a b) [ inl e ↦ e.1 | inr e ↦ absurd (clash (sym h ∙ e.0)) ]

pub other_ids : (a b : Id) → same_id a b ≡ false → a ≢ b
other_ids a b h e = elim (told_id a b) [ inl f ↦ clash (sym f.0 ∙ h) | inr f ↦ f.1 e ]

pub apart_ids : (a b : Id) → a ≢ b → same_id a b ≡ false
apart_ids a b n = elim (told_id a b) [ inl e ↦ absurd (n e.1) | inr e ↦ e.0 ]

no_some : {A : Type 0} (a : A) → ◌≡◌ {A = Option A} None (Some a) → ⊥
no_some a e = cc

pub replaced_serials : (r : LogRecord) (ss : Slots) (p : ℕ) → IsFirst (is_of r.serial) ss p → record_serials (records_in (set ss p (Some r))) ≡ record_serials (records_in ss)
replaced_serials r [] p h = absurd (none_first (is_of r.serial) p h)
replaced_serials r (None ∷ ss) zero h = absurd (clash (sym (first_here (is_of r.serial) None ss h)))
replaced_serials r (Some x ∷ ss) zero h =
    let e = same_ids x.serial r.serial (first_here (is_of r.serial) (Some x) ss h) in
    ap (λ (i : Id). i ∷ record_serials (records_in ss)) (sym e)
replaced_serials r (None ∷ ss) (suc p) h = replaced_serials r ss p (first_later (is_of r.serial) None ss p h).1
replaced_serials r (Some x ∷ ss) (suc p) h = ap (λ (is : List Id). x.serial ∷ is) (replaced_serials r ss p (first_later (is_of r.serial) (Some x) ss p h).1)

-- no serial stands twice

in_filled : (r : LogRecord) (ss : Slots) (p : ℕ) (i : Id) → slot_at ss p ≡ None → In i (record_serials (records_in (set ss p (Some r)))) → (i ≡ r.serial) ⊎ In i (record_serials (records_in ss))
in_filled r [] p i free h = inr h
in_filled r (None ∷ ss) zero i free h = elim h [ inl e ↦ inl e | inr j ↦ inr j ]
in_filled r (Some x ∷ ss) zero i free h = absurd (no_some x (sym free))
in_filled r (None ∷ ss) (suc p) i free h = in_filled r ss p i free h
in_filled r (Some x ∷ ss) (suc p) i free h = elim h [
  | inl e ↦ inr (inl e)
  | inr j ↦ elim (in_filled r ss p i free j) [ inl e ↦ inl e | inr k ↦ inr (inr k) ]
]

pub filled_distinct : (r : LogRecord) (ss : Slots) (p : ℕ) → p < length ss → slot_at ss p ≡ None → has_slot r.serial ss ≡ false → Distinct (record_serials (records_in ss)) → Distinct (record_serials (records_in (set ss p (Some r))))
filled_distinct r [] p lt free new d = absurd (omega arith)
filled_distinct r (None ∷ ss) zero lt free new d = (not_among r.serial ss new, d)
filled_distinct r (Some x ∷ ss) zero lt free new d = absurd (no_some x (sym free))
filled_distinct r (None ∷ ss) (suc p) lt free new d = filled_distinct r ss p (omega arith) free new d
filled_distinct r (Some x ∷ ss) (suc p) lt free new d = elim (cases_Bool (same_id x.serial r.serial)) [
  | inl e ↦ absurd (clash (let z : true ≡ false = rw e at new in z))
  | inr e ↦
      let z : has_slot r.serial ss ≡ false = rw e at new in
      (λ h. elim (in_filled r ss p x.serial free h) [ inl f ↦ other_ids x.serial r.serial e f | inr j ↦ d.0 j ], filled_distinct r ss p (omega arith) free z d.1)
]

in_freed : (ss : Slots) (p : ℕ) (i : Id) → In i (record_serials (records_in (set ss p None))) → In i (record_serials (records_in ss))
in_freed [] p i h = h
in_freed (None ∷ ss) zero i h = h
in_freed (Some x ∷ ss) zero i h = inr h
in_freed (None ∷ ss) (suc p) i h = in_freed ss p i h
in_freed (Some x ∷ ss) (suc p) i h = elim h [ inl e ↦ inl e | inr j ↦ inr (in_freed ss p i j) ]

pub freed_distinct : (ss : Slots) (p : ℕ) → Distinct (record_serials (records_in ss)) → Distinct (record_serials (records_in (set ss p None)))
freed_distinct [] p d = d
freed_distinct (None ∷ ss) zero d = d
freed_distinct (Some x ∷ ss) zero d = d.1
freed_distinct (None ∷ ss) (suc p) d = freed_distinct ss p d
freed_distinct (Some x ∷ ss) (suc p) d = (λ h. d.0 (in_freed ss p x.serial h), freed_distinct ss p d.1)

-- a record in the slot of its serial, else in the lowest free one
pub put_distinct : (r : LogRecord) (ss : Slots) (p : ℕ) → (has_slot r.serial ss ≡ true → IsFirst (is_of r.serial) ss p) → (has_slot r.serial ss ≡ false → IsFirst is_free ss p) → Distinct (record_serials (records_in ss)) → Distinct (record_serials (records_in (set ss p (Some r))))
put_distinct r ss p there free d = elim (cases_Bool (has_slot r.serial ss)) [
  | inl e ↦ (let D : List Id → Type 0 = λ is. Distinct is in subst D (sym (replaced_serials r ss p (there e))) d)
  | inr e ↦ (let h = free e in filled_distinct r ss p h.within (free_none ss p h) e d)
]
  where
    free_none : (ss : Slots) (p : ℕ) → IsFirst is_free ss p → slot_at ss p ≡ None
    free_none ss p h = go (slot_at ss p) refl
      where
        go : (o : Option LogRecord) → slot_at ss p ≡ o → slot_at ss p ≡ None
        go None e = e
        go (Some q) e = absurd (clash (sym h.here ∙ ap is_free e))
