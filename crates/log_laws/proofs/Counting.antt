-- The records of slots with their numbers, and how many slots there are of each kind.
use Rattle.std.specs.Prelude.{if◌then◌else◌, map, slice_index_or}
use Rattle.std.proofs.Common.{arith, ◌≡◌, ℕ, ◌+◌, suc, length, Bool, true, false, List, [], ◌∷◌, Option, Some, None, inl, inr, refl, ap, sym, ◌∙◌}
use Rattle.commit_protocol.specs.Messages.{LogRecord}
use Rattle.commit_protocol.specs.World.{In}
use Rattle.log_laws.specs.Slots.{Slots, records_in, is_prepared_record, prepared_of, committed_of, slot_records, free_slots, SlotsAreCounted}

in_order : (from : ℕ) (ss : Slots) → map (λ (e : ℕ × LogRecord). e.1) (slot_records from ss) ≡ records_in ss
in_order from [] = refl
in_order from (None ∷ ss) = in_order (from + 1) ss
in_order from (Some r ∷ ss) = ap (λ rs. r ∷ rs) (in_order (from + 1) ss)

numbered : (from : ℕ) (ss : Slots) (slot : ℕ) (r : LogRecord) → In (slot, r) (slot_records from ss) → (k : ℕ) × (slot ≡ from + k) × (slice_index_or ss k None ≡ Some r)
numbered from [] slot r h = absurd h
numbered from (None ∷ ss) slot r h = let z = numbered (from + 1) ss slot r h in (suc z.0, omega (arith, z.1), z.2)
numbered from (Some q ∷ ss) slot r h = elim h [
  | inl same ↦ (0, omega (arith, ap (λ (e : ℕ × LogRecord). e.0) same), ap Some (sym (ap (λ (e : ℕ × LogRecord). e.1) same)))
  | inr j ↦ let z = numbered (from + 1) ss slot r j in (suc z.0, omega (arith, z.1), z.2)
]

counted : (ss : Slots) → length (committed_of (records_in ss)) + (length (prepared_of (records_in ss)) + free_slots ss) ≡ length ss
counted [] = refl
counted (None ∷ ss) = omega (arith, counted ss)
counted (Some r ∷ ss) = go (is_prepared_record r.kind) (counted ss)
  where
    go : (b : Bool) → length (committed_of (records_in ss)) + (length (prepared_of (records_in ss)) + free_slots ss) ≡ length ss
        → length (if b then committed_of (records_in ss) else r ∷ committed_of (records_in ss)) + (length (if b then r ∷ prepared_of (records_in ss) else prepared_of (records_in ss)) + free_slots ss) ≡ suc (length ss)
    go true e = omega (arith, e)
    go false e = omega (arith, e)

pub slots_counted : (ss : Slots) → SlotsAreCounted ss
slots_counted ss = record { records = in_order 0 ss; numbered = λ slot r h. (let z = numbered 0 ss slot r h in let same : slot ≡ z.0 = omega (arith, z.1) in ap (λ k. slice_index_or ss k None) same ∙ z.2); counted = counted ss }
