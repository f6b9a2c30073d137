-- The end of a journal after an entry more.
use Rattle.std.proofs.Common.{◌≡◌, ◌≤◌, ◌+◌, ℕ, List, [], ◌∷◌, Option, Some, None, arith, ap}
use Rattle.vms_model.specs.Ids.{Id}
use Rattle.vms_model.specs.Transactions.{Outcome}
use Rattle.unit_laws.specs.Journal.{Journal, RecoveryUnit, SettledEntry, end_of, find_unit, units_in, with_entries}
use Rattle.unit_laws.proofs.TrimLemmas.{size_append}
use Rattle.reference_units.specs.Entries.{entered}

pub entered_end : (tid serial : Id) (outcome : Outcome) (moment : ℕ) (j : Journal) → end_of (entered tid serial outcome moment j) ≤ end_of j + 48
entered_end tid serial outcome moment j = go (find_unit serial (units_in j.entries))
  where
    go : (u : Option RecoveryUnit) → end_of (elim u as (λ _. Journal) [ Some v ↦ with_entries (SettledEntry tid serial outcome moment ∷ []) j | None ↦ j ]) ≤ end_of j + 48
    go None = omega arith
    go (Some v) = let size = size_append j.entries (SettledEntry tid serial outcome moment ∷ []) in omega (arith, size)
