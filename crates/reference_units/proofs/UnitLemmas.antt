-- The units that are not prepared.
use Rattle.std.proofs.Common.{◌≡◌, ◌≤◌, List, [], ◌∷◌, Bool, false, sym, ap, ◌∙◌, length, get_or}
use Rattle.std.specs.Prelude.{cond}
use Rattle.unit_laws.specs.Journal.{RecoveryUnit, active_units}
use Rattle.reference_index.proofs.ListLemmas.{behind_first, parts}
use Rattle.reference_units.specs.declared.units.Unit.{Unit}
use Rattle.reference_units.specs.Entries.{unit_of, units_of}

one_active : (u : RecoveryUnit) (us : List RecoveryUnit) → u.prepared ≡ false → u ∷ active_units us ≡ active_units (u ∷ us)
one_active u us e = sym (ap (λ prepared. cond prepared (active_units us) (u ∷ active_units us)) e)

-- where the first is not prepared, it stands before the others
pub first_active : (us : List Unit) (u : Unit) → 1 ≤ length us → u ≡ get_or us 0 u → u.prepared ≡ false → unit_of u ∷ active_units (units_of (behind_first us)) ≡ active_units (units_of us)
first_active us u some is e = one_active (unit_of u) (units_of (behind_first us)) e ∙ ap (λ xs. active_units (units_of xs)) (sym (parts us u some is))
