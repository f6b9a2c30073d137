-- A unit of a journal that is in order is not settled there.
use Rattle.std.proofs.Common.{◌≡◌, List, [], ◌∷◌, Bool, true, false, ◌||◌, refl, sym, ◌∙◌, ap, subst}
use Rattle.std.specs.Prelude.{is_some}
use Rattle.std.specs.List.{AllByRecursion}
use Rattle.std.proofs.lemmas.Bool.{both_ways, false_from_ne_true}
use Rattle.vms_model.specs.Ids.{Id}
use Rattle.run_model.specs.records_model.History.{same_id}
use Rattle.run_model.specs.unit_laws.Journal.{ChangeEntry, JournalEntry, PreparedEntry, RecoveryUnit, SettledEntry, find_unit, is_settled_in, is_settling, serial_in, units_after, units_onto, without_unit}
use Rattle.run_model.proofs.unit_laws.Tests.{passed}
use Rattle.run_model.proofs.unit_laws.TrimLemmas.{gone_without}
use Rattle.run_model.proofs.unit_laws.UnitLemmas.{found_changed, found_prepared, found_settled}
use Rattle.world_laws.specs.Ordered.{AreInOrder, MayFollow, UnitsAreUnsettled}
use Rattle.world_laws.proofs.IdLemmas.{id_is}

-- an entry of another branch leaves the unit of this one, and so do many
other_after : (x : Id) (e : JournalEntry) (us : List RecoveryUnit) → same_id x (serial_in e) ≡ false → find_unit x (units_after e us) ≡ find_unit x us
other_after x (ChangeEntry tid serial file key before) us h = found_changed x tid serial us ∙ passed (same_id x serial) _ _ h
other_after x (PreparedEntry tid serial) us h = found_prepared x serial us ∙ passed (same_id x serial) _ _ h
other_after x (SettledEntry tid serial outcome moment) us h = found_settled x serial us ∙ passed (same_id x serial) _ _ h

others_after : (x : Id) (es : List JournalEntry) (us : List RecoveryUnit) → AllByRecursion (λ (e : JournalEntry). same_id x (serial_in e) ≡ false) es → find_unit x (units_onto us es) ≡ find_unit x us
others_after x [] us h = refl
others_after x (e ∷ es) us h = others_after x es (units_after e us) h.1 ∙ other_after x e us h.0

-- behind an entry that settles a branch there is none of it
none_behind : (x : Id) (e : JournalEntry) (es : List JournalEntry) → is_settling x e ≡ true → AllByRecursion (MayFollow e) es → AllByRecursion (λ (o : JournalEntry). same_id x (serial_in o) ≡ false) es
none_behind x e [] t h = tt
none_behind x e (o ∷ es) t h = (false_from_ne_true _ (λ s. both_ways _ h.0.unsettled (subst (λ y. is_settling y e ≡ true) (id_is x (serial_in o) s) t)), none_behind x e es t h.1)

settled_gone : (x : Id) (e : JournalEntry) (us : List RecoveryUnit) → is_settling x e ≡ true → is_some (find_unit x (units_after e us)) ≡ false
settled_gone x (ChangeEntry tid serial file key before) us t = let none : ⊥ = cc in absurd none
settled_gone x (PreparedEntry tid serial) us t = let none : ⊥ = cc in absurd none
settled_gone x (SettledEntry tid serial outcome moment) us t = subst (λ y. is_some (find_unit y (without_unit serial us)) ≡ false) (sym (id_is x serial t)) (gone_without serial us)

unsettled_onto : (x : Id) (us : List RecoveryUnit) (es : List JournalEntry) → AreInOrder es → is_some (find_unit x (units_onto us es)) ≡ true → is_settled_in x es ≡ false
unsettled_onto x us [] h u = refl
unsettled_onto x us (e ∷ es) h u = go (is_settling x e) refl (unsettled_onto x (units_after e us) es h.1 u)
  where
    go : (b : Bool) → is_settling x e ≡ b → is_settled_in x es ≡ false → (b || is_settled_in x es) ≡ false
    go true t more = absurd (both_ways _ (settled_gone x e us t) (ap is_some (sym (others_after x es (units_after e us) (none_behind x e es t h.0))) ∙ u))
    go false t more = more

pub units_are_unsettled : UnitsAreUnsettled
units_are_unsettled es serial h u = unsettled_onto serial [] es h u
