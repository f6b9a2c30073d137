-- What no quota refuses may be entered.
use Rattle.std.proofs.Common.{◌≡◌, ◌≤◌, ℕ, suc, ◌+◌, ◌-◌, ◌*◌, List, [], ◌∷◌, length, map, Bool, true, false, Some, if◌then◌else◌, refl, sym, ap, subst, inl, inr, arith}
use Rattle.std.specs.Prelude.{is_some, nat_lt}
use Rattle.std.proofs.lemmas.Bool.{both_ways, ltb-false}
use Rattle.vms_model.specs.Ids.{Id}
use Rattle.vms_model.specs.Limits.{change_limit}
use Rattle.run_model.specs.transcript_model.Lines as line
use Rattle.run_model.specs.records_model.History.{same_id}
use Rattle.run_model.specs.unit_laws.Journal.{RecoveryUnit, entries_size, find_unit, owed, units_in}
use Rattle.run_model.specs.commit_protocol.Table.{Branch}
use Rattle.run_model.specs.World.{changes_made, serials_of}
use Rattle.run_model.specs.Answers.{free_journal, journal_need}
use Rattle.run_model.specs.commit_protocol.World.{In}
use Rattle.world_laws.specs.Room.{ChangesHaveRoom, UnitsHaveRoom}
use Rattle.world_laws.proofs.IdLemmas.{id_itself}
use Rattle.world_laws.proofs.Counting.{AllDiffer, no_more}
use Rattle.world_laws.proofs.UnitSets.{UnitsDiffer, units_differ}
use Rattle.world_laws.proofs.AnswerLemmas.{not_refused}

-- bytes that are not more than those that are free
fits_in : (size owing need blocks : ℕ) → size + owing ≤ 512 * blocks → need ≤ 512 * blocks - size - owing → size + owing + need ≤ 512 * blocks
fits_in size owing need blocks h k = omega (arith, h, k)

pub changes_have_room : ChangesHaveRoom
changes_have_room n b file [] h some few bytes = let none : ⊥ = cc in absurd none
changes_have_room n b file (c ∷ cs) h some few bytes = record {
  changes = ltb-false change_limit (changes_made b.key.serial n.durable.units + length (c ∷ cs)) (not_refused (nat_lt change_limit (changes_made b.key.serial n.durable.units + length (c ∷ cs))) (line.QuotaExceeded line.Changes change_limit) few);
  fits = fits_in (entries_size n.durable.units.entries) (owed (units_in n.durable.units.entries)) (journal_need n b file (c ∷ cs)) n.durable.journal h.fits
      (ltb-false (free_journal n) (journal_need n b file (c ∷ cs)) (not_refused (nat_lt (free_journal n) (journal_need n b file (c ∷ cs))) (line.JournalFull (free_journal n) (journal_need n b file (c ∷ cs))) bytes));
}

-- Counts.

-- the serials of units
abbrev pub unit_serials : List RecoveryUnit → List Id
unit_serials us = map (λ (u : RecoveryUnit). u.serial) us

pub in_units : (x : Id) (us : List RecoveryUnit) → In x (unit_serials us) → is_some (find_unit x us) ≡ true
in_units x [] i = absurd i
in_units x (u ∷ us) i = go (same_id x u.serial) refl i (in_units x us)
  where
    go : (b : Bool) → same_id x u.serial ≡ b → In x (u.serial ∷ unit_serials us) → (In x (unit_serials us) → is_some (find_unit x us) ≡ true) → is_some (if b then Some u else find_unit x us) ≡ true
    go true t i more = refl
    go false t i more = elim i [ inl e ↦ absurd (both_ways _ t (subst (λ y. same_id x y ≡ true) e (id_itself x))) | inr rest ↦ more rest ]

pub unit_serials_differ : (us : List RecoveryUnit) → UnitsDiffer us → AllDiffer (unit_serials us)
unit_serials_differ [] d = tt
unit_serials_differ (u ∷ us) d = ((λ i. both_ways (is_some (find_unit u.serial us)) (ap is_some d.0) (in_units u.serial us i)), unit_serials_differ us d.1)

pub units_length : (us : List RecoveryUnit) → length (unit_serials us) ≡ length us
units_length [] = refl
units_length (u ∷ us) = ap suc (units_length us)

pub serials_length : (bs : List Branch) → length (serials_of bs) ≡ length bs
serials_length [] = refl
serials_length (b ∷ bs) = ap suc (serials_length bs)

pub units_have_room : UnitsHaveRoom
units_have_room n serial known few i none =
    let us = units_in n.durable.units.entries in
    let xs = serials_of n.volatile.branches in
    let most = no_more (serial ∷ unit_serials us) xs ((λ j. both_ways _ none (in_units serial us j)), unit_serials_differ us (units_differ n.durable.units.entries))
    (λ x j. elim j [ inl e ↦ subst (λ y. In y xs) (sym e) i | inr rest ↦ known x (in_units x us rest) ]) in
    let units = units_length us in
    let count = serials_length n.volatile.branches in
    omega (arith, most, units, count, few)
