-- What a node counts of a unit that is begun there, and what of its journal is free.
use Rattle.std.proofs.Common.{◌≡◌, ℕ, List, [], true, false, Option, Some, None, length, refl, sym, ◌∙◌, ap, subst, arith}
use Rattle.std.specs.Prelude.{is_some}
use Rattle.vms_model.specs.Ids.{Id}
use Rattle.volume.specs.State.{VolumeState}
use Rattle.rms_units.specs.unit_journal.Room.{free_bytes}
use Rattle.unit_laws.specs.Journal as journal
use Rattle.unit_laws.specs.Journal.{RecoveryUnit, find_unit, is_settled_in, units_in}
use Rattle.unit_table.specs.Places.{AreInOrder, count_at, occurrences}
use Rattle.unit_table.specs.Units as table
use Rattle.unit_table.specs.Units.{OpenUnit, unit_at, units_of}
use Rattle.commit_protocol.specs.Allowed.{is_prepared}
use Rattle.commit_protocol.specs.Table.{Branch}
use Rattle.commit_protocol.specs.World.{In}
use Rattle.log_laws.specs.Slots.{Slots}
use Rattle.recovery_units.specs.run_model.Answers.{free_journal}
use Rattle.recovery_units.specs.run_model.World.{Node, changes_made, find_branch, serials_of}
use Rattle.recovery_units.specs.world_laws.Nodes.{IsUp}
use Rattle.recovery_units.proofs.world_laws.IdLemmas.{in_map}
use Rattle.recovery_units.proofs.world_laws.TableLemmas.{one_branch}
use Rattle.recovery_units.proofs.world_laws.UnitSets as sets
use Rattle.recovery_units.proofs.world_laws.UpLemmas.{differ}
use Rattle.recovery_units.specs.State.{IsKept, IsOfBranch, IsUnitOf, are_there}
use Rattle.rms_units.specs.State as state
use Rattle.rms_units.specs.State.{IsInOrder}
use Rattle.node_units.specs.Seen.{seen}
use Rattle.node_units.proofs.Branches.{Distinct, HasBranch, found_there, found_unit, own_branch, serial_among, serials, serials_are, units_differ}
use Rattle.node_units.proofs.Counting.{IsOwed, made_onto, owed_alike, unit_positions}
use Rattle.node_units.proofs.Seeing.{all_seen, one_seen, owed_seen}
use Rattle.node_units.proofs.UnitsMore.{among}

module _ (s : state.UnitsState) (log : Slots) (v : VolumeState) (order : IsInOrder s v) (at : AreInOrder s.units.places s.units.order) (n : Node) (up : IsUp n) (kept : IsKept (seen s log) v n) where
  abbrev begun : List OpenUnit
  begun = units_of s.units.places s.units.order

  abbrev bs : List Branch
  bs = n.volatile.branches

  abbrev es : List journal.JournalEntry
  es = n.durable.units.entries

  serials_then : serials_of bs ≡ serials begun
  serials_then = serials_are begun bs kept.branches

  pub different : Distinct (serials begun)
  different = units_differ begun n kept.branches up

  module _ (place : ℕ) (u : OpenUnit) (there : unit_at s.units.places place ≡ Some u) where
    pub once_there : occurrences place s.units.order ≡ 1
    once_there = at.each place ∙ ap count_at there

    pub unit_is : IsUnitOf n u
    unit_is = one_seen (IsUnitOf n) s.units.places s.units.order place u there (let one = once_there in omega (arith, one)) kept.each

    pub in_begun : In u begun
    in_begun = among s.units.places s.units.order place u there (let one = once_there in omega (arith, one))

    pub in_branches : In u.serial (serials_of bs)
    in_branches = subst (In u.serial) (sym serials_then) (serial_among u begun in_begun)

    pub branch : HasBranch u bs
    branch = found_unit begun bs u kept.branches different in_begun

    pub branch_there : In branch.branch bs
    branch_there = found_there u.serial bs branch.branch branch.found

    pub unsettled : is_settled_in u.serial es ≡ false
    unsettled = subst (λ (x : Id). is_settled_in x es ≡ false) branch.of.serial (up.table.entries branch.branch branch_there).unsettled

    pub branch_is : (b : Branch) → find_branch u.serial bs ≡ Some b → IsOfBranch u b
    branch_is b found = own_branch begun bs u b kept.branches different in_begun found

    -- its changes, and whether there are some
    pub counted : changes_made u.serial n.durable.units ≡ length u.positions
    counted = let made = made_onto u.serial n.durable.units.first es [] unsettled in let same = ap length unit_is.positions in omega (arith, made, same)

    pub is_there : is_some (find_unit u.serial (units_in es)) ≡ are_there u.positions
    is_there = unit_positions u.serial n.durable.units.first es unsettled ∙ ap are_there (sym unit_is.positions)

    is_owed : IsOwed (units_in es) u
    is_owed = record {
      there = is_there;
      prepared = λ w e.
          let r = up.table.branches u.serial w e in
          let same : r.branch ≡ branch.branch = one_branch bs r.branch branch.branch (differ n up.table) r.there branch_there (r.serial ∙ sym branch.of.serial) in
          sym r.prepared ∙ ap (λ (b : Branch). is_prepared b.state) same ∙ branch.of.prepared;
    }

  known : (x : Id) → is_some (find_unit x (units_in es)) ≡ true → In x (serials begun)
  known x some = go (find_unit x (units_in es)) refl some
    where
      go : (o : Option RecoveryUnit) → find_unit x (units_in es) ≡ o → is_some o ≡ true → In x (serials begun)
      go (Some u) e k = let r = up.table.branches x u e in subst (λ (y : Id). In y (serials begun)) r.serial (subst (In r.branch.key.serial) serials_then (in_map (λ (b : Branch). b.key.serial) r.branch bs r.there))
      go None e k = let never : ⊥ = cc in absurd never

  pub owed_is : journal.owed (units_in es) ≡ table.owed s.units.places
  owed_is = owed_alike (units_in es) begun (sets.units_differ es) different known (all_seen (IsOwed (units_in es)) s.units.places s.units.order is_owed) ∙ sym (owed_seen s log at)

  pub free_is : free_journal n ≡ free_bytes v.catalog.ru s.units.places
  free_is =
      let owing = owed_is in
      let blocks = kept.has.home.journal in
      let ring = order.sound.ru_blocks in
      let first = kept.has.journal.first in
      let end = kept.has.journal.end in
      omega (arith, owing, blocks, ring, first, end)
