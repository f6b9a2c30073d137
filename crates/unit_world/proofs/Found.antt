-- Files of a node by their places and their names, and branches without changes.
use Rattle.std.proofs.Common.{◌≡◌, ℕ, List, [], ◌∷◌, Bool, true, false, Option, Some, None, refl, ap, arith}
use Rattle.vms_model.specs.Ids.{Id}
use Rattle.records_model.specs.Records.{Change}
use Rattle.records_model.specs.History.{LiveChanges, changed_it, changes_by, same_id}
use Rattle.unit_laws.specs.JournalLaws.{is_unit}
use Rattle.recovery_units.specs.run_model.World.{AreUnitsOf, File, Node}
use Rattle.recovery_units.proofs.world_laws.DirectLemmas.{none_of}
use Rattle.recovery_units.proofs.world_laws.IdLemmas.{id_other}
use Rattle.recovery_units.proofs.world_laws.PlainLemmas.{by_others}
use Rattle.volume_laws.specs.directory_model.Files.{IsFoundAt, file_at}
use Rattle.volume_laws.proofs.directory_model.Finding.{found_at}
use Rattle.volume_laws.proofs.restart_laws.ListLemmas.{all_as}
use Rattle.recovery_units.specs.State.{changed_at}

-- a file is found by its name at its place
pub found_by : (n : Node) (p : ℕ) (file : File) → AreUnitsOf n → file_at n.durable.directory p ≡ Some file → IsFoundAt file.name n.durable.directory p file
found_by n p file are there = found_at file.name n.durable.directory p file there refl
    (λ g other below at called. let same = are.names g p other file at there called in absurd (omega (arith, below, same)))

-- a branch that is no unit has changed no file
nothing_changed : (cs : List Change) → cs ≡ [] → ◌≡◌ {A = Bool} (elim cs [ [] ↦ false | c ∷ more ↦ true ]) false
nothing_changed cs e = ap (λ (ds : List Change). elim ds [ [] ↦ false | c ∷ more ↦ true ]) e

pub unchanged : (n : Node) (p : ℕ) (file : File) (x : Id) → AreUnitsOf n → file_at n.durable.directory p ≡ Some file → is_unit x n.durable.units ≡ false → changed_it file.history x ≡ false
unchanged n p file x are there fresh =
    let notes = (are.tells p file there).notes in
    let others = all_as (λ (l : LiveChanges). same_id x l.serial ≡ false) (λ (l : LiveChanges). same_id l.serial x ≡ false) file.history.live (λ l e. id_other x l.serial e) (none_of n.durable.units x file.history.live fresh notes.units) in
    nothing_changed (changes_by x file.history.live) (by_others x file.history.live others)

pub unchanged_at : (n : Node) (x : Id) → AreUnitsOf n → is_unit x n.durable.units ≡ false → (f : ℕ) → changed_at x (file_at n.durable.directory f) ≡ false
unchanged_at n x are fresh f = go (file_at n.durable.directory f) refl
  where
    go : (o : Option File) → file_at n.durable.directory f ≡ o → changed_at x o ≡ false
    go (Some file) there = unchanged n f file x are there fresh
    go None there = refl
