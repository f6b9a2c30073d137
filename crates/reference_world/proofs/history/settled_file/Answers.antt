use Rattle.std.proofs.Common.{◌≡◌, sym, false, ◌∙◌}
use Rattle.std.specs.Prelude.{map}
use Rattle.reference_index.specs.records_model.History.{changed_it}
use Rattle.vms_base.specs.Ids.{id_of}
use Rattle.reference_world.specs.Standing.{live_of, settlement_of}
use Rattle.reference_world.specs.Histories.{only_live}
use Rattle.reference_world.proofs.FileLemmas.{not_changed}
use Rattle.reference_world.proofs.history.settled_file.Goals as goal

pub returns-then-not-has_changes : goal.returns-then-not-has_changes
returns-then-not-has_changes c =
    let none : changed_it (only_live (map live_of c.args.file.live.items)) (id_of c.args.s.serial) ≡ false = rw c.as_slice.ensures.value at (sym c.has_changes.ensures ∙ c.if-not-has_changes.true) in
    not_changed c.args.file (settlement_of c.args.s) none
