use Rattle.std.proofs.Common.{◌≡◌, sym, false, ◌∙◌}
use Rattle.std.specs.Prelude.{map}
use Rattle.reference_index.specs.records_model.History.{changed_it}
use Rattle.vms_base.specs.Ids.{id_of}
use Rattle.reference_world.specs.Standing.{live_of, history_of}
use Rattle.reference_world.specs.Histories.{only_live}
use Rattle.reference_world.proofs.FileLemmas.{first_behind}
use Rattle.reference_world.proofs.history.+first_to_change.Goals as goal

pub returns-else-has_changes : goal.returns-else-has_changes
returns-else-has_changes t c =
    let none : changed_it (only_live (map live_of c.args.file.now.live.items)) (id_of c.b-item.result.serial) ≡ false = rw c.as_slice.ensures.value at (sym c.has_changes.ensures ∙ c.if-has_changes.false) in
    c.first_to_change.ensures ∙ first_behind (history_of c.args.file.now) c.args.branches.now c.b-item.result c.in-len1-up.len_at_least c.b-item.is none
