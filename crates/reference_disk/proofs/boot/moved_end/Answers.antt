use Rattle.std.proofs.Common.{◌≡◌, ap, ◌∙◌, sym, List, Option}
use Rattle.std.specs.Prelude.{ℕ, map}
use Rattle.std.specs.FinMap.{get, get-entries}
use Rattle.std.specs.FinMap.Entries.{find}
use Rattle.records_model.specs.Records.{key_cmp}
use Rattle.records_model.specs.History.{current}
use Rattle.reference_index.specs.run_model.World as world
use Rattle.reference_world.specs.declared.world.Row.{Row}
use Rattle.reference_index.specs.Standing.{key_of, lent_key, value_of}
use Rattle.reference_world.specs.Standing.{entry_of, history_of}
use Rattle.reference_disk.proofs.boot.moved_end.Goals as goal

pub returns : goal.returns
returns c =
    let m = current (history_of c.args.f.now) in
    let before = value_of c.args.before.now in
    c.is_moved.ensures ∙ ap (λ (now : Option (List ℕ)). world.moved_end now before)
    (c.find_row-now.ensures ∙ ap (λ k. find key_cmp k (map entry_of c.as_slice.result.now)) c.lend.ensures
    ∙ ap (λ (rows : List Row). find key_cmp (key_of c.args.key.now) (map entry_of rows)) c.as_slice.ensures.value
    ∙ ap (find key_cmp (key_of c.args.key.now)) c.in_ok-rows.ensures ∙ sym (get-entries m (key_of c.args.key.now)))
