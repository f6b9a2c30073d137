use Rattle.std.proofs.Common.{◌≡◌, ap, ◌∙◌}
use Rattle.std.specs.Option.{option_map}
use Rattle.std.specs.Prelude.{map}
use Rattle.std.specs.FinMap.{entries}
use Rattle.records_model.specs.History.{reached}
use Rattle.reference_index.specs.recovery_model.File.{all_of, since}
use Rattle.reference_index.specs.recovery_model.Journal as images
use Rattle.reference_index.proofs.ListLemmas.{if_ok_so}
use Rattle.reference_world.specs.Standing.{entry_of, placed_of, rows_of}
use Rattle.reference_recovery.proofs.rolling.rolled_from.Goals as goal

pub returns : goal.returns
returns c =
    let until = option_map (λ moment. moment.0) c.args.until in
    let save = c.args.save.now in
    let m = rows_of save.records.items in
    let base : map entry_of c.as_slice-rows.result.now ≡ entries m = ap (map entry_of) c.as_slice-rows.ensures.value ∙ c.in_ok-base.ensures ∙ ap (λ xs. entries (rows_of xs)) c.as_slice-saved.ensures.value in
    let used : all_of (map placed_of c.entries_since-all.result.now) ≡ since save.position (map placed_of c.args.file.now.carried.after.entries.items) =
    c.entries_since-all.ensures ∙ ap (λ xs. since save.position (map placed_of xs)) c.as_slice-noted.ensures.value in
    if_ok_so c.forward.result (c.forward.ensures m base) (λ v p. p ∙ ap (λ es. entries (images.forward (images.chosen (reached until) es) es m)) used)
