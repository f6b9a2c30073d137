use Rattle.std.proofs.Common.{◌≡◌, ap, ◌∙◌}
use Rattle.std.specs.Prelude.{map}
use Rattle.std.specs.FinMap.{entries}
use Rattle.records_model.specs.History.{current}
use Rattle.reference_index.specs.recovery_model.File.{all_of}
use Rattle.reference_index.specs.recovery_model.Journal as images
use Rattle.reference_index.proofs.ListLemmas.{if_ok_so}
use Rattle.reference_world.specs.Standing.{entry_of, history_of, placed_of}
use Rattle.reference_recovery.proofs.rolling.rolled_back.Goals as goal

pub returns : goal.returns
returns c =
    let m = current (history_of c.args.file.now) in
    let standing : map entry_of c.as_slice.result.now ≡ entries m = ap (map entry_of) c.as_slice.ensures.value ∙ c.in_ok-standing.ensures in
    if_ok_so c.backward.result (c.backward.ensures m standing)
    (λ v p. p ∙ ap (λ xs. entries (images.backward (images.chosen (images.beyond c.args.until.0) (all_of (map placed_of xs))) (all_of (map placed_of xs)) m)) c.as_slice-all.ensures.value)
