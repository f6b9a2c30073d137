use Rattle.std.proofs.Common.{◌≡◌, ap, ◌∙◌}
use Rattle.std.specs.Prelude.{map}
use Rattle.std.specs.FinMap.{entries}
use Rattle.reference_index.specs.recovery_model.File.{all_of}
use Rattle.reference_index.specs.recovery_model.Journal as images
use Rattle.reference_index.proofs.ListLemmas.{if_ok_so, behind_first}
use Rattle.reference_world.specs.Standing.{entry_of, placed_of}
use Rattle.reference_recovery.specs.Chosen.{picked}
use Rattle.reference_recovery.proofs.RollingLemmas.{forward_first}
use Rattle.reference_recovery.proofs.rolling.+forward.Goals as goal

pub returns-in_ok-before-in-len1-up : goal.returns-in_ok-before-in-len1-up
returns-in_ok-before-in-len1-up t c = λ m h.
    let p = picked c.args.chosen c.args.all.now in
    let before = images.forward p (all_of (map placed_of (behind_first c.args.some.now))) m in
    let e : map entry_of c.as_slice.result.now ≡ entries before = rw c.as_slice.ensures.value (c.in_ok-before-in-len1-up.ensures m h) in
    if_ok_so c.with_image.result (c.with_image.ensures before e) (λ v q. q ∙ ap entries (forward_first p c.args.some.now c.e-item.result m c.in-len1-up.len_at_least c.e-item.is))
