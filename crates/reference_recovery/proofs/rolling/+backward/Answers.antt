use Rattle.std.proofs.Common.{◌≡◌, ap, ◌∙◌}
use Rattle.std.specs.Prelude.{map}
use Rattle.std.specs.FinMap.{entries}
use Rattle.reference_index.proofs.ListLemmas.{if_ok_so}
use Rattle.reference_world.specs.Standing.{entry_of, placed_of}
use Rattle.reference_recovery.specs.Chosen.{picked, set_chosen}
use Rattle.reference_recovery.proofs.RollingLemmas.{backward_first}
use Rattle.reference_recovery.proofs.rolling.+backward.Goals as goal

pub returns-in_ok-set-in-len1-up : goal.returns-in_ok-set-in-len1-up
returns-in_ok-set-in-len1-up t c = λ m h.
    let p = picked c.args.chosen c.args.all.now in
    let set = set_chosen p (placed_of c.e-item.result).entry m in
    let e : map entry_of c.as_slice.result.now ≡ entries set = rw c.as_slice.ensures.value (c.in_ok-set-in-len1-up.ensures m h) in
    if_ok_so c.backward.result (c.backward.ensures set e) (λ v q. q ∙ ap entries (backward_first p c.args.some.now c.e-item.result m c.in-len1-up.len_at_least c.e-item.is))
