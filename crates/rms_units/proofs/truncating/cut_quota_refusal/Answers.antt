use Rattle.std.proofs.Common.{◌≡◌, ◌+◌, ◌-◌, ◌∷◌, [], List, length, ap, ◌∙◌, arith}
use Rattle.record_locks.specs.Locks.{not_locked}
use Rattle.vms_model.specs.Keys.{Key, Number}
use Rattle.key_changes.specs.unit_cuts.Truncating.{keys_down}
use Rattle.key_changes.proofs.unit_cuts.CutLemmas.{keys_step}
use Rattle.rms_units.proofs.CutLocks.{free_one, one_at_most}
use Rattle.rms_units.proofs.truncating.cut_quota_refusal.Goals as goal

pub loop-behind-preserved : goal.loop-behind-preserved
loop-behind-preserved c =
    let h = c.args.cut.now.head in
    let b = c.loop-behind.behind in
    let many = c.removed-behind-end.result in
    let ls = c.args.locks.now.locks in
    let file = c.args.cut.now.file in
    let k = Number (h.count - b) in
    let one : c.count_free-count.result ≡ length (not_locked ls file (k ∷ [])) = c.count_free-count.ensures ∙ ap (λ (x : Key). length (not_locked ls file (x ∷ []))) c.key.ensures in
    let all = ap (λ (ks : List Key). length (not_locked ls file ks)) (keys_step h.count many b (omega arith)) in
    let split = free_one ls file k (keys_down (h.count - (b + 1)) (many - (b + 1))) in
    let most = one_at_most ls file k in
    record { left = omega (arith, c.loop-behind.invariant.left, one, all, split); few = omega (arith, c.loop-behind.invariant.few, one, most) }
