use Rattle.std.proofs.Common.{◌≡◌, ◌<◌, ◌+◌, ◌-◌, ℕ, [], List, length, get_or, set, min, sym, ap, subst, ◌∙◌, length-set, arith}
use Rattle.load_pages.proofs.KeyLemmas.{EveryTo, every_more, every_end}
use Rattle.load_pages.proofs.NodeFills.{same_key}
use Rattle.load_pages.proofs.nodes.keep_every.Goals as goal

pub loop-at-preserved : goal.loop-at-preserved
loop-at-preserved c =
    let step = c.args.step in
    let all = c.args.keys.now in
    let now = c.loop-at.keys in
    let kept = c.loop-at.kept in
    let at = c.loop-at.at in
    let before = c.loop-at.invariant.every_to in
    let within = c.loop-at.invariant.within in
    let key : get_or now at [] ≡ c.index-keys-at.result = sym (c.index-keys-at.is ∙ same_key now at _ c.loop-at-test.true) in
    let long = before.long in
    let same = length-set now kept c.index-keys-at.result in
    let left : length all - at ≡ length (set now kept c.index-keys-at.result) - at = omega (arith, long, same) in
    let further : min step (length all - at) ≡ c.min-at.result = ap (λ n. min step n) left ∙ sym c.min-at.ensures in
    let below : at < length all = omega (arith, c.loop-at-test.true, long) in
    record {
      every_to = subst (λ m. EveryTo step all (set now kept c.index-keys-at.result) (kept + 1) (at + m)) further
          (subst (λ (k : List ℕ). EveryTo step all (set now kept k) (kept + 1) (at + min step (length all - at))) key (every_more step all now kept at c.requires below before));
      within = omega (arith, further, within);
    }

pub returns-clause-kept : goal.returns-clause-kept
returns-clause-kept c = every_end c.args.step c.args.keys.now c.loop-at.keys c.loop-at.kept c.loop-at.at (omega (arith, c.loop-at-test.false, c.loop-at.invariant.every_to.long)) c.loop-at.invariant.every_to

pub returns-clause-few : goal.returns-clause-few
returns-clause-few c = omega (arith, c.loop-at.invariant.every_to.few, c.loop-at.invariant.within)
