use Rattle.std.proofs.Common.{◌≡◌, ℕ, arith, subst}
use Rattle.unit_undo.specs.FileWays.{HasSet}
use Rattle.unit_undo.proofs.LoopLemmas.{may_now, set_begins, set_one, set_ends, set_fails}
use Rattle.unit_undo.proofs.StepLemmas.{heads_kept}
use Rattle.unit_undo.proofs.undoing.set_keys.Goals as goal

pub loop-i-init : goal.loop-i-init
loop-i-init g c = set_begins c.args.file c.args.steps.now c.args.head.now c.args.keys.now c.args.volume.now c.requires.may c.requires.other

pub set_key-requires-clause-may : goal.set_key-requires-clause-may
set_key-requires-clause-may g c = may_now c.args.file c.args.steps.now c.args.head.now c.args.keys.now c.args.volume.now c.requires.may c.loop-i.volume c.loop-i.head c.loop-i.steps c.loop-i.invariant.only c.loop-i.invariant.few

pub loop-i-preserved : goal.loop-i-preserved
loop-i-preserved g c =
    set_one c.args.file c.args.steps.now c.args.head.now c.args.keys.now c.args.volume.now c.requires.may c.requires.other c.loop-i.i c.loop-i.volume c.loop-i.steps c.loop-i.head c.loop-i.invariant _ c.at.ensures.key
    c.set_key.new.volume c.set_key.new.steps c.set_key.new.head c.in-Ok.ensures.sets

pub returns-clause-back : goal.returns-clause-back
returns-clause-back g c =
    let end : c.loop-i.i ≡ _ = omega (arith, c.len-i-end.ensures, c.loop-i-test.false, c.loop-i.auto.i-end) in
    set_ends c.args.file c.args.steps.now c.args.head.now c.args.keys.now c.args.volume.now c.requires.may c.requires.other c.loop-i.volume c.loop-i.steps c.loop-i.head
    (subst (λ (k : ℕ). HasSet c.args.file k c.args.head.now c.args.keys.now c.args.volume.now c.loop-i.volume c.loop-i.steps c.loop-i.head) end c.loop-i.invariant)

pub returns-in-Err-clause-down : goal.returns-in-Err-clause-down
returns-in-Err-clause-down g c =
    set_fails c.args.file c.args.steps.now c.args.head.now c.args.keys.now c.args.volume.now c.requires.may c.loop-i.i c.loop-i.volume c.set_key.new.volume c.loop-i.steps c.loop-i.head c.loop-i.invariant c.in-Err.ensures.down

pub returns-in-Err-clause-heads : goal.returns-in-Err-clause-heads
returns-in-Err-clause-heads g c = heads_kept c.args.volume.now c.loop-i.volume c.set_key.new.volume c.loop-i.invariant.only.goes.catalog c.in-Err.ensures.kept
