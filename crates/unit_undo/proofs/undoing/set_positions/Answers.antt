use Rattle.std.proofs.Common.{ℕ, refl, sym, subst}
use Rattle.unit_undo.specs.Undoing.{MayUndo}
use Rattle.unit_undo.proofs.LoopLemmas.{cut_fails, least_file, least_within, may_now, place_begins, place_ends, place_fails, place_next}
use Rattle.unit_undo.proofs.StepLemmas.{heads_kept}
use Rattle.unit_undo.proofs.undoing.set_positions.Goals as goal

pub returns-in-Err-clause-down : goal.returns-in-Err-clause-down
returns-in-Err-clause-down g c = cut_fails c.args.file c.args.steps.now c.args.head.now c.args.keys.now c.args.volume.now c.requires.may c.cut_off.new.volume c.in-Err.ensures.down

pub loop-i-init : goal.loop-i-init
loop-i-init g c = place_begins c.args.file c.args.steps.now c.args.head.now c.args.keys.now c.args.volume.now c.requires.may c.requires.sequential c.cut_off.new.volume c.cut_off.new.head c.cut_off.new.steps c.in-Ok.ensures.cuts c.in-Ok.ensures.few

pub at-requires : goal.at-requires
at-requires g c = least_within c.args.file c.args.steps.now c.args.head.now c.args.keys.now c.args.volume.now c.requires.may c.requires.sequential c.loop-i.from c.in-Some.i c.in-Some.n c.in-Some.ensures.found

pub set_position-requires-clause-may : goal.set_position-requires-clause-may
set_position-requires-clause-may g c =
    subst (λ (f : ℕ). MayUndo f c.loop-i.head c.loop-i.steps c.loop-i.volume) (sym (least_file c.args.file c.args.steps.now c.args.head.now c.args.keys.now c.args.volume.now c.requires.may c.requires.sequential c.loop-i.from c.in-Some.i c.in-Some.n c.in-Some.ensures.found _ c.at.ensures.key))
    (may_now c.args.file c.args.steps.now c.args.head.now c.args.keys.now c.args.volume.now c.requires.may c.loop-i.volume c.loop-i.head c.loop-i.steps c.loop-i.invariant.only c.loop-i.invariant.few)

pub returns-in-Err-set_position-clause-down : goal.returns-in-Err-set_position-clause-down
returns-in-Err-set_position-clause-down g c =
    place_fails c.args.file c.args.steps.now c.args.head.now c.args.keys.now c.args.volume.now c.requires.may c.loop-i.from c.loop-i.volume c.set_position.new.volume c.loop-i.steps c.loop-i.head c.loop-i.invariant c.in-Err-set_position.ensures.down

pub loop-i-preserved : goal.loop-i-preserved
loop-i-preserved g c =
    place_next c.args.file c.args.steps.now c.args.head.now c.args.keys.now c.args.volume.now c.requires.may c.requires.sequential c.loop-i.from c.in-Some.i c.in-Some.n c.loop-i.volume c.loop-i.steps c.loop-i.head c.loop-i.invariant c.in-Some.ensures.found _ c.at.ensures.key
    c.set_position.new.volume c.set_position.new.steps c.set_position.new.head c.in-Ok-set_position.ensures.sets

pub returns-clause-back : goal.returns-clause-back
returns-clause-back g c = place_ends c.args.file c.args.steps.now c.args.head.now c.args.keys.now c.args.volume.now c.requires.may c.requires.sequential c.loop-i.from c.loop-i.volume c.loop-i.steps c.loop-i.head c.loop-i.invariant c.in_default.ensures.none

pub returns-in-Err-clause-heads : goal.returns-in-Err-clause-heads
returns-in-Err-clause-heads g c = heads_kept c.args.volume.now c.args.volume.now c.cut_off.new.volume refl c.in-Err.ensures.kept

pub returns-in-Err-set_position-clause-heads : goal.returns-in-Err-set_position-clause-heads
returns-in-Err-set_position-clause-heads g c = heads_kept c.args.volume.now c.loop-i.volume c.set_position.new.volume c.loop-i.invariant.only.goes.catalog c.in-Err-set_position.ensures.kept
