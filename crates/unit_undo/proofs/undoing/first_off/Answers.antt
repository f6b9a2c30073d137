use Rattle.std.proofs.Common.{sym, subst}
use Rattle.vms_base.specs.Keys.{key_of}
use Rattle.careful_write.proofs.Reading.{ready_read}
use Rattle.volume.proofs.Reading.{store_of_same}
use Rattle.unit_undo.specs.Undoing.{TellsInPlace}
use Rattle.unit_undo.proofs.OffLemmas.{found_more, found_none, found_one}
use Rattle.unit_undo.proofs.undoing.first_off.Goals as goal

pub is_in_place-requires-clause-ready : goal.is_in_place-requires-clause-ready
is_in_place-requires-clause-ready g c = ready_read c.args.volume.now.store c.loop-i.volume.store (store_of_same c.args.volume.now c.loop-i.volume c.loop-i.invariant.same) c.requires.ready

pub returns-in-Ok-false-clause-finds : goal.returns-in-Ok-false-clause-finds
returns-in-Ok-false-clause-finds g c =
    let k = c.at.result.now in
    found_one c.args.file c.in-Some.lowest c.args.head.now c.args.keys.now c.args.volume.now c.loop-i.next c.loop-i.volume c.loop-i.invariant c.in-Some-next_number.i c.in-Some-next_number.n c.in-Some-next_number.ensures.found _ c.at.ensures.key (sym c.in-Some.ensures)
    (subst (TellsInPlace c.args.head.now (key_of k.key) k.first c.loop-i.volume) c.in-Ok-false.field-0-test c.in-Ok-false.ensures.told)

pub loop-i-preserved : goal.loop-i-preserved
loop-i-preserved g c =
    let k = c.at.result.now in
    found_more c.args.file c.in-Some.lowest c.args.head.now c.args.keys.now c.args.volume.now c.loop-i.next c.loop-i.volume c.loop-i.invariant c.in-Some-next_number.i c.in-Some-next_number.n c.in-Some-next_number.ensures.found _ c.at.ensures.key
    c.is_in_place.new.volume c.in-Ok-true.ensures.same (subst (TellsInPlace c.args.head.now (key_of k.key) k.first c.loop-i.volume) c.in-Ok-true.field-0-test c.in-Ok-true.ensures.told)

pub returns-clause-finds : goal.returns-clause-finds
returns-clause-finds g c = found_none c.args.file c.in-Some.lowest c.args.head.now c.args.keys.now c.args.volume.now c.loop-i.next c.loop-i.volume c.loop-i.invariant (sym c.in-Some.ensures) c.in_default-next_number.ensures.none
