use Rattle.std.proofs.Common.{sym, ◌∙◌, map, arith}
use Rattle.vms_base.specs.Ids.{serial_of}
use Rattle.lmcp_log.specs.Log.{slot_of, is_of}
use Rattle.lmcp_log.proofs.Fields.{length_mapped}
use Rattle.lmcp_log.proofs.SlotLemmas.{no_slot}
use Rattle.lmcp_log.proofs.Reading.{none_more}
use Rattle.lmcp_log.proofs.log.place_of.Goals as goal

pub loop-i-preserved : goal.loop-i-preserved
loop-i-preserved c = none_more (is_of (serial_of c.args.serial.now)) c.args.slots.now c.loop-i.i c.index-slots-i.result c.loop-i-test.true c.index-slots-i.is c.loop-i.invariant (sym c.has_serial.ensures ∙ c.if-has_serial.false)

pub returns-clause-none : goal.returns-clause-none
returns-clause-none c =
    let n = length_mapped slot_of c.args.slots.now in
    let le = c.loop-i-test.false in
    no_slot (serial_of c.args.serial.now) (map slot_of c.args.slots.now) (λ k lt. c.loop-i.invariant k (omega (arith, n, le)))
