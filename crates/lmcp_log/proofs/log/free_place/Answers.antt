use Rattle.std.proofs.Common.{map, arith}
use Rattle.lmcp_log.specs.Log.{slot_of, is_free}
use Rattle.lmcp_log.proofs.Fields.{length_mapped}
use Rattle.lmcp_log.proofs.SlotLemmas.{no_free, taken_slot}
use Rattle.lmcp_log.proofs.Reading.{none_more}
use Rattle.lmcp_log.proofs.log.free_place.Goals as goal

pub loop-i-preserved : goal.loop-i-preserved
loop-i-preserved c = none_more is_free c.args.slots.now c.loop-i.i c.index-slots-i.result c.loop-i-test.true c.index-slots-i.is c.loop-i.invariant (taken_slot c.index-slots-i.result c.if-is_none.ensures).0

pub returns-clause-none : goal.returns-clause-none
returns-clause-none c =
    let n = length_mapped slot_of c.args.slots.now in
    let le = c.loop-i-test.false in
    no_free (map slot_of c.args.slots.now) (λ k lt. c.loop-i.invariant k (omega (arith, n, le)))
