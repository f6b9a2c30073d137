use Rattle.std.proofs.Common.{Bool, sym, ◌∙◌, arith}
use Rattle.commit_protocol.specs.Table.{waits_for}
use Rattle.tm_types.specs.Branches.{key_at}
use Rattle.tm_types.specs.Parts.{log_record_of}
use Rattle.vms_base.specs.declared.protocol.LogRec.{LogRec}
use Rattle.tm_table.proofs.PlaceLemmas.{position_hit, position_pass, position_miss}
use Rattle.tm_table.proofs.places.place_of_waiting.Goals as goal

pub returns-then-waits_for : goal.returns-then-waits_for
returns-then-waits_for c =
    let p : LogRec → Bool = λ r. waits_for (key_at c.args.tid.now c.args.serial.now) (log_record_of r) in
    position_hit p c.args.records.now c.loop-i.i c.index-records-i.result c.loop-i-test.true c.index-records-i.is c.loop-i.invariant (sym c.waits_for.ensures ∙ c.if-waits_for.true)

pub loop-i-preserved : goal.loop-i-preserved
loop-i-preserved c =
    let p : LogRec → Bool = λ r. waits_for (key_at c.args.tid.now c.args.serial.now) (log_record_of r) in
    position_pass p c.args.records.now c.loop-i.i c.index-records-i.result c.loop-i-test.true c.index-records-i.is c.loop-i.invariant (sym c.waits_for.ensures ∙ c.if-waits_for.false)

pub returns : goal.returns
returns c =
    let p : LogRec → Bool = λ r. waits_for (key_at c.args.tid.now c.args.serial.now) (log_record_of r) in
    position_miss p c.args.records.now c.loop-i.i c.loop-i-test.false (omega arith) c.loop-i.invariant
