use Rattle.std.proofs.Common.{Bool, sym, ◌∙◌, arith}
use Rattle.commit_protocol.specs.Table.{holds}
use Rattle.tm_types.specs.Parts.{log_record_of}
use Rattle.vms_base.specs.declared.protocol.LogRec.{LogRec}
use Rattle.vms_base.specs.Ids.{serial_of}
use Rattle.tm_table.proofs.PlaceLemmas.{position_hit, position_pass, position_miss}
use Rattle.tm_table.proofs.places.place_of_holding.Goals as goal

pub returns-then-holds : goal.returns-then-holds
returns-then-holds c =
    let p : LogRec → Bool = λ r. holds (serial_of c.args.serial.now) c.args.rm.now (log_record_of r) in
    position_hit p c.args.records.now c.loop-i.i c.index-records-i.result c.loop-i-test.true c.index-records-i.is c.loop-i.invariant (sym c.holds.ensures ∙ c.if-holds.true)

pub loop-i-preserved : goal.loop-i-preserved
loop-i-preserved c =
    let p : LogRec → Bool = λ r. holds (serial_of c.args.serial.now) c.args.rm.now (log_record_of r) in
    position_pass p c.args.records.now c.loop-i.i c.index-records-i.result c.loop-i-test.true c.index-records-i.is c.loop-i.invariant (sym c.holds.ensures ∙ c.if-holds.false)

pub returns : goal.returns
returns c =
    let p : LogRec → Bool = λ r. holds (serial_of c.args.serial.now) c.args.rm.now (log_record_of r) in
    position_miss p c.args.records.now c.loop-i.i c.loop-i-test.false (omega arith) c.loop-i.invariant
