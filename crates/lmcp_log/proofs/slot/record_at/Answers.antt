use Rattle.std.proofs.Common.{length, Some, sym, ◌∙◌}
use Rattle.vms_base.specs.Ids.{id_of}
use Rattle.tm_types.specs.Parts.{log_kind_of}
use Rattle.log_laws.specs.commit_protocol.Messages.{LogRecord}
use Rattle.lmcp_log.specs.Slot.{kind_number}
use Rattle.lmcp_log.proofs.Fields.{slot_fields}
use Rattle.lmcp_log.proofs.Readings.{no_such, some_is, same_some}
use Rattle.lmcp_log.proofs.slot.record_at.Goals as goal

pub returns-in_err-kind : goal.returns-in_err-kind
returns-in_err-kind c = λ r p is.
    let f = slot_fields r c.args.block.now p.0 is in
    absurd (no_such log_kind_of c.kind_of.result r.kind c.in_err-kind.was (c.kind_of.ensures r.kind (c.number_8.ensures (kind_number r.kind) f.kind)))

pub returns-in_err-tid : goal.returns-in_err-tid
returns-in_err-tid c = λ r p is.
    let f = slot_fields r c.args.block.now p.0 is in
    absurd (no_such id_of c.id_at.result r.tid c.in_err-tid.was (c.id_at.ensures r.tid p.0.tid f.tid))

pub returns-in_err-serial : goal.returns-in_err-serial
returns-in_err-serial c = λ r p is.
    let f = slot_fields r c.args.block.now p.0 is in
    absurd (no_such id_of c.id_at-2.result r.serial c.in_err-serial.was (c.id_at-2.ensures r.serial p.0.serial f.serial))

pub returns-in_err-waiting : goal.returns-in_err-waiting
returns-in_err-waiting c = λ r p is.
    let f = slot_fields r c.args.block.now p.0 is in
    let n = c.number_8-2.ensures (length r.waiting) f.waiting_count in
    absurd (no_such _ c.serials_at.result r.waiting c.in_err-waiting.was (c.serials_at.ensures r.waiting p.0.waiting p.0.few (sym n) f.waiting))

pub returns-in_err-rms : goal.returns-in_err-rms
returns-in_err-rms c = λ r p is.
    let f = slot_fields r c.args.block.now p.0 is in
    let n = c.number_8-3.ensures (length r.rms) f.rms_count in
    let e = sym c.in_err-rms.was ∙ c.managers_at.ensures r.rms p.0.rms p.0.few_rms (sym n) f.rms in cc

pub returns : goal.returns
returns c = λ r p is.
    let f = slot_fields r c.args.block.now p.0 is in
    let n = c.number_8-2.ensures (length r.waiting) f.waiting_count in
    let m = c.number_8-3.ensures (length r.rms) f.rms_count in
    let kind = some_is log_kind_of c.kind_of.result c.in_ok-kind.kind r.kind c.in_ok-kind.was (c.kind_of.ensures r.kind (c.number_8.ensures (kind_number r.kind) f.kind)) in
    let tid = some_is id_of c.id_at.result c.in_ok-tid.tid r.tid c.in_ok-tid.was (c.id_at.ensures r.tid p.0.tid f.tid) in
    let serial = some_is id_of c.id_at-2.result c.in_ok-serial.serial r.serial c.in_ok-serial.was (c.id_at-2.ensures r.serial p.0.serial f.serial) in
    let waiting = some_is _ c.serials_at.result c.in_ok-waiting.waiting r.waiting c.in_ok-waiting.was (c.serials_at.ensures r.waiting p.0.waiting p.0.few (sym n) f.waiting) in
    let rms = same_some c.in_ok-rms.rms r.rms (sym c.in_ok-rms.was ∙ c.managers_at.ensures r.rms p.0.rms p.0.few_rms (sym m) f.rms) in
    λ k. Some (let q : LogRecord = record { kind = kind k; tid = tid k; serial = serial k; waiting = waiting k; rms = rms k } in q)
