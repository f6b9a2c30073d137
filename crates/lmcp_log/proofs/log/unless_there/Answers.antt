use Rattle.std.proofs.Common.{◌≡◌, false, Some, sym, ◌∙◌, ap, subst, map}
use Rattle.vms_base.specs.Ids.{serial_of}
use Rattle.log_laws.specs.commit_protocol.Messages.{LogRecord}
use Rattle.tm_types.specs.Parts.{log_record_of}
use Rattle.log_laws.specs.Slots.{has_slot}
use Rattle.lmcp_log.specs.Log.{slot_of}
use Rattle.lmcp_log.proofs.Readings.{same_some}
use Rattle.lmcp_log.proofs.SlotLemmas.{clash, first_forgotten}
use Rattle.lmcp_log.proofs.log.unless_there.Goals as goal

pub returns-in-None : goal.returns-in-None
returns-in-None c = λ q.
    let P : LogRecord → Type 0 = λ x. has_slot x.serial (map slot_of c.args.slots.now) ≡ false in
    ((λ e. let same = same_some (log_record_of c.args.r) q e in (same, subst P same c.in-None.ensures.none)), (λ p. ap (λ (x : LogRecord). Some x) p.0))

pub returns-in-Some : goal.returns-in-Some
returns-in-Some c = λ q.
    let P : LogRecord → Type 0 = λ x. has_slot x.serial (map slot_of c.args.slots.now) ≡ false in
    ((λ e. absurd cc), (λ p. absurd (clash (sym (first_forgotten (serial_of c.args.r.serial) (map slot_of c.args.slots.now) c.in-Some.field-0 c.in-Some.ensures.found).0 ∙ subst P (sym p.0) p.1))))
