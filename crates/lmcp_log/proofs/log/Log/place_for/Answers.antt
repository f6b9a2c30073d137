use Rattle.std.proofs.Common.{◌≡◌, sym, ◌∙◌, ap, map}
use Rattle.vms_base.specs.Ids.{serial_of}
use Rattle.log_laws.specs.Slots.{has_slot}
use Rattle.lmcp_log.specs.Log.{slot_of}
use Rattle.lmcp_log.proofs.SlotLemmas.{clash, first_forgotten}
use Rattle.lmcp_log.proofs.log.Log.place_for.Goals as goal

pub returns-in-Some-clause-free : goal.returns-in-Some-clause-free
returns-in-Some-clause-free c = λ h.
    let E : map slot_of c.deref.result.now ≡ c.args.self.now = ap (map slot_of) c.deref.ensures.value ∙ c.self.view_is in
    absurd (clash (sym (first_forgotten (serial_of c.args.serial.now) (map slot_of c.deref.result.now) c.in-Some.i c.in-Some.ensures.found).0 ∙ (ap (has_slot (serial_of c.args.serial.now)) E ∙ h)))
