use Rattle.std.proofs.Common.{◌≡◌, ℕ, ◌+◌, List, Option, length, map, take, sym, ◌∙◌, ap, arith}
use Rattle.std.proofs.lemmas.List.{length-take-le}
use Rattle.vms_base.specs.declared.protocol.LogRec.{LogRec}
use Rattle.log_laws.specs.Slots.{records_in}
use Rattle.lmcp_log.specs.Log.{slot_of}
use Rattle.lmcp_log.proofs.Fields.{length_mapped}
use Rattle.lmcp_log.proofs.Reading.{count_more, few_records}
use Rattle.lmcp_log.proofs.SlotLemmas.{taken_slot, free_slot}
use Rattle.lmcp_log.proofs.log.Log.live.Goals as goal
use Rattle.lmcp_log.proofs.log.Log.live.Goals.{then-is_some, else-is_some}

pub overflow_add-live : goal.overflow_add-live
overflow_add-live c =
    let xs : List (Option LogRec) = c.deref-slot-items.result.now in
    let i = c.loop-slot.slot-index in
    let is : c.loop-slot.live ≡ length (records_in (map slot_of (take i xs))) = c.loop-slot.invariant in
    let few = few_records (map slot_of (take i xs)) in
    let n = length_mapped slot_of (take i xs) in
    let lt = c.loop-slot-test.true in
    let m = length-take-le i xs (omega arith) in
    let most = c.self.invariant.1 in
    let same = ap length c.deref-slot-items.ensures.value in
    omega (arith, is, few, n, lt, m, most, same)

pub loop-slot-preserved : goal.loop-slot-preserved
loop-slot-preserved c =
    let xs : List (Option LogRec) = c.deref-slot-items.result.now in
    let i = c.loop-slot.slot-index in
    let x = c.slot-item.result in
    let is : c.loop-slot.live ≡ length (records_in (map slot_of (take i xs))) = c.loop-slot.invariant in
    let more = count_more xs i x c.loop-slot-test.true c.slot-item.is in
    elim c.if-is_some.branch [
      | then-is_some w ↦ let one = (taken_slot x (sym c.is_some.ensures ∙ w.if-is_some.true)).1 in w.live-is ∙ (ap (λ (n : ℕ). n + 1) is ∙ sym (more ∙ ap (λ (n : ℕ). length (records_in (map slot_of (take i xs))) + n) one))
      | else-is_some w ↦ let none = free_slot x (sym c.is_some.ensures ∙ w.if-is_some.false) in w.live-is ∙ (is ∙ sym (more ∙ (ap (λ (n : ℕ). length (records_in (map slot_of (take i xs))) + n) none ∙ (let z : length (records_in (map slot_of (take i xs))) + 0 ≡ length (records_in (map slot_of (take i xs))) = omega arith in z))))
    ]
