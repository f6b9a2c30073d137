use Rattle.std.proofs.Common.{◌≡◌, ◌+◌, ◌∷◌, [], take, length, ◌∙◌, ap, sym, arith}
use Rattle.std.proofs.lemmas.List.{take_all}
use Rattle.world_laws.specs.log_laws.Slots.{committed_of, free_slots, prepared_of, records_in}
use Rattle.node_requests.proofs.SlotLoops.{committed_more, free_more, prepared_more}
use Rattle.node_requests.proofs.log.count_slots.Goals as goal

pub loop-slot-preserved : goal.loop-slot-preserved
loop-slot-preserved g c =
    let ss = (g.U.RecoveryUnits.state c.args.running.now.stored.units).log in
    let k = c.loop-slot.slot in
    let same = c.record_at.ensures in
    let e = c.count_slot-counts.ensures in
    let before = c.loop-slot.invariant in
    record {
      within = omega arith;
      few = (let f = e.few in let b = before.few in (omega arith, omega arith, omega arith));
      committed = e.committed ∙ (λ i. before.committed i + length (committed_of (records_in (same i ∷ [])))) ∙ sym (committed_more ss k (omega arith));
      prepared = e.prepared ∙ (λ i. before.prepared i + length (prepared_of (records_in (same i ∷ [])))) ∙ sym (prepared_more ss k (omega arith));
      free = e.free ∙ (λ i. before.free i + free_slots (same i ∷ [])) ∙ sym (free_more ss k (omega arith));
    }

pub returns-clause-committed : goal.returns-clause-committed
returns-clause-committed g c =
    let ss = (g.U.RecoveryUnits.state c.args.running.now.stored.units).log in
    c.loop-slot.invariant.committed ∙ ap (λ x. length (committed_of (records_in x))) (take_all c.loop-slot.slot ss (omega arith))

pub returns-clause-prepared : goal.returns-clause-prepared
returns-clause-prepared g c =
    let ss = (g.U.RecoveryUnits.state c.args.running.now.stored.units).log in
    c.loop-slot.invariant.prepared ∙ ap (λ x. length (prepared_of (records_in x))) (take_all c.loop-slot.slot ss (omega arith))

pub returns-clause-free : goal.returns-clause-free
returns-clause-free g c =
    let ss = (g.U.RecoveryUnits.state c.args.running.now.stored.units).log in
    c.loop-slot.invariant.free ∙ ap free_slots (take_all c.loop-slot.slot ss (omega arith))
