use Rattle.std.proofs.Common.{◌≡◌, ◌++◌, flat_map, take, length, ◌∙◌, ap, sym, subst, refl, arith}
use Rattle.std.proofs.lemmas.List.{take_all}
use Rattle.emitter_model.specs.Emitting.{Emits}
use Rattle.emitter_model.proofs.EmittingLemmas.{emits_on, since_on}
use Rattle.node_requests.specs.Managers.{owed_lines_at}
use Rattle.node_requests.proofs.SlotLoops.{owed_slots, slots_more}
use Rattle.node_requests.proofs.log.show_owed.Goals as goal

pub loop-slot-preserved : goal.loop-slot-preserved
loop-slot-preserved g c =
    let ss = (g.U.RecoveryUnits.state c.args.running.now.stored.units).log in
    let before = g.E.Emit.shows c.args.out.now in
    let after = g.E.Emit.shows c.show_if_owed.new.out in
    record {
      within = omega arith;
      place = c.show_if_owed.ensures.place ∙ c.loop-slot.invariant.place;
      since = since_on _ _ _ c.loop-slot.invariant.since c.show_if_owed.ensures.since;
      shows = subst (λ ls. Emits before ls after) (sym (slots_more (owed_lines_at c.args.rm.now) ss c.loop-slot.slot (omega arith))) (emits_on _ _ _ _ _ c.loop-slot.invariant.shows c.show_if_owed.ensures.shows);
    }

pub returns-clause-shows : goal.returns-clause-shows
returns-clause-shows g c =
    let ss = (g.U.RecoveryUnits.state c.args.running.now.stored.units).log in
    subst (λ ls. Emits (g.E.Emit.shows c.args.out.now) ls (g.E.Emit.shows c.loop-slot.out)) (ap (flat_map (owed_lines_at c.args.rm.now)) (take_all c.loop-slot.slot ss (omega arith)) ∙ owed_slots c.args.rm.now ss) c.loop-slot.invariant.shows
