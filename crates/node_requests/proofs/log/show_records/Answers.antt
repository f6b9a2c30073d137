use Rattle.std.proofs.Common.{◌≡◌, ◌+◌, ◌++◌, map, take, length, ◌∙◌, ap, sym, subst, refl, arith}
use Rattle.std.proofs.lemmas.List.{take_all}
use Rattle.world_laws.specs.log_laws.Slots.{records_in, slot_records}
use Rattle.world_laws.specs.run_model.Answers.{log_line}
use Rattle.emitter_model.specs.Emitting.{Emits}
use Rattle.emitter_model.proofs.EmittingLemmas.{emits_on, since_on}
use Rattle.node_table.specs.lmcp_log.Log.{slot_at}
use Rattle.node_requests.proofs.SlotLoops.{entries_more, no_record, one_record, records_more}
use Rattle.node_requests.proofs.log.show_records.Goals.{then-show_record, else-show_record}
use Rattle.node_requests.proofs.log.show_records.Goals as goal

pub loop-slot-preserved : goal.loop-slot-preserved
loop-slot-preserved g c =
    let ss = (g.U.RecoveryUnits.state c.args.running.now.stored.units).log in
    let k = c.loop-slot.slot in
    let before = c.loop-slot.invariant in
    let more = records_more ss k (omega arith) in
    let counted = before.count in
    let place = c.show_record.ensures.place ∙ before.place in
    let since = since_on _ _ _ before.since c.show_record.ensures.since in
    let shows = subst (λ ls. Emits (g.E.Emit.shows c.args.out.now) ls (g.E.Emit.shows c.show_record.new.out)) (sym (entries_more ss k (omega arith))) (emits_on _ _ _ _ _ before.shows c.show_record.ensures.shows) in
    elim c.if-show_record.branch [
      | then-show_record w ↦
          let one = one_record (slot_at ss k) (sym c.show_record.ensures.has ∙ w.if-show_record.true) in
          let is = w.count-is in
          record { within = omega arith; few = (let few = before.few in omega arith); place = place; since = since; shows = shows; count = omega arith }
      | else-show_record w ↦
          let none = no_record (slot_at ss k) (sym c.show_record.ensures.has ∙ w.if-show_record.false) in
          let is = w.count-is in
          record { within = omega arith; few = (let few = before.few in omega arith); place = place; since = since; shows = shows; count = omega arith }
    ]

pub returns-clause-shows : goal.returns-clause-shows
returns-clause-shows g c =
    let ss = (g.U.RecoveryUnits.state c.args.running.now.stored.units).log in
    subst (λ ls. Emits (g.E.Emit.shows c.args.out.now) ls (g.E.Emit.shows c.loop-slot.out)) (ap (λ x. map log_line (slot_records 0 x)) (take_all c.loop-slot.slot ss (omega arith))) c.loop-slot.invariant.shows

pub returns-clause-count : goal.returns-clause-count
returns-clause-count g c =
    let ss = (g.U.RecoveryUnits.state c.args.running.now.stored.units).log in
    c.loop-slot.invariant.count ∙ ap (λ x. length (records_in x)) (take_all c.loop-slot.slot ss (omega arith))
