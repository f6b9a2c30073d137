use Rattle.std.proofs.Common.{◌≡◌, suc, ◌+◌, ℕ, List, length, take, ap, ◌∙◌, arith}
use Rattle.std.specs.Map.{lookup}
use Rattle.vms_base.specs.declared.ids.Serial.{Serial}
use Rattle.table_keys.specs.declared.place.Place.{Place}
use Rattle.table_keys.specs.Places.{same_place}
use Rattle.record_locks.specs.Turns.{turn_of, held_now}
use Rattle.record_locks.proofs.LockLemmas.{indexed}
use Rattle.record_locks.proofs.LogLemmas.{held_lack, held_few, copied_on}
use Rattle.record_locks.proofs.lock_log.keep_all.Goals as goal

pub keep_held-requires-clause-new : goal.keep_held-requires-clause-new
keep_held-requires-clause-new c =
    let at = indexed c.args.log.now c.loop-entry.entry-index c.entry-item.result c.loop-entry-test.true c.entry-item.is in
    λ now.
    ap (λ (es : List (Place × Serial)). lookup (same_place c.entry-item.result.place) es) c.loop-entry.invariant.held
    ∙ held_lack (turn_of c.args.turns.now.entries) c.args.log.now c.loop-entry.entry-index c.entry-item.result c.requires.distinct at now

pub keep_held-requires-clause-room : goal.keep_held-requires-clause-room
keep_held-requires-clause-room c =
    let at = indexed c.args.log.now c.loop-entry.entry-index c.entry-item.result c.loop-entry-test.true c.entry-item.is in
    λ now.
    let few = held_few (turn_of c.args.turns.now.entries) c.args.log.now c.loop-entry.entry-index c.entry-item.result at now in
    let long = ap length c.loop-entry.invariant.held in
    let used = c.loop-entry.invariant.used in
    let room = c.loop-entry.invariant.room in
    let all = c.requires.room in
    omega (arith, few, long, used, room, all)

pub loop-entry-preserved : goal.loop-entry-preserved
loop-entry-preserved c =
    let i = c.loop-entry.entry-index in
    let at = indexed c.args.log.now i c.entry-item.result c.loop-entry-test.true c.entry-item.is in
    let turn = turn_of c.args.turns.now.entries in
    let more : suc i ≡ i + 1 = omega arith in
    let on = copied_on turn c.args.log.now i c.entry-item.result c.loop-entry.other c.keep_held.new.other c.args.other.now.room at c.keep_held.ensures c.loop-entry.invariant.held c.loop-entry.invariant.used c.loop-entry.invariant.room in
    record { held = on.0 ∙ ap (λ (n : ℕ). held_now turn (take n c.args.log.now)) more; used = on.1; room = on.2 }
