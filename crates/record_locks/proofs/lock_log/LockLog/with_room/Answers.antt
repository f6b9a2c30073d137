use Rattle.std.proofs.Common.{List, length, subst, sym, ap}
use Rattle.std.specs.Prelude.{vec_capacity}
use Rattle.record_locks.specs.declared.lock_log.Entry.{Entry}
use Rattle.record_locks.specs.Turns.{turn_of, held_now, IsLog}
use Rattle.record_locks.proofs.LogTables.{log_without_locks}
use Rattle.record_locks.proofs.lock_log.LockLog.with_room.Goals as goal

pub invariant_of-result : goal.invariant_of-result
invariant_of-result c =
    let latest = c.in_ok-latest in
    let turns = c.in_ok-turns in
    let log = c.in_ok-log in
    subst (λ (es : List Entry). IsLog es latest.latest turns.turns 0 c.args.room (vec_capacity log.log)) (sym log.ensures.items)
    (log_without_locks latest.latest turns.turns c.args.room (vec_capacity log.log) latest.ensures.empty turns.ensures.empty latest.ensures.unique turns.ensures.unique latest.ensures.spare turns.ensures.spare log.ensures.capacity)

pub returns : goal.returns
returns c =
    let none = ap (λ (es : List Entry). held_now (turn_of c.in_ok-turns.turns.entries) es) c.in_ok-log.ensures.items in
    let used = ap length c.in_ok-log.ensures.items in
    λ i. record { held = none i; used = used i; room = c.args.room }
