use Rattle.std.proofs.Common.{◌≡◌, List, length, subst, sym, ap, arith}
use Rattle.std.specs.Prelude.{vec_capacity}
use Rattle.record_locks.specs.declared.lock_log.Entry.{Entry}
use Rattle.record_locks.specs.Turns.{LogSaid, turn_of, held_now, IsLog}
use Rattle.record_locks.proofs.LogTables.{log_without_locks}
use Rattle.record_locks.proofs.lock_log.LockLog.clear.Goals as goal

pub invariant_of-self : goal.invariant_of-self
invariant_of-self c =
    let is = c.self.invariant in
    let places = c.truncate.ensures.capacity (omega arith) in
    let turns = c.truncate-2.ensures.capacity (omega arith) in
    let no_places : length c.truncate.new.self.entries ≡ 0 = ap length c.truncate.ensures.entries in
    let no_turns : length c.truncate-2.new.self.entries ≡ 0 = ap length c.truncate-2.ensures.entries in
    let place_room = is.place_room in
    let turn_room = is.turn_room in
    let log_room = is.log_room in
    let wide = c.clear.ensures.capacity in
    subst (λ (es : List Entry). IsLog es c.truncate.new.self c.truncate-2.new.self 0 c.self.inside.room (vec_capacity c.clear.new.self)) (sym c.clear.ensures.items)
    (log_without_locks c.truncate.new.self c.truncate-2.new.self c.self.inside.room (vec_capacity c.clear.new.self) c.truncate.ensures.entries c.truncate-2.ensures.entries c.truncate.ensures.unique c.truncate-2.ensures.unique
    (omega (arith, place_room, places, no_places)) (omega (arith, turn_room, turns, no_turns)) (omega (arith, log_room, wide)))

pub returns : goal.returns
returns c =
    let none = ap (λ (es : List Entry). held_now (turn_of c.truncate-2.new.self.entries) es) c.clear.ensures.items in
    let used = ap length c.clear.ensures.items in
    let room = ap (λ (l : LogSaid). l.room) c.self.view_is in
    λ i. record { held = none i; used = used i; room = room i }
