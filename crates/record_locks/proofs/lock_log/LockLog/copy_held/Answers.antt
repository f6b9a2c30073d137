use Rattle.std.proofs.Common.{List, length, subst, sym, ap, ◌∙◌, arith}
use Rattle.std.specs.List.{IsDistinct}
use Rattle.std.specs.Map.{keys_of}
use Rattle.table_keys.specs.Places.{same_place}
use Rattle.record_locks.specs.declared.lock_log.Entry.{Entry}
use Rattle.record_locks.specs.Turns.{LogSaid, turn_of, held_now}
use Rattle.record_locks.proofs.lock_log.LockLog.copy_held.Goals as goal

pub keep_all-requires-clause-distinct : goal.keep_all-requires-clause-distinct
keep_all-requires-clause-distinct c =
    subst (λ (es : List Entry). IsDistinct same_place (keys_of (held_now (turn_of c.self.inside.turns.entries) es))) (sym c.deref.ensures.value) c.self.invariant.distinct

pub keep_all-requires-clause-room : goal.keep_all-requires-clause-room
keep_all-requires-clause-room c =
    let room = c.requires.room in
    let long = ap (λ (l : LogSaid). length l.held) c.self.view_is in
    let same = ap (λ (es : List Entry). length (held_now (turn_of c.self.inside.turns.entries) es)) c.deref.ensures.value in
    omega (arith, room, long, same)

pub returns : goal.returns
returns c =
    let held = c.keep_all.ensures.held ∙ ap (held_now (turn_of c.self.inside.turns.entries)) c.deref.ensures.value ∙ ap (λ (l : LogSaid). l.held) c.self.view_is in
    let used = c.keep_all.ensures.used ∙ ap length held in
    λ i. record { held = held i; used = used i; room = c.keep_all.ensures.room i }
