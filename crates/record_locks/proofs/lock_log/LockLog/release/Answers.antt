use Rattle.std.proofs.Common.{◌≡◌, is_some, length, subst, sym, ap, ◌∙◌, arith}
use Rattle.std.specs.Prelude.{vec_capacity}
use Rattle.std.specs.List.{IsDistinct}
use Rattle.std.specs.Map.{keys_of}
use Rattle.vms_base.specs.Ids.{serial_of}
use Rattle.record_locks.specs.Table.{others_of}
use Rattle.table_keys.specs.Places.{same_place}
use Rattle.record_locks.specs.Turns.{LogSaid, turn_of, turn_count}
use Rattle.record_locks.proofs.LogLemmas.{turns_by_ids, no_turn, held_ended, ended_at, no_more}
use Rattle.record_locks.proofs.LockLemmas.{no_some}
use Rattle.record_locks.proofs.LogTables.{few_held, held_left, log_without}
use Rattle.record_locks.proofs.lock_log.LockLog.release.Goals as goal

pub put_turn-requires : goal.put_turn-requires
put_turn-requires c = record { room = λ none. absurd (no_some (sym none ∙ sym c.in-Some.ensures)) }

pub overflow_sub-self : goal.overflow_sub-self
overflow_sub-self c =
    let inside = c.self.inside in
    let few = few_held inside.log.items inside.latest inside.turns inside.count inside.room (vec_capacity inside.log) c.args.by.now c.self.invariant in
    let mine = ap turn_count c.in-Some.ensures in
    omega (arith, few, mine)

pub invariant_of-self : goal.invariant_of-self
invariant_of-self c =
    let inside = c.self.inside in
    let long : c.len.result ≡ length inside.log.items = let e = c.len.ensures in let ok = inside.log.ok.0 in omega (arith, e, ok) in
    let ended = ended_at (turn_of inside.turns.entries) (turn_of c.put_turn.new.turns.entries) c.args.by.now c.len.result (length inside.log.items) long c.put_turn.ensures.each in
    let few = few_held inside.log.items inside.latest inside.turns inside.count inside.room (vec_capacity inside.log) c.args.by.now c.self.invariant in
    let mine = ap turn_count c.in-Some.ensures in
    log_without inside.log.items inside.latest inside.turns c.put_turn.new.turns inside.count _ inside.room (vec_capacity inside.log) c.args.by.now c.self.invariant ended c.put_turn.ensures.unique
    (no_more _ _ _ c.put_turn.ensures.len (ap is_some (sym c.in-Some.ensures))) c.put_turn.ensures.room (omega (arith, mine, few))

pub returns-in-Some-clause-held : goal.returns-in-Some-clause-held
returns-in-Some-clause-held c =
    let inside = c.self.inside in
    let long : c.len.result ≡ length inside.log.items = let e = c.len.ensures in let ok = inside.log.ok.0 in omega (arith, e, ok) in
    let ended = ended_at (turn_of inside.turns.entries) (turn_of c.put_turn.new.turns.entries) c.args.by.now c.len.result (length inside.log.items) long c.put_turn.ensures.each in
    let held = held_left inside.log.items inside.latest inside.turns c.put_turn.new.turns inside.count 0 inside.room (vec_capacity inside.log) c.args.by.now c.self.invariant ended
    ∙ ap (λ (l : LogSaid). others_of (serial_of c.args.by.now) l.held) c.self.view_is in
    let used = ap (λ (l : LogSaid). l.used) c.self.view_is in
    let room = ap (λ (l : LogSaid). l.room) c.self.view_is in
    λ i. record { held = held i; used = used i; room = room i }

-- without a turn it holds nothing
pub returns-in-None-clause-held : goal.returns-in-None-clause-held
returns-in-None-clause-held c =
    let turns = c.self.inside.turns.entries in
    let log = c.self.inside.log.items in
    let nothing = no_turn (turn_of turns) c.args.by.now (length log) (turns_by_ids turns) (sym c.in-None.ensures) in
    let held = sym (ap (λ (l : LogSaid). l.held) c.self.view_is) ∙ held_ended (turn_of turns) (turn_of turns) c.args.by.now (length log) nothing log c.self.invariant.locked_before
    ∙ ap (λ (l : LogSaid). others_of (serial_of c.args.by.now) l.held) c.self.view_is in
    λ i. record { held = held i; used = c.args.self.now.used; room = c.args.self.now.room }

pub returns-in-Some-clause-distinct : goal.returns-in-Some-clause-distinct
returns-in-Some-clause-distinct c = subst (λ (l : LogSaid). IsDistinct same_place (keys_of l.held)) c.self.view_is c.self.invariant.distinct

pub returns-in-None-clause-distinct : goal.returns-in-None-clause-distinct
returns-in-None-clause-distinct c = subst (λ (l : LogSaid). IsDistinct same_place (keys_of l.held)) c.self.view_is c.self.invariant.distinct
