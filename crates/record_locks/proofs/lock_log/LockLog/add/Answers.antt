use Rattle.std.proofs.Common.{◌≡◌, ◌+◌, ◌++◌, ◌∷◌, [], length, ap, ◌∙◌, arith}
use Rattle.std.specs.Prelude.{vec_capacity}
use Rattle.std.proofs.lemmas.List.{length-append}
use Rattle.std.specs.Map.{lookup}
use Rattle.table_keys.specs.Places.{same_place}
use Rattle.record_locks.specs.Turns.{LogSaid, turn_of, one_more, turn_count}
use Rattle.record_locks.proofs.LogLemmas.{held_length, at_most_one}
use Rattle.record_locks.proofs.LogTables.{few_counted, held_put, log_put}
use Rattle.record_locks.proofs.lock_log.LockLog.add.Goals as goal

pub one_more-turn-requires : goal.one_more-turn-requires
one_more-turn-requires c =
    let inside = c.self.inside in
    let few = few_counted inside.log.items inside.latest inside.turns inside.count inside.room (vec_capacity inside.log) c.args.by.now c.self.invariant in
    let same = ap turn_count c.turn_now.ensures in
    let room = c.requires.room in
    let used = ap (λ (l : LogSaid). l.used) c.self.view_is in
    let all = ap (λ (l : LogSaid). l.room) c.self.view_is in
    let ranges = c.self.ranges in
    let ok = inside.log.ok in
    record { few = omega (arith, few, same, room, used, all, ranges, ok) }

pub put_turn-requires : goal.put_turn-requires
put_turn-requires c = record {
  room = λ none.
      let room = c.requires.room in
      let used = ap (λ (l : LogSaid). l.used) c.self.view_is in
      let all = ap (λ (l : LogSaid). l.room) c.self.view_is in
      let few = c.self.invariant.few_turns in
      let wide = c.self.invariant.turn_room in
      omega (arith, room, used, all, few, wide);
}

pub put_hold-requires : goal.put_hold-requires
put_hold-requires c = record {
  room = λ none.
      let room = c.requires.room in
      let used = ap (λ (l : LogSaid). l.used) c.self.view_is in
      let all = ap (λ (l : LogSaid). l.room) c.self.view_is in
      let few = c.self.invariant.few_places in
      let wide = c.self.invariant.place_room in
      omega (arith, room, used, all, few, wide);
}

pub push_reserved-requires : goal.push_reserved-requires
push_reserved-requires c =
    let room = c.requires.room in
    let used = ap (λ (l : LogSaid). l.used) c.self.view_is in
    let all = ap (λ (l : LogSaid). l.room) c.self.view_is in
    let wide = c.self.invariant.log_room in
    let ok = c.self.inside.log.ok in
    omega (arith, room, used, all, wide, ok)

pub overflow_add-self : goal.overflow_add-self
overflow_add-self c =
    let inside = c.self.inside in
    let counted = c.self.invariant.counted in
    let few = held_length (turn_of inside.turns.entries) inside.log.items in
    let room = c.requires.room in
    let used = ap (λ (l : LogSaid). l.used) c.self.view_is in
    let all = ap (λ (l : LogSaid). l.room) c.self.view_is in
    let ranges = c.self.ranges in
    let ok = inside.log.ok in
    omega (arith, counted, few, room, used, all, ranges, ok)

pub invariant_of-self : goal.invariant_of-self
invariant_of-self c =
    let inside = c.self.inside in
    let long : c.len.result ≡ length inside.log.items = let e = c.len.ensures in let ok = inside.log.ok.0 in omega (arith, e, ok) in
    let free = ap (λ (l : LogSaid). lookup (same_place c.args.place.now) l.held) c.self.view_is ∙ c.requires.new in
    let next = c.one_more-turn.ensures ∙ (λ i. one_more (long i) (c.turn_now.ensures i)) in
    log_put inside.log.items c.push_reserved.new.self.items inside.latest c.put_hold.new.latest inside.turns c.put_turn.new.turns inside.count inside.room (vec_capacity inside.log) c.args.place.now c.args.by.now
    c.one_more-turn.result c.self.invariant free next c.put_turn.ensures.each c.push_reserved.ensures.items (vec_capacity c.push_reserved.new.self) c.push_reserved.ensures.capacity c.put_hold.ensures.each c.put_hold.ensures.unique
    c.put_turn.ensures.unique c.put_hold.ensures.few (at_most_one _ _ _ c.put_turn.ensures.len) c.put_hold.ensures.room c.put_turn.ensures.room

pub returns : goal.returns
returns c =
    let inside = c.self.inside in
    let long : c.len.result ≡ length inside.log.items = let e = c.len.ensures in let ok = inside.log.ok.0 in omega (arith, e, ok) in
    let free = ap (λ (l : LogSaid). lookup (same_place c.args.place.now) l.held) c.self.view_is ∙ c.requires.new in
    let next = c.one_more-turn.ensures ∙ (λ i. one_more (long i) (c.turn_now.ensures i)) in
    let held =
    held_put inside.log.items c.push_reserved.new.self.items inside.latest c.put_hold.new.latest inside.turns c.put_turn.new.turns inside.count inside.room (vec_capacity inside.log) c.args.place.now c.args.by.now
    c.one_more-turn.result c.self.invariant free next c.put_turn.ensures.each c.push_reserved.ensures.items
    ∙ ap (λ (l : LogSaid). l.held ++ (c.args.place.now, c.args.by.now) ∷ []) c.self.view_is in
    let used = ap length c.push_reserved.ensures.items ∙ length-append inside.log.items _ ∙ ap (λ (l : LogSaid). l.used + 1) c.self.view_is in
    let room = ap (λ (l : LogSaid). l.room) c.self.view_is in
    λ i. record { held = held i; used = used i; room = room i }
