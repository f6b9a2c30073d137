use Rattle.std.proofs.Common.{◌<◌, ◌∷◌, List, length, option_map, sym, ap, ◌∙◌, arith}
use Rattle.std.specs.Map.{lookup}
use Rattle.vms_base.specs.Ids.{serial_of}
use Rattle.vms_base.specs.Keys.{key_of}
use Rattle.vms_base.specs.declared.ids.Serial.{Serial}
use Rattle.table_keys.specs.declared.place.Place.{Place}
use Rattle.record_locks.specs.Locks.{LockTable, holder}
use Rattle.record_locks.specs.Table.{lock_of, newest_first}
use Rattle.table_keys.specs.Places.{same_place}
use Rattle.record_locks.specs.Turns.{LogSaid}
use Rattle.record_locks.proofs.LockLemmas.{any_ok, absent, locked_already, locked_now, length_newest, newest_behind, refused_full, refused_none}
use Rattle.record_locks.proofs.LogLemmas.{still_table}
use Rattle.record_locks.proofs.locks.Locks.lock.Goals as goal

pub returns-after-is_same-clause-locks : goal.returns-after-is_same-clause-locks
returns-after-is_same-clause-locks c =
    let locks = sym (locked_already c.args.self.now.locks c.args.file (key_of c.args.key.now) (serial_of c.args.by) (serial_of c.in-Some.holder) (sym c.holder.ensures ∙ ap (option_map serial_of) c.in-Some.is)) in
    any_ok c.if-is_same.result (λ i. record { most = c.args.self.now.most; locks = locks i })

pub returns-then-count-self-clause-refused : goal.returns-then-count-self-clause-refused
returns-then-count-self-clause-refused c =
    let long = c.count.ensures.count ∙ sym (length_newest c.self.inside.log.held) ∙ ap (λ (t : LockTable). length t.locks) c.self.view_is in
    let most = ap (λ (t : LockTable). t.most) c.self.view_is in
    let full = c.if-count-self.true in
    refused_full (serial_of c.args.by) (holder c.args.self.now.locks c.args.file (key_of c.args.key.now)) (length c.args.self.now.locks) c.args.self.now.most
    (sym c.holder.ensures ∙ ap (option_map serial_of) c.in-None.is) (omega (arith, long, most, full))

pub make_room-requires-clause-empty : goal.make_room-requires-clause-empty
make_room-requires-clause-empty c = c.self.invariant.other_empty

pub make_room-requires-clause-room : goal.make_room-requires-clause-room
make_room-requires-clause-room c =
    let long = c.count.ensures.count in
    let few = c.if-count-self.false in
    let room = c.self.invariant.room in
    omega (arith, long, few, room)

pub add-requires-clause-new : goal.add-requires-clause-new
add-requires-clause-new c =
    let p : Place = record { file = c.args.file; key = c.args.key.now } in
    let none = sym c.holder.ensures ∙ ap (option_map serial_of) c.in-None.is in
    ap (λ (es : List (Place × Serial)). lookup (same_place p) es) c.make_room.ensures.held
    ∙ absent c.self.inside.log.held p c.count.ensures.distinct (ap (λ (t : LockTable). holder t.locks c.args.file (key_of c.args.key.now)) c.self.view_is ∙ none)

pub invariant_of-self : goal.invariant_of-self
invariant_of-self c =
    let few : length c.self.inside.log.held < c.self.inside.most = let long = c.count.ensures.count in let few = c.if-count-self.false in omega (arith, long, few) in
    still_table c.self.inside.log c.self.inside.other c.make_room.new.log c.make_room.new.other c.add.new.self c.self.inside.most (record { file = c.args.file; key = c.args.key.now }, c.args.by) c.self.invariant few
    c.make_room.ensures.held c.make_room.ensures.same_room c.make_room.ensures.empty c.add.ensures

pub returns-else-count-self-clause-locks : goal.returns-else-count-self-clause-locks
returns-else-count-self-clause-locks c =
    let p : Place = record { file = c.args.file; key = c.args.key.now } in
    let none = sym c.holder.ensures ∙ ap (option_map serial_of) c.in-None.is in
    let most = ap (λ (t : LockTable). t.most) c.self.view_is in
    let locks =
    ap (λ (l : LogSaid). newest_first l.held) c.add.ensures ∙ newest_behind c.make_room.new.log.held (p, c.args.by)
    ∙ ap (λ (es : List (Place × Serial)). lock_of (p, c.args.by) ∷ newest_first es) c.make_room.ensures.held
    ∙ ap (λ (t : LockTable). lock_of (p, c.args.by) ∷ t.locks) c.self.view_is ∙ sym (locked_now c.args.self.now.locks c.args.file (key_of c.args.key.now) (serial_of c.args.by) none) in
    λ i. record { most = most i; locks = locks i }

pub returns-else-count-self-clause-refused : goal.returns-else-count-self-clause-refused
returns-else-count-self-clause-refused c =
    let none = sym c.holder.ensures ∙ ap (option_map serial_of) c.in-None.is in
    let count = c.count.ensures.count in
    let test = c.if-count-self.false in
    let long = length_newest c.self.inside.log.held in
    let all = ap (λ (t : LockTable). length t.locks) c.self.view_is in
    let most = ap (λ (t : LockTable). t.most) c.self.view_is in
    refused_none (serial_of c.args.by) (holder c.args.self.now.locks c.args.file (key_of c.args.key.now)) (length c.args.self.now.locks) c.args.self.now.most none (omega (arith, count, test, long, all, most))
