use Rattle.std.proofs.Common.{ℕ, [], sym, ap, ◌∙◌, arith}
use Rattle.record_locks.specs.Turns.{LogSaid}
use Rattle.record_locks.proofs.LockLemmas.{falls_behind}
use Rattle.record_locks.proofs.locks.make_room.Goals as goal

pub copy_held-requires-clause-empty : goal.copy_held-requires-clause-empty
copy_held-requires-clause-empty c = ap (λ (l : LogSaid). l.held) c.requires.empty

pub copy_held-requires-clause-unused : goal.copy_held-requires-clause-unused
copy_held-requires-clause-unused c = ap (λ (l : LogSaid). l.used) c.requires.empty

pub copy_held-requires-clause-room : goal.copy_held-requires-clause-room
copy_held-requires-clause-room c = let few = c.requires.room in let same = ap (λ (l : LogSaid). l.room) c.requires.empty in omega (arith, few, same)

pub returns-then-is_full-clause-held : goal.returns-then-is_full-clause-held
returns-then-is_full-clause-held c = ap (λ (l : LogSaid). l.held) (c.swap.ensures.x_after ∙ c.copy_held.ensures)

pub returns-then-is_full-clause-room : goal.returns-then-is_full-clause-room
returns-then-is_full-clause-room c =
    let used = ap (λ (l : LogSaid). l.used) (c.swap.ensures.x_after ∙ c.copy_held.ensures) in
    let room = ap (λ (l : LogSaid). l.room) (c.swap.ensures.x_after ∙ c.copy_held.ensures) in
    let same = ap (λ (l : LogSaid). l.room) c.requires.empty in
    let few = c.requires.room in
    omega (arith, used, room, same, few)

pub returns-then-is_full-clause-same_room : goal.returns-then-is_full-clause-same_room
returns-then-is_full-clause-same_room c = ap (λ (l : LogSaid). l.room) (c.swap.ensures.x_after ∙ c.copy_held.ensures) ∙ ap (λ (l : LogSaid). l.room) c.requires.empty

pub returns-then-is_full-clause-empty : goal.returns-then-is_full-clause-empty
returns-then-is_full-clause-empty c =
    let room = ap (λ (l : LogSaid). l.room) c.swap.ensures.y_after in
    c.clear.ensures ∙ ap (λ (r : ℕ). record { held = []; used = 0; room = r }) room ∙ sym c.requires.empty

pub returns-else-is_full-clause-room : goal.returns-else-is_full-clause-room
returns-else-is_full-clause-room c = falls_behind c.args.log.now.room c.args.log.now.used (sym c.is_full.ensures ∙ c.if-is_full.false)
