use Rattle.std.proofs.Common.{if◌then◌else◌, sym, ◌∙◌}
use Rattle.record_locks.specs.Turns.{with_held}
use Rattle.record_locks.proofs.lock_log.keep_held.Goals as goal

pub add-requires-clause-new : goal.add-requires-clause-new
add-requires-clause-new c = c.requires.new (sym c.is_now.ensures ∙ c.if-is_now.true)

pub add-requires-clause-room : goal.add-requires-clause-room
add-requires-clause-room c = c.requires.room (sym c.is_now.ensures ∙ c.if-is_now.true)

pub returns-then-is_now : goal.returns-then-is_now
returns-then-is_now c =
    c.add.ensures ∙ (λ i. if (sym c.if-is_now.true ∙ c.is_now.ensures) i then with_held c.args.other.now (c.args.entry.now.place, c.args.entry.now.hold.by) else c.args.other.now)

pub returns-else-is_now : goal.returns-else-is_now
returns-else-is_now c =
    λ i. if (sym c.if-is_now.false ∙ c.is_now.ensures) i then with_held c.args.other.now (c.args.entry.now.place, c.args.entry.now.hold.by) else c.args.other.now
