use Rattle.std.proofs.Common.{Option, sym, ap, ◌∙◌}
use Rattle.record_locks.specs.declared.turns.Turn.{Turn}
use Rattle.record_locks.specs.Turns.{began_at}
use Rattle.record_locks.proofs.turns.is_now.Goals as goal

pub returns-in-Some : goal.returns-in-Some
returns-in-Some c = ap (λ (o : Option Turn). began_at o c.args.hold.now.since) (sym c.in-Some.is ∙ c.turn_now.ensures)

pub returns-in-None : goal.returns-in-None
returns-in-None c = ap (λ (o : Option Turn). began_at o c.args.hold.now.since) (sym c.in-None.is ∙ c.turn_now.ensures)
