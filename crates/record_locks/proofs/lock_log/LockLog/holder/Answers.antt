use Rattle.std.proofs.Common.{Bool, Some, None, if◌then◌else◌, sym, ap, ◌∙◌}
use Rattle.std.specs.Map.{lookup}
use Rattle.table_keys.specs.Places.{same_place}
use Rattle.record_locks.specs.Turns.{LogSaid, found_now, turn_of}
use Rattle.record_locks.proofs.lock_log.LockLog.holder.Goals as goal

pub returns-in_err-hold-clause-holder : goal.returns-in_err-hold-clause-holder
returns-in_err-hold-clause-holder c =
    c.from_residual.ensures ∙ ap (found_now (turn_of c.self.inside.turns.entries)) c.in_err-hold.ensures.value ∙ c.self.invariant.found c.args.place.now
    ∙ ap (λ (l : LogSaid). lookup (same_place c.args.place.now) l.held) c.self.view_is

pub returns-then-is_now-clause-holder : goal.returns-then-is_now-clause-holder
returns-then-is_now-clause-holder c =
    ap (λ (b : Bool). if b then Some c.in_ok-hold.hold.now.by else None) (sym c.if-is_now.true ∙ c.is_now.ensures) ∙ ap (found_now (turn_of c.self.inside.turns.entries)) c.in_ok-hold.ensures.value
    ∙ c.self.invariant.found c.args.place.now ∙ ap (λ (l : LogSaid). lookup (same_place c.args.place.now) l.held) c.self.view_is

pub returns-else-is_now-clause-holder : goal.returns-else-is_now-clause-holder
returns-else-is_now-clause-holder c =
    ap (λ (b : Bool). if b then Some c.in_ok-hold.hold.now.by else None) (sym c.if-is_now.false ∙ c.is_now.ensures) ∙ ap (found_now (turn_of c.self.inside.turns.entries)) c.in_ok-hold.ensures.value
    ∙ c.self.invariant.found c.args.place.now ∙ ap (λ (l : LogSaid). lookup (same_place c.args.place.now) l.held) c.self.view_is
