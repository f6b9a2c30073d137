use Rattle.std.proofs.Common.{length, subst, ap, ◌∙◌}
use Rattle.std.specs.List.{IsDistinct}
use Rattle.std.specs.Map.{keys_of}
use Rattle.table_keys.specs.Places.{same_place}
use Rattle.record_locks.specs.Turns.{LogSaid}
use Rattle.record_locks.proofs.lock_log.LockLog.count.Goals as goal

pub returns-clause-count : goal.returns-clause-count
returns-clause-count c = c.self.invariant.counted ∙ ap (λ (l : LogSaid). length l.held) c.self.view_is

pub returns-clause-distinct : goal.returns-clause-distinct
returns-clause-distinct c = subst (λ (l : LogSaid). IsDistinct same_place (keys_of l.held)) c.self.view_is c.self.invariant.distinct
