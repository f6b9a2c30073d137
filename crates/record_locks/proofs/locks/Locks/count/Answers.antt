use Rattle.std.proofs.Common.{length, sym, ap, ◌∙◌}
use Rattle.record_locks.specs.Locks.{LockTable}
use Rattle.record_locks.proofs.LockLemmas.{length_newest}
use Rattle.record_locks.proofs.locks.Locks.count.Goals as goal

pub returns : goal.returns
returns c = c.count.ensures.count ∙ sym (length_newest c.self.inside.log.held) ∙ ap (λ (t : LockTable). length t.locks) c.self.view_is
