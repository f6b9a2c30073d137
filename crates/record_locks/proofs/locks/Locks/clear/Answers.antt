use Rattle.std.proofs.Common.{ap}
use Rattle.record_locks.specs.Locks.{LockTable}
use Rattle.record_locks.specs.Table.{newest_first}
use Rattle.record_locks.specs.Turns.{LogSaid}
use Rattle.record_locks.proofs.LogLemmas.{cleared_table}
use Rattle.record_locks.proofs.locks.Locks.clear.Goals as goal

pub invariant_of-self : goal.invariant_of-self
invariant_of-self c = cleared_table c.self.inside.log c.self.inside.other c.clear.new.self c.self.inside.most c.self.invariant c.clear.ensures

pub returns : goal.returns
returns c =
    let most = ap (λ (t : LockTable). t.most) c.self.view_is in
    let locks = ap (λ (l : LogSaid). newest_first l.held) c.clear.ensures in
    λ i. record { most = most i; locks = locks i }
