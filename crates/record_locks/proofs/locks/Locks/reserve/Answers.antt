use Rattle.std.proofs.Common.{ap}
use Rattle.record_locks.specs.Table.{newest_first}
use Rattle.record_locks.specs.Turns.{LogSaid}
use Rattle.record_locks.proofs.LogLemmas.{first_table}
use Rattle.record_locks.proofs.locks.Locks.reserve.Goals as goal

pub invariant_of-result : goal.invariant_of-result
invariant_of-result c = first_table c.in_ok-log.log c.in_ok-other.other c.args.most c.in_ok-log.ensures c.in_ok-other.ensures

pub returns : goal.returns
returns c = λ i. record { most = c.args.most; locks = ap (λ (l : LogSaid). newest_first l.held) c.in_ok-log.ensures i }
