use Rattle.std.proofs.Common.{sym, ap, ◌∙◌}
use Rattle.vms_base.specs.Ids.{serial_of}
use Rattle.record_locks.specs.Locks.{LockTable, holder, released, held_by_other}
use Rattle.record_locks.specs.Table.{newest_first}
use Rattle.record_locks.specs.Turns.{LogSaid}
use Rattle.record_locks.proofs.LockLemmas.{released_first, released_found}
use Rattle.record_locks.proofs.LogLemmas.{released_table, others_distinct}
use Rattle.record_locks.proofs.locks.Locks.release_all.Goals as goal

pub invariant_of-self : goal.invariant_of-self
invariant_of-self c = released_table c.self.inside.log c.self.inside.other c.release.new.self c.self.inside.most (serial_of c.args.by) c.self.invariant c.release.ensures.held

pub returns-clause-locks : goal.returns-clause-locks
returns-clause-locks c =
    let most = ap (λ (t : LockTable). t.most) c.self.view_is in
    let locks =
    ap (λ (l : LogSaid). newest_first l.held) c.release.ensures.held ∙ sym (released_first (serial_of c.args.by) c.self.inside.log.held)
    ∙ ap (λ (t : LockTable). released (serial_of c.args.by) t.locks) c.self.view_is in
    λ i. record { most = most i; locks = locks i }

pub returns-clause-exactly : goal.returns-clause-exactly
returns-clause-exactly c = λ file key.
    ap (λ (l : LogSaid). holder (newest_first l.held) file key) c.release.ensures.held
    ∙ released_found c.args.by c.self.inside.log.held c.release.ensures.distinct (others_distinct (serial_of c.args.by) c.self.inside.log.held c.release.ensures.distinct) file key
    ∙ ap (λ (t : LockTable). held_by_other (serial_of c.args.by) (holder t.locks file key)) c.self.view_is
