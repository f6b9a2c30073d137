use Rattle.std.proofs.Common.{◌≡◌, length, nat_le, ap, ◌∙◌, arith}
use Rattle.record_locks.specs.Turns.{LogSaid}
use Rattle.record_locks.proofs.lock_log.LockLog.is_full.Goals as goal

pub returns : goal.returns
returns c =
    let long : c.len.result ≡ length c.self.inside.log.items = let e = c.len.ensures in let ok = c.self.inside.log.ok.0 in omega (arith, e, ok) in
    ap (nat_le c.self.inside.room) long ∙ ap (λ (l : LogSaid). nat_le l.room l.used) c.self.view_is
