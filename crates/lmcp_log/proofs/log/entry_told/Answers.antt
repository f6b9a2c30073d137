use Rattle.std.proofs.Common.{Some, ap}
use Rattle.log_laws.specs.commit_protocol.Messages.{LogRecord}
use Rattle.tm_types.specs.Parts.{log_record_of}
use Rattle.lmcp_log.proofs.Readings.{same_some}
use Rattle.lmcp_log.proofs.log.entry_told.Goals as goal

pub returns-in-Some : goal.returns-in-Some
returns-in-Some c = λ r.
    let u = c.unless_there.ensures r in
    let v = c.in-Some.ensures r in (
      (λ e. let a = u.0 e in let b = v.0 (ap (λ (x : LogRecord). Some x) a.0) in (b.0, b.1, a.1)),
      (λ p. u.1 (same_some (log_record_of c.in-Some.r) r (v.1 (p.0, p.1)), p.2)),
    )
