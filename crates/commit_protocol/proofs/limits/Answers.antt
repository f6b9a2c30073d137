use Rattle.commit_protocol.proofs.WithinRows.{keeps_limits, restarted_within, effects_lawful}
use Rattle.commit_protocol.proofs.Counts.{effects_fit}
use Rattle.commit_protocol.proofs.limits.Goals as goal

pub returns-clause-keep : goal.returns-clause-keep
returns-clause-keep c = keeps_limits

pub returns-clause-restart : goal.returns-clause-restart
returns-clause-restart c = restarted_within

pub returns-clause-effects : goal.returns-clause-effects
returns-clause-effects c = effects_fit

pub returns-clause-writes : goal.returns-clause-writes
returns-clause-writes c = effects_lawful
