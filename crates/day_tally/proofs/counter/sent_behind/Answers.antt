use Rattle.std.proofs.Common.{sym}
use Rattle.day_tally.proofs.Others.{nothing_sent}
use Rattle.day_tally.proofs.counter.sent_behind.Goals as goal

pub returns-in_default : goal.returns-in_default
returns-in_default c = sym (nothing_sent c.args.form.now c.args.before c.in_default.not-Sent)
