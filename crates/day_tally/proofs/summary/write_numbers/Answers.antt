use Rattle.day_tally.proofs.Ending.{numbers_put}
use Rattle.day_tally.proofs.summary.write_numbers.Goals as goal

pub returns-clause-puts : goal.returns-clause-puts
returns-clause-puts g c = numbers_put _ _ _ _ c.args.asked.count c.args.committed c.from-count.result c.saturating_sub.result c.from-count.ensures c.saturating_sub.ensures c.count.ensures.puts c.count-2.ensures.puts c.count-3.ensures.puts
