use Rattle.day_tally.specs.Counters.{tallied_in}
use Rattle.day_tally.proofs.Ending.{whole_put}
use Rattle.day_tally.proofs.summary.write_end.Goals as goal

pub returns-in-Whole-clause-puts : goal.returns-in-Whole-clause-puts
returns-in-Whole-clause-puts g c =
    whole_put _ _ _ c.args.asked.count c.committed.result (tallied_in c.args.lines.now) c.args.ended c.dumps.result.now c.items.result.now c.args.counts.now c.in-Whole.is c.committed.ensures (c.dumps.ensures 0 0) c.items.ensures c.write_numbers.ensures.puts c.write_counts.ensures.puts
