use Rattle.day_tally.proofs.Ending.{dump_put}
use Rattle.day_tally.proofs.summary.+write_counts.Goals as goal

pub returns-in-Dump-clause-puts : goal.returns-in-Dump-clause-puts
returns-in-Dump-clause-puts g t c =
    dump_put _ _ _ c.args.steps.now c.args.counts.now c.in-Dump.side c.in-Dump.file _ _ c.file_label.result.now c.in-len1-up.len_at_least c.in-len1-up-counts.len_at_least c.in-Dump.is c.file_label.ensures c.count.ensures.puts c.write_counts.ensures.puts
