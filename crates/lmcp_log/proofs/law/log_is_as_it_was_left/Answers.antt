use Rattle.lmcp_log.proofs.Keepings.{keeps_loads, keeps_beside, applied_keeps, cut_keeps, empty_keeps}
use Rattle.lmcp_log.proofs.Whole.{staged_whole, beside_whole, empty_whole}
use Rattle.lmcp_log.proofs.law.log_is_as_it_was_left.Goals as goal

pub returns-clause-loads : goal.returns-clause-loads
returns-clause-loads c = keeps_loads

pub returns-clause-applied : goal.returns-clause-applied
returns-clause-applied c = applied_keeps

pub returns-clause-cut : goal.returns-clause-cut
returns-clause-cut c = cut_keeps

pub returns-clause-beside : goal.returns-clause-beside
returns-clause-beside c = keeps_beside

pub returns-clause-empty : goal.returns-clause-empty
returns-clause-empty c = empty_keeps

pub returns-clause-whole : goal.returns-clause-whole
returns-clause-whole c = staged_whole

pub returns-clause-whole_beside : goal.returns-clause-whole_beside
returns-clause-whole_beside c = beside_whole

pub returns-clause-whole_empty : goal.returns-clause-whole_empty
returns-clause-whole_empty c = empty_whole
