use Rattle.said_steps.proofs.OwnLines.{own_lines_say, own_requests_say}
use Rattle.said_steps.proofs.own_lines_leave_others.Goals as goal

pub returns-clause-lines : goal.returns-clause-lines
returns-clause-lines c = own_lines_say

pub returns-clause-requests : goal.returns-clause-requests
returns-clause-requests c = own_requests_say
