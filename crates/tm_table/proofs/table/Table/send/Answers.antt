use Rattle.commit_protocol.specs.Table.{Sends}
use Rattle.net_wire.specs.Messages.{message_of}
use Rattle.tm_table.proofs.DoingLemmas.{did_by}
use Rattle.tm_table.proofs.table.Table.send.Goals as goal

pub returns-clause-done : goal.returns-clause-done
returns-clause-done c = did_by (Sends (message_of c.args.m)) c.args.self.now c.push.new.self c.push.ensures.tm c.push.ensures.effects
