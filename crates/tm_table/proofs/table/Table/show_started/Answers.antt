use Rattle.commit_protocol.specs.Table.{Prints, Started}
use Rattle.tm_types.specs.Branches.{key_at}
use Rattle.tm_table.proofs.DoingLemmas.{did_by}
use Rattle.tm_table.proofs.table.Table.show_started.Goals as goal

pub returns-clause-done : goal.returns-clause-done
returns-clause-done c = did_by (Prints (Started (key_at c.args.tid.now c.args.serial.now))) c.args.self.now c.push.new.self c.push.ensures.tm c.push.ensures.effects
