use Rattle.commit_protocol.specs.Table.{Prints, Told}
use Rattle.tm_types.specs.Branches.{key_at}
use Rattle.tm_types.specs.Parts.{rm_event_of}
use Rattle.tm_table.proofs.DoingLemmas.{did_by}
use Rattle.tm_table.proofs.table.Table.tell.Goals as goal

pub returns-clause-done : goal.returns-clause-done
returns-clause-done c = did_by (Prints (Told (rm_event_of c.args.event) (key_at c.args.tid.now c.args.serial.now) c.args.rm)) c.args.self.now c.push.new.self c.push.ensures.tm c.push.ensures.effects
