use Rattle.std.proofs.Common.{refl}
use Rattle.commit_protocol.specs.Table.{Notes}
use Rattle.tm_types.specs.Branches.{branch_of}
use Rattle.tm_table.proofs.DoingLemmas.{did_quietly}
use Rattle.tm_table.proofs.table.Table.begin.Goals as goal

pub returns-clause-done : goal.returns-clause-done
returns-clause-done c = did_quietly (Notes (branch_of c.args.b)) c.args.self.now c.add.new.self c.add.ensures.tm c.add.ensures.effects refl
