use Rattle.std.proofs.Common.{refl, sym}
use Rattle.commit_protocol.specs.Table.{Notes}
use Rattle.tm_types.specs.Branches.{branch_of}
use Rattle.tm_table.specs.Doing.{IsThere}
use Rattle.tm_table.proofs.DoingLemmas.{did_quietly}
use Rattle.std.proofs.Common.{subst}
use Rattle.commit_protocol.specs.Table.{Tm}
use Rattle.tm_table.proofs.TableLemmas.{there_put}
use Rattle.tm_table.proofs.table.Table.note.Goals as goal

pub returns-clause-done : goal.returns-clause-done
returns-clause-done c = did_quietly (Notes (branch_of c.args.b.now)) c.args.self.now c.put.new.self c.put.ensures.tm c.put.ensures.effects refl

pub returns-clause-there : goal.returns-clause-there
returns-clause-there c =
    let b = branch_of c.args.b.now in
    let P : Tm → Type 0 = λ t. IsThere b.key t.table in
    subst P (sym c.put.ensures.tm) (there_put b c.args.self.now.tm.table)
