use Rattle.std.proofs.Common.{◌≡◌, ◌∙◌, true, Option, Some, ap}
use Rattle.commit_protocol.specs.Table.{Branch, Tm}
use Rattle.commit_protocol.specs.Allowed.{is_working, there_is}
use Rattle.tm_types.specs.Branches.{branch_of}
use Rattle.reference_node.specs.Nodes.{node_of, volatile_of}
use Rattle.reference_node.proofs.TableLemmas.{found_by_serial, noted_table}
use Rattle.reference_node.proofs.node.Node.note_change.Goals as goal

pub step-requires : goal.step-requires
step-requires c = record {
  allowed = ap (λ (o : Option Branch). there_is o is_working) (found_by_serial (branch_of c.args.b.now).key.serial c.args.self.now.table.table ∙ c.requires.there) ∙ c.requires.working;
}

pub returns : goal.returns
returns c =
    ap (λ (tm : Tm). record (node_of c.args.self.now) { volatile = record (volatile_of c.args.self.now) { branches = tm.table; records = tm.records } })
    (c.step.ensures.table ∙ noted_table c.args.self.now.table (branch_of c.args.b.now) c.requires.there c.requires.working)
