use Rattle.std.proofs.Common.{◌∙◌, Some, ap}
use Rattle.vms_base.specs.Ids.{id_of}
use Rattle.tm_types.specs.declared.branch.BranchState.{BranchState}
use Rattle.tm_types.specs.Branches.{branch_of}
use Rattle.reference_node.proofs.TableLemmas.{found_by_serial}
use Rattle.reference_node.proofs.node.Node.branch_of.Goals as goal

pub returns-in_Some-b : goal.returns-in_Some-b
returns-in_Some-b c = ap (λ (b : BranchState). Some (branch_of b)) c.copy.ensures ∙ c.in_Some-b.ensures ∙ found_by_serial (id_of c.args.serial.now) c.args.self.now.table.table

pub returns-in_None-b : goal.returns-in_None-b
returns-in_None-b c = c.in_None-b.ensures ∙ found_by_serial (id_of c.args.serial.now) c.args.self.now.table.table
