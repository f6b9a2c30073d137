use Rattle.std.proofs.Common.{◌∙◌, ap}
use Rattle.world_laws.specs.run_model.Answers.{Recorded, Unsettled}
use Rattle.vms_base.specs.Ids.{id_of}
use Rattle.vms_base.specs.declared.protocol.LogRec.{LogRec}
use Rattle.tm_types.specs.declared.branch.BranchState.{BranchState}
use Rattle.tm_types.specs.Branches.{branch_of}
use Rattle.tm_types.specs.Parts.{log_record_of}
use Rattle.reference_node.specs.Nodes.{node_of}
use Rattle.reference_node.proofs.ManagerLemmas.{knows_branch, knows_nothing, knows_record}
use Rattle.reference_node.proofs.node.Node.known_serial.Goals as goal

pub returns-in_Some-b : goal.returns-in_Some-b
returns-in_Some-b c = ap (λ (b : BranchState). Unsettled (branch_of b)) c.copy.ensures ∙ knows_branch (node_of c.args.self.now) (id_of c.args.serial.now) (branch_of c.in_Some-b.b.now) c.in_Some-b.ensures

pub returns-in-Some : goal.returns-in-Some
returns-in-Some c = ap (λ (r : LogRec). Recorded (log_record_of r)) c.copy-in-Some.ensures ∙ knows_record (node_of c.args.self.now) (id_of c.args.serial.now) (log_record_of c.in-Some.r.now) c.in_None-b.ensures c.in-Some.ensures

pub returns-in-None : goal.returns-in-None
returns-in-None c = knows_nothing (node_of c.args.self.now) (id_of c.args.serial.now) c.in_None-b.ensures c.in-None.ensures
