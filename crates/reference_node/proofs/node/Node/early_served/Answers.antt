use Rattle.std.proofs.Common.{◌≡◌, ◌∙◌, ap, sym}
use Rattle.std.proofs.lemmas.Result.{IfOk-weaker}
use Rattle.script_lang.specs.script_model.Statements.{Direct}
use Rattle.world_laws.specs.run_model.Answers.{service}
use Rattle.script_lang.specs.Statements.{request_of}
use Rattle.script_lang.specs.declared.statement.Request.{Request}
use Rattle.reference_node.specs.Nodes.{node_of}
use Rattle.reference_branches.specs.Branches.{shared_of}
use Rattle.reference_node.proofs.node.Node.early_served.Goals as goal

pub returns-in-Direct : goal.returns-in-Direct
returns-in-Direct c =
    let s = shared_of c.args.shared.now in
    let n = node_of c.args.self.now in
    IfOk-weaker c.early_direct.result _ _ (λ refusal is. is ∙ ap (λ op. (service (Direct c.in-Direct.file op)).refused_before_reading s n) c.asked_by-in-Direct.ensures
    ∙ sym (ap (λ (r : Request). (service (request_of c.args.lit.now r)).refused_before_reading s n) c.in-Direct.is)) (c.early_direct.ensures s)

pub returns-in_ok-branches-in-Recover : goal.returns-in_ok-branches-in-Recover
returns-in_ok-branches-in-Recover c =
    let s = shared_of c.args.shared.now in
    let n = node_of c.args.self.now in
    IfOk-weaker c.early_recover.result _ _ (λ refusal is. is ∙ sym (ap (λ (r : Request). (service (request_of c.args.lit.now r)).refused_before_reading s n) c.in-Recover.is)) (c.early_recover.ensures s)
