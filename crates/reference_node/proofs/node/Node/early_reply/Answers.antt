use Rattle.std.proofs.Common.{◌∙◌, ap}
use Rattle.world_laws.specs.run_model.Answers.{awaited_reply, known_branch, known_manager}
use Rattle.world_laws.specs.run_model.Operations.{first_of}
use Rattle.tm_types.specs.Parts.{reply_of}
use Rattle.reference_node.proofs.node.Node.early_reply.Goals as goal

pub returns : goal.returns
returns c =
    let heard = c.known-heard.ensures in
    let waits = c.first_of.ensures ∙ (λ i. first_of ((c.known_manager.ensures ∙ ap (known_manager c.args.rm.now) heard) i) ((c.awaited_reply.ensures ∙ ap (awaited_reply c.args.rm.now (reply_of c.args.reply)) heard) i)) in
    let declared = c.first_of-2.ensures ∙ (λ i. first_of (c.declared_manager.ensures i) (waits i)) in
    let branch = c.first_of-3.ensures ∙ (λ i. first_of ((c.known_branch.ensures ∙ ap known_branch heard) i) (declared i)) in
    c.first_of-4.ensures ∙ (λ i. first_of (c.made_name.ensures i) (branch i))
