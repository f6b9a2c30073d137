use Rattle.std.proofs.Common.{◌≡◌, None, false, subst}
use Rattle.log_laws.specs.commit_protocol.Allowed.{may_end}
use Rattle.reference_index.specs.run_model.Answers.{authorised, branch_labelled, branch_named, in_state, is_first_active, is_in_doubt, is_open, made_label, made_name, new_label, of_label, service, unsettled, unsettled_label}
use Rattle.reference_index.specs.run_model.Operations.{first_of}
use Rattle.script_lang.specs.Statements.{named_of, request_of}
use Rattle.script_lang.specs.declared.statement.Request.{Request}
use Rattle.reference_node.specs.Nodes.{node_of}
use Rattle.reference_branches.specs.Branches.{shared_of}
use Rattle.reference_node.proofs.ManagerLemmas.{none_first}
use Rattle.reference_tasks.proofs.serving.act_on_branches.Goals as goal

pub start-requires-clause-room : goal.start-requires-clause-room
start-requires-clause-room c = subst (λ (r : Request). (service (request_of c.args.lit.now r)).refused_after_reading (shared_of c.args.shared.now) (node_of c.args.node.now) ≡ None) c.in-StartTrans.is c.requires.late

pub add_branch-requires-clause-state : goal.add_branch-requires-clause-state
add_branch-requires-clause-state c =
    let s = shared_of c.args.shared.now in
    let n = node_of c.args.node.now in
    let l = c.in-AddBranch.label in
    let e = subst (λ (r : Request). (service (request_of c.args.lit.now r)).refused_before_reading s n ≡ None) c.in-AddBranch.is c.requires.early in
    (none_first (unsettled_label s n l) (in_state is_first_active (branch_labelled s n l))
    (none_first (new_label s c.in-AddBranch.new) (first_of (unsettled_label s n l) (in_state is_first_active (branch_labelled s n l)))
    (none_first (made_label s n l) (first_of (new_label s c.in-AddBranch.new) (first_of (unsettled_label s n l) (in_state is_first_active (branch_labelled s n l)))) e).1).1).1

pub add_branch-requires-clause-bids : goal.add_branch-requires-clause-bids
add_branch-requires-clause-bids c = subst (λ (r : Request). (service (request_of c.args.lit.now r)).refused_after_reading (shared_of c.args.shared.now) (node_of c.args.node.now) ≡ None) c.in-AddBranch.is c.requires.late

pub add_branch-requires-clause-there : goal.add_branch-requires-clause-there
add_branch-requires-clause-there c =
    let s = shared_of c.args.shared.now in
    let n = node_of c.args.node.now in
    let l = c.in-AddBranch.label in
    let e = subst (λ (r : Request). (service (request_of c.args.lit.now r)).refused_before_reading s n ≡ None) c.in-AddBranch.is c.requires.early in
    (none_first (unsettled_label s n l) (in_state is_first_active (branch_labelled s n l))
    (none_first (new_label s c.in-AddBranch.new) (first_of (unsettled_label s n l) (in_state is_first_active (branch_labelled s n l)))
    (none_first (made_label s n l) (first_of (new_label s c.in-AddBranch.new) (first_of (unsettled_label s n l) (in_state is_first_active (branch_labelled s n l)))) e).1).1).0

pub start_branch-requires-clause-room : goal.start_branch-requires-clause-room
start_branch-requires-clause-room c = subst (λ (r : Request). (service (request_of c.args.lit.now r)).refused_after_reading (shared_of c.args.shared.now) (node_of c.args.node.now) ≡ None) c.in-StartBranch.is c.requires.late

pub start_branch-requires-clause-made : goal.start_branch-requires-clause-made
start_branch-requires-clause-made c =
    let s = shared_of c.args.shared.now in
    let n = node_of c.args.node.now in
    let l = c.in-StartBranch.label in
    let e = subst (λ (r : Request). (service (request_of c.args.lit.now r)).refused_before_reading s n ≡ None) c.in-StartBranch.is c.requires.early in
    (none_first (made_label s n l) (first_of (of_label s n l authorised) (in_state (λ b. false) (branch_labelled s n l))) e).0

pub start_branch-requires-clause-authorised : goal.start_branch-requires-clause-authorised
start_branch-requires-clause-authorised c =
    let s = shared_of c.args.shared.now in
    let n = node_of c.args.node.now in
    let l = c.in-StartBranch.label in
    let e = subst (λ (r : Request). (service (request_of c.args.lit.now r)).refused_before_reading s n ≡ None) c.in-StartBranch.is c.requires.early in
    (none_first (of_label s n l authorised) (in_state (λ b. false) (branch_labelled s n l)) (none_first (made_label s n l) (first_of (of_label s n l authorised) (in_state (λ b. false) (branch_labelled s n l))) e).1).0

pub end_branch-requires-clause-state : goal.end_branch-requires-clause-state
end_branch-requires-clause-state c =
    let s = shared_of c.args.shared.now in
    let n = node_of c.args.node.now in
    let l = c.in-EndBranch.label in
    let e = subst (λ (r : Request). (service (request_of c.args.lit.now r)).refused_before_reading s n ≡ None) c.in-EndBranch.is c.requires.early in
    (none_first (unsettled_label s n l) (in_state may_end (branch_labelled s n l)) (none_first (made_label s n l) (first_of (unsettled_label s n l) (in_state may_end (branch_labelled s n l))) e).1).1

pub end-requires-clause-state : goal.end-requires-clause-state
end-requires-clause-state c =
    let s = shared_of c.args.shared.now in
    let n = node_of c.args.node.now in
    let l = c.in-EndTrans.label in
    let e = subst (λ (r : Request). (service (request_of c.args.lit.now r)).refused_before_reading s n ≡ None) c.in-EndTrans.is c.requires.early in
    (none_first (unsettled_label s n l) (in_state is_first_active (branch_labelled s n l)) (none_first (made_label s n l) (first_of (unsettled_label s n l) (in_state is_first_active (branch_labelled s n l))) e).1).1

pub abort-requires-clause-state : goal.abort-requires-clause-state
abort-requires-clause-state c =
    let s = shared_of c.args.shared.now in
    let n = node_of c.args.node.now in
    let l = c.in-AbortTrans.label in
    let e = subst (λ (r : Request). (service (request_of c.args.lit.now r)).refused_before_reading s n ≡ None) c.in-AbortTrans.is c.requires.early in
    (none_first (unsettled_label s n l) (in_state is_open (branch_labelled s n l)) (none_first (made_label s n l) (first_of (unsettled_label s n l) (in_state is_open (branch_labelled s n l))) e).1).1

pub inquire-requires-clause-state : goal.inquire-requires-clause-state
inquire-requires-clause-state c =
    let s = shared_of c.args.shared.now in
    let n = node_of c.args.node.now in
    let w = named_of c.in-Inquire.who in
    let e = subst (λ (r : Request). (service (request_of c.args.lit.now r)).refused_before_reading s n ≡ None) c.in-Inquire.is c.requires.early in
    (none_first (unsettled (branch_named s n w)) (in_state is_in_doubt (branch_named s n w)) (none_first (made_name s n w) (first_of (unsettled (branch_named s n w)) (in_state is_in_doubt (branch_named s n w))) e).1).1

pub join-requires-clause-early : goal.join-requires-clause-early
join-requires-clause-early c = subst (λ (r : Request). (service (request_of c.args.lit.now r)).refused_before_reading (shared_of c.args.shared.now) (node_of c.args.node.now) ≡ None) c.in-JoinRm.is c.requires.early

pub reply-requires-clause-early : goal.reply-requires-clause-early
reply-requires-clause-early c = subst (λ (r : Request). (service (request_of c.args.lit.now r)).refused_before_reading (shared_of c.args.shared.now) (node_of c.args.node.now) ≡ None) c.in-AckEvent.is c.requires.early

pub join-requires-clause-late : goal.join-requires-clause-late
join-requires-clause-late c = subst (λ (r : Request). (service (request_of c.args.lit.now r)).refused_after_reading (shared_of c.args.shared.now) (node_of c.args.node.now) ≡ None) c.in-JoinRm.is c.requires.late
