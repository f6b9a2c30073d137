use Rattle.node_requests.proofs.RequestKinds.{of_manager}
use Rattle.node_requests.proofs.requests.serve_transaction.Goals as goal

pub serve_manager-requires-clause-manager : goal.serve_manager-requires-clause-manager
serve_manager-requires-clause-manager g c =
    let d = c.in_default in
    of_manager c.args.lit.now c.args.request.now c.requires.transaction (record { start = d.not-StartTrans; add_branch = d.not-AddBranch; start_branch = d.not-StartBranch; end_branch = d.not-EndBranch; end = d.not-EndTrans; abort = d.not-AbortTrans; inquire = d.not-Inquire })
