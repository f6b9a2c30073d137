use Rattle.std.proofs.Common.{◌+◌, arith}
use Rattle.reference_index.specs.run_model.Answers.{service}
use Rattle.script_lang.specs.Statements.{request_of}
use Rattle.reference_branches.specs.Branches.{shared_of}
use Rattle.reference_node.specs.Nodes.{node_of}
use Rattle.reference_tasks.proofs.ServeLemmas.{ready_can, ready_kept}
use Rattle.reference_node.proofs.TellLemmas.{on_ok, less_time}
use Rattle.reference_tasks.proofs.UnitsLemmas.{time_ready, units_ready}
use Rattle.reference_tasks.proofs.serving.serve_allowed.Goals as goal

pub late-requires-clause-drawn : goal.late-requires-clause-drawn
late-requires-clause-drawn c = (units_ready 1 (service (request_of c.args.lit.now c.args.request.now)) (node_of c.args.node.now) (node_of c.ready.new.node) (c.in_ok-ready.ensures c.args.lit.now) c.requires.units).drawn

pub act-requires-clause-kept : goal.act-requires-clause-kept
act-requires-clause-kept c = λ clean. ready_kept (service (request_of c.args.lit.now c.args.request.now)) (node_of c.args.node.now) (node_of c.ready.new.node) (c.in_ok-ready.ensures c.args.lit.now) c.requires.kept.disk clean

pub act-requires-clause-can : goal.act-requires-clause-can
act-requires-clause-can c =
    ready_can (shared_of c.args.shared.now) (service (request_of c.args.lit.now c.args.request.now)) (node_of c.args.node.now) (node_of c.ready.new.node) (c.in_ok-ready.ensures c.args.lit.now) c.requires.kept c.requires.units

pub returns-in-Some-clause-time : goal.returns-in-Some-clause-time
returns-in-Some-clause-time c = λ t count h.
    let n = node_of c.args.node.now in
    on_ok c.one.result (time_ready count (service (request_of c.args.lit.now c.args.request.now)) n (node_of c.ready.new.node) (c.in_ok-ready.ensures c.args.lit.now) (less_time (count + 2048) count n (omega arith) h))

pub returns-clause-time : goal.returns-clause-time
returns-clause-time c = λ t count h.
    c.in_ok-lines.ensures.time t count (time_ready (count + 2048) (service (request_of c.args.lit.now c.args.request.now)) (node_of c.args.node.now) (node_of c.ready.new.node) (c.in_ok-ready.ensures c.args.lit.now) h)
