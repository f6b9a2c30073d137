use Rattle.std.proofs.Common.{◌+◌, arith}
use Rattle.reference_node.specs.Nodes.{node_of}
use Rattle.reference_branches.specs.Branches.{shared_of}
use Rattle.reference_tasks.proofs.ServedUnits.{served_result}
use Rattle.reference_node.proofs.TellLemmas.{on_ok}
use Rattle.reference_tasks.proofs.UnitsLemmas.{less_units}
use Rattle.reference_tasks.proofs.serving.serve.Goals as goal

pub returns-in-Some-clause-units : goal.returns-in-Some-clause-units
returns-in-Some-clause-units c = λ units early h. on_ok c.one.result (less_units (units + 64) units (node_of c.args.node.now) (omega arith) h)

pub returns-clause-units : goal.returns-clause-units
returns-clause-units c = λ units early h.
    let r = c.serve_allowed in
    served_result (λ v. v.items) units c.args.lit.now c.args.request.now (shared_of c.args.shared.now) (shared_of r.new.shared) (node_of c.args.node.now) (node_of r.new.node) r.result r.ensures.serves early r.ensures.time h
