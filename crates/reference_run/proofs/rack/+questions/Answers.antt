use Rattle.std.proofs.Common.{◌-◌, ap, ◌∙◌, map, length, take, drop}
use Rattle.std.proofs.lemmas.Result.{IfOk-weaker}
use Rattle.vms_base.specs.Ids.{id_of}
use Rattle.reference_tasks.specs.reference_node.Nodes.{node_of}
use Rattle.reference_run.specs.Served.{part_of}
use Rattle.reference_run.proofs.RackLemmas.{parted}
use Rattle.reference_run.proofs.StatementLemmas.{all_asked}
use Rattle.reference_run.proofs.rack.+questions.Goals as goal

pub returns-in_ok-serials-in-len1-up-clause-parts : goal.returns-in_ok-serials-in-len1-up-clause-parts
returns-in_ok-serials-in-len1-up-clause-parts t c =
    let rest = take (length c.args.nodes.now - 1) (drop 1 c.args.nodes.now) in
    let eq = all_asked (node_of c.n-item.result) (map node_of c.args.nodes.now) (map node_of rest) (map id_of c.as_slice.result.now) (map part_of (c.in_ok-others-in-len1-up).others.items)
    (ap (map node_of) (parted c.args.nodes.now c.n-item.result c.in-len1-up.len_at_least c.n-item.is)) (ap (map id_of) c.as_slice.ensures.value ∙ (c.in_ok-serials-in-len1-up).ensures.serials) (c.in_ok-others-in-len1-up).ensures.parts in
    IfOk-weaker c.questions_at.result _ _ (λ v e. e ∙ eq) c.questions_at.ensures.parts
