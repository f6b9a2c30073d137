use Rattle.std.proofs.Common.{arith}
use Rattle.std.proofs.lemmas.Result.{IfOk-weaker}
use Rattle.tm_types.specs.Branches.{branch_of}
use Rattle.vms_base.specs.Ids.{id_of}
use Rattle.reference_branches.proofs.DoubtLemmas.{doubts_few}
use Rattle.reference_node.proofs.node.Node.in_doubt.Goals as goal

pub returns-clause-few : goal.returns-clause-few
returns-clause-few c = IfOk-weaker c.prepared_serials.result _ _ (λ v e. doubts_few id_of branch_of _ c.in_ok-branches.branches.items c.in_ok-all.all.items c.as_slice-2.result.now v.items e c.as_slice-2.ensures.value c.in_ok-all.ensures (omega (arith, c.in_ok-branches.ensures.few))) c.prepared_serials.ensures
