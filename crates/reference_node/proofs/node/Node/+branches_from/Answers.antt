use Rattle.std.proofs.Common.{◌∙◌, ◌∷◌, ap, sym}
use Rattle.std.specs.Prelude.{map}
use Rattle.tm_types.specs.Branches.{branch_of}
use Rattle.reference_node.proofs.TableLemmas.{one_left}
use Rattle.reference_node.proofs.node.Node.+branches_from.Goals as goal

pub returns-in_ok-push_front-in-Some-clause-branches : goal.returns-in_ok-push_front-in-Some-clause-branches
returns-in_ok-push_front-in-Some-clause-branches t c =
    ap (map branch_of) (c.in_ok-push_front-in-Some).ensures ∙ (λ i. (ap branch_of c.copy.ensures) i ∷ (c.in_ok-all-in-Some).ensures.branches i)
    ∙ one_left c.args.self.now.table.table c.args.place (branch_of c.in-Some.b.now) (sym c.in-Some.ensures)
