use Rattle.std.proofs.Common.{◌∙◌, ◌∷◌, ap, sym}
use Rattle.std.specs.Prelude.{map}
use Rattle.commit_protocol.specs.Table.{Branch, Key}
use Rattle.tm_types.specs.Branches.{branch_of}
use Rattle.vms_base.specs.Ids.{id_of}
use Rattle.reference_world.specs.Standing.{branch_key_of}
use Rattle.reference_world.specs.declared.world.BranchKey.{BranchKey}
use Rattle.reference_node.proofs.TableLemmas.{one_left}
use Rattle.reference_node.proofs.node.Node.+keys_from.Goals as goal

pub returns-in_ok-push_front-in-Some-clause-keys : goal.returns-in_ok-push_front-in-Some-clause-keys
returns-in_ok-push_front-in-Some-clause-keys t c =
    ap (map branch_key_of) (c.in_ok-push_front-in-Some).ensures ∙ (λ i. c.key_of.ensures i ∷ (c.in_ok-all-in-Some).ensures.keys i)
    ∙ ap (map (λ (b : Branch). b.key)) (one_left c.args.self.now.table.table c.args.place (branch_of c.in-Some.b.now) (sym c.in-Some.ensures))

pub returns-in_ok-push_front-in-Some-clause-serials : goal.returns-in_ok-push_front-in-Some-clause-serials
returns-in_ok-push_front-in-Some-clause-serials t c =
    ap (map (λ (k : BranchKey). id_of k.serial)) (c.in_ok-push_front-in-Some).ensures ∙ (λ i. (ap (λ (k : Key). k.serial) c.key_of.ensures) i ∷ (c.in_ok-all-in-Some).ensures.serials i)
    ∙ ap (map (λ (b : Branch). b.key.serial)) (one_left c.args.self.now.table.table c.args.place (branch_of c.in-Some.b.now) (sym c.in-Some.ensures))
