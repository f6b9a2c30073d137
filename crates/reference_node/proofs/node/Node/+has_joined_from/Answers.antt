use Rattle.std.proofs.Common.{◌∙◌, ◌+◌, ◌||◌, Bool, ap, sym, drop}
use Rattle.std.specs.List.{list_any}
use Rattle.world_laws.specs.run_model.Answers.{has_joined}
use Rattle.tm_types.specs.Branches.{branch_of}
use Rattle.reference_node.proofs.TableLemmas.{any_left}
use Rattle.reference_node.proofs.node.Node.+has_joined_from.Goals as goal

pub returns-then-has_joined : goal.returns-then-has_joined
returns-then-has_joined t c =
    let bs = c.args.self.now.table.table in
    let joins = has_joined c.args.rm.now in
    c.if-has_joined.true ∙ sym (ap (λ (b : Bool). b || list_any joins (drop (c.args.place + 1) bs)) (sym c.has_joined.ensures ∙ c.if-has_joined.true))
    ∙ any_left joins bs c.args.place (branch_of c.in-Some.b.now) (sym c.in-Some.ensures)

pub returns-else-has_joined : goal.returns-else-has_joined
returns-else-has_joined t c =
    let bs = c.args.self.now.table.table in
    let joins = has_joined c.args.rm.now in
    c.has_joined_from.ensures ∙ sym (ap (λ (b : Bool). b || list_any joins (drop (c.args.place + 1) bs)) (sym c.has_joined.ensures ∙ c.if-has_joined.false))
    ∙ any_left joins bs c.args.place (branch_of c.in-Some.b.now) (sym c.in-Some.ensures)
