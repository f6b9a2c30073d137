use Rattle.std.proofs.Common.{◌≡◌, ◌∙◌, ap, sym}
use Rattle.std.specs.Prelude.{map}
use Rattle.commit_protocol.specs.Effects.{effects_of}
use Rattle.commit_protocol.specs.Messages.{Inquire, Message}
use Rattle.commit_protocol.specs.Rows.{Got, row, up}
use Rattle.commit_protocol.specs.Table.{Tm, after, find, first}
use Rattle.world_laws.specs.run_model.Statements.{answer_in}
use Rattle.tm_types.specs.Effects.{effect_of}
use Rattle.reference_world.specs.Standing.{branch_key_of}
use Rattle.reference_node.specs.Nodes.{node_of}
use Rattle.reference_branches.specs.Branches.{sent_alone}
use Rattle.reference_branches.proofs.DoubtLemmas.{answered, unchanged}
use Rattle.reference_node.proofs.KeyLemmas.{row_as}
use Rattle.reference_node.proofs.node.Node.answer_to.Goals as goal

pub returns-clause-answer : goal.returns-clause-answer
returns-clause-answer c =
    let k = branch_key_of c.args.branch.now in
    let table = c.args.self.now.table in
    c.sent_alone.ensures ∙ ap (λ es. sent_alone (map effect_of es)) c.items.ensures.value ∙ ap sent_alone c.step.ensures.effects ∙
    ap (λ (m : Message). sent_alone (effects_of (row table (Got m)) table.records)) c.question.ensures ∙
    answered (up Inquire k) (find (first k.tid) table.table) table.records table.records ∙ ap answer_in (sym (row_as c.args.self.now.name table (Got (up Inquire k))))

pub returns-clause-node : goal.returns-clause-node
returns-clause-node c =
    let k = branch_key_of c.args.branch.now in
    let table = c.args.self.now.table in
    ap (λ (x : Tm). node_of (record c.args.self.now { table = x })) (c.step.ensures.table ∙ ap (λ (m : Message). after (row table (Got m)) table) c.question.ensures ∙ unchanged (up Inquire k) (find (first k.tid) table.table) table.records table)
