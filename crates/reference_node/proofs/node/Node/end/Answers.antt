use Rattle.std.proofs.Common.{◌≡◌, ◌∙◌, ◌∷◌, ◌++◌, [], List, Option, Some, None, ap, sym}
use Rattle.std.specs.Prelude.{map}
use Rattle.std.proofs.lemmas.List.{map-append}
use Rattle.world_laws.specs.transcript_model.Lines as model
use Rattle.commit_protocol.specs.Rows.{EndTrans, joined, row}
use Rattle.commit_protocol.specs.Table.{Branch}
use Rattle.world_laws.specs.run_model.Answers.{Row, branch_labelled, end_answer, just, missing, service, table_rows, told_rows}
use Rattle.world_laws.specs.run_model.Steps.{lines_of_rows, node_after_rows, shared_after_rows}
use Rattle.world_laws.specs.run_model.World.{tm_of}
use Rattle.tm_types.specs.Branches.{branch_of}
use Rattle.reference_world.specs.Standing.{line_of}
use Rattle.reference_node.specs.Nodes.{node_of}
use Rattle.reference_branches.specs.Branches.{shared_of}
use Rattle.reference_branches.specs.Lines.{answer_else, answer_shown}
use Rattle.reference_node.proofs.StateLemmas.{first_found, may_end_trans}
use Rattle.reference_node.proofs.TransactionLemmas.{end_answered}
use Rattle.reference_node.proofs.node.Node.end.Goals as goal

pub tell-requires-clause-allowed : goal.tell-requires-clause-allowed
tell-requires-clause-allowed c = may_end_trans (shared_of c.args.shared.now) (node_of c.args.self.now) c.args.label.now (branch_of c.in-Some.b) c.in-Some.ensures c.requires.state

pub returns-clause-does : goal.returns-clause-does
returns-clause-does c =
    let s = shared_of c.args.shared.now in
    let n = node_of c.args.self.now in
    let b = branch_of c.in-Some.b in
    let told = c.in_ok-lines.ensures.tells in
    let f = first_found s n c.args.label.now b c.in-Some.ensures c.requires.state in
    let rows = table_rows (row (tm_of n) (EndTrans b.key.tid)) s n in
    let are : (elim (branch_labelled s n c.args.label.now) as (λ _. List Row) [ Some x ↦ told_rows s n (just (EndTrans x.key.tid)) | None ↦ [] ]) ≡ rows =
    ap (λ (o : Option Branch). elim o as (λ _. List Row) [ Some x ↦ told_rows s n (just (EndTrans x.key.tid)) | None ↦ [] ]) (sym c.in-Some.ensures) in
    let answered : (elim (branch_labelled s n c.args.label.now) as (λ _. model.Line) [ Some x ↦ end_answer (row (tm_of n) (EndTrans x.key.tid)) model.Normal | None ↦ model.Normal ]) ≡ end_answer (row (tm_of n) (EndTrans b.key.tid)) model.Normal =
    ap (λ (o : Option Branch). elim o as (λ _. model.Line) [ Some x ↦ end_answer (row (tm_of n) (EndTrans x.key.tid)) model.Normal | None ↦ model.Normal ]) (sym c.in-Some.ensures) in
    let answer : line_of c.in_ok-answer.answer ≡ end_answer (row (tm_of n) (EndTrans b.key.tid)) model.Normal =
    c.in_ok-answer.ensures ∙ ap (λ ls. answer_else (answer_shown (map line_of ls)) (model.Pending (missing b.accepted) (joined b.managers))) c.as_slice.ensures.value
    ∙ ap (λ ls. answer_else (answer_shown ls) (model.Pending (missing b.accepted) (joined b.managers))) told.shows ∙ end_answered s n b f.0 f.1 in
    record {
      shows = ap (map line_of) c.in_ok-push_back.ensures ∙ map-append line_of c.in_ok-lines.lines.items (c.in_ok-answer.answer ∷ []) ∙ (λ i. told.shows i ++ answer i ∷ []) ∙ sym (λ i. lines_of_rows (are i) ++ answered i ∷ []);
      node = told.node ∙ sym (ap (λ rs. node_after_rows rs n) are);
      shared = told.shared ∙ sym (ap (λ rs. shared_after_rows rs s) are);
    }
