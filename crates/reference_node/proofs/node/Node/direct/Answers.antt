use Rattle.std.proofs.Common.{◌≡◌, ◌∙◌, ◌∷◌, true, false, None, sym, ap, arith, length}
use Rattle.std.specs.Prelude.{map, ◌==◌, vec_len}
use Rattle.std.proofs.lemmas.List.{length-map}
use Rattle.vms_model.specs.Transactions.{Commit}
use Rattle.world_laws.specs.transcript_model.Lines as model
use Rattle.commit_protocol.specs.Table.{first}
use Rattle.world_laws.specs.run_model.Answers.{commit_settlement}
use Rattle.world_laws.specs.run_model.World.{next_id, next_moment}
use Rattle.reference_index.specs.Standing.{change_of, changes_of}
use Rattle.reference_world.specs.Standing.{branch_key_of, settlement_of, line_of}
use Rattle.reference_records.specs.Operations.{asked_of}
use Rattle.reference_node.specs.Nodes.{node_of}
use Rattle.reference_node.proofs.ActLemmas.{directs}
use Rattle.reference_node.proofs.node.Node.direct.Goals as goal

pub returns : goal.returns
returns c = λ s.
    let n = node_of c.args.self.now in
    let told = c.in_ok-told.told in
    let len : length told.changes.items ≡ vec_len told.changes = omega (arith, told.changes.ok.0) in
    let some : (length (changes_of told.changes.items) == 0) ≡ false = ap (λ k. k == 0) (length-map told.changes.items change_of ∙ len) ∙ sym c.is_empty.ensures ∙ c.if-is_empty.false in
    let k : branch_key_of c.alone-branch.result ≡ first (next_id n) = c.alone-branch.ensures ∙ ap first c.next_id-id.ensures in
    let moment = c.next_settlement-s.ensures.moment in
    let settles : settlement_of c.next_settlement-s.result ≡ commit_settlement n (next_id n) (next_id n) =
    c.next_settlement-s.ensures.settlement ∙ (λ i. record { tid = (k i).tid; serial = (k i).serial; outcome = Commit; reason = None; moment = next_moment n }) in
    directs s n (node_of c.change_directly.new.self) c.args.name.now (asked_of c.args.asked) (changes_of told.changes.items) (settlement_of c.next_settlement-s.result) (line_of told.line) c.in_ok-all.all.items
    some c.in_ok-told.ensures.changes settles c.in_ok-told.ensures.line
    (c.in_ok-all.ensures ∙ (λ i. model.Committed (k i).tid (k i).serial (moment i) ∷ c.in_ok-lines.ensures i)) c.in_ok-change_directly.ensures
