use Rattle.std.proofs.Common.{◌≡◌, sym, ◌∙◌, ap, true, false, None, Some}
use Rattle.std.proofs.lemmas.Slice.Eq.{bytes_eq-Decides}
use Rattle.vms_model.specs.Names.{node_named}
use Rattle.vms_base.specs.Ids.{until_zero}
use Rattle.vms_base.proofs.IdLemmas.{read_again, not_nameless, only_id}
use Rattle.vms_base.proofs.ids.get_id.Goals as goal

pub returns-then-eq : goal.returns-then-eq
returns-then-eq c = only_id _ c.args.bytes.now c.put_id.ensures.id (sym c.put_id.ensures.bytes ∙ (bytes_eq-Decides _ _).0 (sym c.if-eq.ensures))

pub returns-else-eq : goal.returns-else-eq
returns-else-eq c = λ id. (
  (λ e. cc),
  (λ (h, e).
      let b = c.before_zero.ensures ∙ ap until_zero c.as_slice.ensures in
      let n : Some c.in_ok-node.node ≡ node_named (until_zero c.args.bytes.now) = sym c.in_ok-node.was ∙ c.new.ensures ∙ ap node_named b in
      let again = c.put_id.ensures.bytes ∙ read_again id c.args.bytes.now _ _ _ _ h e n c.split_at.ensures.back c.read_u32-boot.ensures c.read_u32-seq.ensures in
      let t = (bytes_eq-Decides _ _).1 again in
      let k : true ≡ false = sym t ∙ sym c.if-eq.ensures in cc),
)

pub returns-in_err-node : goal.returns-in_err-node
returns-in_err-node c =
    let b = c.before_zero.ensures ∙ ap until_zero c.as_slice.ensures in
    let n : node_named (until_zero c.args.bytes.now) ≡ None = sym (c.new.ensures ∙ ap node_named b) ∙ c.in_err-node.was in
    rw c.from_residual.ensures (λ id. ((λ e. cc), (λ (h, e). absurd (not_nameless id c.args.bytes.now h e n))))
