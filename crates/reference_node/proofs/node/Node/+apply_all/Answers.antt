use Rattle.std.proofs.Common.{◌≡◌, ◌+◌, ◌∙◌, ◌∷◌, List, ℕ, ap, sym, subst, suc, length, arith}
use Rattle.std.specs.Prelude.{map}
use Rattle.std.proofs.lemmas.Result.{IfOk-weaker}
use Rattle.commit_protocol.specs.Effects.{Effect}
use Rattle.tm_types.specs.Effects.{effect_of}
use Rattle.vms_base.specs.Ids.{id_of}
use Rattle.reference_world.specs.Standing.{branch_key_of}
use Rattle.reference_world.specs.declared.line.Line.{Line}
use Rattle.reference_index.proofs.ListLemmas.{behind_first, parts}
use Rattle.reference_node.specs.Nodes.{node_of}
use Rattle.reference_branches.specs.Branches.{shared_of}
use Rattle.reference_node.specs.Telling.{AppliesAll, HasTime, MayApply}
use Rattle.reference_node.proofs.TellLemmas.{all_more, all_none, first_time, no_items, on_ok, rest_may, shorter}
use Rattle.reference_node.proofs.node.Node.+apply_all.Goals as goal

pub apply_all-requires : goal.apply_all-requires
apply_all-requires t c =
    let before = map branch_key_of c.args.before.now in
    let tid = id_of c.args.tid.now in
    let s = shared_of c.args.shared.now in
    let n = node_of c.args.self.now in
    let es = map effect_of (behind_first c.args.effects.now) in
    let all : map effect_of c.args.effects.now ≡ effect_of c.first-item.result ∷ es = ap (map effect_of) (parts c.args.effects.now c.first-item.result c.in-len1-up.len_at_least c.first-item.is) in
    let few = shorter c.args.effects.now c.first-item.result c.in-len1-up.len_at_least c.first-item.is in
    let may = subst (λ xs. MayApply before tid xs n) all c.requires.may in
    let more : length c.args.effects.now ≡ length (behind_first c.args.effects.now) + 1 = omega (arith, few) in (
      omega (arith, few, c.decreases),
      (
        rest_may before tid (effect_of c.first-item.result) es s (shared_of c.apply.new.shared) n (node_of c.apply.new.self) (c.in_ok-line-in-len1-up).line may (c.in_ok-line-in-len1-up).ensures,
        first_time before tid (effect_of c.first-item.result) es s (shared_of c.apply.new.shared) n (node_of c.apply.new.self) (c.in_ok-line-in-len1-up).line (length (behind_first c.args.effects.now)) may (c.in_ok-line-in-len1-up).ensures
            (subst (λ k. HasTime k n) more c.requires.time),
      ),
    )

pub returns-in-empty-clause-applies : goal.returns-in-empty-clause-applies
returns-in-empty-clause-applies t c = λ acts tm gives tellable.
    let s = shared_of c.args.shared.now in
    let n = node_of c.args.self.now in
    subst (λ (ls : List Line). AppliesAll acts tm s n ls s n) (sym c.new.ensures.items)
    (all_none (map branch_key_of c.args.before.now) (id_of c.args.tid.now) acts tm s n tellable (gives ∙ ap (map effect_of) (no_items c.args.effects.now c.in-empty.len_below)))

pub returns-in_ok-lines-in-len1-up-clause-applies : goal.returns-in_ok-lines-in-len1-up-clause-applies
returns-in_ok-lines-in-len1-up-clause-applies t c = λ acts tm gives tellable.
    let es = map effect_of (behind_first c.args.effects.now) in
    let all : map effect_of c.args.effects.now ≡ effect_of c.first-item.result ∷ es = ap (map effect_of) (parts c.args.effects.now c.first-item.result c.in-len1-up.len_at_least c.first-item.is) in
    IfOk-weaker c.with_line.result _ _ (λ lines joined. all_more (map branch_key_of c.args.before.now) (id_of c.args.tid.now) acts tm (effect_of c.first-item.result) es (shared_of c.args.shared.now) (shared_of c.apply.new.shared) (shared_of c.apply_all.new.shared)
    (node_of c.args.self.now) (node_of c.apply.new.self) (node_of c.apply_all.new.self) (c.in_ok-line-in-len1-up).line (c.in_ok-lines-in-len1-up).lines.items lines.items tellable (gives ∙ all) joined (c.in_ok-line-in-len1-up).ensures (c.in_ok-lines-in-len1-up).ensures.applies) c.with_line.ensures

pub returns-in_ok-lines-in-len1-up-clause-time : goal.returns-in_ok-lines-in-len1-up-clause-time
returns-in_ok-lines-in-len1-up-clause-time t c = λ count h.
    let before = map branch_key_of c.args.before.now in
    let tid = id_of c.args.tid.now in
    let n = node_of c.args.self.now in
    let es = map effect_of (behind_first c.args.effects.now) in
    let all : map effect_of c.args.effects.now ≡ effect_of c.first-item.result ∷ es = ap (map effect_of) (parts c.args.effects.now c.first-item.result c.in-len1-up.len_at_least c.first-item.is) in
    let few = shorter c.args.effects.now c.first-item.result c.in-len1-up.len_at_least c.first-item.is in
    let may = subst (λ xs. MayApply before tid xs n) all c.requires.may in
    let more : count + length c.args.effects.now ≡ (count + length (behind_first c.args.effects.now)) + 1 = omega (arith, few) in
    on_ok c.with_line.result ((c.in_ok-lines-in-len1-up).ensures.time count
    (first_time before tid (effect_of c.first-item.result) es (shared_of c.args.shared.now) (shared_of c.apply.new.shared) n (node_of c.apply.new.self) (c.in_ok-line-in-len1-up).line (count + length (behind_first c.args.effects.now)) may (c.in_ok-line-in-len1-up).ensures
    (subst (λ k. HasTime k n) more h)))
