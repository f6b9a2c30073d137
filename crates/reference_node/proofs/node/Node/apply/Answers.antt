use Rattle.std.proofs.Common.{◌≡◌, ◌∙◌, ◌∷◌, [], List, ap, refl}
use Rattle.std.specs.Prelude.{map}
use Rattle.commit_protocol.specs.Effects.{Effect as EffectSaid, act_effects}
use Rattle.world_laws.specs.run_model.World.{Shared}
use Rattle.tm_types.specs.Effects.{effect_of}
use Rattle.tm_types.specs.declared.effects.Effect.{Effect}
use Rattle.vms_base.specs.Ids.{id_of}
use Rattle.reference_world.specs.Standing.{branch_key_of}
use Rattle.reference_node.specs.Nodes.{node_of}
use Rattle.reference_branches.specs.Branches.{shared_of}
use Rattle.reference_node.proofs.ArmLemmas.{prepare_applies, settle_applies, leave_applies, keep_applies, forget_applies, send_applies, tell_applies, join_applies, start_applies, end_applies}
use Rattle.reference_node.proofs.node.Node.apply.Goals as goal

gives_so : (e x : Effect) (es : List EffectSaid) → es ≡ effect_of e ∷ [] → e ≡ x → es ≡ effect_of x ∷ []
gives_so e x es gives is = gives ∙ ap (λ y. effect_of y ∷ []) is

pub returns-in_ok-prepare-in-Prepare : goal.returns-in_ok-prepare-in-Prepare
returns-in_ok-prepare-in-Prepare c = λ a rs gives tellable. prepare_applies (map branch_key_of c.args.before.now) (id_of c.args.tid.now) _ _ a rs (shared_of c.args.shared.now) (node_of c.args.self.now) _ _ _
    (gives_so c.args.effect.now _ (act_effects a rs) gives c.in-Prepare.is) tellable c.branch_among-branch.ensures (c.in_ok-prepare-in-Prepare).ensures.node (c.in_ok-prepare-in-Prepare).ensures.line

pub returns-in_ok-settle_branch-in-Settle : goal.returns-in_ok-settle_branch-in-Settle
returns-in_ok-settle_branch-in-Settle c = λ a rs gives tellable. settle_applies (map branch_key_of c.args.before.now) (id_of c.args.tid.now) _ _ _ _ _ _ a rs (shared_of c.args.shared.now) (node_of c.args.self.now) _ _ _
    (gives_so c.args.effect.now _ (act_effects a rs) gives c.in-Settle.is) tellable c.branch_among-branch-in-Settle.ensures c.reason_for-why.ensures.outcome c.reason_for-why.ensures.reason (c.in_ok-settle_branch-in-Settle).ensures.node (c.in_ok-settle_branch-in-Settle).ensures.line

pub returns-in_ok-leave-in-ReadOnly : goal.returns-in_ok-leave-in-ReadOnly
returns-in_ok-leave-in-ReadOnly c = λ a rs gives tellable. leave_applies (map branch_key_of c.args.before.now) (id_of c.args.tid.now) _ a rs (shared_of c.args.shared.now) _ (node_of c.args.self.now) _ _ _
    (gives_so c.args.effect.now _ (act_effects a rs) gives c.in-ReadOnly.is) tellable c.branch_among-branch-in-ReadOnly.ensures (c.in_ok-leave-in-ReadOnly).ensures.node (c.in_ok-leave-in-ReadOnly).ensures.shared (c.in_ok-leave-in-ReadOnly).ensures.line

pub returns-in_ok-keep-in-Keep : goal.returns-in_ok-keep-in-Keep
returns-in_ok-keep-in-Keep c = λ a rs gives tellable. keep_applies (map branch_key_of c.args.before.now) (id_of c.args.tid.now) _ a rs (shared_of c.args.shared.now) (node_of c.args.self.now) _
    (gives_so c.args.effect.now _ (act_effects a rs) gives c.in-Keep.is) (c.in_ok-keep-in-Keep).ensures

pub returns-in_ok-forget-in-Forget : goal.returns-in_ok-forget-in-Forget
returns-in_ok-forget-in-Forget c = λ a rs gives tellable. forget_applies (map branch_key_of c.args.before.now) (id_of c.args.tid.now) _ a rs (shared_of c.args.shared.now) (node_of c.args.self.now) _ _
    (gives_so c.args.effect.now _ (act_effects a rs) gives c.in-Forget.is) tellable (c.in_ok-forget-in-Forget).ensures.node (c.in_ok-forget-in-Forget).ensures.line

pub returns-in_ok-send-in-Send : goal.returns-in_ok-send-in-Send
returns-in_ok-send-in-Send c = λ a rs gives tellable. send_applies _ a rs (shared_of c.args.shared.now) _ (node_of c.args.self.now) _ (gives_so c.args.effect.now _ (act_effects a rs) gives c.in-Send.is) (c.in_ok-send-in-Send).ensures.wire (c.in_ok-send-in-Send).ensures.line

pub returns-in-Tell : goal.returns-in-Tell
returns-in-Tell c = λ a rs gives tellable. tell_applies _ _ _ _ a rs (shared_of c.args.shared.now) (node_of c.args.self.now) _ _ (gives_so c.args.effect.now _ (act_effects a rs) gives c.in-Tell.is) c.branch_in.ensures c.event_told.ensures

pub returns-in_ok-push_front-in-Joined : goal.returns-in_ok-push_front-in-Joined
returns-in_ok-push_front-in-Joined c = λ a rs gives tellable.
    let s = shared_of c.args.shared.now in
    join_applies (map branch_key_of c.args.before.now) (id_of c.args.tid.now) _ a rs s _ (node_of c.args.self.now) (branch_key_of c.branch_in-branch.result) _
    (gives_so c.args.effect.now _ (act_effects a rs) gives c.in-Joined.is) tellable c.branch_in-branch.ensures (ap (λ xs. (let t : Shared = record s { accepted = map branch_key_of xs } in t)) (c.in_ok-push_front-in-Joined).ensures) refl

pub returns-in-Started : goal.returns-in-Started
returns-in-Started c = λ a rs gives tellable. start_applies (map branch_key_of c.args.before.now) (id_of c.args.tid.now) _ a rs (shared_of c.args.shared.now) (node_of c.args.self.now) _ _
    (gives_so c.args.effect.now _ (act_effects a rs) gives c.in-Started.is) tellable c.branch_in-in-Started.ensures refl

pub returns-in-Ended : goal.returns-in-Ended
returns-in-Ended c = λ a rs gives tellable. end_applies _ _ a rs (shared_of c.args.shared.now) (node_of c.args.self.now) _ (gives_so c.args.effect.now _ (act_effects a rs) gives c.in-Ended.is) refl
