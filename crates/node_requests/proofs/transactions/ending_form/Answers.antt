use Rattle.std.proofs.Common.{Some, ap, sym, ◌∙◌}
use Rattle.vms_base.specs.Ids.{tid_of}
use Rattle.vms_base.specs.Outcomes.{outcome_of, reason_of}
use Rattle.vms_base.specs.declared.outcomes.Outcome.{Outcome}
use Rattle.tm_types.specs.Effects.{effect_of}
use Rattle.node_requests.specs.Transacting.{ending_line}
use Rattle.node_requests.proofs.EndAnswers.{ending_at, ending_on}
use Rattle.node_requests.proofs.EndLoops.{settles_none, settles_other, settles_own}
use Rattle.node_requests.proofs.transactions.ending_form.Goals.{in-Settle+else-same_id, in_default}
use Rattle.node_requests.proofs.transactions.ending_form.Goals as goal

pub returns-in-Commit-clause-line : goal.returns-in-Commit-clause-line
returns-in-Commit-clause-line c =
    let s = c.in-Settle in
    let found = settles_own (tid_of c.args.tid.now) c.effect-item.result s.serial s.outcome s.reason s.rec s.is (sym c.same_id.ensures ∙ c.if-same_id.true) in
    sym (ending_at effect_of (tid_of c.args.tid.now) c.args.effects.now c.loop-effect.effect-index c.effect-item.result c.loop-effect-test.true c.effect-item.is c.loop-effect.invariant.none _ (found ∙ ap (λ (o : Outcome). Some (ending_line (outcome_of o) (reason_of s.reason))) c.in-Commit.is))

pub returns-in-Abort-clause-line : goal.returns-in-Abort-clause-line
returns-in-Abort-clause-line c =
    let s = c.in-Settle in
    let found = settles_own (tid_of c.args.tid.now) c.effect-item.result s.serial s.outcome s.reason s.rec s.is (sym c.same_id.ensures ∙ c.if-same_id.true) in
    sym (ending_at effect_of (tid_of c.args.tid.now) c.args.effects.now c.loop-effect.effect-index c.effect-item.result c.loop-effect-test.true c.effect-item.is c.loop-effect.invariant.none _ (found ∙ ap (λ (o : Outcome). Some (ending_line (outcome_of o) (reason_of s.reason))) c.in-Abort.is))

pub loop-effect-preserved : goal.loop-effect-preserved
loop-effect-preserved c = record {
  none = ending_on effect_of (tid_of c.args.tid.now) c.args.effects.now c.loop-effect.effect-index c.effect-item.result c.loop-effect-test.true c.effect-item.is c.loop-effect.invariant.none ∙ elim c.match-effect.branch [
    | in-Settle+else-same_id w ↦ settles_other (tid_of c.args.tid.now) c.effect-item.result w.in-Settle.serial w.in-Settle.outcome w.in-Settle.reason w.in-Settle.rec w.in-Settle.is (sym w.same_id.ensures ∙ w.if-same_id.false)
    | in_default w ↦ settles_none (tid_of c.args.tid.now) c.effect-item.result w.in_default.not-Settle
  ];
}
