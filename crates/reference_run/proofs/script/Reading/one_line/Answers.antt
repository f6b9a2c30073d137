use Rattle.std.proofs.Common.{sym, ◌∙◌, subst}
use Rattle.reference_run.specs.Scripts.{Turns}
use Rattle.reference_run.proofs.script.Reading.one_line.Goals as goal

pub returns-then-branch-clause-steps : goal.returns-then-branch-clause-steps
returns-then-branch-clause-steps c = λ es more s. subst (λ b. Turns c.args.self.now es (record { text = c.args.line.now; ended = c.args.ended }) more b c.turn.new.self) c.if-branch.true
    (c.in_ok-turn.ensures.turns es more s (sym (c.is_in_limits.ensures.limits es s) ∙ c.if-is_in_limits.true))

pub returns-else-branch-clause-steps : goal.returns-else-branch-clause-steps
returns-else-branch-clause-steps c = λ es more s. record {
  ended = sym (subst (λ b. Turns c.args.self.now es (record { text = c.args.line.now; ended = c.args.ended }) more b c.turn.new.self) c.if-branch.false
      (c.in_ok-turn.ensures.turns es more s (sym (c.is_in_limits.ensures.limits es s) ∙ c.if-is_in_limits.true)));
}
