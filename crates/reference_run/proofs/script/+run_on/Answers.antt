use Rattle.std.proofs.Common.{arith, take, drop, length, ◌-◌, ◌+◌}
use Rattle.std.proofs.lemmas.Grind.{common_steps}
use Rattle.reference_run.proofs.ScriptLemmas.{fed_on, fed_end, unfed_on, unfed_end}
use Rattle.reference_run.proofs.script.+run_on.Goals as goal

pub returns-in-Ok-None : goal.returns-in-Ok-None
returns-in-Ok-None t c = λ es s. fed_on c.args.reading.now c.one_line.new.self c.run_on.new.reading es c.args.rest.now _ (take (length c.args.rest.now - (c.in-Some.n + 1)) (drop (c.in-Some.n + 1) c.args.rest.now)) c.in-Some.n c.run_on.result c.in-Some.ensures
    (λ more. rw c.in-Ok-None.field-0-is at (c.in-Ok-None.ensures.steps es more s)) c.run_on.ensures (grind (arith, common_steps)) (grind (arith, common_steps))

pub returns-in-Ok-Some : goal.returns-in-Ok-Some
returns-in-Ok-Some t c = λ es s. fed_end c.args.reading.now c.one_line.new.self es c.args.rest.now _ c.in-Some.n c.in-Ok-Some.ending c.in-Some.ensures
    (λ more. rw c.in-Ok-Some.field-0-is at (c.in-Ok-Some.ensures.steps es more s)) (grind (arith, common_steps))

pub returns-in-Ok-None-one_line : goal.returns-in-Ok-None-one_line
returns-in-Ok-None-one_line t c = λ es s. unfed_on c.args.reading.now c.one_line-in-None.new.self es c.args.rest.now c.in-None.ensures
    (λ more. rw c.in-Ok-None-one_line.field-0-is at (c.in-Ok-None-one_line.ensures.steps es more s)) (grind (arith, common_steps))

pub returns-in-Ok-Some-one_line : goal.returns-in-Ok-Some-one_line
returns-in-Ok-Some-one_line t c = λ es s. unfed_end c.args.reading.now c.one_line-in-None.new.self es c.args.rest.now c.in-Ok-Some-one_line.ending c.in-None.ensures
    (λ more. rw c.in-Ok-Some-one_line.field-0-is at (c.in-Ok-Some-one_line.ensures.steps es more s)) (grind (arith, common_steps))
