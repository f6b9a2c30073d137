use Rattle.std.proofs.Common.{sym, ◌∙◌}
use Rattle.records_model.specs.History.{first_to_change}
use Rattle.reference_index.specs.run_model.World.{state_of}
use Rattle.reference_index.proofs.ListLemmas.{if_ok_so}
use Rattle.reference_world.specs.Standing.{file_of, history_of, serials_of}
use Rattle.reference_recovery.proofs.RefusalLemmas.{backward_line, backward_unmarked}
use Rattle.reference_recovery.proofs.refusals.refused_backward.Goals as goal

pub returns-then-not-file : goal.returns-then-not-file
returns-then-not-file c = sym (backward_unmarked c.args.until.0 (first_to_change (history_of c.args.file.now) (serials_of c.args.branches.now)) (state_of (file_of c.args.file.now)) c.if-not-file.true)

pub returns : goal.returns
returns c = if_ok_so c.backward_refused.result c.backward_refused.ensures (λ refusal p. p ∙ sym (backward_line c.args.until.0 (first_to_change (history_of c.args.file.now) (serials_of c.args.branches.now)) (state_of (file_of c.args.file.now)) c.if-not-file.false))
