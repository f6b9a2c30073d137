use Rattle.std.proofs.Common.{ap, sym, ◌∙◌}
use Rattle.std.specs.Option.{option_map}
use Rattle.records_model.specs.History.{first_to_change}
use Rattle.reference_index.specs.run_model.World.{state_of}
use Rattle.reference_index.proofs.ListLemmas.{if_ok_so}
use Rattle.reference_world.specs.Standing.{file_of, history_of, save_of, serials_of}
use Rattle.reference_recovery.proofs.RefusalLemmas.{forward_line, forward_unmarked, forward_unsaved}
use Rattle.reference_recovery.proofs.refusals.refused_forward.Goals as goal

pub returns-then-not-file : goal.returns-then-not-file
returns-then-not-file c = sym (forward_unmarked (option_map (λ m. m.0) c.args.until) (first_to_change (history_of c.args.file.now) (serials_of c.args.branches.now)) (state_of (file_of c.args.file.now)) c.if-not-file.true)

pub returns-in-None : goal.returns-in-None
returns-in-None c = sym (forward_unsaved (option_map (λ m. m.0) c.args.until) (first_to_change (history_of c.args.file.now) (serials_of c.args.branches.now)) (state_of (file_of c.args.file.now)) c.if-not-file.false (ap (option_map save_of) c.in-None.is))

pub returns-in-Some : goal.returns-in-Some
returns-in-Some c = if_ok_so c.forward_refused.result c.forward_refused.ensures (λ refusal p. p ∙ sym (forward_line (option_map (λ m. m.0) c.args.until) (first_to_change (history_of c.args.file.now) (serials_of c.args.branches.now)) (state_of (file_of c.args.file.now)) (save_of c.in-Some.v) c.if-not-file.false (ap (option_map save_of) c.in-Some.is)))
