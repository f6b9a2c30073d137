use Rattle.std.proofs.Common.{Option, ap, sym, ◌∙◌}
use Rattle.std.specs.Prelude.{option_map}
use Rattle.vms_base.specs.declared.moments.Moment.{Moment}
use Rattle.reference_index.proofs.ListLemmas.{if_ok_so}
use Rattle.reference_recovery.specs.Refusing.{early_line}
use Rattle.reference_recovery.proofs.refusals.too_early.Goals as goal

pub returns-in-None : goal.returns-in-None
returns-in-None c = ap (λ (u : Option Moment). early_line (option_map (λ m. m.0) u) c.args.save.now.moment) (sym c.in-None.is)

pub returns-in-Some : goal.returns-in-Some
returns-in-Some c = if_ok_so c.early_refused.result c.early_refused.ensures (λ refusal p. p ∙ ap (λ (u : Option Moment). early_line (option_map (λ m. m.0) u) c.args.save.now.moment) (sym c.in-Some.is))
