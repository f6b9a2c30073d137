use Rattle.std.proofs.Common.{◌∙◌, ap}
use Rattle.run_model.specs.World.{find_label}
use Rattle.vms_base.specs.contracts.names.LabelPartialEq.TheImpl.{eq-value}
use Rattle.run_shared.proofs.LabelLemmas.{same_label, found_label}
use Rattle.run_shared.proofs.labels.Labels.find.Goals as goal

pub returns : goal.returns
returns c = found_label eq-value.it same_label c.self.inside.entries c.args.label.now c.copied.result c.self.invariant (c.copied.ensures ∙ c.get.ensures.value) ∙ ap (find_label c.args.label.now) c.self.view_is
