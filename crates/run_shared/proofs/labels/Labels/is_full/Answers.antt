use Rattle.std.proofs.Common.{nat_le, ◌∙◌, sym, ap, length}
use Rattle.run_shared.proofs.LabelLemmas.{length-newest_first}
use Rattle.run_shared.proofs.labels.Labels.is_full.Goals as goal

pub returns : goal.returns
returns c = ap (nat_le 100000) (c.len.ensures.len ∙ sym (length-newest_first c.self.inside.entries.entries) ∙ ap length c.self.view_is)
