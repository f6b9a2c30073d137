use Rattle.std.proofs.Common.{length, ap, sym, ◌∙◌}
use Rattle.lmcp_log.specs.Log.{slot_of}
use Rattle.lmcp_log.proofs.Fields.{length_mapped}
use Rattle.lmcp_log.proofs.log.Log.slots.Goals as goal

pub returns-clause-value : goal.returns-clause-value
returns-clause-value c = ap length c.deref-slots.ensures.value ∙ (sym (length_mapped slot_of c.self.inside.slots.items) ∙ ap length c.self.view_is)
