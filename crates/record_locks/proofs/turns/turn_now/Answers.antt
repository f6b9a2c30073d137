use Rattle.std.proofs.Common.{◌∙◌}
use Rattle.record_locks.proofs.turns.turn_now.Goals as goal

pub returns : goal.returns
returns c = c.copied.ensures ∙ c.get.ensures.value
