use Rattle.script_laws.proofs.EarlyLemmas.{reading_early}
use Rattle.script_laws.proofs.clocks_are_early.Goals as goal

pub returns : goal.returns
returns c = reading_early
