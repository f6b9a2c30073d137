use Rattle.settlement_laws.proofs.MadeLemmas.{settlements_are_made}
use Rattle.settlement_laws.proofs.settlements_are_made.Goals as goal

pub returns : goal.returns
returns c = settlements_are_made
