use Rattle.file_recoveries.proofs.CauseLemmas as laws
use Rattle.file_recoveries.proofs.law.causes_are_refusals.Goals as goal

pub returns : goal.returns
returns c = laws.causes_are_refusals
