use Rattle.file_recoveries.proofs.SuitLemmas.{records_suit}
use Rattle.file_recoveries.proofs.law.made_records_suit.Goals as goal

pub returns : goal.returns
returns c = records_suit
