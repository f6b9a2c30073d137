use Rattle.reference_law.proofs.RowLemmas.{open_quote_is_bad as shown}
use Rattle.reference_law.proofs.rows.open_quote_is_bad.Goals as goal

pub returns : goal.returns
returns c = shown
