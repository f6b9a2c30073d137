use Rattle.directory_model.proofs.Showing.{shows_records}
use Rattle.directory_model.proofs.law.records_are_shown_in_order.Goals as goal

pub returns : goal.returns
returns c = shows_records
