use Rattle.change_set.proofs.records_model.SlotLaws.{target_tells}
use Rattle.indexed_file.proofs.law.target_law.Goals as goal

pub returns : goal.returns
returns c = target_tells
