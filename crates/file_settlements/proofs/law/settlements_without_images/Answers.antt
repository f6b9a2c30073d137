use Rattle.file_settlements.proofs.Plain.{is_plain, is_with_files}
use Rattle.file_settlements.proofs.law.settlements_without_images.Goals as goal

pub returns-clause-plain : goal.returns-clause-plain
returns-clause-plain c = λ files tid serial ending moment e left v made none settles. is_plain files tid serial ending moment e left v made none settles

pub returns-clause-back : goal.returns-clause-back
returns-clause-back c = λ files tid serial ending moment e left v made none makes. is_with_files files tid serial ending moment e left v made none makes
