use Rattle.change_set.proofs.records_model.PartLaws.{parts_keep}
use Rattle.indexed_file.proofs.PartedLaws.{adds_few}
use Rattle.indexed_file.proofs.law.part_law.Goals as goal

pub returns-clause-parts : goal.returns-clause-parts
returns-clause-parts c = parts_keep

pub returns-clause-few : goal.returns-clause-few
returns-clause-few c = adds_few
