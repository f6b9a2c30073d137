use Rattle.restart_laws.proofs.HalfLemmas.{directories_are_half, halves_are_files, halves_stay_restorable}
use Rattle.restart_laws.proofs.halves_are_files.Goals as goal

pub returns-clause-files : goal.returns-clause-files
returns-clause-files c = halves_are_files

pub returns-clause-directories : goal.returns-clause-directories
returns-clause-directories c = directories_are_half

pub returns-clause-restorable : goal.returns-clause-restorable
returns-clause-restorable c = halves_stay_restorable
