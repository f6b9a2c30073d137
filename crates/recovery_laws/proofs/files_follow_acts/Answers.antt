use Rattle.recovery_laws.proofs.StateLemmas.{files_follow, made_files_begin, unmarked_carry_on}
use Rattle.recovery_laws.proofs.files_follow_acts.Goals as goal

pub returns-clause-files : goal.returns-clause-files
returns-clause-files c = files_follow

pub returns-clause-made : goal.returns-clause-made
returns-clause-made c = made_files_begin

pub returns-clause-unmarked : goal.returns-clause-unmarked
returns-clause-unmarked c = unmarked_carry_on
