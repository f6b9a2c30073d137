use Rattle.commit_protocol.proofs.Serials.{unique_of}
use Rattle.commit_protocol.proofs.StandingRows.{rows_stand}
use Rattle.commit_protocol.proofs.Lasting.{stands_lasts, new_lasts}
use Rattle.commit_protocol.proofs.notes.Goals as goal

pub returns-clause-stand : goal.returns-clause-stand
returns-clause-stand c = λ tm e d h. rows_stand tm e (unique_of tm.table d) h

pub returns-clause-lasts : goal.returns-clause-lasts
returns-clause-lasts c = λ bs a d w s. stands_lasts bs a (unique_of bs d) w s

pub returns-clause-begins : goal.returns-clause-begins
returns-clause-begins c = new_lasts
