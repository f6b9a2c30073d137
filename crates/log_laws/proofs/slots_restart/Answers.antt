use Rattle.log_laws.proofs.Reading.{read_records, restart_tells, opening_tells}
use Rattle.log_laws.proofs.slots_restart.Goals as goal

pub returns-clause-read : goal.returns-clause-read
returns-clause-read c = read_records

pub returns-clause-told : goal.returns-clause-told
returns-clause-told c = restart_tells

pub returns-clause-opens : goal.returns-clause-opens
returns-clause-opens c = opening_tells
