use Rattle.world_laws.proofs.DirectLemmas.{directs_can_restart}
use Rattle.world_laws.proofs.KeepingLemmas.{changes_can_restart, creates_can_restart, halves_can_restart, marks_can_restart, recovers_can_restart, saves_can_restart, tables_can_restart}
use Rattle.world_laws.proofs.acts_can_restart.Goals as goal

pub returns-clause-changes : goal.returns-clause-changes
returns-clause-changes c = changes_can_restart

pub returns-clause-tables : goal.returns-clause-tables
returns-clause-tables c = tables_can_restart

pub returns-clause-halves : goal.returns-clause-halves
returns-clause-halves c = halves_can_restart

pub returns-clause-creates : goal.returns-clause-creates
returns-clause-creates c = creates_can_restart

pub returns-clause-marks : goal.returns-clause-marks
returns-clause-marks c = marks_can_restart

pub returns-clause-saves : goal.returns-clause-saves
returns-clause-saves c = saves_can_restart

pub returns-clause-recoveries : goal.returns-clause-recoveries
returns-clause-recoveries c = recovers_can_restart

pub returns-clause-directs : goal.returns-clause-directs
returns-clause-directs c = directs_can_restart
