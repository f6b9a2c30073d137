use Rattle.unit_laws.proofs.UnitLemmas as laws
use Rattle.unit_laws.proofs.units_follow_entries.Goals as goal

pub returns-clause-follow : goal.returns-clause-follow
returns-clause-follow c = laws.units_follow

pub returns-clause-changes : goal.returns-clause-changes
returns-clause-changes c = laws.changes_make_unit

pub returns-clause-prepares : goal.returns-clause-prepares
returns-clause-prepares c = laws.prepares_unit
