use Rattle.world_laws.proofs.OrderedLemmas.{boots_keep_order, changes_keep_order, creates_keep_order, directs_keep_order, formats_in_order, halves_keep_order, marks_keep_order, recovers_keep_order, saves_keep_order, tables_keep_order}
use Rattle.world_laws.proofs.UnsettledLemmas.{units_are_unsettled}
use Rattle.world_laws.proofs.journals_stay_in_order.Goals as goal

pub returns-clause-new : goal.returns-clause-new
returns-clause-new c = formats_in_order

pub returns-clause-boots : goal.returns-clause-boots
returns-clause-boots c = boots_keep_order

pub returns-clause-marks : goal.returns-clause-marks
returns-clause-marks c = marks_keep_order

pub returns-clause-saves : goal.returns-clause-saves
returns-clause-saves c = saves_keep_order

pub returns-clause-recoveries : goal.returns-clause-recoveries
returns-clause-recoveries c = recovers_keep_order

pub returns-clause-changes : goal.returns-clause-changes
returns-clause-changes c = changes_keep_order

pub returns-clause-directs : goal.returns-clause-directs
returns-clause-directs c = directs_keep_order

pub returns-clause-tables : goal.returns-clause-tables
returns-clause-tables c = tables_keep_order

pub returns-clause-creates : goal.returns-clause-creates
returns-clause-creates c = creates_keep_order

pub returns-clause-unsettled : goal.returns-clause-unsettled
returns-clause-unsettled c = units_are_unsettled

pub returns-clause-halves : goal.returns-clause-halves
returns-clause-halves c = halves_keep_order
