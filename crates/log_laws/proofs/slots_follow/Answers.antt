use Rattle.commit_protocol.specs.Table.{branch_serials, record_serials}
use Rattle.commit_protocol.proofs.Serials.{parts_apart, unique_of}
use Rattle.log_laws.proofs.Slotting.{act_tells}
use Rattle.log_laws.proofs.RowSlots.{row_tells, row_size}
use Rattle.log_laws.proofs.slots_follow.Goals as goal

pub returns-clause-act : goal.returns-clause-act
returns-clause-act c = λ tm a ss apart q h l. let d = parts_apart (branch_serials tm.table) (record_serials tm.records) apart in act_tells tm ss a d (unique_of tm.table d.one) q h l

pub returns-clause-row : goal.returns-clause-row
returns-clause-row c = row_tells

pub returns-clause-room : goal.returns-clause-room
returns-clause-room c = row_size
