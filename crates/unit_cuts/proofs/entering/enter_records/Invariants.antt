use Rattle.std.proofs.Common.{◌*◌}
use Rattle.std.specs.Prelude.{◌%◌}
use Rattle.vms_base.specs.Ids.{serial_of, tid_of}
use Rattle.unit_cuts.proofs.CutSofar.{Sofar}
use Rattle.unit_cuts.proofs.entering.enter_records.Given as goal

abbrev pub invariant-loop-behind : goal.invariant-loop-behind
invariant-loop-behind g l = Sofar (tid_of l.branch.tid) (serial_of l.branch.serial) l.cut.file l.cut.head l.cut.from l.limit l.base l.has_image l.fn.room.places l.behind (18 * (l.behind % 20)) l.fn.volume l.volume l.span l.room
