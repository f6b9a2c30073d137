use Rattle.std.proofs.Common.{map}
use Rattle.block_disk.specs.Disk.{DiskState}
use Rattle.transcript.specs.Forms.{line_of}
use Rattle.vms_base.specs.Ids.{serial_of}
use Rattle.dtm_node.specs.Causes.{cause_of}
use Rattle.dtm_node.proofs.Opening.{open_fell, open_refused, open_unpowered, open_up}
use Rattle.dtm_node.proofs.Passing.{unpowers}
use Rattle.dtm_node.proofs.node.open_with.Goals as goal

pub returns-in-Err-clause-opens : goal.returns-in-Err-clause-opens
returns-in-Err-clause-opens g c = λ clock has_parts.
    let old : DiskState = g.D.Disk.state c.args.disk in
    let new : DiskState = g.D.Disk.state c.power.new.self in
    open_unpowered c.args.name clock has_parts old c.in-Err.e new (unpowers c.in-Err.e old new c.in-Err.ensures.err c.in-Err.ensures.never_stopped) c.from.result c.from.ensures

pub returns-in-Up-clause-opens : goal.returns-in-Up-clause-opens
returns-in-Up-clause-opens g c = λ clock has_parts.
    open_up c.args.name clock has_parts (g.D.Disk.state c.args.disk) c.nodes_stay_kept.ensures.steps (g.D.Disk.state c.power.new.self) c.in_default.ensures.ok (record { stored = record { volume = c.in-Up.volume; units = g.U.RecoveryUnits.state c.args.parts.units; in_doubt = map serial_of c.args.parts.room.in_doubt.items }; tm = c.args.parts.table; drawn = 0; declared = c.args.parts.managers }) c.in-Up.ensures.goes c.in-Up.ensures.booted c.requires.parts.none c.in-Up.ensures.boots

pub returns-in-Refused-clause-opens : goal.returns-in-Refused-clause-opens
returns-in-Refused-clause-opens g c = λ clock has_parts. (
  c.in-Refused.ensures.booted.0,
  open_refused c.args.name clock has_parts (g.D.Disk.state c.args.disk) c.nodes_stay_kept.ensures.steps (g.D.Disk.state c.power.new.self) c.in_default.ensures.ok (g.D.Disk.state c.in-Refused.disk) c.in-Refused.ensures.goes (line_of c.in-Refused.form) c.in-Refused.ensures.booted.1 c.in-Refused.ensures.booted.2 c.in-Refused.ensures.boots,
)

pub returns-in-Fell-clause-opens : goal.returns-in-Fell-clause-opens
returns-in-Fell-clause-opens g c = λ clock has_parts.
    open_fell c.args.name clock has_parts (g.D.Disk.state c.args.disk) c.nodes_stay_kept.ensures.steps (g.D.Disk.state c.power.new.self) c.in_default.ensures.ok (g.D.Disk.state c.in-Fell.disk) c.in-Fell.ensures.goes (cause_of c.in-Fell.down) c.in-Fell.ensures.booted c.in-Fell.ensures.boots
