use Rattle.std.proofs.Common.{ap, sym, ◌∙◌}
use Rattle.unit_table.specs.Units.{begun, is_of}
use Rattle.vms_base.specs.Ids.{serial_of}
use Rattle.unit_entries.proofs.OpenLemmas.{less_none}
use Rattle.unit_entries.proofs.reading.forget_unit.Goals as goal

pub returns-in-Some : goal.returns-in-Some
returns-in-Some c = ap begun c.remove.ensures ∙ c.in-Some.ensures.found.1.gone

pub returns-in-None : goal.returns-in-None
returns-in-None c = sym (less_none (is_of (serial_of c.args.serial.now)) (begun c.args.units.now) c.in-None.ensures.none)
