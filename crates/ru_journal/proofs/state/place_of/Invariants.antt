use Rattle.std.proofs.Common.{◌≡◌, None, map, take}
use Rattle.vms_base.specs.Ids.{serial_of}
use Rattle.ru_journal.specs.Told.{find_unit}
use Rattle.ru_journal.specs.Units.{unit_of}
use Rattle.ru_journal.proofs.state.place_of.Given as goal

abbrev pub invariant-loop-i : goal.invariant-loop-i
invariant-loop-i l = find_unit (serial_of l.serial) (map unit_of (take l.i l.units)) ≡ None
