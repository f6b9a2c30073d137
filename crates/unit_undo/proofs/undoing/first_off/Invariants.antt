use Rattle.std.proofs.Common.{◌-◌}
use Rattle.unit_undo.specs.FileWays.{HasFound}
use Rattle.unit_undo.proofs.undoing.first_off.Given as goal

abbrev pub invariant-loop-i : goal.invariant-loop-i
invariant-loop-i g l = HasFound l.file l.lowest l.next l.head l.keys l.fn.volume l.volume

abbrev pub decreases-loop-i : goal.decreases-loop-i
decreases-loop-i g l = 4294967296 - l.next
