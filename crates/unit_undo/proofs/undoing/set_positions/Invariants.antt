use Rattle.std.proofs.Common.{◌-◌}
use Rattle.unit_undo.specs.FileWays.{HasPlaced}
use Rattle.unit_undo.proofs.undoing.set_positions.Given as goal

abbrev pub invariant-loop-i : goal.invariant-loop-i
invariant-loop-i g l = HasPlaced l.file l.from l.fn.head l.keys l.fn.volume l.volume l.steps l.head

abbrev pub decreases-loop-i : goal.decreases-loop-i
decreases-loop-i g l = 4294967296 - l.from
