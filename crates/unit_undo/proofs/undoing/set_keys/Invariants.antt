use Rattle.unit_undo.specs.FileWays.{HasSet}
use Rattle.unit_undo.proofs.undoing.set_keys.Given as goal

abbrev pub invariant-loop-i : goal.invariant-loop-i
invariant-loop-i g l = HasSet l.file l.i l.fn.head l.keys l.fn.volume l.volume l.steps l.head
