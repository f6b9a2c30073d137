use Rattle.unit_undo.specs.UnitWays.{HasUndone}
use Rattle.unit_undo.proofs.undoing.undo_unit.Given as goal

abbrev pub invariant-loop-file : goal.invariant-loop-file
invariant-loop-file g l = HasUndone l.positions l.file l.fn.volume l.volume l.steps
