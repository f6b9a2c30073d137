use Rattle.rms_units.proofs.CutUnits.{Noting}
use Rattle.rms_units.proofs.truncating.note_cut.Given as goal

-- what is left leads to the same
abbrev pub invariant-loop-position : goal.invariant-loop-position
invariant-loop-position l = Noting l.positions l.position-index l.place l.file l.fn.table l.table
