use Rattle.std.proofs.Common.{ℕ, ◌<◌, IsSome}
use Rattle.unit_table.specs.Units.{unit_at}
use Rattle.unit_table.proofs.table.UnitTable.free_place.Given as goal

abbrev pub invariant-loop-i : goal.invariant-loop-i
invariant-loop-i l = (p : ℕ) → p < l.i → IsSome (unit_at l.place-items p)
