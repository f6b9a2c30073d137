use Rattle.std.proofs.Common.{◌≡◌, ℕ, ◌<◌, ◌≤◌, None, length}
use Rattle.std.specs.Vec.{vec_capacity}
use Rattle.unit_table.specs.Units.{unit_at}
use Rattle.unit_table.proofs.table.UnitTable.clear.Given as goal

abbrev pub invariant-loop-i : goal.invariant-loop-i
invariant-loop-i l = (length l.self-inside.places.items ≡ 64) × ((p : ℕ) → p < l.i → unit_at l.self-inside.places.items p ≡ None) × (64 ≤ vec_capacity l.self-inside.order)
