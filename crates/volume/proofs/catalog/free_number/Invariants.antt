use Rattle.std.proofs.Common.{◌≡◌, ◌<◌, ℕ, None}
use Rattle.volume.specs.Catalogs.{head_at}
use Rattle.volume.proofs.catalog.free_number.Given as goal

abbrev pub invariant-loop-f : goal.invariant-loop-f
invariant-loop-f l = (g : ℕ) → g < l.f → head_at l.heads g ≡ None → ⊥
