use Rattle.std.proofs.Common.{◌+◌, ◌-◌, ◌≤◌}
use Rattle.reference_index.specs.run_model.World.{extents_of}
use Rattle.reference_world.specs.Standing.{directory_of}
use Rattle.reference_world.specs.Directories.{IsRuns}
use Rattle.reference_world.proofs.directory.free_runs.Given as goal

abbrev pub invariant-loop-k : goal.invariant-loop-k
invariant-loop-k l = IsRuns (extents_of (directory_of l.files)) l.need (l.start + (l.count - l.k)) l.k l.runs × (l.runs.first ≤ l.k)
