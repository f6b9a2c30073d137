use Rattle.std.proofs.Common.{◌≤◌}
use Rattle.change_set.specs.Files.{IsPlaced, free_frames}
use Rattle.load_tests.proofs.load_tests.has.Given as goal

-- the file may be read
abbrev pub invariant-loop-i : goal.invariant-loop-i
invariant-loop-i g l = record {
  placed : IsPlaced l.head l.store.disk;
  frames : 32 ≤ free_frames l.store.pool;
}
