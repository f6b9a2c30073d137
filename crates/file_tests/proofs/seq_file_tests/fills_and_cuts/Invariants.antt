use Rattle.std.proofs.Common.{◌≤◌}
use Rattle.careful_write.specs.State.{IsIdle}
use Rattle.change_set.specs.Files.{IsPlaced, free_frames}
use Rattle.seq_file.specs.Layout.{IsSequential}
use Rattle.file_tests.proofs.seq_file_tests.fills_and_cuts.Given as goal

-- the file is in order, and the next group may be applied
abbrev pub invariant-loop-step : goal.invariant-loop-step
invariant-loop-step g l = record {
  form : IsSequential l.head;
  placed : IsPlaced l.head l.store.disk;
  frames : 32 ≤ free_frames l.store.pool;
  idle : IsIdle l.store;
}
