use Rattle.std.proofs.Common.{◌≤◌}
use Rattle.careful_write.specs.State.{IsIdle}
use Rattle.change_set.specs.Files.{IsPlaced, free_frames}
use Rattle.indexed_tree.specs.index_blocks.Levels.{HasRoot}
use Rattle.indexed_tree.specs.indexed_file.Chain.{HasKeys}
use Rattle.indexed_tree.specs.Samples.{HasLongKeys}
use Rattle.index_tests.proofs.plain_layouts.take_steps.Given as goal

-- the file is in order, and the next group may be applied
abbrev pub invariant-loop-step : goal.invariant-loop-step
invariant-loop-step g l = record {
  form : HasRoot l.head;
  keys : HasKeys l.head;
  placed : IsPlaced l.head l.store.disk;
  frames : 1 ≤ free_frames l.store.pool;
  idle : IsIdle l.store;
  fields : HasLongKeys l.head;
}
