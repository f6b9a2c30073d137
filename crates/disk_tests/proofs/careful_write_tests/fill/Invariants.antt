use Rattle.careful_write.specs.State.{IsReady}
use Rattle.disk_tests.proofs.careful_write_tests.fill.Given as goal

abbrev pub invariant-loop-n : goal.invariant-loop-n
invariant-loop-n g l = IsReady l.store
