use Rattle.std.proofs.Common.{◌≡◌, ◌≤◌, IfSome, length}
use Rattle.careful_write.specs.Reads.{SameButReads}
use Rattle.volume.specs.Load.{HeadsFound, HeadsSound}
use Rattle.volume.proofs.load.load_heads.Given as goal

abbrev pub invariant-loop-f : goal.invariant-loop-f
invariant-loop-f g l = record {
  same : SameButReads l.fn.store l.store;
  count : length l.heads ≡ 64;
  size : 4096 ≤ l.store.disk.size;
  found : IfSome l.fn.store.current (HeadsFound l.greatest.0 l.heads l.f);
  sound : HeadsSound l.greatest.0 l.heads l.f;
}
