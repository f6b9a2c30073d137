use Rattle.std.proofs.Common.{◌≡◌, ◌≤◌, ◌+◌, ◌-◌, ◌*◌, [], Option, IfSome, length}
use Rattle.volume_files.specs.record_files.Any.{Begins, IsFile, IsLaidOut}
use Rattle.vms_model.specs.Keys.{Key}
use Rattle.volume.specs.State.{SameVolume}
use Rattle.unit_cuts.specs.Records.{OfRecords}
use Rattle.unit_cuts.specs.Truncating.{AreBegun, entry_sizes, keys_down}
use Rattle.unit_cuts.proofs.measuring.measure.Given as goal

abbrev pub invariant-loop-i : goal.invariant-loop-i
invariant-loop-i g l = record {
  size : OfRecords l.cut.head l.fn.volume (λ m. l.size ≡ entry_sizes m (keys_down (l.cut.from + l.i - 1) l.i));
  most : l.size ≤ 8272 * l.i;
  begins : IfSome l.fn.volume.store.current (λ content. IsFile l.cut.head → IsLaidOut l.cut.head content → (key : Option Key) → Begins l.cut.head content key l.place);
  many : length l.room.places ≡ l.i;
  places : AreBegun l.cut.head l.fn.volume l.room.places;
  positions : l.room.positions ≡ [];
  same : SameVolume l.fn.volume l.volume;
}
