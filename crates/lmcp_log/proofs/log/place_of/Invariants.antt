use Rattle.std.proofs.Common.{◌≡◌, ◌<◌, ℕ, false, map}
use Rattle.vms_base.specs.Ids.{serial_of}
use Rattle.lmcp_log.specs.Log.{slot_of, slot_at, is_of}
use Rattle.lmcp_log.proofs.log.place_of.Given as goal

abbrev pub invariant-loop-i : goal.invariant-loop-i
invariant-loop-i l = (k : ℕ) → k < l.i → is_of (serial_of l.serial) (slot_at (map slot_of l.slots) k) ≡ false
