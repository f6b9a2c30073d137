use Rattle.std.proofs.Common.{◌≡◌, ◌<◌, ℕ, false, map}
use Rattle.lmcp_log.specs.Log.{slot_of, slot_at, is_free}
use Rattle.lmcp_log.proofs.log.free_place.Given as goal

abbrev pub invariant-loop-i : goal.invariant-loop-i
invariant-loop-i l = (k : ℕ) → k < l.i → is_free (slot_at (map slot_of l.slots) k) ≡ false
