use Rattle.std.proofs.Common.{◌≡◌, length, map, take}
use Rattle.log_laws.specs.Slots.{records_in}
use Rattle.lmcp_log.specs.Log.{slot_of}
use Rattle.lmcp_log.proofs.log.Log.live.Given as goal

abbrev pub invariant-loop-slot : goal.invariant-loop-slot
invariant-loop-slot l = l.live ≡ length (records_in (map slot_of (take l.slot-index l.slot-items)))
