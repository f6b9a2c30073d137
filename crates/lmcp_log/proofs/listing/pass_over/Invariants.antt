use Rattle.std.proofs.Common.{◌≡◌, length, map, vec_capacity}
use Rattle.lmcp_log.specs.Log.{slot_of}
use Rattle.lmcp_log.proofs.Few.{IsPassed}
use Rattle.lmcp_log.proofs.listing.pass_over.Given as goal

abbrev pub invariant-loop-i : goal.invariant-loop-i
invariant-loop-i l = record {
  passed : IsPassed l.most l.left l.i (map slot_of l.fn.slots.items) (map slot_of l.slots.items);
  count : length l.slots.items ≡ length l.fn.slots.items;
  room : vec_capacity l.slots ≡ vec_capacity l.fn.slots;
}
