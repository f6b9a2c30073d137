use Rattle.std.proofs.Common.{◌≡◌, ◌≤◌, ◌++◌, length, drop, map}
use Rattle.world_laws.specs.run_model.Answers.{missing}
use Rattle.tm_types.specs.Parts.{child_of}
use Rattle.vms_base.specs.Ids.{serial_of}
use Rattle.node_requests.proofs.transactions.missing.Given as goal

abbrev pub invariant-loop-child : goal.invariant-loop-child
invariant-loop-child l = record {
  count : length l.serials ≤ l.child-index;
  made : map serial_of l.serials ++ missing (map child_of (drop l.child-index l.child-items)) ≡ missing (map child_of l.child-items);
}
