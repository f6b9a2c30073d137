use Rattle.std.proofs.Common.{◌≡◌, ◌≤◌, ◌++◌, length, drop, map}
use Rattle.world_laws.specs.run_model.Answers.{unreplied}
use Rattle.tm_types.specs.Parts.{manager_of}
use Rattle.node_requests.proofs.transactions.unreplied.Given as goal

abbrev pub invariant-loop-manager : goal.invariant-loop-manager
invariant-loop-manager l = record {
  count : length l.rms ≤ l.manager-index;
  made : l.rms ++ unreplied (map manager_of (drop l.manager-index l.manager-items)) ≡ unreplied (map manager_of l.manager-items);
}
