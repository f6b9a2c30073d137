use Rattle.std.proofs.Common.{◌≡◌, drop}
use Rattle.std.specs.List.{list_any}
use Rattle.run_model.specs.Answers.{has_joined}
use Rattle.participants.proofs.refusals.has_joined_any.Given as goal

abbrev pub invariant-loop-place : goal.invariant-loop-place
invariant-loop-place l = list_any (has_joined l.rm) (drop l.place l.table.table) ≡ list_any (has_joined l.rm) l.table.table
