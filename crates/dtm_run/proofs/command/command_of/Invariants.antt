use Rattle.std.proofs.Common.{◌≡◌, length, take}
use Rattle.dtm_run.specs.Racks.{names_in}
use Rattle.dtm_run.proofs.command.command_of.Given as goal

abbrev pub invariant-loop-place : goal.invariant-loop-place
invariant-loop-place g l = record {
  long : length l.names ≡ 8;
  same : take l.place l.names ≡ take l.place (names_in l.fn.rack);
}
