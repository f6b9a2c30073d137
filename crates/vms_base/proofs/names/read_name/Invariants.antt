use Rattle.std.proofs.Common.{◌≡◌, take, map, length, ◌≤◌}
use Rattle.std.specs.Char.{to_ascii_uppercase}
use Rattle.vms_base.proofs.names.read_name.Given as goal

abbrev pub invariant-loop-b : goal.invariant-loop-b
invariant-loop-b g l = record {
  most : length l.text ≤ l.most;
  name : l.name ≡ map to_ascii_uppercase (take l.b-index l.text);
}
