use Rattle.std.proofs.Common.{◌≡◌, map, take}
use Rattle.unit_entries.specs.Keys.{lowest_in}
use Rattle.unit_entries.specs.Rows.{key_said}
use Rattle.unit_entries.proofs.keys.lowest_in.Given as goal

abbrev pub invariant-loop-key : goal.invariant-loop-key
invariant-loop-key l = l.lowest ≡ lowest_in l.file (map key_said (take l.key-index l.keys))
