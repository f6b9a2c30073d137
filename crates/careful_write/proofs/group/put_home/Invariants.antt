use Rattle.std.proofs.Common.{◌≡◌, ◌≤◌, length, drop}
use Rattle.block_disk.specs.Blocks.{laid_over}
use Rattle.careful_write.specs.Steps.{Touches, Quiet}
use Rattle.careful_write.specs.Parts.{in_group}
use Rattle.careful_write.proofs.group.put_home.Given as goal

abbrev pub invariant-loop-i : goal.invariant-loop-i
invariant-loop-i g l =
    let state = g.D.Disk.state in
    let entries = l.group.entries in
    record {
      rest : laid_over (drop l.i entries) (state l.disk).seen ≡ laid_over entries (state l.fn.disk).seen;
      touched : Touches (in_group entries) (state l.fn.disk) (state l.disk);
      few : length (state l.disk).pending ≤ l.i;
      quiet : Quiet (state l.fn.disk) (state l.disk);
    }
