use Rattle.std.proofs.Common.{◌≡◌, replicate}
use Rattle.block_disk.proofs.mem.zeros.Given as goal

abbrev pub invariant-loop-block : goal.invariant-loop-block
invariant-loop-block l = l.all.items ≡ replicate l._block (replicate 512 0)
