use Rattle.std.proofs.Common.{◌≡◌, ◌≤◌, ◌+◌, ℕ, List, IfSome, length}
use Rattle.careful_write.specs.block_disk.Blocks.{block_at}
use Rattle.careful_write.specs.Content.{gate_block}
use Rattle.careful_write.specs.Steps.{Quiet, Touches}
use Rattle.volume.specs.Empty.{ZerosTo, is_zeroed}
use Rattle.volume.proofs.empty.write_zeros.Given as goal

abbrev pub invariant-loop-n : goal.invariant-loop-n
invariant-loop-n g l =
    let state = g.D.Disk.state in
    record {
      zeros : IfSome (state l.disk).seen (ZerosTo l.n);
      gate : IfSome (state l.disk).seen (λ (bs : List (List ℕ)). block_at bs 0 ≡ gate_block 0);
      pending : length (state l.disk).pending + 519 ≤ l.n;
      big : 4096 ≤ (state l.disk).size;
      touched : Touches (is_zeroed l.end) (state l.fn.disk) (state l.disk);
      quiet : Quiet (state l.fn.disk) (state l.disk);
    }
