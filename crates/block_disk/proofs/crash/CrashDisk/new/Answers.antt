use Rattle.std.proofs.Common.{false, ◌∙◌, ap}
use Rattle.block_disk.specs.Blocks.{Table, numbers_of, laid_over}
use Rattle.block_disk.proofs.Laid.{over_none}
use Rattle.block_disk.proofs.crash.CrashDisk.new.Goals as goal

pub returns-clause-state : goal.returns-clause-state
returns-clause-state g c =
    let told = g.P.Platter.content c.args.platter in
    let pending = ap (λ (t : Table). numbers_of t.entries) c.in_ok-reserve.ensures in
    let seen = ap (λ (t : Table). laid_over t.entries told) c.in_ok-reserve.ensures ∙ over_none told in
    λ i. record {
      size = g.P.Platter.size c.args.platter;
      faults = g.P.Platter.faults c.args.platter;
      stops = 0;
      stopped = false;
      calls = record { number = 0; first = c.in_ok-with_capacity.ensures.items i };
      pending = pending i;
      seen = seen i;
    }
