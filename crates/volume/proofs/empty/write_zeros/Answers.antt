use Rattle.std.proofs.Common.{◌≤◌, refl, ap, subst, sym, arith}
use Rattle.careful_write.specs.block_disk.Disk.{DiskState}
use Rattle.careful_write.proofs.Touched.{touches_put, touches_write}
use Rattle.volume.specs.Empty.{is_zeroed}
use Rattle.volume.proofs.Empties.{zeros_put, gate_put, pending_put, quiet_put, on_zeroed}
use Rattle.volume.proofs.empty.write_zeros.Goals as goal

pub loop-n-preserved : goal.loop-n-preserved
loop-n-preserved g c =
    let state = g.D.Disk.state in
    let before = c.loop-n.invariant in
    let low = c.loop-n.auto.n in
    let big = before.big in
    let is = c.in_ok-write.ensures.ok in
    record {
      zeros = zeros_put (state c.loop-n.disk) (state c.write.new.self) c.loop-n.n _ is refl (omega arith) (g.met.D.Disk.whole c.loop-n.disk) before.zeros;
      gate = gate_put (state c.loop-n.disk) (state c.write.new.self) c.loop-n.n _ is (omega arith) before.gate;
      pending = let few = before.pending in let more = pending_put (state c.loop-n.disk) (state c.write.new.self) c.loop-n.n _ is in omega arith;
      big = subst (λ (s : DiskState). 4096 ≤ s.size) (sym is) big;
      touched = touches_write (is_zeroed c.args.end) c.loop-n.n _ _ _ _ before.touched (on_zeroed c.args.end c.loop-n.n (omega arith) (omega arith)) is;
      quiet = quiet_put (state c.args.disk.now) (state c.loop-n.disk) (state c.write.new.self) c.loop-n.n _ before.quiet is;
    }

pub returns-clause-pending : goal.returns-clause-pending
returns-clause-pending g c = let few = c.loop-n.invariant.pending in omega (arith, c.loop-n.auto.n-end)

pub returns-in_err-write-clause-touches : goal.returns-in_err-write-clause-touches
returns-in_err-write-clause-touches g c =
    let any = c.in_err-write.ensures.err in
    let low = c.loop-n.auto.n in
    touches_put (is_zeroed c.args.end) c.loop-n.n any.0 _ _ _ c.loop-n.invariant.touched (on_zeroed c.args.end c.loop-n.n (omega arith) (omega arith))
    (ap (λ (t : DiskState). t.pending) any.1) (ap (λ (t : DiskState). t.seen) any.1)
