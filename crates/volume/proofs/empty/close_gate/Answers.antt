use Rattle.std.proofs.Common.{◌≡◌, ◌<◌, ℕ, List, IfSome, refl, ap, subst, sym, arith}
use Rattle.careful_write.specs.block_disk.Blocks.{block_at}
use Rattle.careful_write.specs.block_disk.Disk.{DiskState}
use Rattle.careful_write.specs.Content.{gate_block}
use Rattle.careful_write.specs.Parts.{in_gate}
use Rattle.careful_write.proofs.Touched.{touches_nothing, touches_put, touches_write}
use Rattle.volume.proofs.Empties.{gate_written, after_barrier, on_ok}
use Rattle.volume.proofs.empty.close_gate.Goals as goal

pub returns-clause-gate : goal.returns-clause-gate
returns-clause-gate g c =
    let state = g.D.Disk.state in
    let big = c.requires.size in
    let some : 0 < (state c.args.disk.now).size = omega arith in
    on_ok c.barrier.result c.barrier.ensures.ok (λ is. subst (λ (s : DiskState). IfSome s.seen (λ (bs : List (List ℕ)). block_at bs 0 ≡ gate_block 0)) (sym is)
    (gate_written (state c.args.disk.now) (state c.write.new.self) _ c.in_ok-write.ensures.ok refl some (g.met.D.Disk.whole c.args.disk.now)))

pub returns-in_err-write-clause-touches : goal.returns-in_err-write-clause-touches
returns-in_err-write-clause-touches g c =
    let s0 = g.D.Disk.state c.args.disk.now in
    let any = c.in_err-write.ensures.err in
    touches_put in_gate 0 any.0 s0 s0 _ (touches_nothing in_gate s0) refl (ap (λ (t : DiskState). t.pending) any.1) (ap (λ (t : DiskState). t.seen) any.1)

pub returns-clause-touches : goal.returns-clause-touches
returns-clause-touches g c =
    let s0 = g.D.Disk.state c.args.disk.now in
    after_barrier c.barrier.result in_gate s0 _ _ (touches_write in_gate 0 _ s0 s0 _ (touches_nothing in_gate s0) refl c.in_ok-write.ensures.ok) c.barrier.ensures.ok c.barrier.ensures.err
