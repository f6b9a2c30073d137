use Rattle.std.proofs.Common.{◌≡◌, ◌<◌, ℕ, List, IfSome, replicate, refl, ap, subst, sym, arith}
use Rattle.careful_write.specs.block_disk.Blocks.{block_at}
use Rattle.careful_write.specs.block_disk.Disk.{DiskState}
use Rattle.careful_write.specs.Content.{content_of, gate_block}
use Rattle.volume.specs.Empty.{IsEmptyVolume, is_formatted}
use Rattle.volume.proofs.Empties.{empty_put, gate_put, gate_shut, zeros_touched, home_formatted, after_barrier, on_ok}
use Rattle.careful_write.proofs.Touched.{touches_put, touches_write}
use Rattle.volume.proofs.EmptyCatalogs.{tells_told}
use Rattle.volume.proofs.empty.write_empty.Goals as goal

pub returns-clause-empty : goal.returns-clause-empty
returns-clause-empty g c =
    let state = g.D.Disk.state in
    let same = c.in_ok-write_zeros.ensures.counts.size in
    let big = c.requires.size in
    let within : 518 < (state c.write_zeros.new.disk).size = omega arith in
    on_ok c.barrier.result c.barrier.ensures.ok (λ is. subst (λ (s : DiskState). IfSome s.seen (λ (bs : List (List ℕ)). IsEmptyVolume c.args.home.now (content_of bs))) (sym is)
    (empty_put c.args.home.now (state c.write_zeros.new.disk) (state c.write.new.self) c.write_home.new.block c.in_ok-write.ensures.ok c.write_home.ensures.bytes within
    (g.met.D.Disk.whole c.write_zeros.new.disk) (gate_shut (state c.write_zeros.new.disk).seen c.in_ok-write_zeros.ensures.gate) c.in_ok-write_zeros.ensures.zeros))

pub returns-clause-tells : goal.returns-clause-tells
returns-clause-tells g c =
    let home = c.args.home.now in
    let has = c.layouts_are_read_as_written.ensures.home_written home (replicate {A = ℕ} 512 0) c.write_home.ensures.home refl in
    on_ok c.barrier.result (returns-clause-empty g c) (λ empty. tells_told home (g.D.Disk.state c.barrier.new.self).seen c.write_home.ensures.home has empty)

pub returns-clause-gate : goal.returns-clause-gate
returns-clause-gate g c =
    let state = g.D.Disk.state in
    on_ok c.barrier.result c.barrier.ensures.ok (λ is. subst (λ (s : DiskState). IfSome s.seen (λ (bs : List (List ℕ)). block_at bs 0 ≡ gate_block 0)) (sym is)
    (gate_put (state c.write_zeros.new.disk) (state c.write.new.self) 518 c.write_home.new.block c.in_ok-write.ensures.ok (omega arith) c.in_ok-write_zeros.ensures.gate))

pub returns-in_err-write_zeros-clause-touches : goal.returns-in_err-write_zeros-clause-touches
returns-in_err-write_zeros-clause-touches g c = zeros_touched c.args.home.now.slots _ _ c.write_zeros.ensures.touches

pub returns-in_err-write-clause-touches : goal.returns-in_err-write-clause-touches
returns-in_err-write-clause-touches g c =
    let slots = c.args.home.now.slots in
    let any = c.in_err-write.ensures.err in
    touches_put (is_formatted slots) 518 any.0 _ _ _ (zeros_touched slots _ _ c.write_zeros.ensures.touches) (home_formatted slots) (ap (λ (t : DiskState). t.pending) any.1) (ap (λ (t : DiskState). t.seen) any.1)

pub returns-clause-touches : goal.returns-clause-touches
returns-clause-touches g c =
    let slots = c.args.home.now.slots in
    after_barrier c.barrier.result (is_formatted slots) _ _ _
    (touches_write (is_formatted slots) 518 _ _ _ _ (zeros_touched slots _ _ c.write_zeros.ensures.touches) (home_formatted slots) c.in_ok-write.ensures.ok) c.barrier.ensures.ok c.barrier.ensures.err
