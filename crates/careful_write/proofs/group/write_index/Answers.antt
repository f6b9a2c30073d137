use Rattle.std.proofs.Common.{◌+◌, length, refl, ◌∙◌, ap, arith}
use Rattle.block_disk.specs.Blocks.{has_number}
use Rattle.block_disk.specs.Disk.{DiskState}
use Rattle.careful_write.specs.Parts.{in_index}
use Rattle.careful_write.proofs.Touched.{has_still, touches_put, touches_write, quiet_put, length-with_number}
use Rattle.careful_write.proofs.Home.{whole_count}
use Rattle.careful_write.proofs.Intents.{names_step, names_all, on_index}
use Rattle.careful_write.proofs.group.write_index.Goals as goal

pub returns-in_err-write-clause-touches : goal.returns-in_err-write-clause-touches
returns-in_err-write-clause-touches g c =
    let any = c.in_err-write.ensures.err in
    let count = length c.args.group.now.entries in
    touches_put (in_index count) (1 + c.loop-j.j) any.0 _ _ _ c.loop-j.invariant.touched (on_index count c.loop-j.j (omega arith))
    (ap (λ (t : DiskState). t.pending) any.1) (ap (λ (t : DiskState). t.seen) any.1)

pub loop-j-preserved : goal.loop-j-preserved
loop-j-preserved g c =
    let ok = c.in_ok-write.ensures.ok in
    let count = length c.args.group.now.entries in
    let state = g.D.Disk.state c.loop-j.disk in
    let long = whole_count state.seen refl (g.met.D.Disk.whole c.loop-j.disk) in
    record {
      names = names_step c.args.group.now.entries c.loop-j.j state.size c.index_block.result state.seen _ c.loop-j.invariant.names long (omega (arith, c.loop-j.invariant.quiet.size, c.requires.size)) (omega arith) c.index_block.ensures (ap (λ (t : DiskState). t.seen) ok);
      kept = λ n has. ap (λ (t : DiskState). has_number n t.pending) ok ∙ has_still n (1 + c.loop-j.j) state.pending (c.loop-j.invariant.kept n has);
      touched = touches_write (in_index count) (1 + c.loop-j.j) c.index_block.result _ _ _ c.loop-j.invariant.touched (on_index count c.loop-j.j (omega arith)) ok;
      few = omega (arith, ap (λ (t : DiskState). length t.pending) ok, length-with_number (1 + c.loop-j.j) state.pending, c.loop-j.invariant.few);
      quiet = quiet_put (1 + c.loop-j.j) c.index_block.result _ _ _ c.loop-j.invariant.quiet ok;
    }

pub returns-clause-names : goal.returns-clause-names
returns-clause-names g c = names_all c.args.group.now.entries c.loop-j.j _ (omega arith) c.loop-j.invariant.names

pub returns-in_err-write-clause-kept : goal.returns-in_err-write-clause-kept
returns-in_err-write-clause-kept g c = λ n has.
    ap (λ (t : DiskState). has_number n t.pending) c.in_err-write.ensures.err.1 ∙ has_still n (1 + c.loop-j.j) (g.D.Disk.state c.loop-j.disk).pending (c.loop-j.invariant.kept n has)
