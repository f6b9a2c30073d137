use Rattle.std.proofs.Common.{◌+◌, length, refl, ap, arith}
use Rattle.block_disk.specs.Disk.{DiskState}
use Rattle.careful_write.specs.Parts.{in_data}
use Rattle.careful_write.proofs.Touched.{touches_put, touches_write, quiet_put, length-with_number}
use Rattle.careful_write.proofs.Home.{whole_count}
use Rattle.careful_write.proofs.Intents.{held_step, on_data}
use Rattle.careful_write.proofs.Written.{data_more}
use Rattle.careful_write.proofs.group.write_data.Goals as goal

pub returns-in_err-write-clause-touches : goal.returns-in_err-write-clause-touches
returns-in_err-write-clause-touches g c =
    let any = c.in_err-write.ensures.err in
    let count = length c.args.group.now.entries in
    touches_put (in_data count) (6 + c.loop-i.i) any.0 _ _ _ c.loop-i.invariant.touched (on_data count c.loop-i.i (omega arith))
    (ap (λ (t : DiskState). t.pending) any.1) (ap (λ (t : DiskState). t.seen) any.1)

pub loop-i-preserved : goal.loop-i-preserved
loop-i-preserved g c =
    let ok = c.in_ok-write.ensures.ok in
    let count = length c.args.group.now.entries in
    let state = g.D.Disk.state c.loop-i.disk in
    let long = whole_count state.seen refl (g.met.D.Disk.whole c.loop-i.disk) in
    record {
      held = held_step c.args.group.now.entries c.loop-i.i state.size c.at.result.1.now state.seen _ c.loop-i.invariant.held long (omega (arith, c.loop-i.invariant.quiet.size, c.requires.size)) (omega arith) c.at.ensures.bytes (ap (λ (t : DiskState). t.seen) ok);
      pends = data_more c.loop-i.i _ _ (ap (λ (t : DiskState). t.pending) ok) c.loop-i.invariant.pends;
      touched = touches_write (in_data count) (6 + c.loop-i.i) c.at.result.1.now _ _ _ c.loop-i.invariant.touched (on_data count c.loop-i.i (omega arith)) ok;
      few = omega (arith, ap (λ (t : DiskState). length t.pending) ok, length-with_number (6 + c.loop-i.i) state.pending, c.loop-i.invariant.few);
      quiet = quiet_put (6 + c.loop-i.i) c.at.result.1.now _ _ _ c.loop-i.invariant.quiet ok;
    }
