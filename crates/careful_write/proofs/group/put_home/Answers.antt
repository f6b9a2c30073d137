use Rattle.std.proofs.Common.{◌<◌, [], length, get_or, ◌∙◌, ap, arith}
use Rattle.block_disk.specs.Disk.{DiskState}
use Rattle.block_disk.proofs.Laid.{has_number_at, has_its_number, step_rest, over_done}
use Rattle.careful_write.specs.Parts.{in_group}
use Rattle.careful_write.proofs.Touched.{touches_write, touches_put, quiet_put, length-with_number}
use Rattle.careful_write.proofs.group.put_home.Goals as goal

pub write-requires-clause-in_range : goal.write-requires-clause-in_range
write-requires-clause-in_range g c =
    let entries = c.args.group.now.entries in
    let within : c.loop-i.i < length entries = omega arith in
    let in_home = c.requires.in_home (get_or entries c.loop-i.i (0, [])).0 (has_number_at c.loop-i.i entries within) in
    omega (arith, c.at-n.ensures.number, in_home.1, c.loop-i.invariant.quiet.size)

pub returns-in_err-write-clause-touches : goal.returns-in_err-write-clause-touches
returns-in_err-write-clause-touches g c =
    let entries = c.args.group.now.entries in
    let any = c.in_err-write.ensures.err in
    touches_put (in_group entries) c.at-n.result.0 any.0 _ _ _ c.loop-i.invariant.touched
    (has_its_number entries c.loop-i.i c.len-i-end.ensures.ascending (omega arith) c.at-n.result.0 c.at-n.ensures.number)
    (ap (λ (t : DiskState). t.pending) any.1) (ap (λ (t : DiskState). t.seen) any.1)

pub loop-i-preserved : goal.loop-i-preserved
loop-i-preserved g c =
    let entries = c.args.group.now.entries in
    let ok = c.in_ok-write.ensures.ok in
    let number = has_its_number entries c.loop-i.i c.len-i-end.ensures.ascending (omega arith) c.at-n.result.0 c.at-n.ensures.number in
    record {
      rest = step_rest entries c.loop-i.i c.len-i-end.ensures.ascending (omega arith) c.at-n.result.0 c.at-n.ensures.number c.at-n.result.1.now _ _ c.at-n.ensures.bytes (ap (λ (t : DiskState). t.seen) ok) ∙ c.loop-i.invariant.rest;
      touched = touches_write (in_group entries) c.at-n.result.0 c.at-n.result.1.now _ _ _ c.loop-i.invariant.touched number ok;
      few = omega (arith, ap (λ (t : DiskState). length t.pending) ok, length-with_number c.at-n.result.0 (g.D.Disk.state c.loop-i.disk).pending, c.loop-i.invariant.few);
      quiet = quiet_put c.at-n.result.0 c.at-n.result.1.now _ _ _ c.loop-i.invariant.quiet ok;
    }

pub returns-clause-seen : goal.returns-clause-seen
returns-clause-seen g c =
    over_done c.args.group.now.entries c.loop-i.i _ (omega arith) ∙ c.loop-i.invariant.rest
