use Rattle.std.proofs.Common.{sym, ◌∙◌, ap, arith}
use Rattle.block_disk.specs.Blocks.{Table, numbers_of, laid_over}
use Rattle.block_disk.proofs.Laid.{length-numbers_of, numbers_of-upsert, laid_over-upsert, below-upsert, whole-upsert}
use Rattle.block_disk.proofs.Torn.{or_false}
use Rattle.block_disk.proofs.crash.CrashDiskDisk.write.Goals as goal

pub put-requires : goal.put-requires
put-requires g c = omega (arith, length-numbers_of c.args.self.now.pending.entries)

pub invariant_of-self : goal.invariant_of-self
invariant_of-self g c = record {
  room = ap (λ (t : Table). t.room) c.put.ensures ∙ c.args.self.now.room;
  in_range = rw c.put.ensures (below-upsert _ c.args.n c.args.bytes.now c.args.self.now.pending.entries c.requires.in_range c.args.self.now.in_range);
  whole_blocks = rw c.put.ensures (whole-upsert c.args.n c.args.bytes.now c.args.self.now.pending.entries c.told-bytes c.args.self.now.whole_blocks);
  call_room = c.args.self.now.call_room;
}

pub invariant_of-self-else-self : goal.invariant_of-self-else-self
invariant_of-self-else-self g c = record {
  room = ap (λ (t : Table). t.room) c.put.ensures ∙ c.args.self.now.room;
  in_range = rw c.put.ensures (below-upsert _ c.args.n c.args.bytes.now c.args.self.now.pending.entries c.requires.in_range c.args.self.now.in_range);
  whole_blocks = rw c.put.ensures (whole-upsert c.args.n c.args.bytes.now c.args.self.now.pending.entries c.told-bytes c.args.self.now.whole_blocks);
  call_room = c.args.self.now.call_room;
}

pub returns-clause-ok : goal.returns-clause-ok
returns-clause-ok g c =
    let entries = c.args.self.now.pending.entries in
    let told = g.P.Platter.content c.args.self.now.platter in
    let pending = ap (λ (t : Table). numbers_of t.entries) c.put.ensures ∙ numbers_of-upsert c.args.n c.args.bytes.now entries in
    let seen = ap (λ (t : Table). laid_over t.entries told) c.put.ensures ∙ laid_over-upsert c.args.n c.args.bytes.now entries told in
    let stopped = c.if-self.false ∙ sym (or_false c.burn.result c.args.self.now.stopped c.if-self.false) in
    λ i. record {
      size = g.P.Platter.size c.args.self.now.platter;
      faults = g.P.Platter.faults c.args.self.now.platter;
      stops = c.args.self.now.stops;
      stopped = stopped i;
      calls = record { number = c.args.self.now.call_number; first = c.args.self.now.calls.items };
      pending = pending i;
      seen = seen i;
    }

pub returns-then-self-clause-err : goal.returns-then-self-clause-err
returns-then-self-clause-err g c =
    let entries = c.args.self.now.pending.entries in
    let told = g.P.Platter.content c.args.self.now.platter in
    let pending = ap (λ (t : Table). numbers_of t.entries) c.put.ensures ∙ numbers_of-upsert c.args.n c.args.bytes.now entries in
    let seen = ap (λ (t : Table). laid_over t.entries told) c.put.ensures ∙ laid_over-upsert c.args.n c.args.bytes.now entries told in (
      c.args.bytes.now,
      λ i. record {
        size = g.P.Platter.size c.args.self.now.platter;
        faults = g.P.Platter.faults c.args.self.now.platter;
        stops = c.saturating_add-self.ensures i;
        stopped = c.if-self.true i;
        calls = record { number = c.args.self.now.call_number; first = c.args.self.now.calls.items };
        pending = pending i;
        seen = seen i;
      },
    )
