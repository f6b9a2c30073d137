use Rattle.std.proofs.Common.{◌<◌, ◌+◌, ◌-◌, Result, Err, ℕ, ap, arith}
use Rattle.block_disk.specs.Disk.{DiskState}
use Rattle.change_set.specs.careful_write.State.{StoreState}
use Rattle.change_set.specs.careful_write.Down.{answered}
use Rattle.change_set.specs.careful_write.declared.down.Down.{Down}
use Rattle.change_set.proofs.careful_write.Reading.{more_read, all_read}
use Rattle.change_set.proofs.Frames.{read_again}
use Rattle.index_blocks.proofs.StageLaws.{told_same}
use Rattle.index_blocks.proofs.WayLaws.{way_step, way_noted, noted}
use Rattle.index_blocks.proofs.descent.descend.Goals as goal

pub returns-in-Err-clause-reads : goal.returns-in-Err-clause-reads
returns-in-Err-clause-reads g c =
    let h = c.args.head.now in
    all_read (c.loop-i.i + 1) (h.levels - 1) h.bucket c.args.store.now.reads c.visit.new.store.reads (omega (arith, c.loop-i-test.true))
    (more_read c.loop-i.i h.bucket c.args.store.now.reads c.loop-i.store.reads c.visit.new.store.reads c.loop-i.invariant.reads c.visit.ensures.reads)

pub returns-clause-reads : goal.returns-clause-reads
returns-clause-reads g c =
    let h = c.args.head.now in
    all_read c.loop-i.i (h.levels - 1) h.bucket c.args.store.now.reads c.loop-i.store.reads (omega (arith, c.loop-i.auto.i-end)) c.loop-i.invariant.reads

pub returns-in-Err-clause-state : goal.returns-in-Err-clause-state
returns-in-Err-clause-state g c =
    let r : Result ℕ Down = Err c.in-Err.down in
    read_again c.args.frame.now c.args.store.now c.loop-i.store c.visit.new.store (answered r) c.loop-i.invariant.state c.in-Err.ensures.state

pub loop-i-preserved : goal.loop-i-preserved
loop-i-preserved g c =
    let h = c.args.head.now in
    let k = c.args.key.now in
    let told = c.args.store.now.current in
    let same = ap (λ (s : StoreState). s.current) c.loop-i.invariant.state in
    record {
      state = read_again c.args.frame.now c.args.store.now c.loop-i.store c.visit.new.store (λ (d : DiskState). d) c.loop-i.invariant.state c.in-Ok.ensures.state;
      reads = more_read c.loop-i.i h.bucket c.args.store.now.reads c.loop-i.store.reads c.visit.new.store.reads c.loop-i.invariant.reads c.visit.ensures.reads;
      out = c.visit.ensures.out;
      there = c.in-Ok.ensures.used;
      here = way_step told h k c.loop-i.i c.loop-i.n c.in-Ok.to c.loop-i-test.true c.loop-i.invariant.here (told_same _ _ _ same c.in-Ok.ensures.child);
      noted = way_noted told h k c.loop-i.path c.loop-i.i c.loop-i.n (omega arith) c.loop-i.invariant.here c.loop-i.invariant.noted;
      noted_used = noted (λ steps m. m < h.used) c.loop-i.path c.loop-i.i c.loop-i.n (omega arith) c.loop-i.invariant.noted_used c.loop-i.invariant.there;
    }
