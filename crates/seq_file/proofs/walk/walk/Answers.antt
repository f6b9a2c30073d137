use Rattle.std.proofs.Common.{◌+◌, ◌∙◌, ℕ, List, Option, IfSome, Result, Err, refl, ap, sym, subst, arith}
use Rattle.change_set.specs.block_disk.Disk.{DiskState}
use Rattle.change_set.specs.careful_write.Down.{answered}
use Rattle.change_set.specs.careful_write.declared.down.Down.{Down}
use Rattle.change_set.specs.careful_write.State.{StoreState}
use Rattle.change_set.proofs.careful_write.Reading.{more_read, all_read}
use Rattle.change_set.specs.Files.{IsPlaced}
use Rattle.change_set.proofs.Frames.{read_again}
use Rattle.seq_file.specs.Frames.{page_in, Reads}
use Rattle.seq_file.proofs.FrameSteps.{reads_own}
use Rattle.seq_file.proofs.WalkLaws.{walk_begins, walk_more, walk_leaves, is_read}
use Rattle.seq_file.proofs.walk.walk.Goals as goal

pub returns-then-left-slots-clause-state : goal.returns-then-left-slots-clause-state
returns-then-left-slots-clause-state g c =
    read_again c.args.frame.now c.args.store.now c.loop-bucket.store c.load_slots.new.store (λ (d : DiskState). d) c.loop-bucket.invariant.frame c.in-Ok.ensures.state

pub returns-in-Err-clause-state : goal.returns-in-Err-clause-state
returns-in-Err-clause-state g c =
    let r : Result (Unit {0}) Down = Err c.in-Err.down in
    read_again c.args.frame.now c.args.store.now c.loop-bucket.store c.load_slots.new.store (answered r) c.loop-bucket.invariant.frame c.in-Err.ensures.state

pub loop-bucket-init : goal.loop-bucket-init
loop-bucket-init g c = record {
  frame = reads_own c.args.frame.now c.args.store.now c.requires.out;
  reads = omega arith;
  out = c.requires.out;
  placed = c.requires.placed;
  within = omega (arith, c.start_for-start.ensures.used);
  fits = omega (arith, c.start_for-start.ensures.before);
  current = refl;
  place = walk_begins c.args.store.now.current c.args.head.now c.args.place.now c.start_for-start.result c.args.n c.start_for-start.ensures.before c.start_for-start.ensures.either c.requires.before;
}

pub loop-bucket-preserved : goal.loop-bucket-preserved
loop-bucket-preserved g c =
    let h = c.args.head.now in
    let page = page_in h c.load_slots.new.store c.args.frame.now in
    let read = subst (λ (told : Option (List (List ℕ))). IfSome told (Reads h c.loop-bucket.bucket page)) c.loop-bucket.invariant.current c.in-Ok.ensures.read in
    record {
      frame = read_again c.args.frame.now c.args.store.now c.loop-bucket.store c.load_slots.new.store (λ (d : DiskState). d) c.loop-bucket.invariant.frame c.in-Ok.ensures.state;
      reads = more_read c.loop-bucket.bucket h.bucket c.args.store.now.reads c.loop-bucket.store.reads c.load_slots.new.store.reads c.loop-bucket.invariant.reads c.load_slots.ensures.reads;
      out = c.in-Ok.ensures.out;
      placed = subst (λ (s : StoreState). IsPlaced h s.disk) (sym c.in-Ok.ensures.state) c.loop-bucket.invariant.placed;
      within = omega (arith, c.loop-bucket-test.true);
      fits = omega (arith, c.loop-bucket.invariant.fits, c.if-left-slots.false);
      current = ap (λ (s : StoreState). s.current) c.in-Ok.ensures.state ∙ c.loop-bucket.invariant.current;
      place = walk_more c.args.store.now.current h c.loop-bucket.bucket c.args.n c.loop-bucket.left c.in-Ok.slots page (omega (arith, c.loop-bucket-test.true)) c.loop-bucket.invariant.place read c.in-Ok.ensures.number (omega (arith, c.if-left-slots.false));
    }

pub returns-then-left-slots-clause-stands : goal.returns-then-left-slots-clause-stands
returns-then-left-slots-clause-stands g c =
    let h = c.args.head.now in
    let page = page_in h c.load_slots.new.store c.args.frame.now in
    let read = subst (λ (told : Option (List (List ℕ))). IfSome told (Reads h c.loop-bucket.bucket page)) c.loop-bucket.invariant.current c.in-Ok.ensures.read in
    is_read c.args.store.now.current h c.loop-bucket.bucket c.in-Ok.slots page read c.in-Ok.ensures.number (omega (arith, c.if-left-slots.true))

pub returns-then-left-slots-clause-before : goal.returns-then-left-slots-clause-before
returns-then-left-slots-clause-before g c = walk_leaves c.args.store.now.current c.args.head.now c.loop-bucket.bucket c.args.n c.loop-bucket.left c.loop-bucket.invariant.place

pub returns-then-left-slots-clause-reads : goal.returns-then-left-slots-clause-reads
returns-then-left-slots-clause-reads g c =
    let h = c.args.head.now in
    all_read (c.loop-bucket.bucket + 1) h.used h.bucket c.args.store.now.reads c.load_slots.new.store.reads (omega (arith, c.loop-bucket-test.true))
    (more_read c.loop-bucket.bucket h.bucket c.args.store.now.reads c.loop-bucket.store.reads c.load_slots.new.store.reads c.loop-bucket.invariant.reads c.load_slots.ensures.reads)

pub returns-in-Err-clause-reads : goal.returns-in-Err-clause-reads
returns-in-Err-clause-reads g c =
    let h = c.args.head.now in
    all_read (c.loop-bucket.bucket + 1) h.used h.bucket c.args.store.now.reads c.load_slots.new.store.reads (omega (arith, c.loop-bucket-test.true))
    (more_read c.loop-bucket.bucket h.bucket c.args.store.now.reads c.loop-bucket.store.reads c.load_slots.new.store.reads c.loop-bucket.invariant.reads c.load_slots.ensures.reads)

pub returns-clause-reads : goal.returns-clause-reads
returns-clause-reads g c =
    let h = c.args.head.now in
    all_read c.loop-bucket.bucket h.used h.bucket c.args.store.now.reads c.loop-bucket.store.reads c.loop-bucket.invariant.within c.loop-bucket.invariant.reads
