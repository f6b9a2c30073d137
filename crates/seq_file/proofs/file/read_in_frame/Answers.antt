use Rattle.std.proofs.Common.{ap, subst, sym, arith}
use Rattle.change_set.specs.careful_write.State.{StoreState}
use Rattle.seq_file.specs.Layout.{IsRecord}
use Rattle.seq_file.specs.Frames.{page_in}
use Rattle.seq_file.proofs.RewriteLaws.{read_found, read_none}
use Rattle.seq_file.proofs.WalkLaws.{stands_so}
use Rattle.seq_file.proofs.file.read_in_frame.Goals as goal

pub returns-in-Ok-Some-clause-found : goal.returns-in-Ok-Some-clause-found
returns-in-Ok-Some-clause-found g c = λ is.
    let h = c.args.head.now in
    let spot = rw c.in-Ok-Some.field-0-is at c.in-Ok-Some.ensures.spot in
    let below = rw c.in-Ok-Some.field-0-is at c.in-Ok-Some.ensures.below in
    read_found c.args.store.now.current h c.args.n c.in-Ok-Some.spot.bucket c.in-Ok-Some.spot.slot (page_in h c.locate.new.store c.args.frame.now) c.read_record.new.out below spot (c.read_record.ensures.read is)

pub returns-in-Ok-Some-clause-absent : goal.returns-in-Ok-Some-clause-absent
returns-in-Ok-Some-clause-absent g c = λ is.
    let h = c.args.head.now in
    let spot = rw c.in-Ok-Some.field-0-is at c.in-Ok-Some.ensures.spot in
    let below = rw c.in-Ok-Some.field-0-is at c.in-Ok-Some.ensures.below in
    read_none c.args.store.now.current h c.args.n c.in-Ok-Some.spot.bucket c.in-Ok-Some.spot.slot (page_in h c.locate.new.store c.args.frame.now) below spot (λ kept. grind (arith, c.read_record.ensures.found.1 kept, is))

pub returns-in-Ok-Some-clause-stands : goal.returns-in-Ok-Some-clause-stands
returns-in-Ok-Some-clause-stands g c = λ is.
    let h = c.args.head.now in
    let stands = rw c.in-Ok-Some.field-0-is at c.in-Ok-Some.ensures.stands in
    let below = rw c.in-Ok-Some.field-0-is at c.in-Ok-Some.ensures.below in
    let there = rw c.in-Ok-Some.field-0-is at c.in-Ok-Some.ensures.there in
    let slots = rw c.in-Ok-Some.field-0-is at c.in-Ok-Some.ensures.slots in
    let kept = subst (IsRecord h.mrs) (sym (c.read_record.ensures.read is)) (c.read_record.ensures.found.0 is) in
    stands_so c.args.store.now.current h c.in-Ok-Some.spot.bucket c.in-Ok-Some.spot.slot (page_in h c.locate.new.store c.args.frame.now) c.read_record.new.out stands below (omega (arith, there, slots)) (c.read_record.ensures.read is) kept

pub returns-in-Ok-Some-clause-reads : goal.returns-in-Ok-Some-clause-reads
returns-in-Ok-Some-clause-reads g c = let same = ap (λ (s : StoreState). s.reads) c.read_record.ensures.same in omega (arith, same, c.locate.ensures.reads)
