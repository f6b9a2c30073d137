use Rattle.std.proofs.Common.{ap, arith}
use Rattle.careful_write.specs.State.{StoreState}
use Rattle.careful_write.specs.Down.{answered}
use Rattle.indexed_file.proofs.change_set.Frames.{lent_taken, lent_read, lent_given}
use Rattle.indexed_tree.proofs.read.get_key.Goals as goal

pub returns-clause-state : goal.returns-clause-state
returns-clause-state g c =
    let f = c.take_frame-frame.result in
    let s0 = c.args.store.now in
    let lent = lent_taken f s0 c.take_frame-frame.new.store c.take_frame-frame.ensures.free c.take_frame-frame.ensures.state in
    let read = lent_read f s0 c.take_frame-frame.new.store c.read_key-found.new.store (answered c.read_key-found.result) lent c.read_key-found.ensures.state in
    lent_given f _ c.read_key-found.new.store c.give_frame.new.store read c.give_frame.ensures

pub returns-clause-reads : goal.returns-clause-reads
returns-clause-reads g c =
    let taken = ap (λ (s : StoreState). s.reads) c.take_frame-frame.ensures.state in
    let given = ap (λ (s : StoreState). s.reads) c.give_frame.ensures in omega (arith, taken, given, c.read_key-found.ensures.reads)
