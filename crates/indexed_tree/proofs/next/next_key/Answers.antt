use Rattle.careful_write.specs.Down.{answered}
use Rattle.indexed_file.proofs.change_set.Frames.{lent_taken, lent_read, lent_given}
use Rattle.indexed_tree.proofs.next.next_key.Goals as goal

pub returns-clause-state : goal.returns-clause-state
returns-clause-state g c =
    let f = c.take_frame-frame.result in
    let s0 = c.args.store.now in
    let lent = lent_taken f s0 c.take_frame-frame.new.store c.take_frame-frame.ensures.free c.take_frame-frame.ensures.state in
    let read = lent_read f s0 c.take_frame-frame.new.store c.find_next-found.new.store (answered c.find_next-found.result) lent c.find_next-found.ensures.state in
    lent_given f _ c.find_next-found.new.store c.give_frame.new.store read c.give_frame.ensures
