use Rattle.change_set.specs.block_disk.Disk.{DiskState}
use Rattle.seq_file.proofs.FrameSteps.{in_frame_more}
use Rattle.seq_file.proofs.rewrite.place_behind.Goals as goal

pub returns-clause-state : goal.returns-clause-state
returns-clause-state g c =
    let f = c.args.frame.now in
    let same : DiskState → DiskState = λ d. d in
    in_frame_more f c.args.store.now c.clear_page.new.store c.push_slot-2.new.store same
    (in_frame_more f c.args.store.now c.push_slot.new.store c.clear_page.new.store same c.push_slot.ensures.state c.clear_page.ensures.state) c.push_slot-2.ensures.state
