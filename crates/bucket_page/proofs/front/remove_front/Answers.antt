use Rattle.std.proofs.Common.{take}
use Rattle.bucket_page.specs.Pages.{slots_of, next_of, removed}
use Rattle.bucket_page.proofs.Fronts.{front_held}
use Rattle.bucket_page.proofs.front.remove_front.Goals as goal

pub returns-clause-packed : goal.returns-clause-packed
returns-clause-packed c =
    let bytes = take c.args.size c.args.frame.now in
    front_held c.args.kind c.args.size (removed (slots_of c.args.kind bytes) c.args.i) (next_of bytes) c.args.frame.now c.remove_slot.new.bytes c.requires.within c.remove_slot.auto.bytes c.remove_slot.ensures
