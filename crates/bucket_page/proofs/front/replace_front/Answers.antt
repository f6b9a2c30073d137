use Rattle.std.proofs.Common.{take}
use Rattle.bucket_page.specs.Pages.{slots_of, next_of, replaced}
use Rattle.bucket_page.proofs.Fronts.{front_held}
use Rattle.bucket_page.proofs.front.replace_front.Goals as goal

pub returns-clause-packed : goal.returns-clause-packed
returns-clause-packed c =
    let bytes = take c.args.size c.args.frame.now in
    front_held c.args.kind c.args.size (replaced (slots_of c.args.kind bytes) c.args.i c.args.slot.now) (next_of bytes) c.args.frame.now c.replace_slot.new.bytes c.requires.within c.replace_slot.auto.bytes c.replace_slot.ensures
