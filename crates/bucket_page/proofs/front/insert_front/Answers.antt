use Rattle.std.proofs.Common.{take}
use Rattle.bucket_page.specs.Pages.{slots_of, next_of, inserted}
use Rattle.bucket_page.proofs.Fronts.{front_held}
use Rattle.bucket_page.proofs.front.insert_front.Goals as goal

pub returns-clause-yes : goal.returns-clause-yes
returns-clause-yes c = λ is.
    let bytes = take c.args.size c.args.frame.now in
    front_held c.args.kind c.args.size (inserted (slots_of c.args.kind bytes) c.args.i c.args.slot.now) (next_of bytes) c.args.frame.now c.insert_slot.new.bytes c.requires.within c.insert_slot.auto.bytes (c.insert_slot.ensures.yes is)
