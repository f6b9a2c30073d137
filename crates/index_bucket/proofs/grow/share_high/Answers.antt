use Rattle.std.proofs.Common.{◌-◌, take, sym, ap, ◌∙◌, refl}
use Rattle.bucket_page.specs.Pages.{slots_of, inserted}
use Rattle.index_bucket.proofs.Places.{take_below, drop_below}
use Rattle.index_bucket.proofs.GrowLaws.{high_room, packs_so}
use Rattle.index_bucket.proofs.grow.share_high.Goals as goal

pub put_at-requires-clause-room : goal.put_at-requires-clause-room
put_at-requires-clause-room c =
    high_room c.args.size c.args.i c.args.j (slots_of c.args.kind (take c.args.size c.args.low.now)) (slots_of c.args.kind (take c.args.size c.split_front.new.high)) c.args.slot.now c.requires.room c.requires.side c.requires.place c.split_front.ensures.high.slots_are

pub returns-clause-low : goal.returns-clause-low
returns-clause-low c =
    packs_so c.args.kind c.args.size _ _ _ _ (take c.args.size c.split_front.new.low) (sym (take_below (slots_of c.args.kind (take c.args.size c.args.low.now)) c.args.i c.args.j c.args.slot.now c.requires.side c.requires.place)) refl c.split_front.ensures.low

pub returns-clause-high : goal.returns-clause-high
returns-clause-high c =
    let s = slots_of c.args.kind (take c.args.size c.args.low.now) in
    packs_so c.args.kind c.args.size _ _ _ _ (take c.args.size c.put_at.new.bytes)
    (ap (λ r. inserted r (c.args.i - c.args.j) c.args.slot.now) c.split_front.ensures.high.slots_are ∙ sym (drop_below s c.args.i c.args.j c.args.slot.now c.requires.side c.requires.place))
    c.split_front.ensures.high.next_is c.put_at.ensures
