use Rattle.std.proofs.Common.{◌+◌, ◌-◌, take, ap, ◌∙◌, refl}
use Rattle.bucket_page.specs.Pages.{slots_of, inserted}
use Rattle.index_bucket.proofs.GrowLaws.{low_first, low_other, low_put, low_is, low_rest, high_first, high_other, high_put, high_is, high_rest, packs_so, upper_there}
use Rattle.index_bucket.proofs.grow.share_two.Goals as goal

pub share-requires-clause-low_room : goal.share-requires-clause-low_room
share-requires-clause-low_room c =
    low_first c.args.size c.args.at c.args.half (slots_of c.args.kind (take c.args.size c.args.low.now)) c.args.first.now c.args.second.now c.requires.place c.requires.within c.if-next-half.true c.requires.low_room

pub share-requires-clause-high_room : goal.share-requires-clause-high_room
share-requires-clause-high_room c =
    low_other c.args.size c.args.at c.args.half (slots_of c.args.kind (take c.args.size c.args.low.now)) c.args.first.now c.args.second.now c.requires.place c.requires.within c.if-next-half.true c.requires.high_room

pub put_at-requires-clause-room : goal.put_at-requires-clause-room
put_at-requires-clause-room c =
    low_put c.args.size c.args.at c.args.half (slots_of c.args.kind (take c.args.size c.args.low.now)) c.args.first.now c.args.second.now c.requires.place c.requires.within (slots_of c.args.kind (take c.args.size c.share.new.low)) c.if-next-half.true c.requires.low_room c.share.ensures.low.slots_are

pub returns-then-next-half-clause-low : goal.returns-then-next-half-clause-low
returns-then-next-half-clause-low c =
    packs_so c.args.kind c.args.size _ _ _ _ (take c.args.size c.put_at.new.bytes)
    (ap (λ r. inserted r (c.args.at + 1) c.args.second.now) c.share.ensures.low.slots_are
    ∙ low_is c.args.size c.args.at c.args.half (slots_of c.args.kind (take c.args.size c.args.low.now)) c.args.first.now c.args.second.now c.requires.place c.requires.within c.if-next-half.true)
    c.share.ensures.low.next_is c.put_at.ensures

pub returns-then-next-half-clause-high : goal.returns-then-next-half-clause-high
returns-then-next-half-clause-high c =
    packs_so c.args.kind c.args.size _ _ _ _ (take c.args.size c.share.new.high)
    (low_rest c.args.size c.args.at c.args.half (slots_of c.args.kind (take c.args.size c.args.low.now)) c.args.first.now c.args.second.now c.requires.place c.requires.within c.if-next-half.true)
    refl c.share.ensures.high

pub share-requires-2-clause-low_room : goal.share-requires-2-clause-low_room
share-requires-2-clause-low_room c =
    high_first c.args.size c.args.at c.args.half (slots_of c.args.kind (take c.args.size c.args.low.now)) c.args.first.now c.args.second.now c.requires.place c.requires.within c.if-next-half.false c.requires.low_room

pub share-requires-2-clause-high_room : goal.share-requires-2-clause-high_room
share-requires-2-clause-high_room c =
    high_other c.args.size c.args.at c.args.half (slots_of c.args.kind (take c.args.size c.args.low.now)) c.args.first.now c.args.second.now c.requires.place c.requires.within c.if-next-half.false c.requires.high_room

pub put_at-requires-2-clause-place : goal.put_at-requires-2-clause-place
put_at-requires-2-clause-place c =
    upper_there c.args.at c.args.half (slots_of c.args.kind (take c.args.size c.args.low.now)) (slots_of c.args.kind (take c.args.size c.share-2.new.high)) c.args.first.now c.requires.place c.if-next-half.false c.share-2.ensures.high.slots_are

pub put_at-requires-2-clause-room : goal.put_at-requires-2-clause-room
put_at-requires-2-clause-room c =
    high_put c.args.size c.args.at c.args.half (slots_of c.args.kind (take c.args.size c.args.low.now)) c.args.first.now c.args.second.now c.requires.place c.requires.within (slots_of c.args.kind (take c.args.size c.share-2.new.high)) c.if-next-half.false c.requires.high_room c.share-2.ensures.high.slots_are

pub returns-clause-low : goal.returns-clause-low
returns-clause-low c =
    packs_so c.args.kind c.args.size _ _ _ _ (take c.args.size c.share-2.new.low)
    (high_rest c.args.size c.args.at c.args.half (slots_of c.args.kind (take c.args.size c.args.low.now)) c.args.first.now c.args.second.now c.requires.place c.requires.within c.if-next-half.false)
    refl c.share-2.ensures.low

pub returns-clause-high : goal.returns-clause-high
returns-clause-high c =
    packs_so c.args.kind c.args.size _ _ _ _ (take c.args.size c.put_at-2.new.bytes)
    (ap (λ r. inserted r (c.args.at + 1 - c.args.half) c.args.second.now) c.share-2.ensures.high.slots_are
    ∙ high_is c.args.size c.args.at c.args.half (slots_of c.args.kind (take c.args.size c.args.low.now)) c.args.first.now c.args.second.now c.requires.place c.requires.within c.if-next-half.false)
    c.share-2.ensures.high.next_is c.put_at-2.ensures
