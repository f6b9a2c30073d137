use Rattle.std.proofs.Common.{take, drop}
use Rattle.std.proofs.lemmas.List.{length-take-le}
use Rattle.bucket_page.specs.Pages.{slots_of, next_of}
use Rattle.bucket_page.proofs.Fronts.{front_held, front_held_by}
use Rattle.bucket_page.proofs.front.split_front.Goals as goal

pub returns-clause-low : goal.returns-clause-low
returns-clause-low c =
    let bytes = take c.args.size c.args.low.now in
    front_held c.args.kind c.args.size (take c.args.at (slots_of c.args.kind bytes)) (next_of bytes) c.args.low.now c.split_slots.new.low c.requires.low_within c.split_slots.auto.low c.split_slots.ensures.low

pub returns-clause-high : goal.returns-clause-high
returns-clause-high c =
    let size = c.args.size in
    let bytes = take size c.args.low.now in
    front_held_by c.args.kind size _ (drop c.args.at (slots_of c.args.kind bytes)) (next_of (take size c.args.high.now)) c.args.high.now c.split_slots.new.high c.requires.high_within c.split_slots.auto.high
    (length-take-le size c.args.low.now c.requires.low_within) c.split_slots.ensures.high
