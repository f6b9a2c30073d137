use Rattle.std.proofs.Common.{◌≡◌, ◌+◌, length, drop, ap, sym, ◌∙◌, arith, length-drop}
use Rattle.std.proofs.lemmas.List.{drop-drop}
use Rattle.bucket_page.specs.Pages.{slots_from, joined}
use Rattle.bucket_page.proofs.Walks.{none_more, one_more, joined_within}
use Rattle.bucket_page.proofs.layout.slots_end.Goals as goal

pub returns-in-None : goal.returns-in-None
returns-in-None c =
    let rest = drop 16 c.args.bytes.now in
    let before = length (joined (slots_from c.args.kind c.loop-k.k rest)) in
    let here : drop c.loop-k.at c.args.bytes.now ≡ drop before rest = ap (λ n. drop n c.args.bytes.now) c.loop-k.invariant.at ∙ sym (drop-drop before 16 c.args.bytes.now) in
    let no = none_more c.args.kind c.loop-k.k c.args.count rest (drop c.loop-k.at c.args.bytes.now) c.loop-k-test.true c.loop-k.invariant.suit here c.in-None.ensures.none in
    record { some = tt; within = tt; none = no }

pub loop-k-preserved : goal.loop-k-preserved
loop-k-preserved c =
    let rest = drop 16 c.args.bytes.now in
    let before = length (joined (slots_from c.args.kind c.loop-k.k rest)) in
    let here : drop c.loop-k.at c.args.bytes.now ≡ drop before rest = ap (λ n. drop n c.args.bytes.now) c.loop-k.invariant.at ∙ sym (drop-drop before 16 c.args.bytes.now) in
    let more = one_more c.args.kind c.loop-k.k rest (drop c.loop-k.at c.args.bytes.now) c.loop-k.invariant.suit here c.in-Some.ensures.some.0 in
    record {
      suit = more.suit;
      at = omega (arith, more.long, c.in-Some.ensures.some.1, c.loop-k.invariant.at);
      within = omega (arith, more.long, c.in-Some.ensures.some.1, c.loop-k.invariant.at, joined_within c.args.kind (c.loop-k.k + 1) rest more.suit, length-drop 16 c.args.bytes.now, c.requires);
    }
