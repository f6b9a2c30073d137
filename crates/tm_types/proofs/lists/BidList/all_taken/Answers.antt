use Rattle.std.proofs.Common.{◌≡◌, ◌+◌, Bool, true, false, List, map, drop, refl, ap, sym, ◌∙◌, rules}
use Rattle.vms_base.specs.declared.ids.Bid.{Bid}
use Rattle.vms_base.specs.Ids.{bid_of}
use Rattle.commit_protocol.specs.Rows.{all_taken, has_bid}
use Rattle.tm_types.specs.Parts.{child_of}
use Rattle.tm_types.proofs.ListLemmas.{stepped}
use Rattle.tm_types.proofs.lists.BidList.all_taken.Goals as goal

pub returns-then-not-has_bid : goal.returns-then-not-has_bid
returns-then-not-has_bid c =
    let F : List Bid → Bool = λ xs. all_taken (map bid_of xs) (map child_of c.args.children.now) in
    let xs = c.items-b-items.result.now in
    let x = c.b-item.result in
    let e : has_bid (bid_of x) (map child_of c.args.children.now) ≡ false = let h : c.has_bid.result ≡ false = search rules in sym c.has_bid.ensures ∙ h in
    stepped F (F xs) xs c.loop-b.b-index x false c.loop-b-test.true c.b-item.is c.loop-b.invariant (rw e refl) ∙ ap F c.items-b-items.ensures.value

pub loop-b-preserved : goal.loop-b-preserved
loop-b-preserved c =
    let F : List Bid → Bool = λ xs. all_taken (map bid_of xs) (map child_of c.args.children.now) in
    let xs = c.items-b-items.result.now in
    let x = c.b-item.result in
    let e : has_bid (bid_of x) (map child_of c.args.children.now) ≡ true = let h : c.has_bid.result ≡ true = search rules in sym c.has_bid.ensures ∙ h in
    stepped F (F xs) xs c.loop-b.b-index x (F (drop (c.loop-b.b-index + 1) xs)) c.loop-b-test.true c.b-item.is c.loop-b.invariant (rw e refl)
