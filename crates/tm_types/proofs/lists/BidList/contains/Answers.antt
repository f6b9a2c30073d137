use Rattle.std.proofs.Common.{◌≡◌, ◌+◌, Bool, true, false, List, map, drop, refl, ap, sym, ◌∙◌}
use Rattle.std.specs.List.{list_any}
use Rattle.vms_base.specs.declared.ids.Bid.{Bid}
use Rattle.commit_protocol.specs.Messages.{same_id}
use Rattle.vms_base.specs.Ids.{bid_of}
use Rattle.tm_types.proofs.ListLemmas.{stepped}
use Rattle.tm_types.proofs.lists.BidList.contains.Goals as goal

pub returns-then-same_id-clause-found : goal.returns-then-same_id-clause-found
returns-then-same_id-clause-found c =
    let F : List Bid → Bool = λ xs. list_any (λ y. same_id y (bid_of c.args.bid.now)) (map bid_of xs) in
    let xs = c.items-b-items.result.now in
    let x = c.b-item.result in
    let e : same_id (bid_of x) (bid_of c.args.bid.now) ≡ true = sym c.same_id.ensures ∙ c.if-same_id.true in
    stepped F (F xs) xs c.loop-b.b-index x true c.loop-b-test.true c.b-item.is c.loop-b.invariant (rw e refl) ∙ ap F c.items-b-items.ensures.value

pub loop-b-preserved : goal.loop-b-preserved
loop-b-preserved c =
    let F : List Bid → Bool = λ xs. list_any (λ y. same_id y (bid_of c.args.bid.now)) (map bid_of xs) in
    let xs = c.items-b-items.result.now in
    let x = c.b-item.result in
    let e : same_id (bid_of x) (bid_of c.args.bid.now) ≡ false = sym c.same_id.ensures ∙ c.if-same_id.false in
    stepped F (F xs) xs c.loop-b.b-index x (F (drop (c.loop-b.b-index + 1) xs)) c.loop-b-test.true c.b-item.is c.loop-b.invariant (rw e refl)
