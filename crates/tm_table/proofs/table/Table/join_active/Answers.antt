use Rattle.std.proofs.Common.{◌≡◌, None, true, false, sym, ◌∙◌, arith, rules}
use Rattle.std.specs.List.{list_any}
use Rattle.commit_protocol.specs.Messages.{same_id}
use Rattle.commit_protocol.specs.Table as table
use Rattle.commit_protocol.specs.Table.{Branch}
use Rattle.commit_protocol.specs.Rows.{has_bid}
use Rattle.vms_base.specs.Ids.{bid_of, serial_of}
use Rattle.tm_types.specs.Parts.{child_of}
use Rattle.tm_types.specs.Branches.{branch_of}
use Rattle.std.proofs.lemmas.List.{length-map}
use Rattle.tm_table.proofs.FitLemmas.{fits_accept, room_to_accept}
use Rattle.tm_table.proofs.table.Table.join_active.Goals as goal

pub accept-requires-clause-few : goal.accept-requires-clause-few
accept-requires-clause-few c =
    let b = branch_of c.args.b.now in
    let d : table.Child = record { bid = bid_of c.args.bid.now; serial = serial_of c.args.m.now.serial; vote = None } in
    let h : list_any (λ x. same_id x d.bid) b.bids ≡ true = sym c.contains.ensures.found ∙ c.if-contains.true in
    let n : has_bid d.bid b.accepted ≡ false = (let q : c.has_bid.result ≡ false = search rules in sym c.has_bid.ensures ∙ q) in
    let r = room_to_accept b d c.requires.fits h n in
    let few = c.contains.ensures.few in
    let e = length-map c.args.b.now.accepted child_of in
    let f = length-map c.args.b.now.bids bid_of in
    omega arith

pub accept-requires-clause-fits : goal.accept-requires-clause-fits
accept-requires-clause-fits c =
    let b = branch_of c.args.b.now in
    let d : table.Child = record { bid = bid_of c.args.bid.now; serial = serial_of c.args.m.now.serial; vote = None } in
    let h : list_any (λ x. same_id x d.bid) b.bids ≡ true = sym c.contains.ensures.found ∙ c.if-contains.true in
    let n : has_bid d.bid b.accepted ≡ false = (let q : c.has_bid.result ≡ false = search rules in sym c.has_bid.ensures ∙ q) in
    fits_accept b d c.requires.fits h n
