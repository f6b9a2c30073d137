use Rattle.std.proofs.Common.{List, map, ap, sym, subst, ◌∙◌}
use Rattle.vms_model.specs.Ids.{Id}
use Rattle.vms_base.specs.Ids.{bid_of}
use Rattle.tm_types.specs.Branches.{branch_of}
use Rattle.tm_table.specs.Kept.{Fits}
use Rattle.vms_base.specs.declared.ids.Bid.{Bid}
use Rattle.tm_types.proofs.ListLemmas.{map_push}
use Rattle.tm_table.proofs.FitLemmas.{fits_push}
use Rattle.tm_table.proofs.table.Table.authorise.Goals as goal

pub note-requires-clause-fits : goal.note-requires-clause-fits
note-requires-clause-fits c =
    let b = branch_of c.in-Some.b in
    let P : List Id → Type 0 = λ bids. Fits (record b { bids = bids }) in
    let e = ap (λ (xs : List Bid). map bid_of xs) c.push.ensures ∙ map_push bid_of c.in-Some.b.bids c.args.bid.now in
    subst P (sym e) (fits_push b (bid_of c.args.bid.now) c.in-Some.ensures.fits)
