use Rattle.std.proofs.Common.{◌+◌, List, sym, subst, ◌∙◌, arith}
use Rattle.volume.specs.declared.load.Finding.{Finding}
use Rattle.volume.specs.Listing.{LiesApart, ListsTo}
use Rattle.volume.proofs.Listings.{lists_holds, lists_more}
use Rattle.volume.proofs.listing.list_extents.Goals as goal
use Rattle.volume.proofs.listing.list_extents.Goals.{then-not-lies_apart, else-not-lies_apart}

pub loop-f-preserved : goal.loop-f-preserved
loop-f-preserved c =
    let f = c.loop-f.f in
    elim c.if-not-lies_apart.branch [
      | then-not-lies_apart w ↦ subst (λ (l : List Finding). ListsTo 5 (LiesApart c.args.area.now c.args.extents.now) (f + 1) l) (sym (w.out-is ∙ w.add.ensures))
          (lists_more 5 (LiesApart c.args.area.now c.args.extents.now) f c.loop-f.out (omega arith) c.loop-f.invariant (c.lies_apart.ensures.no w.if-not-lies_apart.true))
      | else-not-lies_apart w ↦ subst (λ (l : List Finding). ListsTo 5 (LiesApart c.args.area.now c.args.extents.now) (f + 1) l) (sym w.out-is)
          (lists_holds 5 (LiesApart c.args.area.now c.args.extents.now) f c.loop-f.out c.loop-f.invariant (c.lies_apart.ensures.yes w.if-not-lies_apart.false))
    ]
