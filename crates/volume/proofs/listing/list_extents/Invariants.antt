use Rattle.volume.specs.Listing.{LiesApart, ListsTo}
use Rattle.volume.proofs.listing.list_extents.Given as goal

abbrev pub invariant-loop-f : goal.invariant-loop-f
invariant-loop-f l = ListsTo 5 (LiesApart l.area l.extents) l.f l.out
