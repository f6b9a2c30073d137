use Rattle.std.proofs.Common.{◌≡◌, ◌≤◌, IfSome, length}
use Rattle.careful_write.specs.Reads.{SameButReads}
use Rattle.volume.specs.Listing.{HeadsTried, IsEntered, ListsTo}
use Rattle.volume.proofs.listing.list_entries.Given as goal

abbrev pub invariant-loop-f : goal.invariant-loop-f
invariant-loop-f g l = record {
  same : SameButReads l.fn.store l.store;
  count : length l.heads ≡ 64;
  size : 4096 ≤ l.store.disk.size;
  lists : IfSome l.fn.store.current (λ c. ListsTo 4 (IsEntered l.greatest.0 c) l.f l.out);
  tried : IfSome l.fn.store.current (HeadsTried l.greatest.0 l.heads l.f);
}
