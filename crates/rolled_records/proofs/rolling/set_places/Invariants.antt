use Rattle.std.proofs.Common.{IfSome}
use Rattle.journal_store.specs.Refusing.{Stays}
use Rattle.rolled_records.proofs.RollLemmas.{SetsSoFar}
use Rattle.rolled_records.proofs.rolling.set_places.Given as goal

abbrev pub invariant-loop-place : goal.invariant-loop-place
invariant-loop-place g l = record {
  stays : Stays l.fn.store l.store;
  far : IfSome l.fn.store.current (SetsSoFar l.images l.positions l.places l.place-index l.fn.map l.map);
}
