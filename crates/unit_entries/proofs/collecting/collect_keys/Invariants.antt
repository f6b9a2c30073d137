use Rattle.std.proofs.Common.{◌≡◌, ◌≤◌, List, IfSome, length, take}
use Rattle.journal_format.specs.journal_model.Entries.{Entry}
use Rattle.journal_store.specs.Refusing.{Stays}
use Rattle.unit_entries.specs.Collecting.{AreChangesAt}
use Rattle.unit_entries.specs.Keys.{keys_told}
use Rattle.unit_entries.proofs.collecting.collect_keys.Given as goal

abbrev pub invariant-loop-i : goal.invariant-loop-i
invariant-loop-i g l = record {
  catalog : l.volume.catalog ≡ l.fn.volume.catalog;
  stays : Stays l.fn.volume.store l.volume.store;
  few : length l.keys ≤ l.i;
  keys : IfSome l.fn.volume.store.current (λ c. (es : List Entry) → AreChangesAt l.fn.volume.catalog.ru l.positions es c → l.keys ≡ keys_told l.fn.volume.catalog.heads (take l.i l.positions) es);
}
