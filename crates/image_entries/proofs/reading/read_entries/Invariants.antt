use Rattle.std.proofs.Common.{◌-◌, ◌+◌, ◌≤◌, List, IfSome, length}
use Rattle.journal_format.specs.journal_model.Entries.{Entry}
use Rattle.journal_format.specs.journal_model.Ring.{IsJournal}
use Rattle.journal_store.specs.Refusing.{Stays}
use Rattle.unit_entries.specs.Reading.{AreRead}
use Rattle.image_entries.proofs.ReadLemmas.{HaveRead}
use Rattle.image_entries.proofs.reading.read_entries.Given as goal

abbrev pub invariant-loop-position : goal.invariant-loop-position
invariant-loop-position g l = record {
  count : length l.heads.items + l.from ≤ l.position;
  few : length l.heads.items ≤ l.span.end - l.from;
  stays : Stays l.fn.store l.store;
  read : IfSome l.fn.store.current (λ c. (es front : List Entry) → IsJournal c l.span es → (start : AreRead l.span es front l.from) → HaveRead l.span es front l.from l.position start.back l.heads.items l.positions.items);
}

abbrev pub decreases-loop-position : goal.decreases-loop-position
decreases-loop-position g l = l.span.end - l.position
