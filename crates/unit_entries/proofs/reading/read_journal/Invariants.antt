use Rattle.std.proofs.Common.{◌≡◌, ◌+◌, ◌-◌, ◌≤◌, true, List, IfSome, length, map, vec_capacity}
use Rattle.journal_format.specs.journal_model.Entries.{Entry}
use Rattle.journal_format.specs.journal_model.Ring.{IsJournal}
use Rattle.journal_store.specs.Refusing.{Stays}
use Rattle.ru_journal.specs.Told.{nothing_told}
use Rattle.tm_types.specs.Parts.{log_record_of}
use Rattle.unit_table.specs.Units.{begun}
use Rattle.unit_entries.specs.Opening.{AreAlike, AreFiledOf, AscendWithin, BeginWithin, HasOpened}
use Rattle.unit_entries.specs.Reading.{AreInOrder, HasRead, placed}
use Rattle.unit_entries.proofs.VoteLemmas.{IsVoting}
use Rattle.unit_entries.proofs.reading.read_journal.Given as goal

abbrev pub invariant-loop-position : goal.invariant-loop-position
invariant-loop-position g l = record {
  stays : Stays l.fn.store l.store;
  behind : l.span.first ≤ l.position;
  alike : l.whole ≡ true → AreAlike l.state.units (begun l.units);
  within : l.whole ≡ true → BeginWithin l.span (begun l.units);
  ascends : l.whole ≡ true → AscendWithin l.span.first l.position (begun l.units);
  read : IfSome l.fn.store.current (λ c. (es : List Entry) → IsJournal c l.span es → (l.whole ≡ true → HasRead c l.span es l.position l.state) × (length es ≤ 87381 → AreInOrder nothing_told (placed l.span.first es) → l.whole ≡ true));
  filed : IfSome l.fn.store.current (λ c. l.whole ≡ true → AreFiledOf l.span c (begun l.units));
  opened : IfSome l.fn.store.current (λ c. (es : List Entry) → IsJournal c l.span es → l.whole ≡ true → HasOpened l.span es l.position l.state (begun l.units));
  voting : IsVoting l.fn.store.current l.span (map log_record_of l.fn.rest.items) (map log_record_of l.rest.items) (map log_record_of l.fn.out.items) (map log_record_of l.out.items) l.position;
  count : length l.out.items + length l.rest.items ≡ length l.fn.out.items + length l.fn.rest.items;
  room : vec_capacity l.fn.out ≤ vec_capacity l.out;
  left : vec_capacity l.fn.rest ≤ vec_capacity l.rest;
}

abbrev pub decreases-loop-position : goal.decreases-loop-position
decreases-loop-position g l = l.span.end - l.position
