use Rattle.std.proofs.Common.{◌≡◌, ◌≤◌, ◌<◌, ◌-◌, ℕ, true, false, length}
use Rattle.bucket_page.specs.Pages.{slots_of}
use Rattle.index_model.specs.records_model.Slots.{bytes_before}
use Rattle.index_bucket.specs.Entries.{index_kind}
use Rattle.index_bucket.proofs.EntryLaws.{separator_at}
use Rattle.index_bucket.proofs.entries.find_entry.Given as goal

abbrev pub invariant-loop-low : goal.invariant-loop-low
invariant-loop-low l = record {
  order : l.low ≤ l.high;
  within : l.high ≤ length (slots_of (index_kind l.head) l.bytes);
  lower : (j : ℕ) → j < l.low → bytes_before l.key (separator_at l.head (slots_of (index_kind l.head) l.bytes) j) ≡ false;
  higher : (j : ℕ) → l.high ≤ j → j < length (slots_of (index_kind l.head) l.bytes) → bytes_before l.key (separator_at l.head (slots_of (index_kind l.head) l.bytes) j) ≡ true;
}

abbrev pub decreases-loop-low : goal.decreases-loop-low
decreases-loop-low l = l.high - l.low
