use Rattle.std.proofs.Common.{◌≡◌, ◌≤◌, ◌<◌, ◌-◌, ℕ, true, length}
use Rattle.bucket_page.specs.Pages.{slots_of, reach}
use Rattle.change_set.specs.records_model.Slots.{bytes_before}
use Rattle.indexed_file.specs.Chain.{kind_of}
use Rattle.indexed_file.specs.Places.{key_at}
use Rattle.indexed_file.proofs.leaf.find_place.Given as goal

abbrev pub invariant-loop-low : goal.invariant-loop-low
invariant-loop-low l = record {
  order : l.low ≤ l.high;
  within : l.high ≤ length (slots_of (kind_of l.head) l.bytes);
  lower : (j : ℕ) → j < l.low → bytes_before (key_at l.head (slots_of (kind_of l.head) l.bytes) j) l.key ≡ true;
  higher : (j : ℕ) → l.high ≤ j → j < length (slots_of (kind_of l.head) l.bytes) → bytes_before l.key (key_at l.head (slots_of (kind_of l.head) l.bytes) j) ≡ true;
  start : l.start ≡ reach (slots_of (kind_of l.head) l.bytes) l.low;
}

abbrev pub decreases-loop-low : goal.decreases-loop-low
decreases-loop-low l = l.high - l.low
