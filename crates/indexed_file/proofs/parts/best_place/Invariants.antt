use Rattle.std.proofs.Common.{◌-◌, length, map}
use Rattle.bucket_page.specs.Pages.{slots_of, inserted}
use Rattle.indexed_file.specs.Chain.{kind_of, slot_of}
use Rattle.indexed_file.specs.Raws.{BestTo}
use Rattle.indexed_file.proofs.parts.best_place.Given as goal

abbrev pub invariant-loop-j : goal.invariant-loop-j
invariant-loop-j l = record {
  best : BestTo (length l.bytes - 16) (map (slot_of l.head) (inserted (slots_of (kind_of l.head) l.bytes) l.i l.slot)) l.j l.best l.least;
}
