use Rattle.std.proofs.Common.{◌≡◌, map, drop}
use Rattle.std.specs.Option.{option_copied}
use Rattle.bucket_page.specs.Pages.{slots_of}
use Rattle.indexed_file.specs.Chain.{kind_of, slot_of}
use Rattle.indexed_file.specs.Behind.{first_behind}
use Rattle.indexed_file.proofs.next.next_in_leaf.Given as goal

abbrev pub invariant-loop-i : goal.invariant-loop-i
invariant-loop-i l = record {
  passed : first_behind (option_copied l.after) (map (slot_of l.head) (slots_of (kind_of l.head) l.bytes)) ≡ first_behind (option_copied l.after) (map (slot_of l.head) (drop l.i (slots_of (kind_of l.head) l.bytes)));
}
