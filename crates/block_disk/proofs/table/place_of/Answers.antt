use Rattle.std.proofs.Common.{◌<◌, length, get_or, [], arith}
use Rattle.block_disk.proofs.Laid.{found_at, found_between}
use Rattle.block_disk.proofs.table.place_of.Goals as goal
use Rattle.block_disk.proofs.table.place_of.Goals.{else-i-entries-via-then-i-entries+else-entries-i, else-i-entries-via-else-i-entries}

pub returns-then-entries-i : goal.returns-then-entries-i
returns-then-entries-i c =
    (c.if-i-entries.true, found_at c.args.n c.args.entries.now c.place_not_below-i.result c.place_not_below-i.ensures.before c.if-i-entries.true c.if-entries-i.true)

pub returns-else-i-entries : goal.returns-else-i-entries
returns-else-i-entries c =
    let i = c.place_not_below-i.result in
    let above : i < length c.args.entries.now → c.args.n < (get_or c.args.entries.now i (0, [])).0 = λ within. elim c.else-i-entries.branch [
      | else-i-entries-via-then-i-entries+else-entries-i w ↦ let least = c.place_not_below-i.ensures.here within in omega (arith, least, w.if-entries-i.false)
      | else-i-entries-via-else-i-entries w ↦ absurd (omega arith)
    ] in
    found_between 0 c.args.n c.args.entries.now i c.requires c.place_not_below-i.ensures.before above
