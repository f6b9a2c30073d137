use Rattle.std.proofs.Common.{List, ap, arith, length}
use Rattle.commit_protocol.specs.Messages.{Name}
use Rattle.tm_table.proofs.table.Table.tell_each.Goals as goal

pub tell-requires : goal.tell-requires
tell-requires c = let e = ap (λ (xs : List Name). length xs) c.items-rm-items.ensures.value in omega arith
