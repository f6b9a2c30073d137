use Rattle.std.proofs.Common.{take}
use Rattle.unit_entries.proofs.LeastLemmas.{IsLeastOf}
use Rattle.unit_entries.proofs.keys.ChangedKeys.next_number.Given as goal

abbrev pub invariant-loop-i : goal.invariant-loop-i
invariant-loop-i l = IsLeastOf l.file l.from (take l.i l.self) l.least
