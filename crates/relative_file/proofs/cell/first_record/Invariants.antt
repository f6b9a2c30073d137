use Rattle.relative_file.specs.Cells.{NoneIn}
use Rattle.relative_file.proofs.cell.first_record.Given as goal

abbrev pub invariant-loop-k : goal.invariant-loop-k
invariant-loop-k l = NoneIn l.mrs l.bytes l.from l.k
