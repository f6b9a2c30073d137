use Rattle.std.proofs.Common.{arith, rules, ap, Some}
use Rattle.std.proofs.lemmas.Grind.{common_steps}
use Rattle.transcript.proofs.MemoryLemmas.{given}
use Rattle.transcript.proofs.memory.MemSourceSource.read.Goals as goal

pub returns-clause-bytes : goal.returns-clause-bytes
returns-clause-bytes c =
    let s = c.args.self.now in
    ap Some (given s.bytes.items c.args.buf.now c.copy_from_slice.new.self s.position c.min-n.result (search rules) (grind (arith, common_steps)))
