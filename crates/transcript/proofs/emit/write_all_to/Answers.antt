use Rattle.std.proofs.Common.{arith}
use Rattle.std.proofs.lemmas.Grind.{common_steps}
use Rattle.transcript.proofs.WritesLemmas.{writes_more}
use Rattle.transcript.proofs.emit.write_all_to.Goals as goal

pub loop-rest-preserved : goal.loop-rest-preserved
loop-rest-preserved g c = writes_more _ _ _ _ _ _ _ _ _ _ c.loop-rest.invariant c.in-Ok.ensures.bytes c.write.ensures.count (grind (arith, common_steps))
