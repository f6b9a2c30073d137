use Rattle.std.proofs.Common.{arith, refl, sym}
use Rattle.script_lang.proofs.LiteralLemmas.{hex_few, hex_more, onto_nothing}
use Rattle.script_lang.proofs.literals.Literal.take_hex.Goals as goal

pub loop-rest-init : goal.loop-rest-init
loop-rest-init c = record {
  few = rw c.clear.ensures (omega arith);
  reads = onto_nothing _ _ c.clear.ensures;
}

pub loop-rest-preserved : goal.loop-rest-preserved
loop-rest-preserved c = record {
  few = hex_few c.loop-rest.rest.now _ _ _ _ c.in-len2-up.len_at_least c.push.ensures c.loop-rest.invariant.few;
  reads = hex_more c.args.text.now c.loop-rest.rest.now _ _ _ c.in-Some.b c.in-len2-up.len_at_least (sym c.in-Some.ensures) refl c.push.ensures c.loop-rest.invariant.reads;
}
