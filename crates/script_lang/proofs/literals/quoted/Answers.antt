use Rattle.std.proofs.Common.{refl, sym, ◌∙◌}
use Rattle.std.proofs.lemmas.List.{take_more}
use Rattle.script_lang.proofs.LiteralLemmas.{quoted_more}
use Rattle.script_lang.proofs.literals.quoted.Goals as goal

pub loop-i-preserved : goal.loop-i-preserved
loop-i-preserved c = quoted_more c.args.text.now _ _ c.loop-i.i _ c.loop-i-test.true refl c.if-b-eq34.false (sym c.is_plain.ensures ∙ c.if-not-is_plain.false) (take_more c.args.text.now c.loop-i.i 0 c.loop-i-test.true) c.loop-i.invariant
