use Rattle.std.proofs.Common.{arith, refl, sym}
use Rattle.script_lang.proofs.PartingLemmas.{stands_more}
use Rattle.script_lang.proofs.words.word_len.Goals as goal

pub loop-at-preserved : goal.loop-at-preserved
loop-at-preserved c = record {
  some = omega arith;
  within = omega arith;
  words = λ column. stands_more column _ _ c.loop-at.quoted _ _ c.loop-at-test.true refl (sym c.in-Some.ensures) (c.loop-at.invariant.words column);
}
