use Rattle.std.proofs.Common.{arith, ℕ}
use Rattle.std.proofs.lemmas.List.{length-take}
use Rattle.script_lang.proofs.words.Words.word.Goals as goal

pub returns-clause-few : goal.returns-clause-few
returns-clause-few c = omega (arith, length-take {A = ℕ})
