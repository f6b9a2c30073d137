use Rattle.std.proofs.Common.{◌∙◌, ap, codes, unwrap_or, []}
use Rattle.clap.specs.Words.{found_of}
use Rattle.clap.proofs.WalkLemmas.{raw_values-rows}
use Rattle.std.proofs.lemmas.Result.{IfOk-weaker}
use Rattle.dtm_command.proofs.words.image_words.Goals as goal

pub returns : goal.returns
returns c = IfOk-weaker c.values_of.result _ _ (λ values is. is ∙ ap (λ o. unwrap_or o []) (raw_values-rows (found_of c.in_ok-matches.matches) (codes "IMAGE")) ∙ c.in_ok-matches.ensures ∙ c.words_behind_run.ensures.value) c.values_of.ensures
