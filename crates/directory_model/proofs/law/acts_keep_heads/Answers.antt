use Rattle.directory_model.proofs.Heads.{keeps_heads}
use Rattle.directory_model.proofs.law.acts_keep_heads.Goals as goal

pub returns : goal.returns
returns c = keeps_heads
