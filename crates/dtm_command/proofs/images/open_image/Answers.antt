use Rattle.std.proofs.Common.{ap, is_some, refl}
use Rattle.std.proofs.lemmas.Bool.{false≢true}
use Rattle.dtm_command.proofs.images.open_image.Goals as goal

pub returns-in_default-clause-why : goal.returns-in_default-clause-why
returns-in_default-clause-why g c = (
  refl,
  record {
    file = c.in-Ok.file;
    of_path = c.in-Ok.ensures.file;
    has = c.in-Ok-bytes.ensures.bytes;
    wrong = λ blocks low high e. false≢true (ap is_some (rw c.in_default.is at (c.blocks_in.ensures.each blocks low high e)));
  },
)
