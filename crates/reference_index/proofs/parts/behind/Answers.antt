use Rattle.reference_index.proofs.PartLemmas.{behind_slots}
use Rattle.reference_index.proofs.parts.behind.Goals as goal

pub returns-then-n-all : goal.returns-then-n-all
returns-then-n-all c = behind_slots c.args.n c.args.all.now
