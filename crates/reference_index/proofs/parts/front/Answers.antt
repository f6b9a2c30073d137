use Rattle.reference_index.proofs.PartLemmas.{front_slots}
use Rattle.reference_index.proofs.parts.front.Goals as goal

pub returns-then-n-all : goal.returns-then-n-all
returns-then-n-all c = front_slots c.args.n c.args.all.now
