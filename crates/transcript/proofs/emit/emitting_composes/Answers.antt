use Rattle.emitter_model.proofs.EmittingLemmas.{emits_on}
use Rattle.transcript.proofs.emit.emitting_composes.Goals as goal

pub returns : goal.returns
returns c = emits_on
