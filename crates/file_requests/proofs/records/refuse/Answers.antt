use Rattle.transcript.specs.Forms.{line_of}
use Rattle.file_requests.proofs.Replied.{quiet_none, replies_one}
use Rattle.emitter_model.proofs.EmittingLemmas.{emits_nothing}
use Rattle.file_requests.proofs.records.refuse.Goals as goal

pub returns-in-Ok-clause-replies : goal.returns-in-Ok-clause-replies
returns-in-Ok-clause-replies g c = replies_one _ _ (line_of c.in-Ok.form) c.emit.ensures.emits c.in-Ok.ensures.plain

pub returns-in-Err-clause-replies : goal.returns-in-Err-clause-replies
returns-in-Err-clause-replies g c = quiet_none _ _ (emits_nothing _)
