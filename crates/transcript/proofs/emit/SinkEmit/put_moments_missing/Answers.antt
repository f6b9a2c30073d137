use Rattle.transcript.proofs.emit.SinkEmit.put_moments_missing.Goals as goal

pub returns-clause-appends : goal.returns-clause-appends
returns-clause-appends g c = c.put_with_moments.ensures.appends
