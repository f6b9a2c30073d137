use Rattle.transcript.proofs.emit.SinkEmit.put_next_found.Goals as goal

pub returns-clause-appends : goal.returns-clause-appends
returns-clause-appends g c = c.put_keyed.ensures.appends
