use Rattle.transcript.proofs.emit.SinkEmit.put_prepared_entry.Goals as goal

pub returns-clause-appends : goal.returns-clause-appends
returns-clause-appends g c = c.put_entry.ensures.appends
