use Rattle.transcript.proofs.emit.SinkEmit.put_afters_full.Goals as goal

pub returns-clause-appends : goal.returns-clause-appends
returns-clause-appends g c = c.put_with_numbers.ensures.appends
