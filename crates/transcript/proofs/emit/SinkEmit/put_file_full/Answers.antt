use Rattle.transcript.proofs.emit.SinkEmit.put_file_full.Goals as goal

pub returns-clause-appends : goal.returns-clause-appends
returns-clause-appends g c = rw c.from.ensures at (rw c.from-2.ensures at c.put_with_numbers.ensures.appends)
