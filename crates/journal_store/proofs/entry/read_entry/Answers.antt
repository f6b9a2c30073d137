use Rattle.std.proofs.Common.{arith, replicate}
use Rattle.journal_store.proofs.Readings.{read_some, read_none}
use Rattle.journal_store.proofs.entry.read_entry.Goals as goal

pub returns-in-Ok-clause-entry : goal.returns-in-Ok-clause-entry
returns-in-Ok-clause-entry g c =
    read_some c.args.span.now c.args.position c.told_size-size.result (replicate 8272 0) c.read_stream.new.out c.read_stream-2.new.out c.decode.new.image c.args.store.now.current c.read_stream.new.store.current c.in_ok-read_stream.ensures.only.current
    c.in_ok-read_stream.ensures.read c.told_size-size.ensures.size (omega arith) c.in_ok-read_stream-2.ensures.read c.in-Ok.head c.in-Ok.length c.in-Ok.ensures.found.0 c.in-Ok.ensures.found.1 c.in-Ok.ensures.found.2 c.in-Ok.ensures.plain c.in-Ok.ensures.only

pub returns-in-Err-clause-entry : goal.returns-in-Err-clause-entry
returns-in-Err-clause-entry g c =
    read_none c.args.span.now c.args.position c.told_size-size.result (replicate 8272 0) c.read_stream.new.out c.read_stream-2.new.out c.decode.new.image c.args.store.now.current c.read_stream.new.store.current c.in_ok-read_stream.ensures.only.current
    c.in_ok-read_stream.ensures.read c.told_size-size.ensures.size (omega arith) c.in_ok-read_stream-2.ensures.read c.in-Err.ensures.only
