use Rattle.transcript.specs.Reading.{IsSound}
use Rattle.language_tests.proofs.transcript_tests.a_source_fails_at_the_call_that_is_named.Given as goal

abbrev pub invariant-loop-next : goal.invariant-loop-next
invariant-loop-next g l = IsSound l.reader
