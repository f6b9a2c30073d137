use Rattle.transcript.specs.Reading.{IsSound}
use Rattle.language_tests.proofs.transcript_tests.a_script_has_64_mib.Given as goal

abbrev pub invariant-loop-number : goal.invariant-loop-number
invariant-loop-number g l = IsSound l.reader
