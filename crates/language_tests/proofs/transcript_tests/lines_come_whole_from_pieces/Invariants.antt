use Rattle.transcript.specs.Reading.{IsSound}
use Rattle.language_tests.proofs.transcript_tests.lines_come_whole_from_pieces.Given as goal

abbrev pub invariant-loop-line : goal.invariant-loop-line
invariant-loop-line g l = IsSound l.reader
