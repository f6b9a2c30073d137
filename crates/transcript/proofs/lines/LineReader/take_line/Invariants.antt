use Rattle.std.proofs.Common.{◌≡◌, ◌-◌, ◌+◌, ◌++◌}
use Rattle.transcript.specs.Reading.{IsSound, begun_line, pending}
use Rattle.transcript.proofs.lines.LineReader.take_line.Given as goal

abbrev pub invariant-loop-self : goal.invariant-loop-self
invariant-loop-self l = record {
  sound : IsSound l.self;
  bytes : begun_line l.fn.self ++ pending l.fn.self ≡ begun_line l.self ++ pending l.self;
  moved : l.self.used + l.fn.self.start ≡ l.fn.self.used + l.self.start;
  end : l.self.end ≡ l.fn.self.end;
  taken : l.self.taken ≡ l.fn.self.taken;
}

abbrev pub decreases-loop-self : goal.decreases-loop-self
decreases-loop-self l = l.self.end - l.self.start
