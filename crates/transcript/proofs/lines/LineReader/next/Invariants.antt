use Rattle.std.proofs.Common.{◌≡◌, ◌≤◌, ◌-◌, ◌+◌, ◌++◌}
use Rattle.emitter_model.specs.transcript_model.Outside.{ahead}
use Rattle.transcript.specs.Reading.{IsSound, begun_line, pending}
use Rattle.transcript.proofs.lines.LineReader.next.Given as goal

abbrev pub invariant-loop-self : goal.invariant-loop-self
invariant-loop-self g l = record {
  sound : IsSound l.self;
  ahead : ahead (begun_line l.fn.self ++ pending l.fn.self) (g.S.Source.left l.fn.source) ≡ ahead (begun_line l.self ++ pending l.self) (g.S.Source.left l.source);
  count : g.S.Source.faults l.fn.source ≤ g.S.Source.faults l.source;
  taken : l.self.taken ≡ l.fn.self.taken;
}

abbrev pub decreases-loop-self : goal.decreases-loop-self
decreases-loop-self g l = (20000 - l.self.used) + (1 - (l.self.end - l.self.start))
