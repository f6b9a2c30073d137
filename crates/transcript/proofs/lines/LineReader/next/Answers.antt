use Rattle.std.proofs.Common.{arith, ◌∙◌, ◌<◌, ◌≡◌, length, ap, Ok}
use Rattle.transcript.specs.Reading.{begun_line}
use Rattle.transcript.proofs.ReadingLemmas.{tells_feed, tells_long, tells_last, range_none, length_taken}
use Rattle.transcript.proofs.lines.LineReader.next.Goals as goal

pub returns-in-Feed-clause-tells : goal.returns-in-Feed-clause-tells
returns-in-Feed-clause-tells g c =
    let t = c.in-Feed.ensures.takes in
    tells_feed _ _ _ _ _ _ _ _ c.loop-self.invariant.ahead t.0 c.in-Feed.ensures.sound.no_feed c.finish.ensures.line c.finish.ensures.begun c.finish.ensures.pending

pub returns-in-Full-clause-tells : goal.returns-in-Full-clause-tells
returns-in-Full-clause-tells g c =
    let t = c.in-Full.ensures.takes in
    tells_long _ _ _ _ _ _ _ t.0 t.1 c.loop-self.invariant.ahead t.2 t.3 c.in-Full.ensures.sound.no_feed t.4 (c.in-Full.ensures.taken ∙ c.loop-self.invariant.taken)

pub returns-in-Ok-eq0-clause-tells : goal.returns-in-Ok-eq0-clause-tells
returns-in-Ok-eq0-clause-tells g c =
    let t = c.in-All.ensures.takes in
    let s = c.in-All.ensures.sound in
    let r = c.take_line.new.self in
    let count : length (begun_line r) ≡ r.used = length_taken r.line.items r.used (omega (arith, s.used, s.line)) in
    let filled : 0 < length (begun_line r) = omega arith in
    tells_last _ _ _ _ _ _ _ _ c.loop-self.invariant.ahead t.0 (rw c.in-Ok-eq0.field-0-test at c.in-Ok-eq0.ensures.bytes) (c.in-Ok-eq0.ensures.end (ap Ok c.in-Ok-eq0.field-0-test)) s.no_feed filled
    c.finish-in-Ok-eq0.ensures.line c.finish-in-Ok-eq0.ensures.begun (c.finish-in-Ok-eq0.ensures.pending ∙ range_none _ r.start r.end t.3)
