use Rattle.std.proofs.Common.{arith, sym, ◌∙◌, ◌+◌, ap, inl, inr}
use Rattle.std.proofs.lemmas.Grind.{common_steps}
use Rattle.transcript.proofs.ReadingLemmas.{byte_at, byte_moved, byte_first, byte_ahead, range_cons, no_feed_more, length_taken}
use Rattle.transcript.proofs.lines.LineReader.take_line.Goals as goal

pub returns-then-self-eq-SCRIPT_BYTES-clause-takes : goal.returns-then-self-eq-SCRIPT_BYTES-clause-takes
returns-then-self-eq-SCRIPT_BYTES-clause-takes c =
    let r = c.loop-self.self in
    let s = c.loop-self.invariant.sound in
    let size = length_taken r.line.items r.used (omega (arith, s.line, s.used)) in (
      _,
      _,
      c.loop-self.invariant.bytes,
      range_cons r.buffer.items r.start r.end c.loop-self-test.true (omega (arith, s.buffer, s.end)),
      inr (ap (λ n. r.taken + n) size ∙ c.if-self-eq-SCRIPT_BYTES.true),
    )

pub returns-then-b-eq10-clause-takes : goal.returns-then-b-eq10-clause-takes
returns-then-b-eq10-clause-takes c =
    let r = c.loop-self.self in (
      byte_first _ _ r.buffer.items r.start r.end _ c.loop-self.invariant.bytes (sym c.if-b-eq10.true ∙ byte_at r.buffer.items r.start c.index-b.result.now c.index-b.ensures (omega arith)) c.loop-self-test.true (omega arith),
      omega (arith, c.loop-self.invariant.sound.script, c.if-self-eq-SCRIPT_BYTES.false),
    )

pub returns-then-self-eq-LINE_BYTES-clause-takes : goal.returns-then-self-eq-LINE_BYTES-clause-takes
returns-then-self-eq-LINE_BYTES-clause-takes c =
    let r = c.loop-self.self in (
      c.index-b.result.now,
      _,
      c.loop-self.invariant.bytes,
      byte_ahead r.buffer.items r.start r.end c.index-b.result.now (byte_at r.buffer.items r.start c.index-b.result.now c.index-b.ensures (omega arith)) c.loop-self-test.true (omega arith),
      inl (c.if-b-eq10.false, length_taken r.line.items r.used (omega arith) ∙ c.if-self-eq-LINE_BYTES.true),
    )

pub loop-self-preserved : goal.loop-self-preserved
loop-self-preserved c =
    let r = c.loop-self.self in
    let s = c.loop-self.invariant.sound in
    record {
      sound = record {
        line = grind (arith, common_steps);
        used = omega arith;
        whole = s.whole;
        buffer = s.buffer;
        start = omega arith;
        end = s.end;
        script = omega (arith, s.script, c.if-self-eq-SCRIPT_BYTES.false);
        no_feed = no_feed_more r.line.items r.used c.index-b.result.now (omega arith) c.if-b-eq10.false s.no_feed;
      };
      bytes = byte_moved _ r.line.items r.buffer.items r.used r.start r.end c.index-b.result.now c.loop-self.invariant.bytes (byte_at r.buffer.items r.start c.index-b.result.now c.index-b.ensures (omega arith)) (omega arith) c.loop-self-test.true (omega arith);
      moved = omega arith;
      end = c.loop-self.invariant.end;
      taken = c.loop-self.invariant.taken;
    }
