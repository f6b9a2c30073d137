use Rattle.std.proofs.Common.{refl, ◌∙◌}
use Rattle.emitter_model.proofs.EmittingLemmas.{since_puts}
use Rattle.emitter_model.proofs.transcript_model.LineLemmas.{one_line}
use Rattle.transcript.proofs.BufferedLemmas.{appends4, puts_through}
use Rattle.transcript.specs.Forms.{line_of}
use Rattle.transcript.proofs.emit.SinkEmitEmit.emit.Goals as goal

pub returns-clause-emits : goal.returns-clause-emits
returns-clause-emits g c = record {
  puts = puts_through _ _ _ _ c.clear.ensures.items
      (appends4 _ _ _ _ _ _ _ _ _ _ c.put_number.ensures.appends c.put.ensures.appends c.put_words.ensures.appends c.put-2.ensures.appends (one_line c.args.self.now.number (line_of c.args.form.now) ∙ rw c.from.ensures refl))
      c.flush.ensures.puts;
  counted = refl;
}

pub returns-clause-since : goal.returns-clause-since
returns-clause-since g c = since_puts _ _ _ (puts_through _ _ _ _ c.clear.ensures.items
    (appends4 _ _ _ _ _ _ _ _ _ _ c.put_number.ensures.appends c.put.ensures.appends c.put_words.ensures.appends c.put-2.ensures.appends (one_line c.args.self.now.number (line_of c.args.form.now) ∙ rw c.from.ensures refl))
    c.flush.ensures.puts)
