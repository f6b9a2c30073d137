use Rattle.std.proofs.Common.{◌∷◌, [], Some, refl, arith}
use Rattle.emitter_model.specs.transcript_model.Lines.{lines_text}
use Rattle.transcript.specs.Forms.{line_of}
use Rattle.day_tally.proofs.counter.LineCounterEmit.emit.Goals as goal

pub returns-clause-emits : goal.returns-clause-emits
returns-clause-emits c = record {
  puts = record { number = refl; added = lines_text 0 (line_of c.args.form.now ∷ []); shows = refl; adds = refl; counts = omega arith; cause = λ e f. let none : ⊥ = cc in absurd none };
  counted = λ i. Some (record { sent = c.sent_behind-self.ensures i; committed = c.committed_behind-self.ensures i; last = c.of-self.ensures i });
}

pub returns-clause-since : goal.returns-clause-since
returns-clause-since c = record { counts = omega arith; cause = λ e f. let none : ⊥ = cc in absurd none }
