-- What an emitter that counts shows: no text, and no failure.
use Rattle.std.specs.Prelude.{false, Some, None}
use Rattle.std.specs.Option.{option_map}
use Rattle.emitter_model.specs.Emitting.{Shown}
use Rattle.emitter_model.specs.Tally.{Tally}
use Rattle.day_tally.specs.Answers.{answer_line}
use Rattle.day_tally.specs.declared.counter.LineCounter.{LineCounter}

abbrev pub tallied_in : LineCounter → Tally
tallied_in c = record { sent = c.sent; committed = c.committed; last = option_map answer_line c.last }

abbrev pub shown_of : LineCounter → Shown
shown_of c = record { number = 0; text = None; faults = 0; failed = false; tally = Some (tallied_in c) }
