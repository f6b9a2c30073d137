-- What a SinkEmit shows, over what its sink shows.
use Rattle.std.specs.Prelude.{ℕ, List, Option, None}
use Rattle.emitter_model.specs.Emitting.{Shown}
use Rattle.transcript.specs.declared.emit.SinkEmit.{SinkEmit}
use Rattle.transcript.specs.Buffered.{BufferedText}

abbrev pub shown_by : {K : Type 0} → (K → Option (List ℕ)) → (K → ℕ) → SinkEmit K → Shown
shown_by shown faults e = record { number = e.number; text = shown e.sink.now; faults = faults e.sink.now; failed = e.failed; tally = None }

-- within a line, with what waits in its buffer
abbrev pub kept_by : {K : Type 0} → (K → Option (List ℕ)) → (K → ℕ) → SinkEmit K → BufferedText
kept_by shown faults e = record { shown = shown_by shown faults e; waiting = e.buffer.items }
