-- The cause of a failure, as lines tell it.
use Rattle.careful_write.specs.declared.down.Down.{Down}
use Rattle.careful_write.specs.declared.down.Down.TheVariants as down
use Rattle.emitter_model.specs.transcript_model.Lines.{Cause, Failed, Stopped}

abbrev pub cause_of : Down → Cause
cause_of down.Failed = Failed
cause_of down.Stopped = Stopped
