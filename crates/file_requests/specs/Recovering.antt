-- What a request for a recovery comes to.
use Rattle.std.specs.Prelude.{◌≡◌, List, [], ◌∷◌, Option, Some, None, Result, Ok, Err}
use Rattle.careful_write.specs.declared.down.Down.{Down}
use Rattle.emitter_model.specs.Emitting.{Shown, Emits}
use Rattle.file_recoveries.specs.declared.causes.Way.{Way}
use Rattle.file_recoveries.specs.declared.causes.Way.TheVariants as way
use Rattle.file_recoveries.specs.declared.errors.RecoverErr.{RecoverErr}
use Rattle.file_recoveries.specs.declared.errors.RecoverErr.TheVariants as err
use Rattle.file_images.specs.run_model.Answers.{Service}
use Rattle.file_images.specs.run_model.World.{Node, Shared}
use Rattle.emitter_model.specs.transcript_model.Lines as line
use Rattle.emitter_model.specs.transcript_model.Lines.{Line}
use Rattle.vms_model.specs.Times.{CanBeWritten}
use Rattle.vms_base.specs.Ids.{serial_of}
use Rattle.recovery_units.specs.State.{IsInOrder}
use Rattle.node_standing.specs.node_table.Serving.{service_at}
use Rattle.node_standing.specs.node_table.Standing.{Stored}
use Rattle.file_requests.specs.Serving.{IsReady, SameStored, ServesFile}
use Rattle.file_requests.specs.declared.recovery.Reply.{Reply}
use Rattle.file_requests.specs.declared.recovery.Reply.TheVariants.{Told, NoMemory}

-- the moments that a cause tells can be shown
abbrev pub HasTimes : Way → RecoverErr → Type 0
HasTimes (way.Backward until) (err.Span needed first) = CanBeWritten needed × CanBeWritten first
HasTimes (way.Forward until) (err.Span needed first) = Unit {0}
HasTimes w (err.Early until save) = CanBeWritten until.0 × CanBeWritten save.0
HasTimes w _ = Unit {0}

-- how a cause is shown, where it is
abbrev pub cause_line : RecoverErr → Way → Option Line
cause_line err.NoJournal w = Some line.NoJournal
cause_line err.NoSave w = Some line.NoSave
cause_line (err.InUse serial) w = Some (line.FileLocked (serial_of serial))
cause_line (err.Early until save) w = Some (line.TooEarly until.0 save.0)
cause_line (err.Span needed first) (way.Forward until) = Some (line.PositionsMissing needed first)
cause_line (err.Span needed first) (way.Backward until) = Some (line.MomentsMissing needed first)
cause_line (err.Full free needed) w = Some (line.VolumeFull free needed)
cause_line err.Memory w = None
cause_line (err.Down down) w = None

-- it was shown; or nothing was, for memory was missing or the disk went down
abbrev pub AnswersRecovery : RecoverErr → Way → Result Reply Down → Shown → Shown → Type 0
AnswersRecovery (err.Down down) w r a b = (r ≡ Err down) × (b ≡ a)
AnswersRecovery err.Memory w r a b = (r ≡ Ok NoMemory) × (b ≡ a)
AnswersRecovery e w r a b = (l : Line) × (cause_line e w ≡ Some l) × (r ≡ Ok Told) × Emits a (l ∷ []) b

-- Memory was missing, which is not told yet: nothing refuses the service before the disk is read, and all is as it was but for reads.
pub record LacksMemory (e : Service) (old new : Stored) (a b : Shown) : Type 0 where
  pub order : IsInOrder new.units new.volume
  pub same : SameStored old new
  pub shown : b ≡ a
  pub unrefused : (s : Shared) (n : Node) → IsReady old n → (service_at e s n).early ≡ None

-- The service was done, or memory was missing for it.
abbrev pub Recovers : Result Reply Down → Service → (old new : Stored) → (a b : Shown) → Type 0
Recovers (Ok NoMemory) e old new a b = LacksMemory e old new a b
Recovers (Ok Told) e old new a b = let r : Result Reply Down = Ok Told in ServesFile r e old new a b
Recovers (Err down) e old new a b = let r : Result Reply Down = Err down in ServesFile r e old new a b
