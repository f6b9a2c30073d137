-- Why an operation on records is refused.
use Rattle.std.specs.Prelude.{◌≡◌, ℕ, Bool, true, false, Option, Some, None, IsSome}
use Rattle.careful_write.specs.declared.down.Down.{Down}
use Rattle.vms_base.specs.vms_model.Ids.{Id}
use Rattle.vms_base.specs.Ids.{serial_of}
use Rattle.record_operations.specs.declared.errors.RecErr.{RecErr}
use Rattle.record_operations.specs.declared.errors.RecErr.TheVariants as err

-- The causes. A branch that holds a key is told by its serial; of buckets and of bytes there are so many free, and so many are needed.
pub data Cause : Type 0 where
  BadParameter : Cause
  BadOperation : Cause
  BadRecordNumber : Cause
  BadRecordSize : Cause
  NotForUnits : Cause
  NeedsUnit : Cause
  Locked : Id → Cause
  RecordExists : Cause
  KeyExists : Cause
  RecordNotFound : Cause
  EndOfFile : Cause
  KeyChanged : Cause
  Changes : Cause
  Locks : Cause
  FileFull : (free need : ℕ) → Cause
  JournalFull : (free need : ℕ) → Cause
  AfterImagesFull : (free need : ℕ) → Cause
  BeforeImagesFull : (free need : ℕ) → Cause

-- the cause of an answer; where the disk went down there is none
abbrev pub cause_of : RecErr → Option Cause
cause_of err.BadParameter = Some BadParameter
cause_of err.BadOperation = Some BadOperation
cause_of err.BadRecordNumber = Some BadRecordNumber
cause_of err.BadRecordSize = Some BadRecordSize
cause_of err.NotForUnits = Some NotForUnits
cause_of err.NeedsUnit = Some NeedsUnit
cause_of (err.Locked by) = Some (Locked (serial_of by))
cause_of err.RecordExists = Some RecordExists
cause_of err.KeyExists = Some KeyExists
cause_of err.RecordNotFound = Some RecordNotFound
cause_of err.EndOfFile = Some EndOfFile
cause_of err.KeyChanged = Some KeyChanged
cause_of err.Changes = Some Changes
cause_of err.Locks = Some Locks
cause_of (err.FileFull free need) = Some (FileFull free need)
cause_of (err.JournalFull free need) = Some (JournalFull free need)
cause_of (err.AfterImagesFull free need) = Some (AfterImagesFull free need)
cause_of (err.BeforeImagesFull free need) = Some (BeforeImagesFull free need)
cause_of (err.Down down) = None

-- the first of two that applies
abbrev pub first_cause : Option Cause → Option Cause → Option Cause
first_cause (Some cause) other = Some cause
first_cause None other = other

-- a cause where a test holds
abbrev pub cause_if : Bool → Cause → Option Cause
cause_if true cause = Some cause
cause_if false cause = None

-- an answer that is a refusal, and tells of no disk
abbrev pub IsRefusal : RecErr → Type 0
IsRefusal e = IsSome (cause_of e)

-- an answer is a refusal for a cause of which one holds, or tells that the disk went down so that the other does
abbrev pub IfRefused : RecErr → (Cause → Type 0) → (Down → Type 0) → Type 0
IfRefused err.BadParameter P Q = P BadParameter
IfRefused err.BadOperation P Q = P BadOperation
IfRefused err.BadRecordNumber P Q = P BadRecordNumber
IfRefused err.BadRecordSize P Q = P BadRecordSize
IfRefused err.NotForUnits P Q = P NotForUnits
IfRefused err.NeedsUnit P Q = P NeedsUnit
IfRefused (err.Locked by) P Q = P (Locked (serial_of by))
IfRefused err.RecordExists P Q = P RecordExists
IfRefused err.KeyExists P Q = P KeyExists
IfRefused err.RecordNotFound P Q = P RecordNotFound
IfRefused err.EndOfFile P Q = P EndOfFile
IfRefused err.KeyChanged P Q = P KeyChanged
IfRefused err.Changes P Q = P Changes
IfRefused err.Locks P Q = P Locks
IfRefused (err.FileFull free need) P Q = P (FileFull free need)
IfRefused (err.JournalFull free need) P Q = P (JournalFull free need)
IfRefused (err.AfterImagesFull free need) P Q = P (AfterImagesFull free need)
IfRefused (err.BeforeImagesFull free need) P Q = P (BeforeImagesFull free need)
IfRefused (err.Down down) P Q = Q down

-- what an answer tells of the disk
abbrev pub down_in : RecErr → Option Down
down_in (err.Down down) = Some down
down_in e = None
