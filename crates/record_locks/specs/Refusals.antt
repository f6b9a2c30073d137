-- The refusal that an answer is.
use Rattle.std.specs.Prelude.{Option, Some, None, Result, Ok, Err}
use Rattle.vms_base.specs.Ids.{serial_of}
use Rattle.record_locks.specs.declared.locks.LockErr.{LockErr}
use Rattle.record_locks.specs.declared.locks.LockErr.TheVariants.{HeldBy, Quota}
use Rattle.record_locks.specs.Locks.{Refusal, Held, Full}

abbrev pub refusal_of : {T : Type 0} → Result T LockErr → Option Refusal
refusal_of (Ok x) = None
refusal_of (Err (HeldBy by)) = Some (Held (serial_of by))
refusal_of (Err Quota) = Some Full
