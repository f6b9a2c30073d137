-- Why the disk went down, and what an answer leaves of it.
use Rattle.std.specs.Prelude.{◌||◌, Bool, true, false, Result, Ok, Err}
use Rattle.block_disk.specs.declared.disk.DiskErr.{DiskErr}
use Rattle.block_disk.specs.declared.disk.DiskErr.TheVariants.{Failed as disk_failed, Stopped as disk_stopped}
use Rattle.block_disk.specs.Counts.{counted}
use Rattle.block_disk.specs.Disk.{DiskState}
use Rattle.careful_write.specs.declared.down.Down.{Down}
use Rattle.careful_write.specs.declared.down.Down.TheVariants.{Failed, Stopped}
use Rattle.careful_write.specs.Steps.{CountsOnce}

-- the disk's answer, handed on
abbrev pub down_of : DiskErr → Down
down_of disk_failed = Failed
down_of disk_stopped = Stopped

-- whether an answer is Failed
abbrev pub is_failed : {T : Type 0} → Result T Down → Bool
is_failed (Ok x) = false
is_failed (Err Failed) = true
is_failed (Err Stopped) = false

-- whether an answer is Stopped
abbrev pub is_stopped : {T : Type 0} → Result T Down → Bool
is_stopped (Ok x) = false
is_stopped (Err Failed) = false
is_stopped (Err Stopped) = true

-- the disk after an answer that wrote nothing
abbrev pub answered : {T : Type 0} → Result T Down → DiskState → DiskState
answered r s = record s { faults = counted (is_failed r) s.faults; stops = counted (is_stopped r) s.stops; stopped = is_stopped r || s.stopped }

-- the answer is the disk's, and was counted once
abbrev pub Counts : {T : Type 0} → Result T Down → DiskState → DiskState → Type 0
Counts r old new = CountsOnce (is_failed r) (is_stopped r) old new

-- the disk went down so, which was counted once
abbrev pub CountsDown : Down → DiskState → DiskState → Type 0
CountsDown down old new = let r : Result (Unit {0}) Down = Err down in Counts r old new

-- the disk after it went down so and wrote nothing
abbrev pub went_down : Down → DiskState → DiskState
went_down down s = let r : Result (Unit {0}) Down = Err down in answered r s
