-- What a disk tells, and the disk model.
use Rattle.std.specs.Prelude.{◌≡◌, ℕ, ◌+◌, ◌-◌, ◌*◌, ◌/◌, ◌%◌, ◌^◌, ◌==◌, ◌||◌, Bool, true, false, List, [], ◌∷◌, ◌++◌, length, take, drop, replicate, Option, Some, None, option_map, Result, Ok, Err, IsSomeAnd, MatchOption, slice_set, if◌then◌else◌, nat_lt}
use Rattle.block_disk.specs.declared.disk.DiskErr.{DiskErr}
use Rattle.block_disk.specs.declared.disk.DiskErr.TheVariants.{Failed, Stopped}
use Rattle.block_disk.specs.declared.disk.DiskCall.{DiskCall}
use Rattle.block_disk.specs.declared.disk.DiskCall.TheVariants.{Arm, Power}
use Rattle.block_disk.specs.Blocks.{block_at, SameBut, with_number}
use Rattle.block_disk.specs.Counts.{counted}

-- the `arm` and `power` calls of a disk: their number, and the first 1,048,576 of them
pub record CallLog : Type 0 where
  pub number : ℕ
  pub first : List DiskCall

-- one call more
abbrev pub noted : DiskCall → CallLog → CallLog
noted call log = record { number = counted true log.number; first = if nat_lt (length log.first) 1048576 then log.first ++ call ∷ [] else log.first }

-- the state of a disk, as far as it is told
pub record DiskState : Type 0 where
  -- how many blocks it has
  pub size : ℕ
  -- how many answers were Failed, and how many Stopped, each up to the greatest u64
  pub faults : ℕ
  pub stops : ℕ
  -- it answers Stopped until it is powered
  pub stopped : Bool
  pub calls : CallLog
  -- the numbers of the pending blocks
  pub pending : List ℕ
  -- what reads give, where it is told
  pub seen : Option (List (List ℕ))

-- whether an answer is Failed
abbrev pub is_failed : {T : Type 0} → Result T DiskErr → Bool
is_failed (Ok x) = false
is_failed (Err Failed) = true
is_failed (Err Stopped) = false

-- whether an answer is Stopped
abbrev pub is_stopped : {T : Type 0} → Result T DiskErr → Bool
is_stopped (Ok x) = false
is_stopped (Err Failed) = false
is_stopped (Err Stopped) = true

-- the state after an answer that wrote nothing: its count is raised, and after Stopped the disk is stopped
abbrev pub answered : {T : Type 0} → Result T DiskErr → DiskState → DiskState
answered r s = record s { faults = counted (is_failed r) s.faults; stops = counted (is_stopped r) s.stops; stopped = is_stopped r || s.stopped }

-- block n now has these bytes, and is pending
abbrev pub put : ℕ → List ℕ → DiskState → DiskState
put n bytes s = record s { pending = with_number n s.pending; seen = option_map (λ blocks. slice_set blocks n bytes) s.seen }

-- nothing is pending
abbrev pub settled : DiskState → DiskState
settled s = record s { pending = [] }

-- an `arm` call is noted
abbrev pub armed : ℕ → ℕ → DiskState → DiskState
armed writes choice s = record s { calls = noted (Arm writes choice) s.calls }

-- a `power` call is noted, with the stops before it
abbrev pub powering : DiskState → DiskState
powering s = record s { calls = noted (Power s.stops) s.calls }

-- a power loss at this moment may leave this image
abbrev pub MayLeave : DiskState → List (List ℕ) → Type 0
MayLeave s image = IsSomeAnd s.seen (λ seen. SameBut s.pending seen image)

-- after `power` the disk is not stopped, nothing is pending, and it reads as an image that a power loss may have left
pub record IsPowered (old new : DiskState) : Type 0 where
  pub state : new ≡ record (powering old) { stopped = false; pending = []; seen = new.seen }
  pub image : MatchOption old.seen (new.seen ≡ None) (λ seen. IsSomeAnd new.seen (SameBut old.pending seen))

-- a pending block after `power`, in its form: 0 the old bytes, 1 the new ones, 2 the first half new, 3 all bytes 0xEE
abbrev pub torn_block : ℕ → List ℕ → List ℕ → List ℕ
torn_block form old new = if form == 0 then old else (if form == 1 then new else (if form == 2 then take 256 new ++ drop 256 old else replicate 512 238))

-- the form of the i-th pending block, counted from 0 in ascending order: two bits of the choice, which repeats after 32 blocks
abbrev pub form_of : ℕ → ℕ → ℕ
form_of choice i = choice / 2 ^ (2 * (i % 32)) % 4

-- the blocks after `power`: these pending blocks, numbered from i on, each in its form
abbrev pub torn_from : ℕ → ℕ → List (ℕ × List ℕ) → List (List ℕ) → List (List ℕ)
torn_from choice i [] blocks = blocks
torn_from choice i (e ∷ es) blocks = torn_from choice (i + 1) es (slice_set blocks e.0 (torn_block (form_of choice i) (block_at blocks e.0) e.1))

-- whether the next write spends the fuse: so many writes are left before it
abbrev pub is_spent : Option ℕ → Bool
is_spent None = false
is_spent (Some left) = left == 0

-- the fuse after a write
abbrev pub burnt : Option ℕ → Option ℕ
burnt None = None
burnt (Some left) = if left == 0 then None else Some (left - 1)

-- a new disk: nothing is pending, nothing was counted, and it reads as the platter
abbrev pub fresh : ℕ → ℕ → Option (List (List ℕ)) → DiskState
fresh size faults told = record { size = size; faults = faults; stops = 0; stopped = false; calls = record { number = 0; first = [] }; pending = []; seen = told }
