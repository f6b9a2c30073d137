-- Recovery of a file to a chosen moment: which way, what refuses it, and what it gives.
use Rattle.std.specs.Prelude.{◌≡◌, ℕ, Bool, true, not, Option, Some, None, if◌then◌else◌, nat_lt}
use Rattle.unit_laws.specs.vms_model.Ids.{Id}
use Rattle.unit_laws.specs.records_model.Records.{Records}
use Rattle.unit_laws.specs.records_model.History.{current, records, changed_it}
use Rattle.recovery_model.specs.Journal.{rolled_forward, rolled_back}
use Rattle.recovery_model.specs.Timeline.{records_at}
use Rattle.recovery_model.specs.File.{ImageJournal, Save, FileState, all_of, since, IsStill}

-- From the save on by after images, to a moment or to the last; or from what stands back to a moment, by before images.
pub data Way : Type 0 where
  Forward : Option ℕ → Way
  Backward : ℕ → Way

-- Why a recovery is refused: the file has no such journal; it has no save; a branch that is not settled changed it; the moment is before the save's; the
-- journal begins behind the position that is needed; or it tells only since a later moment.
pub data Refusal : Type 0 where
  NoJournal : Refusal
  NoSave : Refusal
  InUse : (serial : Id) → Refusal
  TooEarly : (until saved : ℕ) → Refusal
  PositionsMissing : (needed first : ℕ) → Refusal
  MomentsMissing : (until since : ℕ) → Refusal

-- the first of two refusals
abbrev pub first_of : Option Refusal → Option Refusal → Option Refusal
first_of None b = b
first_of (Some a) b = Some a

abbrev pub refused_if : Bool → Refusal → Option Refusal
refused_if b r = if b then Some r else None

-- whether there is the journal, and no user
abbrev pub no_journal : ImageJournal → Option Refusal
no_journal j = refused_if (not j.on) NoJournal

abbrev pub in_use : Option Id → Option Refusal
in_use None = None
in_use (Some serial) = Some (InUse serial)

abbrev pub no_save : Option Save → Option Refusal
no_save None = Some NoSave
no_save (Some v) = None

-- what a save refuses: a moment before its own
abbrev pub too_early : Option ℕ → Option Save → Option Refusal
too_early None v = None
too_early (Some until) None = None
too_early (Some until) (Some v) = refused_if (nat_lt until v.moment) (TooEarly until v.moment)

-- and a journal: that it begins behind the save's position
abbrev pub positions_missing : ImageJournal → Option Save → Option Refusal
positions_missing j None = None
positions_missing j (Some v) = refused_if (nat_lt v.position j.first) (PositionsMissing v.position j.first)

-- The first of these causes, in their order; `user` is the earliest begun of the unsettled branches that changed the file, where there is one. What is refused by
-- the directory, by want of blocks or of memory, or by a disk is not among them.
abbrev pub refusal : Way → (user : Option Id) → FileState → Option Refusal
refusal (Forward until) user f = first_of (no_journal f.ai) (first_of (no_save f.save) (first_of (in_use user) (first_of (too_early until f.save) (positions_missing f.ai f.save))))
refusal (Backward until) user f = first_of (no_journal f.bi) (first_of (in_use user) (refused_if (nat_lt until f.bi_since) (MomentsMissing until f.bi_since)))

-- the journals and the save reach the moment: nothing refuses a recovery but perhaps a user
abbrev pub Covers : Way → FileState → Type 0
Covers way f = refusal way None f ≡ None

-- A user is an unsettled branch that changed the file, and where there is none, no such branch did.
abbrev pub IsUser : Option Id → FileState → Type 0
IsUser None f = IsStill f
IsUser (Some serial) f = changed_it f.timeline.history serial ≡ true

-- what is made of a save, where there is one
abbrev pub rolled_on : Option ℕ → Option Save → FileState → Records
rolled_on until None f = records f.timeline.history
rolled_on until (Some v) f = rolled_forward until (since v.position f.ai.entries) v.records

-- What a recovery makes: of the save's records, by the after images from its position on; or of the records that stand in the file, by all before images.
abbrev pub rolled : Way → FileState → Records
rolled (Forward until) f = rolled_on until f.save f
rolled (Backward until) f = rolled_back until (all_of f.bi.entries) (current f.timeline.history)

-- and what it is to give: the records of the moment
abbrev pub records_by : Way → FileState → Records
records_by (Forward until) f = records_at f.timeline until
records_by (Backward until) f = records_at f.timeline (Some until)
