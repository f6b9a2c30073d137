-- What votes and their settlements make of a volume.
use Rattle.std.specs.Prelude.{◌≡◌, ◌⊎◌, ℕ, Bool, List, [], Option, Some, None, option_map}
use Rattle.commit_protocol.specs.Messages.{LogRecord, Name, PreparedRecord}
use Rattle.journal_model.specs.Entries.{Entry}
use Rattle.unit_entries.specs.log_laws.Slots.{Slots}
use Rattle.unit_aborts.specs.Aborting.{Abortion, abort_entry}
use Rattle.unit_journal.specs.Entries.{prepared_entry}
use Rattle.unit_journal.specs.Groups.{Breaks}
use Rattle.unit_journal.specs.Settling.{content_with, entry_if, span_with}
use Rattle.kept_files.specs.file_settlements.Settling.{SettlesFiles}
use Rattle.unit_table.specs.Units.{OpenUnit}
use Rattle.unit_aborts.specs.unit_undo.Undoing.{GoesOn}
use Rattle.unit_aborts.specs.unit_undo.Way.{FailsOnTheWay, Undoes}
use Rattle.vms_base.specs.Ids.{serial_of}
use Rattle.vms_base.specs.declared.ids.Serial.{Serial}
use Rattle.vms_base.specs.declared.ids.Tid.{Tid}
use Rattle.vms_model.specs.Ids.{Id}
use Rattle.volume.specs.State.{VolumeState}
use Rattle.volume_format.specs.declared.home.Ending.{Ending}
use Rattle.volume_format.specs.declared.home.Ending.TheVariants as ending
use Rattle.unit_votes.specs.Logging.{HasLog, SetsRecord}

-- the record of a prepared branch, with the managers that are to be told its outcome
abbrev pub vote_record : (tid serial : Id) → (rms : List Name) → LogRecord
vote_record tid serial rms = record { kind = PreparedRecord; tid = tid; serial = serial; waiting = []; rms = rms }

-- its entry in the journal, where it changed something
abbrev pub vote_entry : Bool → (tid serial : Id) → Option Entry
vote_entry has_changed tid serial = entry_if has_changed (prepared_entry tid serial)

-- A branch is prepared in one group: its record is in a slot of the log, and its entry, where it has one, is the journal's last.
pub record MakesVote (r : LogRecord) (e : Option Entry) (ss ts : Slots) (v made : VolumeState) : Type 0 where
  pub logged : VolumeState
  pub log : SetsRecord r.serial (Some r) ss ts v logged
  pub current : made.store.current ≡ option_map (content_with e v.catalog.ru) logged.store.current
  pub catalog : made.catalog ≡ record v.catalog { ru = span_with e v.catalog.ru }

-- A settlement of a branch that changed these files.
pub record Settlement : Type 0 where
  pub files : List Bool
  pub tid : Tid
  pub serial : Serial
  pub ending : Ending
  pub moment : ℕ
  pub entry : Option Entry
  pub left : List (Option OpenUnit)

-- It is made in one group with what the log has of the branch from then on.
pub record MakesLogged (x : Settlement) (rec : Option LogRecord) (ss ts : Slots) (v made : VolumeState) : Type 0 where
  pub logged : VolumeState
  pub log : SetsRecord (serial_of x.serial) rec ss ts v logged
  pub makes : SettlesFiles x.files x.tid x.serial x.ending x.moment x.entry x.left logged made

-- that of an abort
abbrev pub abort_settlement : Abortion → Settlement
abort_settlement x = record { files = x.files; tid = x.tid; serial = x.serial; ending = ending.Abort x.reason; moment = x.moment; entry = abort_entry x; left = x.left }

-- A prepared branch is aborted: what it changed is set back, and the last group of that has its settlement too, and frees its slot in the log. That is the
-- content's log if the one before that group was.
pub record AbortsLogged (x : Abortion) (ss ts : Slots) (v w : VolumeState) : Type 0 where
  pub mid : VolumeState
  pub goes : GoesOn v mid
  pub undoes : Undoes x.positions v mid
  pub makes : MakesLogged (abort_settlement x) None ss ts mid w
  pub log : HasLog ss mid → HasLog ts w

-- The disk went down in the last group: its settlement was perhaps made.
pub record BreaksLastLogged (x : Abortion) (ss ts : Slots) (v w : VolumeState) : Type 0 where
  pub mid : VolumeState
  pub goes : GoesOn v mid
  pub undoes : Undoes x.positions v mid
  pub breaks : Breaks (MakesLogged (abort_settlement x) None ss ts mid) mid w

-- The disk went down: each image is on the way of the undo, or the last group was under way.
abbrev pub BreaksOffLogged : Abortion → (ss ts : Slots) → (v w : VolumeState) → Type 0
BreaksOffLogged x ss ts v w = FailsOnTheWay x.positions v w ⊎ BreaksLastLogged x ss ts v w
