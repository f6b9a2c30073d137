-- What the code's values stand for.
use Rattle.std.specs.Prelude.{ℕ, Bool, true, false, List, Option, Some, None, map, option_map}
use Rattle.std.specs.FinMap.{empty, from_entries}
use Rattle.vms_base.specs.vms_model.Ids.{Id}
use Rattle.vms_base.specs.vms_model.Keys as key
use Rattle.vms_base.specs.vms_model.Transactions as settled
use Rattle.vms_base.specs.Ids.{id_of}
use Rattle.vms_base.specs.Outcomes.{outcome_of, reason_of}
use Rattle.vms_base.specs.declared.outcomes.Reason.{Reason}
use Rattle.reference_index.specs.records_model.History as history
use Rattle.reference_index.specs.records_model.Records.{Records}
use Rattle.reference_index.specs.recovery_model.Journal as images
use Rattle.reference_index.specs.recovery_model.File as recovery
use Rattle.reference_index.specs.script_model.Statements as said
use Rattle.reference_index.specs.transcript_model.Lines as model
use Rattle.reference_index.specs.run_model.World as world
use Rattle.net_wire.specs.commit_protocol.Table as table
use Rattle.net_wire.specs.Messages.{message_of}
use Rattle.tm_types.specs.Parts.{rm_event_of, log_record_of}
use Rattle.reference_index.specs.Standing.{value_of, key_of, lent_key, changes_of, layout_of}
use Rattle.reference_world.specs.declared.world.BranchKey.{BranchKey}
use Rattle.reference_world.specs.declared.world.Organization.{Organization}
use Rattle.reference_world.specs.declared.world.Organization.TheVariants as organization
use Rattle.reference_world.specs.declared.world.Side.{Side}
use Rattle.reference_world.specs.declared.world.Side.TheVariants as side
use Rattle.reference_world.specs.declared.world.Image.{Image}
use Rattle.reference_world.specs.declared.world.Image.TheVariants as image
use Rattle.reference_world.specs.declared.world.Placed.{Placed}
use Rattle.reference_world.specs.declared.world.ImageJournal.{ImageJournal}
use Rattle.reference_world.specs.declared.world.KeptRow.{KeptRow}
use Rattle.reference_world.specs.declared.world.Save.{Save}
use Rattle.reference_world.specs.declared.world.Carried.{Carried}
use Rattle.reference_world.specs.declared.world.LiveChanges.{LiveChanges}
use Rattle.reference_world.specs.declared.world.SettledChanges.{SettledChanges}
use Rattle.reference_world.specs.declared.world.File.{File}
use Rattle.reference_world.specs.declared.world.LabelEntry.{LabelEntry}
use Rattle.reference_world.specs.declared.world.Settlement.{Settlement}
use Rattle.reference_world.specs.declared.world.Volume.{Volume}
use Rattle.reference_world.specs.declared.world.Volume.TheVariants as volume
use Rattle.reference_world.specs.declared.world.DiskCall.{DiskCall}
use Rattle.reference_world.specs.declared.world.DiskCall.TheVariants as call
use Rattle.reference_world.specs.declared.world.Row.{Row}
use Rattle.reference_world.specs.declared.line.Quota.{Quota}
use Rattle.reference_world.specs.declared.line.Quota.TheVariants as quota
use Rattle.reference_world.specs.declared.line.Standing.{Standing}
use Rattle.reference_world.specs.declared.line.Standing.TheVariants as standing
use Rattle.reference_world.specs.declared.line.Line.{Line}
use Rattle.reference_world.specs.declared.line.Line.TheVariants as line

abbrev pub branch_key_of : BranchKey → table.Key
branch_key_of k = record { tid = id_of k.tid; serial = id_of k.serial }

-- the serials of branches
abbrev pub serials_of : List BranchKey → List Id
serials_of ks = map (λ (k : BranchKey). id_of k.serial) ks

abbrev pub live_of : LiveChanges → history.LiveChanges
live_of l = record { serial = id_of l.serial; changes = changes_of l.changes.items }

abbrev pub done_of : SettledChanges → history.SettledChanges
done_of s = record { serial = id_of s.serial; outcome = outcome_of s.outcome; moment = s.moment; changes = changes_of s.changes.items }

-- records by their rows
abbrev pub kept_of : KeptRow → key.Key × List ℕ
kept_of r = (key_of r.key, r.bytes.items)

abbrev pub rows_of : List KeptRow → Records
rows_of rs = from_entries (map kept_of rs)

-- what an entry of a journal of images tells of this branch
abbrev pub image_of : Id → Image → images.Entry
image_of serial (image.Changed k value) = images.Changed serial (key_of k) (value_of value)
image_of serial (image.Settled outcome moment) = images.Settled serial (outcome_of outcome) moment.hundredths

abbrev pub placed_of : Placed → recovery.Placed
placed_of p = record { at = p.at; tid = id_of p.branch.tid; entry = image_of (id_of p.branch.serial) p.image }

abbrev pub images_of : ImageJournal → recovery.ImageJournal
images_of j = record { on = j.on; start = j.start; blocks = j.blocks; first = j.first; end = j.end; entries = map placed_of j.entries.items }

abbrev pub save_of : Save → recovery.Save
save_of v = record { start = v.start; buckets = v.buckets; position = v.position; moment = v.moment; records = rows_of v.records.items }

abbrev pub carried_of : Carried → world.Carried
carried_of c = record { after = images_of c.after; before = images_of c.before; since = c.since; save = option_map save_of c.save }

abbrev pub side_of : Side → said.Side
side_of side.After = said.AfterImages
side_of side.Before = said.BeforeImages

abbrev pub history_of : File → history.History
history_of f = record { base = rows_of f.base.items; moment = f.moment; settled = map done_of f.settled.items; live = map live_of f.live.items }

abbrev pub organization_of : Organization → world.Organization
organization_of organization.Sequential = world.Sequential
organization_of (organization.Relative greatest) = world.Relative greatest
organization_of (organization.Indexed position size) = world.Indexed position size

-- a file was made in the run, so that nothing is told of moments before its base
abbrev pub file_of : File → world.File
file_of f = record {
  name = f.name;
  bucket = f.bucket;
  record_size = f.record_size;
  organization = organization_of f.organization;
  start = f.start;
  buckets = f.buckets;
  carried = carried_of f.carried;
  recovery_units = f.recovery_units;
  history = history_of f;
  past = λ moment. empty;
  layout = layout_of f.layout;
}

abbrev pub directory_of : List (Option File) → List (Option world.File)
directory_of fs = map (option_map file_of) fs

abbrev pub label_of : LabelEntry → world.Label
label_of l = record { name = l.name; node = l.node; tid = id_of l.tid; bid = option_map id_of l.bid; serial = option_map id_of l.serial }

-- a branch that was aborted for no reason was committed
abbrev pub outcome_by : Option Reason → settled.Outcome
outcome_by None = settled.Commit
outcome_by (Some reason) = settled.Abort

abbrev pub settlement_of : Settlement → world.Settlement
settlement_of s = record { tid = id_of s.tid; serial = id_of s.serial; outcome = outcome_by s.reason; reason = option_map reason_of s.reason; moment = s.moment.hundredths }

abbrev pub volume_of : Volume → world.Volume
volume_of volume.Sound = world.Sound
volume_of (volume.Faulty condition block) = world.Faulty condition block
volume_of volume.Unknown = world.Unknown

-- whether its last INIT failed: nothing else leaves a disk of which nothing is known
abbrev pub is_unmade : Volume → Bool
is_unmade volume.Sound = false
is_unmade (volume.Faulty condition block) = false
is_unmade volume.Unknown = true

-- no disk is stopped
abbrev pub call_of : DiskCall → world.Call
call_of (call.Arm writes choice) = world.Arm writes choice
call_of call.Power = world.Power 0

-- a record at its key
abbrev pub entry_of : Row → key.Key × List ℕ
entry_of r = (lent_key r.key, r.bytes.now)

abbrev pub quota_of : Quota → model.Quota
quota_of quota.Branches = model.Branches
quota_of quota.Files = model.Files
quota_of quota.Changes = model.Changes
quota_of quota.Boots = model.Boots
quota_of quota.Moments = model.Moments
quota_of quota.Locks = model.Locks
quota_of quota.Positions = model.Positions
quota_of quota.Slots = model.Slots
quota_of quota.Bids = model.Bids
quota_of quota.Declared = model.Declared
quota_of quota.Managers = model.Managers

-- how a branch stands
abbrev pub standing_of : Standing → model.Standing
standing_of standing.Active = model.ActiveBranch
standing_of standing.Ending = model.EndingBranch
standing_of standing.Prepared = model.PreparedBranch
standing_of standing.Committed = model.CommittedBranch
standing_of standing.Unknown = model.UnknownBranch

-- what the line shows
abbrev pub line_of : Line → model.Line
line_of (line.Sent number m) = model.Sent number (message_of m)
line_of (line.Unsent m) = model.Unsent (message_of m)
line_of (line.Joined k) = model.Joined (id_of k.tid) (id_of k.serial)
line_of (line.Started k) = model.Started (id_of k.tid) (id_of k.serial)
line_of (line.Prepared k) = model.Prepared (id_of k.tid) (id_of k.serial)
line_of (line.ReadOnly k) = model.ReadOnly (id_of k.tid) (id_of k.serial)
line_of (line.Ended tid reason) = model.Ended (id_of tid) (option_map reason_of reason)
line_of (line.Forgot k) = model.Forgot (id_of k.tid) (id_of k.serial)
line_of (line.Asked k outcome) = model.Asked (id_of k.tid) (id_of k.serial) (outcome_of outcome)
line_of (line.ManagerTold event k rm) = model.ManagerTold (rm_event_of event) (id_of k.tid) (id_of k.serial) rm
line_of (line.Booted node boot) = model.Booted node boot
line_of (line.Record k bytes) = model.Record (key_of k) bytes.items
line_of (line.Committed i moment) = model.Committed (id_of i.tid) (id_of i.serial) moment.hundredths
line_of (line.Aborted i reason moment) = model.Aborted (id_of i.tid) (id_of i.serial) (reason_of reason) moment.hundredths
line_of (line.LastCommitted i moment) = model.LastCommitted (id_of i.tid) (id_of i.serial) moment.hundredths
line_of (line.LastAborted i reason moment) = model.LastAborted (id_of i.tid) (id_of i.serial) (reason_of reason) moment.hundredths
line_of (line.ChangeEntry position i file k image) = model.ChangeEntry position (id_of i.tid) (id_of i.serial) file (key_of k) (value_of image)
line_of (line.SettledEntry position i outcome moment) = model.SettledEntry position (id_of i.tid) (id_of i.serial) (outcome_of outcome) moment.hundredths
line_of (line.PreparedEntry position i) = model.PreparedEntry position (id_of i.tid) (id_of i.serial)
line_of (line.LogEntry slot r) = model.LogEntry slot (log_record_of r)
line_of (line.Crashed node) = model.Crashed node
line_of line.Normal = model.Normal
line_of (line.NormalCount n) = model.NormalCount n
line_of (line.NormalId i) = model.NormalId (id_of i)
line_of (line.NormalSpan first end) = model.NormalSpan first end
line_of (line.NormalSave position moment) = model.NormalSave position moment.hundredths
line_of (line.NormalStanding standing) = model.NormalStanding (standing_of standing)
line_of (line.NormalLog committed prepared free) = model.NormalLog committed prepared free
line_of (line.Pending serials rms) = model.Pending (map id_of serials.items) rms.items
line_of (line.TransactionAborted reason) = model.TransactionAborted (reason_of reason)
line_of line.RecordNormal = model.RecordNormal
line_of (line.RecordPosition n) = model.RecordPosition n
line_of (line.RecordFound bytes) = model.RecordFound bytes.items
line_of (line.NextFound k bytes) = model.NextFound (key_of k) bytes.items
line_of line.NoSuchNode = model.NoSuchNode
line_of line.NodeDown = model.NodeDown
line_of line.NodeUp = model.NodeUp
line_of line.VolumeInUse = model.VolumeInUse
line_of line.NotInitialized = model.NotInitialized
line_of (line.NotInitializedAt node) = model.NotInitializedAt node
line_of line.NoSuchMessage = model.NoSuchMessage
line_of line.BadLabel = model.BadLabel
line_of line.FileNotFound = model.FileNotFound
line_of line.FileExists = model.FileExists
line_of line.BadParameter = model.BadParameter
line_of line.BadOperation = model.BadOperation
line_of line.BadRecordNumber = model.BadRecordNumber
line_of line.BadRecordSize = model.BadRecordSize
line_of line.NoSuchTransaction = model.NoSuchTransaction
line_of line.NoSuchBranchId = model.NoSuchBranchId
line_of line.NoSuchManager = model.NoSuchManager
line_of line.WrongState = model.WrongState
line_of (line.InDoubt serial node) = model.InDoubt (id_of serial) node
line_of line.NotForUnits = model.NotForUnits
line_of line.NeedsUnit = model.NeedsUnit
line_of line.NoJournal = model.NoJournal
line_of line.NoSave = model.NoSave
line_of (line.TooEarly until saved) = model.TooEarly until.hundredths saved.hundredths
line_of (line.PositionsMissing needed first) = model.PositionsMissing needed first
line_of (line.MomentsMissing until since) = model.MomentsMissing until.hundredths since.hundredths
line_of (line.RecordLocked i) = model.RecordLocked (id_of i)
line_of (line.FileLocked i) = model.FileLocked (id_of i)
line_of (line.NoVolume node condition block) = model.NoVolume node condition block
line_of line.RecordExists = model.RecordExists
line_of line.KeyExists = model.KeyExists
line_of line.RecordNotFound = model.RecordNotFound
line_of line.EndOfFile = model.EndOfFile
line_of line.KeyChanged = model.KeyChanged
line_of (line.QuotaExceeded q limit) = model.QuotaExceeded (quota_of q) limit
line_of (line.VolumeFull free need) = model.VolumeFull free need
line_of (line.FileFull free need) = model.FileFull free need
line_of (line.JournalFull free need) = model.JournalFull free need
line_of (line.AftersFull free need) = model.AftersFull free need
line_of (line.BeforesFull free need) = model.BeforesFull free need
line_of (line.BadLine column) = model.BadLine column
line_of line.TooLong = model.TooLong
