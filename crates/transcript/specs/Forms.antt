-- The lines that the code's forms are.
use Rattle.std.specs.Prelude.{ℕ, List, Option, option_map, map}
use Rattle.std.specs.Borrow.{Bor}
use Rattle.vms_model.specs.Times.{CanBeWritten}
use Rattle.vms_base.specs.Ids.{id_of, tid_of, serial_of}
use Rattle.vms_base.specs.Keys.{key_of}
use Rattle.vms_base.specs.Outcomes.{outcome_of, reason_of}
use Rattle.net_wire.specs.Messages.{message_of}
use Rattle.tm_types.specs.Parts.{rm_event_of, log_record_of}
use Rattle.emitter_model.specs.transcript_model.Lines as model
use Rattle.transcript.specs.declared.form.Cause.{Cause}
use Rattle.transcript.specs.declared.form.Cause.TheVariants as cause
use Rattle.transcript.specs.declared.form.Quota.{Quota}
use Rattle.transcript.specs.declared.form.Quota.TheVariants as quota
use Rattle.transcript.specs.declared.form.Standing.{Standing}
use Rattle.transcript.specs.declared.form.Standing.TheVariants as standing
use Rattle.transcript.specs.declared.form.Form.{Form}
use Rattle.transcript.specs.declared.form.Form.TheVariants as form

abbrev pub cause_of : Cause → model.Cause
cause_of cause.Failed = model.Failed
cause_of cause.Stopped = model.Stopped

abbrev pub quota_of : Quota → model.Quota
quota_of quota.Branches = model.Branches
quota_of quota.Files = model.Files
quota_of quota.Changes = model.Changes
quota_of quota.Boots = model.Boots
quota_of quota.Moments = model.Moments
quota_of quota.Locks = model.Locks
quota_of quota.Positions = model.Positions
quota_of quota.Slots = model.Slots
quota_of quota.Bids = model.Bids
quota_of quota.Declared = model.Declared
quota_of quota.Managers = model.Managers

abbrev pub standing_of : Standing → model.Standing
standing_of standing.Active = model.ActiveBranch
standing_of standing.Ending = model.EndingBranch
standing_of standing.Prepared = model.PreparedBranch
standing_of standing.Committed = model.CommittedBranch
standing_of standing.Unknown = model.UnknownBranch

-- the bytes of an image, where there is one
abbrev pub image_of : Option (Bor (List ℕ)) → Option (List ℕ)
image_of image = option_map (λ bytes. bytes.now) image

-- what the form shows
abbrev pub line_of : Form → model.Line
line_of (form.Sent number message) = model.Sent number (message_of message.now)
line_of (form.Unsent message) = model.Unsent (message_of message.now)
line_of (form.Joined tid serial) = model.Joined (tid_of tid) (serial_of serial)
line_of (form.Started tid serial) = model.Started (tid_of tid) (serial_of serial)
line_of (form.Prepared tid serial) = model.Prepared (tid_of tid) (serial_of serial)
line_of (form.ReadOnly tid serial) = model.ReadOnly (tid_of tid) (serial_of serial)
line_of (form.Ended tid reason) = model.Ended (tid_of tid) (option_map reason_of reason)
line_of (form.Forgot tid serial) = model.Forgot (tid_of tid) (serial_of serial)
line_of (form.ManagerTold event tid serial rm) = model.ManagerTold (rm_event_of event) (tid_of tid) (serial_of serial) rm
line_of (form.Asked tid serial outcome) = model.Asked (tid_of tid) (serial_of serial) (outcome_of outcome)
line_of (form.Booted node boot) = model.Booted node boot
line_of (form.Record key bytes) = model.Record (key_of key) bytes.now
line_of (form.Committed tid serial moment) = model.Committed (tid_of tid) (serial_of serial) moment.0
line_of (form.Aborted tid serial reason moment) = model.Aborted (tid_of tid) (serial_of serial) (reason_of reason) moment.0
line_of (form.LastCommitted tid serial moment) = model.LastCommitted (tid_of tid) (serial_of serial) moment.0
line_of (form.LastAborted tid serial reason moment) = model.LastAborted (tid_of tid) (serial_of serial) (reason_of reason) moment.0
line_of (form.ChangeEntry position tid serial file key image) = model.ChangeEntry position (tid_of tid) (serial_of serial) file (key_of key) (image_of image)
line_of (form.PreparedEntry position tid serial) = model.PreparedEntry position (tid_of tid) (serial_of serial)
line_of (form.SettledEntry position tid serial outcome moment) = model.SettledEntry position (tid_of tid) (serial_of serial) (outcome_of outcome) moment.0
line_of (form.LogEntry slot rec) = model.LogEntry slot (log_record_of rec.now)
line_of (form.Down node cause) = model.Down node (cause_of cause)
line_of (form.Crashed node) = model.Crashed node
line_of form.Normal = model.Normal
line_of (form.NormalCount n) = model.NormalCount n
line_of (form.NormalId id) = model.NormalId (id_of id)
line_of (form.NormalSpan first end) = model.NormalSpan first end
line_of (form.NormalSave position moment) = model.NormalSave position moment.0
line_of (form.NormalStanding standing) = model.NormalStanding (standing_of standing)
line_of (form.NormalLog committed prepared free) = model.NormalLog committed prepared free
line_of (form.Pending serials rms) = model.Pending (map serial_of serials.now) rms.now
line_of (form.TransactionAborted reason) = model.TransactionAborted (reason_of reason)
line_of form.RecordNormal = model.RecordNormal
line_of (form.RecordPosition position) = model.RecordPosition position
line_of (form.RecordFound bytes) = model.RecordFound bytes.now
line_of (form.NextFound key bytes) = model.NextFound (key_of key) bytes.now
line_of form.NoSuchNode = model.NoSuchNode
line_of form.NodeDown = model.NodeDown
line_of form.NodeUp = model.NodeUp
line_of form.VolumeInUse = model.VolumeInUse
line_of form.NotInitialized = model.NotInitialized
line_of (form.NotInitializedAt node) = model.NotInitializedAt node
line_of form.NoSuchMessage = model.NoSuchMessage
line_of form.BadLabel = model.BadLabel
line_of form.FileNotFound = model.FileNotFound
line_of form.FileExists = model.FileExists
line_of form.BadParameter = model.BadParameter
line_of form.BadOperation = model.BadOperation
line_of form.BadRecordNumber = model.BadRecordNumber
line_of form.BadRecordSize = model.BadRecordSize
line_of form.NoSuchTransaction = model.NoSuchTransaction
line_of form.NoSuchBranchId = model.NoSuchBranchId
line_of form.NoSuchManager = model.NoSuchManager
line_of form.WrongState = model.WrongState
line_of (form.InDoubt serial node) = model.InDoubt (serial_of serial) node
line_of form.NotForUnits = model.NotForUnits
line_of form.NeedsUnit = model.NeedsUnit
line_of form.NoJournal = model.NoJournal
line_of form.NoSave = model.NoSave
line_of (form.TooEarly until saved) = model.TooEarly until.0 saved.0
line_of (form.PositionsMissing needed first) = model.PositionsMissing needed first
line_of (form.MomentsMissing until since) = model.MomentsMissing until.0 since.0
line_of (form.RecordLocked serial) = model.RecordLocked (serial_of serial)
line_of (form.FileLocked serial) = model.FileLocked (serial_of serial)
line_of (form.NoVolume node condition block) = model.NoVolume node condition block
line_of form.RecordExists = model.RecordExists
line_of form.KeyExists = model.KeyExists
line_of form.RecordNotFound = model.RecordNotFound
line_of form.EndOfFile = model.EndOfFile
line_of form.KeyChanged = model.KeyChanged
line_of (form.QuotaExceeded quota limit) = model.QuotaExceeded (quota_of quota) limit
line_of (form.VolumeFull free need) = model.VolumeFull free need
line_of (form.FileFull free need) = model.FileFull free need
line_of (form.JournalFull free need) = model.JournalFull free need
line_of (form.AftersFull free need) = model.AftersFull free need
line_of (form.BeforesFull free need) = model.BeforesFull free need
line_of form.NoMemory = model.NoMemory
line_of (form.Broken cause) = model.Broken (cause_of cause)
line_of (form.BadLine column) = model.BadLine column
line_of form.TooLong = model.TooLong

-- the moments that the form shows can be written: each is at most 31-DEC-9999 23:59:59.99
abbrev pub HasTime : Form → Type 0
HasTime (form.Committed tid serial moment) = CanBeWritten moment.0
HasTime (form.Aborted tid serial reason moment) = CanBeWritten moment.0
HasTime (form.LastCommitted tid serial moment) = CanBeWritten moment.0
HasTime (form.LastAborted tid serial reason moment) = CanBeWritten moment.0
HasTime (form.SettledEntry position tid serial outcome moment) = CanBeWritten moment.0
HasTime (form.NormalSave position moment) = CanBeWritten moment.0
HasTime (form.TooEarly until saved) = CanBeWritten until.0 × CanBeWritten saved.0
HasTime (form.MomentsMissing until since) = CanBeWritten until.0 × CanBeWritten since.0
HasTime _ = Unit {0}
