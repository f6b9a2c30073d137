-- What a change of one key makes of a volume.
use Rattle.std.specs.Prelude.{◌≡◌, ◌≤◌, ◌+◌, ◌^◌, ℕ, List, Bool, true, Option, Some, None, length, option_map}
use Rattle.file_base.specs.declared.head.FileHead.{FileHead}
use Rattle.journal_model.specs.Entries.{Entry, IsEntry, spelling}
use Rattle.vms_model.specs.Keys.{Key}
use Rattle.vms_base.specs.Ids.{serial_of, tid_of}
use Rattle.vms_base.specs.declared.ids.Serial.{Serial}
use Rattle.vms_base.specs.declared.ids.Tid.{Tid}
use Rattle.vms_model.specs.Transactions.{Commit}
use Rattle.unit_table.specs.Units.{OpenUnit}
use Rattle.volume.specs.State.{VolumeState}
use Rattle.volume_files.specs.Staging.{StagesFile, TellsSet}
use Rattle.volume_format.specs.declared.home.Ending.TheVariants as ending
use Rattle.kept_files.specs.file_settlements.Settling.{EntersSettled}
use Rattle.kept_files.specs.Own.{only}
use Rattle.unit_journal.specs.Entries.{settled_entry}
use Rattle.image_appends.specs.declared.side.Side.TheVariants.{After, Before}
use Rattle.image_appends.specs.Images.{content_with_both, heads_with_both, is_kept, span_of}
use Rattle.volume.specs.Catalogs.{head_at}
use Rattle.unit_journal.specs.Settling.{MakesSettlement}
use Rattle.unit_journal.specs.Spans.{entered, longer}

-- positions in the journals of images of a file, where it keeps them, stay low with so many bytes more
abbrev pub AreLow : (after before : ℕ) → (file : ℕ) → List (Option FileHead) → Type 0
AreLow after before file heads = (h : FileHead) → head_at heads file ≡ Some h → (is_kept After h ≡ true → (span_of After h).end + after ≤ 2 ^ 62) × (is_kept Before h ≡ true → (span_of Before h).end + before ≤ 2 ^ 62)

-- The images of a change stand at the ends of the journals of a file, where it keeps them: one entry in that of after images, one in that of before images.
pub record EntersImages (file : ℕ) (a e : Entry) (v mid : VolumeState) : Type 0 where
  pub current : mid.store.current ≡ option_map (content_with_both file (spelling a) (spelling e) v.catalog.heads) v.store.current
  pub catalog : mid.catalog ≡ record v.catalog { heads = heads_with_both file (length (spelling a)) (length (spelling e)) v.catalog.heads }

-- A key of a file was set from one volume to another; an entry tells what it has since then, in the file's journal of after images; and an entry tells what it
-- had, in the file's journal of before images and in the journal of recovery units.
pub record EntersKey (file : ℕ) (h : FileHead) (held : Key → Bool) (key : Key) (after : Option (List ℕ)) (a e : Entry) (old new : VolumeState) : Type 0 where
  pub image : IsEntry a
  pub entry : IsEntry e
  pub set : VolumeState
  pub head : FileHead
  pub stages : StagesFile file h 417 old set head
  pub sets : TellsSet h held key after old set head
  pub imaged : VolumeState
  pub images : EntersImages file a e set imaged
  pub current : new.store.current ≡ option_map (entered old.catalog.ru (spelling e)) imaged.store.current
  pub catalog : new.catalog ≡ record imaged.catalog { ru = longer (length (spelling e)) old.catalog.ru }

-- A key of a file was set from one volume to another, and that is committed as this branch of this transaction at this moment: the home tells it as the last
-- settlement, the file's journals of images have the change and its settlement, the journal of recovery units has no entry, and begins with the earliest change
-- of the units.
pub record CommitsBranch (file : ℕ) (h : FileHead) (held : Key → Bool) (key : Key) (after : Option (List ℕ)) (a e : Entry) (tid : Tid) (serial : Serial) (moment : ℕ) (left : List (Option OpenUnit)) (old new : VolumeState) : Type 0 where
  pub set : VolumeState
  pub head : FileHead
  pub stages : StagesFile file h 417 old set head
  pub sets : TellsSet h held key after old set head
  pub each : IsEntry a × IsEntry e
  pub imaged : VolumeState
  pub images : EntersImages file a e set imaged
  pub closing : IsEntry (settled_entry (tid_of tid) (serial_of serial) Commit moment)
  pub closed : VolumeState
  pub closes : EntersSettled (only file) (Some (settled_entry (tid_of tid) (serial_of serial) Commit moment)) imaged closed
  pub settles : MakesSettlement tid serial ending.Commit moment None left closed new

-- so as the transaction and the branch of one id
abbrev pub CommitsKey : (file : ℕ) → FileHead → (held : Key → Bool) → Key → (after : Option (List ℕ)) → (a e : Entry) → Tid → (moment : ℕ) → (left : List (Option OpenUnit)) → (old new : VolumeState) → Type 0
CommitsKey file h held key after a e tid moment left old new = CommitsBranch file h held key after a e tid (record { 0 = tid.0 }) moment left old new
