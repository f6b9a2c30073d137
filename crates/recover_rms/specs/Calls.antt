-- What a recovery leaves of a volume.
use Rattle.std.specs.Prelude.{◌≡◌, ℕ, ◌+◌, ◌-◌, ◌*◌, ◌^◌, ◌≤◌, ◌<◌, true, List, Option, Some, None}
use Rattle.careful_write.specs.Down.{CountsDown}
use Rattle.careful_write.specs.State.{Leaves}
use Rattle.careful_write.specs.declared.down.Down.{Down}
use Rattle.file_base.specs.declared.head.FileHead.{FileHead}
use Rattle.journal_model.specs.Ring.{ring_size}
use Rattle.image_entries.specs.journal_store.Leaving.{Fell}
use Rattle.load_pages.specs.load_laws.Records.{Keyed}
use Rattle.records_model.specs.History.{current}
use Rattle.image_entries.specs.recovery_model.File.{FileState}
use Rattle.image_entries.specs.recovery_model.Recovery.{rolled}
use Rattle.vms_base.specs.declared.ids.Serial.{Serial}
use Rattle.volume.specs.Catalogs.{head_at}
use Rattle.volume.specs.State.{VolumeState, SameVolume}
use Rattle.file_recoveries.specs.Causes.{cause_of, way_of}
use Rattle.file_recoveries.specs.Files.{HasFile}
use Rattle.file_recoveries.specs.Suiting.{MayHave}
use Rattle.file_recoveries.specs.declared.causes.Way.{Way}
use Rattle.file_recoveries.specs.declared.errors.RecoverErr.{RecoverErr}
use Rattle.file_recoveries.specs.declared.errors.RecoverErr.TheVariants as err
use Rattle.recover_rms.specs.Loading.{as_loaded}
use Rattle.recover_rms.specs.Replacing.{Replaced, IsOldOrNew, IsLongest, wanted_buckets}

-- The entries of a journal that a file has lie in its ring; and the journals of a file end so far before the greatest position that they may begin anew.
pub record AreInRings (h : FileHead) : Type 0 where
  pub after : h.marks.ai ≡ true → h.ai.end - h.ai.first ≤ ring_size h.ai
  pub before : h.marks.bi ≡ true → h.bi.end - h.bi.first ≤ ring_size h.bi
  pub after_low : h.ai.end + 512 ≤ 2 ^ 62
  pub before_low : h.bi.end + 512 ≤ 2 ^ 62

abbrev pub KeepsRings : List (Option FileHead) → ℕ → Type 0
KeepsRings heads f = (h : FileHead) → head_at heads f ≡ Some h → AreInRings h

-- Recovery knows this of the file, which is on the volume, and each record that is made may be its own.
pub record IsAsked (f : ℕ) (way : Way) (v : VolumeState) (h : FileHead) (content : List (List ℕ)) (s : FileState) : Type 0 where
  pub told : v.store.current ≡ Some content
  pub file : HasFile content f h (current s.timeline.history) s
  pub may : MayHave h (rolled (way_of way) s)

-- these are the records that are made of the file, as they are loaded
abbrev pub AreMade : ℕ → Way → VolumeState → FileHead → List Keyed → Type 0
AreMade f way v h es = (content : List (List ℕ)) (s : FileState) → IsAsked f way v h content s → es ≡ as_loaded h (rolled (way_of way) s)

-- the file was recovered
pub record IsRecovered (f : ℕ) (way : Way) (user : Option Serial) (h : FileHead) (count : ℕ) (v w : VolumeState) : Type 0 where
  pub allowed : cause_of h way user ≡ None
  pub records : List Keyed
  pub made : AreMade f way v h records
  pub replaced : Replaced f h records count v w

-- the disk went down, and left the file or the recovered one
pub record FellRecovering (f : ℕ) (way : Way) (user : Option Serial) (h : FileHead) (down : Down) (v w : VolumeState) : Type 0 where
  pub allowed : cause_of h way user ≡ None
  pub leaves : (content : List (List ℕ)) (s : FileState) → IsAsked f way v h content s → Leaves (IsOldOrNew f v.catalog h (as_loaded h (rolled (way_of way) s)) content) w.store.disk
  pub counts : CountsDown down v.store.disk w.store.disk
  pub pool : w.store.pool ≡ v.store.pool
  pub home : w.catalog.home ≡ v.catalog.home
  pub ru : w.catalog.ru ≡ v.catalog.ru

-- no run of free blocks takes the buckets of the recovered file, and nothing changed
pub record HasNoRoom (f : ℕ) (way : Way) (user : Option Serial) (h : FileHead) (free needed : ℕ) (v w : VolumeState) : Type 0 where
  pub allowed : cause_of h way user ≡ None
  pub same : SameVolume v w
  pub longest : IsLongest v.catalog free
  pub fewer : free < needed
  pub needed_is : (content : List (List ℕ)) (s : FileState) → IsAsked f way v h content s → needed ≡ wanted_buckets h (as_loaded h (rolled (way_of way) s)) * h.bucket

-- memory was missing, and nothing changed
pub record LacksMemory (way : Way) (user : Option Serial) (h : FileHead) (v w : VolumeState) : Type 0 where
  pub allowed : cause_of h way user ≡ None
  pub same : SameVolume v w

-- it was refused for this, and nothing changed
abbrev pub IsRefused : RecoverErr → Way → Option Serial → FileHead → VolumeState → VolumeState → Type 0
IsRefused e way user h v w = (w ≡ v) × (cause_of h way user ≡ Some e)

-- Why the file was not recovered, and what is left then.
abbrev pub NotRecovered : (f : ℕ) → Way → (user : Option Serial) → FileHead → RecoverErr → VolumeState → VolumeState → Type 0
NotRecovered f way user h err.Memory v w = LacksMemory way user h v w
NotRecovered f way user h (err.Full free needed) v w = HasNoRoom f way user h free needed v w
NotRecovered f way user h (err.Down down) v w = FellRecovering f way user h down v w
NotRecovered f way user h err.NoJournal v w = IsRefused err.NoJournal way user h v w
NotRecovered f way user h err.NoSave v w = IsRefused err.NoSave way user h v w
NotRecovered f way user h (err.InUse serial) v w = IsRefused (err.InUse serial) way user h v w
NotRecovered f way user h (err.Early until save) v w = IsRefused (err.Early until save) way user h v w
NotRecovered f way user h (err.Span needed first) v w = IsRefused (err.Span needed first) way user h v w

-- The file of this number was recovered, and it has so many records then.
abbrev pub Recovered : (f : ℕ) → Way → (user : Option Serial) → (count : ℕ) → VolumeState → VolumeState → Type 0
Recovered f way user count v w = (h : FileHead) → head_at v.catalog.heads f ≡ Some h → IsRecovered f way user h count v w

-- It was not, for this cause.
abbrev pub IsNotRecovered : (f : ℕ) → Way → (user : Option Serial) → RecoverErr → VolumeState → VolumeState → Type 0
IsNotRecovered f way user e v w = (h : FileHead) → head_at v.catalog.heads f ≡ Some h → NotRecovered f way user h e v w

-- Records were not made: memory was missing and nothing changed, or the disk went down where it was read. No other answer is given.
abbrev pub NotMade : RecoverErr → VolumeState → VolumeState → Type 0
NotMade err.Memory v w = SameVolume v w
NotMade (err.Down down) v w = (w.catalog ≡ v.catalog) × Fell down v.store w.store
NotMade (err.Full free needed) v w = ⊥
NotMade err.NoJournal v w = ⊥
NotMade err.NoSave v w = ⊥
NotMade (err.InUse serial) v w = ⊥
NotMade (err.Early until save) v w = ⊥
NotMade (err.Span needed first) v w = ⊥
