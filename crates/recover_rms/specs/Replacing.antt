-- Records that take the place of a file's own, in other blocks of its volume.
use Rattle.std.specs.Prelude.{◌≡◌, ◌⊎◌, ℕ, ◌+◌, ◌*◌, ◌<◌, ◌≤◌, ◌==◌, ◌||◌, Bool, List, Option, Some, IfSome, MatchOption, IsSomeAnd, None, length, max, slice_set}
use Rattle.block_disk.specs.Sizes.{content_start}
use Rattle.careful_write.specs.Down.{CountsDown}
use Rattle.careful_write.specs.State.{IsIdle, Leaves, StoreState}
use Rattle.careful_write.specs.Steps.{AgreesOff, Quiet}
use Rattle.careful_write.specs.declared.down.Down.{Down}
use Rattle.change_set.specs.Files.{in_extent}
use Rattle.volume.specs.extents.Extents.{IsFreeRun, all_extents, is_free}
use Rattle.volume.specs.extents.declared.extent.Extent.{Extent}
use Rattle.file_base.specs.declared.head.FileHead.{FileHead}
use Rattle.file_loads.specs.Failing.{FellIn}
use Rattle.load_pages.specs.load_laws.Loads.{IsLoaded, loaded_buckets, loaded_head}
use Rattle.load_pages.specs.load_laws.Records.{Keyed}
use Rattle.record_files.specs.Any.{IsFile}
use Rattle.vms_base.specs.declared.moments.Moment.{Moment}
use Rattle.volume.specs.Catalogs.{TellsCatalog}
use Rattle.volume.specs.Limits.{data_area}
use Rattle.volume.specs.State.{VolumeState, Holds}
use Rattle.volume.specs.declared.catalog.Catalog.{Catalog}
use Rattle.volume.specs.volume_format.Home.{sizes_of}
use Rattle.file_recoveries.specs.Heads.{with_new_journals}
use Rattle.file_recoveries.specs.declared.errors.RecoverErr.{RecoverErr}
use Rattle.file_recoveries.specs.declared.errors.RecoverErr.TheVariants as err

-- Blocks are counted in the content: those of a file's buckets, and its directory block; and those that no file has.
abbrev pub is_replaced : ℕ → FileHead → ℕ → Bool
is_replaced f h n = in_extent h n || (n == 1 + f)

abbrev pub is_unused : Catalog → ℕ → Bool
is_unused v n = is_free (data_area (sizes_of v.home)) (all_extents v.heads) (n + content_start)

-- a run of so many free blocks of a volume
abbrev pub IsRun : Catalog → (start blocks : ℕ) → Type 0
IsRun v start blocks = IsFreeRun (data_area (sizes_of v.home)) (all_extents v.heads) start blocks

-- how many buckets a file is to have that takes these records: as many as it had, or as they take
abbrev pub wanted_buckets : FileHead → List Keyed → ℕ
wanted_buckets h es = max h.alloc (loaded_buckets h es)

-- the head of a file in other buckets, whose journals begin anew
abbrev pub moved_head : FileHead → Moment → (start buckets : ℕ) → FileHead
moved_head h g start buckets = record (with_new_journals h g) { start = start; alloc = buckets }

abbrev pub with_head : ℕ → FileHead → Catalog → Catalog
with_head f new v = record v { heads = slice_set v.heads f (Some new) }

-- The head of a file once it has these records, in the lowest run of free blocks that is long enough; its journals begin anew.
pub record IsHeadWith (v : Catalog) (h : FileHead) (es : List Keyed) (new : FileHead) : Type 0 where
  pub is : new ≡ loaded_head (moved_head h v.home.greatest_moment new.start new.alloc) es
  pub buckets : new.alloc ≡ wanted_buckets h es
  pub free : IsRun v new.start (new.alloc * h.bucket)
  pub lowest : (lower : ℕ) → lower < new.start → IsRun v lower (new.alloc * h.bucket) → ⊥
  pub form : IsFile new

-- From one content to another the records took the place of the file's own: of the blocks that were not free its directory block alone changed, which tells of the
-- new head.
pub record ReplacesIn (f : ℕ) (v : Catalog) (h : FileHead) (es : List Keyed) (content after : List (List ℕ)) (new : FileHead) : Type 0 where
  pub head : IsHeadWith v h es new
  pub loaded : IsLoaded new after es
  pub others : AgreesOff (is_replaced f new) content after
  pub tells : TellsCatalog v content → TellsCatalog (with_head f new v) after

-- a volume has the records in the place of the file's own
pub record Replaced (f : ℕ) (h : FileHead) (es : List Keyed) (count : ℕ) (v w : VolumeState) : Type 0 where
  pub new : FileHead
  pub head : IsHeadWith v.catalog h es new
  pub told : MatchOption v.store.current (w.store.current ≡ None) (λ content. IsSomeAnd w.store.current (λ after. ReplacesIn f v.catalog h es content after new))
  pub catalog : w.catalog ≡ with_head f new v.catalog
  pub counted : count ≡ length es
  pub holds : Holds v → Holds w
  pub idle : IsIdle w.store
  pub quiet : Quiet v.store.disk w.store.disk
  pub pool : w.store.pool ≡ v.store.pool

-- an image has what was there, but in free blocks; or the records in the place of the file's own
abbrev pub IsOldOrNew : ℕ → Catalog → FileHead → List Keyed → (content image : List (List ℕ)) → Type 0
IsOldOrNew f v h es content d = AgreesOff (is_unused v) content d ⊎ ((new : FileHead) × ReplacesIn f v h es content d new)

-- the disk went down
pub record FellReplacing (f : ℕ) (h : FileHead) (es : List Keyed) (down : Down) (v w : VolumeState) : Type 0 where
  pub leaves : Leaves (λ d. IfSome v.store.current (λ content. IsOldOrNew f v.catalog h es content d)) w.store.disk
  pub counts : CountsDown down v.store.disk w.store.disk
  pub pool : w.store.pool ≡ v.store.pool
  pub home : w.catalog.home ≡ v.catalog.home
  pub ru : w.catalog.ru ≡ v.catalog.ru

-- the longest run of free blocks of a volume
pub record IsLongest (v : Catalog) (blocks : ℕ) : Type 0 where
  pub found : 0 < blocks → (start : ℕ) × IsRun v start blocks
  pub longest : (start more : ℕ) → IsRun v start more → more ≤ blocks

-- no run of free blocks takes the buckets, and nothing changed
pub record IsTooFull (h : FileHead) (es : List Keyed) (free needed : ℕ) (v w : VolumeState) : Type 0 where
  pub same : w ≡ v
  pub longest : IsLongest v.catalog free
  pub needed_is : needed ≡ wanted_buckets h es * h.bucket
  pub fewer : free < needed

-- Memory was missing, or blocks, and nothing changed; or the disk went down. No other answer is given.
abbrev pub NotReplaced : (f : ℕ) → FileHead → List Keyed → RecoverErr → VolumeState → VolumeState → Type 0
NotReplaced f h es err.Memory v w = w ≡ v
NotReplaced f h es (err.Full free needed) v w = IsTooFull h es free needed v w
NotReplaced f h es (err.Down down) v w = FellReplacing f h es down v w
NotReplaced f h es err.NoJournal v w = ⊥
NotReplaced f h es err.NoSave v w = ⊥
NotReplaced f h es (err.InUse serial) v w = ⊥
NotReplaced f h es (err.Early until save) v w = ⊥
NotReplaced f h es (err.Span needed first) v w = ⊥

-- Records were not loaded: memory was missing and nothing changed, or the disk went down. No other answer is given.
abbrev pub NotLoaded : FileHead → RecoverErr → StoreState → StoreState → Type 0
NotLoaded h err.Memory old new = new ≡ old
NotLoaded h (err.Down down) old new = FellIn h down old new
NotLoaded h (err.Full free needed) old new = ⊥
NotLoaded h err.NoJournal old new = ⊥
NotLoaded h err.NoSave old new = ⊥
NotLoaded h (err.InUse serial) old new = ⊥
NotLoaded h (err.Early until save) old new = ⊥
NotLoaded h (err.Span needed first) old new = ⊥
