-- The world's files while entries of images are put at the ends of their journals, in the group of a change or of a settlement.
use Rattle.std.specs.Prelude.{◌≡◌, ◌⊎◌, ◌+◌, ◌≤◌, ◌<◌, ◌^◌, ℕ, suc, List, [], ◌∷◌, Bool, true, false, Option, Some, None, option_map, if◌then◌else◌, length, map, slice_index_or, slice_set}
use Rattle.block_disk.specs.Blocks.{block_at}
use Rattle.block_disk.specs.Sizes.{content_start}
use Rattle.vms_model.specs.Limits.{file_limit}
use Rattle.vms_model.specs.Blocks.{log_start}
use Rattle.careful_write.specs.State.{EachWhole}
use Rattle.extents.specs.declared.extent.Extent.{Extent as Area}
use Rattle.file_base.specs.declared.head.FileHead.{FileHead}
use Rattle.restart_laws.specs.record_files.Any.{map_of}
use Rattle.volume_format.specs.Head.{IsHead}
use Rattle.volume.specs.declared.catalog.Catalog.{Catalog}
use Rattle.volume.specs.Catalogs.{IsSound, TellsCatalog}
use Rattle.vms_model.specs.Ids.{Id}
use Rattle.records_model.specs.Records.{Change}
use Rattle.records_model.specs.History.{changed_it}
use Rattle.recovery_model.specs.Journal.{Entry, Changed, Settled}
use Rattle.recovery_model.specs.File.{append}
use Rattle.restart_laws.specs.run_model.World.{Carried, File, Settlement, settled_file, with_image, with_outcome}
use Rattle.image_room.specs.image_appends.declared.side.Side.{Side}
use Rattle.image_room.specs.image_appends.declared.side.Side.TheVariants.{After, Before}
use Rattle.image_room.specs.image_appends.Images.{content_with, content_with_both, heads_with, heads_with_both, is_kept, span_of}
use Rattle.image_room.specs.image_appends.Settling.{content_from, heads_from}
use Rattle.restart_laws.specs.directory_model.Files.{AreFiles, Fit, file_at, head_at}
use Rattle.restart_laws.specs.directory_model.Restoring.{AreLeft}
use Rattle.restart_laws.specs.Restorable.{IsDressed}
use Rattle.restart_laws.specs.directory_model.Laws.{CanEnter, carrying, settled_buckets, spelled_entry}

-- what a file carries with one entry more on a side
abbrev pub appended_to : Side → Id → Entry → Carried → Carried
appended_to After tid e r = record r { after = append tid e r.after }
appended_to Before tid e r = record r { before = append tid e r.before }

-- an entry can be put at the end of a journal that the file of a head keeps; its end stays what it may be on a sound volume
pub record MayGrow (side : Side) (f : ℕ) (h : FileHead) (tid : Id) (e : Entry) : Type 0 where
  pub can : CanEnter (span_of side h) f h tid e
  pub head : IsHead h
  pub far : (span_of side h).end + length (spelled_entry f tid e) ≤ 2 ^ 62

-- so of the file of a number, where it keeps the journal
abbrev pub MayEnter : Side → ℕ → List (Option FileHead) → Id → Entry → Type 0
MayEnter side f heads tid e = (h : FileHead) → head_at heads f ≡ Some h → is_kept side h ≡ true → MayGrow side f h tid e

-- The files of a content of whole blocks, whose extents fit behind the blocks that tell the volume.
pub record AreFitting (c : List (List ℕ)) (area : Area) (heads : List (Option FileHead)) (directory : List (Option File)) : Type 0 where
  pub files : AreFiles c heads directory
  pub fit : Fit area heads
  pub behind : log_start ≤ area.start
  pub whole : EachWhole c

-- each file keeps its buckets: other marks, journals and saves alone
abbrev pub AllDressed : List (List ℕ) → List (Option FileHead) → List (List ℕ) → List (Option FileHead) → Type 0
AllDressed c heads b new = (f : ℕ) → IsDressed c (head_at heads f) b (head_at new f)

-- a catalog that is told by one content is told by another, with other heads
abbrev pub TellsOther : List (List ℕ) → List (Option FileHead) → List (List ℕ) → List (Option FileHead) → Type 0
TellsOther c heads b new = (k : Catalog) → k.heads ≡ heads → TellsCatalog k c → TellsCatalog (record k { heads = new }) b

-- and one that is sound is so with other heads
abbrev pub StaySound : List (Option FileHead) → List (Option FileHead) → Type 0
StaySound heads new = (node : List ℕ) (size : ℕ) (k : Catalog) → k.heads ≡ heads → IsSound node size k → IsSound node size (record k { heads = new })

-- The files of one content, of which each keeps its buckets, are those of another; in front of the files' area the directory blocks alone are written, and they tell
-- the heads.
pub record Enters (c : List (List ℕ)) (heads : List (Option FileHead)) (b : List (List ℕ)) (area : Area) (new : List (Option FileHead)) (directory : List (Option File)) : Type 0 where
  pub fitting : AreFitting b area new directory
  pub dressed : AllDressed c heads b new
  pub size : length b ≡ length c
  pub front : (k : ℕ) → (k ≡ 0) ⊎ (65 ≤ k) → k + content_start < area.start → block_at b k ≡ block_at c k
  pub tells : TellsOther c heads b new
  pub sound : StaySound heads new

-- one entry at the end of one journal of a file, where it keeps that
abbrev pub EntersSide : Type 0
EntersSide = (c : List (List ℕ)) (area : Area) (heads : List (Option FileHead)) (directory : List (Option File)) (f : ℕ) (file : File) (side : Side) (tid : Id) (e : Entry) → AreFitting c area heads directory → f < file_limit → file_at directory f ≡ Some file →
    MayEnter side f heads tid e →
    Enters c heads (content_with f side (spelled_entry f tid e) heads c) area (heads_with f side (length (spelled_entry f tid e)) heads) (slice_set directory f (Some (carrying (appended_to side tid e file.carried) file)))

-- the images of a change, and an outcome, as entries
abbrev pub after_image : (serial : Id) → Change → Entry
after_image serial c = Changed serial c.key c.after

abbrev pub before_image : (serial : Id) → Change → Entry
before_image serial c = Changed serial c.key c.before

abbrev pub outcome_of : Settlement → Entry
outcome_of s = Settled s.serial s.outcome s.moment

-- the images of one change at the ends of both journals of a file
abbrev pub EntersChange : Type 0
EntersChange = (c : List (List ℕ)) (area : Area) (heads : List (Option FileHead)) (directory : List (Option File)) (f : ℕ) (file : File) (tid serial : Id) (change : Change) → AreFitting c area heads directory → f < file_limit → file_at directory f ≡ Some file →
    MayEnter After f heads tid (after_image serial change) → MayEnter Before f heads tid (before_image serial change) →
    Enters c heads (content_with_both f (spelled_entry f tid (after_image serial change)) (spelled_entry f tid (before_image serial change)) heads c) area
    (heads_with_both f (length (spelled_entry f tid (after_image serial change))) (length (spelled_entry f tid (before_image serial change))) heads) (slice_set directory f (Some (carrying (with_image tid serial change file.carried) file)))

-- a file that tells an outcome or does not, as this says
abbrev pub told_file : Bool → Settlement → File → File
told_file told s file = carrying (with_outcome told s file.carried) file

-- The outcome of a branch can be put at the ends of both journals of each file for which this tells so; and there are such files.
pub record MayTell (files : List Bool) (s : Settlement) (heads : List (Option FileHead)) (directory : List (Option File)) : Type 0 where
  pub there : (f : ℕ) → slice_index_or files f false ≡ true → (file : File) × (file_at directory f ≡ Some file)
  pub may : (f : ℕ) → slice_index_or files f false ≡ true → MayEnter After f heads s.tid (outcome_of s) × MayEnter Before f heads s.tid (outcome_of s)

-- It is: then each file for which this tells so tells the outcome.
pub record TellsOutcome (c : List (List ℕ)) (area : Area) (heads : List (Option FileHead)) (directory : List (Option File)) (files : List Bool) (s : Settlement) : Type 0 where
  pub after : List (Option File)
  pub enters : Enters c heads (content_from 0 files (spelled_entry 0 s.tid (outcome_of s)) heads c) area (heads_from 0 files (length (spelled_entry 0 s.tid (outcome_of s))) heads) after
  pub each : (f : ℕ) → file_at after f ≡ option_map (told_file (slice_index_or files f false) s) (file_at directory f)

abbrev pub EntersTold : Type 0
EntersTold = (c : List (List ℕ)) (area : Area) (heads : List (Option FileHead)) (directory : List (Option File)) (files : List Bool) (s : Settlement) → AreFitting c area heads directory → MayTell files s heads directory →
    TellsOutcome c area heads directory files s

-- These tell of each file whether a branch changed it: of those of the directory, and of no other.
abbrev pub IsToldBy : Settlement → Bool → Option File → Type 0
IsToldBy s told None = told ≡ false
IsToldBy s told (Some file) = changed_it file.history s.serial ≡ told

abbrev pub AreToldBy : Settlement → List Bool → List (Option File) → Type 0
AreToldBy s files directory = (f : ℕ) → IsToldBy s (slice_index_or files f false) (file_at directory f)

-- the journals of each file that the branch changed have room for its outcome
abbrev pub HaveRoom : Settlement → List Bool → List (Option FileHead) → Type 0
HaveRoom s files heads = (f : ℕ) → slice_index_or files f false ≡ true → MayEnter After f heads s.tid (outcome_of s) × MayEnter Before f heads s.tid (outcome_of s)

-- A branch is settled: the outcome is put at the ends of both journals of each file that it changed. Before, it is settled in the buckets of all files.
abbrev pub EntersOutcome : Type 0
EntersOutcome = (c : List (List ℕ)) (area : Area) (heads : List (Option FileHead)) (directory : List (Option File)) (files : List Bool) (s : Settlement) → AreFitting c area heads (settled_buckets s directory) →
    AreToldBy s files directory → HaveRoom s files heads →
    Enters c heads (content_from 0 files (spelled_entry 0 s.tid (outcome_of s)) heads c) area (heads_from 0 files (length (spelled_entry 0 s.tid (outcome_of s))) heads) (map (option_map (settled_file s)) directory)

-- What a fall left of files goes from one content to another so.
pub record EntersLeft (c : List (List ℕ)) (heads : List (Option FileHead)) (b : List (List ℕ)) (area : Area) (new : List (Option FileHead)) (directory : List (Option File)) : Type 0 where
  pub left : AreLeft b new directory
  pub maps : (f : ℕ) (h k : FileHead) → head_at heads f ≡ Some h → head_at new f ≡ Some k → map_of h c ≡ map_of k b
  pub fit : Fit area new
  pub whole : EachWhole b
  pub dressed : AllDressed c heads b new
  pub size : length b ≡ length c
  pub front : (k : ℕ) → (k ≡ 0) ⊎ (65 ≤ k) → k + content_start < area.start → block_at b k ≡ block_at c k
  pub tells : TellsOther c heads b new
  pub sound : StaySound heads new

-- So it is of what a fall left of the files, once the branch is undone in their buckets.
abbrev pub EntersOutcomeLeft : Type 0
EntersOutcomeLeft = (c : List (List ℕ)) (area : Area) (heads : List (Option FileHead)) (directory : List (Option File)) (files : List Bool) (s : Settlement) → AreLeft c heads (settled_buckets s directory) → Fit area heads → log_start ≤ area.start → EachWhole c →
    AreToldBy s files directory → HaveRoom s files heads →
    EntersLeft c heads (content_from 0 files (spelled_entry 0 s.tid (outcome_of s)) heads c) area (heads_from 0 files (length (spelled_entry 0 s.tid (outcome_of s))) heads) (map (option_map (settled_file s)) directory)
