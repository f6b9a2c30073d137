-- The images of several changes of one file, which stand behind the ends of its journals already: the ends move over them.
use Rattle.std.specs.Prelude.{◌≡◌, ◌+◌, ◌-◌, ◌≤◌, ◌<◌, ◌^◌, ℕ, List, [], ◌∷◌, ◌++◌, Bool, true, false, Option, Some, length, slice_set}
use Rattle.std.specs.List.{AllByRecursion}
use Rattle.block_disk.specs.Blocks.{block_at}
use Rattle.vms_model.specs.Limits.{file_limit}
use Rattle.extents.specs.declared.extent.Extent.{Extent as Area}
use Rattle.file_base.specs.declared.head.FileHead.{FileHead}
use Rattle.file_base.specs.declared.head.Span.{Span}
use Rattle.restart_laws.specs.file_images.Files.{form_of}
use Rattle.restart_laws.specs.file_images.Images.{IsOf, IsSuited, entry_by}
use Rattle.image_room.specs.image_appends.declared.side.Side.{Side}
use Rattle.image_room.specs.image_appends.declared.side.Side.TheVariants.{After, Before}
use Rattle.image_room.specs.image_appends.Images.{is_kept, span_of}
use Rattle.journal_model.specs.Entries.{Entry as Spelled, IsEntry}
use Rattle.journal_model.specs.Ring.{IsJournal, KeepsOthers, ring_size, stream}
use Rattle.records_model.specs.Records.{Change}
use Rattle.recovery_model.specs.Journal.{Entry}
use Rattle.restart_laws.specs.run_model.World.{File, with_images}
use Rattle.restart_laws.specs.directory_model.Files.{file_at, head_at}
use Rattle.restart_laws.specs.directory_model.Laws.{carrying, spelled_entry}
use Rattle.image_room.specs.unit_journal.Spans.{longer}
use Rattle.vms_model.specs.Ids.{Id}
use Rattle.volume_format.specs.Head.{IsHead, head_block_of}
use Rattle.image_groups.specs.Groups.{AreFitting, Enters, after_image, before_image}

abbrev pub image_of : Side → (serial : Id) → Change → Entry
image_of After serial c = after_image serial c
image_of Before serial c = before_image serial c

-- the bytes of the images of changes, the newest of which stands first
abbrev pub images_bytes : Side → (f : ℕ) → (tid serial : Id) → List Change → List ℕ
images_bytes side f tid serial [] = []
images_bytes side f tid serial (x ∷ cs) = images_bytes side f tid serial cs ++ spelled_entry f tid (image_of side serial x)

abbrev pub moved_if : (kept : Bool) → ℕ → Span → Span
moved_if true n s = longer n s
moved_if false n s = s

-- a head whose journals, where it keeps them, end so much later
abbrev pub moved_ends : (after before : ℕ) → FileHead → FileHead
moved_ends after before h = record h { ai = moved_if h.marks.ai after h.ai; bi = moved_if h.marks.bi before h.bi }

-- an image can be spelled, and is of the file's form
pub record IsImageOf (side : Side) (f : ℕ) (h : FileHead) (tid serial : Id) (c : Change) : Type 0 where
  pub is : IsEntry (entry_by f tid (image_of side serial c))
  pub of : IsOf h.organization (image_of side serial c)
  pub suited : IsSuited (form_of h) (image_of side serial c)

-- The images of changes stand behind the end of a file's journal, which has the room.
pub record StandBehind (side : Side) (f : ℕ) (c : List (List ℕ)) (h : FileHead) (tid serial : Id) (cs : List Change) : Type 0 where
  pub each : AllByRecursion (IsImageOf side f h tid serial) cs
  pub room : (span_of side h).end - (span_of side h).first + length (images_bytes side f tid serial cs) ≤ ring_size (span_of side h)
  pub low : (span_of side h).end + length (images_bytes side f tid serial cs) ≤ 2 ^ 62
  pub there : stream c (span_of side h) (span_of side h).end (length (images_bytes side f tid serial cs)) ≡ images_bytes side f tid serial cs

-- so where the file keeps it
abbrev pub StandIfKept : Side → (f : ℕ) → List (List ℕ) → FileHead → (tid serial : Id) → List Change → Type 0
StandIfKept side f c h tid serial cs = is_kept side h ≡ true → StandBehind side f c h tid serial cs

-- Then the file has the images of all of them, once its directory block tells where the journals end now.
abbrev pub EntersMoved : Type 0
EntersMoved = (c : List (List ℕ)) (area : Area) (heads : List (Option FileHead)) (directory : List (Option File)) (f : ℕ) (h : FileHead) (file : File) (tid serial : Id) (cs : List Change) → AreFitting c area heads directory → f < file_limit →
    head_at heads f ≡ Some h → file_at directory f ≡ Some file → IsHead h → head_block_of h ≡ block_at c (1 + f) → StandIfKept After f c h tid serial cs → StandIfKept Before f c h tid serial cs →
    Enters c heads (slice_set c (1 + f) (head_block_of (moved_ends (length (images_bytes After f tid serial cs)) (length (images_bytes Before f tid serial cs)) h))) area
    (slice_set heads f (Some (moved_ends (length (images_bytes After f tid serial cs)) (length (images_bytes Before f tid serial cs)) h))) (slice_set directory f (Some (carrying (with_images tid serial cs file.carried) file)))

-- Bytes behind the end of a file's journal, where it keeps it, tell nothing yet: all files stay.
abbrev pub EntersBehind : Type 0
EntersBehind = (c b : List (List ℕ)) (area : Area) (heads : List (Option FileHead)) (directory : List (Option File)) (f : ℕ) (h : FileHead) (side : Side) → AreFitting c area heads directory → f < file_limit → head_at heads f ≡ Some h → is_kept side h ≡ true →
    KeepsOthers (span_of side h) c b → ((es : List Spelled) → IsJournal c (span_of side h) es → IsJournal b (span_of side h) es) → Enters c heads b area heads directory
