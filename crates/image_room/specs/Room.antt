-- What of the rings of a file's journals of images is free, what changes need, and which ring is full.
use Rattle.std.specs.Prelude.{◌≡◌, ◌≤◌, ◌<◌, ℕ, ◌+◌, ◌-◌, ◌*◌, ◌^◌, max, List, [], ◌∷◌, Bool, true, Option, Some, None, if◌then◌else◌, nat_lt}
use Rattle.file_base.specs.declared.head.FileHead.{FileHead}
use Rattle.file_base.specs.declared.head.Span.{Span}
use Rattle.image_appends.specs.journal_model.Ring.{ring_size}
use Rattle.record_operations.specs.Causes.{Cause, AfterImagesFull, BeforeImagesFull, cause_if, first_cause}
use Rattle.unit_table.specs.Units.{OpenUnit, changers}
use Rattle.volume.specs.Catalogs.{head_at}
use Rattle.image_appends.specs.declared.side.Side.{Side}
use Rattle.image_appends.specs.declared.side.Side.TheVariants.{After, Before}
use Rattle.image_appends.specs.Images.{is_kept, span_of}

-- a file's journal of a side, where it keeps it
abbrev pub kept_span : Side → FileHead → Option Span
kept_span side h = if is_kept side h then Some (span_of side h) else None

-- the bytes of a file's ring that no entry has, and that are not kept for the settlements of these units
abbrev pub free_images : Span → (file : ℕ) → List (Option OpenUnit) → ℕ
free_images s file units = ring_size s - (s.end - s.first) - 48 * changers file units

-- The bytes that entries of so many need. With its first entry a unit needs those of its settlement too; so a change without a unit always does.
abbrev pub images_wanted : (has_changed : Bool) → (size : ℕ) → ℕ
images_wanted has_changed size = if has_changed then size else 48 + size

-- which ring is full
abbrev pub full_by : Side → (free need : ℕ) → Cause
full_by After free need = AfterImagesFull free need
full_by Before free need = BeforeImagesFull free need

abbrev pub ring_refused : Side → Option Span → (file : ℕ) → List (Option OpenUnit) → (need : ℕ) → Option Cause
ring_refused side None file units need = None
ring_refused side (Some s) file units need = cause_if (nat_lt (free_images s file units) need) (full_by side (free_images s file units) need)

-- what refuses entries of so many bytes in the journals of a file, by a unit that changed the file before, or that did not
abbrev pub images_refused : FileHead → (file : ℕ) → List (Option OpenUnit) → (has_changed : Bool) → (after before : ℕ) → Option Cause
images_refused h file units has_changed after before =
    first_cause (ring_refused After (kept_span After h) file units (images_wanted has_changed after)) (ring_refused Before (kept_span Before h) file units (images_wanted has_changed before))

-- a file's ring has room for the settlements of the units that changed the file
abbrev pub SettlementsFit : Side → FileHead → (file : ℕ) → List (Option OpenUnit) → Type 0
SettlementsFit side h file units = is_kept side h ≡ true → (span_of side h).end - (span_of side h).first + 48 * changers file units ≤ ring_size (span_of side h)

-- so has each ring of each file
abbrev pub AllSettlementsFit : List (Option OpenUnit) → List (Option FileHead) → Type 0
AllSettlementsFit units heads = (file : ℕ) (h : FileHead) → head_at heads file ≡ Some h → SettlementsFit After h file units × SettlementsFit Before h file units

-- the ring of a side of a file that keeps it has not
abbrev pub IsFull : Side → FileHead → (file : ℕ) → List (Option OpenUnit) → Type 0
IsFull side h file units = (is_kept side h ≡ true) × (ring_size (span_of side h) < (span_of side h).end - (span_of side h).first + 48 * changers file units)

-- some ring has not
pub record IsTooFull (units : List (Option OpenUnit)) (heads : List (Option FileHead)) : Type 0 where
  pub file : ℕ
  pub head : FileHead
  pub there : head_at heads file ≡ Some head
  pub side : Side
  pub kept : is_kept side head ≡ true
  pub full : ring_size (span_of side head) < (span_of side head).end - (span_of side head).first + 48 * changers file units

-- positions in all rings are so many bytes at least from their ends
abbrev pub ImagesAreLow : (more : ℕ) → List (Option FileHead) → Type 0
ImagesAreLow more heads = (file : ℕ) (h : FileHead) → head_at heads file ≡ Some h → ((span_of After h).end + more ≤ 2 ^ 62) × ((span_of Before h).end + more ≤ 2 ^ 62)

-- the furthest of the ends of all rings, also of those that no journal keeps any more
abbrev pub images_end : List (Option FileHead) → ℕ
images_end [] = 0
images_end (None ∷ heads) = images_end heads
images_end (Some h ∷ heads) = max (max h.ai.end h.bi.end) (images_end heads)
