-- Where a key stands among the slots of a bucket.
use Rattle.std.specs.Prelude.{◌≡◌, ◌≤◌, ◌<◌, ◌++◌, ℕ, Bool, true, false, List, length, Option}
use Rattle.file_base.specs.declared.head.FileHead.{FileHead}
use Rattle.bucket_page.specs.Pages.{key_in, slot_at}
use Rattle.change_set.specs.records_model.Slots.{Slot, bytes_before, lookup, IsOrdered}
use Rattle.indexed_file.specs.Chain.{kind_of}

-- the key of slot j
abbrev pub key_at : FileHead → List (List ℕ) → ℕ → List ℕ
key_at h raws j = key_in (kind_of h) (slot_at raws j)

-- so many slots have lesser keys, and the next has the key or a greater one
pub record IsPlace (h : FileHead) (k : List ℕ) (raws : List (List ℕ)) (i : ℕ) (found : Bool) : Type 0 where
  pub within : i ≤ length raws
  pub lower : (j : ℕ) → j < i → bytes_before (key_at h raws j) k ≡ true
  pub there : found ≡ true → i < length raws
  pub here : found ≡ true → key_at h raws i ≡ k
  pub higher : found ≡ false → (j : ℕ) → i ≤ j → j < length raws → bytes_before k (key_at h raws j) ≡ true

-- these slots and any that ascend behind them have this at the key
abbrev pub Decides : List ℕ → List Slot → Option (List ℕ) → Type 0
Decides k slots v = (rest : List Slot) → IsOrdered (slots ++ rest) → lookup (slots ++ rest) k ≡ v
