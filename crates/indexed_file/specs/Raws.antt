-- Slots as bytes.
use Rattle.std.specs.Prelude.{◌≡◌, ◌≤◌, ◌<◌, ◌⊎◌, ℕ, ◌+◌, ◌-◌, ◌==◌, Bool, true, false, List, [], ◌∷◌, ◌++◌, length, map, replicate, take, drop, Option, Some, None, if◌then◌else◌, nat_le}
use Rattle.file_base.specs.declared.head.FileHead.{FileHead}
use Rattle.file_base.specs.Bytes.{piece_at}
use Rattle.bucket_page.specs.Pages.{u16_at, u16_bytes, key_in, slots_of, next_of, suits, all_suit, slot_at, joined, inserted, Packs}
use Rattle.change_set.specs.records_model.Slots.{Slot}
use Rattle.change_set.specs.records_model.Slots as slots_model
use Rattle.indexed_file.specs.Chain.{kind_of, slot_of, keeps_record, all_keep, slots_set}
use Rattle.change_set.specs.records_model.Parts.{fits_at, greater_part, has_place, IsBest}
use Rattle.change_set.specs.records_model.Chain.{place_of}

-- the bytes of a slot: its room, its record's length, and a piece at a place of the room, which is zero elsewhere
abbrev pub slot_bytes : ℕ → ℕ → ℕ → List ℕ → List ℕ
slot_bytes room size at piece = u16_bytes room ++ (u16_bytes size ++ (replicate at 0 ++ (piece ++ replicate (room - at - length piece) 0)))

-- the bytes of a slot that is written: the record stands at the front of its room, or the key in its place; all else is zero
abbrev pub written_slot : FileHead → List ℕ → ℕ → Option (List ℕ) → List ℕ
written_slot h k room None = slot_bytes room 0 h.key_pos k
written_slot h k room (Some r) = slot_bytes room (length r) 0 r

-- bytes of a slot with this key, room and value
pub record Means (h : FileHead) (k : List ℕ) (room : ℕ) (v : Option (List ℕ)) (raw : List ℕ) : Type 0 where
  pub suit : suits (kind_of h) raw ≡ true
  pub kept : keeps_record h raw ≡ true
  pub is : slot_of h raw ≡ record { key = k; room = room; value = v }
  pub size : length raw ≡ 4 + room
  pub bytes : raw ≡ written_slot h k room v

-- the bytes of a slot whose room is its record's length; where no key is in the record, its own bytes
abbrev pub shortened : FileHead → List ℕ → List ℕ
shortened h raw = if nat_le (h.key_pos + h.key_size) (u16_at raw 2) then slot_bytes (u16_at raw 2) (u16_at raw 2) 0 (piece_at raw 4 (u16_at raw 2)) else raw

-- what tidying leaves of a slot, whose key is held or is not
abbrev pub tidied_raw : FileHead → Bool → List ℕ → List (List ℕ)
tidied_raw h true raw = raw ∷ []
tidied_raw h false raw = if u16_at raw 2 == 0 then [] else shortened h raw ∷ []

-- and of slots
abbrev pub tidied_raws : FileHead → (List ℕ → Bool) → List (List ℕ) → List (List ℕ)
tidied_raws h held [] = []
tidied_raws h held (raw ∷ raws) = tidied_raw h (held (key_in (kind_of h) raw)) raw ++ tidied_raws h held raws

-- no slot where there are no bytes
abbrev pub one_of : List ℕ → List (List ℕ)
one_of [] = []
one_of (x ∷ xs) = (x ∷ xs) ∷ []

-- the slots of a bucket's bytes
abbrev pub slots_at : FileHead → List ℕ → List Slot
slots_at h bytes = map (slot_of h) (slots_of (kind_of h) bytes)

-- slot i was tidied: it stays as it is told
pub record TidiesSlot (h : FileHead) (held : List ℕ → Bool) (size i : ℕ) (stays : Bool) (old new : List ℕ) : Type 0 where
  pub packs : Packs (kind_of h) size
      (take i (slots_of (kind_of h) (take size old)) ++ (tidied_raw h (held (key_in (kind_of h) (slot_at (slots_of (kind_of h) (take size old)) i))) (slot_at (slots_of (kind_of h) (take size old)) i) ++ drop (i + 1) (slots_of (kind_of h) (take size old))))
      (next_of (take size old)) (take size new)
  pub stays_is : length (tidied_raw h (held (key_in (kind_of h) (slot_at (slots_of (kind_of h) (take size old)) i))) (slot_at (slots_of (kind_of h) (take size old)) i)) ≡ (if stays then 1 else 0)

-- of the places to part slots at below a bound this is the best, which is 0 where none fits, with the bytes of the greater part
pub record BestTo (cap : ℕ) (slots : List Slot) (bound best least : ℕ) : Type 0 where
  pub none : best ≡ 0 → (j : ℕ) → j < bound → fits_at cap slots j ≡ false
  pub below : best < bound
  pub fits : 1 ≤ best → fits_at cap slots best ≡ true
  pub least_is : 1 ≤ best → least ≡ greater_part slots best
  pub least_of : 1 ≤ best → (j : ℕ) → j < bound → fits_at cap slots j ≡ true → greater_part slots best ≤ greater_part slots j
  pub lowest : 1 ≤ best → (j : ℕ) → j < best → fits_at cap slots j ≡ true → greater_part slots best < greater_part slots j

-- a bucket with these slots, or those that it was parted in where it overflows, the slot at place i being new or grown: each leads to the one behind it, which are numbered from `fresh` on, and the last to the next one
pub data Parted (h : FileHead) (size fresh next : ℕ) (raws : List (List ℕ)) (i added : ℕ) (low mid high : List ℕ) : Type 0 where
  whole : added ≡ 0 → Packs (kind_of h) size raws next low → Parted h size fresh next raws i added low mid high
  in_two : (j : ℕ) → added ≡ 1 → size < 16 + length (joined raws) → IsBest (size - 16) (map (slot_of h) raws) j
      → Packs (kind_of h) size (take j raws) fresh low → Packs (kind_of h) size (drop j raws) next mid → Parted h size fresh next raws i added low mid high
  in_three : added ≡ 2 → size < 16 + length (joined raws) → has_place (size - 16) (map (slot_of h) raws) (length raws) ≡ false
      → Packs (kind_of h) size (take i raws) fresh low → Packs (kind_of h) size (take 1 (drop i raws)) (fresh + 1) mid → Packs (kind_of h) size (drop (i + 1) raws) next high
      → Parted h size fresh next raws i added low mid high

-- a slot put in at a place fits
abbrev pub fits_in : ℕ → List (List ℕ) → List ℕ → Bool
fits_in size raws slot = nat_le (16 + length (joined raws) + length slot) size

-- the slots with one more at a place, tidied before where it does not fit
abbrev pub raws_added : FileHead → (List ℕ → Bool) → ℕ → List (List ℕ) → ℕ → List ℕ → List (List ℕ)
raws_added h held size raws i slot = if fits_in size raws slot then inserted raws i slot else inserted (tidied_raws h held raws) (length (tidied_raws h held (take i raws))) slot

-- and its place
abbrev pub place_added : FileHead → (List ℕ → Bool) → ℕ → List (List ℕ) → ℕ → List ℕ → ℕ
place_added h held size raws i slot = if fits_in size raws slot then i else length (tidied_raws h held (take i raws))

-- a key was set in the bucket for it: where it has a slot, that was written anew
pub record SetsLeaf (h : FileHead) (held : List ℕ → Bool) (k : List ℕ) (v : Option (List ℕ)) (size fresh : ℕ) (old : List ℕ) (added : ℕ) (low mid high : List ℕ) : Type 0 where
  pub raws : List (List ℕ)
  pub place : ℕ
  pub slots : map (slot_of h) raws ≡ slots_set (size - 16) held k v (slots_at h old)
  pub suit : all_suit (kind_of h) raws ≡ true
  pub kept : all_keep h raws ≡ true
  pub at : place ≡ place_of k (map (slot_of h) raws)
  pub written : (slots_model.slot_at k (map (slot_of h) raws) ≡ None) ⊎ (slot_at raws place ≡ written_slot h k (u16_at (slot_at raws place) 0) v)
  pub parted : Parted h size fresh (next_of old) raws place added low mid high
