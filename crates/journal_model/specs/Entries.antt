-- The entries of a journal, and the one spelling of each.
use Rattle.std.specs.Prelude.{◌≡◌, ℕ, ◌+◌, ◌^◌, ◌<◌, ◌==◌, ◌&&◌, Bool, true, List, ◌∷◌, ◌++◌, length, nat_le, if◌then◌else◌}
use Rattle.std.specs.Int.{w16, w64, to_le_bytes}
use Rattle.file_base.specs.vms_model.Ids.{Id, IsId, id_bytes}
use Rattle.file_base.specs.vms_model.Limits.{key_limit, record_limit}

-- An entry says that a branch changed a record, that it is prepared, or that it is settled.
pub record Entry : Type 0 where
  -- 1 Change, 2 Prepared, 3 Settled
  pub kind : ℕ
  -- of a Change: 1 where an image is there, 0 where the record was absent; of a Settled: 1 commit, 2 abort
  pub flag : ℕ
  -- the number of the file that was changed
  pub file : ℕ
  pub tid : Id
  pub serial : Id
  -- when it was settled
  pub moment : ℕ
  -- the key of the record: the four bytes of a number, or its bytes in an indexed file
  pub key : List ℕ
  -- the record before or after the change, by the journal
  pub image : List ℕ

abbrev pub is_kind : ℕ → Bool
is_kind kind = nat_le 1 kind && nat_le kind 3

abbrev pub is_flag : (kind flag : ℕ) → Bool
is_flag kind flag = if kind == 1 then nat_le flag 1 else (if kind == 2 then flag == 0 else nat_le 1 flag && nat_le flag 2)

-- only a Change has a file
abbrev pub is_file : (kind file : ℕ) → Bool
is_file kind file = if kind == 1 then true else file == 0

-- a Change has a key of 1 to 64 bytes, and no other entry has one
abbrev pub is_key : (kind size : ℕ) → Bool
is_key kind size = if kind == 1 then nat_le 1 size && nat_le size key_limit else size == 0

abbrev pub has_image : (kind flag : ℕ) → Bool
has_image kind flag = kind == 1 && flag == 1

-- an image that is there has 1 to 8,160 bytes
abbrev pub is_image : Bool → (size : ℕ) → Bool
is_image present size = if present then nat_le 1 size && nat_le size record_limit else size == 0

-- only a Settled has a moment
abbrev pub is_moment : (kind moment : ℕ) → Bool
is_moment kind moment = if kind == 3 then true else moment == 0

pub record IsEntry (e : Entry) : Type 0 where
  pub kind : is_kind e.kind ≡ true
  pub flag : is_flag e.kind e.flag ≡ true
  pub file : is_file e.kind e.file ≡ true
  pub key : is_key e.kind (length e.key) ≡ true
  pub image : is_image (has_image e.kind e.flag) (length e.image) ≡ true
  pub tid : IsId e.tid
  pub serial : IsId e.serial
  pub moment : is_moment e.kind e.moment ≡ true
  pub fits : e.moment < 2 ^ 64

-- the bytes of an entry with a key and an image of these sizes
abbrev pub total : (key image : ℕ) → ℕ
total key image = 48 + key + image

-- what follows the first 8 bytes
abbrev pub tail_of : Entry → List ℕ
tail_of e = id_bytes e.tid ++ (id_bytes e.serial ++ (to_le_bytes w64 e.moment ++ (e.key ++ e.image)))

-- an entry's bytes: kind, flag, file and the key's length in one byte each, the image's and the whole length in two, the lower first, and the rest
abbrev pub spelling : Entry → List ℕ
spelling e = e.kind ∷ e.flag ∷ e.file ∷ length e.key ∷ (to_le_bytes w16 (length e.image) ++ (to_le_bytes w16 (total (length e.key) (length e.image)) ++ tail_of e))
