-- The layout of a log slot, which has one record.
use Rattle.std.specs.Prelude.{◌≡◌, ℕ, ◌≤◌, false, List, [], ◌∷◌, length, map, replicate, Some, ⊤}
use Rattle.std.specs.List.{concat}
use Rattle.vms_base.specs.vms_model.Names.{label_named}
use Rattle.vms_base.specs.vms_model.Ids.{Id, IsId, id_bytes, padded}
use Rattle.vms_base.specs.vms_model.Limits.{bid_limit}
use Rattle.log_laws.specs.commit_protocol.Messages.{Name, LogRecord, RecordKind, PreparedRecord, CommittedRecord}
use Rattle.log_laws.specs.commit_protocol.Table.{nothing_left}
use Rattle.volume_format.specs.Layout.{Row, row, number_8, laid}

-- the kinds' numbers; a free slot has 0 there
abbrev pub kind_number : RecordKind → ℕ
kind_number PreparedRecord = 1
kind_number CommittedRecord = 2

-- a manager's name in sixteen bytes
abbrev pub name_bytes : Name → List ℕ
name_bytes x = padded 16 x

-- the fields: the kind, how many serials and managers there are, the two ids, fifteen places for serials and eight for managers, with zeros where there is none
unfoldable pub slot_rows : LogRecord → List Row
slot_rows r =
    number_8 0 (kind_number r.kind)
    ∷ number_8 1 (length r.waiting)
    ∷ number_8 2 (length r.rms)
    ∷ row 8 16 (id_bytes r.tid)
    ∷ row 24 16 (id_bytes r.serial)
    ∷ row 40 240 (padded 240 (concat (map id_bytes r.waiting)))
    ∷ row 280 128 (padded 128 (concat (map name_bytes r.rms)))
    ∷ []

-- the block of a slot with this record: zeros where no field stands
abbrev pub slot_block : LogRecord → List ℕ
slot_block r = laid (slot_rows r) (replicate 512 0)

-- the block of a free slot
abbrev pub free_block : List ℕ
free_block = replicate 512 0

-- each of these is an id
abbrev pub AllIds : List Id → Type 0
AllIds [] = ⊤
AllIds (s ∷ ss) = IsId s × AllIds ss

-- each of these is a manager's name as it is kept
abbrev pub AllNames : List Name → Type 0
AllNames [] = ⊤
AllNames (x ∷ xs) = (label_named x ≡ Some x) × AllNames xs

-- the fields of a record are in their ranges
pub record IsParts (r : LogRecord) : Type 0 where
  pub tid : IsId r.tid
  pub serial : IsId r.serial
  pub waiting : AllIds r.waiting
  pub few : length r.waiting ≤ bid_limit
  pub rms : AllNames r.rms
  pub few_rms : length r.rms ≤ 8

-- a prepared record waits for no serial, and a committed one for a serial or a manager
abbrev pub HasForm : RecordKind → List Id → List Name → Type 0
HasForm PreparedRecord ws xs = ws ≡ []
HasForm CommittedRecord ws xs = nothing_left ws xs ≡ false

-- a record of the log
abbrev pub IsRecord : LogRecord → Type 0
IsRecord r = IsParts r × HasForm r.kind r.waiting r.rms
