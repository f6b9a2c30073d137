-- The home block of a volume.
use Rattle.std.specs.Prelude.{◌≡◌, ℕ, ◌<◌, ◌^◌, List, [], ◌∷◌, ◌++◌, replicate, codes, Option, Some, None, ⊤}
use Rattle.file_base.specs.vms_model.Names.{node_named}
use Rattle.file_base.specs.vms_model.Ids.{IsId, id_bytes, padded}
use Rattle.file_base.specs.vms_base.Ids.{tid_of, serial_of}
use Rattle.file_base.specs.vms_base.declared.outcomes.Reason.{Reason}
use Rattle.file_base.specs.vms_base.declared.outcomes.Reason.TheVariants as reason
use Rattle.volume_format.specs.declared.home.Home.{Home}
use Rattle.volume_format.specs.declared.home.Sizes.{Sizes}
use Rattle.volume_format.specs.declared.home.Settled.{Settled}
use Rattle.volume_format.specs.declared.home.Ending.{Ending}
use Rattle.volume_format.specs.declared.home.Ending.TheVariants as ending
use Rattle.file_base.specs.declared.head.Span.{Span}
use Rattle.volume_format.specs.Layout.{Row, row, number_8, number_32, number_64, laid}

-- the reasons' numbers, from 1 on
abbrev pub reason_number : Reason → ℕ
reason_number reason.Aborted = 1
reason_number reason.Vetoed = 2
reason_number reason.SyncFail = 3
reason_number reason.Timeout = 4
reason_number reason.CommFail = 5
reason_number reason.SegFail = 6

-- an ending's two bytes: 1 for a commit or 2 for an abort, and the reason of an abort
abbrev pub ending_kind : Ending → ℕ
ending_kind ending.Commit = 1
ending_kind (ending.Abort r) = 2

abbrev pub ending_reason : Ending → ℕ
ending_reason ending.Commit = 0
ending_reason (ending.Abort r) = reason_number r

-- the fields of the last settlement, all zero where there was none
abbrev pub last_tid : Option Settled → List ℕ
last_tid None = replicate 16 0
last_tid (Some s) = id_bytes (tid_of s.tid)

abbrev pub last_serial : Option Settled → List ℕ
last_serial None = replicate 16 0
last_serial (Some s) = id_bytes (serial_of s.serial)

abbrev pub last_kind : Option Settled → ℕ
last_kind None = 0
last_kind (Some s) = ending_kind s.ending

abbrev pub last_reason : Option Settled → ℕ
last_reason None = 0
last_reason (Some s) = ending_reason s.ending

-- the front of a home block: the tag, the version, the blocks of the disk, the log slots and the blocks of the recovery unit journal
abbrev pub size_rows : ℕ → Sizes → List Row
size_rows version s =
    row 0 8 (codes "DTMVOL01")
    ∷ number_32 8 version
    ∷ number_32 12 s.blocks
    ∷ number_32 16 s.slots
    ∷ number_32 20 s.ru_blocks
    ∷ []

-- the sizes of a home
abbrev pub sizes_of : Home → Sizes
sizes_of h = record { blocks = h.blocks; slots = h.slots; ru_blocks = h.ru_blocks }

-- the home block: each field at its place
unfoldable pub home_rows : Home → List Row
home_rows h =
    size_rows h.version (sizes_of h)
    ++ (row 24 8 (padded 8 h.node)
    ∷ number_32 32 h.boot
    ∷ number_64 40 h.greatest_moment.0
    ∷ row 48 16 (last_tid h.last)
    ∷ row 64 16 (last_serial h.last)
    ∷ number_8 80 (last_kind h.last)
    ∷ number_8 81 (last_reason h.last)
    ∷ [])

-- a settlement's two ids are ids
abbrev pub IsLast : Option Settled → Type 0
IsLast None = ⊤
IsLast (Some s) = IsId (tid_of s.tid) × IsId (serial_of s.serial)

-- the fields of a home are in their ranges
pub record IsHome (h : Home) : Type 0 where
  pub version : h.version < 2 ^ 32
  pub blocks : h.blocks < 2 ^ 32
  pub slots : h.slots < 2 ^ 32
  pub ru_blocks : h.ru_blocks < 2 ^ 32
  pub node : node_named h.node ≡ Some h.node
  pub boot : h.boot < 2 ^ 32
  pub greatest_moment : h.greatest_moment.0 < 2 ^ 64
  pub last : IsLast h.last

-- a block has a home where each field of it stands at its place, whatever stands between and behind them
abbrev pub HasHome : List ℕ → Home → Type 0
HasHome block h = laid (home_rows h) block ≡ block

-- a new home block: zeros where no field stands
abbrev pub home_block_of : Home → List ℕ
home_block_of h = laid (home_rows h) (replicate 512 0)

-- the sizes are in their ranges
pub record IsSizes (s : Sizes) : Type 0 where
  pub blocks : s.blocks < 2 ^ 32
  pub slots : s.slots < 2 ^ 32
  pub ru_blocks : s.ru_blocks < 2 ^ 32

-- the front of a block has the tag, version 1 and these sizes
abbrev pub HasSizes : List ℕ → Sizes → Type 0
HasSizes block s = laid (size_rows 1 s) block ≡ block

-- the block of the recovery unit journal: between which positions its entries lie
abbrev pub ru_rows : Span → List Row
ru_rows s = number_64 0 s.first ∷ number_64 8 s.end ∷ []

-- a block tells these positions, whatever stands behind them
abbrev pub HasRu : List ℕ → Span → Type 0
HasRu block s = laid (ru_rows s) block ≡ block

-- a new such block
abbrev pub ru_block_of : Span → List ℕ
ru_block_of s = laid (ru_rows s) (replicate 512 0)
