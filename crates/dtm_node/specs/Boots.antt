-- How a boot goes, from a disk that runs to the volume whose boot count was raised.
use Rattle.std.specs.Prelude.{◌≡◌, ◌⊎◌, ℕ, ◌<◌, ◌≤◌, ◌^◌, ◌-◌, List, [], Bool, true, Option, Some, None}
use Rattle.block_disk.specs.Disk.{DiskState, MayLeave}
use Rattle.vms_model.specs.Limits.{moment_limit}
use Rattle.careful_write.specs.Content.{content_of}
use Rattle.careful_write.specs.Load.{fitting}
use Rattle.careful_write.specs.State.{StoreState}
use Rattle.file_base.specs.declared.head.Span.{Span}
use Rattle.recovery_units.specs.image_room.Room.{images_end}
use Rattle.journal_model.specs.Ring.{ring_size}
use Rattle.transcript.specs.Forms.{line_of, HasTime}
use Rattle.emitter_model.specs.transcript_model.Lines.{Line}
use Rattle.emitter_model.specs.transcript_model.Outside.{Rose}
use Rattle.volume.specs.Conditions.{IsFirstFinding}
use Rattle.volume.specs.State.{VolumeState}
use Rattle.world_laws.specs.run_model.World.{Barred, Boots, Faulty, Node, Sound, Unknown, acted, fallen}
use Rattle.world_laws.specs.run_model.Answers.{bootable}
use Rattle.world_laws.specs.run_model.Steps.{count_of}
use Rattle.recovery_units.specs.volume_model.Bars.{first_bar}
use Rattle.recovery_units.specs.volume_model.Volumes.{HasBarred, HasDisk, IsLeftBy, LeavesVolume}
use Rattle.world_laws.specs.Nodes.{IsKeptDisk}
use Rattle.recovery_units.specs.State.{HasNoUnit, IsInOrder, UnitsState}
use Rattle.recovery_units.specs.Calls.{IsRestarting}
use Rattle.recovery_units.specs.Uses.{IsCounted}
use Rattle.dtm_node.specs.declared.boot.Booted.{Booted}
use Rattle.dtm_node.specs.declared.boot.Booted.TheVariants as booted
use Rattle.node_requests.specs.node_standing.Standing.{counts_of}
use Rattle.dtm_node.specs.Causes.{cause_of}
use Rattle.node_requests.specs.node_standing.Holding.{HoldsAs}
use Rattle.said_steps.specs.Calls.{is_boot_refusal}

abbrev pub disk_booted : {D : Type 0} → (D → DiskState) → Booted D → DiskState
disk_booted state (booted.Up v) = v.store.disk
disk_booted state (booted.Refused disk group pool form) = state disk
disk_booted state (booted.Fell disk group pool down) = state disk

abbrev pub pool_booted : {D : Type 0} → Booted D → List (Option (List ℕ))
pool_booted (booted.Up v) = v.store.pool
pool_booted (booted.Refused disk group pool form) = pool
pool_booted (booted.Fell disk group pool down) = pool

-- A content, where an open group fits or does not, is what a node's disk has.
abbrev pub HasContent : Node → Bool → List (List ℕ) → Type 0
HasContent n fits content = elim n.durable.volume [
  | Sound ↦ (fits ≡ true) × IsLeftBy content n
  | Faulty condition block ↦ IsFirstFinding n.name fits content condition block
  | Barred bar ↦ (fits ≡ true) × HasBarred n.name n.blocks bar content
  | Unknown ↦ ⊥
]

-- each image that a power loss may leave has this content, and its open group fits or does not as is said
abbrev pub AllHave : Bool → List (List ℕ) → DiskState → Type 0
AllHave fits content d = (image : List (List ℕ)) → MayLeave d image → (fitting image ≡ fits) × (content_of image ≡ content)

-- what is said of a node on whose disk a boot is under way
pub record IsBooting (name : List ℕ) (d : DiskState) (n : Node) : Type 0 where
  pub name_is : n.name ≡ name
  pub blocks : n.blocks ≡ d.size
  pub under_way : n.under_way ≡ None
  pub kept : IsKeptDisk n

-- its disk runs, and has what the node has
pub record IsAwake (name : List ℕ) (d : DiskState) (n : Node) : Type 0 where
  pub booting : IsBooting name d n
  pub image : List (List ℕ)
  pub told : d.seen ≡ Some image
  pub has : HasContent n (fitting image) (content_of image)

-- a store over it, which has what the node has
pub record IsOpened (name : List ℕ) (s : StoreState) (n : Node) : Type 0 where
  pub booting : IsBooting name s.disk n
  pub content : List (List ℕ)
  pub told : s.current ≡ Some content
  pub alike : AllHave s.fits content s.disk
  pub has : HasContent n s.fits content

-- a journal's positions are numbers of 64 bits
abbrev pub IsWide : Span → Type 0
IsWide s = (s.first < 2 ^ 64) × (s.end < 2 ^ 64)

-- its volume is what the node has, or bars each boot so: what the journal's block tells is told of such positions alone
abbrev pub HasMounted : Node → List (List ℕ) → VolumeState → Type 0
HasMounted n content v = elim n.durable.volume [
  | Sound ↦ (IsWide v.catalog.ru → LeavesVolume content v.catalog n)
  | Faulty condition block ↦ ⊥
  | Barred bar ↦ (IsWide v.catalog.ru → first_bar v.catalog ≡ Some bar)
  | Unknown ↦ ⊥
]

pub record IsMounted (v : VolumeState) (n : Node) : Type 0 where
  pub booting : IsBooting v.catalog.home.node v.store.disk n
  pub content : List (List ℕ)
  pub told : v.store.current ≡ Some content
  pub has : HasMounted n content v

-- How a boot went of this node: its boot count is raised, or it was refused, or the disk went down, perhaps while the count was raised.
abbrev pub BootsTo : {D : Type 0} → (D → DiskState) → Node → Booted D → Type 0
BootsTo state n (booted.Up v) = (bootable n ≡ None) × IsRestarting v (acted Boots n)
BootsTo state n (booted.Refused disk group pool form) = (bootable n ≡ Some (line_of form)) × HasDisk n (state disk)
BootsTo state n (booted.Fell disk group pool down) = HasDisk (fallen None n) (state disk) ⊎ ((bootable n ≡ None) × HasDisk (fallen (Some Boots) n) (state disk))

-- a volume with which a node is booted: it is in order without units and before its log is read, and its numbers that only grow are low
pub record IsRaised (name : List ℕ) (v : VolumeState) : Type 0 where
  pub named : v.catalog.home.node ≡ name
  pub order : (s : UnitsState) → HasNoUnit s → IsInOrder (record s { log = [] }) v
  pub greatest : v.catalog.home.greatest_moment.0 ≤ moment_limit
  pub end : v.catalog.ru.end ≤ 2 ^ 61
  pub images : images_end v.catalog.heads ≤ 2 ^ 61

-- a journal lies in its ring, and its positions are low
pub record IsInRing (s : Span) : Type 0 where
  pub order : s.first ≤ s.end
  pub room : s.end - s.first ≤ ring_size s
  pub low : s.end ≤ 2 ^ 62

-- an answer refuses a boot once its disk runs again
abbrev pub IsBootRefusal : Line → Type 0
IsBootRefusal answer = is_boot_refusal answer ≡ true

-- What holds whatever the disk has: a volume that is up is in order; a refusal is one of a disk that runs, of which nothing is lost; and a failure raised its count.
abbrev pub IsBooted : {D : Type 0} → (D → DiskState) → List ℕ → DiskState → Booted D → Type 0
IsBooted state name old (booted.Up v) = IsRaised name v
IsBooted state name old (booted.Refused disk group pool form) = HasTime form × IsBootRefusal (line_of form) × HoldsAs old (state disk)
IsBooted state name old (booted.Fell disk group pool down) = IsCounted old → Rose (count_of (cause_of down) (counts_of old)) (count_of (cause_of down) (counts_of (state disk)))
