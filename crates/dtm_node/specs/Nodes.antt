-- What the code keeps of a node, whether it is up or down.
use Rattle.std.specs.Prelude.{◌≡◌, ◌<◌, ◌≤◌, ℕ, List, [], true, false, IfSome, Some, None, is_some}
use Rattle.block_disk.specs.Disk.{DiskState, armed}
use Rattle.block_disk.specs.Sizes.{greatest_disk_size, least_disk_size}
use Rattle.vms_model.specs.Limits.{moment_limit, statement_bound}
use Rattle.change_set.specs.Files.{free_frames}
use Rattle.emitter_model.specs.transcript_model.Lines.{Aborted, Line}
use Rattle.vms_base.specs.Ids.{serial_of, tid_of}
use Rattle.vms_model.specs.Transactions.{SegFail}
use Rattle.recovery_units.specs.declared.settled.SettledUnit.{SettledUnit}
use Rattle.volume_format.specs.declared.home.Home.{Home}
use Rattle.recovery_units.specs.volume_model.Homes.{last_of}
use Rattle.world_laws.specs.run_model.Answers.{last_line}
use Rattle.recovery_units.specs.State.{HasNoUnit, UnitsState}
use Rattle.node_requests.specs.node_table.Code.{up_of}
use Rattle.node_requests.specs.node_table.Standing.{IsUp}
use Rattle.run_shared.specs.Sharing.{SharedState}
use Rattle.dtm_node.specs.declared.node.Node.{Node}
use Rattle.dtm_node.specs.declared.node.Parts.{Parts}
use Rattle.dtm_node.specs.declared.node.Place as code
use Rattle.dtm_node.specs.declared.node.Place.TheVariants as code_place
use Rattle.node_requests.specs.Running.{HasGrown}
use Rattle.node_requests.specs.node_standing.Standing.{IsDown, IsRunning, NodeState, Place, disk_in, disk_of}

-- what stands over the disk
abbrev pub place_of : {D U : Type 0} → (D → DiskState) → (U → UnitsState) → code.Place D U → Place
place_of state units (code_place.Down disk parts) = IsDown (is_some parts) (state disk)
place_of state units (code_place.Up r) = IsRunning (up_of units r)

-- what is kept of a node
abbrev pub kept_of : {D U : Type 0} → (D → DiskState) → (U → UnitsState) → Node D U → NodeState
kept_of state units n = record { name = n.name; unmade = n.unmade; clock = n.clock.0; place = place_of state units n.place }

-- its disk
abbrev pub state_of : {D U : Type 0} → (D → DiskState) → (U → UnitsState) → Node D U → DiskState
state_of state units n = disk_in (place_of state units n.place)

-- frames enough are free, no unit is begun, and no branch is in doubt
pub record IsParts {U : Type 0} (units : U → UnitsState) (p : Parts U) : Type 0 where
  pub frames : 32 ≤ free_frames p.pool
  pub none : HasNoUnit (units p.units)
  pub certain : p.room.in_doubt.items ≡ []

-- The place of a node that is down: the disk has blocks enough, and the parts are as they have to be.
abbrev pub IsFallen : {D U : Type 0} → (D → DiskState) → (U → UnitsState) → code.Place D U → Type 0
IsFallen state units (code_place.Down disk parts) = (least_disk_size ≤ (state disk).size) × ((state disk).size ≤ greatest_disk_size) × IfSome parts (IsParts units)
IsFallen state units (code_place.Up r) = ⊥

-- one that becomes so where its node goes down
abbrev pub MayFall : {D U : Type 0} → (D → DiskState) → (U → UnitsState) → code.Place D U → Type 0
MayFall state units (code_place.Down disk parts) = IsFallen state units (code_place.Down disk parts)
MayFall state units (code_place.Up r) = (least_disk_size ≤ r.stored.volume.store.disk.size) × (r.stored.volume.store.disk.size ≤ greatest_disk_size) × (32 ≤ free_frames r.stored.volume.store.pool)

-- the place over an armed disk, and where its node goes down
abbrev pub place_armed : ℕ → ℕ → Place → Place
place_armed writes choice (IsDown has_parts d) = IsDown has_parts (armed writes choice d)
place_armed writes choice (IsRunning r) = IsRunning (record r { stored = record r.stored { volume = record r.stored.volume { store = record r.stored.volume.store { disk = armed writes choice r.stored.volume.store.disk } } } })

abbrev pub fallen_place : Place → Place
fallen_place (IsDown has_parts d) = IsDown has_parts d
fallen_place (IsRunning r) = IsDown true (disk_of r)

-- a boot shows the last settlement that a home tells, where there is one
abbrev pub last_lines_of : Home → List Line
last_lines_of h = elim (last_of h) [ Some s ↦ last_line s | None ↦ [] ]

-- and then each unit that it undid
abbrev pub undone_line : SettledUnit → Line
undone_line u = Aborted (tid_of u.tid) (serial_of u.serial) SegFail u.moment.0

-- What holds of a place after so many statements: the disk has blocks enough; and a node that is up was booted in this run, and is in order, with its numbers
-- at most this.
abbrev pub IsPlaceOf : {D U : Type 0} → (D → DiskState) → (U → UnitsState) → ℕ → SharedState → Node D U → code.Place D U → Type 0
IsPlaceOf state units count s n (code_place.Down disk parts) = (least_disk_size ≤ (state disk).size) × ((state disk).size ≤ greatest_disk_size) × IfSome parts (IsParts units)
IsPlaceOf state units count s n (code_place.Up r) = IsUp (up_of units r) × (n.name ≡ (up_of units r).tm.node) × (s.in_use ≡ true) × (n.unmade ≡ false) × HasGrown count (up_of units r)

-- what holds of a node, and of what nodes share, after so many statements, whatever its disk has
pub record IsNode {D U : Type 0} (state : D → DiskState) (units : U → UnitsState) (count : ℕ) (s : SharedState) (n : Node D U) : Type 0 where
  pub place : IsPlaceOf state units count s n n.place
  pub clock : n.clock.0 ≤ moment_limit

-- one after as many statements as a script may have
abbrev pub IsNodeInScript : {D U : Type 0} → (D → DiskState) → (U → UnitsState) → SharedState → Node D U → Type 0
IsNodeInScript state units s n = (count : ℕ) × (count < statement_bound) × IsNode state units count s n
