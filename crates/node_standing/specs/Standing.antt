-- What a node stands for: a node of the world, by what its disk has and by what the program keeps of it.
use Rattle.std.specs.Prelude.{◌≡◌, ℕ, List, [], ◌∷◌, Bool, true, false, None, is_some}
use Rattle.block_disk.specs.Disk.{CallLog, DiskState, noted}
use Rattle.block_disk.specs.declared.disk.DiskCall.TheVariants as disk_call
use Rattle.said_steps.specs.run_model.World.{Arm, Call, DiskCounts, Node, Power}
use Rattle.node_table.specs.volume_model.Volumes.{HasDisk}
use Rattle.node_table.specs.recovery_units.Uses.{IsCounted}
use Rattle.node_table.specs.Standing.{Up, UpRepresents}

-- how often a disk failed and was stopped
abbrev pub counts_of : DiskState → DiskCounts
counts_of d = record { faults = d.faults; stops = d.stops }

-- calls of the world, the newest first, as a disk notes them behind those before
abbrev pub noted_all : List Call → CallLog → CallLog
noted_all [] log = log
noted_all (Arm writes choice ∷ calls) log = noted (disk_call.Arm writes choice) (noted_all calls log)
noted_all (Power stops ∷ calls) log = noted (disk_call.Power stops) (noted_all calls log)

-- a node of the world that is down: what its disk has, and what it reserved where it was up before
pub record DownRepresents (has_parts : Bool) (d : DiskState) (n : Node) : Type 0 where
  pub down : n.up ≡ false
  pub reserved : n.was_up ≡ true → has_parts ≡ true
  pub told : is_some d.seen ≡ true
  pub disk : HasDisk n d

-- what stands over a node's disk
pub data Place : Type 0 where
  IsDown : (has_parts : Bool) → DiskState → Place
  IsRunning : Up → Place

-- the disk of a node that is up, and of any
abbrev pub disk_of : Up → DiskState
disk_of r = r.stored.volume.store.disk

abbrev pub disk_in : Place → DiskState
disk_in (IsDown has_parts d) = d
disk_in (IsRunning r) = disk_of r

-- whether it is up
abbrev pub is_up : Place → Bool
is_up (IsDown has_parts d) = false
is_up (IsRunning r) = true

abbrev pub PlaceRepresents : (clock : ℕ) → Place → Node → Type 0
PlaceRepresents clock (IsDown has_parts d) n = DownRepresents has_parts d n
PlaceRepresents clock (IsRunning r) n = UpRepresents clock r n

-- what is kept of a node: its name, whether the last INIT that made its disk run failed, its clock, and its place
pub record NodeState : Type 0 where
  pub name : List ℕ
  pub unmade : Bool
  pub clock : ℕ
  pub place : Place

-- what is kept of a node whose disk noted these calls before the run stands for this node of the world
pub record RepresentsNode (before : CallLog) (k : NodeState) (n : Node) : Type 0 where
  pub name : n.name ≡ k.name
  pub blocks : n.blocks ≡ (disk_in k.place).size
  pub clock : n.clock ≡ k.clock
  pub unmade : n.unmade ≡ k.unmade
  pub place : PlaceRepresents k.clock k.place n
  pub calls : (disk_in k.place).calls ≡ noted_all n.calls before
  pub counts : IsCounted (disk_in k.place)
