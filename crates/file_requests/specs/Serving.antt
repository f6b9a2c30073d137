-- What a request on files of a node that is up comes to.
use Rattle.std.specs.Prelude.{◌≡◌, ℕ, List, Some, Result, OnOk}
use Rattle.block_disk.specs.Disk.{DiskState}
use Rattle.careful_write.specs.Reads.{as_read_by}
use Rattle.careful_write.specs.declared.down.Down.{Down}
use Rattle.directory_model.specs.Files.{head_at}
use Rattle.file_base.specs.declared.head.FileHead.{FileHead}
use Rattle.emitter_model.specs.Emitting.{Shown, Since}
use Rattle.file_images.specs.run_model.Answers.{Service}
use Rattle.file_images.specs.run_model.World.{Node, Shared}
use Rattle.recovery_units.specs.world_laws.Nodes.{IsUp}
use Rattle.recovery_units.specs.State.{IsInOrder, IsKept}
use Rattle.recovery_units.specs.Uses.{Caused, Grows, ImagesGrow, down_of}
use Rattle.node_standing.specs.node_table.Serving.{DoesService, ServiceAt, service_at}
use Rattle.node_standing.specs.node_table.Standing.{Stored}
use Rattle.file_requests.specs.Replying.{RepliesIf}

abbrev pub disk_of : Stored → DiskState
disk_of r = r.volume.store.disk

-- its name
abbrev pub name_of : Stored → List ℕ
name_of r = r.volume.catalog.home.node

-- what is stored is the same but for what the volume's store tells of reads
abbrev pub SameStored : Stored → Stored → Type 0
SameStored old new = new ≡ record old { volume = record old.volume { store = as_read_by new.volume.store old.volume.store } }

-- a file of this number is there
abbrev pub HasFile : ℕ → Stored → Type 0
HasFile f r = (h : FileHead) × (head_at r.volume.catalog.heads f ≡ Some h)

-- What is kept in order over a request, whatever the disk has, and also where it went down: numbers that only grow have grown by no more than so many settlements
-- at this clock and one ring's bytes; a failure raised its count; and what was shown is an answer and tells of no failure.
pub record KeepsStored {T : Type 0} (settlements clock : ℕ) (r : Result T Down) (old new : Stored) (a b : Shown) : Type 0 where
  pub order : OnOk r (IsInOrder new.units new.volume)
  pub in_doubt : new.in_doubt ≡ old.in_doubt
  pub grows : Grows settlements clock old.volume new.volume
  pub images : OnOk r (ImagesGrow old.volume new.volume)
  pub cause : Caused (down_of r) (disk_of old) (disk_of new)
  pub since : Since a b
  pub replies : RepliesIf r a b

-- a node of the world that what is stored stands for, which is up
pub record IsReady (r : Stored) (n : Node) : Type 0 where
  pub kept : IsKept r.units r.volume n
  pub up : IsUp n

-- A service was done there, which leaves what nodes share: refused, all is as it was but for reads; done, what is stored stands for the node behind its rows.
abbrev pub DoesThere : {T : Type 0} → Result T Down → ServiceAt → Shared → Node → (old new : Stored) → (a b : Shown) → Type 0
DoesThere r q s n old new a b = DoesService r q s n a b (SameStored old new) (λ t. t ≡ s) (IsKept new.units new.volume) (disk_of new)

-- A request was served, whose service is this: units are as they were, and at each such node of the world the service was done.
pub record ServesFile {T : Type 0} (r : Result T Down) (e : Service) (old new : Stored) (a b : Shown) : Type 0 where
  pub keeps : KeepsStored 0 0 r old new a b
  pub units : new.units ≡ old.units
  pub serves : (s : Shared) (n : Node) → IsReady old n → DoesThere r (service_at e s n) s n old new a b
