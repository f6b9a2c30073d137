-- What the program keeps of a node that is up, and the node of the world that it stands for.
use Rattle.std.specs.Prelude.{◌≡◌, ℕ, List, [], ◌∷◌, true, None, is_some, if◌then◌else◌}
use Rattle.net_wire.specs.commit_protocol.Agreement.{Distinct}
use Rattle.net_wire.specs.commit_protocol.Allowed.{is_prepared}
use Rattle.net_wire.specs.commit_protocol.Limits.{TmWithin}
use Rattle.net_wire.specs.commit_protocol.Messages.{Name}
use Rattle.net_wire.specs.commit_protocol.Table.{Branch, Key, Tm, find}
use Rattle.net_wire.specs.commit_protocol.World.{In}
use Rattle.vms_model.specs.Ids.{Id}
use Rattle.row_laws.specs.run_model.World.{Node, tm_of}
use Rattle.volume.specs.State.{VolumeState}
use Rattle.recovery_units.specs.State.{AreOfBranches, IsInOrder, IsKept, UnitsState}
use Rattle.row_laws.specs.May.{IsTold}
use Rattle.recovery_units.specs.world_laws.Running.{IsDrawn}

-- The volume and the units of a node, and the serials of its prepared branches in the order of their preparation.
pub record Stored : Type 0 where
  pub volume : VolumeState
  pub units : UnitsState
  pub in_doubt : List Id

-- With its table, how many ids it drew in this boot, and the resource managers that are declared there, in the order of that.
pub record Up : Type 0 where
  pub stored : Stored
  pub tm : Tm
  pub drawn : ℕ
  pub declared : List Name

-- these serials are of prepared branches of a table, no two of one
pub record AreInDoubt (serials : List Id) (bs : List Branch) : Type 0 where
  pub apart : Distinct serials
  pub prepared : (serial : Id) → In serial serials → (b : Branch) × In b bs × (b.key.serial ≡ serial) × (is_prepared b.state ≡ true)

-- What holds behind each act of a table, which is this by then, whatever the disk has: units and volume are in order; each branch of the table has a unit; the log
-- tells the table; and only prepared branches are in doubt.
pub record Follows (tm : Tm) (s : Stored) : Type 0 where
  pub order : IsInOrder s.units s.volume
  pub node : tm.node ≡ s.volume.catalog.home.node
  pub branches : AreOfBranches s.units.begun tm.table
  pub told : IsTold tm s.units.log
  pub doubt : AreInDoubt s.in_doubt tm.table

-- What holds of a node that is up on any disk: its table is within its limits too.
pub record IsUp (r : Up) : Type 0 where
  pub follows : Follows r.tm r.stored
  pub within : TmWithin r.tm

-- the serials of keys that stand among branches, in the order of the keys
abbrev pub unsettled_serials : List Key → List Branch → List Id
unsettled_serials [] bs = []
unsettled_serials (k ∷ ks) bs = if is_some (find k bs) then k.serial ∷ unsettled_serials ks bs else unsettled_serials ks bs

-- Just the prepared branches are named by these keys.
pub record NamesPrepared (ks : List Key) (bs : List Branch) : Type 0 where
  pub named : (b : Branch) → In b bs → is_prepared b.state ≡ true → In b.key ks
  pub prepared : (b : Branch) → In b bs → In b.key ks → is_prepared b.state ≡ true

-- A node of the world behind some acts of a row, where the disk tells its content: it is these units and this volume, its table is this, at this clock; and the
-- branches that were prepared, in the order of that, are those in doubt.
pub record StoredRepresents (clock : ℕ) (s : Stored) (tm : Tm) (n : Node) : Type 0 where
  pub kept : IsKept s.units s.volume n
  pub table : tm_of n ≡ tm
  pub clock_is : n.clock ≡ clock
  pub doubt : unsettled_serials n.volatile.preparation n.volatile.branches ≡ s.in_doubt
  pub names : NamesPrepared n.volatile.preparation n.volatile.branches
  pub up : n.up ≡ true
  pub was_up : n.was_up ≡ true
  pub under_way : n.under_way ≡ None

-- these resource managers are declared at a node of the world
abbrev pub HasDeclared : List Name → Node → Type 0
HasDeclared rms n = n.volatile.declared ≡ rms

-- A node of the world that is up: it drew so many ids, and those of the branches that were prepared are among them; and these resource managers are declared there.
pub record UpRepresents (clock : ℕ) (r : Up) (n : Node) : Type 0 where
  pub stands : StoredRepresents clock r.stored r.tm n
  pub drawn : n.volatile.drawn ≡ r.drawn
  pub declared : HasDeclared r.declared n
  pub preparation : (k : Key) → In k n.volatile.preparation → IsDrawn n.name n.durable.boot n.volatile.drawn k.serial
