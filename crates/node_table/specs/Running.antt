-- What telling a node's table an event comes to.
use Rattle.std.specs.Prelude.{◌≡◌, [], map, true, ◌≤◌, ◌<◌, length, ◌+◌, ◌*◌, ◌^◌, ℕ, ◌++◌, max, Option, None, Result, OnErr, OnOk}
use Rattle.std.specs.List.{list_any}
use Rattle.vms_model.specs.Limits.{branch_limit, moment_ceiling}
use Rattle.careful_write.specs.declared.down.Down.{Down}
use Rattle.net_wire.specs.commit_protocol.Effects.{effects_of}
use Rattle.net_wire.specs.commit_protocol.Messages.{Inquire, Message}
use Rattle.net_wire.specs.commit_protocol.Rows as rows
use Rattle.net_wire.specs.commit_protocol.Rows.{Event, row, up}
use Rattle.net_wire.specs.commit_protocol.Table.{Key, Tm, branch_serials, branches_of, record_key, record_serials}
use Rattle.net_wire.specs.commit_protocol.World.{In}
use Rattle.row_laws.specs.log_laws.Slots.{branches_added, size}
use Rattle.recovery_units.specs.State.{IsKept}
use Rattle.recovery_units.specs.Told.{ReopenedTold}
use Rattle.tm_types.specs.Parts.{log_record_of}
use Rattle.recovery_units.specs.world_laws.Nodes as laws
use Rattle.recovery_units.specs.Uses.{Caused, DiskAdvances, down_of}
use Rattle.row_laws.specs.Doing.{DoesRows}
use Rattle.row_laws.specs.run_model.Answers.{just, told_rows}
use Rattle.row_laws.specs.run_model.Statements.{answer_in}
use Rattle.row_laws.specs.run_model.World as world
use Rattle.row_laws.specs.run_model.World.{Node, tm_of}
use Rattle.run_shared.specs.Sharing.{IsShared, SharedState}
use Rattle.emitter_model.specs.Emitting.{Shown, Since}
use Rattle.vms_model.specs.Ids.{Id}
use Rattle.recovery_units.specs.volume_model.Volumes.{HasDisk}
use Rattle.recovery_units.specs.world_laws.Nodes.{AreUp}
use Rattle.node_table.specs.Growing.{end_to_come, moment_to_come}
use Rattle.node_table.specs.Standing.{IsUp, Stored, Up, UpRepresents}
use Rattle.node_table.specs.Telling.{ShowsWork, uses_disk}

-- an event by which a node does what its table says; that a branch has changed something is only noted
abbrev pub IsTold : Event → Type 0
IsTold (rows.Changed serial) = ⊥
IsTold e = Unit {0}

-- No branch or committed record of the table has the serial of a branch that begins; and the log has a slot more than there are of these.
pub record IsFreshOf (r : Up) (serial : Id) : Type 0 where
  pub room : size r.tm < length r.stored.units.log
  pub new : In serial (branch_serials r.tm.table ++ record_serials r.tm.records) → ⊥

abbrev pub IsFreshFor : Up → Event → Type 0
IsFreshFor r (rows.Start tid due) = IsFreshOf r tid
IsFreshFor r (rows.Begin tid serial bid) = IsFreshOf r serial
IsFreshFor r _ = Unit {0}

-- in the world none of the branches that were prepared had it
abbrev pub IsNewFor : Node → Event → Type 0
IsNewFor n (rows.Start tid due) = (k : Key) → In k n.volatile.preparation → k.serial ≡ tid → ⊥
IsNewFor n (rows.Begin tid serial bid) = (k : Key) → In k n.volatile.preparation → k.serial ≡ serial → ⊥
IsNewFor n _ = Unit {0}

-- numbers that only grow are far from their ends, also where a branch begins with the event
pub record IsEarlyFor (e : Event) (r : Up) : Type 0 where
  pub moment : moment_to_come r.stored + branches_added e ≤ moment_ceiling
  pub low : end_to_come r.stored + branches_added e * 2 ^ 25 ≤ 2 ^ 62

-- they grow by no more than that
pub record Grown (e : Event) (clock : ℕ) (old new : Up) : Type 0 where
  pub moment : moment_to_come new.stored ≤ max (moment_to_come old.stored + branches_added e) (clock + branch_limit)
  pub end : end_to_come new.stored ≤ end_to_come old.stored + branches_added e * 2 ^ 25

-- What a node that is up keeps in order, whatever its disk has, and what it shows and sends. Its disk goes down in that only where the row has an effect that uses it.
pub record KeepsUp {T : Type 0} (r : Result T Down) (e : Event) (clock : ℕ) (old new : Up) (before after : SharedState) (a b : Shown) : Type 0 where
  pub up : OnOk r (IsUp new)
  pub goes : DiskAdvances old.stored.volume.store.disk new.stored.volume.store.disk
  pub cause : Caused (down_of r) old.stored.volume.store.disk new.stored.volume.store.disk
  pub pool : new.stored.volume.store.pool ≡ old.stored.volume.store.pool
  pub node : new.stored.volume.catalog.home.node ≡ old.stored.volume.catalog.home.node
  pub boot : new.stored.volume.catalog.home.boot ≡ old.stored.volume.catalog.home.boot
  pub drawn : new.drawn ≡ old.drawn
  pub declared : new.declared ≡ old.declared
  pub grown : OnOk r (Grown e clock old new)
  pub since : Since a b
  pub work : ShowsWork before after a b
  pub uses : OnErr r (list_any uses_disk (effects_of (row old.tm e) old.tm.records) ≡ true)

-- The rows of the event were done and shown, or the disk went down in them, at each node of the world that is up before each of them and behind them.
abbrev pub TellsRows : {T : Type 0} → Result T Down → Event → (clock : ℕ) → (old new : Up) → (before after : SharedState) → (a b : Shown) → Type 0
TellsRows r e clock old new before after a b = (s : world.Shared) (n : Node) → UpRepresents clock old n → IsNewFor n e → IsShared before s → AreUp (told_rows s n (just e)) n →
    DoesRows r (told_rows s n (just e)) s n a b (IsShared after) (UpRepresents clock new) (λ m. HasDisk m new.stored.volume.store.disk)

-- what a table answers the question of a branch
abbrev pub answer_to : Tm → Key → Option Message
answer_to tm k = answer_in (row tm (rows.Got (up Inquire k)))

-- The node of the world that has just come up by a restart that told this: its table has these branches and committed records, and the branches were prepared in
-- this order.
pub record IsBooted (clock : ℕ) (told : ReopenedTold) (s : Stored) (n : Node) : Type 0 where
  pub kept : IsKept s.units s.volume n
  pub is_up : laws.IsUp n
  pub name : n.name ≡ s.volume.catalog.home.node
  pub branches : n.volatile.branches ≡ branches_of (map log_record_of told.prepared)
  pub records : n.volatile.records ≡ map log_record_of told.committed
  pub preparation : n.volatile.preparation ≡ map record_key (map log_record_of told.prepared)
  pub drawn : n.volatile.drawn ≡ 0
  pub declared : n.volatile.declared ≡ []
  pub clock_is : n.clock ≡ clock
  pub up : n.up ≡ true
  pub was_up : n.was_up ≡ true
  pub under_way : n.under_way ≡ None
