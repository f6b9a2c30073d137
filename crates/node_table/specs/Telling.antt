-- What the rows of a table come to at a node.
use Rattle.std.specs.Prelude.{◌≡◌, ◌<◌, ◌+◌, ◌==◌, ℕ, length, List, [], ◌∷◌, ◌++◌, Bool, true, false, Some, Result, Ok, OnErr, OnOk, MatchResult, if◌then◌else◌}
use Rattle.std.specs.List.{AllByRecursion, list_any}
use Rattle.block_disk.specs.Disk.{DiskState}
use Rattle.vms_model.specs.Limits.{branch_limit}
use Rattle.careful_write.specs.declared.down.Down.{Down as DownSaid}
use Rattle.net_wire.specs.commit_protocol.Effects.{Effect, PrepareEffect, SettleEffect, KeepEffect, ForgetEffect, act_effects, effects_of}
use Rattle.net_wire.specs.commit_protocol.Messages.{Message, Name, RmEvent}
use Rattle.net_wire.specs.commit_protocol.Table.{Act, Tm, after, after_act}
use Rattle.row_laws.specs.log_laws.Slots.{slots_after}
use Rattle.row_laws.specs.run_model.Answers.{shown_by, table_rows}
use Rattle.row_laws.specs.run_model.Steps.{if_durable}
use Rattle.row_laws.specs.run_model.World as world
use Rattle.row_laws.specs.run_model.World.{Node, Tables, acted, fallen, next_moment, shared_after}
use Rattle.run_shared.specs.Sharing.{IsShared, SharedState}
use Rattle.row_laws.specs.Doing.{DoesRows}
use Rattle.row_laws.specs.May.{MayDo, MayDoAll}
use Rattle.emitter_model.specs.Emitting.{Emits, Shown, Since}
use Rattle.emitter_model.specs.transcript_model.Lines.{Booted, Broken, Crashed, Down, Line, ManagerTold, Sent}
use Rattle.participants.specs.Refusing.{is_among}
use Rattle.vms_model.specs.Ids.{Id}
use Rattle.recovery_units.specs.volume_model.Volumes.{HasDisk}
use Rattle.recovery_units.specs.world_laws.Nodes as laws
use Rattle.recovery_units.specs.world_laws.Nodes.{AreUp}
use Rattle.net_wire.specs.commit_protocol.Rows as rows
use Rattle.net_wire.specs.commit_protocol.Rows.{Event}
use Rattle.recovery_units.specs.State.{IsNew, UnitsState, with_begun}
use Rattle.node_table.specs.Growing.{Stays}
use Rattle.node_table.specs.Standing.{Follows, HasDeclared, Stored, StoredRepresents}

-- whether a line is of what a node does while it is up: it shows no failure of a disk, and no node that goes down or comes up
abbrev pub is_of_work : Line → Bool
is_of_work (Down node cause) = false
is_of_work (Broken cause) = false
is_of_work (Crashed node) = false
is_of_work (Booted node boot) = false
is_of_work line = true

abbrev pub IsOfWork : Line → Type 0
IsOfWork line = is_of_work line ≡ true

-- the numbered messages behind lines, by those that are shown with the next number
abbrev pub wire_behind : Line → List Message → List Message
wire_behind (Sent number m) wire = if number == length wire + 1 then wire ++ m ∷ [] else wire
wire_behind line wire = wire

abbrev pub wire_after : List Line → List Message → List Message
wire_after [] wire = wire
wire_after (l ∷ ls) wire = wire_after ls (wire_behind l wire)

-- Such lines were shown; and of what nodes share nothing changed, but that the messages were sent that they show.
pub record ShowsWork (before after : SharedState) (a b : Shown) : Type 0 where
  pub lines : List Line
  pub emits : Emits a lines b
  pub work : AllByRecursion IsOfWork lines
  pub shared : after ≡ record before { wire = wire_after lines before.wire }

-- whether an effect is done by a call of the disk
abbrev pub uses_disk : Effect → Bool
uses_disk (PrepareEffect serial rms) = true
uses_disk (SettleEffect serial outcome reason rec) = true
uses_disk (KeepEffect rec) = true
uses_disk (ForgetEffect serial) = true
uses_disk e = false

-- what is shown of an event to a resource manager of a branch, where these are declared
abbrev pub event_lines : List Name → RmEvent → (tid serial : Id) → Name → List Line
event_lines rms event tid serial rm = if is_among rm rms then ManagerTold event tid serial rm ∷ [] else []

-- One act.

-- an act of a table, which has this effect, may be done
pub record MayTellOne (effect : Effect) (tid : Id) (act : Act) (tm : Tm) (s : Stored) : Type 0 where
  pub follows : Follows tm s
  pub may : MayDo tid act tm s.units.log
  pub gives : act_effects act tm.records ≡ effect ∷ []

-- behind an act the table that is left is followed, and the log has what the act makes of it
pub record Leads (act : Act) (tm : Tm) (old new : Stored) : Type 0 where
  pub follows : Follows (after_act act tm) new
  pub log : new.units.log ≡ slots_after act tm.records old.units.log

-- it was done and shown
pub record DidOne (act : Act) (s : world.Shared) (n : Node) (a b : Shown) (shared : SharedState) (stands : Node → Type 0) : Type 0 where
  pub shows : Emits a (shown_by act (next_moment n) n s) b
  pub shares : IsShared shared (shared_after (Tables act (next_moment n)) s)
  pub node : stands (acted (Tables act (next_moment n)) n)

-- the disk went down in it, and nothing was shown
pub record WentDownIn (act : Act) (s : world.Shared) (n : Node) (a b : Shown) (shared : SharedState) (d : DiskState) : Type 0 where
  pub shows : Emits a [] b
  pub shares : IsShared shared s
  pub disk : HasDisk (fallen (if_durable (Some (Tables act (next_moment n)))) n) d

-- so at each node of the world that is up before it and behind it
abbrev pub DoesOne : {T : Type 0} → Result T DownSaid → Effect → Id → (clock : ℕ) → (old new : Stored) → (before after : SharedState) → (a b : Shown) → Type 0
DoesOne r effect tid clock old new before after a b = (tm : Tm) (act : Act) (s : world.Shared) (n : Node) → MayTellOne effect tid act tm old → StoredRepresents clock old tm n → IsShared before s →
    laws.IsUp n → laws.IsUp (acted (Tables act (next_moment n)) n) →
    MatchResult r (λ _. DidOne act s n a b after (StoredRepresents clock new (after_act act tm))) (λ _. WentDownIn act s n a b after new.volume.store.disk)

-- or at each of them at which these resource managers are declared
abbrev pub DoesOneWith : {T : Type 0} → List Name → Result T DownSaid → Effect → Id → (clock : ℕ) → (old new : Stored) → (before after : SharedState) → (a b : Shown) → Type 0
DoesOneWith rms r effect tid clock old new before after a b = (tm : Tm) (act : Act) (s : world.Shared) (n : Node) → HasDeclared rms n → MayTellOne effect tid act tm old → StoredRepresents clock old tm n → IsShared before s →
    laws.IsUp n → laws.IsUp (acted (Tables act (next_moment n)) n) →
    MatchResult r (λ _. DidOne act s n a b after (StoredRepresents clock new (after_act act tm))) (λ _. WentDownIn act s n a b after new.volume.store.disk)

-- An effect was done and shown, or the disk went down in it, where it uses that: what the table is behind its act is followed, and it is so in the world.
pub record TellsOne {T : Type 0} (r : Result T DownSaid) (effect : Effect) (tid : Id) (clock : ℕ) (old new : Stored) (before after : SharedState) (a b : Shown) : Type 0 where
  pub stays : Stays r clock old new
  pub since : Since a b
  pub work : ShowsWork before after a b
  pub uses : OnErr r (uses_disk effect ≡ true)
  pub leads : OnOk r ((tm : Tm) (act : Act) → MayTellOne effect tid act tm old → Leads act tm old new)
  pub does : DoesOne r effect tid clock old new before after a b

-- The same of the nodes of the world at which these resource managers are declared: an event to another one is not shown.
pub record TellsOneWith (rms : List Name) {T : Type 0} (r : Result T DownSaid) (effect : Effect) (tid : Id) (clock : ℕ) (old new : Stored) (before after : SharedState) (a b : Shown) : Type 0 where
  pub stays : Stays r clock old new
  pub since : Since a b
  pub work : ShowsWork before after a b
  pub uses : OnErr r (uses_disk effect ≡ true)
  pub leads : OnOk r ((tm : Tm) (act : Act) → MayTellOne effect tid act tm old → Leads act tm old new)
  pub does : DoesOneWith rms r effect tid clock old new before after a b

-- All acts of a row, or of its rest.

-- acts of a table, which have these effects, may be done one after another
pub record MayTellAll (effects : List Effect) (tid : Id) (acts : List Act) (tm : Tm) (s : Stored) : Type 0 where
  pub follows : Follows tm s
  pub may : MayDoAll tid acts tm s.units.log
  pub gives : effects_of acts tm.records ≡ effects

-- at each node of the world that is up before each of them and behind them, and at which these resource managers are declared
abbrev pub DoesAll : {T : Type 0} → List Name → Result T DownSaid → List Effect → Id → (clock : ℕ) → (old new : Stored) → (before shared : SharedState) → (a b : Shown) → Type 0
DoesAll rms r effects tid clock old new before shared a b = (tm : Tm) (acts : List Act) (s : world.Shared) (n : Node) → HasDeclared rms n → MayTellAll effects tid acts tm old → StoredRepresents clock old tm n → IsShared before s → AreUp (table_rows acts s n) n →
    DoesRows r (table_rows acts s n) s n a b (IsShared shared) (StoredRepresents clock new (after acts tm)) (λ m. HasDisk m new.volume.store.disk)

pub record TellsAll (rms : List Name) {T : Type 0} (r : Result T DownSaid) (effects : List Effect) (tid : Id) (clock : ℕ) (old new : Stored) (before shared : SharedState) (a b : Shown) : Type 0 where
  pub stays : Stays r clock old new
  pub since : Since a b
  pub work : ShowsWork before shared a b
  pub uses : OnErr r (list_any uses_disk effects ≡ true)
  pub follows : OnOk r ((tm : Tm) (acts : List Act) → MayTellAll effects tid acts tm old → Follows (after acts tm) new)
  pub does : DoesAll rms r effects tid clock old new before shared a b

-- Where an event begins a branch, one more unit may begin, which is its.

abbrev pub MayBegin : Event → UnitsState → Type 0
MayBegin (rows.Start tid due) s = (length s.begun < branch_limit) × IsNew tid s
MayBegin (rows.Begin tid serial bid) s = (length s.begun < branch_limit) × IsNew serial s
MayBegin e s = Unit {0}

abbrev pub begun_by : Event → UnitsState → UnitsState
begun_by (rows.Start tid due) s = with_begun tid tid s
begun_by (rows.Begin tid serial bid) s = with_begun tid serial s
begun_by e s = s

-- the result of what can not fail
abbrev pub done : Result (Unit {0}) DownSaid
done = Ok tt
