-- What the acts of a table come to at the node that is kept, effect by effect.
use Rattle.std.specs.Prelude.{◌≡◌, ℕ, ◌+◌, ◌*◌, ◌^◌, ◌<◌, List, [], ◌∷◌, ◌++◌, Option, map, option_map}
use Rattle.vms_model.specs.Ids.{Id}
use Rattle.vms_model.specs.Times.{CanBeWritten}
use Rattle.vms_model.specs.Transactions.{Outcome, Reason}
use Rattle.world_laws.specs.transcript_model.Lines as line
use Rattle.unit_laws.specs.Journal.{end_of}
use Rattle.commit_protocol.specs.Limits.{TmWithin}
use Rattle.commit_protocol.specs.Effects.{Effect, effects_of}
use Rattle.commit_protocol.specs.Messages.{LogRecord}
use Rattle.commit_protocol.specs.Rows.{Event, row}
use Rattle.commit_protocol.specs.World.{In}
use Rattle.commit_protocol.specs.Table.{Act, Accepts, Acknowledges, Branch, Key, Leaves, Notes, Prepares, Prints, Releases, Sends, Settles, Started, Ended, Told, Tm, Undoes, after, prepared_record, records_after}
use Rattle.world_laws.specs.log_laws.Slots.{Slots, put_in, settled_in, slots_after}
use Rattle.row_laws.specs.May.{IsTold}
use Rattle.world_laws.specs.run_model.Answers.{boot_rows, prepared_lines, shown_by, table_rows}
use Rattle.world_laws.specs.run_model.Steps.{lines_of_rows, node_after_rows, shared_after_rows}
use Rattle.world_laws.specs.run_model.World as world
use Rattle.world_laws.specs.run_model.World.{Node, Shared, Tables, next_moment, shared_after, tm_of}
use Rattle.reference_world.specs.Standing.{line_of}
use Rattle.reference_world.specs.declared.line.Line.{Line}
use Rattle.reference_disk.specs.Disks.{logged_tid, one_line}
use Rattle.reference_branches.specs.Branches.{tid_among}
use Rattle.reference_node.specs.Nodes.{settled_by}

-- so many settlements may follow at a node: its moments can be written, and its journal's positions do not leave their type
pub record HasTime (count : ℕ) (n : Node) : Type 0 where
  pub greatest : CanBeWritten (n.durable.greatest + count)
  pub clock : CanBeWritten (n.clock + count)
  pub end : end_of n.durable.units + 48 * count < 2 ^ 64

-- the slots have the records, so that they tell the transaction of each
abbrev pub AreLogged : List LogRecord → Slots → Type 0
AreLogged rs ss = (r : LogRecord) → In r rs → logged_tid r.serial ss ≡ r.tid

-- What an act tells that its effect does not is known: the effect names no transaction. It is among the branches that stood before the row, or that of the message;
-- or the slots tell it, where a committed record goes. No row undoes a unit.
abbrev pub IsTellable : List Key → (tid : Id) → Act → List LogRecord → Slots → Type 0
IsTellable before tid (Notes b) rs ss = Unit {0}
IsTellable before tid (Accepts b c) rs ss = b.key.tid ≡ tid
IsTellable before tid (Prepares b) rs ss = tid_among b.key.serial before ≡ b.key.tid
IsTellable before tid (Settles k outcome reason r) rs ss = tid_among k.serial before ≡ k.tid
IsTellable before tid (Leaves k) rs ss = tid_among k.serial before ≡ k.tid
IsTellable before tid (Acknowledges k) rs ss = AreLogged rs ss
IsTellable before tid (Releases serial rm) rs ss = AreLogged rs ss
IsTellable before tid (Undoes k) rs ss = ⊥
IsTellable before tid (Sends m) rs ss = Unit {0}
IsTellable before tid (Prints (Started k)) rs ss = k.tid ≡ tid
IsTellable before tid (Prints (Ended t reason)) rs ss = Unit {0}
IsTellable before tid (Prints (Told event k rm)) rs ss = Unit {0}

-- so it is of each of some acts, one after another
abbrev pub AllTellable : List Key → (tid : Id) → List Act → List LogRecord → Slots → Type 0
AllTellable before tid [] rs ss = Unit {0}
AllTellable before tid (a ∷ acts) rs ss = IsTellable before tid a rs ss × AllTellable before tid acts (records_after a rs) (slots_after a rs ss)

-- a node with this table
abbrev pub with_tm : Tm → Node → Node
with_tm tm n = record n { volatile = record n.volatile { branches = tm.table; records = tm.records } }

-- a node with these committed records
abbrev pub with_records : List LogRecord → Node → Node
with_records rs n = record n { volatile = record n.volatile { records = rs } }

-- what an act makes of a node besides its table, where these are the committed records
abbrev pub done_by : Act → List LogRecord → Node → Node
done_by a rs n = record n {
  durable = world.tabled a (next_moment n) rs n.durable;
  volatile = record n.volatile { preparation = world.preparation_after a n.volatile.preparation; locks = world.locks_after a n.volatile.locks };
  settled = world.settled_more (world.settlement_of a (next_moment n)) n.settled;
}

-- An act was done, where these are the committed records: its line was shown, where it has one, and the node but for its table, and what nodes share, are those after it.
pub record Applies (a : Act) (rs : List LogRecord) (s : Shared) (n : Node) (shown : Option Line) (t : Shared) (m : Node) : Type 0 where
  pub shows : one_line (option_map line_of shown) ≡ shown_by a (next_moment n) (with_records rs n) s
  pub shared : t ≡ shared_after (Tables a (next_moment n)) s
  pub node : m ≡ done_by a rs n

-- All these acts were done, from this table on, and the table of the node was left as it is.
pub record AppliesAll (acts : List Act) (tm : Tm) (s : Shared) (n : Node) (shown : List Line) (t : Shared) (m : Node) : Type 0 where
  pub shows : map line_of shown ≡ lines_of_rows (table_rows acts s (with_tm tm n))
  pub shared : t ≡ shared_after_rows (table_rows acts s (with_tm tm n)) s
  pub node : with_tm (after acts tm) m ≡ node_after_rows (table_rows acts s (with_tm tm n)) (with_tm tm n)
  pub table : with_tm (tm_of n) m ≡ m

-- these effects are those of some acts that can be told by them
abbrev pub MayApply : List Key → (tid : Id) → List Effect → Node → Type 0
MayApply before tid effects n = (tm : Tm) × (acts : List Act) × (effects_of acts tm.records ≡ effects) × AllTellable before tid acts tm.records n.durable.log

-- An event was told to the table: the lines of its rows were shown, and the node and what nodes share are those after them.
pub record AppliesEvent (e : Event) (s : Shared) (n : Node) (shown : List Line) (t : Shared) (m : Node) : Type 0 where
  pub shows : map line_of shown ≡ lines_of_rows (table_rows (row (tm_of n) e) s n)
  pub shared : t ≡ shared_after_rows (table_rows (row (tm_of n) e) s n) s
  pub node : m ≡ node_after_rows (table_rows (row (tm_of n) e) s n) n

-- Single effects.

-- a node whose branch is prepared
abbrev pub prepared_by : Branch → Node → Node
prepared_by b n = record n {
  durable = record n.durable { log = put_in (prepared_record b) n.durable.log; units = world.with_prepared (Prepares b) n.durable.units };
  volatile = record n.volatile { preparation = world.preparation_after (Prepares b) n.volatile.preparation };
}

-- the settlement of a branch so, at this moment
abbrev pub settlement_so : Key → Outcome → Option Reason → (moment : ℕ) → world.Settlement
settlement_so k outcome reason moment = record { tid = k.tid; serial = k.serial; outcome = outcome; reason = reason; moment = moment }

-- a node whose log has other slots
abbrev pub with_log : Slots → Node → Node
with_log ss n = record n { durable = record n.durable { log = ss } }

-- a node whose branch is settled, and its log
abbrev pub settled_logged : Option LogRecord → world.Settlement → Node → Node
settled_logged r s n = settled_by s (with_log (settled_in s.serial r n.durable.log) n)

-- What a row needs to be told.

-- the log of a node tells its table, which is within its limits, and a row's settlements have time
pub record CanTell (n : Node) : Type 0 where
  pub told : IsTold (tm_of n) n.durable.log
  pub within : TmWithin (tm_of n)
  pub time : HasTime 2048 n

-- an event was told to the table, and answered so behind what that showed
pub record TellsThen (e : Event) (answer : line.Line) (s : Shared) (n : Node) (shown : List Line) (t : Shared) (m : Node) : Type 0 where
  pub shows : map line_of shown ≡ lines_of_rows (table_rows (row (tm_of n) e) s n) ++ answer ∷ []
  pub shared : t ≡ shared_after_rows (table_rows (row (tm_of n) e) s n) s
  pub node : m ≡ node_after_rows (table_rows (row (tm_of n) e) s n) n

-- A boot.

-- A node comes up: its last settlement was shown, and each unit that is undone, and behind these the branches that it found prepared.
pub record Restarts (s : Shared) (n : Node) (shown : List Line) (m : Node) : Type 0 where
  pub shows : map line_of shown ≡ lines_of_rows (boot_rows s n) ++ prepared_lines n
  pub node : m ≡ world.acted world.ComesUp (node_after_rows (boot_rows s n) n)
