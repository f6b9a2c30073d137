-- What is kept of a node that is up, behind a row of its table.
use Rattle.std.proofs.Common.{◌≡◌, ℕ, true, List, [], ◌∷◌, ◌++◌, Option, Some, None, Result, Ok, Err, inl, inr, refl, sym, subst, ◌∙◌}
use Rattle.net_wire.specs.commit_protocol.Table.{Act, Accepts, Acknowledges, Key, Leaves, Notes, Prepares, Prints, Releases, Sends, Settles, Tm, Undoes, after_act, branch_serials, record_serials, records_after, table_after}
use Rattle.net_wire.specs.commit_protocol.World as protocol
use Rattle.net_wire.specs.commit_protocol.World.{In}
use Rattle.emitter_model.proofs.commit_protocol.Lists.{in_left, in_parts, in_right}
use Rattle.emitter_model.proofs.commit_protocol.Serials.{act_apart, keyed, parts_apart, there_serial}
use Rattle.row_laws.specs.log_laws.Slots.{Slots, slots_after}
use Rattle.row_laws.specs.run_model.Answers.{Row, table_rows}
use Rattle.row_laws.specs.run_model.Steps.{node_after_rows}
use Rattle.row_laws.specs.run_model.World as world
use Rattle.row_laws.specs.run_model.World.{Node, Settlement, Tables, acted, next_moment, preparation_after, settlement_of, shared_after, tm_of, with_prepared, with_settlement}
use Rattle.row_laws.specs.Doing.{DoesRows}
use Rattle.row_laws.specs.May.{IsTold, MayDo, MayDoAll}
use Rattle.row_laws.proofs.MayLemmas.{told_after}
use Rattle.emitter_model.specs.Emitting.{Shown}
use Rattle.vms_model.specs.Ids.{Id}

-- the serials of a table's branches and committed records
abbrev pub serials_of : Tm → List Id
serials_of tm = branch_serials tm.table ++ record_serials tm.records

-- no act of a row brings a serial
pub serials_kept : (tid : Id) (a : Act) (tm : Tm) (ss : Slots) → IsTold tm ss → MayDo tid a tm ss → (i : Id) → In i (serials_of (after_act a tm)) → In i (serials_of tm)
serials_kept tid a tm ss h m i j =
    let x : protocol.Node = record { up = true; boot = 0; seq = 0; table = tm.table; records = tm.records; lost = []; last = None } in
    let p = act_apart x a (parts_apart (branch_serials tm.table) (record_serials tm.records) h.apart) (keyed tm.table a m.stands) in
    elim (in_parts i (branch_serials (table_after a tm.table)) (record_serials (records_after a tm.records)) j) [
      | inl k ↦ in_left i (branch_serials tm.table) (record_serials tm.records) (p.branches i k)
      | inr k ↦ elim (p.records i k) [
        | inl l ↦ in_left i (branch_serials tm.table) (record_serials tm.records) l
        | inr l ↦ in_right i (branch_serials tm.table) (record_serials tm.records) l
      ]
    ]

-- Of the node of the world.

-- a branch that is prepared is one of the table's
prepared_one : (tid : Id) (P : Id → Type 0) (a : Act) (tm : Tm) (ss : Slots) (ks : List Key) → MayDo tid a tm ss → ((i : Id) → In i (serials_of tm) → P i) → ((k : Key) → In k ks → P k.serial) → (k : Key) → In k (preparation_after a ks) → P k.serial
prepared_one tid P (Prepares b) tm ss ks m all old k i = elim (in_parts k ks (b.key ∷ []) i) [
  | inl j ↦ old k j
  | inr j ↦ elim j [
    | inl e ↦ subst (λ (z : Key). P z.serial) (sym e) (all b.key.serial (in_left b.key.serial (branch_serials tm.table) (record_serials tm.records) (there_serial b.key tm.table (m.stands.branch, m.stands.there))))
    | inr n ↦ absurd n
  ]
]
prepared_one tid P (Notes b) tm ss ks m all old j q = old j q
prepared_one tid P (Accepts b c) tm ss ks m all old j q = old j q
prepared_one tid P (Settles k o why r) tm ss ks m all old j q = old j q
prepared_one tid P (Leaves k) tm ss ks m all old j q = old j q
prepared_one tid P (Acknowledges k) tm ss ks m all old j q = old j q
prepared_one tid P (Releases i x) tm ss ks m all old j q = old j q
prepared_one tid P (Undoes k) tm ss ks m all old j q = old j q
prepared_one tid P (Sends x) tm ss ks m all old j q = old j q
prepared_one tid P (Prints l) tm ss ks m all old j q = old j q

pub prepared_all : (tid : Id) (P : Id → Type 0) (acts : List Act) (tm : Tm) (ss : Slots) (sw : world.Shared) (n : Node) → IsTold tm ss → MayDoAll tid acts tm ss → ((i : Id) → In i (serials_of tm) → P i) → ((k : Key) → In k n.volatile.preparation → P k.serial)
    → (k : Key) → In k (node_after_rows (table_rows acts sw n) n).volatile.preparation → P k.serial
prepared_all tid P [] tm ss sw n h m all old = old
prepared_all tid P (a ∷ acts) tm ss sw n h m all old =
    prepared_all tid P acts (after_act a tm) (slots_after a tm.records ss) (shared_after (Tables a (next_moment n)) sw) (acted (Tables a (next_moment n)) n) (told_after tid tm a ss h m.0) m.1 (λ i j. all i (serials_kept tid a tm ss h m.0 i j)) (prepared_one tid P a tm ss n.volatile.preparation m.0 all old)

-- no id is drawn, and the node and its boot are the same
boot_one : (a : Act) (moment : ℕ) (n : Node) → (acted (Tables a moment) n).durable.boot ≡ n.durable.boot
boot_one a moment n = go (settlement_of a moment)
  where
    go : (o : Option Settlement) → (with_settlement o (record n.durable { log = slots_after a n.volatile.records n.durable.log; units = with_prepared a n.durable.units })).boot ≡ n.durable.boot
    go None = refl
    go (Some s) = refl

pub boot_same : (acts : List Act) (sw : world.Shared) (n : Node) → (node_after_rows (table_rows acts sw n) n).durable.boot ≡ n.durable.boot
boot_same [] sw n = refl
boot_same (a ∷ acts) sw n = boot_same acts (shared_after (Tables a (next_moment n)) sw) (acted (Tables a (next_moment n)) n) ∙ boot_one a (next_moment n) n

pub name_same : (acts : List Act) (sw : world.Shared) (n : Node) → (node_after_rows (table_rows acts sw n) n).name ≡ n.name
name_same [] sw n = refl
name_same (a ∷ acts) sw n = name_same acts (shared_after (Tables a (next_moment n)) sw) (acted (Tables a (next_moment n)) n)

pub drawn_same : (acts : List Act) (sw : world.Shared) (n : Node) → (node_after_rows (table_rows acts sw n) n).volatile.drawn ≡ n.volatile.drawn
drawn_same [] sw n = refl
drawn_same (a ∷ acts) sw n = drawn_same acts (shared_after (Tables a (next_moment n)) sw) (acted (Tables a (next_moment n)) n)

pub declared_same : (acts : List Act) (sw : world.Shared) (n : Node) → (node_after_rows (table_rows acts sw n) n).volatile.declared ≡ n.volatile.declared
declared_same [] sw n = refl
declared_same (a ∷ acts) sw n = declared_same acts (shared_after (Tables a (next_moment n)) sw) (acted (Tables a (next_moment n)) n)

-- what stands behind rows that were done whole may be said otherwise
pub does_as : {T E : Type 0} (r : Result T E) (rs : List Row) (s : world.Shared) (n : Node) (a b : Shown) (shares : world.Shared → Type 0) (P Q falls : Node → Type 0) → (P (node_after_rows rs n) → Q (node_after_rows rs n)) → DoesRows r rs s n a b shares P falls → DoesRows r rs s n a b shares Q falls
does_as (Ok v) rs s n a b shares P Q falls f d = record { shows = d.shows; shared = d.shared; node = f d.node }
does_as (Err v) rs s n a b shares P Q falls f d = d
