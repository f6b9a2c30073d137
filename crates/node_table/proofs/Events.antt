-- An event is told to the table of a node.
use Rattle.std.proofs.Common.{◌≡◌, ◌≤◌, ◌<◌, ◌+◌, ◌*◌, ◌^◌, ℕ, true, false, List, [], ◌∷◌, ◌++◌, Option, Some, None, Result, Ok, Err, refl, ap, sym, subst, ◌∙◌, length, arith}
use Rattle.std.specs.Prelude.{OnErr, OnOk, ◌&&◌, nat_lt}
use Rattle.std.specs.List.{list_any}
use Rattle.std.proofs.lemmas.Bool.{and_parts, ltb-true}
use Rattle.careful_write.specs.declared.down.Down.{Down}
use Rattle.net_wire.specs.commit_protocol.Allowed.{allowed, has_room, is_prepared}
use Rattle.net_wire.specs.commit_protocol.Effects.{Effect, effects_of}
use Rattle.net_wire.specs.commit_protocol.Limits.{TmWithin}
use Rattle.net_wire.specs.commit_protocol.Messages.{Join, Message}
use Rattle.net_wire.specs.commit_protocol.Rows as rows
use Rattle.net_wire.specs.commit_protocol.Rows.{Event, blank, row}
use Rattle.net_wire.specs.commit_protocol.Standing.{BeginsNothing}
use Rattle.net_wire.specs.commit_protocol.Table.{Act, Active, Branch, Joining, Key, Notes, Sends, Tm, after, after_act, child, coordinator_of, home_of}
use Rattle.net_wire.specs.commit_protocol.World.{In}
use Rattle.emitter_model.proofs.commit_protocol.WithinRows.{keeps_limits}
use Rattle.row_laws.specs.log_laws.Slots.{Slots, branches_added}
use Rattle.row_laws.specs.run_model.Answers.{just, table_rows, told_rows}
use Rattle.row_laws.specs.run_model.Steps.{node_after_rows}
use Rattle.row_laws.specs.run_model.World as world
use Rattle.row_laws.specs.run_model.World.{Node, Tables, acted, next_moment, shared_after, tm_of}
use Rattle.run_shared.specs.Sharing.{IsShared, SharedState}
use Rattle.row_laws.specs.Doing.{DoesRows}
use Rattle.row_laws.specs.May.{IsOfMessage, MayDoAll}
use Rattle.row_laws.proofs.Composing.{does_more}
use Rattle.row_laws.proofs.MayLemmas.{may_row}
use Rattle.emitter_model.specs.Emitting.{Shown}
use Rattle.emitter_model.proofs.EmittingLemmas.{emits_nothing}
use Rattle.unit_table.specs.Units.{OpenUnit, new_unit}
use Rattle.vms_model.specs.Ids.{Id}
use Rattle.recovery_units.specs.volume_model.Volumes.{HasDisk}
use Rattle.recovery_units.specs.world_laws.Nodes as laws
use Rattle.recovery_units.specs.world_laws.Nodes.{AreUp}
use Rattle.recovery_units.specs.world_laws.Running.{IsDrawn}
use Rattle.recovery_units.specs.Laws.{KeepsNodes}
use Rattle.recovery_units.specs.State.{UnitsState, is_begun, with_begun}
use Rattle.recovery_units.specs.Uses.{Caused, DiskAdvances, down_of}
use Rattle.volume.specs.State.{VolumeState}
use Rattle.node_table.specs.Growing as growing
use Rattle.node_table.specs.Growing.{Stays, end_to_come, groups_left, moment_to_come}
use Rattle.node_table.specs.Running.{Grown, IsEarlyFor, IsFreshFor, IsFreshOf, IsNewFor, IsTold, KeepsUp, TellsRows}
use Rattle.node_table.specs.Standing.{Follows, HasDeclared, IsUp, Stored, StoredRepresents, Up, UpRepresents}
use Rattle.node_table.specs.Telling.{MayBegin, MayTellAll, TellsAll, begun_by, uses_disk}
use Rattle.node_table.proofs.Beginning.{Begins, follows_new, stands_new, unit_new, unit_room, with_unit}
use Rattle.node_table.proofs.Rows.{up_first}
use Rattle.node_table.proofs.Upping.{boot_same, declared_same, does_as, drawn_same, name_same, prepared_all, serials_of}

-- Where no branch begins.

pub quiet_may : (e : Event) (tid : Id) (r : Up) → IsUp r → allowed r.tm e ≡ true → BeginsNothing e → IsOfMessage tid e → MayTellAll (effects_of (row r.tm e) r.tm.records) tid (row r.tm e) r.tm r.stored
quiet_may e tid r up allows none of = record { follows = up.follows; may = may_row tid r.tm e r.stored.units.log up.follows.told up.within allows none of; gives = refl }

-- what is kept behind acts of a table, where this is the stored part before them
kept_up : {T : Type 0} (r : Result T Down) (e : Event) (es : List Effect) (tid : Id) (clock : ℕ) (mid : Stored) (acts : List Act) (tm : Tm) (old new : Up) (x y : SharedState) (a b : Shown) → es ≡ effects_of (row old.tm e) old.tm.records → MayTellAll es tid acts tm mid → mid.volume ≡ old.stored.volume
    → TmWithin (after acts tm) → new.tm ≡ after acts tm → new.drawn ≡ old.drawn → new.declared ≡ old.declared
    → moment_to_come mid ≤ moment_to_come old.stored + branches_added e → end_to_come mid ≤ end_to_come old.stored + branches_added e * 2 ^ 25
    → TellsAll old.declared r es tid clock mid new.stored x y a b → KeepsUp r e clock old new x y a b
kept_up {T} r e es tid clock mid acts tm old new x y a b of_row may same within is ids declared m n t = record {
  up = up r t.follows;
  goes = subst (λ (v : VolumeState). DiskAdvances v.store.disk new.stored.volume.store.disk) same t.stays.goes;
  cause = subst (λ (v : VolumeState). Caused (down_of r) v.store.disk new.stored.volume.store.disk) same t.stays.cause;
  pool = t.stays.pool ∙ ap (λ (v : VolumeState). v.store.pool) same;
  node = t.stays.node ∙ ap (λ (v : VolumeState). v.catalog.home.node) same;
  boot = boot_is;
  drawn = ids;
  declared = declared;
  grown = grown r t.stays.grown;
  since = t.since;
  work = t.work;
  uses = subst (λ z. OnErr r (list_any uses_disk z ≡ true)) of_row t.uses;
}
  where
    boot_is : new.stored.volume.catalog.home.boot ≡ old.stored.volume.catalog.home.boot
    boot_is = t.stays.boot ∙ ap (λ (v : VolumeState). v.catalog.home.boot) same

    up : (q : Result T Down) → OnOk q ((at : Tm) (acts' : List Act) → MayTellAll es tid acts' at mid → Follows (after acts' at) new.stored) → OnOk q (IsUp new)
    up (Err d) h = tt
    up (Ok v) h = record {
      follows = subst (λ z. Follows z new.stored) (sym is) (h tm acts may);
      within = subst TmWithin (sym is) within;
    }

    grown : (q : Result T Down) → OnOk q (growing.Grown clock mid new.stored) → OnOk q (Grown e clock old new)
    grown (Err d) h = tt
    grown (Ok v) h = (let p = h.moment in let q = h.end in record { moment = omega arith; end = omega arith })

-- what stands behind acts of it, in the world
stood_up : (clock : ℕ) (tid : Id) (es : List Effect) (mid : Stored) (acts : List Act) (tm : Tm) (old new : Up) (sw : world.Shared) (n : Node) → MayTellAll es tid acts tm mid → laws.IsUp n → tm_of n ≡ tm → new.tm ≡ after acts tm → new.drawn ≡ old.drawn → n.volatile.drawn ≡ old.drawn → new.declared ≡ old.declared → HasDeclared old.declared n
    → ((k : Key) → In k n.volatile.preparation → IsDrawn n.name n.durable.boot n.volatile.drawn k.serial)
    → StoredRepresents clock new.stored (after acts tm) (node_after_rows (table_rows acts sw n) n) → UpRepresents clock new (node_after_rows (table_rows acts sw n) n)
stood_up clock tid es mid acts tm old new sw n may up at is ids here declared has prep h =
    let m : Node = node_after_rows (table_rows acts sw n) n in
    record {
      stands = subst (λ z. StoredRepresents clock new.stored z m) (sym is) h;
      drawn = drawn_same acts sw n ∙ here ∙ sym ids;
      declared = declared_same acts sw n ∙ has ∙ sym declared;
      preparation = λ k j.
          let d : IsDrawn n.name n.durable.boot n.volatile.drawn k.serial = prepared_all tid (IsDrawn n.name n.durable.boot n.volatile.drawn) acts tm mid.units.log sw n may.follows.told may.may (λ i q. up.table.drawn i (subst (λ z. In i (serials_of z)) (sym at) q)) prep k j in
          subst (λ q. IsDrawn q m.durable.boot m.volatile.drawn k.serial) (sym (name_same acts sw n)) (subst (λ q. IsDrawn n.name q m.volatile.drawn k.serial) (sym (boot_same acts sw n)) (subst (λ q. IsDrawn n.name n.durable.boot q k.serial) (sym (drawn_same acts sw n)) d));
    }

pub quiet_keeps : {T : Type 0} (r : Result T Down) (e : Event) (tid : Id) (clock : ℕ) (old new : Up) (x y : SharedState) (a b : Shown) → IsUp old → allowed old.tm e ≡ true → BeginsNothing e → IsOfMessage tid e → new.tm ≡ after (row old.tm e) old.tm → new.drawn ≡ old.drawn → new.declared ≡ old.declared
    → TellsAll old.declared r (effects_of (row old.tm e) old.tm.records) tid clock old.stored new.stored x y a b → KeepsUp r e clock old new x y a b
quiet_keeps r e tid clock old new x y a b up allows none of is ids declared t =
    kept_up r e (effects_of (row old.tm e) old.tm.records) tid clock old.stored (row old.tm e) old.tm old new x y a b refl (quiet_may e tid old up allows none of) refl (keeps_limits old.tm e up.within allows) is ids declared (omega arith) (omega arith) t

pub quiet_rows : {T : Type 0} (r : Result T Down) (e : Event) (tid : Id) (clock : ℕ) (old new : Up) (x y : SharedState) (a b : Shown) → IsUp old → allowed old.tm e ≡ true → BeginsNothing e → IsOfMessage tid e → new.tm ≡ after (row old.tm e) old.tm → new.drawn ≡ old.drawn → new.declared ≡ old.declared
    → TellsAll old.declared r (effects_of (row old.tm e) old.tm.records) tid clock old.stored new.stored x y a b → TellsRows r e clock old new x y a b
quiet_rows r e tid clock old new x y a b up allows none of is ids declared t = λ sw n h fresh share ups.
    let z : tm_of n ≡ old.tm = h.stands.table in
    let may : MayTellAll (effects_of (row old.tm e) old.tm.records) tid (row (tm_of n) e) (tm_of n) old.stored = subst (λ q. MayTellAll (effects_of (row old.tm e) old.tm.records) tid (row q e) q old.stored) (sym z) (quiet_may e tid old up allows none of) in
    let stands : StoredRepresents clock old.stored (tm_of n) n = subst (λ q. StoredRepresents clock old.stored q n) (sym z) h.stands in
    let is' : new.tm ≡ after (row (tm_of n) e) (tm_of n) = is ∙ ap (λ q. after (row q e) q) (sym z) in
    does_as r (table_rows (row (tm_of n) e) sw n) sw n a b (IsShared y) (StoredRepresents clock new.stored (after (row (tm_of n) e) (tm_of n))) (UpRepresents clock new) (λ k. HasDisk k new.stored.volume.store.disk)
    (stood_up clock tid (effects_of (row old.tm e) old.tm.records) old.stored (row (tm_of n) e) (tm_of n) old new sw n may (up_first (table_rows (row (tm_of n) e) sw n) n ups) refl is' ids h.drawn declared h.declared h.preparation)
    (t.does (tm_of n) (row (tm_of n) e) sw n h.declared may stands share ups)

-- Where a branch begins.

begun_sums : (us : List OpenUnit) (tid serial : Id) → (length (us ++ new_unit tid serial ∷ []) ≡ length us + 1) × (groups_left (us ++ new_unit tid serial ∷ []) ≡ groups_left us + 2)
begun_sums [] tid serial = (refl, refl)
begun_sums (u ∷ us) tid serial = (let r = begun_sums us tid serial in (let p = r.0 in omega arith, let p = r.1 in omega arith))

module _ (e : Event) (b : Branch) (rest : List Act) (tid : Id) (old : Up) (row_is : (tm : Tm) → row tm e ≡ Notes b ∷ rest) (one : branches_added e ≡ 1) (up : IsUp old) (q : Begins b old.tm old.stored) where
  after_is : (tm : Tm) → after (row tm e) tm ≡ after rest (after_act (Notes b) tm)
  after_is tm = ap (λ acts. after acts tm) (row_is tm)

  effects_are : (tm : Tm) → effects_of (row tm e) tm.records ≡ effects_of rest tm.records
  effects_are tm = ap (λ acts. effects_of acts tm.records) (row_is tm)

  module _ (may : MayDoAll tid rest (after_act (Notes b) old.tm) old.stored.units.log) where
    pub begun_may : MayTellAll (effects_of (row old.tm e) old.tm.records) tid rest (after_act (Notes b) old.tm) (with_unit b old.stored)
    begun_may = record { follows = follows_new b old.tm old.stored q up.follows; may = may; gives = sym (effects_are old.tm) }

    pub begun_keeps : {T : Type 0} (r : Result T Down) (clock : ℕ) (new : Up) (x y : SharedState) (a c : Shown) → TmWithin (after (row old.tm e) old.tm) → new.tm ≡ after (row old.tm e) old.tm → new.drawn ≡ old.drawn → new.declared ≡ old.declared
        → TellsAll old.declared r (effects_of (row old.tm e) old.tm.records) tid clock (with_unit b old.stored) new.stored x y a c → KeepsUp r e clock old new x y a c
    begun_keeps r clock new x y a c within is ids declared t =
        let sums = begun_sums old.stored.units.begun b.key.tid b.key.serial in
        let s1 = sums.0 in
        let s2 = sums.1 in
        let is1 : 1 ≤ branches_added e = (let o : branches_added e ≡ 1 = one in omega arith) in
        kept_up r e (effects_of (row old.tm e) old.tm.records) tid clock (with_unit b old.stored) rest (after_act (Notes b) old.tm) old new x y a c refl begun_may refl (subst TmWithin (after_is old.tm) within) (is ∙ after_is old.tm) ids declared (omega arith) (omega arith) t

    pub begun_rows : (laws_hold : KeepsNodes) {T : Type 0} (r : Result T Down) (clock : ℕ) (new : Up) (x y : SharedState) (a c : Shown) → new.tm ≡ after (row old.tm e) old.tm → new.drawn ≡ old.drawn → new.declared ≡ old.declared
        → TellsAll old.declared r (effects_of (row old.tm e) old.tm.records) tid clock (with_unit b old.stored) new.stored x y a c
        → (sw : world.Shared) (n : Node) → UpRepresents clock old n → ((k : Key) → In k n.volatile.preparation → k.serial ≡ b.key.serial → ⊥) → IsShared x sw → AreUp (told_rows sw n (just e)) n
        → DoesRows r (told_rows sw n (just e)) sw n a c (IsShared y) (UpRepresents clock new) (λ k. HasDisk k new.stored.volume.store.disk)
    begun_rows laws_hold r clock new x y a c is ids declared t sw n h fresh share ups =
        let at : List Act = row (tm_of n) e in
        let ups' : AreUp (table_rows (Notes b ∷ rest) sw n) n = subst (λ acts. AreUp (table_rows acts sw n) n) (row_is (tm_of n)) ups in
        let m : Node = acted (Tables (Notes b) (next_moment n)) n in
        let first : laws.IsUp m = up_first (table_rows rest sw m) m ups'.1 in
        let stands : StoredRepresents clock (with_unit b old.stored) (after_act (Notes b) old.tm) m = stands_new laws_hold b clock old.tm old.stored n q up.follows h.stands fresh first in
        let d : DoesRows r (table_rows rest sw m) sw m a c (IsShared y) (StoredRepresents clock new.stored (after rest (after_act (Notes b) old.tm))) (λ k. HasDisk k new.stored.volume.store.disk) = t.does (after_act (Notes b) old.tm) rest sw m h.declared begun_may stands share ups'.1 in
        let d' : DoesRows r (table_rows rest sw m) sw m a c (IsShared y) (UpRepresents clock new) (λ k. HasDisk k new.stored.volume.store.disk) = does_as r (table_rows rest sw m) sw m a c (IsShared y) (StoredRepresents clock new.stored (after rest (after_act (Notes b) old.tm))) (UpRepresents clock new) (λ k. HasDisk k new.stored.volume.store.disk)
        (stood_up clock tid (effects_of (row old.tm e) old.tm.records) (with_unit b old.stored) rest (after_act (Notes b) old.tm) old new sw m begun_may first (ap (after_act (Notes b)) h.stands.table) (is ∙ after_is old.tm) ids h.drawn declared h.declared h.preparation) d in
        subst (λ acts. DoesRows r (table_rows acts sw n) sw n a c (IsShared y) (UpRepresents clock new) (λ k. HasDisk k new.stored.volume.store.disk)) (sym (row_is (tm_of n)))
        (does_more (IsShared y) (UpRepresents clock new) (λ k. HasDisk k new.stored.volume.store.disk) r (record { act = Some (Tables (Notes b) (next_moment n)); lines = [] }) (table_rows rest sw m) sw n a a c (emits_nothing a) d')

-- By the event.

-- a branch may begin
begins_by : (r : Up) (b : Branch) → IsUp r → (nat_lt (length r.tm.table) 64 && nat_lt (length r.tm.table + length r.tm.records) 512) ≡ true → IsFreshOf r b.key.serial → (is_prepared b.state ≡ false) × (b.changed ≡ false) → Begins b r.tm r.stored
begins_by r b up allows fresh open_one = record { new = fresh.new; room = fresh.room; few = ltb-true (length r.tm.table) 64 (and_parts (nat_lt (length r.tm.table) 64) _ allows).0; unprepared = open_one.0; unchanged = open_one.1 }

abbrev pub record_begun : Event → Stored → Stored
record_begun e s = record s { units = begun_by e s.units }

abbrev started : Id → Option ℕ → Branch
started t due = blank t t None Active due

abbrev joining : Id → Id → Id → Branch
joining t s bid = blank t s (Some bid) Joining None

-- what asks the coordinator
abbrev asks : Id → Id → Id → Message
asks t s bid = rows.message Join (home_of (child t s)) (coordinator_of (child t s)) (child t s) (Some bid)

may_ask : (tid t s bid : Id) (tm : Tm) (ss : Slots) → MayDoAll tid (Sends (asks t s bid) ∷ []) tm ss
may_ask tid t s bid tm ss = (record { stands = tt; slot = tt; lawful = (tt, tt); named = tt }, tt)

-- An event by which this branch begins, with these acts behind it.
record IsNewOf (e : Event) (b : Branch) (rest : List Act) : Type 0 where
  row_is : (tm : Tm) → row tm e ≡ Notes b ∷ rest
  one : branches_added e ≡ 1
  unit : (s : UnitsState) → begun_by e s ≡ with_begun b.key.tid b.key.serial s
  may_unit : (s : UnitsState) → (length s.begun < 64) × (is_begun b.key.serial s ≡ false) → MayBegin e s
  fresh : (r : Up) → IsFreshFor r e → IsFreshOf r b.key.serial
  news : (n : Node) → IsNewFor n e → (k : Key) → In k n.volatile.preparation → k.serial ≡ b.key.serial → ⊥
  room : (tm : Tm) → allowed tm e ≡ true → has_room tm ≡ true
  unprepared : is_prepared b.state ≡ false
  unchanged : b.changed ≡ false
  may_rest : (tid : Id) (tm : Tm) (ss : Slots) → MayDoAll tid rest tm ss

-- one by which none begins
record IsQuietOf (e : Event) : Type 0 where
  none : BeginsNothing e
  unit : (s : UnitsState) → begun_by e s ≡ s
  may_unit : (s : UnitsState) → MayBegin e s

data Kind (e : Event) : Type 0 where
  Quiet : IsQuietOf e → Kind e
  New : (b : Branch) → (rest : List Act) → IsNewOf e b rest → Kind e

kind_of : (e : Event) → IsTold e → Kind e
kind_of (rows.Start t due) h = New (started t due) [] (record { row_is = λ tm. refl; one = refl; unit = λ s. refl; may_unit = λ s m. m; fresh = λ r f. f; news = λ n f. f; room = λ tm a. a; unprepared = refl; unchanged = refl; may_rest = λ tid tm ss. tt })
kind_of (rows.Begin t s bid) h = New (joining t s bid) (Sends (asks t s bid) ∷ []) (record { row_is = λ tm. refl; one = refl; unit = λ u. refl; may_unit = λ u m. m; fresh = λ r f. f; news = λ n f. f; room = λ tm a. a; unprepared = refl; unchanged = refl; may_rest = λ tid tm ss. may_ask tid t s bid tm ss })
kind_of (rows.Changed s) h = absurd h
kind_of (rows.Authorise t bid) h = Quiet (record { none = tt; unit = λ s. refl; may_unit = λ s. tt })
kind_of (rows.JoinRm s x) h = Quiet (record { none = tt; unit = λ u. refl; may_unit = λ u. tt })
kind_of (rows.EndTrans t) h = Quiet (record { none = tt; unit = λ s. refl; may_unit = λ s. tt })
kind_of (rows.EndBranch s) h = Quiet (record { none = tt; unit = λ u. refl; may_unit = λ u. tt })
kind_of (rows.AbortBranch s why) h = Quiet (record { none = tt; unit = λ u. refl; may_unit = λ u. tt })
kind_of (rows.Replied s x r) h = Quiet (record { none = tt; unit = λ u. refl; may_unit = λ u. tt })
kind_of (rows.Got m) h = Quiet (record { none = tt; unit = λ s. refl; may_unit = λ s. tt })
kind_of (rows.Clock now) h = Quiet (record { none = tt; unit = λ s. refl; may_unit = λ s. tt })
kind_of (rows.LinkDown x) h = Quiet (record { none = tt; unit = λ s. refl; may_unit = λ s. tt })
kind_of rows.RunDown h = Quiet (record { none = tt; unit = λ s. refl; may_unit = λ s. tt })
kind_of (rows.InquireBranch s) h = Quiet (record { none = tt; unit = λ u. refl; may_unit = λ u. tt })

new_begins : (e : Event) (b : Branch) (rest : List Act) (k : IsNewOf e b rest) (r : Up) → IsUp r → allowed r.tm e ≡ true → IsFreshFor r e → Begins b r.tm r.stored
new_begins e b rest k r up allows fresh = begins_by r b up (k.room r.tm allows) (k.fresh r fresh) (k.unprepared, k.unchanged)

-- the unit of a branch that begins may begin
pub event_unit : (e : Event) (old : Up) → IsUp old → allowed old.tm e ≡ true → IsTold e → IsFreshFor old e → MayBegin e old.stored.units
event_unit e old up allows told fresh = go (kind_of e told)
  where
    go : Kind e → MayBegin e old.stored.units
    go (Quiet q) = q.may_unit old.stored.units
    go (New b rest k) = (let q = new_begins e b rest k old up allows fresh in k.may_unit old.stored.units (unit_room b old.tm old.stored q up.follows, unit_new b old.tm old.stored q up.follows))

module _ (e : Event) (tid : Id) (old : Up) (up : IsUp old) (allows : allowed old.tm e ≡ true) (told : IsTold e) (fresh : IsFreshFor old e) (of : IsOfMessage tid e) where
  -- its acts may be done
  pub event_may : (tm : Tm) × (acts : List Act) × MayTellAll (effects_of (row old.tm e) old.tm.records) tid acts tm (record_begun e old.stored)
  event_may = go (kind_of e told)
    where
      go : Kind e → (tm : Tm) × (acts : List Act) × MayTellAll (effects_of (row old.tm e) old.tm.records) tid acts tm (record_begun e old.stored)
      go (Quiet q) = (old.tm, row old.tm e, subst (λ u. MayTellAll (effects_of (row old.tm e) old.tm.records) tid (row old.tm e) old.tm (record old.stored { units = u })) (sym (q.unit old.stored.units)) (quiet_may e tid old up allows q.none of))
      go (New b rest k) =
          let q = new_begins e b rest k old up allows fresh in (
            after_act (Notes b) old.tm,
            rest,
            subst (λ u. MayTellAll (effects_of (row old.tm e) old.tm.records) tid rest (after_act (Notes b) old.tm) (record old.stored { units = u })) (sym (k.unit old.stored.units))
                (begun_may e b rest tid old k.row_is k.one up q (k.may_rest tid (after_act (Notes b) old.tm) old.stored.units.log)),
          )

  module _ {T : Type 0} (r : Result T Down) (clock : ℕ) (new : Up) (x y : SharedState) (a b : Shown) (is : new.tm ≡ after (row old.tm e) old.tm) (ids : new.drawn ≡ old.drawn) (declared : new.declared ≡ old.declared)
      (t : TellsAll old.declared r (effects_of (row old.tm e) old.tm.records) tid clock (record_begun e old.stored) new.stored x y a b) where
    as_units : (u : UnitsState) → begun_by e old.stored.units ≡ u → TellsAll old.declared r (effects_of (row old.tm e) old.tm.records) tid clock (record old.stored { units = u }) new.stored x y a b
    as_units u q = subst (λ z. TellsAll old.declared r (effects_of (row old.tm e) old.tm.records) tid clock (record old.stored { units = z }) new.stored x y a b) q t

    -- what is kept in order
    pub event_keeps : KeepsUp r e clock old new x y a b
    event_keeps = go (kind_of e told)
      where
        go : Kind e → KeepsUp r e clock old new x y a b
        go (Quiet q) = quiet_keeps r e tid clock old new x y a b up allows q.none of is ids declared (as_units old.stored.units (q.unit old.stored.units))
        go (New c rest k) = begun_keeps e c rest tid old k.row_is k.one up (new_begins e c rest k old up allows fresh) (k.may_rest tid (after_act (Notes c) old.tm) old.stored.units.log) r clock new x y a b
            (keeps_limits old.tm e up.within allows) is ids declared (as_units (with_begun c.key.tid c.key.serial old.stored.units) (k.unit old.stored.units))

    -- and what it comes to in the world
    pub event_rows : KeepsNodes → TellsRows r e clock old new x y a b
    event_rows laws_hold = go (kind_of e told)
      where
        go : Kind e → TellsRows r e clock old new x y a b
        go (Quiet q) = quiet_rows r e tid clock old new x y a b up allows q.none of is ids declared (as_units old.stored.units (q.unit old.stored.units))
        go (New c rest k) = λ sw n h news share ups. begun_rows e c rest tid old k.row_is k.one up (new_begins e c rest k old up allows fresh) (k.may_rest tid (after_act (Notes c) old.tm) old.stored.units.log) laws_hold r clock new x y a b is ids declared
            (as_units (with_begun c.key.tid c.key.serial old.stored.units) (k.unit old.stored.units)) sw n h (k.news n news) share ups

  -- numbers are early for the acts, too
  pub event_early : IsEarlyFor e old → growing.IsEarlyFor (record_begun e old.stored)
  event_early early = go (kind_of e told)
    where
      go : Kind e → growing.IsEarlyFor (record_begun e old.stored)
      go (Quiet q) = subst (λ u. growing.IsEarlyFor (record old.stored { units = u })) (sym (q.unit old.stored.units)) (let m = early.moment in let l = early.low in record { moment = omega arith; low = omega arith })
      go (New b rest k) = subst (λ u. growing.IsEarlyFor (record old.stored { units = u })) (sym (k.unit old.stored.units)) (
          let m = early.moment in
          let l = early.low in
          let one = k.one in
          let sums = begun_sums old.stored.units.begun b.key.tid b.key.serial in
          let s1 = sums.0 in
          let s2 = sums.1 in
          record { moment = omega arith; low = omega arith })

-- The same, of what the code has.

pub told_may : (e : Event) (tid : Id) (old : Up) → IsUp old → allowed old.tm e ≡ true → IsTold e → IsFreshFor old e → IsOfMessage tid e → (es : List Effect) (mid : Stored) → es ≡ effects_of (row old.tm e) old.tm.records → mid ≡ record_begun e old.stored → (tm : Tm) × (acts : List Act) × MayTellAll es tid acts tm mid
told_may e tid old up allows told fresh of es mid q r =
    let w = event_may e tid old up allows told fresh of in
    (w.0, w.1, subst (λ z. MayTellAll es tid w.1 w.0 z) (sym r) (subst (λ z. MayTellAll z tid w.1 w.0 (record_begun e old.stored)) (sym q) w.2))

pub told_early : (e : Event) (tid : Id) (old : Up) → IsUp old → allowed old.tm e ≡ true → IsTold e → IsFreshFor old e → IsOfMessage tid e → IsEarlyFor e old → (mid : Stored) → mid ≡ record_begun e old.stored → growing.IsEarlyFor mid
told_early e tid old up allows told fresh of early mid r = subst growing.IsEarlyFor (sym r) (event_early e tid old up allows told fresh of early)

pub told_as : {T : Type 0} (e : Event) (tid : Id) (old new : Up) (r : Result T Down) (clock : ℕ) (x y : SharedState) (a b : Shown) (es : List Effect) (mid : Stored) → es ≡ effects_of (row old.tm e) old.tm.records → mid ≡ record_begun e old.stored → TellsAll old.declared r es tid clock mid new.stored x y a b
    → TellsAll old.declared r (effects_of (row old.tm e) old.tm.records) tid clock (record_begun e old.stored) new.stored x y a b
told_as e tid old new r clock x y a b es mid q s t = subst (λ z. TellsAll old.declared r (effects_of (row old.tm e) old.tm.records) tid clock z new.stored x y a b) s (subst (λ z. TellsAll old.declared r z tid clock mid new.stored x y a b) q t)
