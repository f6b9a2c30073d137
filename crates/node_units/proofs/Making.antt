-- The settlement of a unit is made of a volume as the world settles its branch.
use Rattle.std.proofs.Common.{◌≡◌, ◌≢◌, ℕ, ◌+◌, ◌-◌, ◌≤◌, List, [], ◌∷◌, Bool, true, false, Option, Some, if◌then◌else◌, length, refl, sym, ◌∙◌, ap, subst, arith, inl, inr}
use Rattle.std.specs.Prelude.{IsSome, unwrap_or}
use Rattle.std.proofs.lemmas.Bool.{both_ways, or_parts}
use Rattle.file_base.specs.declared.head.Span.{Span}
use Rattle.vms_model.specs.Ids.{Id, IsId}
use Rattle.vms_model.specs.Transactions.{Outcome, Reason}
use Rattle.vms_base.specs.declared.ids.Serial.{Serial}
use Rattle.vms_base.specs.declared.ids.Tid.{Tid}
use Rattle.records_model.specs.History.{same_id}
use Rattle.journal_model.specs.Entries.{Entry, spelling}
use Rattle.journal_model.specs.Ring.{ring_size}
use Rattle.journal_format.proofs.Decoding.{total_is}
use Rattle.volume.specs.declared.catalog.Catalog.{Catalog}
use Rattle.volume.specs.State.{VolumeState}
use Rattle.volume_format.specs.declared.home.Ending.{Ending}
use Rattle.volume_format.specs.declared.home.Home.{Home}
use Rattle.unit_laws.specs.Journal.{ChangeEntry, Journal, JournalEntry, PreparedEntry, SettledEntry, end_of, entry_size, is_settled_in, is_settling}
use Rattle.unit_laws.specs.JournalLaws.{is_unit}
use Rattle.unit_laws.proofs.TrimLemmas.{found_onto, had_after, had_onto, settles_unit}
use Rattle.unit_table.specs.Places.{AreInOrder}
use Rattle.unit_table.specs.Units.{OpenUnit, earliest, unit_at}
use Rattle.unit_table.proofs.OrderLemmas.{at_below, gone_in_order}
use Rattle.rms_units.specs.unit_journal.Entries.{settled_entry}
use Rattle.rms_units.specs.unit_journal.Settling.{MakesSettlement, entry_if, span_with}
use Rattle.rms_units.proofs.unit_journal.EntryLemmas.{settled_is}
use Rattle.commit_protocol.specs.Table.{Branch}
use Rattle.commit_protocol.specs.World.{In}
use Rattle.commit_protocol.specs.Messages.{LogRecord}
use Rattle.commit_protocol.specs.Table.{Key, Settles, find, same_key}
use Rattle.commit_protocol.proofs.Lists.{find-key, same_key-true}
use Rattle.log_laws.specs.Slots.{Slots}
use Rattle.recovery_units.specs.run_model.World.{Node, Settlement, Tables, acted, settlement}
use Rattle.recovery_units.specs.world_laws.Nodes.{IsUp}
use Rattle.recovery_units.specs.world_laws.Running.{AreEntriesOf}
use Rattle.recovery_units.proofs.world_laws.FindLemmas.{some_is}
use Rattle.recovery_units.proofs.world_laws.IdLemmas.{each_at, id_itself}
use Rattle.recovery_units.proofs.world_laws.TableLemmas.{found_in}
use Rattle.undo_laws.specs.settlement_laws.Settled.{Makes, MaySettle}
use Rattle.recovery_units.specs.volume_model.Homes.{settlement_of}
use Rattle.rms_units.specs.Calls.{is_some_change}
use Rattle.rms_units.specs.State as rms
use Rattle.rms_units.proofs.RoomLemmas.{room_to_settle}
use Rattle.recovery_units.specs.State.{AreOfBranches, IsKept, IsOfBranch, IsUnitOf, UnitsState, is_change_by, positions_of, without_begun}
use Rattle.node_units.specs.Seen.{seen}
use Rattle.unit_table.proofs.BegunLemmas.{earliest_in, earliest_seen}
use Rattle.node_units.proofs.Branches.{Distinct, all_at, apart_at, serials, units_differ}
use Rattle.node_units.proofs.Ending.{serial_in}
use Rattle.node_units.proofs.Going.{begun_without, unit_seen}
use Rattle.node_units.proofs.Positions.{had_still}
use Rattle.node_units.proofs.Settling.{first_settled, may_settle}

-- A branch that is not settled is a unit where it changed something.

had_change : (x : Id) (p : ℕ) (es : List JournalEntry) → is_settled_in x es ≡ false → had_onto x false es ≡ is_some_change (positions_of x p es)
had_change x p [] off = refl
had_change x p (e ∷ es) off =
    let parts = or_parts (is_settling x e) (is_settled_in x es) off in
    one e (positions_of x (p + entry_size e) es) (had_still x es parts.1) (had_change x (p + entry_size e) es parts.1)
  where
    one : (e : JournalEntry) (ps : List ℕ) → had_onto x true es ≡ true → had_onto x false es ≡ is_some_change ps → had_onto x (had_after x e false) es ≡ is_some_change (if is_change_by x e then p ∷ ps else ps)
    one (ChangeEntry tid by file key before) ps still rest = go (same_id x by)
      where
        go : (b : Bool) → had_onto x (if b then true else false) es ≡ is_some_change (if b then p ∷ ps else ps)
        go true = still
        go false = rest
    one (PreparedEntry tid by) ps still rest = rest
    one (SettledEntry tid by outcome moment) ps still rest = go (same_id x by)
      where
        go : (b : Bool) → had_onto x (if b then false else false) es ≡ is_some_change ps
        go true = rest
        go false = rest

unit_changed : (x : Id) (j : Journal) → is_settled_in x j.entries ≡ false → is_unit x j ≡ is_some_change (positions_of x j.first j.entries)
unit_changed x j off = found_onto x j.entries [] ∙ had_change x j.first j.entries off

changed_some : (ps : List ℕ) → is_some_change ps ≡ true → ps ≢ []
changed_some [] is none = let never : ⊥ = cc in never
changed_some (p ∷ ps) is none = let never : ⊥ = cc in never

-- The unit of a branch is of it.

pub of_key : (k : Key) (us : List OpenUnit) (bs : List Branch) (u : OpenUnit) (b : Branch) → AreOfBranches us bs → Distinct (serials us) → In u us → u.serial ≡ k.serial → find k bs ≡ Some b → IsOfBranch u b
of_key k [] bs u b h d i own found = absurd i
of_key k (w ∷ us) [] u b h d i own found = absurd h
of_key k (w ∷ us) (c ∷ bs) u b h d i own found = go (same_key c.key k) refl found (of_key k us bs u b h.1 d.1)
  where
    go : (t : Bool) → same_key c.key k ≡ t → ◌≡◌ {A = Option Branch} (if t then Some c else find k bs) (Some b) → (In u us → u.serial ≡ k.serial → find k bs ≡ Some b → IsOfBranch u b) → IsOfBranch u b
    go true is e rest = elim i [
      | inl same ↦ subst (λ (x : OpenUnit). IsOfBranch x b) (sym same) (subst (IsOfBranch w) (some_is c b e) h.0)
      | inr more ↦
          let one : w.serial ≡ u.serial = sym h.0.serial ∙ ap (λ (x : Key). x.serial) (same_key-true c.key k is) ∙ sym own in
          absurd (both_ways _ (apart_at w.serial us u d.0 more) (subst (λ (x : Id). same_id w.serial x ≡ true) one (id_itself w.serial)))
    ]
    go false is e rest = elim i [
      | inl same ↦
          let among : In k.serial (serials us) = subst (λ (x : Key). In x.serial (serials us)) (find-key k bs b e) (serial_in us bs b h.1 (found_in k bs b e)) in
          let mine : k.serial ≡ w.serial = sym own ∙ ap (λ (x : OpenUnit). x.serial) same in
          absurd (both_ways _ (each_at (λ (y : Id). same_id w.serial y ≡ false) k.serial (serials us) d.0 among) (subst (λ (x : Id). same_id w.serial x ≡ true) (sym mine) (id_itself w.serial)))
      | inr more ↦ rest more own e
    ]

-- A unit at a place is that of a branch of a node that is up.
pub record Owns (place : ℕ) (u : OpenUnit) (s : rms.UnitsState) (log : Slots) (v : VolumeState) (n : Node) (k : Key) : Type 0 where
  pub there : unit_at s.units.places place ≡ Some u
  pub at : AreInOrder s.units.places s.units.order
  pub kept : IsKept (seen s log) v n
  pub up : IsUp n
  pub branch : Branch
  pub found : find k n.volatile.branches ≡ Some branch
  pub own : u.serial ≡ k.serial

module _ (place : ℕ) (u : OpenUnit) (s : rms.UnitsState) (log : Slots) (v : VolumeState) (n : Node) (k : Key) (o : Owns place u s log v n k) where
  mine : In u (seen s log).begun
  mine = unit_seen s log place u o.at o.there

  pub distinct : Distinct (serials (seen s log).begun)
  distinct = units_differ (seen s log).begun n o.kept.branches o.up

  pub of_branch : IsOfBranch u o.branch
  of_branch = of_key k (seen s log).begun n.volatile.branches u o.branch o.kept.branches distinct mine o.own o.found

  pub tid_is : u.tid ≡ k.tid
  tid_is = sym of_branch.tid ∙ ap (λ (y : Key). y.tid) (find-key k n.volatile.branches o.branch o.found)

  -- it knows where its changes begin
  pub is_unit_of : IsUnitOf n u
  is_unit_of = all_at (IsUnitOf n) (seen s log).begun u o.kept.each mine

  -- what the journal has of the branch
  pub entries_of : AreEntriesOf n.durable.units.entries o.branch
  entries_of = o.up.table.entries o.branch (found_in k n.volatile.branches o.branch o.found)

  pub unsettled : is_settled_in k.serial n.durable.units.entries ≡ false
  unsettled = subst (λ (y : Key). is_settled_in y.serial n.durable.units.entries ≡ false) (find-key k n.volatile.branches o.branch o.found) entries_of.unsettled

  pub changed : is_some_change u.positions ≡ is_unit k.serial n.durable.units
  changed = ap is_some_change is_unit_of.positions ∙ ap (λ (y : Id). is_some_change (positions_of y n.durable.units.first n.durable.units.entries)) o.own ∙ sym (unit_changed k.serial n.durable.units unsettled)

  pub room_now : rms.IsInOrder s v → is_unit k.serial n.durable.units ≡ true → v.catalog.ru.end - v.catalog.ru.first + 48 ≤ ring_size v.catalog.ru
  room_now order is = room_to_settle s.units.places place u (v.catalog.ru.end - v.catalog.ru.first) (ring_size v.catalog.ru) o.there (changed_some u.positions (changed ∙ is)) order.room

-- The node's table settles its branch so at this moment.
pub record Closes (place : ℕ) (u : OpenUnit) (s : rms.UnitsState) (log : Slots) (v : VolumeState) (n : Node) (k : Key) (outcome : Outcome) (reason : Reason) (r : Option LogRecord) (moment : ℕ) : Type 0 where
  pub owns : Owns place u s log v n k
  pub after : IsUp (acted (Tables (Settles k outcome reason r) moment) n)
  pub later : n.durable.greatest ≤ moment

module _ (place : ℕ) (u : OpenUnit) (s : rms.UnitsState) (log : Slots) (v : VolumeState) (n : Node) (k : Key) (outcome : Outcome) (reason : Reason) (r : Option LogRecord) (moment : ℕ) (x : Closes place u s log v n k outcome reason r moment) where
  abbrev pub c : Settlement
  c = settlement k outcome reason moment

  abbrev m : Node
  m = acted (Tables (Settles k outcome reason r) moment) n

  abbrev own : u.serial ≡ k.serial
  own = x.owns.own

  abbrev tid_own : u.tid ≡ k.tid
  tid_own = tid_is place u s log v n k x.owns

  abbrev changed_so : is_some_change u.positions ≡ is_unit k.serial n.durable.units
  changed_so = changed place u s log v n k x.owns

  pub settles : MaySettle n c
  settles = may_settle (seen s log) v n k outcome reason r moment x.owns.branch x.owns.kept x.owns.up x.owns.found x.later

  some_there : IsSome (unit_at s.units.places place)
  some_there = subst IsSome (sym x.owns.there) refl

  module _ (t : rms.UnitsState) (spent : t ≡ rms.without_place place u.serial s) where
    pub left_seen : seen t log ≡ without_begun k.serial (seen s log)
    left_seen = ap (λ (y : rms.UnitsState). seen y log) spent ∙ begun_without s log place u x.owns.at x.owns.there (distinct place u s log v n k x.owns) ∙ ap (λ (y : Id). without_begun y (seen s log)) own

    left_in_order : AreInOrder t.units.places t.units.order
    left_in_order = subst (λ (y : rms.UnitsState). AreInOrder y.units.places y.units.order) (sym spent)
        (gone_in_order s.units.places s.units.order x.owns.at place (let below = at_below s.units.places place some_there in let whole = x.owns.at.whole in omega (arith, below, whole)) some_there)

    earliest_left : earliest t.units.places ≡ earliest_in (without_begun k.serial (seen s log)).begun
    earliest_left = earliest_seen t.units.places t.units.order left_in_order ∙ ap (λ (y : UnitsState). earliest_in y.begun) left_seen

    module _ (old made : VolumeState) (tid : Tid) (serial : Serial) (ending : Ending) (order : rms.IsInOrder s v) (early : rms.IsEarly v) (ids : IsId u.tid × IsId u.serial) (bound : moment ≤ 24000001000066)
        (home : old.catalog.home ≡ v.catalog.home) (ru : old.catalog.ru ≡ v.catalog.ru) (told : c ≡ settlement_of moment (record { tid = tid; serial = serial; ending = ending }))
        (makes : MakesSettlement tid serial ending moment (entry_if (is_some_change u.positions) (settled_entry u.tid u.serial outcome moment)) t.units.places old made) where
      abbrev entry : Entry
      entry = settled_entry k.tid k.serial outcome moment

      abbrev unit : Bool
      unit = is_unit k.serial n.durable.units

      key_ids : IsId k.tid × IsId k.serial
      key_ids = (subst IsId tid_own ids.0, subst IsId own ids.1)

      made_so : MakesSettlement tid serial ending moment (entry_if unit entry) t.units.places old made
      made_so = subst (λ e. MakesSettlement tid serial ending moment e t.units.places old made) (λ i. entry_if (changed_so i) (settled_entry (tid_own i) (own i) outcome moment)) makes

      entry_long : length (spelling entry) ≡ 48
      entry_long = total_is entry (settled_is k.tid k.serial outcome moment key_ids.0 key_ids.1 (omega (arith, bound)))

      span_end : (b : Bool) (s : Span) → (span_with (entry_if b entry) s).end ≡ s.end + (if b then 48 else 0)
      span_end true s = ap (λ (j : ℕ). s.end + j) entry_long
      span_end false s = omega arith

      -- the journal ends behind the settlement's entry
      ends : (span_with (entry_if unit entry) old.catalog.ru).end ≡ end_of m.durable.units
      ends =
          span_end unit old.catalog.ru ∙ ap (λ (s : Span). s.end + (if unit then 48 else 0)) ru ∙ ap (λ (j : ℕ). j + (if unit then 48 else 0)) x.owns.kept.has.journal.end
          ∙ sym (settles_unit k.tid k.serial outcome moment n.durable.units).end

      begins : made.catalog.ru.first ≡ m.durable.units.first
      begins =
          ap (λ (y : Catalog). y.ru.first) made_so.catalog ∙ (λ i. unwrap_or (earliest_left i) (ends i))
          ∙ first_settled (seen s log) v n k outcome reason r moment x.owns.branch x.owns.kept x.owns.up x.owns.found x.later x.after

      few : (b : Bool) → (if b then 48 else 0) ≤ 48
      few true = omega arith
      few false = omega arith

      -- what is made of the volume is as the world has it
      pub makes_it : Makes n c tid serial ending t.units.places old made
      makes_it = record {
        settlement = told;
        makes = made_so;
        is_tid = key_ids.0;
        is_serial = key_ids.1;
        later = let same : old.catalog.home.greatest_moment.0 ≡ v.catalog.home.greatest_moment.0 = ap (λ (h : Home). h.greatest_moment.0) home in let was = x.owns.kept.has.home.greatest in let no_earlier = x.later in omega (arith, no_earlier, same, was);
        early = omega (arith, bound);
        room = λ is. subst (λ (s : Span). s.end - s.first + 48 ≤ ring_size s) (sym ru) (room_now place u s log v n k x.owns order is);
        first = begins;
        low =
            let end = ap (λ (y : Catalog). y.ru.end) made_so.catalog ∙ span_end unit old.catalog.ru ∙ ap (λ (s : Span). s.end + (if unit then 48 else 0)) ru in
            let less = few unit in let low = early.low in omega (arith, end, less, low);
      }
