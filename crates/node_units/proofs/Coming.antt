-- A restart leaves the units of a node as the world has them.
use Rattle.std.proofs.Common.{inl, inr, ◌≡◌, ℕ, suc, ◌+◌, ◌-◌, ◌<◌, ◌≤◌, ◌==◌, List, [], ◌∷◌, ◌++◌, Bool, true, false, Option, Some, None, if◌then◌else◌, length, map, slice_index_or, refl, sym, ◌∙◌, ap, subst, arith}
use Rattle.std.specs.Prelude.{is_some}
use Rattle.std.specs.Option.{IfSome}
use Rattle.std.specs.List.{AllByRecursion}
use Rattle.std.proofs.lemmas.Bool.{both_ways}
use Rattle.std.proofs.lemmas.List.{length-append}
use Rattle.vms_model.specs.Ids.{Id}
use Rattle.records_model.specs.History.{same_id}
use Rattle.commit_protocol.specs.Agreement.{Distinct}
use Rattle.commit_protocol.specs.Messages.{LogRecord}
use Rattle.commit_protocol.specs.Table.{record_serials}
use Rattle.commit_protocol.specs.World.{In}
use Rattle.commit_protocol.proofs.Lists.{in_left, in_right}
use Rattle.commit_protocol.proofs.Serials.{in_serial, serial_in as record_of_serial}
use Rattle.file_base.specs.declared.head.FileHead.{FileHead}
use Rattle.journal_model.specs.Entries.{Entry}
use Rattle.journal_model.specs.Ring.{IsJournal}
use Rattle.lmcp_log.specs.Log.{with_few_prepared}
use Rattle.lmcp_log.proofs.Few.{few_same}
use Rattle.log_laws.specs.Slots.{Slots, prepared_of, records_in}
use Rattle.unit_world.specs.directory_model.Files.{file_at}
use Rattle.record_locks.specs.Locks as table
use Rattle.ru_journal.specs.Told.{UnitTold}
use Rattle.volume.specs.State.{VolumeState}
use Rattle.rms_units.specs.unit_aborts.Reopening.{AreFound, AreFoundIn, left_after}
use Rattle.recovery_units.specs.unit_entries.Opening.{AreAlike, AreFiledIn}
use Rattle.recovery_units.specs.unit_entries.Collecting.{AreChangesAt}
use Rattle.recovery_units.specs.unit_entries.Reading as entries
use Rattle.recovery_units.specs.unit_entries.Reading.{placed}
use Rattle.recovery_units.specs.unit_entries.Voting.{votes_in}
use Rattle.undo_laws.proofs.unit_entries.OpenLemmas.{first_holds}
use Rattle.unit_laws.specs.Journal.{ChangeEntry, JournalEntry, PreparedEntry, RecoveryUnit, SettledEntry, active_units, entry_size, find_unit, is_settled_in, serial_in, units_in, Journal}
use Rattle.unit_laws.specs.JournalLaws.{is_unit}
use Rattle.rms_units.specs.unit_restarts.Restarting.{RestartTold, Restarts}
use Rattle.rms_units.specs.unit_returns.Returning as returning
use Rattle.rms_units.specs.unit_returns.Returning.{AreAllChangesAt, AreOfRecords, HaveChanges, HoldChanges}
use Rattle.rms_units.specs.unit_returns.Locking.{relocked_by as held_by_entries}
use Rattle.unit_table.specs.Units.{OpenUnit, Units, begun, first_that, is_of, no_files}
use Rattle.undo_laws.proofs.EnteredLemmas.{entries_stand}
use Rattle.unit_world.proofs.Found.{unchanged_at}
use Rattle.recovery_units.specs.run_model.Answers.{left_active}
use Rattle.recovery_units.specs.run_model.Locks as world
use Rattle.recovery_units.specs.run_model.World.{IsOfTransaction, Node, Volatile, prepared_left, prepared_serials, records_by, relocked, relocked_by, tid_in, without_units}
use Rattle.lmcp_log.specs.tm_types.Parts.{log_record_of}
use Rattle.recovery_units.specs.volume_model.Entries.{AreEntries, entry_for}
use Rattle.recovery_units.specs.volume_model.Volumes.{HasVolume}
use Rattle.unit_world.proofs.volume_laws.WholeLemmas.{volume_rests}
use Rattle.unit_world.specs.restart_laws.Falls.{AllPrepared}
use Rattle.recovery_units.proofs.world_laws.BootLemmas.{left_reordered}
use Rattle.recovery_units.proofs.world_laws.Counting.{no_more}
use Rattle.recovery_units.proofs.world_laws.IdLemmas.{id_is}
use Rattle.recovery_units.proofs.world_laws.LogLemmas.{prepared_differ}
use Rattle.recovery_units.proofs.world_laws.RoomLemmas.{unit_serials, units_length}
use Rattle.recovery_units.proofs.world_laws.UndoLemmas.{each_in}
use Rattle.recovery_units.specs.Calls.{IsRestarting, ReopensTo, after_undone, told_in}
use Rattle.recovery_units.specs.State.{AreLocks, AreOfBranches, IsEarly, IsKept, IsUnitOf, changed_at, is_change_by, positions_of}
use Rattle.recovery_units.specs.Told.{ReopenedTold}
use Rattle.rms_units.specs.State as rms
use Rattle.node_units.specs.Seen.{seen}
use Rattle.node_units.specs.Told.{unit_settled}
use Rattle.node_units.proofs.Alike.{positions_alike}
use Rattle.node_units.proofs.Beginning.{of_records}
use Rattle.node_units.proofs.Holding.{once_of}
use Rattle.node_units.proofs.Locking.{AreOnce, many_alike}
use Rattle.node_units.proofs.Reopening.{Carries, IsDone, active, reopened, settled_all, undone_many, us}
use Rattle.node_units.proofs.NotedFiles.{entries_by, files_say, no_bits, quiet}
use Rattle.node_units.proofs.Returned.{locks_by}
use Rattle.node_units.proofs.Telling.{unit_shown}
use Rattle.node_units.proofs.Undoing.{AreWhere, Stage, active_none}

-- Records and units of a log that is in order are few.

abbrev pub waiting_units : List RecoveryUnit → List RecoveryUnit
waiting_units [] = []
waiting_units (u ∷ us) = if u.prepared then u ∷ waiting_units us else waiting_units us

all_counted : (us : List RecoveryUnit) → length (active_units us) + length (waiting_units us) ≡ length us
all_counted [] = refl
all_counted (u ∷ us) = go u.prepared (all_counted us)
  where
    go : (b : Bool) → length (active_units us) + length (waiting_units us) ≡ length us → length (if b then active_units us else u ∷ active_units us) + length (if b then u ∷ waiting_units us else waiting_units us) ≡ suc (length us)
    go true rest = omega (arith, rest)
    go false rest = omega (arith, rest)

one_unit : (u w : RecoveryUnit) → ◌≡◌ {A = Option RecoveryUnit} (Some u) (Some w) → u ≡ w
one_unit u w e = cc

waiting_there : (x : Id) (us : List RecoveryUnit) (u : RecoveryUnit) → find_unit x us ≡ Some u → u.prepared ≡ true → In x (unit_serials (waiting_units us))
waiting_there x [] u at is = let never : ⊥ = cc in absurd never
waiting_there x (w ∷ us) u at is = go (same_id x w.serial) refl w.prepared refl at (λ later. waiting_there x us u later is)
  where
    go : (b : Bool) → same_id x w.serial ≡ b → (c : Bool) → w.prepared ≡ c → (if b then Some w else find_unit x us) ≡ Some u → (find_unit x us ≡ Some u → In x (unit_serials (waiting_units us))) → In x (unit_serials (if c then w ∷ waiting_units us else waiting_units us))
    go true own true ready at rest = inl (id_is x w.serial own)
    go true own false not_ready at rest = absurd (both_ways w.prepared not_ready (ap (λ (y : RecoveryUnit). y.prepared) (one_unit w u at) ∙ is))
    go false other true ready at rest = inr (rest at)
    go false other false not_ready at rest = rest at

serials_long : (rs : List LogRecord) → length (record_serials rs) ≡ length rs
serials_long [] = refl
serials_long (r ∷ rs) = ap suc (serials_long rs)

without_there : (j : Journal) (rs : List LogRecord) (r : LogRecord) → In r rs → is_unit r.serial j ≡ false → In r (without_units j rs)
without_there j [] r i none = i
without_there j (q ∷ rs) r i none = go (is_unit q.serial j) refl i (λ k. without_there j rs r k none)
  where
    go : (b : Bool) → is_unit q.serial j ≡ b → In r (q ∷ rs) → (In r rs → In r (without_units j rs)) → In r (if b then without_units j rs else q ∷ without_units j rs)
    go true t k more = elim k [ inl s ↦ absurd (both_ways _ none (subst (λ (z : LogRecord). is_unit z.serial j ≡ true) (sym s) t)) | inr z ↦ more z ]
    go false t k more = elim k [ inl s ↦ inl s | inr z ↦ inr (more z) ]

module _ (n : Node) (r : VolumeState) (restarting : IsRestarting r n) where
  abbrev ps : List LogRecord
  ps = prepared_of (records_in n.durable.log)

  pub few_together : length (left_active n) + length ps ≤ 64
  few_together =
      let units = units_in n.durable.units.entries in
      let rest = without_units n.durable.units ps in
      let most = no_more (record_serials ps) (unit_serials (waiting_units units) ++ record_serials rest) (prepared_differ (records_in n.durable.log) restarting.disk.log.distinct) known in
      let a = serials_long ps in
      let b = length-append (unit_serials (waiting_units units)) (record_serials rest) in
      let c = units_length (waiting_units units) in
      let e = serials_long rest in
      let all = all_counted units in
      let limit = restarting.disk.log.few in
      omega (arith, most, a, b, c, e, all, limit)
    where
      known : (x : Id) → In x (record_serials ps) → In x (unit_serials (waiting_units (units_in n.durable.units.entries)) ++ record_serials (without_units n.durable.units ps))
      known x i =
          let s = record_of_serial x ps i in
          subst (λ z. In z (unit_serials (waiting_units (units_in n.durable.units.entries)) ++ record_serials (without_units n.durable.units ps))) s.2 (go s.0 s.1 (find_unit (s.0).serial (units_in n.durable.units.entries)) refl)
        where
          go : (q : LogRecord) → In q ps → (o : Option RecoveryUnit) → find_unit q.serial (units_in n.durable.units.entries) ≡ o → In q.serial (unit_serials (waiting_units (units_in n.durable.units.entries)) ++ record_serials (without_units n.durable.units ps))
          go q j (Some u) at = in_left q.serial (unit_serials (waiting_units (units_in n.durable.units.entries))) (record_serials (without_units n.durable.units ps)) (waiting_there q.serial (units_in n.durable.units.entries) u at (restarting.disk.log.active q u j at).0)
          go q j None at = in_right q.serial (unit_serials (waiting_units (units_in n.durable.units.entries))) (record_serials (without_units n.durable.units ps)) (in_serial q (without_units n.durable.units ps) (without_there n.durable.units ps q j (ap is_some at)))

-- The order of the branches.

votes_alike : (heads : List (Option FileHead)) (es : List JournalEntry) (ds : List Entry) → AreEntries heads es ds → votes_in ds ≡ prepared_serials es
votes_alike heads [] [] are = refl
votes_alike heads [] (d ∷ ds) are = absurd are
votes_alike heads (e ∷ es) [] are = absurd are
votes_alike heads (e ∷ es) (d ∷ ds) are = ap (λ (x : Entry). if x.kind == 2 then x.serial ∷ votes_in ds else votes_in ds) are.2 ∙ one e (votes_alike heads es ds are.3)
  where
    one : (e : JournalEntry) → votes_in ds ≡ prepared_serials es → (let x = entry_for are.0 e in if x.kind == 2 then x.serial ∷ votes_in ds else votes_in ds) ≡ prepared_serials (e ∷ es)
    one (ChangeEntry tid by file key before) rest = rest
    one (PreparedEntry tid by) rest = ap (λ (xs : List Id). by ∷ xs) rest
    one (SettledEntry tid by outcome moment) rest = rest

-- A branch without a unit has no changes.

quiet_positions : (x : Id) (p : ℕ) (es : List JournalEntry) → AllByRecursion (λ (e : JournalEntry). is_change_by x e ≡ false) es → positions_of x p es ≡ []
quiet_positions x p [] none = refl
quiet_positions x p (e ∷ es) none = ap (λ (b : Bool). if b then p ∷ positions_of x (p + entry_size e) es else positions_of x (p + entry_size e) es) none.0 ∙ quiet_positions x (p + entry_size e) es none.1

-- The units that the journal leaves.

first_is : (Q : OpenUnit → Bool) (ws : List OpenUnit) (w : OpenUnit) → first_that Q ws ≡ Some w → Q w ≡ true
first_is Q [] w is = let never : ⊥ = cc in absurd never
first_is Q (v ∷ ws) w is = go (Q v) refl is (first_is Q ws w)
  where
    one : ◌≡◌ {A = Option OpenUnit} (Some v) (Some w) → v ≡ w
    one e = cc

    go : (b : Bool) → Q v ≡ b → (if b then Some v else first_that Q ws) ≡ Some w → (first_that Q ws ≡ Some w → Q w ≡ true) → Q w ≡ true
    go true here is rest = subst (λ (y : OpenUnit). Q y ≡ true) (one is) here
    go false there is rest = rest is

none_alike : (x : Id) (us : List UnitTold) (ws : List OpenUnit) → AreAlike us ws → first_that (is_of x) ws ≡ None → find_unit x (map unit_shown us) ≡ None
none_alike x [] [] alike none = refl
none_alike x [] (w ∷ ws) alike none = absurd alike
none_alike x (u ∷ us) [] alike none = absurd alike
none_alike x (u ∷ us) (w ∷ ws) alike none = go (same_id x w.serial) refl none (none_alike x us ws alike.1)
  where
    go : (b : Bool) → same_id x w.serial ≡ b → (if b then Some w else first_that (is_of x) ws) ≡ None → (first_that (is_of x) ws ≡ None → find_unit x (map unit_shown us) ≡ None) → (if same_id x u.serial then Some (unit_shown u) else find_unit x (map unit_shown us)) ≡ None
    go true own is rest = let never : ⊥ = cc in absurd never
    go false other is rest = ap (λ (b : Bool). if b then Some (unit_shown u) else find_unit x (map unit_shown us)) (ap (same_id x) (sym alike.0.serial) ∙ other) ∙ rest is

all_prepared : (us : List UnitTold) (x : Id) (u : RecoveryUnit) → AllByRecursion (λ (t : UnitTold). t.prepared ≡ true) us → find_unit x (map unit_shown us) ≡ Some u → u.prepared ≡ true
all_prepared [] x u all at = let never : ⊥ = cc in absurd never
all_prepared (t ∷ us) x u all at = go (same_id x t.serial) at (λ later. all_prepared us x u all.1 later)
  where
    go : (b : Bool) → (if b then Some (unit_shown t) else find_unit x (map unit_shown us)) ≡ Some u → (find_unit x (map unit_shown us) ≡ Some u → u.prepared ≡ true) → u.prepared ≡ true
    go true is rest = ap (λ (y : RecoveryUnit). y.prepared) (sym (one_unit (unit_shown t) u is)) ∙ all.0
    go false is rest = rest is

-- Behind the undone units.
module _ (clock : ℕ) (v w : VolumeState) (n : Node) (r : IsRestarting v n) (sized : IfSome v.store.current (λ c. length c + 518 ≡ v.store.disk.size)) (same : n.clock ≡ clock) (before : clock < 24000001000066) (order : rms.IsInOrder rms.nothing_begun v) (early : IsEarly v)
    (found log : Slots) (units : Units) (held : List table.Lock) (told : RestartTold) (restarts : Restarts clock v found log units held w told) (loaded : found ≡ n.durable.log) (log_is : log ≡ with_few_prepared (64 - length told.undone) found) (size : w.store.disk.size ≡ v.store.disk.size) where
  d : IsDone clock v n r sized same before order early w told.undone restarts.left
  d = reopened clock v n r sized same before order early w told.undone restarts.left restarts.reopens

  abbrev many : ℕ
  many = length (active_units (map unit_shown (us clock v n r sized same before order early)))

  abbrev waiting : List UnitTold
  waiting = left_after many (us clock v n r sized same before order early)

  abbrev last : Node
  last = after_undone many n (active_units (map unit_shown (us clock v n r sized same before order early)))

  at : Stage clock (24000001000066 + many) v.store.disk.size n waiting w last
  at = d.done.stage

  -- the log is as it was
  few_found : length told.undone + length (prepared_of (records_in found)) ≤ 64
  few_found =
      let undone = undone_many clock v n r sized same before order early w told.undone restarts.left d in
      let all = few_together n v r in
      let is = ap (λ (ss : Slots). length (prepared_of (records_in ss))) loaded in
      omega (arith, undone, all, is)

  log_stays : log ≡ n.durable.log
  log_stays = log_is ∙ few_same (64 - length told.undone) found (let few = few_found in omega (arith, few)) ∙ loaded

  -- the records in the order in which their branches were prepared
  pub prepared_told : map log_record_of told.prepared ≡ prepared_left n.durable
  prepared_told =
      subst (λ o. IfSome o (λ c. (es : List Entry) → IsJournal c v.catalog.ru es → map log_record_of told.prepared ≡ records_by (votes_in es) (prepared_of (records_in log)))) r.told (restarts.ordered few_found) r.leaves.journal.entries r.leaves.journal.is
      ∙ (λ i. records_by (votes_alike v.catalog.heads n.durable.units.entries r.leaves.journal.entries r.leaves.journal.alike i) (prepared_of (records_in (log_stays i))))

  records : AreOfRecords (prepared_left n.durable) (begun units)
  records = subst (λ (rs : List LogRecord). AreOfRecords rs (begun units)) prepared_told restarts.records

  changes : HaveChanges restarts.left (begun units)
  changes = restarts.changes (subst (λ (rs : List LogRecord). Distinct (record_serials rs)) (sym prepared_told) (left_reordered n.durable r.disk.log.distinct).differ)

  -- The volume is the node's.

  waits : AllByRecursion (λ (t : UnitTold). t.prepared ≡ true) waiting
  waits = (active_none waiting d.none).1

  prepared_all : AllPrepared last.durable.units
  prepared_all x u is = all_prepared waiting x u waits (ap (find_unit x) at.units.units ∙ is)

  has : HasVolume at.content w.catalog last
  has = volume_rests at.content w.catalog last at.leaves prepared_all

  once : AreOnce w.catalog.heads
  once = once_of last.name last.blocks w.catalog at.sound at.long

  abbrev es : List JournalEntry
  es = last.durable.units.entries

  abbrev ds : List Entry
  ds = has.journal.entries

  -- Where changes begin.

  abbrev first_where : Id → List ℕ
  first_where x = positions_of x n.durable.units.first n.durable.units.entries

  abbrev here : Id → List ℕ
  here x = positions_of x last.durable.units.first es

  found_where : (x : Id) (ps : List ℕ) → AreFound x v ps → ps ≡ first_where x
  found_where x ps is =
      let j = r.leaves.journal in
      subst (λ o. IfSome o (λ c. (es : List Entry) → IsJournal c v.catalog.ru es → ps ≡ entries.positions_of x (placed v.catalog.ru.first es))) r.told is j.entries j.is
      ∙ positions_alike v.catalog.heads x v.catalog.ru.first n.durable.units.entries j.entries j.alike j.is.each
      ∙ ap (λ (p : ℕ). positions_of x p n.durable.units.entries) j.first

  left_where : (ts : List UnitTold) (ws : List OpenUnit) → AreAlike ts ws → AreFoundIn v ws → AreWhere first_where last ts → AllByRecursion (λ (u : OpenUnit). u.positions ≡ here u.serial) ws
  left_where [] [] alike is at = tt
  left_where [] (u ∷ ws) alike is at = absurd alike
  left_where (t ∷ ts) [] alike is at = absurd alike
  left_where (t ∷ ts) (u ∷ ws) alike is at = (
    found_where u.serial u.positions is.0 ∙ ap first_where alike.0.serial ∙ at.0 ∙ ap here (sym alike.0.serial),
    left_where ts ws alike.1 is.1 at.1,
  )

  each_left : AllByRecursion (λ (u : OpenUnit). u.positions ≡ here u.serial) restarts.left
  each_left = left_where waiting restarts.left d.are.alike d.are.found d.done.places

  -- the files that they changed
  left_says : (ts : List UnitTold) (ws : List OpenUnit) → AreAlike ts ws → AreFoundIn v ws → AreFiledIn v ws → AllByRecursion (Carries n last) ts →
      AllByRecursion (λ (u : OpenUnit). (f : ℕ) → changed_at u.serial (file_at last.durable.directory f) ≡ slice_index_or u.files f false) ws
  left_says [] [] alike found filed at = tt
  left_says [] (u ∷ ws) alike found filed at = absurd alike
  left_says (t ∷ ts) [] alike found filed at = absurd alike
  left_says (t ∷ ts) (u ∷ ws) alike found filed at = (
    λ f.
        ap (λ (y : Id). changed_at y (file_at last.durable.directory f)) alike.0.serial ∙ at.0.files f ∙ ap (λ (y : Id). changed_at y (file_at n.durable.directory f)) (sym alike.0.serial)
        ∙ files_say v n r.content r.told r.leaves order.heads u.serial u.positions u.files found.0 filed.0 (ap (λ (y : Id). is_settled_in y n.durable.units.entries) alike.0.serial ∙ at.0.unsettled) f,
    left_says ts ws alike.1 found.1 filed.1 at.1,
  )

  each_says : AllByRecursion (λ (u : OpenUnit). (f : ℕ) → changed_at u.serial (file_at last.durable.directory f) ≡ slice_index_or u.files f false) restarts.left
  each_says = left_says waiting restarts.left d.are.alike d.are.found d.are.filed d.done.carries

  unsettled : (q : LogRecord) → In q (prepared_left n.durable) → is_settled_in q.serial es ≡ false
  unsettled q i = each_in (λ (o : LogRecord). is_settled_in o.serial es ≡ false) (prepared_of (records_in last.durable.log)) at.leaves.told.unsettled q
      (subst (λ ss. In q (prepared_of (records_in ss))) (sym at.log) ((left_reordered n.durable r.disk.log.distinct).there q i))

  no_unit : (x : Id) → first_that (is_of x) restarts.left ≡ None → find_unit x (units_in es) ≡ None
  no_unit x none = ap (find_unit x) (sym at.units.units) ∙ none_alike x waiting restarts.left d.are.alike none

  taken_where : (x : Id) → is_settled_in x es ≡ false → (o : Option OpenUnit) → first_that (is_of x) restarts.left ≡ o → (elim o as (λ _. List ℕ) [ Some u ↦ u.positions | None ↦ [] ]) ≡ here x
  taken_where x off (Some u) is = first_holds (λ (y : OpenUnit). y.positions ≡ here y.serial) (is_of x) restarts.left u each_left is ∙ ap here (sym (id_is x u.serial (first_is (is_of x) restarts.left u is)))
  taken_where x off None is = sym (quiet_positions x last.durable.units.first es (quiet x es off (no_unit x is)))

  -- Each unit.

  abbrev changed_by : Id → List Entry
  changed_by x = entries_by x w.catalog.ru.first ds

  abbrev all_changed : List OpenUnit → List (List Entry)
  all_changed us = map (λ (u : OpenUnit). changed_by u.serial) us

  positions_all : (rs : List LogRecord) (us : List OpenUnit) → AreOfRecords rs us → ((q : LogRecord) → In q rs → In q (prepared_left n.durable)) → HaveChanges restarts.left us → AllByRecursion (λ (u : OpenUnit). u.positions ≡ here u.serial) us
  positions_all [] [] of there have = tt
  positions_all [] (u ∷ us) of there have = absurd of
  positions_all (q ∷ rs) [] of there have = absurd of
  positions_all (q ∷ rs) (u ∷ us) of there have = (
    have.0.positions ∙ taken_where u.serial (subst (λ (x : Id). is_settled_in x es ≡ false) (sym of.0.serial) (unsettled q (there q (inl refl)))) (first_that (is_of u.serial) restarts.left) refl,
    positions_all rs us of.1 (λ o i. there o (inr i)) have.1,
  )

  each_where : AllByRecursion (λ (u : OpenUnit). u.positions ≡ here u.serial) (begun units)
  each_where = positions_all (prepared_left n.durable) (begun units) records (λ q i. i) changes

  here_told : (x : Id) → here x ≡ entries.positions_of x (placed w.catalog.ru.first ds)
  here_told x = sym (positions_alike w.catalog.heads x w.catalog.ru.first es ds has.journal.alike has.journal.is.each ∙ ap (λ (p : ℕ). positions_of x p es) has.journal.first)

  changes_at : (us : List OpenUnit) → AllByRecursion (λ (u : OpenUnit). u.positions ≡ here u.serial) us → AreAllChangesAt w.catalog.ru us (all_changed us) at.content
  changes_at [] all = tt
  changes_at (u ∷ us) all = (
    subst (λ (ps : List ℕ). AreChangesAt w.catalog.ru ps (changed_by u.serial) at.content) (sym (all.0 ∙ here_told u.serial)) (entries_stand at.content w.catalog.ru ds has.journal.is u.serial),
    changes_at us all.1,
  )

  hold : HoldChanges w.catalog.heads 4096 (begun units) (all_changed (begun units)) [] held
  hold = subst (λ o. IfSome o (λ c. (ess : List (List Entry)) → AreAllChangesAt w.catalog.ru (begun units) ess c → HoldChanges w.catalog.heads 4096 (begun units) ess [] held)) at.told restarts.hold (all_changed (begun units)) (changes_at (begun units) each_where)

  -- What they hold.

  relocked_alike : (rs : List LogRecord) (us : List OpenUnit) → AreOfRecords rs us → (ls : List table.Lock) (ms : List world.Lock) → AreLocks w.catalog.heads ls ms →
      AreLocks w.catalog.heads (returning.relocked w.catalog.heads us (all_changed us) ls) (relocked rs last.durable ms)
  relocked_alike [] [] of ls ms locks = locks
  relocked_alike [] (u ∷ us) of ls ms locks = absurd of
  relocked_alike (q ∷ rs) [] of ls ms locks = absurd of
  relocked_alike (q ∷ rs) (u ∷ us) of ls ms locks = relocked_alike rs us of.1 (held_by_entries w.catalog.heads u.serial (changed_by u.serial) ls) (relocked_by q.serial last.durable.directory es ms)
      (subst (λ (x : Id). AreLocks w.catalog.heads (held_by_entries w.catalog.heads u.serial (changed_by u.serial) ls) (relocked_by x last.durable.directory es ms)) of.0.serial
      (locks_by at.content w.catalog.heads last.durable has.files once has.units.names u.serial w.catalog.ru.first es ds has.journal.alike has.order.suit ls ms locks))

  world_locks : relocked (prepared_left n.durable) last.durable [] ≡ last.volatile.locks
  world_locks = d.done.locks [] ∙ ap (λ (x : Volatile). x.locks) (sym r.booted) ∙ ap (λ (x : Volatile). x.locks) (sym at.volatile)

  alike : AreLocks w.catalog.heads (returning.relocked w.catalog.heads (begun units) (all_changed (begun units)) []) last.volatile.locks
  alike = subst (AreLocks w.catalog.heads (returning.relocked w.catalog.heads (begun units) (all_changed (begun units)) [])) world_locks (relocked_alike (prepared_left n.durable) (begun units) records [] [] tt)

  held_all : AreLocks w.catalog.heads held last.volatile.locks
  held_all =
      let long = many_alike w.catalog.heads (returning.relocked w.catalog.heads (begun units) (all_changed (begun units)) []) last.volatile.locks alike in
      let volatile = ap (λ (x : Volatile). length x.locks) (at.volatile ∙ r.booted) in
      let few = r.disk.few in
      subst (λ (ls : List table.Lock). AreLocks w.catalog.heads ls last.volatile.locks) (sym (hold.locks (omega (arith, long, volatile, few)))) alike

  -- Which files they changed.

  says : (x : Id) → is_settled_in x es ≡ false → (o : Option OpenUnit) → first_that (is_of x) restarts.left ≡ o → (f : ℕ) →
      changed_at x (file_at last.durable.directory f) ≡ slice_index_or (elim o as (λ _. List Bool) [ Some u ↦ u.files | None ↦ no_files ]) f false
  says x off (Some u) is f =
      let own = id_is x u.serial (first_is (is_of x) restarts.left u is) in
      ap (λ (y : Id). changed_at y (file_at last.durable.directory f)) own ∙ first_holds (λ (y : OpenUnit). (g : ℕ) → changed_at y.serial (file_at last.durable.directory g) ≡ slice_index_or y.files g false) (is_of x) restarts.left u each_says is f
  says x off None is f = unchanged_at last x has.units (ap is_some (no_unit x is)) f ∙ sym (no_bits 64 f)

  -- Each is a unit of the node.

  units_all : (rs : List LogRecord) (us : List OpenUnit) → AreOfRecords rs us → ((q : LogRecord) → In q rs → In q (prepared_left n.durable)) → AllByRecursion (λ (u : OpenUnit). u.positions ≡ here u.serial) us → HaveChanges restarts.left us → AllByRecursion (IsUnitOf last) us
  units_all [] [] of there places have = tt
  units_all [] (u ∷ us) of there places have = absurd of
  units_all (q ∷ rs) [] of there places have = absurd of
  units_all (q ∷ rs) (u ∷ us) of there places have = (
    record {
      positions = places.0;
      files = λ f.
          says u.serial (subst (λ (x : Id). is_settled_in x es ≡ false) (sym of.0.serial) (unsettled q (there q (inl refl)))) (first_that (is_of u.serial) restarts.left) refl f
          ∙ sym (ap (λ (bs : List Bool). slice_index_or bs f false) have.0.files);
      transaction = own es (each_in (λ (o : LogRecord). AllByRecursion (IsOfTransaction o.tid o.serial) es) (prepared_of (records_in last.durable.log)) at.leaves.told.transactions q
          (subst (λ ss. In q (prepared_of (records_in ss))) (sym at.log) ((left_reordered n.durable r.disk.log.distinct).there q (there q (inl refl)))));
    },
    units_all rs us of.1 (λ o i. there o (inr i)) places.1 have.1,
  )
    where
      own : (fs : List JournalEntry) → AllByRecursion (IsOfTransaction q.tid q.serial) fs → AllByRecursion (λ (e : JournalEntry). same_id u.serial (serial_in e) ≡ true → u.tid ≡ tid_in e) fs
      own [] all = tt
      own (e ∷ fs) all = (λ mine. of.0.tid ∙ all.0 (subst (λ (x : Id). same_id x (serial_in e) ≡ true) of.0.serial mine), own fs all.1)

  kept : IsKept (seen (record { units = units; locks = held }) log) w last
  kept = record {
    content = at.content;
    told = at.told;
    name = sym at.sound.home.owner;
    blocks = at.blocks ∙ sym size;
    has = has;
    log = at.log ∙ sym log_stays;
    branches = subst (AreOfBranches (begun units)) (ap (λ (x : Volatile). x.branches) (sym (at.volatile ∙ r.booted))) (of_records (prepared_left n.durable) (begun units) records);
    locks = held_all;
    each = units_all (prepared_left n.durable) (begun units) records (λ q i. i) each_where changes;
  }

  -- A restart reopens the node so.
  pub reopens_to : (out : ReopenedTold) → out.settled ≡ map unit_settled told.undone → out.prepared ≡ told.prepared → ReopensTo out n (seen (record { units = units; locks = held }) log) w
  reopens_to out settled prepared = record {
    settled = ap told_in settled ∙ settled_all clock v n r sized same before order early w told.undone restarts.left d;
    prepared = ap (map log_record_of) prepared ∙ prepared_told;
    kept = subst (λ (rs : List RecoveryUnit). IsKept (seen (record { units = units; locks = held }) log) w (after_undone (length rs) n rs)) (sym (active clock v n r sized same before order early)) kept;
  }
