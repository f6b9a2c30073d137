-- A unit votes yes, as its branch does in the world.
use Rattle.std.proofs.Common.{◌≡◌, ℕ, ◌+◌, ◌-◌, ◌≤◌, ◌++◌, List, [], ◌∷◌, Bool, true, false, Option, Some, None, if◌then◌else◌, length, refl, sym, ◌∙◌, ap, subst, arith, inl, inr, append-nil}
use Rattle.std.specs.Prelude.{is_some, option_map}
use Rattle.std.specs.List.{AllByRecursion}
use Rattle.block_disk.specs.Blocks.{block_at}
use Rattle.file_base.specs.declared.head.FileHead.{FileHead}
use Rattle.journal_model.specs.Entries.{Entry, spelling}
use Rattle.journal_model.specs.Ring.{IsJournal, ring_size}
use Rattle.journal_format.proofs.Decoding.{total_is}
use Rattle.vms_model.specs.Ids.{Id, IsId}
use Rattle.records_model.specs.History.{same_id}
use Rattle.volume.specs.declared.catalog.Catalog.{Catalog}
use Rattle.volume.specs.Catalogs.{IsSound, TellsCatalog}
use Rattle.volume.specs.State.{VolumeState}
use Rattle.unit_laws.specs.Journal.{Journal, JournalEntry, PreparedEntry, RecoveryUnit, end_of, find_unit, serial_in, units_in, with_entries}
use Rattle.unit_laws.specs.JournalLaws.{is_unit}
use Rattle.unit_laws.proofs.TrimLemmas.{size_append}
use Rattle.unit_table.specs.Places.{AreInOrder}
use Rattle.unit_table.specs.Units as units
use Rattle.unit_table.specs.Units.{OpenUnit, begun, prepared_unit}
use Rattle.rms_units.specs.unit_journal.Entries.{prepared_entry}
use Rattle.rms_units.specs.unit_journal.Settling.{content_with, entry_if, span_with}
use Rattle.rms_units.proofs.unit_journal.EntryLemmas.{prepared_is}
use Rattle.rms_units.specs.unit_votes.Voting.{vote_entry, vote_record}
use Rattle.commit_protocol.specs.Allowed.{is_prepared}
use Rattle.commit_protocol.specs.Effects.{PrepareEffect}
use Rattle.commit_protocol.specs.Messages.{LogRecord, Name, PreparedRecord}
use Rattle.commit_protocol.specs.Table as table
use Rattle.commit_protocol.specs.Table.{Branch, Key, Prepared, Prepares, find, prepared_record, put, same_key}
use Rattle.commit_protocol.specs.World.{In}
use Rattle.commit_protocol.proofs.Lists.{find-key, same_key-true}
use Rattle.log_laws.specs.Slots.{Slots, put_in}
use Rattle.log_laws.proofs.RowSlots.{length_slots}
use Rattle.lmcp_log.specs.Keeping.{IsWhole, Keeps, SameSlots}
use Rattle.lmcp_log.proofs.Keepings.{keeps_beside}
use Rattle.lmcp_log.proofs.Whole.{beside_whole}
use Rattle.recovery_units.specs.run_model.World.{Node, Tables, acted, fallen, next_moment, tid_in}
use Rattle.recovery_units.specs.world_laws.Nodes.{IsUp}
use Rattle.recovery_units.specs.world_laws.Ordered.{MayPrepare}
use Rattle.recovery_units.proofs.world_laws.EntryLemmas.{all_append}
use Rattle.recovery_units.proofs.world_laws.IdLemmas.{each_at, id_is, id_itself, id_other}
use Rattle.recovery_units.proofs.world_laws.LogLemmas.{told_log}
use Rattle.recovery_units.proofs.world_laws.OrderedLemmas.{tables_keep_order}
use Rattle.recovery_units.proofs.world_laws.TableLemmas.{found_in, one_branch}
use Rattle.recovery_units.proofs.world_laws.UpLemmas.{differ}
use Rattle.unit_world.specs.directory_model.Files.{AgreesOnFile, head_at}
use Rattle.node_units.proofs.ImagedVolume.{stands_on, stands_same}
use Rattle.unit_world.proofs.directory_model.Standing.{stands_on_extents}
use Rattle.unit_world.proofs.restart_laws.ListLemmas.{both_as}
use Rattle.unit_world.proofs.restart_laws.StayLemmas.{keeps_restorable}
use Rattle.unit_world.proofs.restart_laws.UnitLemmas.{keeps_units}
use Rattle.unit_world.proofs.volume_laws.FollowLemmas.{follow}
use Rattle.recovery_units.specs.volume_model.Volumes.{HasJournal, HasVolume, IsLeftBy}
use Rattle.rms_units.specs.Calls.{is_some_change}
use Rattle.rms_units.specs.State as rms
use Rattle.rms_units.specs.Voting.{MakesVoteOf, Prepares as PreparesUnit, VotesNot}
use Rattle.rms_units.proofs.OrderLemmas.{sound_longer}
use Rattle.recovery_units.specs.Calls.{Broken, Done, MayDo, VotesErr, VotesOk}
use Rattle.recovery_units.specs.State.{AreLocks, AreOfBranches, IsKept, IsOfBranch, IsUnitOf, UnitsState, with_prepared}
use Rattle.unit_world.proofs.Blocks.{same_names}
use Rattle.node_units.specs.Seen.{seen}
use Rattle.node_units.proofs.Acting.{broken, left_after, preparing}
use Rattle.node_units.proofs.Branches.{Distinct, serials}
use Rattle.node_units.proofs.Committing.{HasLogged, content_long, keeps_now, tells_now, whole_now}
use Rattle.node_units.proofs.Ending.{serial_in as serial_among}
use Rattle.node_units.proofs.EnteredKey.{entered_files, entered_journal, entered_slots, entered_tells}
use Rattle.node_units.proofs.Logging.{IsRelogged, files_relogged, relogged, ring_relogged, slots_set, tells_relogged}
use Rattle.node_units.proofs.Making.{Owns, changed, distinct, entries_of, room_now, tid_is}
use Rattle.node_units.proofs.Positions.{positions_more}

abbrev Content : Type 0
Content = List (List ℕ)

-- The branches, of which one is prepared.

of_prepared : (u : OpenUnit) (b : Branch) → b.key.tid ≡ u.tid → b.key.serial ≡ u.serial → IsOfBranch (prepared_unit u) (record b { state = Prepared })
of_prepared u b tid serial = record { tid = tid; serial = serial; prepared = refl; changed = λ e. let never : ⊥ = cc in absurd never }

prepared_branches : (b o : Branch) (us : List OpenUnit) (bs : List Branch) → find b.key bs ≡ Some o → AreOfBranches us bs → Distinct (serials us) → AreOfBranches (with_prepared b.key.serial us) (put (record b { state = Prepared }) bs)
prepared_branches b o [] [] e h d = let never : ⊥ = cc in absurd never
prepared_branches b o [] (c ∷ bs) e h d = absurd h
prepared_branches b o (u ∷ us) [] e h d = absurd h
prepared_branches b o (u ∷ us) (c ∷ bs) e h d = go (same_key c.key b.key) refl e (λ more. prepared_branches b o us bs more h.1 d.1)
  where
    go : (t : Bool) → same_key c.key b.key ≡ t → ◌≡◌ {A = Option Branch} (if t then Some c else find b.key bs) (Some o) → (find b.key bs ≡ Some o → AreOfBranches (with_prepared b.key.serial us) (put (record b { state = Prepared }) bs)) →
        AreOfBranches (if same_id b.key.serial u.serial then prepared_unit u ∷ us else u ∷ with_prepared b.key.serial us) (if t then record b { state = Prepared } ∷ bs else c ∷ put (record b { state = Prepared }) bs)
    go true is found rest =
        let key = same_key-true c.key b.key is in
        let serial : b.key.serial ≡ u.serial = ap (λ (x : Key). x.serial) (sym key) ∙ h.0.serial in
        let test : same_id b.key.serial u.serial ≡ true = subst (λ (x : Id). same_id b.key.serial x ≡ true) serial (id_itself b.key.serial) in
        subst (λ (t : Bool). AreOfBranches (if t then prepared_unit u ∷ us else u ∷ with_prepared b.key.serial us) (record b { state = Prepared } ∷ bs)) (sym test)
        (of_prepared u b (ap (λ (x : Key). x.tid) (sym key) ∙ h.0.tid) serial, h.1)
    go false is found rest =
        let among : In b.key.serial (serials us) = subst (λ (x : Key). In x.serial (serials us)) (find-key b.key bs o found) (serial_among us bs o h.1 (found_in b.key bs o found)) in
        let other : same_id b.key.serial u.serial ≡ false = id_other u.serial b.key.serial (each_at (λ (y : Id). same_id u.serial y ≡ false) b.key.serial (serials us) d.0 among) in
        subst (λ (t : Bool). AreOfBranches (if t then prepared_unit u ∷ us else u ∷ with_prepared b.key.serial us) (c ∷ put (record b { state = Prepared }) bs)) (sym other) (h.0, rest found)

-- what holds of each unit, of which one is prepared
all_prepared : (P : OpenUnit → Type 0) (x : Id) (us : List OpenUnit) → ((u : OpenUnit) → P u → P (prepared_unit u)) → AllByRecursion P us → AllByRecursion P (with_prepared x us)
all_prepared P x [] more h = tt
all_prepared P x (u ∷ us) more h = go (same_id x u.serial) (all_prepared P x us more h.1)
  where
    go : (t : Bool) → AllByRecursion P (with_prepared x us) → AllByRecursion P (if t then prepared_unit u ∷ us else u ∷ with_prepared x us)
    go true rest = (more u h.0, h.1)
    go false rest = (h.0, rest)

-- units of one branch are of its transaction
abbrev IsOfTid : Key → OpenUnit → Type 0
IsOfTid k u = same_id u.serial k.serial ≡ true → u.tid ≡ k.tid

tids_of : (k : Key) (us : List OpenUnit) (bs : List Branch) → AreOfBranches us bs → ((c : Branch) → In c bs → c.key.serial ≡ k.serial → c.key.tid ≡ k.tid) → AllByRecursion (IsOfTid k) us
tids_of k [] [] h all = tt
tids_of k [] (c ∷ bs) h all = absurd h
tids_of k (u ∷ us) [] h all = absurd h
tids_of k (u ∷ us) (c ∷ bs) h all = (λ same. sym h.0.tid ∙ all c (inl refl) (h.0.serial ∙ id_is u.serial k.serial same), tids_of k us bs h.1 (λ d i. all d (inr i)))

-- An entry in the journal, where a test holds.

pub record Enters (heads : List (Option FileHead)) (slots : ℕ) (es : List Entry) (pe : Entry) (test : Bool) (k : Catalog) (c d : List (List ℕ)) : Type 0 where
  pub journal : IsJournal d (span_with (entry_if test pe) k.ru) (es ++ (if test then pe ∷ [] else []))
  pub files : (f : ℕ) (h : FileHead) → head_at heads f ≡ Some h → AgreesOnFile h c d
  pub slots_stay : SameSlots slots c d
  pub tells : TellsCatalog k c → TellsCatalog (record k { ru = span_with (entry_if test pe) k.ru }) d
  pub end : (span_with (entry_if test pe) k.ru).end ≡ k.ru.end + (if test then 48 else 0)
  pub first : (span_with (entry_if test pe) k.ru).first ≡ k.ru.first
  pub sound : (node : List ℕ) (size : ℕ) → IsSound node size k → IsSound node size (record k { ru = span_with (entry_if test pe) k.ru })

enters : (node : List ℕ) (size slots : ℕ) (k : Catalog) → IsSound node size k → length k.heads ≡ 64 → 584 + slots ≤ k.ru.start → (tid serial : Id) → IsId tid → IsId serial → (es : List Entry) (c d : Content) → IsJournal c k.ru es →
    (test : Bool) → (test ≡ true → k.ru.end - k.ru.first + 48 ≤ ring_size k.ru) → d ≡ content_with (entry_if test (prepared_entry tid serial)) k.ru c → Enters k.heads slots es (prepared_entry tid serial) test k c d
enters node size slots k sound long before tid serial is_tid is_serial es c d j false room is = record {
  journal = subst (λ (x : Content). IsJournal x k.ru (es ++ [])) (sym is) (subst (IsJournal c k.ru) (sym (append-nil es)) j);
  files = λ f h there. subst (AgreesOnFile h c) (sym is) (stands_same h c j.ring.whole);
  slots_stay = λ i below. ap (λ (x : Content). block_at x (66 + i)) is;
  tells = λ tells. subst (TellsCatalog k) (sym is) tells;
  end = omega arith;
  first = refl;
  sound = λ n m so. so;
}
enters node size slots k sound long before tid serial is_tid is_serial es c d j true room is =
    let pe = prepared_entry tid serial in
    let entry = prepared_is tid serial is_tid is_serial in
    let sized : length (spelling pe) ≡ 48 = total_is pe entry in
    let fits : k.ru.end - k.ru.first + length (spelling pe) ≤ ring_size k.ru = (let enough = room refl in omega (arith, enough, sized)) in
    record {
      journal = entered_journal node size k sound long c d pe is es j entry fits;
      files = entered_files node size k sound long c d pe is es j entry fits;
      slots_stay = entered_slots node size k sound long c d pe is es j entry fits slots before;
      tells = entered_tells node size k sound long c d pe is es j entry fits;
      end = ap (λ (x : ℕ). k.ru.end + x) sized;
      first = refl;
      sound = λ n m so. sound_longer n m (length (spelling pe)) k k.ru so refl;
    }

-- The node then.

module _ (place : ℕ) (u : OpenUnit) (s : rms.UnitsState) (log ts : Slots) (v : VolumeState) (n : Node) (b : Branch) (rms_are : List Name) (moment : ℕ) (x : Owns place u s log v n b.key) (unprepared : is_prepared x.branch.state ≡ false) (after : IsUp (acted (Tables (Prepares b) moment) n))
    (record_is : prepared_record b ≡ vote_record u.tid u.serial rms_are) (is : HasLogged s log v (Some (vote_record u.tid u.serial rms_are))) (early : rms.IsEarly v) (ids : IsId u.tid × IsId u.serial) (made : VolumeState) (makes : MakesVoteOf u rms_are log ts v made) where
  abbrev a : table.Act
  a = Prepares b

  abbrev m : Node
  m = acted (Tables a moment) n

  abbrev r : LogRecord
  r = vote_record u.tid u.serial rms_are

  abbrev k : Key
  k = b.key

  abbrev mid : VolumeState
  mid = makes.logged

  abbrev unit : Bool
  unit = is_unit k.serial n.durable.units

  abbrev pe : Entry
  pe = prepared_entry k.tid k.serial

  slots : ts ≡ put_in r log
  slots = slots_set r.serial (Some r) log ts v mid makes.log

  relog : (c : Content) × (mid.store.current ≡ Some c) × IsRelogged log ts x.kept.content c
  relog = relogged r.serial (Some r) log ts v mid x.kept.content makes.log is.parts x.kept.told (keeps_now s log ts v (Some r) is n x.kept) (whole_now s log ts v (Some r) is n x.kept) x.kept.has.journal.is.ring.whole (content_long s log ts v (Some r) is n x.kept)

  entry_so : vote_entry (is_some_change u.positions) u.tid u.serial ≡ entry_if unit pe
  entry_so = λ i. entry_if (changed place u s log v n k x i) (prepared_entry (tid_is place u s log v n k x i) (x.own i))

  pub told_made : (d : Content) × (made.store.current ≡ Some d)
  told_made = (
    content_with (vote_entry (is_some_change u.positions) u.tid u.serial) v.catalog.ru relog.0,
    makes.current ∙ ap (option_map (content_with (vote_entry (is_some_change u.positions) u.tid u.serial) v.catalog.ru)) relog.1,
  )

  journal_mid : HasJournal relog.0 v.catalog n
  journal_mid = follow.stays x.kept.content relog.0 v.catalog v.catalog n n x.kept.has.journal refl refl (same_names v.catalog.heads) (ring_relogged log ts x.kept.content relog.0 relog.2 v.catalog is.before)

  abbrev W : Catalog
  W = record v.catalog { ru = span_with (entry_if unit pe) v.catalog.ru }

  catalog_is : made.catalog ≡ W
  catalog_is = makes.catalog ∙ (λ i. record v.catalog { ru = span_with (entry_so i) v.catalog.ru })

  module _ (d : Content) (told : made.store.current ≡ Some d) where
    content_is : d ≡ content_with (entry_if unit pe) v.catalog.ru relog.0
    unfolding told_made
    content_is = one d _ (sym told ∙ told_made.1) ∙ ap (λ e. content_with e v.catalog.ru relog.0) entry_so
      where
        one : (y z : Content) → ◌≡◌ {A = Option Content} (Some y) (Some z) → y ≡ z
        one y z e = cc

    entered : Enters v.catalog.heads (length log) journal_mid.entries pe unit v.catalog relog.0 d
    entered = enters v.catalog.home.node v.store.disk.size (length log) v.catalog is.order.sound is.order.heads is.before k.tid k.serial (subst IsId (tid_is place u s log v n k x) ids.0) (subst IsId x.own ids.1) journal_mid.entries relog.0 d journal_mid.is unit
        (room_now place u s log v n k x is.order) content_is

    agree : (f : ℕ) (h : FileHead) → head_at v.catalog.heads f ≡ Some h → AgreesOnFile h x.kept.content d
    agree f h there = stands_on h x.kept.content relog.0 d
        (files_relogged log ts x.kept.content relog.0 relog.2 v.catalog is.before v.catalog.home.node v.store.disk.size is.order.sound is.order.heads f h there) (entered.files f h there)

    slots_are : ts ≡ m.durable.log
    slots_are = slots ∙ (λ i. put_in (sym record_is i) (sym x.kept.log i))

    same_slots : SameSlots (length ts) relog.0 d
    same_slots i below = entered.slots_stay i (let long = relog.2.long in omega (arith, below, long))

    entries_are : (o : Option RecoveryUnit) → (if is_some o then pe ∷ [] else []) ≡ elim o as (λ _. List Entry) [ Some w ↦ pe ∷ [] | None ↦ [] ]
    entries_are (Some w) = refl
    entries_are None = refl

    ends : (o : Option RecoveryUnit) → end_of n.durable.units + (if is_some o then 48 else 0) ≡ end_of (elim o as (λ _. Journal) [ Some w ↦ with_entries (PreparedEntry k.tid k.serial ∷ []) n.durable.units | None ↦ n.durable.units ])
    ends (Some w) = let more = size_append n.durable.units.entries (PreparedEntry k.tid k.serial ∷ []) in omega (arith, more)
    ends None = omega arith

    pub volume : HasVolume d W m
    volume = record {
      home = record {
        volume = x.kept.has.home.volume;
        slots = length_slots a n.volatile.records n.durable.log ∙ x.kept.has.home.slots;
        journal = x.kept.has.home.journal;
        boot = x.kept.has.home.boot;
        greatest = x.kept.has.home.greatest;
        last = x.kept.has.home.last;
      };
      log = record {
        keeps = subst (λ (us : Slots). Keeps us d) slots_are (keeps_beside ts relog.0 d relog.2.keeps same_slots);
        whole = subst (λ (us : Slots). IsWhole us d) slots_are (beside_whole ts relog.0 d relog.2.slots same_slots);
      };
      journal = follow.prepares relog.0 d v.catalog W n b moment journal_mid (same_names v.catalog.heads)
          (subst (λ (es : List Entry). IsJournal d W.ru (journal_mid.entries ++ es)) (entries_are (find_unit k.serial (units_in n.durable.units.entries))) entered.journal) entered.first
          (entered.end ∙ ap (λ (e : ℕ). e + (if unit then 48 else 0)) x.kept.has.journal.end ∙ ends (find_unit k.serial (units_in n.durable.units.entries)))
          (let end = entered.end in let few = few_more unit in let low = early.low in omega (arith, end, few, low));
      units = keeps_units.tables n a moment x.kept.has.units;
      order = tables_keep_order n.durable n.volatile a moment x.kept.has.order
          (let of = entries_of place u s log v n k x in
          let key = find-key k n.volatile.branches x.branch x.found in
          subst (λ (y : Key). MayPrepare n.durable y) key (record { unsettled = of.unsettled; unprepared = of.unprepared unprepared; transaction = of.transaction }));
      told = told_log m after.table after.slots;
      files = stands_on_extents x.kept.content d v.catalog.heads n.durable.directory agree x.kept.has.files;
      restorable = keeps_restorable.stands x.kept.content d v.catalog.heads n.durable.directory agree x.kept.has.files x.kept.has.restorable;
    }
      where
        few_more : (t : Bool) → (if t then 48 else 0) ≤ 48
        few_more true = omega arith
        few_more false = omega arith

    tells : TellsCatalog W d
    tells = entered.tells (tells_relogged log ts x.kept.content relog.0 relog.2 v.catalog is.before (tells_now s log ts v (Some r) is n x.kept))

    pub left_made : IsLeftBy d (acted (Tables a moment) (fallen (Some (Tables a moment)) n))
    left_made = left_after (seen s log) v n a moment x.kept d made.catalog (subst (λ (y : Catalog). HasVolume d y m) (sym catalog_is) volume) (subst (λ (y : Catalog). TellsCatalog y d) (sym catalog_is) tells)
        (subst (IsSound v.catalog.home.node v.store.disk.size) (sym catalog_is) (entered.sound v.catalog.home.node v.store.disk.size is.order.sound))

    -- units of a node with this journal
    abbrev with_units : Journal → Node
    with_units j = record m { durable = record m.durable { units = j } }

    unit_still : (w : OpenUnit) → IsUnitOf n w → IsOfTid k w → IsUnitOf m w
    unit_still w of own = go (find_unit k.serial (units_in n.durable.units.entries))
      where
        go : (o : Option RecoveryUnit) → IsUnitOf (with_units (elim o [ Some y ↦ with_entries (PreparedEntry k.tid k.serial ∷ []) n.durable.units | None ↦ n.durable.units ])) w
        go (Some y) = record {
          positions = of.positions ∙ sym (positions_more w.serial n.durable.units.entries (PreparedEntry k.tid k.serial) n.durable.units.first refl);
          files = of.files;
          transaction = all_append (λ (e : JournalEntry). same_id w.serial (serial_in e) ≡ true → w.tid ≡ tid_in e) n.durable.units.entries (PreparedEntry k.tid k.serial ∷ []) of.transaction (own, tt);
        }
        go None = record { positions = of.positions; files = of.files; transaction = of.transaction }

    one_key : (c : Branch) → In c n.volatile.branches → c.key.serial ≡ k.serial → c.key.tid ≡ k.tid
    one_key c i same =
        let key = find-key k n.volatile.branches x.branch x.found in
        let is = one_branch n.volatile.branches c x.branch (differ n x.up.table) i (found_in k n.volatile.branches x.branch x.found) (same ∙ ap (λ (y : Key). y.serial) (sym key)) in
        ap (λ (y : Branch). y.key.tid) is ∙ ap (λ (y : Key). y.tid) key

    abbrev begun_then : List OpenUnit
    begun_then = with_prepared k.serial (seen s log).begun

    pub kept_made : made.store.disk.size ≡ v.store.disk.size → IsKept (record (seen s log) { begun = begun_then; log = ts }) made m
    kept_made size = record {
      content = d;
      told = told;
      name = x.kept.name ∙ ap (λ (y : Catalog). y.home.node) (sym catalog_is);
      blocks = x.kept.blocks ∙ sym size;
      has = subst (λ (y : Catalog). HasVolume d y m) (sym catalog_is) volume;
      log = sym slots_are;
      branches = prepared_branches b x.branch (seen s log).begun n.volatile.branches x.found x.kept.branches (distinct place u s log v n k x);
      locks = subst (λ (y : Catalog). AreLocks y.heads s.locks n.volatile.locks) (sym catalog_is) x.kept.locks;
      each = all_prepared (IsUnitOf m) k.serial (seen s log).begun (λ w of. record { positions = of.positions; files = of.files; transaction = of.transaction })
          (both_as (IsUnitOf n) (IsOfTid k) (IsUnitOf m) (seen s log).begun unit_still x.kept.each (tids_of k (seen s log).begun n.volatile.branches x.kept.branches one_key));
    }

-- A unit votes.
module _ (place : ℕ) (u : OpenUnit) (s t : rms.UnitsState) (log ts : Slots) (v w : VolumeState) (rms_are : List Name) (there : units.unit_at s.units.places place ≡ Some u) (at : AreInOrder s.units.places s.units.order) (is : HasLogged s log v (Some (vote_record u.tid u.serial rms_are))) (early : rms.IsEarly v)
    (ids : IsId u.tid × IsId u.serial) where
  owns : (n : Node) (b : Branch) → IsKept (seen s log) v n → MayDo n (Prepares b) (PrepareEffect u.serial rms_are) → b.key.serial ≡ u.serial → Owns place u s log v n b.key
  owns n b kept does own = record { there = there; at = at; kept = kept; up = does.up; branch = does.stands.branch; found = does.stands.there; own = sym own }

  record_of : (n : Node) (b : Branch) (kept : IsKept (seen s log) v n) (does : MayDo n (Prepares b) (PrepareEffect u.serial rms_are)) (own : b.key.serial ≡ u.serial) → table.holding b.managers ≡ rms_are → prepared_record b ≡ vote_record u.tid u.serial rms_are
  record_of n b kept does own managers =
      let tid = sym (tid_is place u s log v n b.key (owns n b kept does own)) in
      λ i. record { kind = PreparedRecord; tid = tid i; serial = own i; waiting = []; rms = managers i }

  -- as the state that the units are then
  pub votes_ok : PreparesUnit place u rms_are s log v t ts w → begun t.units ≡ with_prepared u.serial (begun s.units) → w.store.disk.size ≡ v.store.disk.size → VotesOk u.serial rms_are (seen s log) v (seen t ts) w
  unfolding owns
  votes_ok done units_then size n a kept does =
      let pr = preparing a n.volatile.records u.serial rms_are does.gives in
      subst (λ (y : table.Act). MayDo n y (PrepareEffect u.serial rms_are) → Done (seen t ts) w n y) (sym pr.is) (λ may. step pr.branch may pr.serial pr.rms_are) does
    where
      step : (b : Branch) → MayDo n (Prepares b) (PrepareEffect u.serial rms_are) → b.key.serial ≡ u.serial → table.holding b.managers ≡ rms_are → Done (seen t ts) w n (Prepares b)
      step b may own managers =
          let x = owns n b kept may own in
          let of = record_of n b kept may own managers in
          let told = told_made place u s log ts v n b rms_are (next_moment n) x may.stands.unprepared may.after of is early ids w done.makes in
          let begun_so : begun t.units ≡ with_prepared b.key.serial (begun s.units) = units_then ∙ ap (λ (y : Id). with_prepared y (begun s.units)) (sym own) in
          let held : t.locks ≡ s.locks = ap (λ (y : rms.UnitsState). y.locks) done.unit in
          subst (λ (y : UnitsState). IsKept y w (acted (Tables (Prepares b) (next_moment n)) n)) (λ i. record { begun = sym begun_so i; locks = sym held i; log = ts })
          (kept_made place u s log ts v n b rms_are (next_moment n) x may.stands.unprepared may.after of is early ids w done.makes told.0 told.1 size)

  pub votes_not : VotesNot place u rms_are s log v t ts w → VotesErr u.serial rms_are (seen s log) v w
  unfolding owns
  votes_not done n a kept does =
      let pr = preparing a n.volatile.records u.serial rms_are does.gives in
      subst (λ (y : table.Act). MayDo n y (PrepareEffect u.serial rms_are) → Broken w n y) (sym pr.is) (λ may. step pr.branch may pr.serial pr.rms_are) does
    where
      step : (b : Branch) → MayDo n (Prepares b) (PrepareEffect u.serial rms_are) → b.key.serial ≡ u.serial → table.holding b.managers ≡ rms_are → Broken w n (Prepares b)
      step b may own managers =
          let x = owns n b kept may own in
          let of = record_of n b kept may own managers in
          broken (seen s log) v n (Prepares b) (next_moment n) kept (MakesVoteOf u rms_are log ts v) w is.order.sound is.order.holds is.order.idle
          (λ made d makes told. left_made place u s log ts v n b rms_are (next_moment n) x may.stands.unprepared may.after of is early ids made makes d told) done.breaks
