-- The disk of a node goes on telling its table, act by act.
use Rattle.std.specs.Prelude.{if◌then◌else◌, is_some, length}
use Rattle.std.proofs.Common.{◌≡◌, ◌≤◌, ℕ, Bool, true, false, map, List, [], ◌∷◌, ◌++◌, Option, Some, None, ◌⊎◌, inl, inr, refl, ap, sym, subst, ◌∙◌}
use Rattle.std.proofs.lemmas.Bool.{both_ways, cases_Bool}
use Rattle.vms_model.specs.Ids.{Id}
use Rattle.vms_model.specs.Transactions.{Outcome, Reason}
use Rattle.run_model.specs.records_model.History.{same_id}
use Rattle.run_model.specs.unit_laws.Journal.{Journal, JournalEntry, PreparedEntry, RecoveryUnit, find_unit, units_in, with_settled, with_entries, entries_for, trimmed}
use Rattle.run_model.specs.unit_laws.JournalLaws.{is_unit}
use Rattle.run_model.proofs.unit_laws.UnitLemmas.{prepares_unit}
use Rattle.run_model.proofs.unit_laws.TrimLemmas.{settles_unit}
use Rattle.commit_protocol.specs.Messages.{LogRecord, CommittedRecord}
use Rattle.commit_protocol.specs.Table as table
use Rattle.commit_protocol.specs.Table.{Key, Branch, State, Joining, Active, Ending, Voting, Prepared, Tm, Notes, Accepts, Prepares, Settles, Leaves, Acknowledges, Releases, Undoes, Sends, Prints, child, find, find_serial, put, cut, table_after, records_after, after_act, acknowledge, acknowledged, waits_for, release, released, holds, keep_record, nothing_left, branch_serials, record_serials, prepared_records}
use Rattle.commit_protocol.specs.Rows as rows
use Rattle.commit_protocol.specs.Rows.{Event, row, has_changed}
use Rattle.commit_protocol.specs.Allowed.{is_prepared}
use Rattle.commit_protocol.specs.World.{In, units_of, lost_after}
use Rattle.commit_protocol.specs.Messages.{Message, Join}
use Rattle.commit_protocol.specs.Table.{home_of, coordinator_of}
use Rattle.commit_protocol.specs.Reasons.{HasCause, HaveCauses}
use Rattle.commit_protocol.proofs.Causes.{causes}
use Rattle.commit_protocol.specs.Agreement.{Distinct}
use Rattle.commit_protocol.specs.Standing.{IsThere, Stands, AllStand, BeginsNothing, HasApartLog, IsNew}
use Rattle.commit_protocol.proofs.Lists.{told_key, find-put, find-put_other, find-cut, find-cut_other, in_left, in_parts, Unique}
use Rattle.commit_protocol.proofs.Serials.{parts_apart, apart_distinct, unique_of, there_serial}
use Rattle.commit_protocol.proofs.StandingRows.{rows_stand}
use Rattle.commit_protocol.proofs.Lasting.{stands_lasts, new_lasts}
use Rattle.run_model.specs.log_laws.Slots.{LogTells, AllTell, IsFresh, AreCommitted, Slots, slots_after, size}
use Rattle.run_model.proofs.log_laws.RowSlots.{row_tells, length_slots, apart_after}
use Rattle.run_model.specs.World.{Tables, Node, Durable, Settlement, acted, tm_of, with_settlement, settlement_of, next_moment, with_prepared, Sound}
use Rattle.run_model.specs.Answers.{unit_key}
use Rattle.run_agreement.specs.Seen.{IsTold, ArePrepared, left_keys}
use Rattle.run_agreement.proofs.Found.{some_is}
use Rattle.run_agreement.proofs.Rows.{AllTold, none_lost}
use Rattle.run_agreement.proofs.Units.{same_is, other_from, other_ids, single_units, IsActive, active_to, active_from, settled_to, settled_from, prepared_to, prepared_from, IsUnit, unit_to, unit_from}

-- branches of distinct serials are one where these are
pub keys_alone : (bs : List Branch) (j k : Key) → Distinct (branch_serials bs) → IsThere bs j → IsThere bs k → j.serial ≡ k.serial → j ≡ k
keys_alone [] j k d a b e = absurd (let none : None ≡ Some a.0 = a.1 in let f : ⊥ = cc in f)
keys_alone (x ∷ bs) j k d a b e = elim (told_key x.key j) [
  | inl p ↦ elim (told_key x.key k) [
    | inl q ↦ sym p.1 ∙ q.1
    | inr q ↦
        let there : find k bs ≡ Some b.0 = rw (q.0) at b.1 in
        let P : Id → Type 0 = λ s. In s (branch_serials bs) in
        absurd (d.0 (subst P (sym e ∙ ap (λ (y : Key). y.serial) (sym p.1)) (there_serial k bs (b.0, there))))
  ]
  | inr p ↦
      let here : find j bs ≡ Some a.0 = rw (p.0) at a.1 in
      elim (told_key x.key k) [
        | inl q ↦
            let P : Id → Type 0 = λ s. In s (branch_serials bs) in
            absurd (d.0 (subst P (e ∙ ap (λ (y : Key). y.serial) (sym q.1)) (there_serial j bs (a.0, here))))
        | inr q ↦ let there : find k bs ≡ Some b.0 = rw (q.0) at b.1 in keys_alone bs j k d.1 (a.0, here) (b.0, there) e
      ]
]

serials_of_tm : (tm : Tm) → HasApartLog tm → Distinct (branch_serials tm.table)
serials_of_tm tm apart = (parts_apart (branch_serials tm.table) (record_serials tm.records) apart).one

pub unique_tm : (tm : Tm) → HasApartLog tm → Unique tm.table
unique_tm tm apart = unique_of tm.table (serials_of_tm tm apart)

-- What is told of units.

pub unit_active : (x : Node) → IsTold [] x → (k : Key) → IsUnit x.volatile.branches k → IsActive (units_in x.durable.units.entries) k
unit_active x t k u = active_to (units_in x.durable.units.entries) k (single_units x.durable.units.entries) (t.there k (in_left k (units_of x.volatile.branches) [] (unit_from x.volatile.branches k u)))

pub active_unit : (x : Node) → IsTold [] x → (k : Key) → IsActive (units_in x.durable.units.entries) k → IsUnit x.volatile.branches k
active_unit x t k a = elim (in_parts k (units_of x.volatile.branches) [] (t.back k (active_from (units_in x.durable.units.entries) k a))) [
  | inl i ↦ unit_to x.volatile.branches k (unique_tm (tm_of x) t.apart) i
  | inr none ↦ absurd none
]

-- the log and the committed records of a node tell one another
pub record TellsLog (y : Node) : Type 0 where
  pub log : LogTells (tm_of y) y.durable.log
  pub apart : HasApartLog (tm_of y)
  pub kinds : AreCommitted y.volatile.records
  pub slots : length y.durable.log ≤ 512
  pub volume : y.durable.volume ≡ Sound

pub telling : (y : Node) → TellsLog y → ((k : Key) → IsUnit y.volatile.branches k → IsActive (units_in y.durable.units.entries) k) → ((k : Key) → IsActive (units_in y.durable.units.entries) k → IsUnit y.volatile.branches k) → ArePrepared y.volatile.branches y.durable → IsTold [] y
telling y l there back units = record {
  log = l.log;
  apart = l.apart;
  kinds = l.kinds;
  slots = l.slots;
  volume = l.volume;
  there = λ k i. elim (in_parts k (units_of y.volatile.branches) [] i) [
    | inl j ↦ active_from (units_in y.durable.units.entries) k (there k (unit_to y.volatile.branches k (unique_tm (tm_of y) l.apart) j))
    | inr none ↦ absurd none
  ];
  back = λ k i. in_left k (units_of y.volatile.branches) [] (unit_from y.volatile.branches k (back k (active_to (units_in y.durable.units.entries) k (single_units y.durable.units.entries) i)));
  units = units;
}

-- A node whose journal has the same units, and whose table leaves the same.
pub same_told : (x y : Node) → IsTold [] x → TellsLog y → units_in y.durable.units.entries ≡ units_in x.durable.units.entries → units_of y.volatile.branches ≡ units_of x.volatile.branches
    → ((b : Branch) → find b.key x.volatile.branches ≡ Some b → b.state ≡ Prepared → find b.key y.volatile.branches ≡ Some b) → IsTold [] y
same_told x y t l units branches kept =
    let P : List RecoveryUnit → Type 0 = λ us. (k : Key) → In k (units_of x.volatile.branches ++ []) → In k (map unit_key (Rattle.run_model.specs.unit_laws.Journal.active_units us)) in
    let Q : List RecoveryUnit → Type 0 = λ us. (k : Key) → In k (map unit_key (Rattle.run_model.specs.unit_laws.Journal.active_units us)) → In k (units_of x.volatile.branches ++ []) in
    let S : List Key → Type 0 = λ ks. (k : Key) → In k (ks ++ []) → In k (left_keys y.durable) in
    let T : List Key → Type 0 = λ ks. (k : Key) → In k (left_keys y.durable) → In k (ks ++ []) in
    record {
      log = l.log;
      apart = l.apart;
      kinds = l.kinds;
      slots = l.slots;
      volume = l.volume;
      there = subst S (sym branches) (subst P (sym units) t.there);
      back = subst T (sym branches) (subst Q (sym units) t.back);
      units = λ s u e p. (let b = t.units s u (ap (find_unit s) (sym units) ∙ e) p in (b.0, kept b.0 b.1 b.3, b.2, b.3));
    }

-- Committed records stay of that kind.

kept_kind : (r : LogRecord) (rest : List LogRecord) (q : LogRecord) → In q (keep_record r rest) → (q ≡ r) ⊎ In q rest
kept_kind r rest q i = go (nothing_left r.waiting r.rms) i
  where
    go : (b : Bool) → In q (if b then rest else r ∷ rest) → (q ≡ r) ⊎ In q rest
    go true j = inr j
    go false j = j

kinds_acknowledged : (k : Key) (rs : List LogRecord) → AreCommitted rs → AreCommitted (acknowledge k rs)
kinds_acknowledged k [] h q i = absurd i
kinds_acknowledged k (r ∷ rs) h q i = go (waits_for k r) i (λ j. kinds_acknowledged k rs (λ z m. h z (inr m)) q j)
  where
    go : (b : Bool) → In q (if b then keep_record (acknowledged k r) rs else r ∷ acknowledge k rs) → (In q (acknowledge k rs) → q.kind ≡ CommittedRecord) → q.kind ≡ CommittedRecord
    go true j more = elim (kept_kind (acknowledged k r) rs q j) [ inl e ↦ ap (λ (z : LogRecord). z.kind) e ∙ h r (inl refl) | inr m ↦ h q (inr m) ]
    go false j more = elim j [ inl e ↦ ap (λ (z : LogRecord). z.kind) e ∙ h r (inl refl) | inr m ↦ more m ]

kinds_released : (s : Id) (rm : List ℕ) (rs : List LogRecord) → AreCommitted rs → AreCommitted (release s rm rs)
kinds_released s rm [] h q i = absurd i
kinds_released s rm (r ∷ rs) h q i = go (holds s rm r) i (λ j. kinds_released s rm rs (λ z m. h z (inr m)) q j)
  where
    go : (b : Bool) → In q (if b then keep_record (released rm r) rs else r ∷ release s rm rs) → (In q (release s rm rs) → q.kind ≡ CommittedRecord) → q.kind ≡ CommittedRecord
    go true j more = elim (kept_kind (released rm r) rs q j) [ inl e ↦ ap (λ (z : LogRecord). z.kind) e ∙ h r (inl refl) | inr m ↦ h q (inr m) ]
    go false j more = elim j [ inl e ↦ ap (λ (z : LogRecord). z.kind) e ∙ h r (inl refl) | inr m ↦ more m ]

kinds_after : (bs : List Branch) (a : table.Act) (rs : List LogRecord) → Stands bs a → AreCommitted rs → AreCommitted (records_after a rs)
kinds_after bs (Settles k out why (Some r)) rs st h = λ q i. elim (in_parts q rs (r ∷ []) i) [
  | inl j ↦ h q j
  | inr j ↦ elim j [ inl e ↦ ap (λ (z : LogRecord). z.kind) e ∙ st.1.kind | inr none ↦ absurd none ]
]
kinds_after bs (Settles k out why None) rs st h = h
kinds_after bs (Acknowledges k) rs st h = kinds_acknowledged k rs h
kinds_after bs (Releases s rm) rs st h = kinds_released s rm rs h
kinds_after bs (Notes b) rs st h = h
kinds_after bs (Accepts b c) rs st h = h
kinds_after bs (Prepares b) rs st h = h
kinds_after bs (Leaves k) rs st h = h
kinds_after bs (Undoes k) rs st h = h
kinds_after bs (Sends m) rs st h = h
kinds_after bs (Prints l) rs st h = h

-- What an act leaves.

settled_log : (o : Option Settlement) (d : Durable) → (with_settlement o d).log ≡ d.log
settled_log None d = refl
settled_log (Some s) d = refl

settled_volume : (o : Option Settlement) (d : Durable) → (with_settlement o d).volume ≡ d.volume
settled_volume None d = refl
settled_volume (Some s) d = refl

pub log_after : (a : table.Act) (moment : ℕ) (x : Node) → (acted (Tables a moment) x).durable.log ≡ slots_after a x.volatile.records x.durable.log
log_after a moment x = settled_log (settlement_of a moment) (record x.durable { log = slots_after a x.volatile.records x.durable.log; units = with_prepared a x.durable.units })

pub tells_log_after : (a : table.Act) (moment : ℕ) (x : Node) → IsTold [] x → Stands x.volatile.branches a → LogTells (after_act a (tm_of x)) (slots_after a x.volatile.records x.durable.log) → TellsLog (acted (Tables a moment) x)
tells_log_after a moment x t st l =
    let d = parts_apart (branch_serials x.volatile.branches) (record_serials x.volatile.records) t.apart in
    let e = log_after a moment x in
    let P : _ → Type 0 = λ ss. LogTells (after_act a (tm_of x)) ss in
    let Q : ℕ → Type 0 = λ m. m ≤ 512 in
    let after = apart_after (tm_of x) a d st in
    record {
      log = subst P (sym e) l;
      apart = apart_distinct (branch_serials (table_after a x.volatile.branches)) (record_serials (records_after a x.volatile.records)) after;
      kinds = kinds_after x.volatile.branches a x.volatile.records st t.kinds;
      slots = subst Q (sym (ap length e ∙ length_slots a x.volatile.records x.durable.log)) t.slots;
      volume = settled_volume (settlement_of a moment) (record x.durable { log = slots_after a x.volatile.records x.durable.log; units = with_prepared a x.durable.units }) ∙ t.volume;
    }

-- prepared branches stay by acts that write nothing
kept_put : (bs : List Branch) (c : Branch) (old : Branch) → find c.key bs ≡ Some old → is_prepared old.state ≡ false → (b : Branch) → find b.key bs ≡ Some b → b.state ≡ Prepared → find b.key (put c bs) ≡ Some b
kept_put bs c old there un b e p = elim (told_key c.key b.key) [
  | inl q ↦
      let P : Key → Type 0 = λ k. find k bs ≡ Some old in
      let same : old ≡ b = some_is old b (sym (subst P q.1 there) ∙ e) in
      absurd (both_ways (is_prepared old.state) un (ap (λ (y : Branch). is_prepared y.state) same ∙ ap is_prepared p))
  | inr q ↦ find-put_other b.key c bs q.1 ∙ e
]

kept_cut : (bs : List Branch) (k : Key) (old : Branch) → find k bs ≡ Some old → is_prepared old.state ≡ false → (b : Branch) → find b.key bs ≡ Some b → b.state ≡ Prepared → find b.key (cut k bs) ≡ Some b
kept_cut bs k old there un b e p = elim (told_key k b.key) [
  | inl q ↦
      let P : Key → Type 0 = λ j. find j bs ≡ Some old in
      let same : old ≡ b = some_is old b (sym (subst P q.1 there) ∙ e) in
      absurd (both_ways (is_prepared old.state) un (ap (λ (y : Branch). is_prepared y.state) same ∙ ap is_prepared p))
  | inr q ↦ find-cut_other k b.key bs q.1 ∙ e
]

-- a branch is settled
told_settles : (k : Key) (out : Outcome) (why : Reason) (r : Option LogRecord) (moment : ℕ) (x : Node) → IsTold [] x → IsThere x.volatile.branches k → TellsLog (acted (Tables (Settles k out why r) moment) x) → IsTold [] (acted (Tables (Settles k out why r) moment) x)
told_settles k out why r moment x t here l =
    let bs : List Branch = x.volatile.branches in
    let j : Journal = x.durable.units in
    let serials = serials_of_tm (tm_of x) t.apart in
    telling (acted (Tables (Settles k out why r) moment) x) l
    (λ i u.
    let ne : k ≡ i → ⊥ = λ e. (let P : Key → Type 0 = λ z. find z (cut k bs) ≡ None in let none : None ≡ Some u.branch = sym (subst P e (find-cut k bs)) ∙ u.found in let f : ⊥ = cc in f) in
    let there : find i bs ≡ Some u.branch = sym (find-cut_other k i bs ne) ∙ u.found in
    settled_from j k.tid k.serial out moment i (unit_active x t i (record { branch = u.branch; found = there; unprepared = u.unprepared; changed = u.changed }))
    (other_from i.serial k.serial (λ e. ne (sym (keys_alone bs i k serials (u.branch, there) here e)))))
    (λ i a.
    let was = settled_to j k.tid k.serial out moment i a in
    let u = active_unit x t i was.0 in
    record { branch = u.branch; found = find-cut_other k i bs (λ e. other_ids i.serial k.serial was.1 (ap (λ (z : Key). z.serial) (sym e))) ∙ u.found; unprepared = u.unprepared; changed = u.changed })
    (λ s u e p.
    let law = settles_unit k.tid k.serial out moment j in
    let apart : same_id s k.serial ≡ false = other_from s k.serial (λ q.
    let P : Id → Type 0 = λ z. find_unit z (units_in (with_settled k.tid k.serial out moment j).entries) ≡ Some u in
    both_ways (is_unit k.serial (with_settled k.tid k.serial out moment j)) law.gone (ap is_some (subst P q e))) in
    let b = t.units s u (sym (law.others s apart) ∙ e) p in
    (b.0, find-cut_other k b.0.key bs (λ q. other_ids s k.serial apart (sym b.2 ∙ ap (λ (z : Key). z.serial) (sym q))) ∙ b.1, b.2, b.3))

-- a branch is prepared
told_prepares : (c : Branch) (moment : ℕ) (x : Node) → IsTold [] x → (old : Branch) → find c.key x.volatile.branches ≡ Some old → is_prepared old.state ≡ false → TellsLog (acted (Tables (Prepares c) moment) x) → IsTold [] (acted (Tables (Prepares c) moment) x)
told_prepares c moment x t old here un l = by (find_unit c.key.serial (units_in es)) refl l
  where
    bs : List Branch
    bs = x.volatile.branches

    es : List JournalEntry
    es = x.durable.units.entries

    d : Branch
    d = record c { state = Prepared }

    ready : find c.key (put (record c { state = Prepared }) x.volatile.branches) ≡ Some (record c { state = Prepared })
    ready = find-put (record c { state = Prepared }) x.volatile.branches

    -- what is a unit then is another branch
    other : (i : Key) → IsUnit (put (record c { state = Prepared }) x.volatile.branches) i → c.key ≡ i → ⊥
    other i u e =
        let P : Key → Type 0 = λ z. find z (put (record c { state = Prepared }) x.volatile.branches) ≡ Some (record c { state = Prepared }) in
        let same : record c { state = Prepared } ≡ u.branch = some_is (record c { state = Prepared }) u.branch (sym (subst P e ready) ∙ u.found) in
        both_ways (is_prepared u.branch.state) u.unprepared (ap (λ (y : Branch). is_prepared y.state) (sym same))

    was : (i : Key) → IsUnit (put (record c { state = Prepared }) x.volatile.branches) i → IsUnit x.volatile.branches i
    was i u = record { branch = u.branch; found = sym (find-put_other i (record c { state = Prepared }) x.volatile.branches (other i u)) ∙ u.found; unprepared = u.unprepared; changed = u.changed }

    stays : (i : Key) → (c.key ≡ i → ⊥) → IsUnit x.volatile.branches i → IsUnit (put (record c { state = Prepared }) x.volatile.branches) i
    stays i ne u = record { branch = u.branch; found = find-put_other i (record c { state = Prepared }) x.volatile.branches ne ∙ u.found; unprepared = u.unprepared; changed = u.changed }

    node : Journal → Node
    node j = record x { durable = record x.durable { log = slots_after (Prepares c) x.volatile.records x.durable.log; units = j }; volatile = (acted (Tables (Prepares c) moment) x).volatile }

    by : (o : Option RecoveryUnit) → find_unit c.key.serial (units_in x.durable.units.entries) ≡ o
        → TellsLog (node (elim o [ Some u ↦ with_entries (PreparedEntry c.key.tid c.key.serial ∷ []) x.durable.units | None ↦ x.durable.units ]))
        → IsTold [] (node (elim o [ Some u ↦ with_entries (PreparedEntry c.key.tid c.key.serial ∷ []) x.durable.units | None ↦ x.durable.units ]))
    by None e k = telling (node x.durable.units) k (λ i u. unit_active x t i (was i u))
        (λ i a. stays i (λ q. let P : Key → Type 0 = λ z. find_unit z.serial (units_in x.durable.units.entries) ≡ None in let none : None ≡ Some a.unit = sym (subst P q e) ∙ a.found in let f : ⊥ = cc in f) (active_unit x t i a))
        (λ s u f p. let b = t.units s u f p in (b.0, kept_put x.volatile.branches (record c { state = Prepared }) old here un b.0 b.1 b.3, b.2, b.3))
    by (Some v) e k =
        let serials = serials_of_tm (tm_of x) t.apart in
        let law = prepares_unit c.key.tid c.key.serial v x.durable.units.entries e in
        telling (node (with_entries (PreparedEntry c.key.tid c.key.serial ∷ []) x.durable.units)) k
        (λ i u. prepared_from x.durable.units.entries c.key.tid c.key.serial v i e (unit_active x t i (was i u))
        (other_from i.serial c.key.serial (λ q. other i u (sym (keys_alone x.volatile.branches i c.key serials (u.branch, (was i u).found) (old, here) q)))))
        (λ i a. let w = prepared_to x.durable.units.entries c.key.tid c.key.serial v i e a in stays i (λ q. other_ids i.serial c.key.serial w.1 (ap (λ (z : Key). z.serial) (sym q))) (active_unit x t i w.0))
        (λ s u f p. elim (cases_Bool (same_id s c.key.serial)) [
          | inl q ↦ (record c { state = Prepared }, ready, sym (same_is s c.key.serial q), refl)
          | inr q ↦ (let b = t.units s u (sym (law.others s q) ∙ f) p in (b.0, kept_put x.volatile.branches (record c { state = Prepared }) old here un b.0 b.1 b.3, b.2, b.3))
        ])

-- Any act of a row.
told_act : (e : Event) (a : table.Act) (moment : ℕ) (x : Node) → IsTold [] x → Stands x.volatile.branches a → LogTells (after_act a (tm_of x)) (slots_after a x.volatile.records x.durable.log) → HasCause e a → IsTold [] (acted (Tables a moment) x)
told_act event (Notes b) moment x t st l nu =
    same_told x (acted (Tables (Notes b) moment) x) t (tells_log_after (Notes b) moment x t st l) refl (stands_lasts x.volatile.branches (Notes b) (unique_tm (tm_of x) t.apart) refl st).1
    (λ c e p. kept_put x.volatile.branches b st.old st.there st.unprepared c e p)
told_act event (Accepts b c) moment x t st l nu =
    same_told x (acted (Tables (Accepts b c) moment) x) t (tells_log_after (Accepts b c) moment x t st l) refl (stands_lasts x.volatile.branches (Accepts b c) (unique_tm (tm_of x) t.apart) refl st).1
    (λ d e p. kept_put x.volatile.branches (record b { accepted = b.accepted ++ c ∷ [] }) st.old st.there st.unprepared d e p)
told_act event (Leaves k) moment x t st l nu =
    same_told x (acted (Tables (Leaves k) moment) x) t (tells_log_after (Leaves k) moment x t st l) refl (stands_lasts x.volatile.branches (Leaves k) (unique_tm (tm_of x) t.apart) refl st).1
    (λ d e p. kept_cut x.volatile.branches k st.branch st.there st.unprepared d e p)
told_act event (Sends m) moment x t st l nu = same_told x (acted (Tables (Sends m) moment) x) t (tells_log_after (Sends m) moment x t st l) refl refl (λ d e p. e)
told_act event (Prints p) moment x t st l nu = same_told x (acted (Tables (Prints p) moment) x) t (tells_log_after (Prints p) moment x t st l) refl refl (λ d e q. e)
told_act event (Acknowledges k) moment x t st l nu = same_told x (acted (Tables (Acknowledges k) moment) x) t (tells_log_after (Acknowledges k) moment x t st l) refl refl (λ d e q. e)
told_act event (Releases s rm) moment x t st l nu = same_told x (acted (Tables (Releases s rm) moment) x) t (tells_log_after (Releases s rm) moment x t st l) refl refl (λ d e q. e)
told_act event (Prepares b) moment x t st l nu = told_prepares b moment x t st.branch st.there st.unprepared (tells_log_after (Prepares b) moment x t st l)
told_act event (Settles k out why r) moment x t st l nu = told_settles k out why r moment x t st.0 (tells_log_after (Settles k out why r) moment x t st l)
told_act event (Undoes k) moment x t st l nu = absurd nu

acts_told : (e : Event) (acts : List table.Act) (x : Node) → IsTold [] x → AllStand x.volatile.branches acts → AllTell acts (tm_of x) x.durable.log → HaveCauses e acts → AllTold acts [] x
acts_told e [] x t st l c = tt
acts_told e (a ∷ acts) x t st l c =
    let y : Node = acted (Tables a (next_moment x)) x in
    let none : lost_after a [] ≡ [] = none_lost a in
    let one : IsTold [] y = told_act e a (next_moment x) x t st.0 l.0 c.0 in
    let P : Slots → Type 0 = λ ss. AllTell acts (tm_of y) ss in
    let Q : List Key → Type 0 = λ ks. IsTold ks y × AllTold acts ks y in
    subst Q (sym none) (one, acts_told e acts y one st.1 (subst P (sym (log_after a (next_moment x) x)) l.1) c.1)

-- Rows.

-- of an event by which no branch begins and none changes anything for the first time
pub quiet_told : (e : Event) (x : Node) → IsTold [] x → size (tm_of x) ≤ length x.durable.log → BeginsNothing e → IsFresh (tm_of x) e → AllTold (row (tm_of x) e) [] x
quiet_told e x t fits quiet fresh = acts_told e (row (tm_of x) e) x t (rows_stand (tm_of x) e (unique_tm (tm_of x) t.apart) quiet) (row_tells (tm_of x) e x.durable.log t.apart fresh fits t.log) (causes (tm_of x) e)

-- a branch begins
new_told : (b : Branch) (moment : ℕ) (x : Node) → IsTold [] x → IsNew x.volatile.branches b → HasApartLog (after_act (Notes b) (tm_of x)) → LogTells (after_act (Notes b) (tm_of x)) x.durable.log → IsTold [] (acted (Tables (Notes b) moment) x)
new_told b moment x t new apart l = same_told x (acted (Tables (Notes b) moment) x) t (record { log = l; apart = apart; kinds = t.kinds; slots = t.slots; volume = t.volume }) refl (new_lasts x.volatile.branches b new).1
    (λ c e p. find-put_other c.key b x.volatile.branches (λ q. let P : Key → Type 0 = λ k. find k x.volatile.branches ≡ None in let none : None ≡ Some c = sym (subst P q new.absent) ∙ e in let f : ⊥ = cc in f) ∙ e)

pub start_told : (i : Id) (due : Option ℕ) (x : Node) → IsTold [] x → size (tm_of x) ≤ length x.durable.log → find (child i i) x.volatile.branches ≡ None → HasApartLog (table.after (row (tm_of x) (rows.Start i due)) (tm_of x)) → AllTold (row (tm_of x) (rows.Start i due)) [] x
start_told i due x t fits fresh apart =
    let b : Branch = rows.blank i i None Active due in
    let l = row_tells (tm_of x) (rows.Start i due) x.durable.log t.apart fresh fits t.log in
    (new_told b (next_moment x) x t (record { absent = fresh; unprepared = refl; unchanged = refl }) apart l.0, tt)

pub begin_told : (i s bid : Id) (x : Node) → IsTold [] x → size (tm_of x) ≤ length x.durable.log → find (child i s) x.volatile.branches ≡ None → HasApartLog (table.after (row (tm_of x) (rows.Begin i s bid)) (tm_of x)) → AllTold (row (tm_of x) (rows.Begin i s bid)) [] x
begin_told i s bid x t fits fresh apart =
    let b : Branch = rows.blank i s (Some bid) Joining None in
    let l = row_tells (tm_of x) (rows.Begin i s bid) x.durable.log t.apart fresh fits t.log in
    let one : IsTold [] (acted (Tables (Notes b) (next_moment x)) x) = new_told b (next_moment x) x t (record { absent = fresh; unprepared = refl; unchanged = refl }) apart l.0 in
    let y : Node = acted (Tables (Notes b) (next_moment x)) x in
    let m : Message = rows.message Join (home_of (child i s)) (coordinator_of (child i s)) (child i s) (Some bid) in
    (one, (same_told y (acted (Tables (Sends m) (next_moment y)) y) one (record { log = one.log; apart = one.apart; kinds = one.kinds; slots = one.slots; volume = one.volume }) refl refl (λ d f p. f), tt))
