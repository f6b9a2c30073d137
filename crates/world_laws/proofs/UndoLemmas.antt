-- A boot undoes unit after unit, and keeps what holds of its disk; and the node that comes up.
use Rattle.std.proofs.Common.{◌≡◌, ◌≤◌, ℕ, ◌+◌, List, [], ◌∷◌, length, map, Bool, true, false, Option, Some, None, if◌then◌else◌, refl, sym, ◌∙◌, ap, subst, arith, inl, inr}
use Rattle.std.specs.Prelude.{is_some}
use Rattle.std.specs.List.{AllByRecursion}
use Rattle.std.specs.Option.{option_map}
use Rattle.std.proofs.lemmas.Bool.{both_ways, cond_both, false_from_ne_true}
use Rattle.vms_model.specs.Ids.{Id}
use Rattle.vms_model.specs.Keys.{Key}
use Rattle.vms_model.specs.Transactions.{Abort, SegFail, Outcome}
use Rattle.vms_model.specs.Limits.{lock_limit}
use Rattle.run_model.specs.records_model.History.{changes_by, changes_key, same_id, settled_at}
use Rattle.run_model.specs.unit_laws.Units.{moves_end}
use Rattle.run_model.specs.unit_laws.Journal.{ChangeEntry, Journal, JournalEntry, PreparedEntry, RecoveryUnit, SettledEntry, active_units, find_unit, is_settled_in, is_settling, serial_in, trimmed, units_in, units_onto, with_entries, with_one_change, with_prepared, with_settled, without_unit}
use Rattle.run_model.specs.unit_laws.JournalLaws.{HasSettled, is_unit}
use Rattle.run_model.proofs.unit_laws.NoteLemmas.{settles_keep_notes}
use Rattle.run_model.specs.commit_protocol.Messages.{LogRecord}
use Rattle.run_model.specs.commit_protocol.World.{In, undo_all}
use Rattle.run_model.specs.log_laws.Slots.{prepared_of, records_in}
use Rattle.run_model.specs.Locks.{Lock}
use Rattle.run_model.specs.World.{Boots, Durable, File, IsLogInOrder, IsOfTransaction, IsReached, Node, Settlement, Shared, acted, booted, find_file, next_moment, prepared_left, relocked, relocked_by, settled_file, settlement, without_units}
use Rattle.run_model.specs.Answers.{boot_rows, left_active, table_rows, unit_key}
use Rattle.world_laws.specs.Running.{history_of, no_history}
use Rattle.world_laws.proofs.MomentLemmas.{next_later}
use Rattle.world_laws.proofs.IdLemmas.{id_is}
use Rattle.world_laws.proofs.FindLemmas.{mapped_file, some_is}
use Rattle.world_laws.proofs.HistoryLemmas.{by_settled}
use Rattle.world_laws.proofs.Counting.{no_more}
use Rattle.world_laws.proofs.CountLemmas.{few_left}
use Rattle.world_laws.proofs.DiskLemmas.{disk_acted, settled_filed}
use Rattle.world_laws.proofs.EntryLemmas.{all_append, all_more, all_trimmed, settled_by_none, none_settles}
use Rattle.world_laws.proofs.HeldLemmas.{noted_at}
use Rattle.world_laws.proofs.LeftLemmas.{left_end, left_held}
use Rattle.world_laws.proofs.LogLemmas.{all_in, told_log}
use Rattle.world_laws.proofs.RoomLemmas.{in_units, unit_serials, unit_serials_differ, units_length}
use Rattle.world_laws.proofs.UnitSets.{units_differ, none_is}
use Rattle.world_laws.proofs.RestartLemmas.{AreActive, IsUnprepared, active_settled, are_active, first_active, has_settled, undone_unit}
use Rattle.world_laws.proofs.BootLemmas.{left_reordered}
use Rattle.world_laws.proofs.PlainLemmas.{own_settled}
use Rattle.world_laws.specs.Nodes.{AreKept, IsFiled, IsKeptDisk, IsOf, IsUp}

pub each_in : {A : Type 0} (P : A → Type 0) (xs : List A) → AllByRecursion P xs → (x : A) → In x xs → P x
each_in P [] h x i = absurd i
each_in P (y ∷ ys) h x i = elim i [ inl e ↦ subst P (sym e) h.0 | inr more ↦ each_in P ys h.1 x more ]

-- Locks after a boot.

-- a disk that has no more that is prepared than another
pub record IsLess (d e : Durable) : Type 0 where
  pub records : (r : LogRecord) → In r (prepared_of (records_in e.log)) → In r (prepared_of (records_in d.log))
  pub units : (r : LogRecord) → In r (prepared_of (records_in e.log)) → is_unit r.serial e.units ≡ true → is_unit r.serial d.units ≡ true
  pub files : (file : List ℕ) (f : File) → find_file file e.directory ≡ Some f → (g : File) × (find_file file d.directory ≡ Some g) × (f.organization ≡ g.organization)
      × ((r : LogRecord) → In r (prepared_of (records_in e.log)) → ((key : Key) → changes_key key (changes_by r.serial f.history.live) ≡ true → changes_key key (changes_by r.serial g.history.live) ≡ true)
      × (moves_end (changes_by r.serial f.history.live) ≡ true → moves_end (changes_by r.serial g.history.live) ≡ true))

pub unsettled_left : (n : Node) → IsLogInOrder n → (r : LogRecord) → In r (prepared_left n.durable) → is_settled_in r.serial n.durable.units.entries ≡ false
unsettled_left n l r i = each_in (λ (q : LogRecord). is_settled_in q.serial n.durable.units.entries ≡ false) (prepared_of (records_in n.durable.log)) l.unsettled r ((left_reordered n.durable l.distinct).there r i)

pub few_less : (n m : Node) → IsKeptDisk n → IsFiled m.name m.durable → IsLogInOrder m → IsLess n.durable m.durable → length (booted m.durable).locks ≤ lock_limit
few_less n m k h l less =
    let most = few_left m.durable m.name h (prepared_left m.durable) (unsettled_left m l) (booted n.durable).locks
    (λ r i u f file found key c.
    let o = (left_reordered m.durable l.distinct).there r i in
    let g = less.files file f found in
    (r.serial, left_held n.durable n.name k.filed (prepared_left n.durable) (unsettled_left n k.log) r ((left_reordered n.durable k.log.distinct).back r (less.records r o)) (less.units r o u) g.0 file g.1 key ((g.3 r o).0 key c)))
    (λ r i u f file found is e.
    let o = (left_reordered m.durable l.distinct).there r i in
    let g = less.files file f found in
    (r.serial, left_end n.durable n.name k.filed (prepared_left n.durable) (unsettled_left n k.log) r ((left_reordered n.durable k.log.distinct).back r (less.records r o)) (less.units r o u) g.0 file g.1 (sym g.2 ∙ is) ((g.3 r o).1 e))) in
    let limit = k.few in
    omega (arith, most, limit)

-- A node that is up has such a disk.
pub few_up : (n : Node) → IsUp n → IsLogInOrder n → length (booted n.durable).locks ≤ lock_limit
few_up n h l =
    let most = few_left n.durable n.name h.filed (prepared_left n.durable) (unsettled_left n l) n.volatile.locks
    (λ r i u f file found key c. (r.serial, h.running.held file r.serial key (subst (λ o. changes_key key (changes_by r.serial (history_of o).live) ≡ true) (sym found) c)))
    (λ r i u f file found is m. (r.serial, (h.holding.files file f found).end is r.serial m)) in
    let limit = h.holding.few_locks in
    omega (arith, most, limit)

pub kept_up : (n : Node) → IsUp n → IsKeptDisk n
kept_up n h = let l = told_log n h.table h.slots in record { filed = h.filed; log = l; unnoted = h.running.unnoted; few = few_up n h l }

-- A boot, row by row.

log_booted : (n : Node) → IsLogInOrder n → IsLogInOrder (acted Boots n)
log_booted n l = record {
  distinct = l.distinct;
  reached = all_more (λ (r : LogRecord). IsReached n r.serial) (λ (r : LogRecord). IsReached (acted Boots n) r.serial) (records_in n.durable.log) (λ r k. (k.0, omega arith)) l.reached;
  prepared_within = l.prepared_within;
  committed_within = l.committed_within;
  prepared = l.prepared;
  active = l.active;
  transactions = l.transactions;
  unsettled = l.unsettled;
  few = l.few;
  slots = l.slots;
}

-- the boot count is no matter of locks
pub relocked_booted : (d : Durable) (count : ℕ) (rs : List LogRecord) (ls : List Lock) → relocked rs (record d { boot = count }) ls ≡ relocked rs d ls
relocked_booted d count [] ls = refl
relocked_booted d count (r ∷ rs) ls = relocked_booted d count rs (relocked_by r.serial d.directory d.units.entries ls)

kept_booted : (n : Node) → IsKeptDisk n → IsKeptDisk (acted Boots n)
kept_booted n k = record {
  filed = disk_acted Boots n.name n.volatile n.durable tt k.filed;
  log = log_booted n k.log;
  unnoted = k.unnoted;
  few = subst (λ (ls : List Lock). length ls ≤ lock_limit) (sym (relocked_booted n.durable (n.durable.boot + 1) (prepared_left n.durable) [])) k.few;
}

-- what holds of all entries, where the settlement is entered only of a unit
settled_if : (P : JournalEntry → Type 0) (tid serial : Id) (outcome : Outcome) (moment : ℕ) (j : Journal) → AllByRecursion P j.entries → (is_unit serial j ≡ true → P (SettledEntry tid serial outcome moment)) → AllByRecursion P (with_settled tid serial outcome moment j).entries
settled_if P tid serial outcome moment j h k = go (find_unit serial (units_in j.entries)) refl
  where
    go : (o : Option RecoveryUnit) → find_unit serial (units_in j.entries) ≡ o → AllByRecursion P (trimmed (elim o [ Some u ↦ with_entries (SettledEntry tid serial outcome moment ∷ []) j | None ↦ j ])).entries
    go (Some u) e = all_trimmed P (with_entries (SettledEntry tid serial outcome moment ∷ []) j) (all_append P j.entries (SettledEntry tid serial outcome moment ∷ []) h (k (ap is_some e), tt))
    go None e = all_trimmed P j h

module _ (n : Node) (u : RecoveryUnit) (k : IsKeptDisk n) (a : IsUnprepared n.durable.units u.serial) (of : IsOf n.name n.durable.boot u.serial) where
  abbrev next : Node
  next = undone_unit n u

  gone : HasSettled u.serial n.durable.units next.durable.units
  gone = has_settled n u

  -- a prepared record is of another branch, or of one that is no unit
  apart : (r : LogRecord) → In r (prepared_of (records_in n.durable.log)) → is_unit u.serial n.durable.units ≡ true → same_id r.serial u.serial ≡ false
  apart r i e = go (find_unit u.serial (units_in n.durable.units.entries)) refl e
    where
      go : (o : Option RecoveryUnit) → find_unit u.serial (units_in n.durable.units.entries) ≡ o → is_some o ≡ true → same_id r.serial u.serial ≡ false
      go (Some v) f g = false_from_ne_true _ (λ t. both_ways _ (a v f) (k.log.active r v i (ap (λ y. find_unit y (units_in n.durable.units.entries)) (id_is r.serial u.serial t) ∙ f)).0)
      go None f g = let none : ⊥ = cc in absurd none

  -- the others' units are as they were
  still : (r : LogRecord) → In r (prepared_of (records_in n.durable.log)) → find_unit r.serial (units_in next.durable.units.entries) ≡ find_unit r.serial (units_in n.durable.units.entries)
  still r i = go (same_id r.serial u.serial) refl
    where
      none_there : (o : Option RecoveryUnit) → find_unit u.serial (units_in n.durable.units.entries) ≡ o → same_id r.serial u.serial ≡ true → find_unit u.serial (units_in n.durable.units.entries) ≡ None
      none_there (Some v) e t = absurd (both_ways _ (apart r i (ap is_some e)) t)
      none_there None e t = e

      go : (t : Bool) → same_id r.serial u.serial ≡ t → find_unit r.serial (units_in next.durable.units.entries) ≡ find_unit r.serial (units_in n.durable.units.entries)
      go false t = gone.others r.serial t
      go true t =
          let same = id_is r.serial u.serial t in
          ap (λ y. find_unit y (units_in next.durable.units.entries)) same ∙ none_is (find_unit u.serial (units_in next.durable.units.entries)) gone.gone
          ∙ sym (ap (λ y. find_unit y (units_in n.durable.units.entries)) same ∙ none_there (find_unit u.serial (units_in n.durable.units.entries)) refl t)

  older : (x : Id) (v : RecoveryUnit) → find_unit x (units_in next.durable.units.entries) ≡ Some v → find_unit x (units_in n.durable.units.entries) ≡ Some v
  older x v e = go (same_id x u.serial) refl
    where
      go : (t : Bool) → same_id x u.serial ≡ t → find_unit x (units_in n.durable.units.entries) ≡ Some v
      go true t = absurd (both_ways _ gone.gone (subst (λ y. is_unit y next.durable.units ≡ true) (id_is x u.serial t) (ap is_some e)))
      go false t = sym (gone.others x t) ∙ e

  fewer_units : length (units_in next.durable.units.entries) ≤ length (units_in n.durable.units.entries)
  fewer_units =
      let most = no_more (unit_serials (units_in next.durable.units.entries)) (unit_serials (units_in n.durable.units.entries)) (unit_serials_differ (units_in next.durable.units.entries) (units_differ next.durable.units.entries))
      (λ x i. there (units_in n.durable.units.entries) x (at x (find_unit x (units_in next.durable.units.entries)) refl (in_units x (units_in next.durable.units.entries) i))) in
      let one = units_length (units_in next.durable.units.entries) in
      let two = units_length (units_in n.durable.units.entries) in
      omega (arith, most, one, two)
    where
      at : (x : Id) (o : Option RecoveryUnit) → find_unit x (units_in next.durable.units.entries) ≡ o → is_some o ≡ true → is_some (find_unit x (units_in n.durable.units.entries)) ≡ true
      at x (Some v) e f = ap is_some (older x v e)
      at x None e f = let none : ⊥ = cc in absurd none

      there : (us : List RecoveryUnit) (x : Id) → is_some (find_unit x us) ≡ true → In x (unit_serials us)
      there [] x e = let none : ⊥ = cc in absurd none
      there (w ∷ us) x e = go (same_id x w.serial) refl e (there us x)
        where
          go : (b : Bool) → same_id x w.serial ≡ b → is_some (if b then Some w else find_unit x us) ≡ true → (is_some (find_unit x us) ≡ true → In x (unit_serials us)) → In x (w.serial ∷ unit_serials us)
          go true t j more = inl (id_is x w.serial t)
          go false t j more = inr (more j)

  same_without : (rs : List LogRecord) → ((r : LogRecord) → In r rs → In r (prepared_of (records_in n.durable.log))) → without_units next.durable.units rs ≡ without_units n.durable.units rs
  same_without [] f = refl
  same_without (r ∷ rs) f =
      let more = same_without rs (λ q i. f q (inr i)) in
      (λ i. if is_some (still r (f r (inl refl)) i) then more i else r ∷ more i)

  log_undone : IsLogInOrder next
  log_undone = record {
    distinct = k.log.distinct;
    reached = k.log.reached;
    prepared_within = k.log.prepared_within;
    committed_within = k.log.committed_within;
    prepared = λ x v e p. k.log.prepared x v (older x v e) p;
    active = λ r v i e. k.log.active r v i (sym (still r i) ∙ e);
    transactions = all_in _ (prepared_of (records_in n.durable.log)) (λ r i. settled_if (IsOfTransaction r.tid r.serial) u.tid u.serial Abort (next_moment n) n.durable.units
        (each_in (λ (q : LogRecord). AllByRecursion (IsOfTransaction q.tid q.serial) n.durable.units.entries) (prepared_of (records_in n.durable.log)) k.log.transactions r i) (λ e t. absurd (both_ways _ (apart r i e) t)));
    unsettled = all_in _ (prepared_of (records_in n.durable.log)) (λ r i. settled_by_none r.serial _ (settled_if (λ e. is_settling r.serial e ≡ false) u.tid u.serial Abort (next_moment n) n.durable.units
        (none_settles r.serial n.durable.units.entries (each_in (λ (q : LogRecord). is_settled_in q.serial n.durable.units.entries ≡ false) (prepared_of (records_in n.durable.log)) k.log.unsettled r i)) (λ e. apart r i e)));
    few = let less = fewer_units in let same = ap length (same_without (prepared_of (records_in n.durable.log)) (λ r i. i)) in let old = k.log.few in omega (arith, less, same, old);
    slots = k.log.slots;
  }

  filed_undone : IsFiled n.name next.durable
  filed_undone = settled_filed n.name (settlement (unit_key u) Abort SegFail (next_moment n)) n.durable.log n.durable of (next_later n) k.filed

  less_undone : IsLess n.durable next.durable
  less_undone = record {
    records = λ r i. i;
    units = λ r i e. ap is_some (sym (still r i)) ∙ e;
    files = λ file f found. at file f (find_file file n.durable.directory) refl (sym (mapped_file file (settled_file (settlement (unit_key u) Abort SegFail (next_moment n))) n.durable.directory (λ g. refl)) ∙ found);
  }
    where
      s : Settlement
      s = settlement (unit_key u) Abort SegFail (next_moment n)

      fewer : (g : File) (file : List ℕ) → find_file file n.durable.directory ≡ Some g → (r : LogRecord) → In r (prepared_of (records_in n.durable.log)) → (t : Bool) → same_id r.serial u.serial ≡ t →
          ((key : Key) → changes_key key (changes_by r.serial (settled_at u.serial Abort (next_moment n) g.history).live) ≡ true → changes_key key (changes_by r.serial g.history.live) ≡ true)
          × (moves_end (changes_by r.serial (settled_at u.serial Abort (next_moment n) g.history).live) ≡ true → moves_end (changes_by r.serial g.history.live) ≡ true)
      fewer g file found r i false t =
          let same = by_settled r.serial u.serial Abort (next_moment n) g.history t in
          ((λ key e. subst (λ cs. changes_key key cs ≡ true) same e), (λ e. subst (λ cs. moves_end cs ≡ true) same e))
      fewer g file found r i true t =
          let none = ap (λ y. changes_by y (settled_at u.serial Abort (next_moment n) g.history).live) (id_is r.serial u.serial t) ∙ own_settled u.serial Abort (next_moment n) g.history (noted_at n.durable.units file n.durable.directory g k.filed.can found).differ in
          ((λ key e. let no : changes_key key [] ≡ true = subst (λ cs. changes_key key cs ≡ true) none e in let never : ⊥ = cc in absurd never), (λ e. let no : moves_end [] ≡ true = subst (λ cs. moves_end cs ≡ true) none e in let never : ⊥ = cc in absurd never))

      at : (file : List ℕ) (f : File) (o : Option File) → find_file file n.durable.directory ≡ o → option_map (settled_file (settlement (unit_key u) Abort SegFail (next_moment n))) o ≡ Some f → (g : File) × (find_file file n.durable.directory ≡ Some g) × (f.organization ≡ g.organization)
          × ((r : LogRecord) → In r (prepared_of (records_in n.durable.log)) → ((key : Key) → changes_key key (changes_by r.serial f.history.live) ≡ true → changes_key key (changes_by r.serial g.history.live) ≡ true)
          × (moves_end (changes_by r.serial f.history.live) ≡ true → moves_end (changes_by r.serial g.history.live) ≡ true))
      at file f (Some g) found e = subst (λ (w : File). (v : File) × (find_file file n.durable.directory ≡ Some v) × (w.organization ≡ v.organization)
          × ((r : LogRecord) → In r (prepared_of (records_in n.durable.log)) → ((key : Key) → changes_key key (changes_by r.serial w.history.live) ≡ true → changes_key key (changes_by r.serial v.history.live) ≡ true)
          × (moves_end (changes_by r.serial w.history.live) ≡ true → moves_end (changes_by r.serial v.history.live) ≡ true)))
          (some_is (settled_file (settlement (unit_key u) Abort SegFail (next_moment n)) g) f e) (g, found, refl, λ r i. fewer g file found r i (same_id r.serial u.serial) refl)
      at file f None found e = let none : ⊥ = cc in absurd none

  absent : (name : List ℕ) → find_file name next.durable.directory ≡ None → find_file name n.durable.directory ≡ None
  absent name e = go (find_file name n.durable.directory) (sym (mapped_file name (settled_file (settlement (unit_key u) Abort SegFail (next_moment n))) n.durable.directory (λ f. refl)) ∙ e)
    where
      go : (o : Option File) → option_map (settled_file (settlement (unit_key u) Abort SegFail (next_moment n))) o ≡ None → o ≡ None
      go (Some f) j = let none : ⊥ = cc in absurd none
      go None j = refl

  kept_undone : IsKeptDisk next
  kept_undone = record { filed = filed_undone; log = log_undone; unnoted = λ name e. settles_keep_notes n.durable.units name no_history u.tid u.serial Abort (next_moment n) (k.unnoted name (absent name e)); few = few_less n next k filed_undone log_undone less_undone }

undo_kept : (us : List RecoveryUnit) (s : Shared) (n : Node) → IsKeptDisk n → AreActive us n.durable.units → AllByRecursion (λ (u : RecoveryUnit). IsOf n.name n.durable.boot u.serial) us → AreKept (table_rows (undo_all (map unit_key us)) s n) n
undo_kept [] s n k a of = k
undo_kept (u ∷ us) s n k a of =
    (k, undo_kept us s (undone_unit n u) (kept_undone n u k (first_active u us n.durable.units a) of.0) (active_settled u us n.durable.units (undone_unit n u).durable.units (has_settled n u) a) of.1)

-- units are of boots that were counted
pub all_onto : (P : Id → Type 0) (es : List JournalEntry) (us : List RecoveryUnit) → AllByRecursion (λ (e : JournalEntry). P (serial_in e)) es → AllByRecursion (λ (u : RecoveryUnit). P u.serial) us → AllByRecursion (λ (u : RecoveryUnit). P u.serial) (units_onto us es)
all_onto P [] us h k = k
all_onto P (ChangeEntry tid t file key before ∷ es) us h k = all_onto P es (with_one_change tid t us) h.1 (one us k)
  where
    one : (us : List RecoveryUnit) → AllByRecursion (λ (u : RecoveryUnit). P u.serial) us → AllByRecursion (λ (u : RecoveryUnit). P u.serial) (with_one_change tid t us)
    one [] k = (h.0, tt)
    one (u ∷ us) k = cond_both (same_id t u.serial) (record u { changes = u.changes + 1 } ∷ us) (u ∷ with_one_change tid t us) (AllByRecursion (λ (u : RecoveryUnit). P u.serial)) (λ e. k) (λ e. (k.0, one us k.1))
all_onto P (PreparedEntry tid t ∷ es) us h k = all_onto P es (with_prepared t us) h.1 (one us k)
  where
    one : (us : List RecoveryUnit) → AllByRecursion (λ (u : RecoveryUnit). P u.serial) us → AllByRecursion (λ (u : RecoveryUnit). P u.serial) (with_prepared t us)
    one [] k = tt
    one (u ∷ us) k = cond_both (same_id t u.serial) (record u { prepared = true } ∷ us) (u ∷ with_prepared t us) (AllByRecursion (λ (u : RecoveryUnit). P u.serial)) (λ e. k) (λ e. (k.0, one us k.1))
all_onto P (SettledEntry tid t outcome moment ∷ es) us h k = all_onto P es (without_unit t us) h.1 (one us k)
  where
    one : (us : List RecoveryUnit) → AllByRecursion (λ (u : RecoveryUnit). P u.serial) us → AllByRecursion (λ (u : RecoveryUnit). P u.serial) (without_unit t us)
    one [] k = tt
    one (u ∷ us) k = cond_both (same_id t u.serial) (without_unit t us) (u ∷ without_unit t us) (AllByRecursion (λ (u : RecoveryUnit). P u.serial)) (λ e. one us k.1) (λ e. (k.0, one us k.1))

pub all_active : (P : RecoveryUnit → Type 0) (us : List RecoveryUnit) → AllByRecursion P us → AllByRecursion P (active_units us)
all_active P [] h = tt
all_active P (u ∷ us) h = cond_both u.prepared (active_units us) (u ∷ active_units us) (AllByRecursion P) (λ e. all_active P us h.1) (λ e. (h.0, all_active P us h.1))

pub left_of : (n : Node) → IsKeptDisk n → AllByRecursion (λ (u : RecoveryUnit). IsOf n.name (n.durable.boot + 1) u.serial) (left_active n)
left_of n k = all_active (λ (u : RecoveryUnit). IsOf n.name (n.durable.boot + 1) u.serial) (units_in n.durable.units.entries)
    (all_more (λ (u : RecoveryUnit). IsOf n.name n.durable.boot u.serial) (λ (u : RecoveryUnit). IsOf n.name (n.durable.boot + 1) u.serial) (units_in n.durable.units.entries) (λ u d. (d.0, omega arith)) (all_onto (IsOf n.name n.durable.boot) n.durable.units.entries [] k.filed.reached tt))

pub boot_kept : (s : Shared) (n : Node) → IsKeptDisk n → AreKept (boot_rows s n) n
boot_kept s n k = (k, undo_kept (left_active n) s (acted Boots n) (kept_booted n k) (are_active n) (left_of n k))
