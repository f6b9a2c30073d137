-- What prepared branches hold after a restart, while others are undone.
use Rattle.std.proofs.Common.{inl, inr, ◌≡◌, ℕ, List, [], ◌∷◌, ◌++◌, Bool, true, false, ◌||◌, Option, Some, None, if◌then◌else◌, map, refl, sym, ◌∙◌, ap, subst}
use Rattle.std.specs.FinMap.{get}
use Rattle.std.specs.List.{AllByRecursion}
use Rattle.std.specs.Option.{option_map}
use Rattle.std.proofs.lemmas.Bool.{both_ways, false_from_ne_true}
use Rattle.std.proofs.lemmas.List.Folds.{list_any-append}
use Rattle.std.proofs.lemmas.Slice.Eq.{bytes_eq-Decides}
use Rattle.vms_model.specs.Ids.{Id}
use Rattle.vms_model.specs.Keys.{End, Key}
use Rattle.vms_model.specs.Transactions as model
use Rattle.vms_model.specs.Transactions.{Outcome}
use Rattle.records_model.specs.Records.{Change, Records}
use Rattle.records_model.specs.History.{History, changes_by, changes_key, current, on_top, records, same_id, settled_at, settled_with, without}
use Rattle.commit_protocol.specs.World.{In}
use Rattle.unit_laws.specs.Journal.{ChangeEntry, Journal, JournalEntry, Note, PreparedEntry, RecoveryUnit, SettledEntry, entries_from, find_unit, is_of_units, is_settled_in, is_settling, notes_in, trimmed, units_in, with_entries, with_settled}
use Rattle.unit_laws.specs.Units.{Apart}
use Rattle.unit_laws.proofs.CurrentLemmas.{current_without}
use Rattle.recovery_units.specs.run_model.Locks.{Lock, with_locks}
use Rattle.recovery_units.specs.run_model.World.{Durable, File, Sequential, Relative, Indexed, Settlement, find_file, keys_left, moved_end, relocked_by, relocked_for, settled_file}
use Rattle.recovery_units.specs.world_laws.Restarts.{CanRestart}
use Rattle.recovery_units.proofs.world_laws.EntryLemmas.{none_settles}
use Rattle.recovery_units.proofs.world_laws.FindLemmas.{mapped_file}
use Rattle.recovery_units.proofs.world_laws.HeldLemmas.{found_file_name, noted_at}
use Rattle.recovery_units.proofs.world_laws.HistoryLemmas.{aborted_leaves}
use Rattle.recovery_units.proofs.world_laws.IdLemmas.{id_itself}
use Rattle.recovery_units.proofs.world_laws.LeftLemmas.{change_unit, in_changed, note_there, noted_in, one_changed}
use Rattle.recovery_units.specs.State.{is_change_by}
use Rattle.node_units.proofs.Positions.{changes_of_units}

-- The entries of a branch's changes.

abbrev pub entries_by : Id → List JournalEntry → List JournalEntry
entries_by x [] = []
entries_by x (e ∷ es) = if is_change_by x e then e ∷ entries_by x es else entries_by x es

by_from : (x : Id) (us : List RecoveryUnit) (es : List JournalEntry) → AllByRecursion (λ (e : JournalEntry). is_change_by x e ≡ true → is_of_units us e ≡ true) es → entries_by x (entries_from us es) ≡ entries_by x es
by_from x us [] known = refl
by_from x us (e ∷ es) known = go (is_of_units us e) refl (by_from x us es known.1)
  where
    go : (t : Bool) → is_of_units us e ≡ t → entries_by x (entries_from us es) ≡ entries_by x es → entries_by x (if t then e ∷ es else entries_from us es) ≡ entries_by x (e ∷ es)
    go true t rest = refl
    go false t rest = rest ∙ sym (ap (λ (b : Bool). if b then e ∷ entries_by x es else entries_by x es) (false_from_ne_true (is_change_by x e) (λ is. both_ways _ t (known.0 is))))

by_trimmed : (x : Id) (j : Journal) → is_settled_in x j.entries ≡ false → entries_by x (trimmed j).entries ≡ entries_by x j.entries
by_trimmed x j off = by_from x (units_in j.entries) j.entries (changes_of_units x j.entries off)

by_more : (x : Id) (es : List JournalEntry) (e : JournalEntry) → is_change_by x e ≡ false → entries_by x (es ++ e ∷ []) ≡ entries_by x es
by_more x [] e off = ap (λ (t : Bool). if t then e ∷ [] else []) off
by_more x (d ∷ es) e off = ap (λ (rest : List JournalEntry). if is_change_by x d then d ∷ rest else rest) (by_more x es e off)

-- they stay once another branch is settled
pub entries_settled : (x tid serial : Id) (outcome : Outcome) (moment : ℕ) (j : Journal) → is_settled_in x j.entries ≡ false → same_id x serial ≡ false → entries_by x (with_settled tid serial outcome moment j).entries ≡ entries_by x j.entries
entries_settled x tid serial outcome moment j off other = go (find_unit serial (units_in j.entries))
  where
    e : JournalEntry
    e = SettledEntry tid serial outcome moment

    go : (o : Option RecoveryUnit) → (let new = trimmed (elim o [ Some u ↦ with_entries (e ∷ []) j | None ↦ j ]) in entries_by x new.entries ≡ entries_by x j.entries)
    go (Some u) = by_trimmed x (with_entries (e ∷ []) j) (list_any-append (is_settling x) j.entries (e ∷ []) ∙ (λ i. off i || (other i || false))) ∙ by_more x j.entries e refl
    go None = by_trimmed x j off

pub by_in : (x : Id) (es : List JournalEntry) (e : JournalEntry) → In e (entries_by x es) → In e es
by_in x [] e i = i
by_in x (d ∷ es) e i = go (is_change_by x d) i (by_in x es e)
  where
    go : (b : Bool) → In e (if b then d ∷ entries_by x es else entries_by x es) → (In e (entries_by x es) → In e es) → In e (d ∷ es)
    go true (inl same) rest = inl same
    go true (inr there) rest = inr (rest there)
    go false there rest = inr (rest there)

-- A branch holds what these tell.
pub relocked_own : (x : Id) (fs : List (Option File)) (es : List JournalEntry) (ls : List Lock) → relocked_by x fs es ls ≡ relocked_by x fs (entries_by x es) ls
relocked_own x fs [] ls = refl
relocked_own x fs (e ∷ es) ls = one e (λ ms. relocked_own x fs es ms)
  where
    one : (e : JournalEntry) → ((ms : List Lock) → relocked_by x fs es ms ≡ relocked_by x fs (entries_by x es) ms) → relocked_by x fs es (relocked_for x fs e ls) ≡ relocked_by x fs (entries_by x (e ∷ es)) ls
    one (PreparedEntry tid by) rest = rest ls
    one (SettledEntry tid by outcome moment) rest = rest ls
    one (ChangeEntry tid by file key before) rest = go (same_id x by) refl
      where
        held : List Lock
        held = elim (find_file file fs) [ Some f ↦ with_locks x file (keys_left f key before) ls | None ↦ ls ]

        go : (b : Bool) → same_id x by ≡ b → relocked_by x fs es (if b then held else ls) ≡ relocked_by x fs (if b then ChangeEntry tid by file key before ∷ entries_by x es else entries_by x es) ls
        go true t = rest held ∙ ap (λ (b : Bool). relocked_by x fs (entries_by x es) (if b then held else ls)) (sym t)
        go false t = rest ls

-- The files stay as they are for it.

module _ (s : Settlement) (fs : List (Option File)) (x : Id) where
  abbrev gs : List (Option File)
  gs = map (option_map (settled_file s)) fs

  -- what is held for a change of a key stays
  abbrev Stays : JournalEntry → Type 0
  Stays (ChangeEntry tid by file key before) = same_id x by ≡ true → (f : File) → find_file file fs ≡ Some f → keys_left (settled_file s f) key before ≡ keys_left f key before
  Stays (PreparedEntry tid by) = Unit {0}
  Stays (SettledEntry tid by outcome moment) = Unit {0}

  one_stays : (e : JournalEntry) (ls : List Lock) → Stays e → relocked_for x gs e ls ≡ relocked_for x fs e ls
  one_stays (PreparedEntry tid by) ls stays = refl
  one_stays (SettledEntry tid by outcome moment) ls stays = refl
  one_stays (ChangeEntry tid by file key before) ls stays = go (same_id x by) refl
    where
      held : Option File → List Lock
      held o = elim o [ Some f ↦ with_locks x file (keys_left f key before) ls | None ↦ ls ]

      at : (o : Option File) → find_file file fs ≡ o → ((f : File) → find_file file fs ≡ Some f → keys_left (settled_file s f) key before ≡ keys_left f key before) → held (option_map (settled_file s) o) ≡ held o
      at None is same = refl
      at (Some f) is same = ap (λ (ks : List Key). with_locks x file ks ls) (same f is)

      go : (b : Bool) → same_id x by ≡ b → (if b then held (find_file file gs) else ls) ≡ (if b then held (find_file file fs) else ls)
      go true t = ap held (mapped_file file (settled_file s) fs (λ f. refl)) ∙ at (find_file file fs) refl (stays t)
      go false t = refl

  all_stay : (es : List JournalEntry) (ls : List Lock) → AllByRecursion Stays es → relocked_by x gs es ls ≡ relocked_by x fs es ls
  all_stay [] ls all = refl
  all_stay (e ∷ es) ls all = all_stay es (relocked_for x gs e ls) all.1 ∙ ap (relocked_by x fs es) (one_stays e ls all.0)

-- an undo of another branch leaves what is at a key that this one changed
pub undone_key : (serial : Id) (moment : ℕ) (h : History) (key : Key) → Apart h.live → changes_key key (changes_by serial h.live) ≡ false → get (current (settled_at serial model.Abort moment h)) key ≡ get (current h) key
undone_key serial moment h key apart none = go (changes_by serial h.live) refl
  where
    gone : get (on_top (without serial h.live) (records h)) key ≡ get (current h) key
    gone = current_without serial h.live (records h) key apart ∙ ap (λ (b : Bool). if b then get (records h) key else get (on_top h.live (records h)) key) none

    go : (cs : List Change) → changes_by serial h.live ≡ cs → get (current (settled_with serial model.Abort moment cs h)) key ≡ get (current h) key
    go [] is = refl
    go (c ∷ cs) is = ap (λ (m : Records). get (on_top (without serial h.live) m) key) (subst (λ (ds : List Change). records (settled_with serial model.Abort moment ds h) ≡ records h) is (aborted_leaves serial moment h)) ∙ gone

keys_stay : (s : Settlement) (f : File) (key : Key) (before : Option (List ℕ)) → s.outcome ≡ model.Abort → Apart f.history.live → changes_key key (changes_by s.serial f.history.live) ≡ false → keys_left (settled_file s f) key before ≡ keys_left f key before
keys_stay s f key before abort apart none =
    ap (λ (now : Option (List ℕ)). elim f.organization as (λ _. List Key) [
      | Sequential ↦ (if moved_end now before then key ∷ End ∷ [] else key ∷ [])
      | Relative greatest ↦ key ∷ []
      | Indexed position size ↦ key ∷ []
    ]) (ap (λ (o : Outcome). get (current (settled_at s.serial o s.moment f.history)) key) abort ∙ undone_key s.serial s.moment f.history key apart none)

-- So it is for a unit of the journal, where another is undone.
module _ (d : Durable) (can : CanRestart d) (x : Id) (off : is_settled_in x d.units.entries ≡ false) (s : Settlement) (abort : s.outcome ≡ model.Abort) (other : same_id x s.serial ≡ false) where
  stays_one : (e : JournalEntry) → In e d.units.entries → Stays s d.directory x e
  stays_one (PreparedEntry tid by) i = tt
  stays_one (SettledEntry tid by outcome moment) i = tt
  stays_one (ChangeEntry tid by file key before) i = λ own f found.
      let n = noted_at d.units file d.directory f can found in
      let unit = change_unit x d.units.entries [] tid by file key before (none_settles x d.units.entries off) i own in
      let note = subst (In (key, before)) (n.notes x unit)
      (subst (λ (name : List ℕ). In (key, before) (notes_in x name d.units.entries)) (sym (found_file_name file d.directory f found)) (note_there x file d.units.entries tid by file key before i own ((bytes_eq-Decides file file).1 refl))) in
      let c = noted_in (changes_by x f.history.live) (key, before) note in
      let changed : changes_key key (changes_by x f.history.live) ≡ true = subst (λ (y : Key). changes_key y (changes_by x f.history.live) ≡ true) (sym (ap (λ (m : Note). m.0) c.2)) (in_changed (changes_by x f.history.live) c.0 c.1) in
      keys_stay s f key before abort n.orderly.represents.apart
      (false_from_ne_true (changes_key key (changes_by s.serial f.history.live)) (λ also.
      let one = one_changed x s.serial f.history.live key n.orderly.represents.apart changed also in
      both_ways _ other (subst (λ (y : Id). same_id x y ≡ true) one (id_itself x))))

  stays_all : (es : List JournalEntry) → ((e : JournalEntry) → In e es → In e d.units.entries) → AllByRecursion (Stays s d.directory x) es
  stays_all [] there = tt
  stays_all (e ∷ es) there = (stays_one e (there e (inl refl)), stays_all es (λ o i. there o (inr i)))

  pub relocked_undone : (units : Journal) (ls : List Lock) → entries_by x units.entries ≡ entries_by x d.units.entries → relocked_by x (map (option_map (settled_file s)) d.directory) units.entries ls ≡ relocked_by x d.directory d.units.entries ls
  relocked_undone units ls same =
      relocked_own x (gs s d.directory x) units.entries ls ∙ ap (λ (es : List JournalEntry). relocked_by x (gs s d.directory x) es ls) same
      ∙ all_stay s d.directory x (entries_by x d.units.entries) ls (stays_all (entries_by x d.units.entries) (by_in x d.units.entries)) ∙ sym (relocked_own x d.directory d.units.entries ls)
