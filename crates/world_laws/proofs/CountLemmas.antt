-- How many keys are held after a boot: no more than were.
use Rattle.std.proofs.Common.{◌≡◌, ◌≤◌, ℕ, suc, List, [], ◌∷◌, length, map, Bool, true, false, ◌||◌, Option, Some, None, if◌then◌else◌, refl, sym, ◌∙◌, ap, subst, arith, inl, inr}
use Rattle.std.specs.List.{AllByRecursion}
use Rattle.std.proofs.lemmas.Bool.{and_from, and_parts, both_ways, false_from_ne_true}
use Rattle.std.proofs.lemmas.Slice.Eq.{bytes_eq-Decides}
use Rattle.vms_model.specs.Ids.{Id}
use Rattle.vms_model.specs.Keys.{Key, End}
use Rattle.run_model.specs.records_model.History.{changes_by, changes_key, same_id, current}
use Rattle.run_model.specs.unit_laws.Units.{moves_end}
use Rattle.run_model.specs.unit_laws.Journal.{ChangeEntry, PreparedEntry, SettledEntry, JournalEntry, is_settled_in, notes_in, Note}
use Rattle.run_model.specs.unit_laws.JournalLaws.{is_unit}
use Rattle.run_model.specs.commit_protocol.Messages.{LogRecord}
use Rattle.run_model.specs.commit_protocol.World.{In}
use Rattle.run_model.specs.Locks.{Lock, holder, is_lock_of, is_locked, with_locks}
use Rattle.run_model.specs.World.{Durable, File, Organization, Sequential, Relative, Indexed, find_file, keys_left, relocked, relocked_by, relocked_for, moved_end}
use Rattle.world_laws.specs.Apart.{KeysDiffer, LocksDiffer}
use Rattle.world_laws.proofs.ApartLemmas.{more_locks_differ}
use Rattle.world_laws.proofs.Counting.{AllDiffer, no_more}
use Rattle.world_laws.proofs.FoundLemmas.{itself}
use Rattle.world_laws.proofs.LeftLemmas.{IsFor, IsTaken, all_sound, change_unit, in_changed, note_there, entry_for, noted_in}
use Rattle.world_laws.proofs.HeldLemmas.{found_file_name, noted_at}
use Rattle.run_model.proofs.records_model.RecordsLemmas.{same_key}
use Rattle.world_laws.proofs.EntryLemmas.{none_settles}
use Rattle.world_laws.proofs.PlainLemmas.{plain_of, no_end}
use Rattle.run_model.specs.records_model.Records.{key_cmp}
use Rattle.std.specs.Ordering.{eq_by_cmp}
use Rattle.std.specs.FinMap.{get}
use Rattle.world_laws.specs.Nodes.{IsFiled}

-- the keys that are locked
abbrev pairs : List Lock → List (List ℕ × Key)
pairs ls = map (λ (l : Lock). (l.file, l.key)) ls

pair_locked : (ls : List Lock) (file : List ℕ) (key : Key) → In (file, key) (pairs ls) → is_locked ls file key ≡ true
pair_locked [] file key i = absurd i
pair_locked (l ∷ ls) file key i = go (is_lock_of file key l) refl i (pair_locked ls file key)
  where
    here : ◌≡◌ {A = List ℕ × Key} (file, key) (l.file, l.key) → is_lock_of file key l ≡ true
    here e = and_from _ _ ((bytes_eq-Decides file l.file).1 (ap (λ (p : List ℕ × Key). p.0) e)) (subst (λ y. eq_by_cmp key_cmp key y ≡ true) (ap (λ (p : List ℕ × Key). p.1) e) (itself key))

    go : (b : Bool) → is_lock_of file key l ≡ b → In (file, key) ((l.file, l.key) ∷ pairs ls) → (In (file, key) (pairs ls) → is_locked ls file key ≡ true) → (b || is_locked ls file key) ≡ true
    go true t i more = refl
    go false t i more = elim i [ inl e ↦ absurd (both_ways _ t (here e)) | inr rest ↦ more rest ]

pairs_differ : (ls : List Lock) → LocksDiffer ls → AllDiffer (pairs ls)
pairs_differ [] d = tt
pairs_differ (l ∷ ls) d = ((λ i. both_ways _ d.0 (pair_locked ls l.file l.key i)), pairs_differ ls d.1)

taken_pair : (ls : List Lock) (file : List ℕ) (key : Key) (y : Id) → holder ls file key ≡ Some y → In (file, key) (pairs ls)
taken_pair [] file key y e = let none : ⊥ = cc in absurd none
taken_pair (l ∷ ls) file key y e = go (is_lock_of file key l) refl e (taken_pair ls file key y)
  where
    go : (b : Bool) → is_lock_of file key l ≡ b → ◌≡◌ {A = Option Id} (if b then Some l.by else holder ls file key) (Some y) → (holder ls file key ≡ Some y → In (file, key) (pairs ls)) → In (file, key) ((l.file, l.key) ∷ pairs ls)
    go true t k more = let parts = and_parts _ _ t in let same = (bytes_eq-Decides file l.file).0 parts.0 in let key_is = same_key key l.key parts.1 in inl (λ i. (same i, key_is i))
    go false t k more = inr (more k)

pairs_length : (ls : List Lock) → length (pairs ls) ≡ length ls
pairs_length [] = refl
pairs_length (l ∷ ls) = ap suc (pairs_length ls)

pair_of : (P : List ℕ → Key → Type 0) (ls : List Lock) → AllByRecursion (λ (l : Lock). P l.file l.key) ls → (p : List ℕ × Key) → In p (pairs ls) → P p.0 p.1
pair_of P [] h p i = absurd i
pair_of P (l ∷ ls) h p i = elim i [ inl e ↦ subst (λ (q : List ℕ × Key). P q.0 q.1) (sym e) h.0 | inr more ↦ pair_of P ls h.1 p more ]

-- locks that lie apart, of keys that others hold, are no more than these
no_more_locks : (ls old : List Lock) → LocksDiffer ls → AllByRecursion (λ (l : Lock). IsTaken old l.file l.key) ls → length ls ≤ length old
no_more_locks ls old d h =
    let most = no_more (pairs ls) (pairs old) (pairs_differ ls d) (λ p i. let t = pair_of (IsTaken old) ls h p i in taken_pair old p.0 p.1 t.0 t.1) in
    let a = pairs_length ls in
    let b = pairs_length old in
    omega (arith, most, a, b)

module _ (d : Durable) (name : List ℕ) (h : IsFiled name d) (rs : List LogRecord) (unsettled : (r : LogRecord) → In r rs → is_settled_in r.serial d.units.entries ≡ false) where
  -- what an entry of such a branch is for
  for : (r : LogRecord) → In r rs → (tid by : Id) (file : List ℕ) (key : Key) (before : Option (List ℕ)) (f : File) → In (ChangeEntry tid by file key before) d.units.entries → same_id r.serial by ≡ true → find_file file d.directory ≡ Some f →
      (k : Key) → In k (keys_left f key before) → (is_unit r.serial d.units ≡ true) × IsFor d.directory file k r.serial
  for r i tid by file key before f e a found k j =
      let u = change_unit r.serial d.units.entries [] tid by file key before (none_settles r.serial d.units.entries (unsettled r i)) e a in
      (u, entry_for d name h r.serial tid by file key before f u e a found k j)

  keys_differ : (f : File) (key : Key) (before : Option (List ℕ)) → eq_by_cmp key_cmp key End ≡ false → KeysDiffer (keys_left f key before)
  keys_differ f key before e = go f.organization
    where
      pick : (b : Bool) → KeysDiffer (if b then key ∷ End ∷ [] else key ∷ [])
      pick true = ((e, tt), (tt, tt))
      pick false = (tt, tt)

      go : (o : Organization) → KeysDiffer (elim o [ Sequential ↦ (if moved_end (get (current f.history) key) before then key ∷ End ∷ [] else key ∷ []) | Relative greatest ↦ key ∷ [] | Indexed position size ↦ key ∷ [] ])
      go Sequential = pick (moved_end (get (current f.history) key) before)
      go (Relative greatest) = (tt, tt)
      go (Indexed position size) = (tt, tt)

  not_end : (r : LogRecord) → In r rs → (tid by : Id) (file : List ℕ) (key : Key) (before : Option (List ℕ)) (f : File) → In (ChangeEntry tid by file key before) d.units.entries → same_id r.serial by ≡ true → find_file file d.directory ≡ Some f → eq_by_cmp key_cmp key End ≡ false
  not_end r i tid by file key before f e a found = false_from_ne_true _ (λ t.
      let u = change_unit r.serial d.units.entries [] tid by file key before (none_settles r.serial d.units.entries (unsettled r i)) e a in
      let n = noted_at d.units file d.directory f h.can found in
      let note = subst (In {A = Note} (key, before)) (n.notes r.serial u) (subst (λ y. In {A = Note} (key, before) (notes_in r.serial y d.units.entries)) (sym (found_file_name file d.directory f found)) (note_there r.serial file d.units.entries tid by file key before e a ((bytes_eq-Decides file file).1 refl))) in
      let c = noted_in (changes_by r.serial f.history.live) (key, before) note in
      let key_is : key ≡ (c.0).key = ap (λ (m : Note). m.0) c.2 in
      let changed = in_changed (changes_by r.serial f.history.live) c.0 c.1 in
      both_ways _ (no_end (changes_by r.serial f.history.live) (plain_of (changes_by r.serial f.history.live) ((h.plain file f found).follow r.serial)))
      (subst (λ y. changes_key y (changes_by r.serial f.history.live) ≡ true) (sym key_is ∙ same_key key End t) changed))

  by_differ : (x : Id) (es : List JournalEntry) (ls : List Lock) → ((tid by : Id) (file : List ℕ) (key : Key) (before : Option (List ℕ)) (f : File) → In (ChangeEntry tid by file key before) es → same_id x by ≡ true → find_file file d.directory ≡ Some f → KeysDiffer (keys_left f key before)) →
      LocksDiffer ls → LocksDiffer (relocked_by x d.directory es ls)
  by_differ x [] ls g a = a
  by_differ x (PreparedEntry tid t ∷ es) ls g a = by_differ x es ls (λ tid by file key before f i. g tid by file key before f (inr i)) a
  by_differ x (SettledEntry tid t outcome moment ∷ es) ls g a = by_differ x es ls (λ tid by file key before f i. g tid by file key before f (inr i)) a
  by_differ x (ChangeEntry tid by file key before ∷ es) ls g a = by_differ x es (relocked_for x d.directory (ChangeEntry tid by file key before) ls) (λ tid by file key before f i. g tid by file key before f (inr i)) (go (same_id x by) refl)
    where
      at : same_id x by ≡ true → (o : Option File) → find_file file d.directory ≡ o → LocksDiffer (elim o [ Some f ↦ with_locks x file (keys_left f key before) ls | None ↦ ls ])
      at t (Some f) found = more_locks_differ x file (keys_left f key before) ls (g tid by file key before f (inl refl) t found) a
      at t None found = a

      go : (t : Bool) → same_id x by ≡ t → LocksDiffer (if t then elim (find_file file d.directory) [ Some f ↦ with_locks x file (keys_left f key before) ls | None ↦ ls ] else ls)
      go true t = at t (find_file file d.directory) refl
      go false t = a

  all_differ : (qs : List LogRecord) (ls : List Lock) → ((r : LogRecord) → In r qs → In r rs) → LocksDiffer ls → LocksDiffer (relocked qs d ls)
  all_differ [] ls sub a = a
  all_differ (q ∷ qs) ls sub a = all_differ qs (relocked_by q.serial d.directory d.units.entries ls) (λ r i. sub r (inr i))
      (by_differ q.serial d.units.entries ls (λ tid by file key before f i s found. keys_differ f key before (not_end q (sub q (inl refl)) tid by file key before f i s found)) a)

  -- where what these branches changed is held already, there are no more locks
  pub few_left : (old : List Lock) → ((r : LogRecord) → In r rs → is_unit r.serial d.units ≡ true → (f : File) (file : List ℕ) → find_file file d.directory ≡ Some f → (key : Key) → changes_key key (changes_by r.serial f.history.live) ≡ true → IsTaken old file key) →
      ((r : LogRecord) → In r rs → is_unit r.serial d.units ≡ true → (f : File) (file : List ℕ) → find_file file d.directory ≡ Some f → f.organization ≡ Sequential → moves_end (changes_by r.serial f.history.live) ≡ true → IsTaken old file End) → length (relocked rs d []) ≤ length old
  few_left old keys ends = no_more_locks (relocked rs d []) old (all_differ rs [] (λ r i. i) tt)
      (all_sound d name h (λ file key y. IsTaken old file key) rs [] (λ r i tid by file key before f e a found k j.
      let u = for r i tid by file key before f e a found k j in
      elim (u.1 f found) [ inl c ↦ keys r i u.0 f file found k c | inr c ↦ subst (IsTaken old file) (sym c.0) (ends r i u.0 f file found c.1 c.2) ]) tt)
