-- What prepared branches hold after a boot: the keys that they changed, and the end of a file where they moved it.
use Rattle.std.proofs.Common.{◌≡◌, ◌⊎◌, ℕ, List, [], ◌∷◌, map, Bool, true, false, ◌&&◌, ◌||◌, Option, Some, None, if◌then◌else◌, refl, sym, ◌∙◌, ap, subst, inl, inr}
use Rattle.std.specs.Prelude.{is_some}
use Rattle.std.specs.FinMap.{get}
use Rattle.std.specs.List.{AllByRecursion}
use Rattle.std.specs.Option.{is_none, option_map}
use Rattle.std.specs.Str.{bytes_eq}
use Rattle.std.proofs.lemmas.Bool.{and_parts, both_ways, and_from}
use Rattle.std.proofs.lemmas.Slice.Eq.{bytes_eq-Decides}
use Rattle.vms_model.specs.Ids.{Id}
use Rattle.vms_model.specs.Keys.{Key, End}
use Rattle.run_model.specs.records_model.Records.{Change}
use Rattle.run_model.specs.records_model.History.{LiveChanges, changes_by, changes_key, current, same_id}
use Rattle.run_model.proofs.records_model.RecordsLemmas.{same_key}
use Rattle.run_model.specs.unit_laws.Units.{Apart, OneMovesEnd, is_of, latest_after, map_in, moves_end}
use Rattle.run_model.specs.unit_laws.Journal.{ChangeEntry, JournalEntry, Note, PreparedEntry, SettledEntry, RecoveryUnit, find_unit, is_settled_in, is_settling, note_of, notes_in, notes_of, units_onto, with_one_change, with_prepared, without_unit, units_after}
use Rattle.run_model.specs.unit_laws.JournalLaws.{HasNotes, is_unit, unit_or_new, with_more}
use Rattle.run_model.proofs.unit_laws.RestoredLemmas.{changed_of}
use Rattle.run_model.proofs.unit_laws.Tests.{or_one, or_other}
use Rattle.run_model.proofs.unit_laws.UnitLemmas.{found_changed, found_prepared, found_settled, is_prepared}
use Rattle.run_model.specs.commit_protocol.Messages.{LogRecord}
use Rattle.run_model.specs.commit_protocol.Table.{record_serials}
use Rattle.run_model.specs.commit_protocol.World.{In}
use Rattle.run_model.proofs.commit_protocol.Lists.{in_left, in_right, in_parts}
use Rattle.run_model.specs.Locks.{Lock, holder, is_lock_of, not_locked, is_locked, with_locks}
use Rattle.run_model.specs.World.{Durable, File, FollowOneAnother, OneMovesEndOf, Organization, Sequential, Relative, Indexed, find_file, keys_left, moved_end, relocked, relocked_by, relocked_for}
use Rattle.world_laws.proofs.IdLemmas.{id_is, in_map}
use Rattle.world_laws.proofs.EntryLemmas.{all_append, none_settles}
use Rattle.world_laws.proofs.HeldLemmas.{found_file_name, holder_more, holder_own, noted_at}
use Rattle.world_laws.proofs.PlainLemmas.{latest_of, plain_of, no_end}
use Rattle.run_model.proofs.commit_protocol.Serials.{in_serial}
use Rattle.world_laws.proofs.FindLemmas.{some_is}
use Rattle.world_laws.proofs.FoundLemmas.{itself}
use Rattle.world_laws.specs.Nodes.{IsFiled}

-- Changes that moved the end.

pub record IsIn (cs : List Change) (key : Key) (before : Option (List ℕ)) : Type 0 where
  pub change : Change
  pub there : In change cs
  pub key_is : change.key ≡ key
  pub before_is : change.before ≡ before

pub changed_in : (cs : List Change) (key : Key) → changes_key key cs ≡ true → (c : Change) × In c cs × (c.key ≡ key)
changed_in [] key e = let none : ⊥ = cc in absurd none
changed_in (c ∷ cs) key e = go (is_of key c) refl e (changed_in cs key)
  where
    go : (t : Bool) → is_of key c ≡ t → (t || changes_key key cs) ≡ true → (changes_key key cs ≡ true → (d : Change) × In d cs × (d.key ≡ key)) → (d : Change) × In d (c ∷ cs) × (d.key ≡ key)
    go true t k more = (c, inl refl, sym (same_key key c.key t))
    go false t k more = let r = more k in (r.0, inr r.1, r.2)

pub in_changed : (cs : List Change) (c : Change) → In c cs → changes_key c.key cs ≡ true
in_changed [] c i = absurd i
in_changed (d ∷ cs) c i = elim i [
  | inl e ↦ or_one (is_of c.key d) (changes_key c.key cs) (subst (λ (y : Change). is_of c.key y ≡ true) e (itself c.key))
  | inr more ↦ or_other (is_of c.key d) (changes_key c.key cs) (in_changed cs c more)
]

in_moves : (cs : List Change) (c : Change) → In c cs → is_none c.before ≡ true → moves_end cs ≡ true
in_moves [] c i e = absurd i
in_moves (d ∷ cs) c i e = elim i [
  | inl same ↦ or_one (is_none d.before || is_none d.after) (moves_end cs) (or_one (is_none d.before) (is_none d.after) (ap (λ (y : Change). is_none y.before) (sym same) ∙ e))
  | inr more ↦ or_other (is_none d.before || is_none d.after) (moves_end cs) (in_moves cs c more e)
]

latest_moves : (cs : List Change) (key : Key) → changes_key key cs ≡ true → is_none (latest_after cs key) ≡ true → moves_end cs ≡ true
latest_moves [] key h e = let none : ⊥ = cc in absurd none
latest_moves (c ∷ cs) key h e = go (is_of key c) h e (latest_moves cs key)
  where
    go : (t : Bool) → (t || changes_key key cs) ≡ true → is_none (if t then c.after else latest_after cs key) ≡ true → (changes_key key cs ≡ true → is_none (latest_after cs key) ≡ true → moves_end cs ≡ true) → moves_end (c ∷ cs) ≡ true
    go true h k more = or_one (is_none c.before || is_none c.after) (moves_end cs) (or_other (is_none c.before) (is_none c.after) k)
    go false h k more = or_other (is_none c.before || is_none c.after) (moves_end cs) (more h k)

-- where changes moved the end, one found no record, or leaves none
abbrev IsShown : List Change → Type 0
IsShown cs = ((c : Change) × In c cs × (is_none c.before ≡ true)) ⊎ ((key : Key) × (changes_key key cs ≡ true) × (is_none (latest_after cs key) ≡ true))

moves_shown : (cs : List Change) → FollowOneAnother cs → moves_end cs ≡ true → IsShown cs
moves_shown [] h e = let none : ⊥ = cc in absurd none
moves_shown (c ∷ cs) h e = go (is_none c.before) (is_none c.after) refl refl e (moves_shown cs h.2)
  where
    tail : (key : Key) → changes_key key cs ≡ true → is_none (latest_after cs key) ≡ true → (t : Bool) → is_of key c ≡ t → IsShown (c ∷ cs)
    tail key k l true t =
        let same = same_key key c.key t in
        let found = h.1 (ap (λ y. changes_key y cs) (sym same) ∙ k) in
        inl (c, inl refl, ap is_none (found ∙ ap (latest_after cs) (sym same)) ∙ l)
    tail key k l false t = inr (key, or_other (is_of key c) (changes_key key cs) k, rw t l)

    go : (b a : Bool) → is_none c.before ≡ b → is_none c.after ≡ a → ((b || a) || moves_end cs) ≡ true → (moves_end cs ≡ true → IsShown cs) → IsShown (c ∷ cs)
    go true a p q k more = inl (c, inl refl, p)
    go false true p q k more = inr (c.key, or_one (is_of c.key c) (changes_key c.key cs) (itself c.key), rw (itself c.key) q)
    go false false p q k more = elim (more k) [
      | inl r ↦ inl (r.0, inr r.1, r.2)
      | inr r ↦ tail r.0 r.1 r.2 (is_of r.0 c) refl
    ]

-- Notes and entries.

in_notes : (cs : List Change) (c : Change) → In c cs → In (note_of c) (map note_of cs)
in_notes cs c i = in_map note_of c cs i

pub noted_in : (cs : List Change) (n : Note) → In n (map note_of cs) → (c : Change) × In c cs × (n ≡ note_of c)
noted_in [] n i = absurd i
noted_in (c ∷ cs) n i = elim i [ inl e ↦ (c, inl refl, e) | inr more ↦ let r = noted_in cs n more in (r.0, inr r.1, r.2) ]

-- an entry of this note
abbrev IsEntryOf : Id → List ℕ → Note → JournalEntry → Type 0
IsEntryOf x file n (ChangeEntry tid by of key before) = (same_id x by ≡ true) × (bytes_eq file of ≡ true) × (n ≡ (key, before))
IsEntryOf x file n (PreparedEntry tid by) = ⊥
IsEntryOf x file n (SettledEntry tid by outcome moment) = ⊥

entry_of : (x : Id) (file : List ℕ) (es : List JournalEntry) (n : Note) → In n (notes_in x file es) → (e : JournalEntry) × In e es × IsEntryOf x file n e
entry_of x file [] n i = absurd i
entry_of x file (e ∷ es) n i = elim (in_parts n (notes_in x file es) (notes_of x file e) i) [
  | inl j ↦ let r = entry_of x file es n j in (r.0, inr r.1, r.2)
  | inr j ↦ (e, inl refl, here e j)
]
  where
    here : (e : JournalEntry) → In n (notes_of x file e) → IsEntryOf x file n e
    here (ChangeEntry tid by of key before) j = go (same_id x by) (bytes_eq file of) refl refl j
      where
        go : (a b : Bool) → same_id x by ≡ a → bytes_eq file of ≡ b → In n (if a && b then (key, before) ∷ [] else []) → (same_id x by ≡ true) × (bytes_eq file of ≡ true) × (n ≡ (key, before))
        go true true a b k = (a, b, elim k [ inl e ↦ e | inr none ↦ absurd none ])
        go true false a b k = absurd k
        go false b a e k = absurd k
    here (PreparedEntry tid by) j = absurd j
    here (SettledEntry tid by outcome moment) j = absurd j

pub note_there : (x : Id) (file : List ℕ) (es : List JournalEntry) (tid by : Id) (of : List ℕ) (key : Key) (before : Option (List ℕ)) → In (ChangeEntry tid by of key before) es → same_id x by ≡ true → bytes_eq file of ≡ true → In (key, before) (notes_in x file es)
note_there x file [] tid by of key before i a b = absurd i
note_there x file (e ∷ es) tid by of key before i a b = elim i [
  | inl same ↦ in_right (key, before) (notes_in x file es) (notes_of x file e) (subst (λ d. In (key, before) (notes_of x file d)) same (subst (λ t. In {A = Note} (key, before) (if t then (key, before) ∷ [] else [])) (sym (and_from _ _ a b)) (inl refl)))
  | inr more ↦ in_left (key, before) (notes_in x file es) (notes_of x file e) (note_there x file es tid by of key before more a b)
]

-- A branch with an entry of a change that is not settled is a unit.

still_unit : (x : Id) (es : List JournalEntry) (us : List RecoveryUnit) → AllByRecursion (λ (e : JournalEntry). is_settling x e ≡ false) es → is_some (find_unit x us) ≡ true → is_some (find_unit x (units_onto us es)) ≡ true
still_unit x [] us h e = e
still_unit x (ChangeEntry tid t file key before ∷ es) us h e = still_unit x es (with_one_change tid t us) h.1 (ap is_some (found_changed x tid t us) ∙ go (same_id x t))
  where
    go : (b : Bool) → is_some (if b then Some (with_more 1 (unit_or_new tid t (find_unit t us))) else find_unit x us) ≡ true
    go true = refl
    go false = e
still_unit x (PreparedEntry tid t ∷ es) us h e = still_unit x es (with_prepared t us) h.1 (ap is_some (found_prepared x t us) ∙ go (same_id x t) (find_unit x us) e)
  where
    go : (b : Bool) (o : Option RecoveryUnit) → is_some o ≡ true → is_some (if b then option_map is_prepared o else o) ≡ true
    go true (Some u) k = refl
    go true None k = k
    go false o k = k
still_unit x (SettledEntry tid t outcome moment ∷ es) us h e = still_unit x es (without_unit t us) h.1 (ap is_some (found_settled x t us) ∙ (ap (λ b. is_some (if b then None else find_unit x us)) h.0 ∙ e))

pub change_unit : (x : Id) (es : List JournalEntry) (us : List RecoveryUnit) (tid by : Id) (file : List ℕ) (key : Key) (before : Option (List ℕ)) → AllByRecursion (λ (e : JournalEntry). is_settling x e ≡ false) es → In (ChangeEntry tid by file key before) es → same_id x by ≡ true →
    is_some (find_unit x (units_onto us es)) ≡ true
change_unit x [] us tid by file key before h i a = absurd i
change_unit x (e ∷ es) us tid by file key before h i a = elim i [
  | inl same ↦ still_unit x es (units_after e us) h.1 (subst (λ d. is_some (find_unit x (units_after d us)) ≡ true) same
      (ap is_some (found_changed x tid by us) ∙ ap (λ b. is_some (if b then Some (with_more 1 (unit_or_new tid by (find_unit by us))) else find_unit x us)) a))
  | inr more ↦ change_unit x es (units_after e us) tid by file key before h.1 more a
]

-- Who holds what.

-- one branch changed a key, and one moved the end
pub one_changed : (x y : Id) (ls : List LiveChanges) (key : Key) → Apart ls → changes_key key (changes_by x ls) ≡ true → changes_key key (changes_by y ls) ≡ true → x ≡ y
one_changed x y [] key a h k = let none : ⊥ = cc in absurd none
one_changed x y (l ∷ ls) key a h k = go (same_id x l.serial) (same_id y l.serial) refl refl h k (one_changed x y ls key a.1)
  where
    go : (s t : Bool) → same_id x l.serial ≡ s → same_id y l.serial ≡ t → changes_key key (if s then l.changes else changes_by x ls) ≡ true → changes_key key (if t then l.changes else changes_by y ls) ≡ true →
        (changes_key key (changes_by x ls) ≡ true → changes_key key (changes_by y ls) ≡ true → x ≡ y) → x ≡ y
    go true true s t h k more = id_is x l.serial s ∙ sym (id_is y l.serial t)
    go true false s t h k more = absurd (both_ways _ (a.0 key h) (changed_of y ls key k))
    go false true s t h k more = absurd (both_ways _ (a.0 key k) (changed_of x ls key h))
    go false false s t h k more = more h k

none_moved : (y : Id) (ls : List LiveChanges) → AllByRecursion (λ (k : LiveChanges). moves_end k.changes ≡ false) ls → moves_end (changes_by y ls) ≡ true → ⊥
none_moved y [] a e = let none : ⊥ = cc in none
none_moved y (l ∷ ls) a e = go (same_id y l.serial) e (none_moved y ls a.1)
  where
    go : (t : Bool) → moves_end (if t then l.changes else changes_by y ls) ≡ true → (moves_end (changes_by y ls) ≡ true → ⊥) → ⊥
    go true k more = both_ways _ a.0 k
    go false k more = more k

pub one_moved : (x y : Id) (ls : List LiveChanges) → OneMovesEnd ls → moves_end (changes_by x ls) ≡ true → moves_end (changes_by y ls) ≡ true → x ≡ y
one_moved x y [] a h k = let none : ⊥ = cc in absurd none
one_moved x y (l ∷ ls) a h k = go (same_id x l.serial) (same_id y l.serial) refl refl h k (one_moved x y ls a.1)
  where
    go : (s t : Bool) → same_id x l.serial ≡ s → same_id y l.serial ≡ t → moves_end (if s then l.changes else changes_by x ls) ≡ true → moves_end (if t then l.changes else changes_by y ls) ≡ true → (moves_end (changes_by x ls) ≡ true → moves_end (changes_by y ls) ≡ true → x ≡ y) → x ≡ y
    go true true s t h k more = id_is x l.serial s ∙ sym (id_is y l.serial t)
    go true false s t h k more = absurd (none_moved y ls (a.0 h) k)
    go false true s t h k more = absurd (none_moved x ls (a.0 k) h)
    go false false s t h k more = more h k

all_not_locked : (P : Key → Type 0) (ls : List Lock) (file : List ℕ) (ks : List Key) → ((k : Key) → In k ks → P k) → (k : Key) → In k (not_locked ls file ks) → P k
all_not_locked P ls file [] f k i = absurd i
all_not_locked P ls file (j ∷ ks) f k i = go (is_locked ls file j) i (all_not_locked P ls file ks (λ y m. f y (inr m)) k)
  where
    go : (b : Bool) → In k (if b then not_locked ls file ks else j ∷ not_locked ls file ks) → (In k (not_locked ls file ks) → P k) → P k
    go true m more = more m
    go false m more = elim m [ inl e ↦ f k (inl e) | inr rest ↦ more rest ]

all_with : (P : Lock → Type 0) (serial : Id) (file : List ℕ) (ks : List Key) (ls : List Lock) → ((k : Key) → In k ks → P (record { file = file; key = k; by = serial })) → AllByRecursion P ls → AllByRecursion P (with_locks serial file ks ls)
all_with P serial file ks ls f h =
    all_append P (map (λ k. record { file = file; key = k; by = serial }) (not_locked ls file ks)) ls (each (not_locked ls file ks) (all_not_locked (λ k. P (record { file = file; key = k; by = serial })) ls file ks f)) h
  where
    each : (js : List Key) → ((k : Key) → In k js → P (record { file = file; key = k; by = serial })) → AllByRecursion P (map (λ k. record { file = file; key = k; by = serial }) js)
    each [] g = tt
    each (j ∷ js) g = (g j (inl refl), each js (λ k i. g k (inr i)))

-- the branch that holds a key has a lock of it
pub holder_so : (P : List ℕ → Key → Id → Type 0) (ls : List Lock) (file : List ℕ) (key : Key) (y : Id) → AllByRecursion (λ (l : Lock). P l.file l.key l.by) ls → holder ls file key ≡ Some y → P file key y
holder_so P [] file key y h e = let none : ⊥ = cc in absurd none
holder_so P (l ∷ ls) file key y h e = go (is_lock_of file key l) refl e (holder_so P ls file key y h.1)
  where
    go : (t : Bool) → is_lock_of file key l ≡ t → ◌≡◌ {A = Option Id} (if t then Some l.by else holder ls file key) (Some y) → (holder ls file key ≡ Some y → P file key y) → P file key y
    go true t k more =
        let parts = and_parts _ _ t in
        subst (λ f. P f key y) (sym ((bytes_eq-Decides file l.file).0 parts.0)) (subst (λ q. P l.file q y) (sym (same_key key l.key parts.1)) (subst (P l.file l.key) (some_is l.by y k) h.0))
    go false t k more = more k

-- someone holds a key
abbrev pub IsTaken : List Lock → List ℕ → Key → Type 0
IsTaken ls file key = (y : Id) × (holder ls file key ≡ Some y)

taken_more : (serial : Id) (file : List ℕ) (ks : List Key) (ls : List Lock) (other : List ℕ) (key : Key) → IsTaken ls other key → IsTaken (with_locks serial file ks ls) other key
taken_more serial file ks ls other key t = (t.0, holder_more serial file ks ls other key t.0 t.1)

taken_own : (serial : Id) (file : List ℕ) (ks : List Key) (ls : List Lock) (key : Key) → In key ks → IsTaken (with_locks serial file ks ls) file key
taken_own serial file ks ls key i = go (holder ls file key) refl
  where
    go : (o : Option Id) → holder ls file key ≡ o → IsTaken (with_locks serial file ks ls) file key
    go (Some y) e = (y, holder_more serial file ks ls file key y e)
    go None e = (serial, holder_own serial file ks ls key i (inl e))

-- Locks of a boot.

-- what a lock is for: its branch changed the key, or moved the end
abbrev pub IsFor : List (Option File) → List ℕ → Key → Id → Type 0
IsFor fs file key y = (f : File) → find_file file fs ≡ Some f → (changes_key key (changes_by y f.history.live) ≡ true) ⊎ ((key ≡ End) × (f.organization ≡ Sequential) × (moves_end (changes_by y f.history.live) ≡ true))

module _ (d : Durable) (name : List ℕ) (h : IsFiled name d) where
  -- of an entry of a unit
  pub entry_for : (x : Id) (tid by : Id) (file : List ℕ) (key : Key) (before : Option (List ℕ)) (f : File) → is_unit x d.units ≡ true → In (ChangeEntry tid by file key before) d.units.entries → same_id x by ≡ true → find_file file d.directory ≡ Some f →
      (k : Key) → In k (keys_left f key before) → IsFor d.directory file k x
  entry_for x tid by file key before f u i a found k j g there =
      let n = noted_at d.units file d.directory f h.can found in
      let note = subst (In (key, before)) (n.notes x u) (subst (λ y. In (key, before) (notes_in x y d.units.entries)) (sym (found_file_name file d.directory f found)) (note_there x file d.units.entries tid by file key before i a ((bytes_eq-Decides file file).1 refl))) in
      let c = noted_in (changes_by x f.history.live) (key, before) note in
      let key_is : key ≡ (c.0).key = ap (λ (m : Note). m.0) c.2 in
      let before_is : before ≡ (c.0).before = ap (λ (m : Note). m.1) c.2 in
      let changed : changes_key key (changes_by x f.history.live) ≡ true = subst (λ y. changes_key y (changes_by x f.history.live) ≡ true) (sym key_is) (in_changed (changes_by x f.history.live) c.0 c.1) in
      subst (λ (w : File). (changes_key k (changes_by x w.history.live) ≡ true) ⊎ ((k ≡ End) × (w.organization ≡ Sequential) × (moves_end (changes_by x w.history.live) ≡ true))) (some_is f g (sym found ∙ there))
      (of f.organization refl changed (λ e. elim (either (is_none before) (is_none (get (current f.history) key)) refl refl e) [
        | inl b ↦ in_moves (changes_by x f.history.live) c.0 c.1 (ap is_none (sym before_is) ∙ b)
        | inr b ↦ latest_moves (changes_by x f.history.live) key changed (ap is_none (sym (latest f n key changed)) ∙ b)
      ]) k j)
    where
      either : (p q : Bool) → is_none before ≡ p → is_none (get (current f.history) key) ≡ q → (p || q) ≡ true → (is_none before ≡ true) ⊎ (is_none (get (current f.history) key) ≡ true)
      either true q p r e = inl p
      either false true p r e = inr r
      either false false p r e = let none : ⊥ = cc in absurd none

      latest : (f : File) → HasNotes d.units f.name f.history → (key : Key) → changes_key key (changes_by x f.history.live) ≡ true → get (current f.history) key ≡ latest_after (changes_by x f.history.live) key
      latest f n key e = latest_of x f.history.live (map_in (current f.history)) n.orderly.latest key e

      of : (o : Organization) → f.organization ≡ o → changes_key key (changes_by x f.history.live) ≡ true → (moved_end (get (current f.history) key) before ≡ true → moves_end (changes_by x f.history.live) ≡ true) → (k : Key) →
          In k (elim o [ Sequential ↦ (if moved_end (get (current f.history) key) before then key ∷ End ∷ [] else key ∷ []) | Relative greatest ↦ key ∷ [] | Indexed position size ↦ key ∷ [] ]) →
          (changes_key k (changes_by x f.history.live) ≡ true) ⊎ ((k ≡ End) × (f.organization ≡ Sequential) × (moves_end (changes_by x f.history.live) ≡ true))
      of Sequential is c m k j = at (moved_end (get (current f.history) key) before) refl j
        where
          at : (b : Bool) → moved_end (get (current f.history) key) before ≡ b → In k (if b then key ∷ End ∷ [] else key ∷ []) → (changes_key k (changes_by x f.history.live) ≡ true) ⊎ ((k ≡ End) × (f.organization ≡ Sequential) × (moves_end (changes_by x f.history.live) ≡ true))
          at true b j = elim j [ inl e ↦ inl (subst (λ y. changes_key y (changes_by x f.history.live) ≡ true) (sym e) c) | inr r ↦ elim r [ inl e ↦ inr (e, is, m b) | inr none ↦ absurd none ] ]
          at false b j = elim j [ inl e ↦ inl (subst (λ y. changes_key y (changes_by x f.history.live) ≡ true) (sym e) c) | inr none ↦ absurd none ]
      of (Relative greatest) is c m k j = elim j [ inl e ↦ inl (subst (λ y. changes_key y (changes_by x f.history.live) ≡ true) (sym e) c) | inr none ↦ absurd none ]
      of (Indexed position size) is c m k j = elim j [ inl e ↦ inl (subst (λ y. changes_key y (changes_by x f.history.live) ≡ true) (sym e) c) | inr none ↦ absurd none ]

  module _ (P : List ℕ → Key → Id → Type 0) where
    -- locks of one branch, whose entries are such
    by_sound : (x : Id) (es : List JournalEntry) (ls : List Lock) → ((tid by : Id) (file : List ℕ) (key : Key) (before : Option (List ℕ)) (f : File) → In (ChangeEntry tid by file key before) es → same_id x by ≡ true → find_file file d.directory ≡ Some f → (k : Key) → In k (keys_left f key before) → P file k x) →
        AllByRecursion (λ (l : Lock). P l.file l.key l.by) ls → AllByRecursion (λ (l : Lock). P l.file l.key l.by) (relocked_by x d.directory es ls)
    by_sound x [] ls g a = a
    by_sound x (PreparedEntry tid t ∷ es) ls g a = by_sound x es ls (λ tid by file key before f i. g tid by file key before f (inr i)) a
    by_sound x (SettledEntry tid t outcome moment ∷ es) ls g a = by_sound x es ls (λ tid by file key before f i. g tid by file key before f (inr i)) a
    by_sound x (ChangeEntry tid by file key before ∷ es) ls g a = by_sound x es (relocked_for x d.directory (ChangeEntry tid by file key before) ls) (λ tid by file key before f i. g tid by file key before f (inr i)) (go (same_id x by) refl)
      where
        at : same_id x by ≡ true → (o : Option File) → find_file file d.directory ≡ o → AllByRecursion (λ (l : Lock). P l.file l.key l.by) (elim o [ Some f ↦ with_locks x file (keys_left f key before) ls | None ↦ ls ])
        at t (Some f) found = all_with (λ (l : Lock). P l.file l.key l.by) x file (keys_left f key before) ls (λ k j. g tid by file key before f (inl refl) t found k j) a
        at t None found = a

        go : (t : Bool) → same_id x by ≡ t → AllByRecursion (λ (l : Lock). P l.file l.key l.by) (if t then elim (find_file file d.directory) [ Some f ↦ with_locks x file (keys_left f key before) ls | None ↦ ls ] else ls)
        go true t = at t (find_file file d.directory) refl
        go false t = a

    pub all_sound : (rs : List LogRecord) (ls : List Lock) → ((r : LogRecord) → In r rs → (tid by : Id) (file : List ℕ) (key : Key) (before : Option (List ℕ)) (f : File) → In (ChangeEntry tid by file key before) d.units.entries → same_id r.serial by ≡ true → find_file file d.directory ≡ Some f →
        (k : Key) → In k (keys_left f key before) → P file k r.serial) → AllByRecursion (λ (l : Lock). P l.file l.key l.by) ls → AllByRecursion (λ (l : Lock). P l.file l.key l.by) (relocked rs d ls)
    all_sound [] ls g a = a
    all_sound (r ∷ rs) ls g a = all_sound rs (relocked_by r.serial d.directory d.units.entries ls) (λ q i. g q (inr i)) (by_sound r.serial d.units.entries ls (g r (inl refl)) a)

  -- what is taken stays so
  by_taken : (x : Id) (es : List JournalEntry) (ls : List Lock) (file : List ℕ) (key : Key) → IsTaken ls file key → IsTaken (relocked_by x d.directory es ls) file key
  by_taken x [] ls file key t = t
  by_taken x (PreparedEntry tid s ∷ es) ls file key t = by_taken x es ls file key t
  by_taken x (SettledEntry tid s outcome moment ∷ es) ls file key t = by_taken x es ls file key t
  by_taken x (ChangeEntry tid by other k before ∷ es) ls file key t = by_taken x es (relocked_for x d.directory (ChangeEntry tid by other k before) ls) file key (go (same_id x by) (find_file other d.directory))
    where
      go : (b : Bool) (o : Option File) → IsTaken (if b then elim o [ Some f ↦ with_locks x other (keys_left f k before) ls | None ↦ ls ] else ls) file key
      go true (Some f) = taken_more x other (keys_left f k before) ls file key t
      go true None = t
      go false o = t

  all_taken : (rs : List LogRecord) (ls : List Lock) (file : List ℕ) (key : Key) → IsTaken ls file key → IsTaken (relocked rs d ls) file key
  all_taken [] ls file key t = t
  all_taken (r ∷ rs) ls file key t = all_taken rs (relocked_by r.serial d.directory d.units.entries ls) file key (by_taken r.serial d.units.entries ls file key t)

  -- an entry of a branch takes its keys
  entry_taken : (x : Id) (es : List JournalEntry) (ls : List Lock) (tid by : Id) (file : List ℕ) (key : Key) (before : Option (List ℕ)) (f : File) → In (ChangeEntry tid by file key before) es → same_id x by ≡ true → find_file file d.directory ≡ Some f → (k : Key) → In k (keys_left f key before) →
      IsTaken (relocked_by x d.directory es ls) file k
  entry_taken x [] ls tid by file key before f i a found k j = absurd i
  entry_taken x (e ∷ es) ls tid by file key before f i a found k j = elim i [
    | inl same ↦ by_taken x es (relocked_for x d.directory e ls) file k (subst (λ c. IsTaken (relocked_for x d.directory c ls) file k) same (here (same_id x by) a (find_file file d.directory) found))
    | inr more ↦ entry_taken x es (relocked_for x d.directory e ls) tid by file key before f more a found k j
  ]
    where
      here : (t : Bool) → t ≡ true → (o : Option File) → o ≡ Some f → IsTaken (if t then elim o [ Some g ↦ with_locks x file (keys_left g key before) ls | None ↦ ls ] else ls) file k
      here true t (Some g) e = taken_own x file (keys_left g key before) ls k (subst (λ (w : File). In k (keys_left w key before)) (sym (some_is g f e)) j)
      here true t None e = let none : ⊥ = cc in absurd none
      here false t o e = let none : ⊥ = cc in absurd none

  record_taken : (rs : List LogRecord) (ls : List Lock) (r : LogRecord) → In r rs → (tid by : Id) (file : List ℕ) (key : Key) (before : Option (List ℕ)) (f : File) → In (ChangeEntry tid by file key before) d.units.entries → same_id r.serial by ≡ true → find_file file d.directory ≡ Some f →
      (k : Key) → In k (keys_left f key before) → IsTaken (relocked rs d ls) file k
  record_taken [] ls r i tid by file key before f e a found k j = absurd i
  record_taken (q ∷ rs) ls r i tid by file key before f e a found k j = elim i [
    | inl same ↦ all_taken rs (relocked_by q.serial d.directory d.units.entries ls) file k (entry_taken q.serial d.units.entries ls tid by file key before f e (subst (λ (w : LogRecord). same_id w.serial by ≡ true) same a) found k j)
    | inr more ↦ record_taken rs (relocked_by q.serial d.directory d.units.entries ls) r more tid by file key before f e a found k j
  ]

  -- Of records of branches that are not settled.
  module _ (rs : List LogRecord) (unsettled : (r : LogRecord) → In r rs → is_settled_in r.serial d.units.entries ≡ false) where
    abbrev locks : List Lock
    locks = relocked rs d []

    sound : AllByRecursion (λ (l : Lock). IsFor d.directory l.file l.key l.by) locks
    sound = all_sound (IsFor d.directory) rs [] (λ r i tid by file key before f e a found k j.
        entry_for r.serial tid by file key before f (change_unit r.serial d.units.entries [] tid by file key before (none_settles r.serial d.units.entries (unsettled r i)) e a) e a found k j) tt

    -- a note of a branch's change
    noted : (r : LogRecord) (f : File) (file : List ℕ) → find_file file d.directory ≡ Some f → is_unit r.serial d.units ≡ true → (c : Change) → In c (changes_by r.serial f.history.live) → (e : JournalEntry) × In e d.units.entries × IsEntryOf r.serial file (note_of c) e
    noted r f file found u c i =
        let n = noted_at d.units file d.directory f h.can found in
        entry_of r.serial file d.units.entries (note_of c) (subst (λ y. In (note_of c) (notes_in r.serial y d.units.entries)) (found_file_name file d.directory f found) (subst (In (note_of c)) (sym (n.notes r.serial u)) (in_notes (changes_by r.serial f.history.live) c i)))

    taken : (r : LogRecord) → In r rs → (f : File) (file : List ℕ) → find_file file d.directory ≡ Some f → is_unit r.serial d.units ≡ true → (c : Change) → In c (changes_by r.serial f.history.live) → (k : Key) → In k (keys_left f c.key c.before) → IsTaken locks file k
    taken r i f file found u c j k m = let q = noted r f file found u c j in at q.0 q.1 q.2
      where
        at : (e : JournalEntry) → In e d.units.entries → IsEntryOf r.serial file (note_of c) e → IsTaken locks file k
        at (ChangeEntry tid by of key before) l p =
            let key_is : c.key ≡ key = ap (λ (z : Note). z.0) p.2 in
            let before_is : c.before ≡ before = ap (λ (z : Note). z.1) p.2 in
            let file_is = (bytes_eq-Decides file of).0 p.1 in
            subst (λ y. IsTaken locks y k) (sym file_is) (record_taken rs [] r i tid by of key before f l p.0 (subst (λ y. find_file y d.directory ≡ Some f) file_is found) k (subst (λ y. In k (keys_left f y before)) key_is (subst (λ b. In k (keys_left f c.key b)) before_is m)))
        at (PreparedEntry tid by) l p = absurd p
        at (SettledEntry tid by outcome moment) l p = absurd p

    own_key : (f : File) (c : Change) → In c.key (keys_left f c.key c.before)
    own_key f c = go f.organization
      where
        pick : (b : Bool) → In c.key (if b then c.key ∷ End ∷ [] else c.key ∷ [])
        pick true = inl refl
        pick false = inl refl

        go : (o : Organization) → In c.key (elim o [ Sequential ↦ (if moved_end (get (current f.history) c.key) c.before then c.key ∷ End ∷ [] else c.key ∷ []) | Relative greatest ↦ c.key ∷ [] | Indexed position size ↦ c.key ∷ [] ])
        go Sequential = pick (moved_end (get (current f.history) c.key) c.before)
        go (Relative greatest) = inl refl
        go (Indexed position size) = inl refl

    -- each key that such a branch changed is held by it
    pub left_held : (r : LogRecord) → In r rs → is_unit r.serial d.units ≡ true → (f : File) (file : List ℕ) → find_file file d.directory ≡ Some f → (key : Key) → changes_key key (changes_by r.serial f.history.live) ≡ true → holder locks file key ≡ Some r.serial
    left_held r i u f file found key e =
        let c = changed_in (changes_by r.serial f.history.live) key e in
        let t = subst (IsTaken locks file) c.2 (taken r i f file found u c.0 c.1 (c.0).key (own_key f c.0)) in
        let who = holder_so (IsFor d.directory) locks file key t.0 sound t.1 f found in
        t.1 ∙ ap Some (elim who [
          | inl k ↦ one_changed t.0 r.serial f.history.live key (noted_at d.units file d.directory f h.can found).orderly.represents.apart k e
          | inr k ↦ absurd (both_ways _ (end_free r.serial) (subst (λ y. changes_key y (changes_by r.serial f.history.live) ≡ true) k.0 e))
        ])
      where
        end_free : (x : Id) → changes_key End (changes_by x f.history.live) ≡ false
        end_free x = no_end (changes_by x f.history.live) (plain_of (changes_by x f.history.live) ((h.plain file f found).follow x))

    -- and so is the end of a sequential file that it moved
    pub left_end : (r : LogRecord) → In r rs → is_unit r.serial d.units ≡ true → (f : File) (file : List ℕ) → find_file file d.directory ≡ Some f → f.organization ≡ Sequential → moves_end (changes_by r.serial f.history.live) ≡ true → holder locks file End ≡ Some r.serial
    left_end r i u f file found is m =
        let t : IsTaken locks file End = elim (moves_shown (changes_by r.serial f.history.live) ((h.plain file f found).follow r.serial) m) [
          | inl c ↦ taken r i f file found u c.0 c.1 End (with_end c.0 (or_one (is_none (c.0).before) _ c.2))
          | inr k ↦ (let c = changed_in (changes_by r.serial f.history.live) k.0 k.1 in
              taken r i f file found u c.0 c.1 End (with_end c.0 (or_other (is_none (c.0).before) _ (subst (λ y. is_none (get (current f.history) y) ≡ true) (sym c.2) (ap is_none (latest k.0 k.1) ∙ k.2)))))
        ] in
        let who = holder_so (IsFor d.directory) locks file End t.0 sound t.1 f found in
        t.1 ∙ ap Some (elim who [
          | inl k ↦ absurd (both_ways _ (end_free t.0) k)
          | inr k ↦ one_moved t.0 r.serial f.history.live (subst (λ o. OneMovesEndOf o f.history.live) is (h.one file f found)) k.2 m
        ])
      where
        end_free : (x : Id) → changes_key End (changes_by x f.history.live) ≡ false
        end_free x = no_end (changes_by x f.history.live) (plain_of (changes_by x f.history.live) ((h.plain file f found).follow x))

        latest : (key : Key) → changes_key key (changes_by r.serial f.history.live) ≡ true → get (current f.history) key ≡ latest_after (changes_by r.serial f.history.live) key
        latest key e = latest_of r.serial f.history.live (map_in (current f.history)) (noted_at d.units file d.directory f h.can found).orderly.latest key e

        with_end : (c : Change) → moved_end (get (current f.history) c.key) c.before ≡ true → In End (keys_left f c.key c.before)
        with_end c e = subst (λ o. In End (elim o [ Sequential ↦ (if moved_end (get (current f.history) c.key) c.before then c.key ∷ End ∷ [] else c.key ∷ []) | Relative greatest ↦ c.key ∷ [] | Indexed position size ↦ c.key ∷ [] ])) (sym is)
            (subst (λ b. In End (if b then c.key ∷ End ∷ [] else c.key ∷ [])) (sym e) (inr (inl refl)))

    -- and only they hold keys
    pub left_by : AllByRecursion (λ (l : Lock). In l.by (record_serials rs)) locks
    left_by = all_sound (λ file key x. In x (record_serials rs)) rs [] (λ r i tid by file key before f e a found k j. in_serial r rs i) tt
