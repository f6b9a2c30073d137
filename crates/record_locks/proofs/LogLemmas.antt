-- Which locks of a log are held as turns begin, go on and end.
use Rattle.std.proofs.Common.{◌≡◌, ℕ, zero, suc, ◌+◌, ◌*◌, ◌≤◌, ◌<◌, ◌==◌, Bool, true, false, List, [], ◌∷◌, ◌++◌, length, take, Option, Some, None, slice_get, cond, if◌then◌else◌, refl, sym, ap, subst, ◌∙◌, arith}
use Rattle.std.proofs.lemmas.Bool.{false≢true}
use Rattle.std.proofs.lemmas.Bool.Decides.{Decides-eqb}
use Rattle.std.proofs.lemmas.List.{length-append}
use Rattle.std.specs.List.{AllByRecursion, IsDistinct}
use Rattle.std.specs.Map.{keys_of, lookup}
use Rattle.table_keys.specs.IdLaws.{same_id_decides, same_id_itself, same_id_turned}
use Rattle.table_keys.specs.declared.key.BranchKey.{BranchKey}
use Rattle.vms_base.specs.vms_model.Ids.{Id}
use Rattle.vms_base.specs.Ids.{serial_of}
use Rattle.vms_base.specs.declared.ids.Serial.{Serial}
use Rattle.table_keys.specs.records_model.History.{same_id}
use Rattle.table_keys.specs.declared.place.Place.{Place}
use Rattle.record_locks.specs.declared.turns.Turn.{Turn}
use Rattle.record_locks.specs.declared.turns.Hold.{Hold}
use Rattle.record_locks.specs.declared.lock_log.Entry.{Entry}
use Rattle.record_locks.specs.Table.{others_of}
use Rattle.table_keys.specs.Places.{same_place}
use Rattle.record_locks.specs.Turns.{LogSaid, turn_of, began_at, is_now, held_now, found_now, turn_count, one_more, count_of, with_held, IsTable}
use Rattle.record_locks.proofs.LockLemmas.{no_some, turned, other_than, others_looked}

same_branch_is : (a b : Serial) → same_id (serial_of a) (serial_of b) ≡ true → serial_of a ≡ serial_of b
same_branch_is a b e = (same_id_decides (serial_of a) (serial_of b)).0 e

same_number : (n : ℕ) → (n == n) ≡ true
same_number n = (Decides-eqb n n).1 refl

not_true : (b : Bool) → (b ≡ true → ⊥) → b ≡ false
not_true true never = absurd (never refl)
not_true false never = refl

earlier : (n m : ℕ) → m < n → (n == m) ≡ false
earlier n m lt = not_true (n == m) (λ e. let same = (Decides-eqb n m).0 e in absurd (omega (arith, same, lt)))

-- branches have their turns by their ids
abbrev pub IsByIds : (Serial → Option Turn) → Type 0
IsByIds turn = (a b : Serial) → same_id (serial_of a) (serial_of b) ≡ true → turn a ≡ turn b

-- one branch has this turn now, and the others have theirs
abbrev pub IsTurned : (old new : Serial → Option Turn) → Serial → Turn → Type 0
IsTurned old new by turn = (q : Serial) → new q ≡ cond (same_id (serial_of by) (serial_of q)) (Some turn) (old q)

pub turns_by_ids : (turns : List (BranchKey × Turn)) → IsByIds (turn_of turns)
turns_by_ids turns a b e = ap (λ (id : Id). lookup (λ (k : BranchKey). same_id id (serial_of k.serial)) turns) (same_branch_is a b e)

-- a list with one more behind it
held_behind : (turn : Serial → Option Turn) (log : List Entry) (e : Entry) → held_now turn (log ++ e ∷ []) ≡ held_now turn log ++ (if is_now turn e.hold then (e.place, e.hold.by) ∷ [] else [])
held_behind turn [] e = refl
held_behind turn (x ∷ log) e =
    ap (λ (r : List (Place × Serial)). if is_now turn x.hold then (x.place, x.hold.by) ∷ r else r) (held_behind turn log e)
    ∙ either (is_now turn x.hold) (held_now turn log) (if is_now turn e.hold then (e.place, e.hold.by) ∷ [] else [])
  where
    either : (b : Bool) (r s : List (Place × Serial)) → (if b then (x.place, x.hold.by) ∷ (r ++ s) else r ++ s) ≡ (if b then (x.place, x.hold.by) ∷ r else r) ++ s
    either true r s = refl
    either false r s = refl

abbrev or_last_one : Option Serial → Option Serial → Option Serial
or_last_one None last = last
or_last_one (Some by) last = Some by

nothing_last : (o : Option Serial) → o ≡ or_last_one o None
nothing_last None = refl
nothing_last (Some by) = refl

lookup_behind : (test : Place → Bool) (es : List (Place × Serial)) (e : Place × Serial) → lookup test (es ++ e ∷ []) ≡ or_last_one (lookup test es) (cond (test e.0) (Some e.1) None)
lookup_behind test [] e = refl
lookup_behind test (x ∷ es) e = ap (λ (o : Option Serial). cond (test x.0) (Some x.1) o) (lookup_behind test es e) ∙ either (test x.0)
  where
    either : (b : Bool) → cond b (Some x.1) (or_last_one (lookup test es) (cond (test e.0) (Some e.1) None)) ≡ or_last_one (cond b (Some x.1) (lookup test es)) (cond (test e.0) (Some e.1) None)
    either true = refl
    either false = refl

count_behind : (serial : Id) (es : List (Place × Serial)) (e : Place × Serial) → count_of serial (es ++ e ∷ []) ≡ count_of serial es + (if same_id serial (serial_of e.1) then 1 else 0)
count_behind serial [] e = either (same_id serial (serial_of e.1))
  where
    either : (b : Bool) → (if b then suc 0 else 0) ≡ 0 + (if b then 1 else 0)
    either true = refl
    either false = refl
count_behind serial (x ∷ es) e =
    ap (λ (m : ℕ). if same_id serial (serial_of x.1) then suc m else m) (count_behind serial es e) ∙ either (same_id serial (serial_of x.1)) (count_of serial es) (if same_id serial (serial_of e.1) then 1 else 0)
  where
    either : (b : Bool) (m k : ℕ) → (if b then suc (m + k) else m + k) ≡ (if b then suc m else m) + k
    either true m k = omega arith
    either false m k = refl

pub before_behind : (log : List Entry) (e : Entry) (n m : ℕ) → AllByRecursion (λ (x : Entry). x.hold.since < n) log → n ≤ m → e.hold.since < m → AllByRecursion (λ (x : Entry). x.hold.since < m) (log ++ e ∷ [])
before_behind [] e n m before most lt = (lt, tt)
before_behind (x ∷ log) e n m before most lt = let first = before.0 in (omega (arith, first, most), before_behind log e n m before.1 most lt)

apart_behind : (p q : Place) (by : Serial) (es : List (Place × Serial)) → AllByRecursion (λ y. same_place q y ≡ false) (keys_of es) → same_place q p ≡ false → AllByRecursion (λ y. same_place q y ≡ false) (keys_of (es ++ (p, by) ∷ []))
apart_behind p q by [] apart other = (other, tt)
apart_behind p q by (e ∷ es) apart other = (apart.0, apart_behind p q by es apart.1 other)

no_cond : (b : Bool) (s : Serial) (o : Option Serial) → cond b (Some s) o ≡ None → b ≡ false
no_cond true s o none = absurd (no_some (sym none))
no_cond false s o none = refl

no_later : (b : Bool) (s : Serial) (o : Option Serial) → cond b (Some s) o ≡ None → o ≡ None
no_later true s o none = absurd (no_some (sym none))
no_later false s o none = none

pub distinct_behind : (p : Place) (by : Serial) (es : List (Place × Serial)) → IsDistinct same_place (keys_of es) → lookup (same_place p) es ≡ None → IsDistinct same_place (keys_of (es ++ (p, by) ∷ []))
unfolding IsDistinct
distinct_behind p by [] apart none = (tt, tt)
distinct_behind p by (e ∷ es) apart none = (
  apart_behind p e.0 by es apart.0 (turned e.0 p ∙ no_cond (same_place p e.0) e.1 (lookup (same_place p) es) none),
  distinct_behind p by es apart.1 (no_later (same_place p e.0) e.1 (lookup (same_place p) es) none),
)

-- a turn that begins or goes on
goes_on : (n since : ℕ) (o : Option Turn) → since < n → began_at (Some (one_more n o)) since ≡ began_at o since
goes_on n since None lt = earlier n since lt
goes_on n since (Some t) lt = refl

module _ (old new : Serial → Option Turn) (by : Serial) (n : ℕ) (more : IsTurned old new by (one_more n (old by))) (alike : IsByIds old) where
  is_kept : (h : Hold) → h.since < n → is_now new h ≡ is_now old h
  is_kept h lt = ap (λ (o : Option Turn). began_at o h.since) (more h.by) ∙ either (same_id (serial_of by) (serial_of h.by)) (alike by h.by)
    where
      either : (b : Bool) → (b ≡ true → old by ≡ old h.by) → began_at (cond b (Some (one_more n (old by))) (old h.by)) h.since ≡ began_at (old h.by) h.since
      either true same = goes_on n h.since (old by) lt ∙ ap (λ (o : Option Turn). began_at o h.since) (same refl)
      either false same = refl

  held_kept : (log : List Entry) → AllByRecursion (λ (e : Entry). e.hold.since < n) log → held_now new log ≡ held_now old log
  held_kept [] before = refl
  held_kept (e ∷ log) before =
      let kept = is_kept e.hold before.0 in
      let rest = held_kept log before.1 in
      λ i. if kept i then (e.place, e.hold.by) ∷ rest i else rest i

  is_held_now : is_now new (record { by = by; since = (one_more n (old by)).since }) ≡ true
  is_held_now =
      ap (λ (o : Option Turn). began_at o (one_more n (old by)).since) (more by ∙ ap (λ (b : Bool). cond b (Some (one_more n (old by))) (old by)) (same_id_itself (serial_of by)))
      ∙ same_number (one_more n (old by)).since

  pub held_added : (log : List Entry) (p : Place) → AllByRecursion (λ (e : Entry). e.hold.since < n) log
      → held_now new (log ++ record { place = p; hold = record { by = by; since = (one_more n (old by)).since } } ∷ []) ≡ held_now old log ++ (p, by) ∷ []
  held_added log p before =
      held_behind new log (record { place = p; hold = record { by = by; since = (one_more n (old by)).since } })
      ∙ (λ i. held_kept log before i ++ (if is_held_now i then (p, by) ∷ [] else []))

  -- who holds a key, once this branch locked the key p
  pub found_added : (p q : Place) (held : List (Place × Serial)) (latest : Place → Option Hold) (now : Option Hold) → ((h : Hold) → latest q ≡ Some h → h.since < n) → found_now old (latest q) ≡ lookup (same_place q) held
      → now ≡ cond (same_place p q) (Some (record { by = by; since = (one_more n (old by)).since })) (latest q) → (same_place p q ≡ true → lookup (same_place q) held ≡ None)
      → found_now new now ≡ lookup (same_place q) (held ++ (p, by) ∷ [])
  found_added p q held latest now before found is free =
      ap (found_now new) is ∙ either (same_place p q) (latest q) (lookup (same_place q) held) before found free
      ∙ ap (λ (b : Bool). or_last_one (lookup (same_place q) held) (cond b (Some by) None)) (turned p q) ∙ sym (lookup_behind (same_place q) held (p, by))
    where
      either : (b : Bool) (o : Option Hold) (r : Option Serial) → ((h : Hold) → o ≡ Some h → h.since < n) → found_now old o ≡ r → (b ≡ true → r ≡ None)
          → found_now new (cond b (Some (record { by = by; since = (one_more n (old by)).since })) o) ≡ or_last_one r (cond b (Some by) None)
      either true o r before found free = (λ i. if is_held_now i then Some by else None) ∙ ap (λ (x : Option Serial). or_last_one x (Some by)) (sym (free refl))
      either false None r before found free = found ∙ nothing_last r
      either false (Some h) r before found free = (λ i. if is_kept h (before h refl) i then Some h.by else None) ∙ found ∙ nothing_last r

  pub count_added : (p : Place) (q : Serial) (held : List (Place × Serial)) → turn_count (old q) ≡ count_of (serial_of q) held → turn_count (old by) ≡ count_of (serial_of by) held
      → turn_count (new q) ≡ count_of (serial_of q) (held ++ (p, by) ∷ [])
  count_added p q held was mine =
      ap turn_count (more q) ∙ either (same_id (serial_of by) (serial_of q)) (same_branch_is by q)
      ∙ ap (λ (b : Bool). count_of (serial_of q) held + (if b then 1 else 0)) (same_id_turned (serial_of by) (serial_of q)) ∙ sym (count_behind (serial_of q) held (p, by))
    where
      one_longer : (o : Option Turn) → (one_more n o).count ≡ turn_count o + 1
      one_longer None = refl
      one_longer (Some t) = refl

      either : (b : Bool) → (b ≡ true → serial_of by ≡ serial_of q) → turn_count (cond b (Some (one_more n (old by))) (old q)) ≡ count_of (serial_of q) held + (if b then 1 else 0)
      either true same = one_longer (old by) ∙ ap (λ (m : ℕ). m + 1) (mine ∙ ap (λ (id : Id). count_of id held) (same refl))
      either false same = let w = was in omega (arith, w)

-- the latest lock of each key, and the turns, once a branch locked one key more
pub latest_added : (b : Bool) (o : Option Hold) (h : Hold) (n m : ℕ) → ((x : Hold) → o ≡ Some x → x.since < n) → n ≤ m → h.since < m → (x : Hold) → cond b (Some h) o ≡ Some x → x.since < m
latest_added true o h n m before most lt x is = subst (λ (y : Hold). y.since < m) (some_hold h x is) lt
  where
    some_hold : (a c : Hold) → Some a ≡ Some c → a ≡ c
    some_hold a c e = ap (λ (y : Option Hold). elim y [ Some z ↦ z | None ↦ a ]) e
latest_added false o h n m before most lt x is = let early = before x is in omega (arith, early, most)

some_turn : (a c : Turn) → Some a ≡ Some c → a ≡ c
some_turn a c e = ap (λ (y : Option Turn). elim y [ Some z ↦ z | None ↦ a ]) e

pub turn_changed : (b : Bool) (o : Option Turn) (t : Turn) (n m : ℕ) → ((x : Turn) → o ≡ Some x → x.since ≤ n) → n ≤ m → t.since ≤ m → (x : Turn) → cond b (Some t) o ≡ Some x → x.since ≤ m
turn_changed true o t n m before most le x is = subst (λ (y : Turn). y.since ≤ m) (some_turn t x is) le
turn_changed false o t n m before most le x is = let early = before x is in omega (arith, early, most)

pub since_before : (n : ℕ) (o : Option Turn) → ((x : Turn) → o ≡ Some x → x.since ≤ n) → (one_more n o).since ≤ n
since_before n None before = omega arith
since_before n (Some t) before = before t refl

-- a turn that ends: what is held then are the keys of others
abbrev pub IsEnded : (old new : Serial → Option Turn) → Serial → (n : ℕ) → Type 0
IsEnded old new by n = (h : Hold) → h.since < n → is_now new h ≡ cond (same_id (serial_of by) (serial_of h.by)) false (is_now old h)

pub turn_ended : (old new : Serial → Option Turn) (by : Serial) (n : ℕ) → IsTurned old new by (record { since = n; count = 0 }) → IsEnded old new by n
turn_ended old new by n turned h lt = ap (λ (o : Option Turn). began_at o h.since) (turned h.by) ∙ either (same_id (serial_of by) (serial_of h.by))
  where
    either : (b : Bool) → began_at (cond b (Some (record { since = n; count = 0 })) (old h.by)) h.since ≡ cond b false (is_now old h)
    either true = earlier n h.since lt
    either false = refl

pub no_turn : (turn : Serial → Option Turn) (by : Serial) (n : ℕ) → IsByIds turn → turn by ≡ None → IsEnded turn turn by n
no_turn turn by n alike none h lt = either (same_id (serial_of by) (serial_of h.by)) (alike by h.by)
  where
    either : (b : Bool) → (b ≡ true → turn by ≡ turn h.by) → is_now turn h ≡ cond b false (is_now turn h)
    either true same = ap (λ (o : Option Turn). began_at o h.since) (sym (same refl) ∙ none)
    either false same = refl

pub ended_at : (old new : Serial → Option Turn) (by : Serial) (m n : ℕ) → m ≡ n → IsTurned old new by (record { since = m; count = 0 }) → IsTurned old new by (record { since = n; count = 0 })
ended_at old new by m n same turned q = turned q ∙ ap (λ (k : ℕ). cond (same_id (serial_of by) (serial_of q)) (Some (record { since = k; count = 0 })) (old q)) same

module _ (old new : Serial → Option Turn) (by : Serial) (n : ℕ) (ended : IsEnded old new by n) where
  pub held_ended : (log : List Entry) → AllByRecursion (λ (e : Entry). e.hold.since < n) log → held_now new log ≡ others_of (serial_of by) (held_now old log)
  held_ended [] before = refl
  held_ended (e ∷ log) before =
      let first = ended e.hold before.0 in
      let rest = held_ended log before.1 in
      (λ i. if first i then (e.place, e.hold.by) ∷ rest i else rest i)
      ∙ either (same_id (serial_of by) (serial_of e.hold.by)) (is_now old e.hold) (others_of (serial_of by) (held_now old log)) ∙ sym (others_if (is_now old e.hold) (held_now old log))
    where
      others_if : (c : Bool) (es : List (Place × Serial)) → others_of (serial_of by) (if c then (e.place, e.hold.by) ∷ es else es)
          ≡ (if c then (if same_id (serial_of by) (serial_of e.hold.by) then others_of (serial_of by) es else (e.place, e.hold.by) ∷ others_of (serial_of by) es) else others_of (serial_of by) es)
      others_if true es = refl
      others_if false es = refl

      either : (b c : Bool) (r : List (Place × Serial)) → (if cond b false c then (e.place, e.hold.by) ∷ r else r) ≡ (if c then (if b then r else (e.place, e.hold.by) ∷ r) else r)
      either true true r = refl
      either true false r = refl
      either false true r = refl
      either false false r = refl

  found_other : (o : Option Hold) → ((h : Hold) → o ≡ Some h → h.since < n) → found_now new o ≡ other_than by (found_now old o)
  found_other None before = refl
  found_other (Some h) before =
      (λ i. if ended h (before h refl) i then Some h.by else None) ∙ either (same_id (serial_of by) (serial_of h.by)) (is_now old h) ∙ sym (other_if (is_now old h))
    where
      other_if : (c : Bool) → other_than by (if c then Some h.by else None) ≡ (if c then (if same_id (serial_of by) (serial_of h.by) then None else Some h.by) else None)
      other_if true = refl
      other_if false = refl

      either : (b c : Bool) → (if cond b false c then Some h.by else None) ≡ (if c then (if b then None else Some h.by) else None)
      either true true = refl
      either true false = refl
      either false true = refl
      either false false = refl

  pub found_ended : (q : Place) (held : List (Place × Serial)) (o : Option Hold) → IsDistinct same_place (keys_of held) → ((h : Hold) → o ≡ Some h → h.since < n) → found_now old o ≡ lookup (same_place q) held
      → found_now new o ≡ lookup (same_place q) (others_of (serial_of by) held)
  found_ended q held o apart before found = found_other o before ∙ ap (other_than by) found ∙ sym (others_looked by q held apart)

-- how many keys a branch holds
pub count_parts : (serial : Id) (es : List (Place × Serial)) → length es ≡ count_of serial es + length (others_of serial es)
count_parts serial [] = refl
count_parts serial (e ∷ es) = either (same_id serial (serial_of e.1)) (count_of serial es) (others_of serial es) (count_parts serial es)
  where
    either : (b : Bool) (m : ℕ) (r : List (Place × Serial)) → length es ≡ m + length r → suc (length es) ≡ (if b then suc m else m) + length (if b then r else e ∷ r)
    either true m r is = omega (arith, is)
    either false m r is = omega (arith, is)

of_none : (serial : Id) (es : List (Place × Serial)) → count_of serial (others_of serial es) ≡ 0
of_none serial [] = refl
of_none serial (e ∷ es) = either (same_id serial (serial_of e.1)) refl (of_none serial es)
  where
    either : (b : Bool) → same_id serial (serial_of e.1) ≡ b → count_of serial (others_of serial es) ≡ 0 → count_of serial (if b then others_of serial es else e ∷ others_of serial es) ≡ 0
    either true is rest = rest
    either false is rest = ap (λ (c : Bool). if c then suc (count_of serial (others_of serial es)) else count_of serial (others_of serial es)) is ∙ rest

of_other : (serial other : Id) (es : List (Place × Serial)) → same_id serial other ≡ false → count_of other (others_of serial es) ≡ count_of other es
of_other serial other [] apart = refl
of_other serial other (e ∷ es) apart = either (same_id serial (serial_of e.1)) (is_other e) (of_other serial other es apart)
  where
    is_other : (e : Place × Serial) → same_id serial (serial_of e.1) ≡ true → same_id other (serial_of e.1) ≡ false
    is_other e is = ap (λ (id : Id). same_id other id) (sym ((same_id_decides serial (serial_of e.1)).0 is)) ∙ same_id_turned other serial ∙ apart

    either : (b : Bool) → (b ≡ true → same_id other (serial_of e.1) ≡ false) → count_of other (others_of serial es) ≡ count_of other es
        → count_of other (if b then others_of serial es else e ∷ others_of serial es) ≡ (if same_id other (serial_of e.1) then suc (count_of other es) else count_of other es)
    either true not_it rest = rest ∙ sym (ap (λ (c : Bool). if c then suc (count_of other es) else count_of other es) (not_it refl))
    either false not_it rest = ap (λ (m : ℕ). if same_id other (serial_of e.1) then suc m else m) rest

pub count_ended : (old new : Serial → Option Turn) (by : Serial) (n : ℕ) (q : Serial) (held : List (Place × Serial)) → IsTurned old new by (record { since = n; count = 0 }) → turn_count (old q) ≡ count_of (serial_of q) held
    → turn_count (new q) ≡ count_of (serial_of q) (others_of (serial_of by) held)
count_ended old new by n q held turned was = ap turn_count (turned q) ∙ either (same_id (serial_of by) (serial_of q)) refl
  where
    either : (b : Bool) → same_id (serial_of by) (serial_of q) ≡ b → turn_count (cond b (Some (record { since = n; count = 0 })) (old q)) ≡ count_of (serial_of q) (others_of (serial_of by) held)
    either true is = sym (of_none (serial_of by) held) ∙ ap (λ (id : Id). count_of id (others_of (serial_of by) held)) (same_branch_is by q is)
    either false is = was ∙ sym (of_other (serial_of by) (serial_of q) held is)

-- the keys of others are each there once too
others_apart : (serial : Id) (p : Place) (es : List (Place × Serial)) → AllByRecursion (λ y. same_place p y ≡ false) (keys_of es) → AllByRecursion (λ y. same_place p y ≡ false) (keys_of (others_of serial es))
others_apart serial p [] apart = tt
others_apart serial p (e ∷ es) apart = either (same_id serial (serial_of e.1)) (others_of serial es) (others_apart serial p es apart.1)
  where
    either : (b : Bool) (r : List (Place × Serial)) → AllByRecursion (λ y. same_place p y ≡ false) (keys_of r) → AllByRecursion (λ y. same_place p y ≡ false) (keys_of (if b then r else e ∷ r))
    either true r rest = rest
    either false r rest = (apart.0, rest)

pub others_distinct : (serial : Id) (es : List (Place × Serial)) → IsDistinct same_place (keys_of es) → IsDistinct same_place (keys_of (others_of serial es))
unfolding IsDistinct
others_distinct serial [] apart = tt
others_distinct serial (e ∷ es) apart = either (same_id serial (serial_of e.1)) (others_of serial es) (others_apart serial e.0 es apart.0) (others_distinct serial es apart.1)
  where
    either : (b : Bool) (r : List (Place × Serial)) → AllByRecursion (λ y. same_place e.0 y ≡ false) (keys_of r) → IsDistinct same_place (keys_of r) → IsDistinct same_place (keys_of (if b then r else e ∷ r))
    either true r first rest = rest
    either false r first rest = (first, rest)

-- the locks of a log one by one
some_entry : (a c : Entry) → Some a ≡ Some c → a ≡ c
some_entry a c e = ap (λ (y : Option Entry). elim y [ Some z ↦ z | None ↦ a ]) e

pub held_length : (turn : Serial → Option Turn) (log : List Entry) → length (held_now turn log) ≤ length log
held_length turn [] = omega arith
held_length turn (x ∷ log) = either (is_now turn x.hold) (held_now turn log) (held_length turn log)
  where
    either : (b : Bool) (r : List (Place × Serial)) → length r ≤ length log → length (if b then (x.place, x.hold.by) ∷ r else r) ≤ suc (length log)
    either true r few = omega (arith, few)
    either false r few = omega (arith, few)

module _ (turn : Serial → Option Turn) where
  pub held_more : (log : List Entry) (i : ℕ) (e : Entry) → slice_get log i ≡ Some e
      → held_now turn (take (suc i) log) ≡ (if is_now turn e.hold then held_now turn (take i log) ++ (e.place, e.hold.by) ∷ [] else held_now turn (take i log))
  held_more [] i e at = absurd (no_some at)
  held_more (x ∷ log) zero e at = ap (λ (y : Entry). if is_now turn y.hold then (y.place, y.hold.by) ∷ [] else []) (some_entry x e at)
  held_more (x ∷ log) (suc i) e at =
      ap (λ (r : List (Place × Serial)). if is_now turn x.hold then (x.place, x.hold.by) ∷ r else r) (held_more log i e at)
      ∙ either (is_now turn x.hold) (is_now turn e.hold) (held_now turn (take i log))
    where
      either : (b c : Bool) (r : List (Place × Serial)) → (if b then (x.place, x.hold.by) ∷ (if c then r ++ (e.place, e.hold.by) ∷ [] else r) else (if c then r ++ (e.place, e.hold.by) ∷ [] else r))
          ≡ (if c then (if b then (x.place, x.hold.by) ∷ r else r) ++ (e.place, e.hold.by) ∷ [] else (if b then (x.place, x.hold.by) ∷ r else r))
      either true true r = refl
      either true false r = refl
      either false true r = refl
      either false false r = refl

  held_apart : (p : Place) (log : List Entry) (i : ℕ) (e : Entry) → AllByRecursion (λ y. same_place p y ≡ false) (keys_of (held_now turn log)) → slice_get log i ≡ Some e → is_now turn e.hold ≡ true → same_place p e.place ≡ false
  held_apart p [] i e apart at now = absurd (no_some at)
  held_apart p (x ∷ log) zero e apart at now =
      let same = some_entry x e at in
      subst (λ (y : Entry). same_place p y.place ≡ false) same (here (is_now turn x.hold) (held_now turn log) apart (ap (λ (y : Entry). is_now turn y.hold) same ∙ now))
    where
      here : (b : Bool) (r : List (Place × Serial)) → AllByRecursion (λ y. same_place p y ≡ false) (keys_of (if b then (x.place, x.hold.by) ∷ r else r)) → b ≡ true → same_place p x.place ≡ false
      here true r apart is = apart.0
      here false r apart is = absurd (false≢true is)
  held_apart p (x ∷ log) (suc i) e apart at now = held_apart p log i e (later (is_now turn x.hold) (held_now turn log) apart) at now
    where
      later : (b : Bool) (r : List (Place × Serial)) → AllByRecursion (λ y. same_place p y ≡ false) (keys_of (if b then (x.place, x.hold.by) ∷ r else r)) → AllByRecursion (λ y. same_place p y ≡ false) (keys_of r)
      later true r apart = apart.1
      later false r apart = apart

  -- a key that is held is not held before
  pub held_lack : (log : List Entry) (i : ℕ) (e : Entry) → IsDistinct same_place (keys_of (held_now turn log)) → slice_get log i ≡ Some e → is_now turn e.hold ≡ true → lookup (same_place e.place) (held_now turn (take i log)) ≡ None
  unfolding IsDistinct
  held_lack [] i e apart at now = absurd (no_some at)
  held_lack (x ∷ log) zero e apart at now = refl
  held_lack (x ∷ log) (suc i) e apart at now =
      lacks (is_now turn x.hold) (held_now turn (take i log)) (first (is_now turn x.hold) apart) (held_lack log i e (later (is_now turn x.hold) (held_now turn log) apart) at now)
    where
      later : (b : Bool) (r : List (Place × Serial)) → IsDistinct same_place (keys_of (if b then (x.place, x.hold.by) ∷ r else r)) → IsDistinct same_place (keys_of r)
      later true r apart = apart.1
      later false r apart = apart

      first : (b : Bool) → IsDistinct same_place (keys_of (if b then (x.place, x.hold.by) ∷ held_now turn log else held_now turn log)) → b ≡ true → same_place e.place x.place ≡ false
      first true apart is = turned e.place x.place ∙ held_apart x.place log i e apart.0 at now
      first false apart is = absurd (false≢true is)

      lacks : (b : Bool) (r : List (Place × Serial)) → (b ≡ true → same_place e.place x.place ≡ false) → lookup (same_place e.place) r ≡ None → lookup (same_place e.place) (if b then (x.place, x.hold.by) ∷ r else r) ≡ None
      lacks true r other none = ap (λ (c : Bool). cond c (Some x.hold.by) (lookup (same_place e.place) r)) (other refl) ∙ none
      lacks false r other none = none

  pub held_few : (log : List Entry) (i : ℕ) (e : Entry) → slice_get log i ≡ Some e → is_now turn e.hold ≡ true → length (held_now turn (take i log)) < length (held_now turn log)
  held_few [] i e at now = absurd (no_some at)
  held_few (x ∷ log) zero e at now = here (is_now turn x.hold) (ap (λ (y : Entry). is_now turn y.hold) (some_entry x e at) ∙ now)
    where
      here : (b : Bool) → b ≡ true → 0 < length (if b then (x.place, x.hold.by) ∷ held_now turn log else held_now turn log)
      here true is = omega arith
      here false is = absurd (false≢true is)
  held_few (x ∷ log) (suc i) e at now = either (is_now turn x.hold) (held_now turn (take i log)) (held_now turn log) (held_few log i e at now)
    where
      either : (b : Bool) (r s : List (Place × Serial)) → length r < length s → length (if b then (x.place, x.hold.by) ∷ r else r) < length (if b then (x.place, x.hold.by) ∷ s else s)
      either true r s few = omega (arith, few)
      either false r s few = few

  -- what another log has, once the next lock was put there if it is held
  pub copied_on : (log : List Entry) (i : ℕ) (e : Entry) (old new : LogSaid) (room : ℕ) → slice_get log i ≡ Some e → new ≡ (if is_now turn e.hold then with_held old (e.place, e.hold.by) else old)
      → old.held ≡ held_now turn (take i log) → old.used ≡ length old.held → old.room ≡ room → (new.held ≡ held_now turn (take (suc i) log)) × (new.used ≡ length new.held) × (new.room ≡ room)
  copied_on log i e old new room at put held used as_much = either (is_now turn e.hold) put (held_more log i e at)
    where
      either : (b : Bool) → new ≡ (if b then with_held old (e.place, e.hold.by) else old) → held_now turn (take (suc i) log) ≡ (if b then held_now turn (take i log) ++ (e.place, e.hold.by) ∷ [] else held_now turn (take i log))
          → (new.held ≡ held_now turn (take (suc i) log)) × (new.used ≡ length new.held) × (new.room ≡ room)
      either true put more =
          let longer = length-append old.held ((e.place, e.hold.by) ∷ []) in
          let as_held = ap (λ (l : LogSaid). length l.held) put in
          let as_used = ap (λ (l : LogSaid). l.used) put in
          (ap (λ (l : LogSaid). l.held) put ∙ ap (λ (es : List (Place × Serial)). es ++ (e.place, e.hold.by) ∷ []) held ∙ sym more, omega (arith, longer, as_held, as_used, used), ap (λ (l : LogSaid). l.room) put ∙ as_much)
      either false put more =
          (ap (λ (l : LogSaid). l.held) put ∙ held ∙ sym more, ap (λ (l : LogSaid). l.used) put ∙ used ∙ ap (λ (l : LogSaid). length l.held) (sym put), ap (λ (l : LogSaid). l.room) put ∙ as_much)

-- the length of a map in which a key has a value, and has none
pub as_long : (m n : ℕ) (b : Bool) → m ≡ n → b ≡ true → m ≡ n + (if b then 0 else 1)
as_long m n true same some = omega (arith, same)
as_long m n false same some = absurd (false≢true some)

pub at_most_one : (m n : ℕ) (b : Bool) → m ≡ n + (if b then 0 else 1) → m ≤ n + 1
at_most_one m n true same = omega (arith, same)
at_most_one m n false same = omega (arith, same)

pub no_more : (m n : ℕ) (b : Bool) → m ≡ n + (if b then 0 else 1) → b ≡ true → m ≤ n
no_more m n true same some = omega (arith, same)
no_more m n false same some = absurd (false≢true some)

-- tables as they are made, after a lock, after a release, and without locks
pub first_table : (log other : LogSaid) (most : ℕ) → log ≡ record { held = []; used = 0; room = 2 * most } → other ≡ record { held = []; used = 0; room = 2 * most } → IsTable log other most
first_table log other most made too =
    let none : length log.held ≡ 0 = ap (λ (l : LogSaid). length l.held) made in
    let as_much = ap (λ (l : LogSaid). l.room) made in
    record {
      few = omega (arith, none);
      room = omega (arith, as_much);
      other_empty = too ∙ ap (λ (r : ℕ). record { held = []; used = 0; room = r }) (sym as_much);
    }

pub still_table : (log other roomy same added : LogSaid) (most : ℕ) (e : Place × Serial) → IsTable log other most → length log.held < most → roomy.held ≡ log.held → roomy.room ≡ log.room → same ≡ other → added ≡ with_held roomy e
    → IsTable added same most
still_table log other roomy same added most e is few held room kept put =
    let long : length added.held ≡ length roomy.held + 1 = ap (λ (l : LogSaid). length l.held) put ∙ length-append roomy.held (e ∷ []) in
    let as_long = ap length held in
    let as_much : added.room ≡ log.room = ap (λ (l : LogSaid). l.room) put ∙ room in
    let enough = is.room in
    record {
      few = omega (arith, long, as_long, few);
      room = omega (arith, enough, as_much);
      other_empty = kept ∙ is.other_empty ∙ ap (λ (r : ℕ). record { held = []; used = 0; room = r }) (sym as_much);
    }

pub released_table : (log other left : LogSaid) (most : ℕ) (serial : Id) → IsTable log other most → left ≡ record log { held = others_of serial log.held } → IsTable left other most
released_table log other left most serial is gone =
    let long = ap (λ (l : LogSaid). length l.held) gone in
    let parts = count_parts serial log.held in
    let few = is.few in
    let as_much : left.room ≡ log.room = ap (λ (l : LogSaid). l.room) gone in
    let enough = is.room in
    record {
      few = omega (arith, long, parts, few);
      room = omega (arith, enough, as_much);
      other_empty = is.other_empty ∙ ap (λ (r : ℕ). record { held = []; used = 0; room = r }) (sym as_much);
    }

pub cleared_table : (log other none : LogSaid) (most : ℕ) → IsTable log other most → none ≡ record { held = []; used = 0; room = log.room } → IsTable none other most
cleared_table log other none most is gone =
    let long : length none.held ≡ 0 = ap (λ (l : LogSaid). length l.held) gone in
    let as_much : none.room ≡ log.room = ap (λ (l : LogSaid). l.room) gone in
    let enough = is.room in
    record {
      few = omega (arith, long);
      room = omega (arith, enough, as_much);
      other_empty = is.other_empty ∙ ap (λ (r : ℕ). record { held = []; used = 0; room = r }) (sym as_much);
    }
