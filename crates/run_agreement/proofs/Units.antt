-- The units of a journal that a restart undoes, and the branches of a table that changed something and are not prepared.
use Rattle.std.specs.Prelude.{if◌then◌else◌, option_map, is_some, cond, ◌+◌}
use Rattle.std.proofs.Common.{◌≡◌, ℕ, Bool, true, false, map, List, [], ◌∷◌, ◌++◌, Option, Some, None, inl, inr, refl, ap, sym, subst, ◌∙◌}
use Rattle.std.proofs.lemmas.Bool.{and_parts, and_from, eqb-true, eq-eqb, false_from_ne_true, both_ways, cases_Bool}
use Rattle.std.proofs.lemmas.Slice.Eq.{bytes_eq-Decides}
use Rattle.vms_model.specs.Ids.{Id}
use Rattle.run_model.specs.records_model.History.{same_id}
use Rattle.run_model.specs.unit_laws.Journal.{Journal, JournalEntry, ChangeEntry, PreparedEntry, SettledEntry, RecoveryUnit, find_unit, active_units, units_after, units_onto, units_in, with_one_change, without_unit, with_settled, with_entries, entries_for}
use Rattle.run_model.specs.unit_laws.Journal as journal
use Rattle.run_model.specs.unit_laws.JournalLaws.{unit_or_new, with_more, is_unit}
use Rattle.run_model.proofs.unit_laws.UnitLemmas.{found_changed, found_prepared, found_settled, prepares_unit}
use Rattle.run_model.proofs.unit_laws.TrimLemmas.{settles_unit}
use Rattle.vms_model.specs.Transactions.{Outcome}
use Rattle.commit_protocol.specs.Table.{Key, Branch, State, Joining, Active, Ending, Voting, Prepared, find}
use Rattle.commit_protocol.specs.Allowed.{is_prepared}
use Rattle.commit_protocol.specs.World.{In, unit_of, units_of}
use Rattle.commit_protocol.proofs.Lists.{told_key, same_key-refl, Unique}
use Rattle.run_model.specs.Answers.{unit_key}
use Rattle.run_agreement.proofs.Found.{some_is}

-- Ids.

pub same_is : (a b : Id) → same_id a b ≡ true → a ≡ b
same_is a b h =
    let whole = and_parts _ _ h in
    let parts = and_parts _ _ whole.0 in
    let node = (bytes_eq-Decides a.node b.node).0 parts.0 in
    let boot = eqb-true a.boot b.boot parts.1 in
    let seq = eqb-true a.seq b.seq whole.1 in
    λ i. record { node = node i; boot = boot i; seq = seq i }

pub same_itself : (a : Id) → same_id a a ≡ true
same_itself a = and_from _ _ (and_from _ _ ((bytes_eq-Decides a.node a.node).1 refl) (eq-eqb a.boot a.boot refl)) (eq-eqb a.seq a.seq refl)

pub same_from : (a b : Id) → a ≡ b → same_id a b ≡ true
same_from a b e = let P : Id → Type 0 = λ x. same_id a x ≡ true in subst P e (same_itself a)

pub other_from : (a b : Id) → (a ≡ b → ⊥) → same_id a b ≡ false
other_from a b ne = false_from_ne_true (same_id a b) (λ e. ne (same_is a b e))

pub other_ids : (a b : Id) → same_id a b ≡ false → a ≡ b → ⊥
other_ids a b f e = both_ways (same_id a b) f (same_from a b e)

-- Units, of which no two are of one serial.

abbrev pub Single : List RecoveryUnit → Type 0
Single [] = Unit {0}
Single (u ∷ us) = (find_unit u.serial us ≡ None) × Single us

single_changed : (tid s : Id) (us : List RecoveryUnit) → Single us → Single (with_one_change tid s us)
single_changed tid s [] h = (refl, tt)
single_changed tid s (u ∷ us) h = go (same_id s u.serial) refl (single_changed tid s us h.1)
  where
    go : (b : Bool) → same_id s u.serial ≡ b → Single (with_one_change tid s us) → Single (if b then record u { changes = u.changes + 1 } ∷ us else u ∷ with_one_change tid s us)
    go true e more = h
    go false e more =
        let apart : same_id u.serial s ≡ false = other_from u.serial s (λ q. other_ids s u.serial e (sym q)) in
        (found_changed u.serial tid s us ∙ ap (λ c. cond c (Some (with_more 1 (unit_or_new tid s (find_unit s us)))) (find_unit u.serial us)) apart ∙ h.0, more)

none_chosen : (b : Bool) (f : RecoveryUnit → RecoveryUnit) → cond b (option_map f None) None ≡ None
none_chosen true f = refl
none_chosen false f = refl

none_either : (b : Bool) (o : Option RecoveryUnit) → o ≡ None → cond b None o ≡ None
none_either true o e = refl
none_either false o e = e

single_prepared : (s : Id) (us : List RecoveryUnit) → Single us → Single (journal.with_prepared s us)
single_prepared s [] h = tt
single_prepared s (u ∷ us) h = go (same_id s u.serial) (single_prepared s us h.1)
  where
    gone : (b : Bool) (f : RecoveryUnit → RecoveryUnit) (o : Option RecoveryUnit) → o ≡ None → cond b (option_map f o) o ≡ None
    gone b f o e = ap (λ p. cond b (option_map f p) p) e ∙ none_chosen b f

    go : (b : Bool) → Single (journal.with_prepared s us) → Single (if b then record u { prepared = true } ∷ us else u ∷ journal.with_prepared s us)
    go true more = h
    go false more = (found_prepared u.serial s us ∙ gone (same_id u.serial s) _ (find_unit u.serial us) h.0, more)

single_settled : (s : Id) (us : List RecoveryUnit) → Single us → Single (without_unit s us)
single_settled s [] h = tt
single_settled s (u ∷ us) h = go (same_id s u.serial) (single_settled s us h.1)
  where
    go : (b : Bool) → Single (without_unit s us) → Single (if b then without_unit s us else u ∷ without_unit s us)
    go true more = more
    go false more = (found_settled u.serial s us ∙ none_either (same_id u.serial s) (find_unit u.serial us) h.0, more)

single_onto : (es : List JournalEntry) (us : List RecoveryUnit) → Single us → Single (units_onto us es)
single_onto [] us h = h
single_onto (ChangeEntry tid serial file key before ∷ es) us h = single_onto es (with_one_change tid serial us) (single_changed tid serial us h)
single_onto (PreparedEntry tid serial ∷ es) us h = single_onto es (journal.with_prepared serial us) (single_prepared serial us h)
single_onto (SettledEntry tid serial outcome moment ∷ es) us h = single_onto es (without_unit serial us) (single_settled serial us h)

pub single_units : (es : List JournalEntry) → Single (units_in es)
single_units es = single_onto es [] tt

-- a key is that of a unit that is not prepared
pub record IsActive (us : List RecoveryUnit) (k : Key) : Type 0 where
  pub unit : RecoveryUnit
  pub found : find_unit k.serial us ≡ Some unit
  pub unprepared : unit.prepared ≡ false
  pub key : unit_key unit ≡ k

pub active_to : (us : List RecoveryUnit) (k : Key) → Single us → In k (map unit_key (active_units us)) → IsActive us k
active_to [] k h i = absurd i
active_to (u ∷ us) k h i = go u.prepared refl i (active_to us k h.1)
  where
    behind : IsActive us k → IsActive (u ∷ us) k
    behind a = record {
      unit = a.unit;
      found = (let apart : same_id k.serial u.serial ≡ false = other_from k.serial u.serial (λ e.
          let P : Id → Type 0 = λ s. find_unit s us ≡ None in
          let none : None ≡ Some a.unit = sym (subst P (sym e) h.0) ∙ a.found in
          let f : ⊥ = cc in f) in rw apart a.found);
      unprepared = a.unprepared;
      key = a.key;
    }

    go : (b : Bool) → u.prepared ≡ b → In k (map unit_key (if b then active_units us else u ∷ active_units us)) → (In k (map unit_key (active_units us)) → IsActive us k) → IsActive (u ∷ us) k
    go true e j more = behind (more j)
    go false e j more = elim j [
      | inl same ↦ record {
        unit = u;
        found = (let here : same_id k.serial u.serial ≡ true = same_from k.serial u.serial (ap (λ (x : Key). x.serial) same) in rw here refl);
        unprepared = e;
        key = sym same;
      }
      | inr z ↦ behind (more z)
    ]

pub active_from : (us : List RecoveryUnit) (k : Key) → IsActive us k → In k (map unit_key (active_units us))
active_from [] k a = absurd (let none : None ≡ Some a.unit = a.found in let f : ⊥ = cc in f)
active_from (u ∷ us) k a = go (same_id k.serial u.serial) a.found (λ e. active_from us k (record { unit = a.unit; found = e; unprepared = a.unprepared; key = a.key }))
  where
    skip : (b : Bool) → In k (map unit_key (active_units us)) → In k (map unit_key (if b then active_units us else u ∷ active_units us))
    skip true i = i
    skip false i = inr i

    go : (b : Bool) → (let o : Option RecoveryUnit = if b then Some u else find_unit k.serial us in o) ≡ Some a.unit → (find_unit k.serial us ≡ Some a.unit → In k (map unit_key (active_units us))) → In k (map unit_key (if u.prepared then active_units us else u ∷ active_units us))
    go true e more =
        let same : u ≡ a.unit = some_is u a.unit e in
        let open_ : u.prepared ≡ false = ap (λ (x : RecoveryUnit). x.prepared) same ∙ a.unprepared in
        let P : Bool → Type 0 = λ b. In k (map unit_key (if b then active_units us else u ∷ active_units us)) in
        subst P (sym open_) (inl (sym (ap unit_key same ∙ a.key)))
    go false e more = skip u.prepared (more e)

-- a serial has one such key
pub active_alone : (us : List RecoveryUnit) (j k : Key) → IsActive us j → IsActive us k → j.serial ≡ k.serial → j ≡ k
active_alone us j k a b e =
    let P : Id → Type 0 = λ s. find_unit s us ≡ Some a.unit in
    let same : a.unit ≡ b.unit = some_is a.unit b.unit (sym (subst P e a.found) ∙ b.found) in
    sym a.key ∙ (ap unit_key same ∙ b.key)

-- What entries make of them.

pub settled_to : (j : Journal) (tid s : Id) (outcome : Outcome) (moment : ℕ) (k : Key) → IsActive (units_in (with_settled tid s outcome moment j).entries) k → IsActive (units_in j.entries) k × (same_id k.serial s ≡ false)
settled_to j tid s outcome moment k a =
    let law = settles_unit tid s outcome moment j in
    let apart : same_id k.serial s ≡ false = other_from k.serial s (λ e.
    let P : Id → Type 0 = λ x. find_unit x (units_in (with_settled tid s outcome moment j).entries) ≡ Some a.unit in
    both_ways (is_unit s (with_settled tid s outcome moment j)) law.gone (ap is_some (subst P e a.found))) in
    (record { unit = a.unit; found = sym (law.others k.serial apart) ∙ a.found; unprepared = a.unprepared; key = a.key }, apart)

pub settled_from : (j : Journal) (tid s : Id) (outcome : Outcome) (moment : ℕ) (k : Key) → IsActive (units_in j.entries) k → same_id k.serial s ≡ false → IsActive (units_in (with_settled tid s outcome moment j).entries) k
settled_from j tid s outcome moment k a apart =
    let law = settles_unit tid s outcome moment j in
    record { unit = a.unit; found = law.others k.serial apart ∙ a.found; unprepared = a.unprepared; key = a.key }

pub prepared_to : (es : List JournalEntry) (tid s : Id) (u : RecoveryUnit) (k : Key) → find_unit s (units_in es) ≡ Some u → IsActive (units_in (es ++ PreparedEntry tid s ∷ [])) k → IsActive (units_in es) k × (same_id k.serial s ≡ false)
prepared_to es tid s u k e a =
    let law = prepares_unit tid s u es e in
    let apart : same_id k.serial s ≡ false = other_from k.serial s (λ q.
    let P : Id → Type 0 = λ x. find_unit x (units_in (es ++ PreparedEntry tid s ∷ [])) ≡ Some a.unit in
    let same : record u { prepared = true } ≡ a.unit = some_is (record u { prepared = true }) a.unit (sym law.own ∙ subst P q a.found) in
    both_ways a.unit.prepared a.unprepared (ap (λ (x : RecoveryUnit). x.prepared) (sym same))) in
    (record { unit = a.unit; found = sym (law.others k.serial apart) ∙ a.found; unprepared = a.unprepared; key = a.key }, apart)

pub prepared_from : (es : List JournalEntry) (tid s : Id) (u : RecoveryUnit) (k : Key) → find_unit s (units_in es) ≡ Some u → IsActive (units_in es) k → same_id k.serial s ≡ false → IsActive (units_in (es ++ PreparedEntry tid s ∷ [])) k
prepared_from es tid s u k e a apart =
    let law = prepares_unit tid s u es e in
    record { unit = a.unit; found = law.others k.serial apart ∙ a.found; unprepared = a.unprepared; key = a.key }

-- Branches that changed something and are not prepared.

pub record IsUnit (bs : List Branch) (k : Key) : Type 0 where
  pub branch : Branch
  pub found : find k bs ≡ Some branch
  pub unprepared : is_prepared branch.state ≡ false
  pub changed : branch.changed ≡ true

pub unit_to : (bs : List Branch) (k : Key) → Unique bs → In k (units_of bs) → IsUnit bs k
unit_to [] k u i = absurd i
unit_to (b ∷ bs) k u i = go b.state refl i (unit_to bs k u.1)
  where
    behind : IsUnit bs k → IsUnit (b ∷ bs) k
    behind a = elim (told_key b.key k) [
      | inl e ↦ absurd (let P : Key → Type 0 = λ x. find x bs ≡ None in let none : None ≡ Some a.branch = sym (subst P e.1 u.0) ∙ a.found in let f : ⊥ = cc in f)
      | inr e ↦ record { branch = a.branch; found = rw (e.0) a.found; unprepared = a.unprepared; changed = a.changed }
    ]

    open_ : is_prepared b.state ≡ false → In k (if b.changed then b.key ∷ units_of bs else units_of bs) → (In k (units_of bs) → IsUnit bs k) → IsUnit (b ∷ bs) k
    open_ un j more = elim (cases_Bool b.changed) [
      | inl t ↦ let j' : In k (b.key ∷ units_of bs) = rw t at j in elim j' [
        | inl e ↦ record { branch = b; found = (let P : Key → Type 0 = λ x. find x (b ∷ bs) ≡ Some b in subst P (sym e) (rw (same_key-refl b.key) refl)); unprepared = un; changed = t }
        | inr z ↦ behind (more z)
      ]
      | inr t ↦ let j' : In k (units_of bs) = rw t at j in behind (more j')
    ]

    go : (s : State) → b.state ≡ s → In k (unit_of b s (units_of bs)) → (In k (units_of bs) → IsUnit bs k) → IsUnit (b ∷ bs) k
    go Prepared e j more = behind (more j)
    go Joining e j more = open_ (ap is_prepared e) j more
    go Active e j more = open_ (ap is_prepared e) j more
    go Ending e j more = open_ (ap is_prepared e) j more
    go Voting e j more = open_ (ap is_prepared e) j more

pub unit_from : (bs : List Branch) (k : Key) → IsUnit bs k → In k (units_of bs)
unit_from [] k a = absurd (let none : None ≡ Some a.branch = a.found in let f : ⊥ = cc in f)
unit_from (b ∷ bs) k a = elim (told_key b.key k) [
  | inl e ↦
      let found : Some b ≡ Some a.branch = rw (e.0) at a.found in
      let same : b ≡ a.branch = cc in
      first b.state (ap (λ (x : Branch). is_prepared x.state) same ∙ a.unprepared) (ap (λ (x : Branch). x.changed) same ∙ a.changed) e.1
  | inr e ↦ let found : find k bs ≡ Some a.branch = rw (e.0) at a.found in skip b.state (unit_from bs k (record { branch = a.branch; found = found; unprepared = a.unprepared; changed = a.changed }))
]
  where
    first : (s : State) → is_prepared s ≡ false → b.changed ≡ true → b.key ≡ k → In k (unit_of b s (units_of bs))
    first Prepared un ch e = absurd (let f : true ≡ false = un in cc)
    first Joining un ch e = rw ch (inl (sym e))
    first Active un ch e = rw ch (inl (sym e))
    first Ending un ch e = rw ch (inl (sym e))
    first Voting un ch e = rw ch (inl (sym e))

    more_of : (c : Bool) → In k (units_of bs) → In k (if c then b.key ∷ units_of bs else units_of bs)
    more_of true i = inr i
    more_of false i = i

    skip : (s : State) → In k (units_of bs) → In k (unit_of b s (units_of bs))
    skip Prepared i = i
    skip Joining i = more_of b.changed i
    skip Active i = more_of b.changed i
    skip Ending i = more_of b.changed i
    skip Voting i = more_of b.changed i
