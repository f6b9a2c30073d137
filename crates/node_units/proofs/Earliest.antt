-- The journal of a node begins with the earliest change of its units.
use Rattle.std.proofs.Common.{◌≡◌, ℕ, ◌+◌, ◌≤◌, List, [], ◌∷◌, Bool, true, false, ◌||◌, Option, Some, None, if◌then◌else◌, refl, sym, ◌∙◌, ap, subst, arith, inl, inr}
use Rattle.std.specs.Prelude.{unwrap_or, is_some}
use Rattle.std.specs.List.{AllByRecursion}
use Rattle.vms_model.specs.Ids.{Id}
use Rattle.vms_model.specs.Keys.{Key}
use Rattle.records_model.specs.History.{same_id}
use Rattle.unit_laws.specs.Journal.{ChangeEntry, Journal, JournalEntry, PreparedEntry, RecoveryUnit, SettledEntry, end_of, entries_size, entry_size, find_unit, is_of_units, is_settled_in, units_in}
use Rattle.unit_laws.specs.JournalLaws.{BeginsUnsettled, is_unit}
use Rattle.unit_laws.proofs.Tests.{or_either, or_one, or_other}
use Rattle.unit_table.specs.Units.{OpenUnit, earlier, first_of}
use Rattle.unit_table.proofs.BegunLemmas.{earlier_either, earliest_in}
use Rattle.commit_protocol.specs.Table.{Branch}
use Rattle.commit_protocol.specs.World.{In}
use Rattle.recovery_units.specs.world_laws.Nodes.{IsUp}
use Rattle.recovery_units.specs.world_laws.Running.{Each}
use Rattle.recovery_units.specs.run_model.World.{Node}
use Rattle.recovery_units.proofs.world_laws.IdLemmas.{id_itself, in_map}
use Rattle.unit_world.proofs.restart_laws.ListLemmas.{all_as, all_of, both_as}
use Rattle.recovery_units.specs.State.{AreOfBranches, IsUnitOf, is_change_by, positions_of}
use Rattle.node_units.proofs.Branches.{serials, serials_are}
use Rattle.node_units.proofs.Positions.{changes_of_units}

-- Where the first entry of a kind begins.

abbrev pub first_by : (JournalEntry → Bool) → ℕ → List JournalEntry → Option ℕ
first_by P p [] = None
first_by P p (e ∷ es) = if P e then Some p else first_by P (p + entry_size e) es

abbrev IsFrom : ℕ → Option ℕ → Type 0
IsFrom p None = Unit {0}
IsFrom p (Some q) = p ≤ q

first_from : (P : JournalEntry → Bool) (p q : ℕ) (es : List JournalEntry) → p ≤ q → IsFrom p (first_by P q es)
first_from P p q [] le = tt
first_from P p q (e ∷ es) le = go (P e) (first_from P p (q + entry_size e) es (omega (arith, le)))
  where
    go : (b : Bool) → IsFrom p (first_by P (q + entry_size e) es) → IsFrom p (if b then Some q else first_by P (q + entry_size e) es)
    go true rest = le
    go false rest = rest

earlier_from : (p : ℕ) (o : Option ℕ) → IsFrom p o → Some p ≡ earlier (Some p) o
earlier_from p None h = refl
earlier_from p (Some q) h = ap Some (omega (arith, h))

pub first_either : (P Q : JournalEntry → Bool) (p : ℕ) (es : List JournalEntry) → first_by (λ e. P e || Q e) p es ≡ earlier (first_by P p es) (first_by Q p es)
first_either P Q p [] = refl
first_either P Q p (e ∷ es) =
    go (P e) (Q e) (first_either P Q (p + entry_size e) es) (first_from P p (p + entry_size e) es (omega arith)) (first_from Q p (p + entry_size e) es (omega arith))
  where
    go : (a b : Bool) → first_by (λ e. P e || Q e) (p + entry_size e) es ≡ earlier (first_by P (p + entry_size e) es) (first_by Q (p + entry_size e) es) →
        IsFrom p (first_by P (p + entry_size e) es) → IsFrom p (first_by Q (p + entry_size e) es) →
        (if a || b then Some p else first_by (λ e. P e || Q e) (p + entry_size e) es) ≡ earlier (if a then Some p else first_by P (p + entry_size e) es) (if b then Some p else first_by Q (p + entry_size e) es)
    go true true rest one other = ap Some (omega arith)
    go true false rest one other = earlier_from p (first_by Q (p + entry_size e) es) other
    go false true rest one other = earlier_from p (first_by P (p + entry_size e) es) one ∙ earlier_either (Some p) (first_by P (p + entry_size e) es)
    go false false rest one other = rest

first_alike : (P Q : JournalEntry → Bool) (p : ℕ) (es : List JournalEntry) → AllByRecursion (λ (e : JournalEntry). P e ≡ Q e) es → first_by P p es ≡ first_by Q p es
first_alike P Q p [] same = refl
first_alike P Q p (e ∷ es) same = λ i. if same.0 i then Some p else first_alike P Q (p + entry_size e) es same.1 i

pub first_never : (p : ℕ) (es : List JournalEntry) → first_by (λ e. false) p es ≡ None
first_never p [] = refl
first_never p (e ∷ es) = first_never (p + entry_size e) es

-- Where the changes of units begin.

pub first_change : (x : Id) (p : ℕ) (es : List JournalEntry) → first_of (positions_of x p es) ≡ first_by (is_change_by x) p es
first_change x p [] = refl
first_change x p (e ∷ es) = go (is_change_by x e) (first_change x (p + entry_size e) es)
  where
    go : (b : Bool) → first_of (positions_of x (p + entry_size e) es) ≡ first_by (is_change_by x) (p + entry_size e) es →
        first_of (if b then p ∷ positions_of x (p + entry_size e) es else positions_of x (p + entry_size e) es) ≡ (if b then Some p else first_by (is_change_by x) (p + entry_size e) es)
    go true rest = refl
    go false rest = rest

-- whether an entry is a change of one of these
abbrev pub is_change_in : List Id → JournalEntry → Bool
is_change_in [] e = false
is_change_in (x ∷ xs) e = is_change_by x e || is_change_in xs e

earliest_changes : (us : List OpenUnit) (p : ℕ) (es : List JournalEntry) → AllByRecursion (λ (u : OpenUnit). u.positions ≡ positions_of u.serial p es) us → earliest_in us ≡ first_by (is_change_in (serials us)) p es
earliest_changes [] p es are = sym (first_never p es)
earliest_changes (u ∷ us) p es are =
    (λ i. earlier ((ap first_of are.0 ∙ first_change u.serial p es) i) (earliest_changes us p es are.1 i))
    ∙ sym (first_either (is_change_by u.serial) (is_change_in (serials us)) p es)

-- A journal that begins with a change of a unit begins with the earliest of them.

in_these : (xs : List Id) (tid x : Id) (file : List ℕ) (key : Key) (before : Option (List ℕ)) → In x xs → is_change_in xs (ChangeEntry tid x file key before) ≡ true
in_these [] tid x file key before i = absurd i
in_these (y ∷ xs) tid x file key before i = elim i [
  | inl same ↦ or_one (same_id y x) (is_change_in xs (ChangeEntry tid x file key before)) (subst (λ (z : Id). same_id y z ≡ true) (sym same) (id_itself y))
  | inr more ↦ or_other (same_id y x) (is_change_in xs (ChangeEntry tid x file key before)) (in_these xs tid x file key before more)
]

same_test : (a b : Bool) → (a ≡ true → b ≡ true) → (b ≡ true → a ≡ true) → a ≡ b
same_test true b f g = sym (f refl)
same_test false true f g = g refl
same_test false false f g = refl

module _ (j : Journal) (xs : List Id) (known : (x : Id) → is_unit x j ≡ true → In x xs) (unsettled : Each (λ (x : Id). is_settled_in x j.entries ≡ false) xs) (begins : BeginsUnsettled j.entries) where
  abbrev es : List JournalEntry
  es = j.entries

  of_these : (e : JournalEntry) → is_of_units (units_in es) e ≡ true → is_change_in xs e ≡ true
  of_these (ChangeEntry tid x file key before) is = in_these xs tid x file key before (known x is)
  of_these (PreparedEntry tid x) is = let never : ⊥ = cc in absurd never
  of_these (SettledEntry tid x outcome moment) is = let never : ⊥ = cc in absurd never

  of_units : (ys : List Id) → Each (λ (x : Id). is_settled_in x es ≡ false) ys → AllByRecursion (λ (e : JournalEntry). is_change_in ys e ≡ true → is_of_units (units_in es) e ≡ true) es
  of_units [] off = all_of (λ (e : JournalEntry). is_change_in [] e ≡ true → is_of_units (units_in es) e ≡ true) es (λ e is. let never : ⊥ = cc in absurd never)
  of_units (y ∷ ys) off =
      both_as (λ (e : JournalEntry). is_change_by y e ≡ true → is_of_units (units_in es) e ≡ true) (λ (e : JournalEntry). is_change_in ys e ≡ true → is_of_units (units_in es) e ≡ true)
      (λ (e : JournalEntry). is_change_in (y ∷ ys) e ≡ true → is_of_units (units_in es) e ≡ true) es
      (λ e own rest is. elim (or_either (is_change_by y e) (is_change_in ys e) is) [ inl mine ↦ own mine | inr later ↦ rest later ])
      (changes_of_units y es off.0) (of_units ys off.1)

  alike : AllByRecursion (λ (e : JournalEntry). is_change_in xs e ≡ is_of_units (units_in es) e) es
  alike =
      all_as (λ (e : JournalEntry). is_change_in xs e ≡ true → is_of_units (units_in es) e ≡ true) (λ (e : JournalEntry). is_change_in xs e ≡ is_of_units (units_in es) e) es
      (λ e to. same_test _ _ to (of_these e)) (of_units xs unsettled)

  begins_so : (fs : List JournalEntry) (p : ℕ) → BeginsUnsettled fs → unwrap_or (first_by (is_of_units (units_in fs)) p fs) (p + entries_size fs) ≡ p
  begins_so [] p is = omega arith
  begins_so (e ∷ fs) p is = ap (λ (b : Bool). unwrap_or (if b then Some p else first_by (is_of_units (units_in (e ∷ fs))) (p + entry_size e) fs) (p + entries_size (e ∷ fs))) is

  pub first_of_these : unwrap_or (first_by (is_change_in xs) j.first es) (end_of j) ≡ j.first
  first_of_these = ap (λ (o : Option ℕ). unwrap_or o (end_of j)) (first_alike (is_change_in xs) (is_of_units (units_in es)) j.first es alike) ∙ begins_so es j.first begins

-- Each unit of a node that is up is among those that are begun, and none of these is settled.
pub up_known : (m : Node) (us : List OpenUnit) → AreOfBranches us m.volatile.branches → IsUp m → (x : Id) → is_unit x m.durable.units ≡ true → In x (serials us)
up_known m us are up x some = go (find_unit x (units_in m.durable.units.entries)) refl some
  where
    go : (o : Option RecoveryUnit) → find_unit x (units_in m.durable.units.entries) ≡ o → is_some o ≡ true → In x (serials us)
    go (Some u) e k =
        let r = up.table.branches x u e in
        subst (λ (y : Id). In y (serials us)) r.serial (subst (In r.branch.key.serial) (serials_are us m.volatile.branches are) (in_map (λ (b : Branch). b.key.serial) r.branch m.volatile.branches r.there))
    go None e k = let never : ⊥ = cc in absurd never

pub none_settled : (us : List OpenUnit) (bs : List Branch) (es : List JournalEntry) → AreOfBranches us bs → ((b : Branch) → In b bs → is_settled_in b.key.serial es ≡ false) → Each (λ (x : Id). is_settled_in x es ≡ false) (serials us)
none_settled [] [] es are all = tt
none_settled [] (b ∷ bs) es are all = absurd are
none_settled (u ∷ us) [] es are all = absurd are
none_settled (u ∷ us) (b ∷ bs) es are all = (subst (λ (x : Id). is_settled_in x es ≡ false) are.0.serial (all b (inl refl)), none_settled us bs es are.1 (λ c i. all c (inr i)))

-- so that of a node that has these units
pub first_is : (m : Node) (us : List OpenUnit) → AreOfBranches us m.volatile.branches → IsUp m → AllByRecursion (IsUnitOf m) us → BeginsUnsettled m.durable.units.entries → unwrap_or (earliest_in us) (end_of m.durable.units) ≡ m.durable.units.first
first_is m us are up each begins =
    ap (λ (o : Option ℕ). unwrap_or o (end_of m.durable.units)) (earliest_changes us m.durable.units.first m.durable.units.entries (places us each))
    ∙ first_of_these m.durable.units (serials us) (up_known m us are up) (none_settled us m.volatile.branches m.durable.units.entries are (λ b i. (up.table.entries b i).unsettled)) begins
  where
    places : (vs : List OpenUnit) → AllByRecursion (IsUnitOf m) vs → AllByRecursion (λ (u : OpenUnit). u.positions ≡ positions_of u.serial m.durable.units.first m.durable.units.entries) vs
    places [] h = tt
    places (v ∷ vs) h = (h.0.positions, places vs h.1)
