-- The units that a restart takes up: what they are owed, where their changes begin, and which changes are theirs.
use Rattle.std.proofs.Common.{◌≡◌, ℕ, zero, suc, ◌+◌, ◌-◌, ◌*◌, ◌^◌, ◌≤◌, Bool, true, false, List, [], ◌∷◌, Option, Some, None, if◌then◌else◌, length, map, slice_set, refl, sym, ◌∙◌, ap, subst, arith, inl, inr, get_or-set_same, get_or-set_other}
use Rattle.std.specs.Prelude.{IsSome, replicate, slice_index_or}
use Rattle.std.specs.List.{AllByRecursion}
use Rattle.std.proofs.lemmas.Bool.{cases_eq, cases_Bool}
use Rattle.unit_entries.specs.commit_protocol.Agreement.{Distinct}
use Rattle.unit_entries.specs.commit_protocol.Messages.{LogRecord}
use Rattle.unit_entries.specs.commit_protocol.Table.{record_serials}
use Rattle.unit_entries.specs.commit_protocol.World.{In}
use Rattle.records_model.specs.History.{same_id}
use Rattle.unit_aborts.proofs.TakeLemmas.{changers_without, one_fewer}
use Rattle.unit_entries.specs.Opening.{AscendWithin}
use Rattle.unit_entries.proofs.OpenLemmas.{all_less, first_holds, less_none}
use Rattle.unit_entries.proofs.unit_laws.LiveLemmas.{clash, id_is, id_itself}
use Rattle.unit_returns.specs.Returning.{AreLow, AreOfRecords, HaveChanges, TakeChanges}
use Rattle.unit_table.specs.Places.{count_at, occurrences}
use Rattle.unit_table.specs.Units as table
use Rattle.unit_table.specs.Units.{OpenUnit, changers, first_that, is_of, no_files, one_changer, owed, owed_for, unit_at, units_of, without_first}
use Rattle.unit_table.proofs.BegunLemmas.{counted_none, one_unit, units_other}
use Rattle.unit_table.proofs.OrderLemmas.{at_below, more_here, more_there}
use Rattle.vms_model.specs.Ids.{Id}

-- Units at their places, and in their order.

abbrev pub owed_by : List OpenUnit → ℕ
owed_by [] = 0
owed_by (u ∷ us) = owed_for u.prepared u.positions + owed_by us

owed_step : (us : List (Option OpenUnit)) (i : ℕ) (u : OpenUnit) → unit_at us i ≡ Some u → owed us ≡ owed_for u.prepared u.positions + owed (slice_set us i None)
owed_step [] i u there = let never : ⊥ = cc in absurd never
owed_step (None ∷ us) zero u there = let never : ⊥ = cc in absurd never
owed_step (Some w ∷ us) zero u there = ap (λ (x : OpenUnit). owed_for x.prepared x.positions + owed us) (one_unit w u there)
owed_step (None ∷ us) (suc i) u there = owed_step us i u there
owed_step (Some w ∷ us) (suc i) u there = let rest = owed_step us i u there in omega (arith, rest)

owed_none : (us : List (Option OpenUnit)) → ((p : ℕ) → unit_at us p ≡ None) → owed us ≡ 0
owed_none [] none = refl
owed_none (None ∷ us) none = owed_none us (λ p. none (suc p))
owed_none (Some u ∷ us) none = let never : ⊥ = (let e : ◌≡◌ {A = Option OpenUnit} (Some u) None = none 0 in cc) in absurd never

pub owed_order : (order : List ℕ) (us : List (Option OpenUnit)) → ((p : ℕ) → occurrences p order ≡ count_at (unit_at us p)) → owed us ≡ owed_by (units_of us order)
owed_order [] us each = owed_none us (λ p. counted_none (unit_at us p) (each p))
owed_order (q ∷ qs) us each = go (unit_at us q) refl (owed_order qs (slice_set us q None))
  where
    go : (o : Option OpenUnit) → unit_at us q ≡ o → (((p : ℕ) → occurrences p qs ≡ count_at (unit_at (slice_set us q None) p)) → owed (slice_set us q None) ≡ owed_by (units_of (slice_set us q None) qs)) →
        owed us ≡ owed_by (elim o [ Some u ↦ u ∷ units_of us qs | None ↦ units_of us qs ])
    go None there rest = let one = sym (more_here q qs) ∙ each q ∙ ap count_at there in absurd (omega (arith, one))
    go (Some u) there rest =
        let none : occurrences q qs ≡ 0 = (let one : suc (occurrences q qs) ≡ 1 = sym (more_here q qs) ∙ each q ∙ ap count_at there in omega (arith, one)) in
        let below = at_below us q (subst IsSome (sym there) refl) in
        let later : (p : ℕ) → occurrences p qs ≡ count_at (unit_at (slice_set us q None) p) = λ p. elim (cases_eq p q) [
          | inl same ↦ ap (λ k. occurrences k qs) same ∙ none ∙ ap count_at (sym (get_or-set_same us q None None below)) ∙ ap (λ k. count_at (unit_at (slice_set us q None) k)) (sym same)
          | inr apart ↦ sym (more_there p q qs (λ e. apart (sym e))) ∙ each p ∙ ap count_at (sym (get_or-set_other us q p None None apart))
        ] in
        owed_step us q u there ∙ ap (λ k. owed_for u.prepared u.positions + k) (rest later ∙ ap owed_by (units_other us q None qs none))

-- What the journal left serves each of them once.

owed_few : (ps : List ℕ) → owed_for true ps ≤ 48
owed_few [] = omega arith
owed_few (p ∷ ps) = omega arith

pub taken_owed : (rs : List LogRecord) (left us : List OpenUnit) → AreOfRecords rs us → TakeChanges left us → owed_by us ≤ 48 * length left
taken_owed [] left [] of changes = omega arith
taken_owed [] left (u ∷ us) of changes = absurd of
taken_owed (r ∷ rs) left [] of changes = absurd of
taken_owed (r ∷ rs) left (u ∷ us) of changes = go (first_that (is_of u.serial) left) refl (taken_owed rs (without_first (is_of u.serial) left) us of.1 changes.1)
  where
    go : (o : Option OpenUnit) → first_that (is_of u.serial) left ≡ o → owed_by us ≤ 48 * length (without_first (is_of u.serial) left) → owed_for u.prepared u.positions + owed_by us ≤ 48 * length left
    go None none rest =
        let bare : u.positions ≡ [] = changes.0.positions ∙ ap (λ (x : Option OpenUnit). elim x [ Some w ↦ w.positions | None ↦ [] ]) none in
        let nothing : owed_for u.prepared u.positions ≡ 0 = ap (owed_for u.prepared) bare in
        let same = ap length (less_none (is_of u.serial) left none) in
        omega (arith, nothing, same, rest)
    go (Some w) some rest =
        let few = owed_few u.positions in
        let prepared : owed_for u.prepared u.positions ≡ owed_for true u.positions = ap (λ (b : Bool). owed_for b u.positions) of.0.prepared in
        let fewer = one_fewer (is_of u.serial) left w some in
        omega (arith, few, prepared, fewer, rest)

-- They changed no more files than what the journal left.

none_set : (n file : ℕ) → slice_index_or (replicate n false) file false ≡ false
none_set zero file = refl
none_set (suc n) zero = refl
none_set (suc n) (suc file) = none_set n file

abbrev one_of : (file : ℕ) → List Bool → ℕ
one_of file fs = if slice_index_or fs file false then 1 else 0

none_one : (file : ℕ) → one_of file no_files ≡ 0
none_one file = ap (λ (b : Bool). if b then 1 else 0) (none_set 64 file)

pub taken_changers : (file : ℕ) (left us : List OpenUnit) → TakeChanges left us → changers file (map Some us) ≤ changers file (map Some left)
taken_changers file left [] changes = omega arith
taken_changers file left (u ∷ us) changes = go (first_that (is_of u.serial) left) refl (taken_changers file (without_first (is_of u.serial) left) us changes.1)
  where
    go : (o : Option OpenUnit) → first_that (is_of u.serial) left ≡ o → changers file (map Some us) ≤ changers file (map Some (without_first (is_of u.serial) left)) → changers file (map Some (u ∷ us)) ≤ changers file (map Some left)
    go None none rest =
        let bare : u.files ≡ no_files = changes.0.files ∙ ap (λ (x : Option OpenUnit). elim x [ Some w ↦ w.files | None ↦ no_files ]) none in
        let nothing : one_changer file (Some u) ≡ 0 = ap (one_of file) bare ∙ none_one file in
        let same = ap (λ (ws : List OpenUnit). changers file (map Some ws)) (less_none (is_of u.serial) left none) in
        omega (arith, nothing, same, rest)
    go (Some w) some rest =
        let its : u.files ≡ w.files = changes.0.files ∙ ap (λ (x : Option OpenUnit). elim x [ Some y ↦ y.files | None ↦ no_files ]) some in
        let same : one_changer file (Some u) ≡ one_changer file (Some w) = ap (one_of file) its in
        let fewer = changers_without (is_of u.serial) left w some file in
        omega (arith, same, fewer, rest)

pub taken_ascends : (from end : ℕ) (left us : List OpenUnit) → from ≤ end → AscendWithin from end left → TakeChanges left us → AscendWithin from end us
taken_ascends from end left [] order all changes = tt
taken_ascends from end left (u ∷ us) order all changes = (
  go (first_that (is_of u.serial) left) refl,
  taken_ascends from end (without_first (is_of u.serial) left) us order (all_less (λ (w : OpenUnit). table.Ascend from end w.positions) (is_of u.serial) left all) changes.1,
)
  where
    go : (o : Option OpenUnit) → first_that (is_of u.serial) left ≡ o → table.Ascend from end u.positions
    go None none = subst (table.Ascend from end) (sym (changes.0.positions ∙ ap (λ (x : Option OpenUnit). elim x [ Some w ↦ w.positions | None ↦ [] ]) none)) order
    go (Some w) some = subst (table.Ascend from end) (sym (changes.0.positions ∙ ap (λ (x : Option OpenUnit). elim x [ Some w ↦ w.positions | None ↦ [] ]) some)) (first_holds (λ (w : OpenUnit). table.Ascend from end w.positions) (is_of u.serial) left w all some)

-- Whose changes they are.

first_other : (x y : Id) (ws : List OpenUnit) → same_id x y ≡ false → first_that (is_of y) (without_first (is_of x) ws) ≡ first_that (is_of y) ws
first_other x y [] other = refl
first_other x y (w ∷ ws) other = go (same_id x w.serial) refl (first_other x y ws other)
  where
    go : (b : Bool) → same_id x w.serial ≡ b → first_that (is_of y) (without_first (is_of x) ws) ≡ first_that (is_of y) ws → first_that (is_of y) (if b then ws else w ∷ without_first (is_of x) ws) ≡ first_that (is_of y) (w ∷ ws)
    go false apart rest = ap (λ (o : Option OpenUnit). if same_id y w.serial then Some w else o) rest
    go true same rest =
        let apart : same_id y w.serial ≡ false = elim (cases_Bool (same_id y w.serial)) [
          | inl is ↦ clash (same_id x y) (subst (λ (z : Id). same_id x z ≡ true) (sym (id_is y w.serial is)) same) other
          | inr is ↦ is
        ] in
        sym (ap (λ (b : Bool). if b then Some w else first_that (is_of y) ws) apart)

taken_from : (x : Id) (left us : List OpenUnit) → AllByRecursion (λ (u : OpenUnit). same_id x u.serial ≡ false) us → HaveChanges (without_first (is_of x) left) us → HaveChanges left us
taken_from x left [] other all = tt
taken_from x left (u ∷ us) other all = (
  record {
    positions = all.0.positions ∙ ap (λ (o : Option OpenUnit). elim o [ Some w ↦ w.positions | None ↦ [] ]) (first_other x u.serial left other.0);
    files = all.0.files ∙ ap (λ (o : Option OpenUnit). elim o [ Some w ↦ w.files | None ↦ no_files ]) (first_other x u.serial left other.0);
  },
  taken_from x left us other.1 all.1,
)

differ : (x : Id) (rs : List LogRecord) (us : List OpenUnit) → AreOfRecords rs us → (In x (record_serials rs) → ⊥) → AllByRecursion (λ (u : OpenUnit). same_id x u.serial ≡ false) us
differ x [] [] of apart = tt
differ x [] (u ∷ us) of apart = absurd of
differ x (r ∷ rs) [] of apart = absurd of
differ x (r ∷ rs) (u ∷ us) of apart = (
  elim (cases_Bool (same_id x u.serial)) [
    | inl is ↦ absurd (apart (inl (id_is x u.serial is ∙ of.0.serial)))
    | inr is ↦ is
  ],
  differ x rs us of.1 (λ there. apart (inr there)),
)

pub have_changes : (rs : List LogRecord) (left us : List OpenUnit) → AreOfRecords rs us → TakeChanges left us → Distinct (record_serials rs) → HaveChanges left us
have_changes [] left [] of changes apart = tt
have_changes [] left (u ∷ us) of changes apart = absurd of
have_changes (r ∷ rs) left [] of changes apart = absurd of
have_changes (r ∷ rs) left (u ∷ us) of changes apart = (
  changes.0,
  taken_from u.serial left us (subst (λ (x : Id). AllByRecursion (λ (w : OpenUnit). same_id x w.serial ≡ false) us) (sym of.0.serial) (differ r.serial rs us of.1 apart.0))
      (have_changes rs (without_first (is_of u.serial) left) us of.1 changes.1 apart.1),
)

-- Where they may be read.

ascend_ends : (from end : ℕ) (ps : List ℕ) → table.Ascend from end ps → from ≤ end
ascend_ends from end [] all = all
ascend_ends from end (p ∷ ps) all = let later = ascend_ends (p + 1) end ps all.1 in omega (arith, all.0, later)

ascend_low : (from end most : ℕ) (ps : List ℕ) → end ≤ most → table.Ascend from end ps → AllByRecursion (λ p. p ≤ most) ps
ascend_low from end most [] low all = tt
ascend_low from end most (p ∷ ps) low all = let later = ascend_ends (p + 1) end ps all.1 in (omega (arith, later, low), ascend_low (p + 1) end most ps low all.1)

pub all_low : (from end : ℕ) (us : List OpenUnit) → end ≤ 2 ^ 62 → AscendWithin from end us → AreLow us
all_low from end [] low all = tt
all_low from end (u ∷ us) low all = (ascend_low from end (2 ^ 62) u.positions low all.0, all_low from end us low all.1)

-- There is one for each record.
pub as_many : (rs : List LogRecord) (us : List OpenUnit) → AreOfRecords rs us → length us ≡ length rs
as_many [] [] of = refl
as_many [] (u ∷ us) of = absurd of
as_many (r ∷ rs) [] of = absurd of
as_many (r ∷ rs) (u ∷ us) of = ap suc (as_many rs us of.1)
