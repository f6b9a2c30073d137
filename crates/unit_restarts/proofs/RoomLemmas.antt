-- How far the greatest moment is behind a restart, and which records of a log it reads.
use Rattle.std.proofs.Common.{◌≡◌, ℕ, zero, suc, ◌+◌, ◌-◌, ◌≤◌, ◌==◌, ◌&&◌, Bool, true, false, List, [], ◌∷◌, ◌++◌, Option, Some, None, if◌then◌else◌, length, length-append, refl, sym, ap, subst, ◌∙◌, arith}
use Rattle.std.specs.Prelude.{max, nat_le}
use Rattle.std.specs.List.{AllByRecursion}
use Rattle.std.proofs.lemmas.Bool.{leb-false}
use Rattle.std.proofs.lemmas.Bool.Decides.{nat_tests}
use Rattle.unit_entries.specs.commit_protocol.Messages.{LogRecord}
use Rattle.unit_entries.specs.log_laws.Slots.{Slots, is_prepared_record}
use Rattle.lmcp_log.specs.Log.{with_few_prepared}
use Rattle.ru_journal.specs.Told.{UnitTold}
use Rattle.unit_aborts.specs.Growing.{AreTold, GrowsBy}
use Rattle.unit_aborts.specs.Reopening.{HasTaken, Reopens, broken, full, taken}
use Rattle.unit_aborts.specs.declared.reopening.AbortedUnit.{AbortedUnit}
use Rattle.unit_returns.specs.unit_journal.Settling.{next_moment}
use Rattle.unit_table.specs.Units.{OpenUnit}
use Rattle.volume.specs.State.{VolumeState}
use Rattle.volume.specs.declared.catalog.Catalog.{Catalog}
use Rattle.volume_format.specs.declared.home.Home.{Home}

-- Each settlement is later by a tick beyond the clock at most.

next_near : (clock : ℕ) (home : Home) → next_moment clock home ≤ max home.greatest_moment.0 clock + 1
next_near clock home = go (nat_le clock (home.greatest_moment.0 + 1))
  where
    go : (b : Bool) → (if b then home.greatest_moment.0 + 1 else clock) ≤ max home.greatest_moment.0 clock + 1
    go true = omega arith
    go false = omega arith

taken_far : (clock : ℕ) (us : List UnitTold) (many : ℕ) (v w : VolumeState) (out : List AbortedUnit) → HasTaken clock us many v w out → (length out ≡ many) × (w.catalog.home.greatest_moment.0 ≤ max v.catalog.home.greatest_moment.0 clock + many)
taken_far clock us zero v w out has =
    let same : w.catalog.home.greatest_moment.0 ≡ v.catalog.home.greatest_moment.0 = ap (λ (x : VolumeState). x.catalog.home.greatest_moment.0) has.0 in
    (ap length has.1, omega (arith, same))
taken_far clock us (suc k) v w out has =
    let mid = has.0 in
    let before = has.1 in
    let t = has.3 in
    let undoes = has.6 in
    let first = taken_far clock us k v mid before has.4 in
    let long = ap length has.7 ∙ length-append before (t ∷ []) in
    let is : w.catalog.home.greatest_moment.0 ≡ t.moment.0 = ap (λ (c : Catalog). c.home.greatest_moment.0) undoes.aborts.makes.settles.catalog in
    let near = next_near clock mid.catalog.home in
    let at = undoes.moment in
    ((let many = first.0 in omega (arith, long, many)), (let far = first.1 in omega (arith, far, is, at, near)))

pub reopened_far : (clock : ℕ) (v w : VolumeState) (out : List AbortedUnit) (left : List OpenUnit) → Reopens clock v w out left → w.catalog.home.greatest_moment.0 ≤ max v.catalog.home.greatest_moment.0 clock + length out
reopened_far clock v w out left (broken wrong is nothing none) = let same : w.catalog.home.greatest_moment.0 ≡ v.catalog.home.greatest_moment.0 = ap (λ (x : VolumeState). x.catalog.home.greatest_moment.0) is in omega (arith, same)
reopened_far clock v w out left (full us are over is nothing none) = let same : w.catalog.home.greatest_moment.0 ≡ v.catalog.home.greatest_moment.0 = ap (λ (x : VolumeState). x.catalog.home.greatest_moment.0) is in omega (arith, same)
reopened_far clock v w out left (taken us many are has none rest) = let far = taken_far clock us many v w out has in let long = far.0 in let most = far.1 in omega (arith, long, most)

-- Fewer of few records.

not_none : (n : ℕ) → (suc n == 0) ≡ false
not_none n = grind (arith, nat_tests)

pub few_twice : (m n : ℕ) (ss : Slots) → m ≤ n → with_few_prepared m (with_few_prepared n ss) ≡ with_few_prepared m ss
few_twice m n [] le = refl
few_twice m n (None ∷ ss) le = ap (λ (ts : Slots). None ∷ ts) (few_twice m n ss le)
few_twice m n (Some r ∷ ss) le = by (is_prepared_record r.kind) refl m n le (λ i j k. few_twice i j ss k)
  where
    by : (b : Bool) → is_prepared_record r.kind ≡ b → (i j : ℕ) → i ≤ j → ((k l : ℕ) → k ≤ l → with_few_prepared k (with_few_prepared l ss) ≡ with_few_prepared k ss) →
        with_few_prepared i ((if b && (j == 0) then None else Some r) ∷ with_few_prepared (if b then j - 1 else j) ss) ≡ (if b && (i == 0) then None else Some r) ∷ with_few_prepared (if b then i - 1 else i) ss
    by false kind i j le rest = ap (λ (b : Bool). (if b && (i == 0) then None else Some r) ∷ with_few_prepared (if b then i - 1 else i) (with_few_prepared j ss)) kind ∙ ap (λ (ts : Slots). Some r ∷ ts) (rest i j le)
    by true kind zero zero le rest = ap (λ (ts : Slots). None ∷ ts) (rest 0 0 (omega arith))
    by true kind (suc i) zero le rest = absurd (omega (arith, le))
    by true kind zero (suc j) le rest =
        ap (λ (b : Bool). with_few_prepared 0 ((if b then None else Some r) ∷ with_few_prepared (suc j - 1) ss)) (not_none j)
        ∙ ap (λ (b : Bool). (if b && (0 == 0) then None else Some r) ∷ with_few_prepared (if b then 0 - 1 else 0) (with_few_prepared (suc j - 1) ss)) kind
        ∙ ap (λ (ts : Slots). None ∷ ts) (rest 0 (suc j - 1) (omega arith))
    by true kind (suc i) (suc j) le rest =
        ap (λ (b : Bool). with_few_prepared (suc i) ((if b then None else Some r) ∷ with_few_prepared (suc j - 1) ss)) (not_none j)
        ∙ ap (λ (b : Bool). (if b && (suc i == 0) then None else Some r) ∷ with_few_prepared (if b then suc i - 1 else suc i) (with_few_prepared (suc j - 1) ss)) kind
        ∙ ap (λ (ts : Slots). (if suc i == 0 then None else Some r) ∷ ts) (rest (suc i - 1) (suc j - 1) (omega (arith, le)))

-- What only reads leave as it was.

pub grows_on : (units clock : ℕ) (v m w : VolumeState) → w.catalog ≡ m.catalog → GrowsBy units clock v m → GrowsBy units clock v w
grows_on units clock v m w same g = record {
  node = ap (λ (k : Catalog). k.home.node) same ∙ g.node;
  boot = ap (λ (k : Catalog). k.home.boot) same ∙ g.boot;
  later = let is = ap (λ (k : Catalog). k.home.greatest_moment.0) same in let a = g.later in omega (arith, a, is);
  greatest = let is = ap (λ (k : Catalog). k.home.greatest_moment.0) same in let a = g.greatest in omega (arith, a, is);
  end = let is = ap (λ (k : Catalog). k.ru.end) same in let a = g.end in omega (arith, a, is);
}

pub grows_none : (units clock : ℕ) (v w : VolumeState) → w.catalog ≡ v.catalog → GrowsBy units clock v w
grows_none units clock v w same = grows_on units clock v v w same (record { node = refl; boot = refl; later = omega arith; greatest = omega arith; end = omega arith })

pub told_on : (m w : VolumeState) (out : List AbortedUnit) → w.catalog ≡ m.catalog → AreTold m out → AreTold w out
told_on m w out same told = subst (λ (k : Catalog). AllByRecursion (λ (t : AbortedUnit). t.moment.0 ≤ k.home.greatest_moment.0) out) (sym same) told
