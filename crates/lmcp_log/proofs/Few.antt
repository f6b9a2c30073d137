-- The prepared records behind so many are passed over.
use Rattle.std.proofs.Common.{◌≡◌, ℕ, zero, suc, ◌+◌, ◌-◌, ◌<◌, ◌≤◌, ◌==◌, ◌&&◌, Bool, true, false, List, [], ◌∷◌, ◌++◌, Option, Some, None, if◌then◌else◌, length, map, set, get_or, append-nil, append_assoc, length-append, ◌⊎◌, inl, inr, refl, sym, ap, subst, ◌∙◌, arith}
use Rattle.std.proofs.lemmas.Bool.Decides.{nat_tests}
use Rattle.vms_base.specs.declared.protocol.LogRec.{LogRec}
use Rattle.vms_base.specs.vms_model.Ids.{Id}
use Rattle.log_laws.specs.commit_protocol.Messages.{LogRecord}
use Rattle.log_laws.specs.commit_protocol.Table.{record_serials}
use Rattle.log_laws.specs.commit_protocol.World.{In}
use Rattle.log_laws.specs.commit_protocol.Agreement.{Distinct}
use Rattle.log_laws.specs.Slots.{Slots, committed_of, is_prepared_record, prepared_of, records_in}
use Rattle.lmcp_log.specs.Log.{fewer, is_prepared, passed, slot_of, with_few_prepared}

-- the prepared records of a slot and of those behind it
abbrev votes : Slots → List LogRecord
votes ss = prepared_of (records_in ss)

one_on : (o : Option LogRecord) (ss : Slots) → length (votes (o ∷ ss)) ≡ (if is_prepared o then suc (length (votes ss)) else length (votes ss))
one_on None ss = refl
one_on (Some r) ss = go (is_prepared_record r.kind)
  where
    go : (b : Bool) → length (if b then r ∷ votes ss else votes ss) ≡ (if b then suc (length (votes ss)) else length (votes ss))
    go true = refl
    go false = refl

abbrev longer : Bool → Slots → ℕ
longer b ss = if b then suc (length (votes ss)) else length (votes ss)

not_none : (n : ℕ) → (suc n == 0) ≡ false
not_none n = grind (arith, nat_tests)

pub few_left : (most : ℕ) (ss : Slots) → length (votes (with_few_prepared most ss)) ≤ most
few_left most [] = omega arith
few_left most (None ∷ ss) = few_left most ss
few_left most (Some r ∷ ss) = by (is_prepared_record r.kind) refl most (λ n. few_left n ss)
  where
    by : (b : Bool) → is_prepared_record r.kind ≡ b → (n : ℕ) → ((m : ℕ) → length (votes (with_few_prepared m ss)) ≤ m) → length (votes ((if b && (n == 0) then None else Some r) ∷ with_few_prepared (if b then n - 1 else n) ss)) ≤ n
    by false kind n rest = let one = one_on (Some r) (with_few_prepared n ss) ∙ ap (λ (b : Bool). longer b (with_few_prepared n ss)) kind in let few = rest n in omega (arith, one, few)
    by true kind zero rest = rest 0
    by true kind (suc n) rest =
        let one = one_on (Some r) (with_few_prepared n ss) ∙ ap (λ (b : Bool). longer b (with_few_prepared n ss)) kind in
        let few = rest n in
        let some : (suc n == 0) ≡ false = not_none n in
        let less : suc n - 1 ≡ n = omega arith in
        subst (λ (b : Bool). length (votes ((if b then None else Some r) ∷ with_few_prepared (suc n - 1) ss)) ≤ suc n) (sym some)
        (subst (λ (m : ℕ). length (votes (Some r ∷ with_few_prepared m ss)) ≤ suc n) (sym less) (omega (arith, one, few)))

pub few_same : (most : ℕ) (ss : Slots) → length (votes ss) ≤ most → with_few_prepared most ss ≡ ss
few_same most [] few = refl
few_same most (None ∷ ss) few = ap (λ (ts : Slots). None ∷ ts) (few_same most ss few)
few_same most (Some r ∷ ss) few = by (is_prepared_record r.kind) refl most few (λ n few. few_same n ss few)
  where
    by : (b : Bool) → is_prepared_record r.kind ≡ b → (n : ℕ) → length (votes (Some r ∷ ss)) ≤ n → ((m : ℕ) → length (votes ss) ≤ m → with_few_prepared m ss ≡ ss)
        → (if b && (n == 0) then None else Some r) ∷ with_few_prepared (if b then n - 1 else n) ss ≡ Some r ∷ ss
    by false kind n few rest = let one = one_on (Some r) ss ∙ ap (λ (b : Bool). longer b ss) kind in ap (λ (ts : Slots). Some r ∷ ts) (rest n (omega (arith, one, few)))
    by true kind zero few rest = let one = one_on (Some r) ss ∙ ap (λ (b : Bool). longer b ss) kind in absurd (omega (arith, one, few))
    by true kind (suc n) few rest =
        let one = one_on (Some r) ss ∙ ap (λ (b : Bool). longer b ss) kind in
        let some : (suc n == 0) ≡ false = not_none n in
        let less : suc n - 1 ≡ n = omega arith in
        ap (λ (b : Bool). (if b then None else Some r) ∷ with_few_prepared (suc n - 1) ss) some ∙ ap (λ (m : ℕ). Some r ∷ with_few_prepared m ss) less ∙ ap (λ (ts : Slots). Some r ∷ ts) (rest n (omega (arith, one, few)))

-- The slots are passed over one after another.

-- the first so many slots are done, and so many prepared records may stand behind them
pub record IsPassed (most left count : ℕ) (old new : Slots) : Type 0 where
  pub front : Slots
  pub back : Slots
  pub is : new ≡ front ++ back
  pub told : with_few_prepared most old ≡ front ++ with_few_prepared left back
  pub long : length front ≡ count

pub none_passed : (most : ℕ) (ss : Slots) → IsPassed most most 0 ss ss
none_passed most ss = record { front = []; back = ss; is = refl; told = refl; long = refl }

put_behind : (xs : Slots) (o p : Option LogRecord) (ys : Slots) → set (xs ++ o ∷ ys) (length xs) p ≡ xs ++ p ∷ ys
put_behind [] o p ys = refl
put_behind (x ∷ xs) o p ys = ap (λ (zs : Slots). x ∷ zs) (put_behind xs o p ys)

at_behind : (xs : Slots) (o d : Option LogRecord) (ys : Slots) → get_or (xs ++ o ∷ ys) (length xs) d ≡ o
at_behind [] o d ys = refl
at_behind (x ∷ xs) o d ys = at_behind xs o d ys

pub one_passed : (most left count : ℕ) (old now new : Slots) (o : Option LogRecord) → IsPassed most left count old now → count < length now → o ≡ get_or now count o → new ≡ set now count (passed left o) → IsPassed most (fewer left o) (count + 1) old new
one_passed most left count old now new o p below at is = go p.back refl
  where
    go : (back : Slots) → p.back ≡ back → IsPassed most (fewer left o) (count + 1) old new
    go [] none = let whole = ap length (p.is ∙ ap (λ (b : Slots). p.front ++ b) none ∙ append-nil p.front) in let long = p.long in absurd (omega (arith, below, whole, long))
    go (x ∷ back) some =
        let now_is : now ≡ p.front ++ x ∷ back = p.is ∙ ap (λ (b : Slots). p.front ++ b) some in
        let same : o ≡ x = at ∙ ap (λ (ss : Slots). get_or ss count o) now_is ∙ ap (λ (n : ℕ). get_or (p.front ++ x ∷ back) n o) (sym p.long) ∙ at_behind p.front x o back in
        let more = length-append p.front (passed left o ∷ []) in
        let long = p.long in
        record {
          front = p.front ++ passed left o ∷ [];
          back = back;
          is = is ∙ ap (λ (ss : Slots). set ss count (passed left o)) now_is ∙ ap (λ (n : ℕ). set (p.front ++ x ∷ back) n (passed left o)) (sym p.long) ∙ put_behind p.front x (passed left o) back ∙ sym (append_assoc p.front (passed left o ∷ []) back);
          told = p.told ∙ ap (λ (b : Slots). p.front ++ with_few_prepared left b) some ∙ ap (λ (y : Option LogRecord). p.front ++ passed left y ∷ with_few_prepared (fewer left y) back) (sym same)
              ∙ sym (append_assoc p.front (passed left o ∷ []) (with_few_prepared (fewer left o) back));
          long = omega (arith, more, long);
        }

pub all_passed : (most left count : ℕ) (old new : Slots) → IsPassed most left count old new → length new ≤ count → new ≡ with_few_prepared most old
all_passed most left count old new p end = go p.back refl
  where
    go : (back : Slots) → p.back ≡ back → new ≡ with_few_prepared most old
    go [] none = p.is ∙ ap (λ (b : Slots). p.front ++ b) none ∙ sym (p.told ∙ ap (λ (b : Slots). p.front ++ with_few_prepared left b) none)
    go (x ∷ back) some = let whole = ap length (p.is ∙ ap (λ (b : Slots). p.front ++ b) some) ∙ length-append p.front (x ∷ back) in let long = p.long in absurd (omega (arith, end, whole, long))

-- a slot among those that are told
pub at_mapped : (xs : List (Option LogRec)) (i : ℕ) (x : Option LogRec) → i < length xs → x ≡ get_or xs i x → slot_of x ≡ get_or (map slot_of xs) i (slot_of x)
at_mapped [] i x below at = absurd (omega (arith, below))
at_mapped (y ∷ xs) zero x below at = ap slot_of at
at_mapped (y ∷ xs) (suc i) x below at = at_mapped xs i x (omega (arith, below)) at

-- Records are listed by their kinds.

pub prepared_first : (o : Option LogRecord) (ss : Slots) → prepared_of (records_in (o ∷ ss)) ≡ prepared_of (records_in (o ∷ [])) ++ prepared_of (records_in ss)
prepared_first None ss = refl
prepared_first (Some r) ss = go (is_prepared_record r.kind)
  where
    go : (b : Bool) → (if b then r ∷ votes ss else votes ss) ≡ (if b then r ∷ [] else []) ++ votes ss
    go true = refl
    go false = refl

pub committed_first : (o : Option LogRecord) (ss : Slots) → committed_of (records_in (o ∷ ss)) ≡ committed_of (records_in (o ∷ [])) ++ committed_of (records_in ss)
committed_first None ss = refl
committed_first (Some r) ss = go (is_prepared_record r.kind)
  where
    go : (b : Bool) → (if b then committed_of (records_in ss) else r ∷ committed_of (records_in ss)) ≡ (if b then [] else r ∷ []) ++ committed_of (records_in ss)
    go true = refl
    go false = refl

-- What is left was there.

pub few_long : (most : ℕ) (ss : Slots) → length (with_few_prepared most ss) ≡ length ss
few_long most [] = refl
few_long most (o ∷ ss) = ap suc (few_long (fewer most o) ss)

pub few_in : (most : ℕ) (ss : Slots) (r : LogRecord) → In r (records_in (with_few_prepared most ss)) → In r (records_in ss)
few_in most [] r there = there
few_in most (None ∷ ss) r there = few_in most ss r there
few_in most (Some x ∷ ss) r there = go (is_prepared (Some x) && (most == 0)) there (few_in (fewer most (Some x)) ss r)
  where
    go : (b : Bool) → In r (records_in ((if b then None else Some x) ∷ with_few_prepared (fewer most (Some x)) ss)) → (In r (records_in (with_few_prepared (fewer most (Some x)) ss)) → In r (records_in ss)) → (r ≡ x) ⊎ In r (records_in ss)
    go true there rest = inr (rest there)
    go false (inl same) rest = inl same
    go false (inr there) rest = inr (rest there)

serial_in : (rs : List LogRecord) (x : Id) → In x (record_serials rs) → (r : LogRecord) × In r rs × (r.serial ≡ x)
serial_in [] x there = absurd there
serial_in (r ∷ rs) x (inl same) = (r, inl refl, sym same)
serial_in (r ∷ rs) x (inr there) = let q = serial_in rs x there in (q.0, inr q.1, q.2)

in_serials : (rs : List LogRecord) (r : LogRecord) → In r rs → In r.serial (record_serials rs)
in_serials [] r there = absurd there
in_serials (q ∷ rs) r (inl same) = inl (ap (λ (x : LogRecord). x.serial) same)
in_serials (q ∷ rs) r (inr there) = inr (in_serials rs r there)

pub few_distinct : (most : ℕ) (ss : Slots) → Distinct (record_serials (records_in ss)) → Distinct (record_serials (records_in (with_few_prepared most ss)))
few_distinct most [] apart = apart
few_distinct most (None ∷ ss) apart = few_distinct most ss apart
few_distinct most (Some x ∷ ss) apart = go (is_prepared (Some x) && (most == 0)) (few_distinct (fewer most (Some x)) ss apart.1) (few_in (fewer most (Some x)) ss)
  where
    go : (b : Bool) → Distinct (record_serials (records_in (with_few_prepared (fewer most (Some x)) ss))) → ((r : LogRecord) → In r (records_in (with_few_prepared (fewer most (Some x)) ss)) → In r (records_in ss)) →
        Distinct (record_serials (records_in ((if b then None else Some x) ∷ with_few_prepared (fewer most (Some x)) ss)))
    go true rest there = rest
    go false rest there = ((λ among. (let q = serial_in (records_in (with_few_prepared (fewer most (Some x)) ss)) x.serial among in apart.0 (subst (λ (y : Id). In y (record_serials (records_in ss))) q.2 (in_serials (records_in ss) q.0 (there q.0 q.1))))), rest)
