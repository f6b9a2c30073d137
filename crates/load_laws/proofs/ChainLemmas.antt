-- Slots in buckets, each filled before the next.
use Rattle.std.proofs.Common.{◌≡◌, ◌<◌, ◌≤◌, ◌+◌, ◌-◌, ℕ, suc, Bool, true, false, List, [], ◌∷◌, ◌++◌, length, nat_le, if◌then◌else◌, refl, sym, ap, subst, ◌∙◌, map, append-nil, append_assoc, length-append, arith}
use Rattle.load_model.proofs.tree_model.Tests.{fits_test, over_test, tests_fit}
use Rattle.bucket_page.specs.Pages.{joined}
use Rattle.bucket_page.proofs.PageLaws.{joined-append}
use Rattle.records_model.specs.Placing.{filled_by}
use Rattle.record_files.specs.seq_file.Placing.{BeginsAnew, buckets_for}
use Rattle.load_laws.specs.Chains.{packed, parts_of}

over_tests : (n cap : ℕ) → cap < n → nat_le n cap ≡ false
over_tests n cap over = go (nat_le n cap) refl
  where
    go : (t : Bool) → nat_le n cap ≡ t → t ≡ false
    go true is = absurd (let fits = fits_test n cap is in omega (arith, fits, over))
    go false is = refl

-- a slot more that fits, and one that does not
pub packed_fits : (cap : ℕ) (now : List (List ℕ)) (s : List ℕ) (ss : List (List ℕ)) → length (joined (now ++ s ∷ [])) ≤ cap → packed cap now (s ∷ ss) ≡ packed cap (now ++ s ∷ []) ss
packed_fits cap now s ss fits = subst (λ (t : Bool). (if t then packed cap (now ++ s ∷ []) ss else now ∷ packed cap (s ∷ []) ss) ≡ packed cap (now ++ s ∷ []) ss) (sym (tests_fit (length (joined (now ++ s ∷ []))) cap fits)) refl

pub packed_over : (cap : ℕ) (now : List (List ℕ)) (s : List ℕ) (ss : List (List ℕ)) → cap < length (joined (now ++ s ∷ [])) → packed cap now (s ∷ ss) ≡ now ∷ packed cap (s ∷ []) ss
packed_over cap now s ss over = subst (λ (t : Bool). (if t then packed cap (now ++ s ∷ []) ss else now ∷ packed cap (s ∷ []) ss) ≡ now ∷ packed cap (s ∷ []) ss) (sym (over_tests (length (joined (now ++ s ∷ []))) cap over)) refl

-- a bucket that begins with a slot which fits
pub packed_begins : (cap : ℕ) (s : List ℕ) (ss : List (List ℕ)) → length s ≤ cap → packed cap [] (s ∷ ss) ≡ packed cap (s ∷ []) ss
packed_begins cap s ss fits = packed_fits cap [] s ss (let same = ap (λ (x : List ℕ). length x) (append-nil s) in omega (arith, same, fits))

pub packed_ends : (cap : ℕ) (now : List (List ℕ)) (s : List ℕ) (ss : List (List ℕ)) → length s ≤ cap → cap < length (joined (now ++ s ∷ [])) → packed cap now (s ∷ ss) ≡ now ∷ parts_of cap (s ∷ ss)
packed_ends cap now s ss fits over = packed_over cap now s ss over ∙ ap (λ x. now ∷ x) (sym (packed_begins cap s ss fits))

pub packed_some : (cap : ℕ) (now ss : List (List ℕ)) → 1 ≤ length (packed cap now ss)
packed_some cap now [] = omega arith
packed_some cap now (s ∷ ss) = go (nat_le (length (joined (now ++ s ∷ []))) cap) (packed_some cap (now ++ s ∷ []) ss)
  where
    go : (t : Bool) → 1 ≤ length (packed cap (now ++ s ∷ []) ss) → 1 ≤ length (if t then packed cap (now ++ s ∷ []) ss else now ∷ packed cap (s ∷ []) ss)
    go true here = here
    go false here = omega arith

-- All slots of buckets, one behind the other.
abbrev pub all_in : List (List (List ℕ)) → List (List ℕ)
all_in [] = []
all_in (p ∷ ps) = p ++ all_in ps

pub packed_all : (cap : ℕ) (now ss : List (List ℕ)) → all_in (packed cap now ss) ≡ now ++ ss
packed_all cap now [] = refl
packed_all cap now (s ∷ ss) = go (nat_le (length (joined (now ++ s ∷ []))) cap) (packed_all cap (now ++ s ∷ []) ss) (packed_all cap (s ∷ []) ss)
  where
    go : (t : Bool) → all_in (packed cap (now ++ s ∷ []) ss) ≡ (now ++ s ∷ []) ++ ss → all_in (packed cap (s ∷ []) ss) ≡ s ∷ ss
        → all_in (if t then packed cap (now ++ s ∷ []) ss else now ∷ packed cap (s ∷ []) ss) ≡ now ++ s ∷ ss
    go true here next = here ∙ append_assoc now (s ∷ []) ss
    go false here next = ap (λ x. now ++ x) next

-- each bucket begins with the slot that did not fit the one before
abbrev pub BeginBehind : ℕ → List (List ℕ) → List (List (List ℕ)) → Type 0
BeginBehind cap p [] = Unit {0}
BeginBehind cap p (q ∷ qs) = BeginsAnew cap p q

abbrev pub AllBegin : ℕ → List (List (List ℕ)) → Type 0
AllBegin cap [] = Unit {0}
AllBegin cap (p ∷ ps) = BeginBehind cap p ps × AllBegin cap ps

joined_one : (now : List (List ℕ)) (s : List ℕ) → length (joined (now ++ s ∷ [])) ≡ length (joined now) + length s
joined_one now s =
    let both = ap (λ (x : List ℕ). length x) (joined-append now (s ∷ [])) in
    let long = length-append (joined now) (joined (s ∷ [])) in
    let last = ap (λ (x : List ℕ). length x) (append-nil s) in omega (arith, both, long, last)

packed_begin : (cap : ℕ) (p : List (List ℕ)) (s : List ℕ) (now ss : List (List ℕ)) → cap < length (joined p) + length s → BeginBehind cap p (packed cap (s ∷ now) ss)
packed_begin cap p s now [] over = over
packed_begin cap p s now (r ∷ rs) over = go (nat_le (length (joined (s ∷ now ++ r ∷ []))) cap) (packed_begin cap p s (now ++ r ∷ []) rs over)
  where
    go : (t : Bool) → BeginBehind cap p (packed cap (s ∷ now ++ r ∷ []) rs) → BeginBehind cap p (if t then packed cap (s ∷ now ++ r ∷ []) rs else (s ∷ now) ∷ packed cap (r ∷ []) rs)
    go true here = here
    go false here = over

pub all_begin : (cap : ℕ) (now ss : List (List ℕ)) → AllBegin cap (packed cap now ss)
all_begin cap now [] = (tt, tt)
all_begin cap now (s ∷ ss) = go (nat_le (length (joined (now ++ s ∷ []))) cap) refl (all_begin cap (now ++ s ∷ []) ss) (all_begin cap (s ∷ []) ss)
  where
    go : (t : Bool) → nat_le (length (joined (now ++ s ∷ []))) cap ≡ t → AllBegin cap (packed cap (now ++ s ∷ []) ss) → AllBegin cap (packed cap (s ∷ []) ss)
        → AllBegin cap (if t then packed cap (now ++ s ∷ []) ss else now ∷ packed cap (s ∷ []) ss)
    go true is here next = here
    go false is here next =
        let over = over_test (length (joined (now ++ s ∷ []))) cap is in
        let bytes = joined_one now s in (packed_begin cap now s [] ss (omega (arith, over, bytes)), next)

-- How many they are.

-- so many buckets before, and those that are filled on
counted_on : (cap k : ℕ) (now ss : List (List ℕ)) → (filled_by cap (record { buckets = k; bytes = length (joined now) }) (map (λ (s : List ℕ). length s) ss)).buckets + 1 ≡ k + length (packed cap now ss)
counted_on cap k now [] = omega arith
counted_on cap k now (s ∷ ss) = go (nat_le (length (joined now) + length s) cap) (nat_le (length (joined (now ++ s ∷ []))) cap) (ap (λ n. nat_le n cap) (sym (joined_one now s))) (counted_on cap k (now ++ s ∷ []) ss) (counted_on cap (k + 1) (s ∷ []) ss)
  where
    sizes : List ℕ
    sizes = map (λ (r : List ℕ). length r) ss

    one : length (joined (s ∷ [])) ≡ length s
    one = ap (λ (x : List ℕ). length x) (append-nil s)

    go : (t u : Bool) → t ≡ u
        → (filled_by cap (record { buckets = k; bytes = length (joined (now ++ s ∷ [])) }) sizes).buckets + 1 ≡ k + length (packed cap (now ++ s ∷ []) ss)
        → (filled_by cap (record { buckets = k + 1; bytes = length (joined (s ∷ [])) }) sizes).buckets + 1 ≡ (k + 1) + length (packed cap (s ∷ []) ss)
        → (filled_by cap (record { buckets = if t then k else k + 1; bytes = if t then length (joined now) + length s else length s }) sizes).buckets + 1
        ≡ k + length (if u then packed cap (now ++ s ∷ []) ss else now ∷ packed cap (s ∷ []) ss)
    go true true same here next = ap (λ n. (filled_by cap (record { buckets = k; bytes = n }) sizes).buckets + 1) (sym (joined_one now s)) ∙ here
    go false false same here next =
        ap (λ n. (filled_by cap (record { buckets = k + 1; bytes = n }) sizes).buckets + 1) (sym one) ∙ next ∙ omega arith
    go true false same here next = cc
    go false true same here next = cc

-- as many as the placing of the slots takes
pub packed_counts : (cap : ℕ) (ss : List (List ℕ)) → buckets_for cap (map (λ (s : List ℕ). length s) ss) ≡ length (packed cap [] ss)
packed_counts cap ss = let is = counted_on cap 1 [] ss in omega (arith, is)
