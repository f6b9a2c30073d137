-- Records of a sequential file that go back step by step.
use Rattle.std.proofs.Common.{◌≡◌, ◌≢◌, ℕ, zero, suc, ◌+◌, ◌-◌, ◌<◌, ◌≤◌, Bool, true, false, cond, List, [], ◌∷◌, ◌++◌, length, take, Option, Some, None, refl, sym, ◌∙◌, ap, subst, inl, inr, ◌⊎◌, ◌||◌, arith}
use Rattle.std.specs.Prelude.{◌==◌, nat_le, IsSome}
use Rattle.std.specs.List.{slice_get}
use Rattle.seq_file.specs.Layout.{capacity}
use Rattle.seq_file.specs.Placing.{buckets_for}
use Rattle.seq_file.specs.Records.{record_at, map_of_list, list_set, slot_sizes}
use Rattle.seq_file.proofs.RecordLaws.{list_set_stands, list_set_next, record_at_set, record_at_push, record_at_take, record_at_past}
use Rattle.seq_file.proofs.PlacingLaws.{prefix_places}
use Rattle.unit_laws.specs.vms_model.Keys.{Key, Number, Text, End}
use Rattle.unit_laws.specs.records_model.Records.{Change}
use Rattle.unit_laws.specs.records_model.History.{changes_key}
use Rattle.unit_laws.specs.Units.{HasImages, IsImage, is_of, earliest_before, latest_after}
use Rattle.unit_laws.proofs.Tests.{both_ways, picked}
use Rattle.unit_laws.proofs.LiveLemmas.{clash}
use Rattle.sequence_laws.specs.Undoing.{AllInPlace, StandsWhole, goes_in_place, is_as_long, lowest_absent, is_taken_away}
use Rattle.sequence_laws.specs.Laws.{CutGoesBack, SetGoesBack, SetMay, AllSetIsBack}

pub is_there : (o : Option (List ℕ)) → (o ≡ None) ⊎ IsSome o
is_there None = inl refl
is_there (Some r) = inr refl

-- the earliest_before before image of a key is one of its befores and afters
pub earliest_is_one : (cs : List Change) (key : Key) → changes_key key cs ≡ true → IsImage cs key (earliest_before cs key)
earliest_is_one [] key h = absurd cc
earliest_is_one (c ∷ cs) key h = step (changes_key key cs) (is_of key c) refl refl h (earliest_is_one cs key)
  where
    step : (x y : Bool) → changes_key key cs ≡ x → is_of key c ≡ y → (y || x) ≡ true → (changes_key key cs ≡ true → IsImage cs key (earliest_before cs key)) → IsImage (c ∷ cs) key (cond x (earliest_before cs key) c.before)
    step true y is at e later = inr (later is)
    step false true is at e later = inl (at, inl refl)
    step false false is at e later = absurd cc

-- and so is its latest after image
pub latest_is_one : (cs : List Change) (key : Key) → changes_key key cs ≡ true → IsImage cs key (latest_after cs key)
latest_is_one [] key h = absurd cc
latest_is_one (c ∷ cs) key h = step (is_of key c) refl h (latest_is_one cs key)
  where
    step : (y : Bool) → is_of key c ≡ y → (y || changes_key key cs) ≡ true → (changes_key key cs ≡ true → IsImage cs key (latest_after cs key)) → IsImage (c ∷ cs) key (cond y c.after (latest_after cs key))
    step true at e later = inl (at, inr refl)
    step false at e later = inr (later e)

pub taken : (p n : ℕ) → p ≤ n → nat_le p n ≡ true
taken p n le = grind arith

pub not_taken : (p n : ℕ) → n < p → nat_le p n ≡ false
not_taken p n lt = grind arith

pub behind : (p n : ℕ) → nat_le p n ≡ true → p ≤ n
behind p n e = grind arith

pub before : (p n : ℕ) → nat_le p n ≡ false → n < p
before p n e = grind arith

pub same_or_other : (m n : ℕ) → (m ≡ n) ⊎ (m ≢ n)
same_or_other m n = go (nat_le m n) (nat_le n m) refl refl
  where
    go : (a b : Bool) → nat_le m n ≡ a → nat_le n m ≡ b → (m ≡ n) ⊎ (m ≢ n)
    go true true a b = let p = behind m n a in let q = behind n m b in inl (omega arith)
    go true false a b = let q = before n m b in inr (λ e. omega arith)
    go false b a c = let q = before m n a in inr (λ e. omega arith)

pub swapped : (b : Bool) (e x y : Option (List ℕ)) → (b ≡ false → x ≡ y) → cond b e x ≡ cond b e y
swapped true e x y same = refl
swapped false e x y same = same refl

pub some_of : (o : Option (List ℕ)) (r : List ℕ) → o ≡ Some r → IsSome o
some_of None r e = absurd cc
some_of (Some x) r e = refl

pub none_is_not : (o : Option (List ℕ)) → o ≡ None → IsSome o → ⊥
none_is_not None e h = cc
none_is_not (Some x) e h = cc

pub some_same : (a b : List ℕ) → Some a ≡ Some b → a ≡ b
some_same a b e = cc

-- what is behind a position that is taken away is so too
pub away_behind : (o : Option ℕ) (m n : ℕ) → is_taken_away o m ≡ true → m ≤ n → is_taken_away o n ≡ true
away_behind None m n tk le = tk
away_behind (Some p) m n tk le = let at = behind p m tk in taken p n (omega (arith, at, le))

-- What can be set back in place.

pub in_place_none : (o p : Option (List ℕ)) → o ≡ None → goes_in_place o p ≡ true
in_place_none None p e = refl
in_place_none (Some r) p e = absurd cc

pub in_place_same : (o p : Option (List ℕ)) (r : List ℕ) → o ≡ Some r → p ≡ Some r → goes_in_place o p ≡ true
in_place_same o p r is was = ap (λ (x : Option (List ℕ)). goes_in_place x p) is ∙ ap (λ (x : Option (List ℕ)). goes_in_place (Some r) x) was ∙ itself (length r)
  where
    itself : (n : ℕ) → (n == n) ≡ true
    itself n = grind arith

-- a record that can is to be another as long
pub in_place_long : (o p : Option (List ℕ)) (x : List ℕ) → o ≡ Some x → goes_in_place o p ≡ true → (s : List ℕ) × (p ≡ Some s) × (length s ≡ length x)
in_place_long None p x is fits = absurd cc
in_place_long (Some r) None x is fits = absurd cc
in_place_long (Some r) (Some s) x is fits = (s, refl, number_is (length s) (length r) fits ∙ ap length (some_same r x is))
  where
    number_is : (a b : ℕ) → (a == b) ≡ true → a ≡ b
    number_is a b e = grind arith

-- where there is to be none, only none can
pub in_place_gone : (o p : Option (List ℕ)) → p ≡ None → goes_in_place o p ≡ true → o ≡ None
in_place_gone None p gone fits = refl
in_place_gone (Some r) p gone fits = let bad : is_as_long (length r) None ≡ true = ap (is_as_long (length r)) (sym gone) ∙ fits in absurd cc

-- what cannot is a record
pub off_is_some : (o p : Option (List ℕ)) → goes_in_place o p ≡ false → IsSome o
off_is_some None p off = absurd cc
off_is_some (Some r) p off = refl

-- where all can, nothing has to stand
pub none_off : (cs : List Change) (now back : List (List ℕ)) → AllInPlace cs now back → (m n : ℕ) → is_taken_away (lowest_absent cs) m ≡ true → goes_in_place (record_at now m) (record_at back m) ≡ false → m ≤ n → changes_key (Number n) cs ≡ true → StandsWhole cs now n
none_off cs now back all m n tk off le ck = clash (goes_in_place (record_at now m) (record_at back m)) (all m tk) off

pub some_is_one : (rs : List (List ℕ)) (n : ℕ) → IsSome (record_at rs n) → 1 ≤ n
some_is_one rs zero e = absurd cc
some_is_one rs (suc n) e = omega arith

pub cut_goes_back : CutGoesBack
cut_goes_back h cs now back from g first = record {
  goes = record {
    restored = λ n n1. g.restored n n1 ∙ swapped (changes_key (Number n) cs) (earliest_before cs (Number n)) (record_at now n) (record_at (take (from - 1) now) n) (λ not. sym (others n n1 not));
    own = λ n tk x. elim x [ inl there ↦ g.own n tk (inl (stood n there)) | inr there ↦ g.own n tk (inr there) ];
    whole = none_off cs (take (from - 1) now) back fit;
    same = λ n r s nt is was. g.same n r s nt (sym (stays n (kept n nt)) ∙ is) was;
    records = g.records;
    fits = g.fits;
  };
  in_place = fit;
  images = has;
  others = others;
}
  where
    one : 1 ≤ from
    one = some_is_one now from (off_is_some (record_at now from) (record_at back from) first.off)

    away : (n : ℕ) → from ≤ n → is_taken_away (lowest_absent cs) n ≡ true
    away n le = away_behind (lowest_absent cs) from n first.taken le

    kept : (n : ℕ) → is_taken_away (lowest_absent cs) n ≡ false → n < from
    kept n nt = elim (both_ways (nat_le from n)) [ inl le ↦ clash (is_taken_away (lowest_absent cs) n) (away n (behind from n le)) nt | inr lt ↦ before from n lt ]

    gone : (n : ℕ) → from ≤ n → record_at (take (from - 1) now) n ≡ None
    gone n le = (record_at_take now from n one).0 le

    stays : (n : ℕ) → n < from → record_at (take (from - 1) now) n ≡ record_at now n
    stays n lt = (record_at_take now from n one).1 lt

    stood : (n : ℕ) → IsSome (record_at (take (from - 1) now) n) → IsSome (record_at now n)
    stood n there = elim (both_ways (nat_le from n)) [
      | inl le ↦ absurd (none_is_not _ (gone n (behind from n le)) there)
      | inr lt ↦ subst IsSome (stays n (before from n lt)) there
    ]

    fit : AllInPlace cs (take (from - 1) now) back
    fit n tk = elim (both_ways (nat_le from n)) [
      | inl le ↦ in_place_none (record_at (take (from - 1) now) n) (record_at back n) (gone n (behind from n le))
      | inr lt ↦ ap (λ (o : Option (List ℕ)). goes_in_place o (record_at back n)) (stays n (before from n lt)) ∙ first.first n tk (before from n lt)
    ]

    others : (n : ℕ) → 1 ≤ n → changes_key (Number n) cs ≡ false → record_at (take (from - 1) now) n ≡ record_at now n
    others n n1 not = elim (both_ways (nat_le from n)) [
      | inl le ↦ gone n (behind from n le) ∙ elim (is_there (record_at now n)) [ inl none ↦ sym none | inr some ↦ clash _ (g.own n (away n (behind from n le)) (inl some)) not ]
      | inr lt ↦ stays n (before from n lt)
    ]

    has : HasImages (map_of_list now) cs → HasImages (map_of_list (take (from - 1) now)) cs
    has w (Number n) ck = elim (both_ways (nat_le from n)) [
      | inl le ↦ subst (IsImage cs (Number n)) (sym (gone n (behind from n le))) (absent n (behind from n le) ck)
      | inr lt ↦ subst (IsImage cs (Number n)) (sym (stays n (before from n lt))) (w (Number n) ck)
    ]
      where
        absent : (n : ℕ) → from ≤ n → changes_key (Number n) cs ≡ true → IsImage cs (Number n) None
        absent n le ck = let is = g.whole from n first.taken first.off le ck in is.absent
    has w (Text t) ck = w (Text t) ck
    has w End ck = w End ck

-- a record is set at a position that stands, or the next
pub set_at : (rs : List (List ℕ)) (n m : ℕ) (r : List ℕ) → 1 ≤ n → n ≤ length rs + 1 → (m ≡ n → record_at (list_set n (Some r) rs) m ≡ Some r) × (m ≢ n → record_at (list_set n (Some r) rs) m ≡ record_at rs m)
set_at rs n m r one few = elim (both_ways (nat_le n (length rs))) [
  | inl le ↦ let is = list_set_stands n r rs one (behind n (length rs) le) in let at = record_at_set rs n m r one (behind n (length rs) le) in ((λ e. ap (λ xs. record_at xs m) is ∙ at.0 e), (λ e. ap (λ xs. record_at xs m) is ∙ at.1 e))
  | inr lt ↦ let gt = before n (length rs) lt in let next : n ≡ length rs + 1 = omega arith in let is = list_set_next n r rs next in let at = record_at_push rs n m r next in ((λ e. ap (λ xs. record_at xs m) is ∙ at.0 e), (λ e. ap (λ xs. record_at xs m) is ∙ at.1 e))
]

pub set_goes_back : SetGoesBack
set_goes_back h cs now back n r g all one few ck ear = record {
  goes = record {
    restored = λ m m1. g.restored m m1 ∙ swapped (changes_key (Number m) cs) (earliest_before cs (Number m)) (record_at now m) (record_at (list_set n (Some r) now) m) (λ not. sym (others m m1 not));
    own = λ m tk x. elim (same_or_other m n) [
      | inl same ↦ subst (λ (k : ℕ). changes_key (Number k) cs ≡ true) (sym same) ck
      | inr other ↦ g.own m tk (elim x [ inl there ↦ inl (subst IsSome ((set_at now n m r one few).1 other) there) | inr there ↦ inr there ])
    ];
    whole = none_off cs (list_set n (Some r) now) back fit;
    same = λ m q s nt is was. elim (same_or_other m n) [
      | inl same ↦ ap length (some_same s r (sym was ∙ there m same)) ∙ ap length (some_same r q (sym ((set_at now n m r one few).0 same) ∙ is))
      | inr other ↦ g.same m q s nt (sym ((set_at now n m r one few).1 other) ∙ is) was
    ];
    records = g.records;
    fits = g.fits;
  };
  in_place = fit;
  images = has;
  others = others;
}
  where
    there : (m : ℕ) → m ≡ n → record_at back m ≡ Some r
    there m same = subst (λ (k : ℕ). record_at back k ≡ Some r) (sym same) (g.restored n one ∙ picked (changes_key (Number n) cs) _ _ ck ∙ ear)

    fit : AllInPlace cs (list_set n (Some r) now) back
    fit m tk = elim (same_or_other m n) [
      | inl same ↦ in_place_same (record_at (list_set n (Some r) now) m) (record_at back m) r ((set_at now n m r one few).0 same) (there m same)
      | inr other ↦ ap (λ (o : Option (List ℕ)). goes_in_place o (record_at back m)) ((set_at now n m r one few).1 other) ∙ all m tk
    ]

    others : (m : ℕ) → 1 ≤ m → changes_key (Number m) cs ≡ false → record_at (list_set n (Some r) now) m ≡ record_at now m
    others m m1 not = elim (same_or_other m n) [ inl same ↦ clash _ ck (subst (λ (k : ℕ). changes_key (Number k) cs ≡ false) same not) | inr other ↦ (set_at now n m r one few).1 other ]

    has : HasImages (map_of_list now) cs → HasImages (map_of_list (list_set n (Some r) now)) cs
    has w (Number m) mk = elim (same_or_other m n) [
      | inl same ↦ subst (IsImage cs (Number m)) (ap (λ (k : ℕ). earliest_before cs (Number k)) same ∙ ear ∙ sym ((set_at now n m r one few).0 same)) (earliest_is_one cs (Number m) mk)
      | inr other ↦ subst (IsImage cs (Number m)) (sym ((set_at now n m r one few).1 other)) (w (Number m) mk)
    ]
    has w (Text t) mk = w (Text t) mk
    has w End mk = w End mk

-- what stands at a later position stands at an earlier one too
pub some_before : (rs : List (List ℕ)) (i j : ℕ) → i ≤ j → IsSome (slice_get rs j) → IsSome (slice_get rs i)
some_before [] i j le h = h
some_before (x ∷ rs) zero j le h = refl
some_before (x ∷ rs) (suc i) zero le h = absurd (omega arith)
some_before (x ∷ rs) (suc i) (suc j) le h = some_before rs i j (omega (arith, le)) h

-- records that are as long as the first ones of others
sizes_prefix : (xs ys : List (List ℕ)) → ((i : ℕ) (r : List ℕ) → slice_get xs i ≡ Some r → (s : List ℕ) × (slice_get ys i ≡ Some s) × (length s ≡ length r)) → slot_sizes xs ≡ take (length xs) (slot_sizes ys)
sizes_prefix [] ys h = refl
sizes_prefix (x ∷ xs) [] h = let at = h 0 x refl in absurd (none_is_not None refl (some_of None at.0 at.1))
sizes_prefix (x ∷ xs) (y ∷ ys) h =
    let at = h 0 x refl in
    let same : y ≡ at.0 = some_same y at.0 at.1 in
    let size : length x + 2 ≡ length y + 2 = ap (λ (n : ℕ). n + 2) (sym (ap length same ∙ at.2)) in
    ap (λ (n : ℕ). n ∷ slot_sizes xs) size ∙ ap (λ (ns : List ℕ). (length y + 2) ∷ ns) (sizes_prefix xs ys (λ i r e. h (suc i) r e))

-- lists that have the same records at each place
pub same_records : (xs ys : List (List ℕ)) → ((i : ℕ) → slice_get xs i ≡ slice_get ys i) → xs ≡ ys
same_records [] [] h = refl
same_records [] (y ∷ ys) h = let e = h 0 in absurd (none_is_not None refl (some_of None y e))
same_records (x ∷ xs) [] h = let e = h 0 in absurd (none_is_not None refl (some_of None x (sym e)))
same_records (x ∷ xs) (y ∷ ys) h = ap (λ (r : List ℕ). r ∷ xs) (some_same x y (h 0)) ∙ ap (λ (rs : List (List ℕ)). y ∷ rs) (same_records xs ys (λ i. h (suc i)))

pub all_set_is_back : AllSetIsBack
all_set_is_back h cs now back g set = same_records now back (λ i. sym (at (suc i) (omega arith)))
  where
    at : (n : ℕ) → 1 ≤ n → record_at back n ≡ record_at now n
    at n one = g.restored n one ∙ go (changes_key (Number n) cs) refl
      where
        go : (b : Bool) → changes_key (Number n) cs ≡ b → cond b (earliest_before cs (Number n)) (record_at now n) ≡ record_at now n
        go true is = sym (set n one is)
        go false is = refl

pub set_may : SetMay
set_may h cs now back n r g sets one ck ear = (in_place, behind_last)
  where
    back_n : record_at back n ≡ Some r
    back_n = g.restored n one ∙ picked (changes_key (Number n) cs) _ _ ck ∙ ear

    in_place : (old : List ℕ) → record_at now n ≡ Some old → length r ≡ length old
    in_place old is = elim (both_ways (is_taken_away (lowest_absent cs) n)) [
      | inl tk ↦ let at = in_place_long (record_at now n) (record_at back n) old is (sets.in_place n tk) in ap length (some_same r at.0 (sym back_n ∙ at.1)) ∙ at.2
      | inr nt ↦ g.same n old r nt is back_n
    ]

    -- a record that stands before the position is there after as well, as long
    alike : (m : ℕ) (x : List ℕ) → 1 ≤ m → m ≤ n → IsSome (record_at back m) → record_at now m ≡ Some x → (s : List ℕ) × (record_at back m ≡ Some s) × (length s ≡ length x)
    alike m x m1 le there is = elim (both_ways (is_taken_away (lowest_absent cs) m)) [
      | inl tk ↦ in_place_long (record_at now m) (record_at back m) x is (sets.in_place m tk)
      | inr nt ↦ found (record_at back m) refl there nt
    ]
      where
        found : (o : Option (List ℕ)) → record_at back m ≡ o → IsSome o → is_taken_away (lowest_absent cs) m ≡ false → (s : List ℕ) × (record_at back m ≡ Some s) × (length s ≡ length x)
        found None e h nt = absurd (none_is_not None refl h)
        found (Some s) e h nt = (s, e, g.same m x s nt is e)

    behind_last : n ≡ length now + 1 → buckets_for (capacity h) (slot_sizes (now ++ r ∷ [])) ≤ h.alloc
    behind_last next =
        let prefix = sizes_prefix (now ++ r ∷ []) back pointwise in
        let fewer = prefix_places (capacity h) (slot_sizes back) (length (now ++ r ∷ [])) in
        subst (λ (sizes : List ℕ). buckets_for (capacity h) sizes ≤ h.alloc) (sym prefix) (omega (arith, fewer, g.fits))
      where
        pointwise : (i : ℕ) (x : List ℕ) → slice_get (now ++ r ∷ []) i ≡ Some x → (s : List ℕ) × (slice_get back i ≡ Some s) × (length s ≡ length x)
        pointwise i x is = elim (same_or_other (suc i) n) [
          | inl same ↦ (r, subst (λ (k : ℕ). record_at back k ≡ Some r) (sym same) back_n, ap length (some_same r x (sym ((record_at_push now n (suc i) r next).0 same) ∙ is)))
          | inr other ↦ let now_i = sym ((record_at_push now n (suc i) r next).1 other) ∙ is in alike (suc i) x (omega arith) (early (suc i) x now_i) (some_before back i (n - 1) (let le = early (suc i) x now_i in omega (arith, le)) (at_pred n one back_n)) now_i
        ]
          where
            early : (m : ℕ) (y : List ℕ) → record_at now m ≡ Some y → m ≤ n
            early m y e = elim (both_ways (nat_le m (length now))) [
              | inl le ↦ let p = behind m (length now) le in omega (arith, p, next)
              | inr gt ↦ let p = before m (length now) gt in absurd (none_is_not (record_at now m) (record_at_past now m p) (some_of _ y e))
            ]

            at_pred : (k : ℕ) → 1 ≤ k → record_at back k ≡ Some r → IsSome (slice_get back (k - 1))
            at_pred zero k1 e = absurd (omega arith)
            at_pred (suc k) k1 e = let less : suc k - 1 ≡ k = omega arith in subst (λ (j : ℕ). IsSome (slice_get back j)) (sym less) (some_of (record_at back (suc k)) r e)
