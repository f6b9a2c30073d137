-- Records that go back once a branch, or another one, changes more.
use Rattle.std.proofs.Common.{◌≡◌, ◌≢◌, ℕ, zero, suc, ◌<◌, ◌≤◌, Bool, true, false, cond, List, [], ◌∷◌, length, Option, Some, None, refl, sym, ◌∙◌, ap, subst, inl, inr, ◌⊎◌, ◌||◌, arith}
use Rattle.std.specs.Prelude.{◌==◌, nat_le, IsSome, min}
use Rattle.std.specs.Option.{is_none}
use Rattle.seq_file.specs.Records.{record_at, list_set, MaySet}
use Rattle.seq_file.proofs.RecordLaws.{list_set_none, record_at_take, record_at_past}
use Rattle.unit_laws.specs.vms_model.Keys.{Key, Number, Text, End}
use Rattle.unit_laws.specs.records_model.Records.{Change, key_cmp}
use Rattle.std.specs.Ordering.{eq_by_cmp}
use Rattle.std.proofs.lemmas.Bool.{false_from_ne_true}
use Rattle.seq_file.proofs.change_set.NumberKeys.{same_test, other_test}
use Rattle.unit_laws.specs.records_model.History.{changes_key}
use Rattle.unit_laws.specs.Units.{IsImage, is_of, earliest_before, latest_after, moves_end}
use Rattle.unit_laws.proofs.Tests.{never, both_ways, picked, passed, or_one, or_other, or_either}
use Rattle.unit_laws.proofs.LiveLemmas.{clash}
use Rattle.sequence_laws.specs.Undoing.{GoesBack, goes_in_place, lowest_absent, absent_at, lower, is_taken_away}
use Rattle.sequence_laws.specs.Laws.{NothingGoesBack, ChangeGoesBack, ChangeBesideGoesBack}
use Rattle.sequence_laws.proofs.SequenceLemmas.{away_behind, before, behind, is_there, latest_is_one, none_is_not, not_taken, same_or_other, set_at, some_before, some_of, some_same, swapped}
use Rattle.sequence_laws.proofs.OthersLemmas.{replaced, quiet_goes, replaced_goes}

-- A position is set, or the last one goes.
set_any : (rs : List (List ℕ)) (n m : ℕ) (v : Option (List ℕ)) → MaySet n v rs → (m ≡ n → record_at (list_set n v rs) m ≡ v) × (m ≢ n → record_at (list_set n v rs) m ≡ record_at rs m)
set_any rs n m (Some r) may = set_at rs n m r may.0 may.1
set_any rs n m None may =
    let is = ap (λ (xs : List (List ℕ)). record_at xs m) (list_set_none n rs may.1) in
    let at = record_at_take rs n m may.0 in (
      (λ e. is ∙ at.0 (omega (arith, e))),
      (λ e. is ∙ elim (both_ways (nat_le n m)) [
        | inl le ↦ let p = behind n m le in at.0 p ∙ sym (record_at_past rs m (let q = may.1 in omega (arith, p, q, e)))
        | inr lt ↦ at.1 (before n m lt)
      ]),
    )

may_one : (n : ℕ) (now : List (List ℕ)) (v : Option (List ℕ)) → MaySet n v now → 1 ≤ n
may_one n now (Some r) may = may.0
may_one n now None may = may.0

-- What is taken away once a change more is undone: what was, and all from its position on where it found no record.
more_away : (c : Change) (n : ℕ) (so_far : Option ℕ) (m : ℕ) → c.key ≡ Number n → is_taken_away (absent_at c so_far) m ≡ true → (is_taken_away so_far m ≡ true) ⊎ ((c.before ≡ None) × (n ≤ m))
more_away c n so_far m key tk = go c.before refl tk
  where
    down : (o : Option ℕ) → is_taken_away (lower n o) m ≡ true → (is_taken_away o m ≡ true) ⊎ (n ≤ m)
    down None e = inr (behind n m e)
    down (Some k) e = elim (both_ways (nat_le k m)) [ inl le ↦ inl le | inr lt ↦ let p = before k m lt in let q = behind (min n k) m e in inr (omega (arith, p, q)) ]

    go : (o : Option (List ℕ)) → c.before ≡ o → is_taken_away (elim o [ Some r ↦ so_far | None ↦ elim c.key [ Number n ↦ lower n so_far | Text t ↦ so_far | End ↦ so_far ] ]) m ≡ true → (is_taken_away so_far m ≡ true) ⊎ ((c.before ≡ None) × (n ≤ m))
    go (Some r) is e = inl e
    go None is e = elim (down so_far (subst (λ (k : Key). is_taken_away (elim k [ Number n ↦ lower n so_far | Text t ↦ so_far | End ↦ so_far ]) m ≡ true) key e)) [ inl old ↦ inl old | inr le ↦ inr (is, le) ]

-- what is not, was not, and lies before such a position
less_away : (c : Change) (n : ℕ) (so_far : Option ℕ) (m : ℕ) → c.key ≡ Number n → is_taken_away (absent_at c so_far) m ≡ false → (is_taken_away so_far m ≡ false) × (c.before ≡ None → m < n)
less_away c n so_far m key nt = go c.before refl nt
  where
    down : (o : Option ℕ) → is_taken_away (lower n o) m ≡ false → (is_taken_away o m ≡ false) × (m < n)
    down None e = (refl, before n m e)
    down (Some k) e = let p = before (min n k) m e in (not_taken k m (omega (arith, p)), omega (arith, p))

    go : (o : Option (List ℕ)) → c.before ≡ o → is_taken_away (elim o [ Some r ↦ so_far | None ↦ elim c.key [ Number n ↦ lower n so_far | Text t ↦ so_far | End ↦ so_far ] ]) m ≡ false → (is_taken_away so_far m ≡ false) × (c.before ≡ None → m < n)
    go (Some r) is e = (e, λ none. absurd (none_is_not c.before none (some_of c.before r is)))
    go None is e = let both = down so_far (subst (λ (k : Key). is_taken_away (elim k [ Number n ↦ lower n so_far | Text t ↦ so_far | End ↦ so_far ]) m ≡ false) key e) in (both.0, λ none. both.1)

-- where a position has no record, none behind it has
none_behind : (rs : List (List ℕ)) (n m : ℕ) → 1 ≤ n → record_at rs n ≡ None → n ≤ m → record_at rs m ≡ None
none_behind rs n m one none le = elim (is_there (record_at rs m)) [
  | inl there ↦ there
  | inr some ↦ absurd (none_is_not (record_at rs n) none (some_ahead rs n m one le some))
]
  where
    some_ahead : (rs : List (List ℕ)) (n m : ℕ) → 1 ≤ n → n ≤ m → IsSome (record_at rs m) → IsSome (record_at rs n)
    some_ahead rs zero m one le some = absurd (omega (arith, one))
    some_ahead rs (suc n) zero one le some = absurd (omega (arith, le))
    some_ahead rs (suc n) (suc m) one le some = some_before rs n m (omega (arith, le)) some

at_key : (c : Change) (n m : ℕ) → c.key ≡ Number n → m ≡ n → is_of (Number m) c ≡ true
at_key c n m key same = ap (λ (k : Key). eq_by_cmp key_cmp (Number m) k) key ∙ same_test m n same

off_key : (c : Change) (n m : ℕ) → c.key ≡ Number n → m ≢ n → is_of (Number m) c ≡ false
off_key c n m key other = ap (λ (k : Key). eq_by_cmp key_cmp (Number m) k) key ∙ other_test m n other

pub nothing_goes_back : NothingGoesBack
nothing_goes_back h now records fits = record {
  restored = λ n one. refl;
  own = λ n tk x. absurd (never _ tk refl);
  whole = λ m n tk off le ck. absurd (never _ tk refl);
  same = λ n r s nt is was. ap length (some_same s r (sym was ∙ is));
  records = records;
  fits = fits;
}

pub change_goes_back : ChangeGoesBack
change_goes_back h cs now back c n g latest next = record {
  restored = λ m one. elim (same_or_other m n) [ inl same ↦ restored_here m one same | inr other ↦ restored_else m one other ];
  own = λ m tk x. elim (same_or_other m n) [ inl same ↦ or_one _ _ (at_key c n m next.key same) | inr other ↦ or_other (is_of (Number m) c) _ (own_else m other (more_away c n (lowest_absent cs) m next.key tk) (moved m other x)) ];
  whole = λ m p tk off le ck. record { latest = stands p ck; absent = absent m p (more_away c n (lowest_absent cs) m next.key tk) off le ck };
  same = λ m r s nt is was. let old = less_away c n (lowest_absent cs) m next.key nt in elim (same_or_other m n) [
    | inl same ↦ same_here m r s same old is was
    | inr other ↦ g.same m r s old.0 (sym ((set_any now n m c.after next.may).1 other) ∙ is) was
  ];
  records = g.records;
  fits = g.fits;
}
  where
    one_n : 1 ≤ n
    one_n = may_one n now c.after next.may

    restored_here : (m : ℕ) → 1 ≤ m → m ≡ n → record_at back m ≡ cond (is_of (Number m) c || changes_key (Number m) cs) (cond (changes_key (Number m) cs) (earliest_before cs (Number m)) c.before) (record_at (list_set n c.after now) m)
    restored_here m one same = g.restored m one ∙ swapped (changes_key (Number m) cs) (earliest_before cs (Number m)) _ _ (λ not. ap (record_at now) same ∙ sym next.found) ∙ sym (picked (is_of (Number m) c || changes_key (Number m) cs) _ _ (or_one _ _ (at_key c n m next.key same)))

    restored_else : (m : ℕ) → 1 ≤ m → m ≢ n → record_at back m ≡ cond (is_of (Number m) c || changes_key (Number m) cs) (cond (changes_key (Number m) cs) (earliest_before cs (Number m)) c.before) (record_at (list_set n c.after now) m)
    restored_else m one other = g.restored m one ∙ step (is_of (Number m) c) (changes_key (Number m) cs) (off_key c n m next.key other) (sym ((set_any now n m c.after next.may).1 other))
      where
        step : (x y : Bool) → x ≡ false → record_at now m ≡ record_at (list_set n c.after now) m → cond y (earliest_before cs (Number m)) (record_at now m) ≡ cond (x || y) (cond y (earliest_before cs (Number m)) c.before) (record_at (list_set n c.after now) m)
        step true y e f = absurd cc
        step false true e f = refl
        step false false e f = f

    moved : (m : ℕ) → m ≢ n → IsSome (record_at (list_set n c.after now) m) ⊎ IsSome (record_at back m) → IsSome (record_at now m) ⊎ IsSome (record_at back m)
    moved m other (inl some) = inl (subst IsSome ((set_any now n m c.after next.may).1 other) some)
    moved m other (inr some) = inr some

    gone : (m : ℕ) → c.before ≡ None → n ≤ m → record_at now m ≡ None
    gone m none le = none_behind now n m one_n (sym next.found ∙ none) le

    own_else : (m : ℕ) → m ≢ n → (is_taken_away (lowest_absent cs) m ≡ true) ⊎ ((c.before ≡ None) × (n ≤ m)) → IsSome (record_at now m) ⊎ IsSome (record_at back m) → changes_key (Number m) cs ≡ true
    own_else m other (inl tk) x = g.own m tk x
    own_else m other (inr p) (inl some) = absurd (none_is_not _ (gone m p.0 p.1) some)
    own_else m other (inr p) (inr some) = elim (both_ways (changes_key (Number m) cs)) [
      | inl ck ↦ ck
      | inr not ↦ absurd (none_is_not _ (g.restored m (let le = p.1 in let one = one_n in omega (arith, le, one)) ∙ passed (changes_key (Number m) cs) _ _ not ∙ gone m p.0 p.1) some)
    ]

    of_cs : (m : ℕ) → m ≢ n → (is_of (Number m) c || changes_key (Number m) cs) ≡ true → changes_key (Number m) cs ≡ true
    of_cs m other ck = elim (or_either _ _ ck) [ inl at ↦ absurd (never _ at (off_key c n m next.key other)) | inr mine ↦ mine ]

    -- what the branch changed stands
    stands : (p : ℕ) → (is_of (Number p) c || changes_key (Number p) cs) ≡ true → record_at (list_set n c.after now) p ≡ cond (is_of (Number p) c) c.after (latest_after cs (Number p))
    stands p ck = elim (same_or_other p n) [
      | inl same ↦ (set_any now n p c.after next.may).0 same ∙ sym (picked (is_of (Number p) c) _ _ (at_key c n p next.key same))
      | inr other ↦ (set_any now n p c.after next.may).1 other ∙ latest (Number p) (of_cs p other ck) ∙ sym (passed (is_of (Number p) c) _ _ (off_key c n p next.key other))
    ]

    -- what has no record now has none as an image
    none_now : (p : ℕ) → changes_key (Number p) cs ≡ true → record_at now p ≡ None → IsImage cs (Number p) None
    none_now p ck none = subst (IsImage cs (Number p)) (sym (latest (Number p) ck) ∙ none) (latest_is_one cs (Number p) ck)

    -- nor has a position behind the one that is changed, unless a record is replaced
    past : (p : ℕ) → (c.before ≡ None) ⊎ (c.after ≡ None) → n < p → record_at now p ≡ None
    past p (inl none) lt = gone p none (omega (arith, lt))
    past p (inr none) lt = record_at_past now p (let end = last c.after none next.may in omega (arith, lt, end))
      where
        last : (v : Option (List ℕ)) → v ≡ None → MaySet n v now → n ≡ length now
        last (Some r) e may = absurd cc
        last None e may = may.1

    -- a position before it that cannot be set back in place could not before
    off_before : (m : ℕ) → m ≢ n → goes_in_place (record_at (list_set n c.after now) m) (record_at back m) ≡ false → goes_in_place (record_at now m) (record_at back m) ≡ false
    off_before m other off = ap (λ (o : Option (List ℕ)). goes_in_place o (record_at back m)) (sym ((set_any now n m c.after next.may).1 other)) ∙ off

    -- the end moves
    absent_end : (m p : ℕ) → (c.before ≡ None) ⊎ (c.after ≡ None) → (is_taken_away (lowest_absent cs) m ≡ true) ⊎ ((c.before ≡ None) × (n ≤ m)) → goes_in_place (record_at (list_set n c.after now) m) (record_at back m) ≡ false → m ≤ p
        → (is_of (Number p) c || changes_key (Number p) cs) ≡ true → IsImage (c ∷ cs) (Number p) None
    absent_end m p moves tk off le ck = elim (same_or_other p n) [
      | inl same ↦ inl (at_key c n p next.key same, elim moves [ inl none ↦ inl (sym none) | inr none ↦ inr (sym none) ])
      | inr other ↦ inr (elim (both_ways (nat_le n p)) [
        | inl late ↦ none_now p (of_cs p other ck) (past p moves (let at = behind n p late in omega (arith, at, other)))
        | inr early ↦ old (before n p early) (of_cs p other ck) tk
      ])
    ]
      where
        old : p < n → changes_key (Number p) cs ≡ true → (is_taken_away (lowest_absent cs) m ≡ true) ⊎ ((c.before ≡ None) × (n ≤ m)) → IsImage cs (Number p) None
        old lt pk (inl away) = let w = g.whole m p away (off_before m (λ e. omega (arith, lt, le, e)) off) le pk in w.absent
        old lt pk (inr far) = let at = far.1 in absurd (omega (arith, lt, le, at))

    -- a record is replaced by one as long
    as_long : (r v : List ℕ) (o : Option (List ℕ)) → length v ≡ length r → goes_in_place (Some r) o ≡ goes_in_place (Some v) o
    as_long r v None same = refl
    as_long r v (Some s) same = ap (λ (k : ℕ). length s == k) (sym same)

    absent_same : (m p : ℕ) (r v : List ℕ) → c.before ≡ Some r → c.after ≡ Some v → is_taken_away (lowest_absent cs) m ≡ true → goes_in_place (record_at (list_set n c.after now) m) (record_at back m) ≡ false → m ≤ p
        → (is_of (Number p) c || changes_key (Number p) cs) ≡ true → IsImage (c ∷ cs) (Number p) None
    absent_same m p r v was is tk off le ck = let w = g.whole m p tk off_now le mine in inr w.absent
      where
        now_n : record_at now n ≡ Some r
        now_n = sym next.found ∙ was

        off_now : goes_in_place (record_at now m) (record_at back m) ≡ false
        off_now = elim (same_or_other m n) [
          | inl same ↦
              ap (λ (o : Option (List ℕ)). goes_in_place o (record_at back m)) (ap (record_at now) same ∙ now_n) ∙ as_long r v (record_at back m) (next.long r v was is)
              ∙ ap (λ (o : Option (List ℕ)). goes_in_place o (record_at back m)) (sym ((set_any now n m c.after next.may).0 same ∙ is)) ∙ off
          | inr other ↦ off_before m other off
        ]

        mine : changes_key (Number p) cs ≡ true
        mine = elim (same_or_other p n) [
          | inl same ↦ g.own p (away_behind (lowest_absent cs) m p tk le) (inl (some_of (record_at now p) r (ap (record_at now) same ∙ now_n)))
          | inr other ↦ of_cs p other ck
        ]

    absent : (m p : ℕ) → (is_taken_away (lowest_absent cs) m ≡ true) ⊎ ((c.before ≡ None) × (n ≤ m)) → goes_in_place (record_at (list_set n c.after now) m) (record_at back m) ≡ false → m ≤ p → (is_of (Number p) c || changes_key (Number p) cs) ≡ true → IsImage (c ∷ cs) (Number p) None
    absent m p tk off le ck = go c.before c.after refl refl tk
      where
        go : (b a : Option (List ℕ)) → c.before ≡ b → c.after ≡ a → (is_taken_away (lowest_absent cs) m ≡ true) ⊎ ((c.before ≡ None) × (n ≤ m)) → IsImage (c ∷ cs) (Number p) None
        go None a was is x = absent_end m p (inl was) x off le ck
        go (Some r) None was is x = absent_end m p (inr is) x off le ck
        go (Some r) (Some v) was is (inl away) = absent_same m p r v was is away off le ck
        go (Some r) (Some v) was is (inr none) = absurd (none_is_not c.before none.0 (some_of c.before r was))

    same_here : (m : ℕ) (r s : List ℕ) → m ≡ n → (is_taken_away (lowest_absent cs) m ≡ false) × (c.before ≡ None → m < n) → record_at (list_set n c.after now) m ≡ Some r → record_at back m ≡ Some s → length s ≡ length r
    same_here m r s same old is was = go c.before refl
      where
        go : (o : Option (List ℕ)) → c.before ≡ o → length s ≡ length r
        go None none = let lt = old.1 none in absurd (omega (arith, lt, same))
        go (Some q) some =
            let now_m : record_at now m ≡ Some q = ap (record_at now) same ∙ sym next.found ∙ some in
            g.same m q s old.0 now_m was ∙ sym (next.long q r some (sym ((set_any now n m c.after next.may).0 same) ∙ is))

-- The other branches.

pub change_beside_goes_back : ChangeBesideGoesBack
change_beside_goes_back h ds now other c n k has next free ends records fits = elim (both_ways (moves_end ds)) [
  | inr quiet ↦ (replaced ds 1 (list_set n c.after now), quiet_goes h ds now (list_set n c.after now) other k has kept quiet records fits)
  | inl moved ↦ in_place (still_change c (false_from_ne_true _ (λ (e : moves_end (c ∷ []) ≡ true). clash (moves_end ds) moved (ends e))))
]
  where
    kept : (m : ℕ) → 1 ≤ m → changes_key (Number m) ds ≡ true → record_at (list_set n c.after now) m ≡ record_at now m
    kept m one ck = (set_any now n m c.after next.may).1 (λ (e : m ≡ n). clash (changes_key (Number m) ds) ck (subst (λ (x : ℕ). changes_key (Number x) ds ≡ false) (sym e) free))

    still_change : (d : Change) → moves_end (d ∷ []) ≡ false → IsSome d.before × IsSome d.after
    still_change d e = parts d.before d.after e
      where
        parts : (a b : Option (List ℕ)) → ((is_none a || is_none b) || false) ≡ false → IsSome a × IsSome b
        parts None b e = absurd cc
        parts (Some x) None e = absurd cc
        parts (Some x) (Some y) e = (refl, refl)

    set_so : (r : List ℕ) → c.after ≡ Some r → (m : ℕ) → (m ≡ n → record_at (list_set n c.after now) m ≡ Some r) × (m ≢ n → record_at (list_set n c.after now) m ≡ record_at now m)
    set_so r is m = let at = set_any now n m c.after next.may in ((λ e. at.0 e ∙ is), at.1)

    some_in : (o : Option (List ℕ)) → IsSome o → (r : List ℕ) × (o ≡ Some r)
    some_in None e = absurd cc
    some_in (Some r) e = (r, refl)

    in_place : IsSome c.before × IsSome c.after → (back : List (List ℕ)) × GoesBack h ds (list_set n c.after now) back
    in_place both =
        let old = some_in c.before both.0 in
        let new = some_in c.after both.1 in
        (list_set n (Some new.0) other, replaced_goes h ds now (list_set n c.after now) other n old.0 new.0 k free (may_one n now c.after next.may) (sym next.found ∙ old.1) (next.long old.0 new.0 old.1 new.1) (set_so new.0 new.1) records)
