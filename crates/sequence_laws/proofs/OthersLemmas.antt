-- Two branches of one sequential file.
use Rattle.std.proofs.Common.{◌≡◌, ◌≢◌, ℕ, zero, suc, ◌+◌, ◌≤◌, Bool, true, false, cond, ◌||◌, List, [], ◌∷◌, length, Option, Some, None, refl, sym, ◌∙◌, ap, subst, inl, inr, ◌⊎◌, arith}
use Rattle.std.specs.Prelude.{nat_le, is_some, IsSome, unwrap_or, get_or}
use Rattle.std.specs.Option.{option_map, is_none}
use Rattle.std.specs.List.{All, slice_get}
use Rattle.std.proofs.lemmas.Bool.{false_from_ne_true}
use Rattle.std.proofs.lemmas.Option.{slice_get-get_or, slice_get_within, get_or_from_slice_get}
use Rattle.seq_file.specs.file_base.declared.head.FileHead.{FileHead}
use Rattle.seq_file.specs.Layout.{IsRecord, capacity}
use Rattle.seq_file.specs.Placing.{buckets_for}
use Rattle.seq_file.specs.Records.{record_at, map_of_list, list_set, slot_sizes}
use Rattle.unit_laws.specs.vms_model.Keys.{Key, Number, Text, End}
use Rattle.unit_laws.specs.records_model.Records.{Change}
use Rattle.unit_laws.specs.records_model.History.{changes_key}
use Rattle.unit_laws.specs.Units.{HasImages, IsImage, is_of, earliest_before, moves_end}
use Rattle.sequence_laws.specs.Undoing.{GoesBack, StandsWhole, goes_in_place, lowest_absent, absent_at, lower, is_taken_away}
use Rattle.seq_file.proofs.RecordLaws.{record_at_past}
use Rattle.unit_laws.proofs.Tests.{both_ways, picked, passed}
use Rattle.unit_laws.proofs.LiveLemmas.{clash}
use Rattle.sequence_laws.proofs.SequenceLemmas.{earliest_is_one, same_or_other, behind, before, off_is_some, set_at}
use Rattle.sequence_laws.specs.Laws.{OtherGoesBack}

some_same : (a b : List ℕ) → Some a ≡ Some b → a ≡ b
some_same a b e = cc

some_of : (o : Option (List ℕ)) → IsSome o → (r : List ℕ) × (o ≡ Some r)
some_of None h = absurd cc
some_of (Some r) h = (r, refl)

is_one : (o : Option (List ℕ)) (r : List ℕ) → o ≡ Some r → IsSome o
is_one o r e = ap is_some e

-- all records of a list, by place
all_from : (P : List ℕ → Type 0) (xs : List (List ℕ)) → ((i : ℕ) (r : List ℕ) → slice_get xs i ≡ Some r → P r) → All P xs
all_from P xs h = λ k d lt. h k (get_or xs k d) (slice_get-get_or xs k d lt)

all_at : (P : List ℕ → Type 0) (xs : List (List ℕ)) (i : ℕ) (r : List ℕ) → All P xs → slice_get xs i ≡ Some r → P r
all_at P xs i r all e = subst P (get_or_from_slice_get xs i r r e) (all i r (slice_get_within xs i r e))

-- Records of which those that were changed have their earliest_before before images.
abbrev pub pick : List Change → ℕ → List ℕ → List ℕ
pick cs n r = cond (changes_key (Number n) cs) (unwrap_or (earliest_before cs (Number n)) r) r

abbrev pub replaced : List Change → ℕ → List (List ℕ) → List (List ℕ)
replaced cs n [] = []
replaced cs n (r ∷ rs) = pick cs n r ∷ replaced cs (suc n) rs

get_replaced : (cs : List Change) (n : ℕ) (rs : List (List ℕ)) (i m : ℕ) → m ≡ n + i → slice_get (replaced cs n rs) i ≡ option_map (pick cs m) (slice_get rs i)
get_replaced cs n [] i m e = refl
get_replaced cs n (r ∷ rs) zero m e = let at : n ≡ m = omega (arith, e) in ap (λ (k : ℕ). Some (pick cs k r)) at
get_replaced cs n (r ∷ rs) (suc i) m e = get_replaced cs (suc n) rs i m (omega (arith, e))

at_replaced : (cs : List Change) (rs : List (List ℕ)) (n : ℕ) → record_at (replaced cs 1 rs) n ≡ option_map (pick cs n) (record_at rs n)
at_replaced cs rs zero = refl
at_replaced cs rs (suc n) = get_replaced cs 1 rs n (suc n) (omega arith)

-- A branch that does not move the end has records before and after each of its changes.
absent_none : (o : Option (List ℕ)) (b : Bool) → (is_none o || b) ≡ false → IsSome o
absent_none None b e = absurd cc
absent_none (Some r) b e = refl

no_absent : (cs : List Change) → moves_end cs ≡ false → lowest_absent cs ≡ None
no_absent [] e = refl
no_absent (c ∷ cs) e = go c.before refl (parts (is_none c.before) (is_none c.after) e) (no_absent cs)
  where
    parts : (x y : Bool) → ((x || y) || moves_end cs) ≡ false → (x ≡ false) × (moves_end cs ≡ false)
    parts true y e = absurd cc
    parts false true e = absurd cc
    parts false false e = (refl, e)

    go : (o : Option (List ℕ)) → c.before ≡ o → (is_none c.before ≡ false) × (moves_end cs ≡ false) → (moves_end cs ≡ false → lowest_absent cs ≡ None) → absent_at c (lowest_absent cs) ≡ None
    go None is p later = clash (is_none c.before) (ap is_none is) p.0
    go (Some r) is p later = ap (λ (o : Option (List ℕ)). elim o [ Some r ↦ lowest_absent cs | None ↦ elim c.key [ Number n ↦ lower n (lowest_absent cs) | Text t ↦ lowest_absent cs | End ↦ lowest_absent cs ] ]) is ∙ later p.1

one_is_some : (cs : List Change) (key : Key) (v : Option (List ℕ)) → moves_end cs ≡ false → IsImage cs key v → IsSome v
one_is_some [] key v e one = absurd one
one_is_some (c ∷ cs) key v e one = go one (one_is_some cs key v)
  where
    before_some : (x y : Bool) → ((x || y) || moves_end cs) ≡ false → x ≡ false
    before_some true y e = absurd cc
    before_some false y e = refl

    after_some : (x y : Bool) → ((x || y) || moves_end cs) ≡ false → y ≡ false
    after_some true y e = absurd cc
    after_some false true e = absurd cc
    after_some false false e = refl

    rest : (x y : Bool) → ((x || y) || moves_end cs) ≡ false → moves_end cs ≡ false
    rest true y e = absurd cc
    rest false true e = absurd cc
    rest false false e = e

    there : (o : Option (List ℕ)) → is_none o ≡ false → IsSome o
    there None e = absurd cc
    there (Some r) e = refl

    go : ((is_of key c ≡ true) × ((v ≡ c.before) ⊎ (v ≡ c.after))) ⊎ IsImage cs key v → (moves_end cs ≡ false → IsImage cs key v → IsSome v) → IsSome v
    go (inl (at, inl is)) later = subst IsSome (sym is) (there c.before (before_some (is_none c.before) (is_none c.after) e))
    go (inl (at, inr is)) later = subst IsSome (sym is) (there c.after (after_some (is_none c.before) (is_none c.after) e))
    go (inr more) later = later (rest (is_none c.before) (is_none c.after) e) more

earliest_some : (cs : List Change) (key : Key) → moves_end cs ≡ false → changes_key key cs ≡ true → IsSome (earliest_before cs key)
earliest_some cs key e ck = one_is_some cs key (earliest_before cs key) e (earliest_is_one cs key ck)

-- Once a branch that does not move the end is taken back in a list of records: at each position.
at_back : (cs : List Change) (rs : List (List ℕ)) (n : ℕ) → moves_end cs ≡ false → (changes_key (Number n) cs ≡ true → IsSome (record_at rs n)) → record_at (replaced cs 1 rs) n ≡ cond (changes_key (Number n) cs) (earliest_before cs (Number n)) (record_at rs n)
at_back cs rs n still there = at_replaced cs rs n ∙ go (changes_key (Number n) cs) refl (record_at rs n) refl
  where
    mapped : (o : Option (List ℕ)) → option_map (λ (r : List ℕ). r) o ≡ o
    mapped None = refl
    mapped (Some r) = refl

    taken : (o : Option (List ℕ)) (r : List ℕ) → IsSome o → Some (unwrap_or o r) ≡ o
    taken None r h = absurd cc
    taken (Some x) r h = refl

    go : (b : Bool) → changes_key (Number n) cs ≡ b → (o : Option (List ℕ)) → record_at rs n ≡ o → option_map (λ r. cond b (unwrap_or (earliest_before cs (Number n)) r) r) o ≡ cond b (earliest_before cs (Number n)) o
    go true is None e = let bad = subst IsSome e (there is) in absurd cc
    go true is (Some r) e = taken (earliest_before cs (Number n)) r (earliest_some cs (Number n) still is)
    go false is o e = mapped o

-- as long records lie in as many buckets
sizes_same : (xs ys : List (List ℕ)) → ((i : ℕ) → option_map (λ (r : List ℕ). length r) (slice_get xs i) ≡ option_map (λ (r : List ℕ). length r) (slice_get ys i)) → slot_sizes xs ≡ slot_sizes ys
sizes_same [] [] h = refl
sizes_same [] (y ∷ ys) h = let e = h 0 in let never : ⊥ = cc in absurd never
sizes_same (x ∷ xs) [] h = let e = h 0 in let never : ⊥ = cc in absurd never
sizes_same (x ∷ xs) (y ∷ ys) h =
    let e = h 0 in
    let same : length x ≡ length y = cc in
    ap (λ (n : ℕ). (n + 2) ∷ slot_sizes xs) same ∙ ap (λ (ns : List ℕ). (length y + 2) ∷ ns) (sizes_same xs ys (λ i. h (suc i)))

-- the lengths at a position, where both have a record or neither has
lengths : (o p : Option (List ℕ)) → (IsSome o → IsSome p) → (IsSome p → IsSome o) → ((r s : List ℕ) → o ≡ Some r → p ≡ Some s → length r ≡ length s) → option_map (λ (r : List ℕ). length r) o ≡ option_map (λ (r : List ℕ). length r) p
lengths None None f g h = refl
lengths None (Some s) f g h = let bad = g refl in absurd cc
lengths (Some r) None f g h = let bad = f refl in absurd cc
lengths (Some r) (Some s) f g h = ap Some (h r s refl refl)

-- none is behind the end of a branch that does not move it
none_away : (cs : List Change) (n : ℕ) → moves_end cs ≡ false → is_taken_away (lowest_absent cs) n ≡ false
none_away cs n still = subst (λ (o : Option ℕ). is_taken_away o n ≡ false) (sym (no_absent cs still)) refl

has_some : (cs : List Change) (now : List (List ℕ)) (n : ℕ) → moves_end cs ≡ false → HasImages (map_of_list now) cs → changes_key (Number n) cs ≡ true → IsSome (record_at now n)
has_some cs now n still has ck = one_is_some cs (Number n) (record_at now n) still (has (Number n) ck)

-- the records of two lists, by place: those of a third are all among them
all_among : (P : List ℕ → Type 0) (xs : List (List ℕ)) → ((n : ℕ) (r : List ℕ) → 1 ≤ n → record_at xs n ≡ Some r → P r) → All P xs
all_among P xs h = all_from P xs (λ i r e. h (suc i) r (omega arith) e)

all_of : (P : List ℕ → Type 0) (xs : List (List ℕ)) (n : ℕ) (r : List ℕ) → All P xs → record_at xs n ≡ Some r → P r
all_of P xs zero r all e = let never : ⊥ = cc in absurd never
all_of P xs (suc n) r all e = all_at P xs n r all e

same_sizes : (xs ys : List (List ℕ)) → ((n : ℕ) → 1 ≤ n → option_map (λ (r : List ℕ). length r) (record_at xs n) ≡ option_map (λ (r : List ℕ). length r) (record_at ys n)) → slot_sizes xs ≡ slot_sizes ys
same_sizes xs ys h = sizes_same xs ys (λ i. h (suc i) (omega arith))

-- A branch that does not move the end goes back from any records in which its positions have what they had, and that fit the file.
pub quiet_goes : (h : FileHead) (ds : List Change) (now next other : List (List ℕ)) → GoesBack h ds now other → HasImages (map_of_list now) ds → ((n : ℕ) → 1 ≤ n → changes_key (Number n) ds ≡ true → record_at next n ≡ record_at now n) → moves_end ds ≡ false
    → All (IsRecord h.mrs) next → buckets_for (capacity h) (slot_sizes next) ≤ h.alloc → GoesBack h ds next (replaced ds 1 next)
quiet_goes h ds now next other k has kept still records fits = record {
  restored = λ n one. at n one;
  own = λ n away x. clash (is_taken_away (lowest_absent ds) n) away (none_away ds n still);
  whole = λ m n away off le ck. clash (is_taken_away (lowest_absent ds) m) away (none_away ds m still);
  same = λ n r s away is was. alike n r s (positive next n r is) is was;
  records = all_among (IsRecord h.mrs) (replaced ds 1 next) (λ n r one e. elim (both_ways (changes_key (Number n) ds)) [
    | inl ck ↦ all_of (IsRecord h.mrs) other n r k.records (k.restored n one ∙ picked _ _ _ ck ∙ sym (picked (changes_key (Number n) ds) _ _ ck) ∙ sym (at n one) ∙ e)
    | inr not_d ↦ all_of (IsRecord h.mrs) next n r records (sym (passed (changes_key (Number n) ds) _ _ not_d) ∙ sym (at n one) ∙ e)
  ]);
  fits = subst (λ (sizes : List ℕ). buckets_for (capacity h) sizes ≤ h.alloc) (same_sizes next (replaced ds 1 next) sizes) fits;
}
  where
    positive : (rs : List (List ℕ)) (n : ℕ) (r : List ℕ) → record_at rs n ≡ Some r → 1 ≤ n
    positive rs zero r e = let never : ⊥ = cc in absurd never
    positive rs (suc n) r e = omega arith

    there : (n : ℕ) → 1 ≤ n → changes_key (Number n) ds ≡ true → IsSome (record_at next n)
    there n one ck = subst IsSome (sym (kept n one ck)) (has_some ds now n still has ck)

    at : (n : ℕ) → 1 ≤ n → record_at (replaced ds 1 next) n ≡ cond (changes_key (Number n) ds) (earliest_before ds (Number n)) (record_at next n)
    at n one = at_back ds next n still (there n one)

    alike : (n : ℕ) (r s : List ℕ) → 1 ≤ n → record_at next n ≡ Some r → record_at (replaced ds 1 next) n ≡ Some s → length s ≡ length r
    alike n r s one is was = elim (both_ways (changes_key (Number n) ds)) [
      | inl ck ↦ k.same n r s (none_away ds n still) (sym (kept n one ck) ∙ is) (k.restored n one ∙ picked _ _ _ ck ∙ sym (picked (changes_key (Number n) ds) _ _ ck) ∙ sym (at n one) ∙ was)
      | inr not_d ↦ ap length (some_same s r (sym was ∙ at n one ∙ passed _ _ _ not_d ∙ is))
    ]

    sizes : (n : ℕ) → 1 ≤ n → option_map (λ (r : List ℕ). length r) (record_at next n) ≡ option_map (λ (r : List ℕ). length r) (record_at (replaced ds 1 next) n)
    sizes n one = lengths (record_at next n) (record_at (replaced ds 1 next) n) to from (λ r s is was. sym (alike n r s one is was))
      where
        to : IsSome (record_at next n) → IsSome (record_at (replaced ds 1 next) n)
        to some = elim (both_ways (changes_key (Number n) ds)) [
          | inl ck ↦ subst IsSome (sym (at n one ∙ picked _ _ _ ck)) (earliest_some ds (Number n) still ck)
          | inr not_d ↦ subst IsSome (sym (at n one ∙ passed _ _ _ not_d)) some
        ]

        from : IsSome (record_at (replaced ds 1 next) n) → IsSome (record_at next n)
        from some = elim (both_ways (changes_key (Number n) ds)) [
          | inl ck ↦ there n one ck
          | inr not_d ↦ subst IsSome (at n one ∙ passed _ _ _ not_d) some
        ]

-- the first branch moved no end
end_goes : (h : FileHead) (cs ds : List Change) (now back other : List (List ℕ)) → GoesBack h cs now back → GoesBack h ds now other → HasImages (map_of_list now) cs → ((key : Key) → changes_key key cs ≡ true → changes_key key ds ≡ false) → moves_end cs ≡ false →
    GoesBack h ds back (replaced cs 1 other)
end_goes h cs ds now back other g k has apart still = record {
  restored = λ n one. at n one ∙ both n one (changes_key (Number n) cs) refl;
  own = λ n away x. k.own n away (elim x [ inl some ↦ inl (now_some n some) | inr some ↦ other_or n some ]);
  whole = whole;
  same = λ n r s away is was. alike n r s away (positive back n r is) is was;
  records = all_among (IsRecord h.mrs) (replaced cs 1 other) (λ n r one e. elim (both_ways (changes_key (Number n) cs)) [
    | inl ck ↦ all_of (IsRecord h.mrs) back n r g.records (g.restored n one ∙ picked _ _ _ ck ∙ sym (picked (changes_key (Number n) cs) _ _ ck) ∙ sym (at n one) ∙ e)
    | inr not_c ↦ all_of (IsRecord h.mrs) other n r k.records (sym (passed (changes_key (Number n) cs) _ _ not_c) ∙ sym (at n one) ∙ e)
  ]);
  fits = subst (λ (sizes : List ℕ). buckets_for (capacity h) sizes ≤ h.alloc) (same_sizes other (replaced cs 1 other) sizes) k.fits;
}
  where
    positive : (rs : List (List ℕ)) (n : ℕ) (r : List ℕ) → record_at rs n ≡ Some r → 1 ≤ n
    positive rs zero r e = let never : ⊥ = cc in absurd never
    positive rs (suc n) r e = omega arith

    some_positive : (rs : List (List ℕ)) (n : ℕ) → IsSome (record_at rs n) → 1 ≤ n
    some_positive rs zero e = let never : ⊥ = cc in absurd never
    some_positive rs (suc n) e = omega arith

    stood : (n : ℕ) → 1 ≤ n → changes_key (Number n) cs ≡ true → record_at other n ≡ record_at now n
    stood n one ck = k.restored n one ∙ passed (changes_key (Number n) ds) _ _ (apart (Number n) ck)

    there : (n : ℕ) → 1 ≤ n → changes_key (Number n) cs ≡ true → IsSome (record_at other n)
    there n one ck = subst IsSome (sym (stood n one ck)) (has_some cs now n still has ck)

    at : (n : ℕ) → 1 ≤ n → record_at (replaced cs 1 other) n ≡ cond (changes_key (Number n) cs) (earliest_before cs (Number n)) (record_at other n)
    at n one = at_back cs other n still (there n one)

    both : (n : ℕ) → 1 ≤ n → (b : Bool) → changes_key (Number n) cs ≡ b → cond b (earliest_before cs (Number n)) (record_at other n) ≡ cond (changes_key (Number n) ds) (earliest_before ds (Number n)) (record_at back n)
    both n one true ck = sym (passed (changes_key (Number n) ds) _ _ (apart (Number n) ck) ∙ g.restored n one ∙ picked _ _ _ ck)
    both n one false ck = k.restored n one ∙ ap (λ (v : Option (List ℕ)). cond (changes_key (Number n) ds) (earliest_before ds (Number n)) v) (sym (g.restored n one ∙ passed _ _ _ ck))

    now_some : (n : ℕ) → IsSome (record_at back n) → IsSome (record_at now n)
    now_some n some = let one = some_positive back n some in elim (both_ways (changes_key (Number n) cs)) [
      | inl ck ↦ has_some cs now n still has ck
      | inr not_c ↦ subst IsSome (g.restored n one ∙ passed _ _ _ not_c) some
    ]

    -- what the second branch changed is as it was
    apart_from : (n : ℕ) → changes_key (Number n) ds ≡ true → changes_key (Number n) cs ≡ false
    apart_from n ck = false_from_ne_true _ (λ (e : changes_key (Number n) cs ≡ true). clash (changes_key (Number n) ds) ck (apart (Number n) e))

    back_now : (n : ℕ) → 1 ≤ n → changes_key (Number n) ds ≡ true → record_at back n ≡ record_at now n
    back_now n one ck = g.restored n one ∙ passed _ _ _ (apart_from n ck)

    whole : (m n : ℕ) → is_taken_away (lowest_absent ds) m ≡ true → goes_in_place (record_at back m) (record_at (replaced cs 1 other) m) ≡ false → m ≤ n → changes_key (Number n) ds ≡ true → StandsWhole ds back n
    whole m n away off le ck = record { latest = back_now n (omega (arith, one, le)) ck ∙ stands.latest; absent = stands.absent }
      where
        some : IsSome (record_at back m)
        some = off_is_some (record_at back m) (record_at (replaced cs 1 other) m) off

        one : 1 ≤ m
        one = some_positive back m some

        mine : changes_key (Number m) ds ≡ true
        mine = k.own m away (inl (now_some m some))

        stands : StandsWhole ds now n
        stands = k.whole m n away
            (ap (λ (o : Option (List ℕ)). goes_in_place o (record_at other m)) (sym (back_now m one mine)) ∙ ap (goes_in_place (record_at back m)) (sym (at m one ∙ passed _ _ _ (apart_from m mine))) ∙ off) le ck

    other_or : (n : ℕ) → IsSome (record_at (replaced cs 1 other) n) → IsSome (record_at now n) ⊎ IsSome (record_at other n)
    other_or n some = let one = some_positive (replaced cs 1 other) n some in elim (both_ways (changes_key (Number n) cs)) [
      | inl ck ↦ inl (has_some cs now n still has ck)
      | inr not_c ↦ inr (subst IsSome (at n one ∙ passed _ _ _ not_c) some)
    ]

    alike : (n : ℕ) (r s : List ℕ) → is_taken_away (lowest_absent ds) n ≡ false → 1 ≤ n → record_at back n ≡ Some r → record_at (replaced cs 1 other) n ≡ Some s → length s ≡ length r
    alike n r s away one is was = elim (both_ways (changes_key (Number n) cs)) [
      | inl ck ↦ ap length (some_same s r (sym was ∙ at n one ∙ picked _ _ _ ck ∙ sym (g.restored n one ∙ picked _ _ _ ck) ∙ is))
      | inr not_c ↦ k.same n r s away (sym (g.restored n one ∙ passed _ _ _ not_c) ∙ is) (sym (at n one ∙ passed _ _ _ not_c) ∙ was)
    ]

    sizes : (n : ℕ) → 1 ≤ n → option_map (λ (r : List ℕ). length r) (record_at other n) ≡ option_map (λ (r : List ℕ). length r) (record_at (replaced cs 1 other) n)
    sizes n one = lengths (record_at other n) (record_at (replaced cs 1 other) n) to from long
      where
        to : IsSome (record_at other n) → IsSome (record_at (replaced cs 1 other) n)
        to some = elim (both_ways (changes_key (Number n) cs)) [
          | inl ck ↦ subst IsSome (sym (at n one ∙ picked _ _ _ ck)) (earliest_some cs (Number n) still ck)
          | inr not_c ↦ subst IsSome (sym (at n one ∙ passed _ _ _ not_c)) some
        ]

        from : IsSome (record_at (replaced cs 1 other) n) → IsSome (record_at other n)
        from some = elim (both_ways (changes_key (Number n) cs)) [
          | inl ck ↦ there n one ck
          | inr not_c ↦ subst IsSome (at n one ∙ passed _ _ _ not_c) some
        ]

        long : (r s : List ℕ) → record_at other n ≡ Some r → record_at (replaced cs 1 other) n ≡ Some s → length r ≡ length s
        long r s is was = elim (both_ways (changes_key (Number n) cs)) [
          | inl ck ↦ sym (g.same n r s (none_away cs n still) (sym (stood n one ck) ∙ is) (g.restored n one ∙ picked _ _ _ ck ∙ sym (at n one ∙ picked _ _ _ ck) ∙ was))
          | inr not_c ↦ ap length (some_same r s (sym is ∙ sym (at n one ∙ passed _ _ _ not_c) ∙ was))
        ]

pub other_goes_back : OtherGoesBack
other_goes_back h cs ds now back other g k has_c has_d apart ends = elim (both_ways (moves_end ds)) [
  | inr still ↦ (replaced ds 1 back, quiet_goes h ds now back other k has_d stood still g.records g.fits)
  | inl moves ↦
      let still : moves_end cs ≡ false = false_from_ne_true _ (λ (e : moves_end cs ≡ true). clash (moves_end ds) moves (ends e)) in
      (replaced cs 1 other, end_goes h cs ds now back other g k has_c apart still)
]
  where
    stood : (n : ℕ) → 1 ≤ n → changes_key (Number n) ds ≡ true → record_at back n ≡ record_at now n
    stood n one ck = g.restored n one ∙ passed (changes_key (Number n) cs) _ _ (false_from_ne_true _ (λ (e : changes_key (Number n) cs ≡ true). clash (changes_key (Number n) ds) ck (apart (Number n) e)))

-- A branch goes back from records of which one, at a position that it did not change, was replaced by another as long.
pub replaced_goes : (h : FileHead) (ds : List Change) (now next other : List (List ℕ)) (n : ℕ) (old new : List ℕ) → GoesBack h ds now other → changes_key (Number n) ds ≡ false → 1 ≤ n → record_at now n ≡ Some old → length new ≡ length old
    → ((m : ℕ) → (m ≡ n → record_at next m ≡ Some new) × (m ≢ n → record_at next m ≡ record_at now m)) → All (IsRecord h.mrs) next → GoesBack h ds next (list_set n (Some new) other)
replaced_goes h ds now next other n old new k free one there long set records = record {
  restored = λ m m1. elim (same_or_other m n) [
    | inl same ↦ (at m).0 same ∙ sym ((set m).0 same) ∙ sym (passed (changes_key (Number m) ds) _ _ (subst (λ (x : ℕ). changes_key (Number x) ds ≡ false) (sym same) free))
    | inr off ↦ (at m).1 off ∙ k.restored m m1 ∙ ap (λ (v : Option (List ℕ)). cond (changes_key (Number m) ds) (earliest_before ds (Number m)) v) (sym ((set m).1 off))
  ];
  own = λ m tk x. elim (same_or_other m n) [
    | inl same ↦ k.own m tk (inl (is_one _ old (ap (record_at now) same ∙ there)))
    | inr off ↦ k.own m tk (elim x [ inl some ↦ inl (subst IsSome ((set m).1 off) some) | inr some ↦ inr (subst IsSome ((at m).1 off) some) ])
  ];
  whole = whole;
  same = λ m r s nt is was. elim (same_or_other m n) [
    | inl same ↦ ap length (some_same s new (sym was ∙ (at m).0 same)) ∙ ap length (some_same new r (sym ((set m).0 same) ∙ is))
    | inr off ↦ k.same m r s nt (sym ((set m).1 off) ∙ is) (sym ((at m).1 off) ∙ was)
  ];
  records = all_among (IsRecord h.mrs) (list_set n (Some new) other) (λ m r m1 e. elim (same_or_other m n) [
    | inl same ↦ all_of (IsRecord h.mrs) next m r records ((set m).0 same ∙ sym ((at m).0 same) ∙ e)
    | inr off ↦ all_of (IsRecord h.mrs) other m r k.records (sym ((at m).1 off) ∙ e)
  ]);
  fits = subst (λ (sizes : List ℕ). buckets_for (capacity h) sizes ≤ h.alloc) (same_sizes other (list_set n (Some new) other) sizes) k.fits;
}
  where
    stood : record_at other n ≡ Some old
    stood = k.restored n one ∙ passed (changes_key (Number n) ds) _ _ free ∙ there

    few : n ≤ length other + 1
    few = elim (both_ways (nat_le n (length other))) [
      | inl le ↦ let p = behind n (length other) le in omega (arith, p)
      | inr lt ↦ let e = sym (record_at_past other n (before n (length other) lt)) ∙ stood in absurd (none_some e)
    ]
      where
        none_some : None ≡ Some old → ⊥
        none_some e = cc

    at : (m : ℕ) → (m ≡ n → record_at (list_set n (Some new) other) m ≡ Some new) × (m ≢ n → record_at (list_set n (Some new) other) m ≡ record_at other m)
    at m = set_at other n m new one few

    off_place : (m : ℕ) → changes_key (Number m) ds ≡ true → m ≢ n
    off_place m ck same = clash (changes_key (Number m) ds) ck (ap (λ (x : ℕ). changes_key (Number x) ds) same ∙ free)

    whole : (m p : ℕ) → is_taken_away (lowest_absent ds) m ≡ true → goes_in_place (record_at next m) (record_at (list_set n (Some new) other) m) ≡ false → m ≤ p → changes_key (Number p) ds ≡ true → StandsWhole ds next p
    whole m p away off le ck = elim (same_or_other m n) [
      | inl same ↦ clash (changes_key (Number m) ds) (k.own m away (inl (is_one _ old (ap (record_at now) same ∙ there)))) (ap (λ (x : ℕ). changes_key (Number x) ds) same ∙ free)
      | inr other_place ↦
          let stands = k.whole m p away (ap (λ (o : Option (List ℕ)). goes_in_place o (record_at other m)) (sym ((set m).1 other_place)) ∙ ap (goes_in_place (record_at next m)) (sym ((at m).1 other_place)) ∙ off) le ck in
          record { latest = (set p).1 (off_place p ck) ∙ stands.latest; absent = stands.absent }
    ]

    sizes : (m : ℕ) → 1 ≤ m → option_map (λ (r : List ℕ). length r) (record_at other m) ≡ option_map (λ (r : List ℕ). length r) (record_at (list_set n (Some new) other) m)
    sizes m m1 = elim (same_or_other m n) [
      | inl same ↦ ap (option_map (λ (r : List ℕ). length r)) (ap (record_at other) same ∙ stood) ∙ ap Some (sym long) ∙ ap (option_map (λ (r : List ℕ). length r)) (sym ((at m).0 same))
      | inr off ↦ ap (option_map (λ (r : List ℕ). length r)) (sym ((at m).1 off))
    ]
