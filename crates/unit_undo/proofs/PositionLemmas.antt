-- Positions of a sequential file are taken away and set back one after another.
use Rattle.std.proofs.Common.{◌≡◌, ◌≢◌, ℕ, zero, suc, ◌+◌, ◌-◌, ◌*◌, ◌<◌, ◌≤◌, Bool, true, false, cond, List, [], ◌∷◌, ◌++◌, length, take, Option, Some, None, refl, sym, ◌∙◌, ap, subst, inl, inr, ◌⊎◌, ◌||◌, arith}
use Rattle.std.specs.Prelude.{nat_le, IsSome, IsSomeAnd}
use Rattle.std.specs.List.{All, slice_get}
use Rattle.std.specs.Option.{is_none}
use Rattle.std.proofs.lemmas.Bool.{false_from_ne_true}
use Rattle.std.proofs.lemmas.List.Elements.{All-head, All-tail}
use Rattle.file_base.specs.declared.head.FileHead.{FileHead}
use Rattle.unit_entries.specs.change_set.Files.{SameFile}
use Rattle.unit_entries.specs.change_set.Maps.{same_key, set_key}
use Rattle.vms_model.specs.Keys.{Key, Number, Text, End}
use Rattle.records_model.specs.Records.{Change}
use Rattle.records_model.specs.History.{changes_key}
use Rattle.records_model.proofs.RecordsLemmas as records
use Rattle.directory_model.specs.seq_file.Layout as sequential
use Rattle.directory_model.specs.seq_file.Layout.{IsSequential, IsRecord, records_in, capacity}
use Rattle.directory_model.specs.seq_file.Placing.{buckets_for}
use Rattle.directory_model.specs.seq_file.Records.{record_at, map_of_list, list_set, cut_from, slot_sizes, MaySet}
use Rattle.unit_entries.proofs.seq_file.RecordLaws.{one_list, record_at_past}
use Rattle.unit_entries.proofs.seq_file.MapLaws.{map_set, map_cut}
use Rattle.unit_entries.proofs.seq_file.FileLaws.{append_takes, used_is}
use Rattle.unit_entries.specs.unit_laws.Units.{Map, HasImages, IsImage, is_of, earliest_before, with_before_images, moves_end}
use Rattle.unit_entries.proofs.unit_laws.Tests.{both_ways, never, or_either, or_one, or_other, picked, passed}
use Rattle.unit_entries.specs.sequence_laws.Undoing.{GoesBack, AllInPlace, lowest_absent, absent_at, lower, is_taken_away}
use Rattle.unit_entries.specs.sequence_laws.Laws.{IsStep, IsFirstOff, IsSetBefore, IsChangeOf}
use Rattle.unit_entries.proofs.sequence_laws.SequenceLemmas.{all_set_is_back, before, behind, cut_goes_back, in_place_gone, none_is_not, off_is_some, same_or_other, set_at, set_goes_back, set_may, some_before, some_is_one, some_of, some_same}
use Rattle.unit_entries.proofs.sequence_laws.ChangeLemmas.{change_beside_goes_back}
use Rattle.unit_entries.specs.run_model.World.{IsOnItsWay}
use Rattle.unit_undo.specs.Steps.{ArePositionsBack, ArePositions, IsBeside}
use Rattle.unit_undo.proofs.BackLemmas.{same_through}

-- What a head says of records stays.

pub record AlikeSizes (h new : FileHead) : Type 0 where
  pub mrs : new.mrs ≡ h.mrs
  pub bucket : new.bucket ≡ h.bucket
  pub alloc : new.alloc ≡ h.alloc

pub sizes_alike : (h new : FileHead) → SameFile h new → AlikeSizes h new
sizes_alike h new same = record { mrs = ap (λ (x : FileHead). x.mrs) same.is; bucket = ap (λ (x : FileHead). x.bucket) same.is; alloc = ap (λ (x : FileHead). x.alloc) same.is }

pub fits_as : (h new : FileHead) (sizes : List ℕ) → AlikeSizes h new → buckets_for (capacity h) sizes ≤ h.alloc → buckets_for (capacity new) sizes ≤ new.alloc
fits_as h new sizes alike fits = subst (λ (n : ℕ). buckets_for (capacity new) sizes ≤ n) (sym alike.alloc) (subst (λ (w : ℕ). buckets_for (512 * w - 16) sizes ≤ h.alloc) (sym alike.bucket) fits)

pub alike_turned : (h new : FileHead) → AlikeSizes h new → AlikeSizes new h
alike_turned h new alike = record { mrs = sym alike.mrs; bucket = sym alike.bucket; alloc = sym alike.alloc }

pub goes_as : (h new : FileHead) (cs : List Change) (now back : List (List ℕ)) → AlikeSizes h new → GoesBack h cs now back → GoesBack new cs now back
goes_as h new cs now back alike g = record {
  restored = g.restored;
  own = g.own;
  whole = g.whole;
  same = g.same;
  records = subst (λ (m : ℕ). All (IsRecord m) back) (sym alike.mrs) g.records;
  fits = fits_as h new (slot_sizes back) alike g.fits;
}

-- a list of records at its places
record_of : (P : List ℕ → Type 0) (xs : List (List ℕ)) (n : ℕ) (r : List ℕ) → All P xs → record_at xs n ≡ Some r → P r
record_of P xs zero r all e = absurd cc
record_of P [] (suc n) r all e = absurd cc
record_of P (x ∷ xs) (suc zero) r all e = subst P (some_same x r e) (All-head P x xs all)
record_of P (x ∷ xs) (suc (suc n)) r all e = record_of P xs (suc n) r (All-tail P x xs all) e

-- what is changed without a record before or after it moves the end
image_moves : (cs : List Change) (key : Key) → IsImage cs key None → moves_end cs ≡ true
image_moves [] key is = absurd is
image_moves (c ∷ cs) key (inl here) = or_one (is_none c.before || is_none c.after) (moves_end cs) (elim here.1 [ inl e ↦ or_one (is_none c.before) (is_none c.after) (ap is_none (sym e)) | inr e ↦ or_other (is_none c.before) (is_none c.after) (ap is_none (sym e)) ])
image_moves (c ∷ cs) key (inr later) = or_other (is_none c.before || is_none c.after) (moves_end cs) (image_moves cs key later)

pub lowest_moves : (cs : List Change) (p : ℕ) → lowest_absent cs ≡ Some p → moves_end cs ≡ true
lowest_moves [] p e = absurd cc
lowest_moves (c ∷ cs) p e = go c.before refl e (λ later. lowest_moves cs p later)
  where
    go : (o : Option (List ℕ)) → c.before ≡ o → elim o [ Some r ↦ lowest_absent cs | None ↦ elim c.key [ Number n ↦ lower n (lowest_absent cs) | Text t ↦ lowest_absent cs | End ↦ lowest_absent cs ] ] ≡ Some p
        → (lowest_absent cs ≡ Some p → moves_end cs ≡ true) → moves_end (c ∷ cs) ≡ true
    go (Some r) is e later = or_other (is_none c.before || is_none c.after) (moves_end cs) (later e)
    go None is e later = or_one (is_none c.before || is_none c.after) (moves_end cs) (or_one (is_none c.before) (is_none c.after) (ap is_none is))

-- a position that had no record before the branch's first change is taken away
absent_away : (cs : List Change) (n : ℕ) → changes_key (Number n) cs ≡ true → earliest_before cs (Number n) ≡ None → is_taken_away (lowest_absent cs) n ≡ true
absent_away [] n changed none = absurd cc
absent_away (c ∷ cs) n changed none = elim (both_ways (changes_key (Number n) cs)) [
  | inl older ↦ lower_away c.before c.key (lowest_absent cs) (absent_away cs n older (sym (picked (changes_key (Number n) cs) _ _ older) ∙ none))
  | inr first ↦ elim (or_either (is_of (Number n) c) (changes_key (Number n) cs) changed) [
    | inl this ↦ here (lowest_absent cs) (sym (passed (changes_key (Number n) cs) _ _ first) ∙ none) (sym (records.same_key (Number n) c.key this))
    | inr older ↦ absurd (never (changes_key (Number n) cs) older first)
  ]
]
  where
    below : (k : ℕ) (o : Option ℕ) → (is_taken_away o n ≡ true) ⊎ (k ≤ n) → is_taken_away (lower k o) n ≡ true
    below k None (inl e) = absurd cc
    below k None (inr le) = grind arith
    below k (Some m) (inl e) = let p = behind m n e in grind arith
    below k (Some m) (inr le) = grind arith

    lower_away : (b : Option (List ℕ)) (key : Key) (o : Option ℕ) → is_taken_away o n ≡ true → is_taken_away (elim b [ Some r ↦ o | None ↦ elim key [ Number k ↦ lower k o | Text t ↦ o | End ↦ o ] ]) n ≡ true
    lower_away (Some r) key o e = e
    lower_away None (Number k) o e = below k o (inl e)
    lower_away None (Text t) o e = e
    lower_away None End o e = e

    here : (o : Option ℕ) → c.before ≡ None → c.key ≡ Number n → is_taken_away (absent_at c o) n ≡ true
    here o had key = subst (λ (b : Option (List ℕ)). is_taken_away (elim b [ Some r ↦ o | None ↦ elim c.key [ Number k ↦ lower k o | Text t ↦ o | End ↦ o ] ]) n ≡ true) (sym had)
        (subst (λ (k : Key). is_taken_away (elim k [ Number k ↦ lower k o | Text t ↦ o | End ↦ o ]) n ≡ true) (sym key) (below n o (inr (omega arith))))

-- a position is taken away of a branch alone that moved the end
pub taken_moves : (cs : List Change) (n : ℕ) → is_taken_away (lowest_absent cs) n ≡ true → moves_end cs ≡ true
taken_moves cs n tk = go (lowest_absent cs) refl tk
  where
    go : (o : Option ℕ) → lowest_absent cs ≡ o → is_taken_away o n ≡ true → moves_end cs ≡ true
    go None low tk = absurd cc
    go (Some p) low tk = lowest_moves cs p low

-- Positions are taken away.

module _ (a b : List (List ℕ)) (h new : FileHead) (cs : List Change) (form : IsSequential h) (laid : sequential.IsLaidOut h a) (back : List (List ℕ)) (goes : GoesBack h cs (records_in h a) back) (has : HasImages (map_of_list (records_in h a)) cs) where
  -- none has to be
  pub nothing_cut : AllInPlace cs (records_in h a) back → ArePositionsBack a h cs 0 a h
  nothing_cut all = record {
    same = record { is = refl };
    form = form;
    laid = laid;
    back = back;
    begins = goes;
    goes = goes;
    images = has;
    straight = λ key changed. inl refl;
    done = λ n one below changed. absurd (omega (arith, below));
    in_place = all;
  }

  module _ (from : ℕ) (off : IsFirstOff cs (records_in h a) back from) (same : SameFile h new) (new_form : IsSequential new) (new_laid : sequential.IsLaidOut new b) (maps : map_of_list (records_in new b) ≡ cut_from from (map_of_list (records_in h a))) where
    one : 1 ≤ from
    one = some_is_one (records_in h a) from (off_is_some (record_at (records_in h a) from) (record_at back from) off.off)

    pub cut_records : records_in new b ≡ take (from - 1) (records_in h a)
    cut_records = one_list (records_in new b) (take (from - 1) (records_in h a)) (maps ∙ sym (map_cut from (records_in h a) one))

    -- a position is gone, or stands
    cut_or_left : (key : Key) → IsOnItsWay (Unit {0}) (map_of_list (records_in h a) key) (earliest_before cs key) (cut_from from (map_of_list (records_in h a)) key)
    cut_or_left (Number n) = go (nat_le from n)
      where
        go : (b : Bool) → IsOnItsWay (Unit {0}) (map_of_list (records_in h a) (Number n)) (earliest_before cs (Number n)) (cond b None (map_of_list (records_in h a) (Number n)))
        go true = inr (inr (tt, refl))
        go false = inl refl
    cut_or_left (Text t) = inl refl
    cut_or_left End = inl refl

    step : IsStep h cs (records_in h a) back (records_in new b)
    step = subst (λ (rs : List (List ℕ)). IsStep h cs (records_in h a) back rs) (sym cut_records) (cut_goes_back h cs (records_in h a) back from goes off)

    pub are_cut : ArePositionsBack a h cs 0 b new
    are_cut = record {
      same = same;
      form = new_form;
      laid = new_laid;
      back = back;
      begins = goes;
      goes = step.goes;
      images = step.images has;
      straight = λ key changed. subst (λ (v : Option (List ℕ)). IsOnItsWay (Unit {0}) (map_of_list (records_in h a) key) (earliest_before cs key) v) (sym (ap (λ (m : Map). m key) maps)) (cut_or_left key);
      done = λ n first below changed. absurd (omega (arith, below));
      in_place = step.in_place;
    }

-- A position is set back.

module _ (a b : List (List ℕ)) (h mid : FileHead) (cs : List Change) (from n : ℕ) (t : ArePositionsBack a h cs from b mid) (le : from ≤ n) (one : 1 ≤ n) (changed : changes_key (Number n) cs ≡ true)
    (least : (m : ℕ) → from ≤ m → changes_key (Number m) cs ≡ true → n ≤ m) where
  -- a position before it that is taken away, or behind the last record
  below_back : (m : ℕ) → 1 ≤ m → m < n → changes_key (Number m) cs ≡ true → record_at (records_in mid b) m ≡ record_at t.back m
  below_back m m1 lt ck = elim (both_ways (nat_le from m)) [
    | inl late ↦ absurd (let p = behind from m late in let q = least m p ck in omega (arith, lt, q))
    | inr early ↦ t.done m m1 (before from m early) ck ∙ sym (t.goes.restored m m1 ∙ picked (changes_key (Number m) cs) _ _ ck)
  ]

  module _ (r : List ℕ) (had : earliest_before cs (Number n) ≡ Some r) where
    back_has : record_at t.back n ≡ Some r
    back_has = t.goes.restored n one ∙ picked (changes_key (Number n) cs) _ _ changed ∙ had

    -- all that there is to be before the position is there
    filled : n ≤ length (records_in mid b) + 1
    filled = elim (both_ways (nat_le n (length (records_in mid b) + 1))) [ inl few ↦ behind n (length (records_in mid b) + 1) few | inr many ↦ absurd (gap (before n (length (records_in mid b) + 1) many)) ]
      where
        next : ℕ
        next = length (records_in mid b) + 1

        gap : next < n → ⊥
        gap lt =
            let none : record_at (records_in mid b) next ≡ None = record_at_past (records_in mid b) next (omega arith) in
            let there : IsSome (record_at t.back next) = subst (λ (k : ℕ). IsSome (record_at t.back k)) (let e : suc (length (records_in mid b)) ≡ next = omega arith in e) (some_before t.back (length (records_in mid b)) (n - 1) (omega (arith, lt)) (last_there n one back_has)) in
            elim (both_ways (changes_key (Number next) cs)) [
              | inl ck ↦ none_is_not (record_at t.back next) (sym (below_back next (omega arith) lt ck) ∙ none) there
              | inr not_ck ↦ none_is_not (record_at t.back next) (t.goes.restored next (omega arith) ∙ passed (changes_key (Number next) cs) _ _ not_ck ∙ none) there
            ]
          where
            last_there : (k : ℕ) → 1 ≤ k → record_at t.back k ≡ Some r → IsSome (slice_get t.back (k - 1))
            last_there zero k1 e = absurd (omega arith)
            last_there (suc k) k1 e = let less : suc k - 1 ≡ k = omega arith in subst (λ (j : ℕ). IsSome (slice_get t.back j)) (sym less) (some_of (record_at t.back (suc k)) r e)

    sets : IsSetBefore cs (records_in mid b) t.back n
    sets = record { in_place = t.in_place; filled = filled }

    may : ((old : List ℕ) → record_at (records_in mid b) n ≡ Some old → length r ≡ length old) × (n ≡ length (records_in mid b) + 1 → buckets_for (capacity h) (slot_sizes (records_in mid b ++ r ∷ [])) ≤ h.alloc)
    may = set_may h cs (records_in mid b) t.back n r t.goes sets one changed had

    pub position_suits : sequential.Suits mid (Number n) (Some r)
    position_suits = (one, subst (λ (m : ℕ). IsRecord m r) (sym (sizes_alike h mid t.same).mrs) (record_of (IsRecord h.mrs) t.back n r t.goes.records back_has))

    pub position_takes : sequential.Takes mid b (Number n) (Some r)
    position_takes = elim (both_ways (nat_le n (length (records_in mid b)))) [
      | inl there ↦ inr (stands (record_at (records_in mid b) n) refl (let p = behind n (length (records_in mid b)) there in in_list (records_in mid b) n one p))
      | inr past ↦ let next : n ≡ length (records_in mid b) + 1 = (let p = before n (length (records_in mid b)) past in omega (arith, p, filled)) in
          inl (next ∙ ap (λ k. k + 1) t.laid.count, append_takes mid b r t.form.one t.laid (fits_as h mid (slot_sizes (records_in mid b ++ r ∷ [])) (sizes_alike h mid t.same) (may.1 next)))
    ]
      where
        stands : (o : Option (List ℕ)) → record_at (records_in mid b) n ≡ o → IsSome o → IsSomeAnd o (λ old. length r ≡ length old)
        stands None is some = absurd (none_is_not None refl some)
        stands (Some old) is some = may.0 old is

        in_list : (rs : List (List ℕ)) (k : ℕ) → 1 ≤ k → k ≤ length rs → IsSome (record_at rs k)
        in_list rs zero k1 le = absurd (omega arith)
        in_list [] (suc k) k1 le = absurd (omega (arith, le))
        in_list (x ∷ rs) (suc zero) k1 le = refl
        in_list (x ∷ rs) (suc (suc k)) k1 le = in_list rs (suc k) (omega arith) (omega (arith, le))

    may_set : MaySet n (Some r) (records_in mid b)
    may_set = (one, filled)

    module _ (c : List (List ℕ)) (new : FileHead) (same : SameFile mid new) (new_form : IsSequential new) (new_laid : sequential.IsLaidOut new c) (maps : map_of_list (records_in new c) ≡ set_key (Number n) (Some r) (map_of_list (records_in mid b))) where
      pub set_records : records_in new c ≡ list_set n (Some r) (records_in mid b)
      set_records = one_list (records_in new c) (list_set n (Some r) (records_in mid b)) (maps ∙ sym (map_set n (Some r) (records_in mid b) may_set))

      set_at_place : (m : ℕ) → (m ≡ n → record_at (records_in new c) m ≡ Some r) × (m ≢ n → record_at (records_in new c) m ≡ record_at (records_in mid b) m)
      set_at_place m = let at = set_at (records_in mid b) n m r one filled in ((λ e. ap (λ rs. record_at rs m) set_records ∙ at.0 e), (λ e. ap (λ rs. record_at rs m) set_records ∙ at.1 e))

      went : IsStep h cs (records_in mid b) t.back (records_in new c)
      went = subst (λ (rs : List (List ℕ)). IsStep h cs (records_in mid b) t.back rs) (sym set_records) (set_goes_back h cs (records_in mid b) t.back n r t.goes t.in_place one filled changed had)

      -- the position has what it had first, and each other what it had
      set_or_left : (key : Key) → changes_key key cs ≡ true → IsOnItsWay (Unit {0}) (map_of_list (records_in h a) key) (earliest_before cs key) (set_key (Number n) (Some r) (map_of_list (records_in mid b)) key)
      set_or_left key own = go (same_key key (Number n)) refl
        where
          go : (x : Bool) → same_key key (Number n) ≡ x → IsOnItsWay (Unit {0}) (map_of_list (records_in h a) key) (earliest_before cs key) (cond x (Some r) (map_of_list (records_in mid b) key))
          go true is = inr (inl (sym had ∙ ap (earliest_before cs) (sym (records.same_key key (Number n) is))))
          go false other = t.straight key own

      pub is_set_back : ArePositionsBack a h cs (n + 1) c new
      is_set_back = record {
        same = same_through h mid new t.same same;
        form = new_form;
        laid = new_laid;
        back = t.back;
        begins = t.begins;
        goes = went.goes;
        images = went.images t.images;
        straight = λ key own. subst (λ (v : Option (List ℕ)). IsOnItsWay (Unit {0}) (map_of_list (records_in h a) key) (earliest_before cs key) v) (sym (ap (λ (m : Map). m key) maps)) (set_or_left key own);
        done = λ m m1 lt ck. elim (same_or_other m n) [
          | inl this ↦ (set_at_place m).0 this ∙ sym had ∙ ap (λ k. earliest_before cs (Number k)) (sym this)
          | inr other ↦ (set_at_place m).1 other ∙ below_back m m1 (omega (arith, lt, other)) ck ∙ t.goes.restored m m1 ∙ picked (changes_key (Number m) cs) _ _ ck
        ];
        in_place = went.in_place;
      }

      -- another branch still goes back
      pub set_beside : (ds : List Change) (other : List (List ℕ)) → IsBeside cs ds → GoesBack h ds (records_in mid b) other → HasImages (map_of_list (records_in mid b)) ds → (still : List (List ℕ)) × GoesBack h ds (records_in new c) still
      set_beside ds other beside g has_d =
          let went = change_beside_goes_back h ds (records_in mid b) other change n g has_d is_change free ends all fits in
          (went.0, subst (λ (rs : List (List ℕ)). GoesBack h ds rs went.0) (sym set_records) went.1)
        where
          change : Change
          change = record { key = Number n; before = record_at (records_in mid b) n; after = Some r }

          is_change : IsChangeOf change n (records_in mid b)
          is_change = record { key = refl; found = refl; may = may_set; long = λ old new was now. ap length (some_same new r (sym now)) ∙ may.0 old was }

          free : changes_key (Number n) ds ≡ false
          free = beside.apart (Number n) changed

          ends : moves_end (change ∷ []) ≡ true → moves_end ds ≡ false
          ends moves = beside.ends (image_moves cs (Number n) (subst (IsImage cs (Number n)) (absent (record_at (records_in mid b) n) moves) (t.images (Number n) changed)))
            where
              absent : (o : Option (List ℕ)) → ((is_none o || false) || false) ≡ true → o ≡ None
              absent None e = refl
              absent (Some x) e = absurd cc

          all : All (IsRecord h.mrs) (list_set n (Some r) (records_in mid b))
          all = subst (λ (rs : List (List ℕ)). All (IsRecord h.mrs) rs) set_records (subst (λ (m : ℕ). All (IsRecord m) (records_in new c)) (sizes_alike h new (same_through h mid new t.same same)).mrs new_laid.records)

          fits : buckets_for (capacity h) (slot_sizes (list_set n (Some r) (records_in mid b))) ≤ h.alloc
          fits = subst (λ (rs : List (List ℕ)). buckets_for (capacity h) (slot_sizes rs) ≤ h.alloc) set_records
              (fits_as new h (slot_sizes (records_in new c)) (alike_turned h new (sizes_alike h new (same_through h mid new t.same same))) (let used = used_is new c new_form.one new_laid in let few = new_form.used in omega (arith, used, few)))

  -- there was no record before the branch's first change
  pub is_gone : earliest_before cs (Number n) ≡ None → ArePositionsBack a h cs (n + 1) b mid
  is_gone none = record {
    same = t.same;
    form = t.form;
    laid = t.laid;
    back = t.back;
    begins = t.begins;
    goes = t.goes;
    images = t.images;
    straight = t.straight;
    done = λ m m1 lt ck. elim (same_or_other m n) [
      | inl this ↦ ap (record_at (records_in mid b)) this ∙ stands_none ∙ sym none ∙ ap (λ k. earliest_before cs (Number k)) (sym this)
      | inr other ↦ below_back m m1 (omega (arith, lt, other)) ck ∙ t.goes.restored m m1 ∙ picked (changes_key (Number m) cs) _ _ ck
    ];
    in_place = t.in_place;
  }
    where
      stands_none : record_at (records_in mid b) n ≡ None
      stands_none = in_place_gone (record_at (records_in mid b) n) (record_at t.back n) (t.goes.restored n one ∙ picked (changes_key (Number n) cs) _ _ changed ∙ none) (t.in_place n (absent_away cs n changed none))

-- All positions are back.

module _ (a b : List (List ℕ)) (h new : FileHead) (cs : List Change) (from : ℕ) (t : ArePositionsBack a h cs from b new) (positions : ArePositions cs) (none : (m : ℕ) → from ≤ m → changes_key (Number m) cs ≡ true → ⊥) where
  pub is_back : records_in new b ≡ t.back
  is_back = all_set_is_back h cs (records_in new b) t.back t.goes (λ n one ck. elim (both_ways (nat_le from n)) [ inl late ↦ absurd (none n (behind from n late) ck) | inr early ↦ t.done n one (before from n early) ck ])

  pub positions_back : map_of_list (records_in new b) ≡ with_before_images cs (map_of_list (records_in h a))
  positions_back = ap map_of_list is_back ∙ (λ i key. at key i)
    where
      not_there : (key : Key) → ((n : ℕ) → key ≡ Number n → 1 ≤ n → ⊥) → changes_key key cs ≡ false
      not_there key none = false_from_ne_true _ (λ (e : changes_key key cs ≡ true). let is = positions key e in none is.0 is.1 is.2)

      at : (key : Key) → map_of_list t.back key ≡ with_before_images cs (map_of_list (records_in h a)) key
      at (Number zero) = sym (passed (changes_key (Number 0) cs) _ _ (not_there (Number 0) (λ n e one. zero_is n e one)))
        where
          zero_is : (n : ℕ) → Number 0 ≡ Number n → 1 ≤ n → ⊥
          zero_is zero e one = omega arith
          zero_is (suc n) e one = cc
      at (Number (suc k)) = t.begins.restored (suc k) (omega arith) ∙ picture
        where
          picture : cond (changes_key (Number (suc k)) cs) (earliest_before cs (Number (suc k))) (record_at (records_in h a) (suc k)) ≡ with_before_images cs (map_of_list (records_in h a)) (Number (suc k))
          picture = refl
      at (Text x) = sym (passed (changes_key (Text x) cs) _ _ (not_there (Text x) (λ n e one. let never : ⊥ = cc in never)))
      at End = sym (passed (changes_key End cs) _ _ (not_there End (λ n e one. let never : ⊥ = cc in never)))
