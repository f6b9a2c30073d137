-- Records are kept one after another, in the order of their keys.
use Rattle.std.proofs.Common.{◌≡◌, ◌<◌, ◌≤◌, ◌&&◌, ℕ, zero, suc, ◌+◌, Bool, true, false, List, [], ◌∷◌, ◌++◌, length, map, Option, Some, None, refl, sym, ◌∙◌, ap, subst, arith, append_assoc, append-nil, length-append, inl, inr, ⊎_elim}
use Rattle.std.proofs.lemmas.List.{length-map, map-append}
use Rattle.std.specs.Prelude.{T, cond}
use Rattle.std.specs.FinMap.{empty, entries, entries_sorted, get, get-entries, len-empty, len-entries}
use Rattle.std.specs.FinMap.Entries.{below_all, find, is_sorted}
use Rattle.std.specs.Cmp.{tied_itself}
use Rattle.std.specs.Ordering.{is_eq, is_lt, nat_cmp}
use Rattle.std.specs.declared.cmp.Ordering.{Ordering}
use Rattle.std.specs.declared.cmp.Ordering.TheVariants.{Equal, Greater, Less}
use Rattle.records_model.proofs.KeyLemmas.{key_cmp-IsAntisymmetric, key_cmp_total}
use Rattle.file_base.specs.declared.head.FileHead.{FileHead}
use Rattle.file_base.specs.declared.head.Organization.{Organization}
use Rattle.file_base.specs.declared.head.Organization.TheVariants.{Sequential, Relative, Indexed}
use Rattle.load_pages.specs.load_laws.Loads.{AllSuitBy, AreNumbered, NumberedBy}
use Rattle.load_pages.specs.load_laws.Records.{Keyed}
use Rattle.load_pages.specs.Given.{keyed}
use Rattle.load_pages.specs.declared.records.KeyedRecord.{KeyedRecord}
use Rattle.vms_base.specs.Keys.{key_of}
use Rattle.record_files.specs.Any.{Suits, SuitsBy}
use Rattle.records_model.specs.Records.{Records, key_cmp}
use Rattle.vms_model.specs.Keys.{Key, Number, Text, End}
use Rattle.file_recoveries.specs.Suiting.{MayHave}
use Rattle.recover_rms.specs.Loading.{AreKept, IsKept, KeepsAll, as_loaded, at_positions, key_behind, loaded_behind}

-- Lists in the order of their keys.

both : (a b : Bool) → a ≡ true → b ≡ true → (a && b) ≡ true
both true b p q = q
both false b p q = p

left : (a b : Bool) → (a && b) ≡ true → a ≡ true
left true b p = refl
left false b p = p

right : (a b : Bool) → (a && b) ≡ true → b ≡ true
right true b p = p
right false b p = let no : ⊥ = cc in absurd no

below_without : (x : Key) (ks : List Keyed) (e : Keyed) (rs : List Keyed) → below_all key_cmp x (ks ++ e ∷ rs) ≡ true → below_all key_cmp x (ks ++ rs) ≡ true
below_without x [] e rs p = right (is_lt (key_cmp x e.0)) (below_all key_cmp x rs) p
below_without x (k ∷ ks) e rs p = both (is_lt (key_cmp x k.0)) (below_all key_cmp x (ks ++ rs)) (left (is_lt (key_cmp x k.0)) (below_all key_cmp x (ks ++ e ∷ rs)) p) (below_without x ks e rs (right (is_lt (key_cmp x k.0)) (below_all key_cmp x (ks ++ e ∷ rs)) p))

sorted_without : (ks : List Keyed) (e : Keyed) (rs : List Keyed) → is_sorted key_cmp (ks ++ e ∷ rs) ≡ true → is_sorted key_cmp (ks ++ rs) ≡ true
sorted_without [] e rs p = right (below_all key_cmp e.0 rs) (is_sorted key_cmp rs) p
sorted_without (k ∷ ks) e rs p =
    both (below_all key_cmp k.0 (ks ++ rs)) (is_sorted key_cmp (ks ++ rs)) (below_without k.0 ks e rs (left (below_all key_cmp k.0 (ks ++ e ∷ rs)) (is_sorted key_cmp (ks ++ e ∷ rs)) p))
    (sorted_without ks e rs (right (below_all key_cmp k.0 (ks ++ e ∷ rs)) (is_sorted key_cmp (ks ++ e ∷ rs)) p))

lower : (m n : ℕ) → m < n → is_lt (nat_cmp m n) ≡ true
lower m n lt = grind (arith, lt)

numbers_below : (m n : ℕ) (ks : List Keyed) → m < n → AreNumbered n ks → below_all key_cmp (Number m) ks ≡ true
numbers_below m n [] lt all = refl
numbers_below m n (k ∷ ks) lt all =
    both (is_lt (key_cmp (Number m) k.0)) (below_all key_cmp (Number m) ks) (ap (λ (x : Key). is_lt (key_cmp (Number m) x)) all.0 ∙ lower m n lt) (numbers_below m (suc n) ks (omega (arith, lt)) all.1)

numbers_sorted : (n : ℕ) (ks : List Keyed) → AreNumbered n ks → is_sorted key_cmp ks ≡ true
numbers_sorted n [] all = refl
numbers_sorted n (k ∷ ks) all =
    both (below_all key_cmp k.0 ks) (is_sorted key_cmp ks) (ap (λ (x : Key). below_all key_cmp x ks) all.0 ∙ numbers_below n (suc n) ks (omega arith) all.1) (numbers_sorted (suc n) ks all.1)

numbered_more : (n : ℕ) (ks : List Keyed) (e : Keyed) → AreNumbered n ks → e.0 ≡ Number (n + length ks) → AreNumbered n (ks ++ e ∷ [])
numbered_more n [] e all is = (is ∙ ap Number (omega arith), tt)
numbered_more n (k ∷ ks) e all is = (all.0, numbered_more (suc n) ks e all.1 (is ∙ ap Number (omega arith)))

-- What may be the file's.

module _ (o : Organization) (h : FileHead) where
  suit_more : (ks : List Keyed) (e : Keyed) → AllSuitBy o h ks → SuitsBy o h e.0 (Some e.1) → AllSuitBy o h (ks ++ e ∷ [])
  suit_more [] e all suits = (suits, tt)
  suit_more (k ∷ ks) e all suits = (all.0, suit_more ks e all.1 suits)

-- a record may be the file's at the key that it gets, too
suits_behind : (o : Organization) (h : FileHead) (n : ℕ) (k : Key) (v : List ℕ) → SuitsBy o h k (Some v) → SuitsBy o h (key_behind o n k) (Some v)
suits_behind Sequential h n (Number m) v suits = (omega arith, suits.1)
suits_behind Sequential h n (Text t) v suits = absurd suits
suits_behind Sequential h n End v suits = absurd suits
suits_behind Relative h n k v suits = suits
suits_behind Indexed h n k v suits = suits

-- The records of a map may be the file's.

-- a key that is below all of these is none of them
not_found : (q : Key) (es : List Keyed) (v : List ℕ) → below_all key_cmp q es ≡ true → find key_cmp q es ≡ Some v → ⊥
not_found q [] v below has = let no : ⊥ = cc in no
not_found q (e ∷ es) v below has = go (key_cmp q e.0) (left (is_lt (key_cmp q e.0)) (below_all key_cmp q es) below) has (not_found q es v (right (is_lt (key_cmp q e.0)) (below_all key_cmp q es) below))
  where
    go : (r : Ordering) → is_lt r ≡ true → cond (is_eq r) (Some e.1) (find key_cmp q es) ≡ Some v → (find key_cmp q es ≡ Some v → ⊥) → ⊥
    go Less less has none = none has
    go Equal less has none = cc
    go Greater less has none = cc

module _ (o : Organization) (h : FileHead) where
  listed : (es : List Keyed) → is_sorted key_cmp es ≡ true → ((q : Key) (v : List ℕ) → find key_cmp q es ≡ Some v → SuitsBy o h q (Some v)) → AllSuitBy o h es
  listed [] sorted may = tt
  listed (e ∷ es) sorted may = (may e.0 e.1 (ap (λ (r : Ordering). cond (is_eq r) (Some e.1) (find key_cmp e.0 es)) (tied_itself key_cmp_total e.0)), listed es (right (below_all key_cmp e.0 es) (is_sorted key_cmp es) sorted) behind)
    where
      behind : (q : Key) (v : List ℕ) → find key_cmp q es ≡ Some v → SuitsBy o h q (Some v)
      behind q v has = go (key_cmp q e.0) refl
        where
          go : (r : Ordering) → key_cmp q e.0 ≡ r → SuitsBy o h q (Some v)
          go Less is = may q v (ap (λ (r : Ordering). cond (is_eq r) (Some e.1) (find key_cmp q es)) is ∙ has)
          go Equal is = absurd (not_found q es v (subst (λ (k : Key). below_all key_cmp k es ≡ true) (sym (key_cmp-IsAntisymmetric q e.0 is)) (left (below_all key_cmp e.0 es) (is_sorted key_cmp es) sorted)) has)
          go Greater is = may q v (ap (λ (r : Ordering). cond (is_eq r) (Some e.1) (find key_cmp q es)) is ∙ has)

-- that the records of a map are in order
pub in_order : (m : Records) → is_sorted key_cmp (entries m) ≡ true
in_order m = sorted (is_sorted key_cmp (entries m)) (entries_sorted m)
  where
    sorted : (b : Bool) → T b → b ≡ true
    sorted true t = refl
    sorted false t = absurd t

pub all_listed : (h : FileHead) (m : Records) → MayHave h m → AllSuitBy h.organization h (entries m)
all_listed h m may = listed h.organization h (entries m) (in_order m) (λ q v has. may q v (get-entries m q ∙ has))

-- The records that are kept, and those that are to come.

-- their order
abbrev pub Ordered : Organization → (ks rs : List Keyed) → Type 0
Ordered Sequential ks rs = AreNumbered 1 ks
Ordered Relative ks rs = is_sorted key_cmp (ks ++ rs) ≡ true
Ordered Indexed ks rs = is_sorted key_cmp (ks ++ rs) ≡ true

-- those of a map, where each may be the file's: these are kept, and these are to come
pub record Parts (o : Organization) (h : FileHead) (m : Records) (ks rs : List Keyed) : Type 0 where
  pub suit : AllSuitBy o h rs
  pub whole : ks ++ loaded_behind o (length ks) rs ≡ loaded_behind o 0 (entries m)

pub record KeepsBy (o : Organization) (h : FileHead) (m : Records) (ks rs : List Keyed) : Type 0 where
  pub ordered : Ordered o ks rs
  pub suit : AllSuitBy o h ks
  pub all : AllSuitBy o h (entries m) → Parts o h m ks rs

abbrev pub Keeps : FileHead → Records → (ks rs : List Keyed) → Type 0
Keeps h m ks rs = KeepsBy h.organization h m ks rs

first_ordered : (o : Organization) (rs : List Keyed) → is_sorted key_cmp rs ≡ true → Ordered o [] rs
first_ordered Sequential rs sorted = tt
first_ordered Relative rs sorted = sorted
first_ordered Indexed rs sorted = sorted

pub nothing_kept : (o : Organization) (h : FileHead) (m : Records) → KeepsBy o h m [] (entries m)
nothing_kept o h m = record { ordered = first_ordered o (entries m) (in_order m); suit = tt; all = λ may. record { suit = may; whole = refl } }

more_ordered : (o : Organization) (ks : List Keyed) (k : Key) (v : List ℕ) (rs : List Keyed) → Ordered o ks ((k, v) ∷ rs) → Ordered o (ks ++ (key_behind o (length ks) k, v) ∷ []) rs
more_ordered Sequential ks k v rs o = numbered_more 1 ks (Number (suc (length ks)), v) o (ap Number (omega arith))
more_ordered Relative ks k v rs o = ap (is_sorted key_cmp) (append_assoc ks ((k, v) ∷ []) rs) ∙ o
more_ordered Indexed ks k v rs o = ap (is_sorted key_cmp) (append_assoc ks ((k, v) ∷ []) rs) ∙ o

fewer_ordered : (o : Organization) (ks : List Keyed) (e : Keyed) (rs : List Keyed) → Ordered o ks (e ∷ rs) → Ordered o ks rs
fewer_ordered Sequential ks e rs o = o
fewer_ordered Relative ks e rs o = sorted_without ks e rs o
fewer_ordered Indexed ks e rs o = sorted_without ks e rs o

length_more : (ks : List Keyed) (e : Keyed) → length (ks ++ e ∷ []) ≡ suc (length ks)
length_more ks e = let all = length-append ks (e ∷ []) in omega (arith, all)

whole_more : (o : Organization) (ks : List Keyed) (k : Key) (v : List ℕ) (rs : List Keyed) →
    (ks ++ (key_behind o (length ks) k, v) ∷ []) ++ loaded_behind o (length (ks ++ (key_behind o (length ks) k, v) ∷ [])) rs ≡ ks ++ loaded_behind o (length ks) ((k, v) ∷ rs)
whole_more Sequential ks k v rs =
    append_assoc ks ((Number (suc (length ks)), v) ∷ []) (at_positions (length (ks ++ (Number (suc (length ks)), v) ∷ [])) rs) ∙ ap (λ (n : ℕ). ks ++ (Number (suc (length ks)), v) ∷ at_positions n rs) (length_more ks (Number (suc (length ks)), v))
whole_more Relative ks k v rs = append_assoc ks ((k, v) ∷ []) rs
whole_more Indexed ks k v rs = append_assoc ks ((k, v) ∷ []) rs

module _ (o : Organization) (h : FileHead) (m : Records) (ks : List Keyed) (k : Key) (v : List ℕ) (rs : List Keyed) (keeps : KeepsBy o h m ks ((k, v) ∷ rs)) where
  pub one_kept : SuitsBy o h (key_behind o (length ks) k) (Some v) → KeepsBy o h m (ks ++ (key_behind o (length ks) k, v) ∷ []) rs
  one_kept suits = record {
    ordered = more_ordered o ks k v rs keeps.ordered;
    suit = suit_more o h ks (key_behind o (length ks) k, v) keeps.suit suits;
    all = λ may. record { suit = (keeps.all may).suit.1; whole = whole_more o ks k v rs ∙ (keeps.all may).whole };
  }

  -- one that is left out may not be the file's
  pub one_left : (SuitsBy o h (key_behind o (length ks) k) (Some v) → ⊥) → KeepsBy o h m ks rs
  one_left not = record {
    ordered = fewer_ordered o ks (k, v) rs keeps.ordered;
    suit = keeps.suit;
    all = λ may. absurd (not (suits_behind o h (length ks) k v (keeps.all may).suit.0));
  }

nothing_behind : (o : Organization) (n : ℕ) → loaded_behind o n [] ≡ []
nothing_behind Sequential n = refl
nothing_behind Relative n = refl
nothing_behind Indexed n = refl

kept_sorted : (o : Organization) (ks : List Keyed) → Ordered o ks [] → is_sorted key_cmp ks ≡ true
kept_sorted Sequential ks ordered = numbers_sorted 1 ks ordered
kept_sorted Relative ks ordered = ap (is_sorted key_cmp) (sym (append-nil ks)) ∙ ordered
kept_sorted Indexed ks ordered = ap (is_sorted key_cmp) (sym (append-nil ks)) ∙ ordered

kept_numbered : (o : Organization) (ks : List Keyed) → Ordered o ks [] → NumberedBy o ks
kept_numbered Sequential ks ordered = ordered
kept_numbered Relative ks ordered = tt
kept_numbered Indexed ks ordered = tt

pub all_kept : (h : FileHead) (m : Records) (ks : List Keyed) → Keeps h m ks [] → AreKept h ks
all_kept h m ks keeps = record { ordered = kept_sorted h.organization ks keeps.ordered; suit = keeps.suit; numbered = kept_numbered h.organization ks keeps.ordered }

pub all_there : (h : FileHead) (m : Records) (ks : List Keyed) → Keeps h m ks [] → KeepsAll h m ks
all_there h m ks keeps may = sym (append-nil ks) ∙ ap (λ (rs : List Keyed). ks ++ rs) (sym (nothing_behind h.organization (length ks))) ∙ (keeps.all (all_listed h m may)).whole

-- Records that were given, as the loop keeps them.

behind_so : (h : FileHead) (recs : List KeyedRecord) (k next : Key) (n : ℕ) → next ≡ key_behind h.organization n k → n ≡ length recs → next ≡ key_behind h.organization (length (map keyed recs)) k
behind_so h recs k next n is count = is ∙ ap (λ (m : ℕ). key_behind h.organization m k) (count ∙ sym (length-map recs keyed))

pub kept_so : (h : FileHead) (recs more : List KeyedRecord) (k : Key) (e : KeyedRecord) (w : List ℕ) (n : ℕ) → key_of e.key ≡ key_behind h.organization n k → n ≡ length recs → w ≡ e.bytes.items → Suits h (key_of e.key) (Some w) → more ≡ recs ++ e ∷ [] →
    IsKept h (k, e.bytes.items) (map keyed recs) (map keyed more)
kept_so h recs more k e w n is count bytes suits are =
    let here = behind_so h recs k (key_of e.key) n is count in
    inl (
      subst (λ (x : Key). Suits h x (Some e.bytes.items)) here (subst (λ (v : List ℕ). Suits h (key_of e.key) (Some v)) bytes suits),
      ap (map keyed) are ∙ map-append keyed recs (e ∷ []) ∙ ap (λ (x : Key). map keyed recs ++ (x, e.bytes.items) ∷ []) here,
    )

pub left_so : (h : FileHead) (recs : List KeyedRecord) (k next : Key) (v w : List ℕ) (n : ℕ) (r : Bool) → next ≡ key_behind h.organization n k → n ≡ length recs → w ≡ v → (Suits h next (Some w) → r ≡ true) → r ≡ false → IsKept h (k, v) (map keyed recs) (map keyed recs)
left_so h recs k next v w n r is count bytes exact off =
    inr ((λ suits. let yes = exact (subst (λ (x : List ℕ). Suits h next (Some x)) (sym bytes) (subst (λ (x : Key). Suits h x (Some v)) (sym (behind_so h recs k next n is count)) suits)) in cc), refl)

pub next_kept : (h : FileHead) (m : Records) (ks more : List Keyed) (k : Key) (v : List ℕ) (all rest : List Keyed) → Keeps h m ks all → all ≡ (k, v) ∷ rest → IsKept h (k, v) ks more → Keeps h m more rest
next_kept h m ks more k v all rest keeps is kept =
    let here = subst (Keeps h m ks) is keeps in
    ⊎_elim
    (λ one. subst (λ (es : List Keyed). Keeps h m es rest) (sym one.1) (one_kept h.organization h m ks k v rest here one.0))
    (λ none. subst (λ (es : List Keyed). Keeps h m es rest) (sym none.1) (one_left h.organization h m ks k v rest here none.0))
    kept

-- no record is left
nothing_in : (xs : List Keyed) → length xs ≡ 0 → xs ≡ []
nothing_in [] e = refl
nothing_in (x ∷ xs) e = let no : ⊥ = omega (arith, e) in absurd no

pub none_left : (m : Records) → m ≡ empty → entries m ≡ []
none_left m is = ap entries is ∙ nothing_in (entries empty) (sym (len-entries empty) ∙ len-empty key_cmp (List ℕ))

-- a record of a file is short
suits_short : (o : Organization) (h : FileHead) (k : Key) (v : List ℕ) → SuitsBy o h k (Some v) → length v ≤ h.mrs
suits_short Sequential h (Number n) v suits = suits.1.most
suits_short Sequential h (Text t) v suits = absurd suits
suits_short Sequential h End v suits = absurd suits
suits_short Relative h (Number n) v suits = suits.1.1
suits_short Relative h (Text t) v suits = absurd suits
suits_short Relative h End v suits = absurd suits
suits_short Indexed h (Text t) v suits = suits.most
suits_short Indexed h (Number n) v suits = absurd suits
suits_short Indexed h End v suits = absurd suits

pub too_long : (h : FileHead) (k : Key) (v : List ℕ) → h.mrs ≤ 8160 → 8160 < length v → Suits h k (Some v) → ⊥
too_long h k v most long suits = let short = suits_short h.organization h k v suits in omega (arith, most, long, short)
