-- Entries that are handed up.
use Rattle.std.proofs.Common.{◌≡◌, ◌≤◌, ◌<◌, ◌⊎◌, ⊎_elim, inl, inr, ◌||◌, ◌==◌, ◌/◌, ◌+◌, ◌-◌, ℕ, zero, suc, Bool, true, false, List, [], ◌∷◌, ◌++◌, length, map, take, drop, if◌then◌else◌, nat_le, min, refl, sym, ap, ◌∙◌, subst, append-nil, append_assoc, length-append, length-drop, arith}
use Rattle.std.specs.Prelude.{nat_lt}
use Rattle.std.specs.List.{list_any}
use Rattle.std.proofs.lemmas.List.{take-append-drop, length-take}
use Rattle.std.proofs.lemmas.Bool.Decides.{nat_tests}
use Rattle.tree_model.proofs.records_model.SlotLaws.{if_true, if_false}
use Rattle.tree_model.specs.Setting.{halves, level_with, place_above, index_with}
use Rattle.tree_model.specs.Trees.{total}
use Rattle.index_model.specs.Indexes.{Entry, Index, entries_along, first_separator, parent_entry, AllSome, AreLevels, leads_by, entry_place, Ascends, with_added, set_entries, beside, bucket_for, handed_up, numbers_of, IsNoneOf, AllDiffer, AllBelow, counts_of, IsIndexed}
use Rattle.index_model.specs.Laws.{HandsUp, HandUpKeeps}
use Rattle.index_model.proofs.DescentLemmas.{above_parts, later_ascend, any-append, any_parents, parents_ascend, length_parents, some_below}

-- Tests.

pub same_test : (a b : ℕ) → (a == b) ≡ true → a ≡ b
same_test a b h = grind (arith, nat_tests)

pub self_test : (a : ℕ) → (a == a) ≡ true
self_test a = grind (arith, nat_tests)

pub other_test : (a b : ℕ) → (a ≡ b → ⊥) → (a == b) ≡ false
other_test a b other = go (a == b) refl
  where
    go : (t : Bool) → (a == b) ≡ t → t ≡ false
    go true h = absurd (other (same_test a b h))
    go false h = refl

below_not : (a b : ℕ) → a < b → a ≡ b → ⊥
below_not a b less same = omega arith

lt_true : (a b : ℕ) → a < b → nat_lt a b ≡ true
lt_true a b h = grind (arith, nat_tests)

lt_false : (a b : ℕ) → b ≤ a → nat_lt a b ≡ false
lt_false a b h = grind (arith, nat_tests)

le_false : (a b : ℕ) → nat_le a b ≡ false → b < a
le_false a b h = grind (arith, nat_tests)

-- Numbers.

pub none_parts : (n : ℕ) (a c : List ℕ) → IsNoneOf n (a ++ c) → IsNoneOf n a × IsNoneOf n c
none_parts n [] c none = (tt, none)
none_parts n (m ∷ ms) c none = let rest = none_parts n ms c none.1 in ((none.0, rest.0), rest.1)

pub none_both : (n : ℕ) (a c : List ℕ) → IsNoneOf n a → IsNoneOf n c → IsNoneOf n (a ++ c)
none_both n [] c first second = second
none_both n (m ∷ ms) c first second = (first.0, none_both n ms c first.1 second)

pub none_below : (n : ℕ) (a : List ℕ) → AllBelow n a → IsNoneOf n a
none_below n [] below = tt
none_below n (m ∷ ms) below = ((λ same. let less = below.0 in omega (arith, less, same)), none_below n ms below.1)

pub below_parts : (n : ℕ) (a c : List ℕ) → AllBelow n (a ++ c) → AllBelow n a × AllBelow n c
below_parts n [] c below = (tt, below)
below_parts n (m ∷ ms) c below = let rest = below_parts n ms c below.1 in ((below.0, rest.0), rest.1)

pub below_both : (n : ℕ) (a c : List ℕ) → AllBelow n a → AllBelow n c → AllBelow n (a ++ c)
below_both n [] c first second = second
below_both n (m ∷ ms) c first second = (first.0, below_both n ms c first.1 second)

pub below_more : (n m : ℕ) (a : List ℕ) → n ≤ m → AllBelow n a → AllBelow m a
below_more n m [] more below = tt
below_more n m (x ∷ xs) more below = ((let less = below.0 in omega (arith, less, more)), below_more n m xs more below.1)

-- a number is none of these, each of which is none of those
abbrev pub EachNone : List ℕ → List ℕ → Type 0
EachNone [] c = Unit {0}
EachNone (n ∷ ns) c = IsNoneOf n c × EachNone ns c

pub differ_parts : (a c : List ℕ) → AllDiffer (a ++ c) → AllDiffer a × AllDiffer c × EachNone a c
differ_parts [] c differ = (tt, differ, tt)
differ_parts (n ∷ ns) c differ =
    let rest = differ_parts ns c differ.1 in
    let none = none_parts n ns c differ.0 in ((none.0, rest.0), rest.1, (none.1, rest.2))

pub differ_both : (a c : List ℕ) → AllDiffer a → AllDiffer c → EachNone a c → AllDiffer (a ++ c)
differ_both [] c first second each = second
differ_both (n ∷ ns) c first second each = (none_both n ns c first.0 each.0, differ_both ns c first.1 second each.1)

-- the number in the midst is none of the others
pub differ_about : (m : ℕ) (a c : List ℕ) → AllDiffer (a ++ m ∷ c) → IsNoneOf m a × IsNoneOf m c
differ_about m [] c differ = (tt, differ.0)
differ_about m (n ∷ ns) c differ =
    let rest = differ_about m ns c differ.1 in
    let other = (none_parts n ns (m ∷ c) differ.0).1.0 in (((λ same. other (sym same)), rest.0), rest.1)

each_both : (a b c : List ℕ) → EachNone a c → EachNone b c → EachNone (a ++ b) c
each_both [] b c first second = second
each_both (n ∷ ns) b c first second = (first.0, each_both ns b c first.1 second)

each_parts : (a b c : List ℕ) → EachNone (a ++ b) c → EachNone a c × EachNone b c
each_parts [] b c each = (tt, each)
each_parts (n ∷ ns) b c each = let rest = each_parts ns b c each.1 in ((each.0, rest.0), rest.1)

-- one more number in the midst
differ_more : (x : ℕ) (a c : List ℕ) → IsNoneOf x (a ++ c) → AllDiffer (a ++ c) → AllDiffer (a ++ x ∷ c)
differ_more x [] c none differ = (none, differ)
differ_more x (n ∷ ns) c none differ =
    let parts = none_parts n ns c differ.0 in
    (none_both n ns (x ∷ c) parts.0 ((λ same. none.0 (sym same)), parts.1), differ_more x ns c none.1 differ.1)

beside_at : (m x : ℕ) (a c : List ℕ) → IsNoneOf m a → beside m x (a ++ m ∷ c) ≡ a ++ m ∷ x ∷ c
beside_at m x [] c none = if_true (m == m) _ _ (self_test m)
beside_at m x (n ∷ ns) c none = if_false (n == m) _ _ (other_test n m (λ same. none.0 (sym same))) ∙ ap (λ l. n ∷ l) (beside_at m x ns c none.1)

-- Entries that agree.

abbrev pub AgreeOn : (f g : ℕ → List Entry) → List ℕ → Type 0
AgreeOn f g [] = Unit {0}
AgreeOn f g (n ∷ ns) = (f n ≡ g n) × AgreeOn f g ns

set_here : (n : ℕ) (es : List Entry) (f : ℕ → List Entry) → set_entries n es f n ≡ es
set_here n es f = if_true (n == n) es (f n) (self_test n)

set_other : (n m : ℕ) (es : List Entry) (f : ℕ → List Entry) → (m ≡ n → ⊥) → set_entries n es f m ≡ f m
set_other n m es f other = if_false (m == n) es (f m) (other_test m n other)

agree_set : (n : ℕ) (es : List Entry) (f : ℕ → List Entry) (ns : List ℕ) → IsNoneOf n ns → AgreeOn (set_entries n es f) f ns
agree_set n es f [] none = tt
agree_set n es f (m ∷ ms) none = (set_other n m es f (λ same. none.0 (sym same)), agree_set n es f ms none.1)

agree_trans : (f g h : ℕ → List Entry) (ns : List ℕ) → AgreeOn f g ns → AgreeOn g h ns → AgreeOn f h ns
agree_trans f g h [] first second = tt
agree_trans f g h (n ∷ ns) first second = (first.0 ∙ second.0, agree_trans f g h ns first.1 second.1)

pub agree_parts : (f g : ℕ → List Entry) (a c : List ℕ) → AgreeOn f g (a ++ c) → AgreeOn f g a × AgreeOn f g c
agree_parts f g [] c agree = (tt, agree)
agree_parts f g (n ∷ ns) c agree = let rest = agree_parts f g ns c agree.1 in ((agree.0, rest.0), rest.1)

pub along_agree : (f g : ℕ → List Entry) (ns : List ℕ) → AgreeOn f g ns → entries_along f ns ≡ entries_along g ns
along_agree f g [] agree = refl
along_agree f g (n ∷ ns) agree = λ i. agree.0 i ++ along_agree f g ns agree.1 i

pub parents_agree : (f g : ℕ → List Entry) (ns : List ℕ) → AgreeOn f g ns → map (parent_entry f) ns ≡ map (parent_entry g) ns
parents_agree f g [] agree = refl
parents_agree f g (n ∷ ns) agree = λ i. record { separator = first_separator (agree.0 i); child = n } ∷ parents_agree f g ns agree.1 i

count_agree : (f g : ℕ → List Entry) (ns : List ℕ) → AgreeOn f g ns → map (λ n. length (f n)) ns ≡ map (λ n. length (g n)) ns
count_agree f g [] agree = refl
count_agree f g (n ∷ ns) agree = λ i. length (agree.0 i) ∷ count_agree f g ns agree.1 i

pub counts_agree : (f g : ℕ → List Entry) (levels : List (List ℕ)) → AgreeOn f g (numbers_of levels) → counts_of f levels ≡ counts_of g levels
counts_agree f g [] agree = refl
counts_agree f g (ns ∷ above) agree = let parts = agree_parts f g ns (numbers_of above) agree in λ i. count_agree f g ns parts.0 i ∷ counts_agree f g above parts.1 i

some_agree : (f g : ℕ → List Entry) (ns : List ℕ) → AgreeOn f g ns → AllSome g ns → AllSome f ns
some_agree f g [] agree some = tt
some_agree f g (n ∷ ns) agree some = (subst (λ es. 1 ≤ length es) (sym agree.0) some.0, some_agree f g ns agree.1 some.1)

pub levels_agree : (least : List ℕ) (f g : ℕ → List Entry) (below : List Entry) (levels : List (List ℕ)) (root : ℕ) → AgreeOn f g (numbers_of levels) → AreLevels least g below levels root → AreLevels least f below levels root
levels_agree least f g below [] root agree leads = leads
levels_agree least f g below (ns ∷ above) root agree leads =
    let parts = agree_parts f g ns (numbers_of above) agree in (
      along_agree f g ns parts.0 ∙ leads.0,
      some_agree f g ns parts.0 leads.1,
      subst (λ parents. AreLevels least f parents above root) (sym (parents_agree f g ns parts.0)) (levels_agree least f g (map (parent_entry g) ns) above root parts.1 leads.2),
    )

-- Lists of buckets, one behind the other.

along-append : (f : ℕ → List Entry) (a c : List ℕ) → entries_along f (a ++ c) ≡ entries_along f a ++ entries_along f c
along-append f [] c = refl
along-append f (n ∷ ns) c = ap (λ l. f n ++ l) (along-append f ns c) ∙ sym (append_assoc (f n) (entries_along f ns) (entries_along f c))

map-append : {X Y : Type 0} (f : X → Y) (a c : List X) → map f (a ++ c) ≡ map f a ++ map f c
map-append f [] c = refl
map-append f (x ∷ xs) c = ap (λ l. f x ∷ l) (map-append f xs c)

some_parts : (f : ℕ → List Entry) (a c : List ℕ) → AllSome f (a ++ c) → AllSome f a × AllSome f c
some_parts f [] c some = (tt, some)
some_parts f (n ∷ ns) c some = let rest = some_parts f ns c some.1 in ((some.0, rest.0), rest.1)

some_both : (f : ℕ → List Entry) (a c : List ℕ) → AllSome f a → AllSome f c → AllSome f (a ++ c)
some_both f [] c first second = second
some_both f (n ∷ ns) c first second = (first.0, some_both f ns c first.1 second)

-- Entries with new ones.

module _ (k : List ℕ) (added : List Entry) where
  added-append : (a b : List Entry) → 1 ≤ length a → with_added k added (a ++ b) ≡ (if list_any (leads_by k) b then a ++ with_added k added b else with_added k added a ++ b)
  added-append [] b some = absurd (omega arith)
  added-append (e ∷ []) b some = ap (λ l. if list_any (leads_by k) b then e ∷ with_added k added b else e ∷ (l ++ b)) (sym (append-nil added))
  added-append (e ∷ f ∷ fs) b some =
      ap (λ t. if t then e ∷ with_added k added (f ∷ (fs ++ b)) else e ∷ (added ++ (f ∷ (fs ++ b)))) (any-append k (f ∷ fs) b)
      ∙ go (list_any (leads_by k) (f ∷ fs)) (list_any (leads_by k) b) refl refl (added-append (f ∷ fs) b (omega arith))
    where
      go : (s t : Bool) → list_any (leads_by k) (f ∷ fs) ≡ s → list_any (leads_by k) b ≡ t
          → with_added k added (f ∷ (fs ++ b)) ≡ (if list_any (leads_by k) b then (f ∷ fs) ++ with_added k added b else with_added k added (f ∷ fs) ++ b)
          → (if s || t then e ∷ with_added k added (f ∷ (fs ++ b)) else e ∷ (added ++ (f ∷ (fs ++ b)))) ≡ (if t then e ∷ ((f ∷ fs) ++ with_added k added b) else (if s then e ∷ with_added k added (f ∷ fs) else e ∷ (added ++ (f ∷ fs))) ++ b)
      go true true first rest later = ap (λ l. e ∷ l) (later ∙ if_true (list_any (leads_by k) b) _ _ rest)
      go true false first rest later = ap (λ l. e ∷ l) (later ∙ if_false (list_any (leads_by k) b) _ _ rest)
      go false true first rest later = ap (λ l. e ∷ l) (later ∙ if_true (list_any (leads_by k) b) _ _ rest)
      go false false first rest later = ap (λ l. e ∷ l) (sym (append_assoc added (f ∷ fs) b))

  pub length_added : (es : List Entry) → 1 ≤ length es → length (with_added k added es) ≡ length es + length added
  length_added [] some = absurd (omega arith)
  length_added (e ∷ []) some = let long = length-append added [] in omega (arith, long)
  length_added (e ∷ f ∷ fs) some = go (list_any (leads_by k) (f ∷ fs)) (length_added (f ∷ fs) (omega arith))
    where
      go : (t : Bool) → length (with_added k added (f ∷ fs)) ≡ length (f ∷ fs) + length added → length (if t then e ∷ with_added k added (f ∷ fs) else e ∷ (added ++ f ∷ fs)) ≡ suc (length (f ∷ fs)) + length added
      go true later = omega (arith, later)
      go false later = let long = length-append added (f ∷ fs) in omega (arith, long)

  first_added : (es : List Entry) → first_separator (with_added k added es) ≡ first_separator es
  first_added [] = refl
  first_added (e ∷ es) = go (list_any (leads_by k) es)
    where
      go : (t : Bool) → first_separator (if t then e ∷ with_added k added es else e ∷ (added ++ es)) ≡ e.separator
      go true = refl
      go false = refl

  -- new entries come behind the last bucket that counts
  added_at : (a m b : List Entry) → 1 ≤ length m → (a ≡ []) ⊎ (list_any (leads_by k) (m ++ b) ≡ true) → list_any (leads_by k) b ≡ false → with_added k added (a ++ (m ++ b)) ≡ a ++ (with_added k added m ++ b)
  added_at [] m b some first last = added-append m b some ∙ if_false (list_any (leads_by k) b) _ _ last
  added_at (e ∷ es) m b some first last =
      added-append (e ∷ es) (m ++ b) (omega arith)
      ∙ if_true (list_any (leads_by k) (m ++ b)) _ _ (⊎_elim (λ none. let long = ap length none in absurd (omega (arith, long))) (λ any. any) first)
      ∙ ap (λ l. (e ∷ es) ++ l) (added-append m b some ∙ if_false (list_any (leads_by k) b) _ _ last)

pub added_none : (k : List ℕ) (es : List Entry) → with_added k [] es ≡ es
added_none k [] = refl
added_none k (e ∷ es) = go (list_any (leads_by k) es) (added_none k es)
  where
    go : (t : Bool) → with_added k [] es ≡ es → (if t then e ∷ with_added k [] es else e ∷ es) ≡ e ∷ es
    go true later = ap (λ l. e ∷ l) later
    go false later = refl

module _ (k : List ℕ) where
  place-append : (a b : List Entry) → 1 ≤ length a → entry_place k (a ++ b) ≡ (if list_any (leads_by k) b then length a + entry_place k b else entry_place k a)
  place-append [] b some = absurd (omega arith)
  place-append (e ∷ []) b some = go (list_any (leads_by k) b)
    where
      go : (t : Bool) → (if t then suc (entry_place k b) else 0) ≡ (if t then 1 + entry_place k b else 0)
      go true = omega arith
      go false = refl
  place-append (e ∷ f ∷ fs) b some =
      ap (λ t. if t then suc (entry_place k (f ∷ (fs ++ b))) else 0) (any-append k (f ∷ fs) b)
      ∙ go (list_any (leads_by k) (f ∷ fs)) (list_any (leads_by k) b) refl refl (place-append (f ∷ fs) b (omega arith))
    where
      go : (s t : Bool) → list_any (leads_by k) (f ∷ fs) ≡ s → list_any (leads_by k) b ≡ t
          → entry_place k (f ∷ (fs ++ b)) ≡ (if list_any (leads_by k) b then length (f ∷ fs) + entry_place k b else entry_place k (f ∷ fs))
          → (if s || t then suc (entry_place k (f ∷ (fs ++ b))) else 0) ≡ (if t then suc (length (f ∷ fs)) + entry_place k b else (if s then suc (entry_place k (f ∷ fs)) else 0))
      go true true first rest later = let is = later ∙ if_true (list_any (leads_by k) b) _ _ rest in omega (arith, is)
      go true false first rest later = ap suc (later ∙ if_false (list_any (leads_by k) b) _ _ rest)
      go false true first rest later = let is = later ∙ if_true (list_any (leads_by k) b) _ _ rest in omega (arith, is)
      go false false first rest later = refl

  place_at : (a m b : List Entry) → 1 ≤ length m → (a ≡ []) ⊎ (list_any (leads_by k) (m ++ b) ≡ true) → list_any (leads_by k) b ≡ false → entry_place k (a ++ (m ++ b)) ≡ length a + entry_place k m
  place_at [] m b some first last = let is = place-append m b some ∙ if_false (list_any (leads_by k) b) _ _ last in omega (arith, is)
  place_at (e ∷ es) m b some first last =
      let any = ⊎_elim (λ none. let long = ap length none in absurd (omega (arith, long))) (λ t. t) first in
      let outer = place-append (e ∷ es) (m ++ b) (omega arith) ∙ if_true (list_any (leads_by k) (m ++ b)) _ _ any in
      let inner = place-append m b some ∙ if_false (list_any (leads_by k) b) _ _ last in omega (arith, outer, inner)

  place_within : (es : List Entry) → 1 ≤ length es → entry_place k es < length es
  place_within [] some = absurd (omega arith)
  place_within (e ∷ []) some = omega arith
  place_within (e ∷ f ∷ fs) some = go (list_any (leads_by k) (f ∷ fs)) (place_within (f ∷ fs) (omega arith))
    where
      go : (t : Bool) → entry_place k (f ∷ fs) < length (f ∷ fs) → (if t then suc (entry_place k (f ∷ fs)) else 0) < suc (length (f ∷ fs))
      go true later = omega (arith, later)
      go false later = omega arith

-- Counts.

level_at : (fan_out q more c : ℕ) (cs ds : List ℕ) (p : ℕ) → p ≡ total cs + q → q < c → level_with fan_out p more (cs ++ c ∷ ds) ≡ cs ++ (halves fan_out (c + more) ++ ds)
level_at fan_out q more c [] ds p is below = if_true (nat_lt p c) _ _ (lt_true p c (omega (arith, is)))
level_at fan_out q more c (x ∷ xs) ds p is below = if_false (nat_lt p x) _ _ (lt_false p x (omega (arith, is))) ∙ ap (λ l. x ∷ l) (level_at fan_out q more c xs ds (p - x) (omega (arith, is)) below)

above_at : (q c : ℕ) (cs ds : List ℕ) (p : ℕ) → p ≡ total cs + q → q < c → place_above p (cs ++ c ∷ ds) ≡ length cs
above_at q c [] ds p is below = if_true (nat_lt p c) _ _ (lt_true p c (omega (arith, is)))
above_at q c (x ∷ xs) ds p is below = if_false (nat_lt p x) _ _ (lt_false p x (omega (arith, is))) ∙ ap suc (above_at q c xs ds (p - x) (omega (arith, is)) below)

total_along : (f : ℕ → List Entry) (ns : List ℕ) → total (map (λ n. length (f n)) ns) ≡ length (entries_along f ns)
total_along f [] = refl
total_along f (n ∷ ns) = let later = total_along f ns in let long = length-append (f n) (entries_along f ns) in omega (arith, later, long)

length_map : {X Y : Type 0} (f : X → Y) (xs : List X) → length (map f xs) ≡ length xs
length_map f [] = refl
length_map f (x ∷ xs) = ap suc (length_map f xs)

-- The bucket of a level that a key leads to.

record At (k : List ℕ) (entries : ℕ → List Entry) (ns : List ℕ) : Type 0 where
  pre : List ℕ
  bucket : ℕ
  post : List ℕ
  is : ns ≡ pre ++ bucket ∷ post
  chosen : bucket_for k entries ns ≡ bucket
  last : list_any (leads_by k) (entries_along entries post) ≡ false
  first : (pre ≡ []) ⊎ (list_any (leads_by k) (entries bucket ++ entries_along entries post) ≡ true)

at_level : (k : List ℕ) (entries : ℕ → List Entry) (ns : List ℕ) → 1 ≤ length ns → AllSome entries ns → Ascends (entries_along entries ns) → At k entries ns
at_level k entries [] long some up = absurd (omega arith)
at_level k entries (n ∷ []) long some up = record { pre = []; bucket = n; post = []; is = refl; chosen = refl; last = refl; first = inl refl }
at_level k entries (n ∷ m ∷ ms) long some up =
    let up' = later_ascend (entries n) (entries_along entries (m ∷ ms)) up in
    go (list_any (leads_by k) (map (parent_entry entries) (m ∷ ms))) refl (any_parents entries k (m ∷ ms) some.1 up') (at_level k entries (m ∷ ms) (omega arith) some.1 up')
  where
    go : (t : Bool) → list_any (leads_by k) (map (parent_entry entries) (m ∷ ms)) ≡ t → list_any (leads_by k) (entries_along entries (m ∷ ms)) ≡ list_any (leads_by k) (map (parent_entry entries) (m ∷ ms)) → At k entries (m ∷ ms) → At k entries (n ∷ m ∷ ms)
    go true is any later = record {
      pre = n ∷ later.pre;
      bucket = later.bucket;
      post = later.post;
      is = ap (λ l. n ∷ l) later.is;
      chosen = if_true (list_any (leads_by k) (map (parent_entry entries) (m ∷ ms))) _ _ is ∙ later.chosen;
      last = later.last;
      first = inr (⊎_elim (λ none. sym (ap (λ l. list_any (leads_by k) (entries_along entries l)) (later.is ∙ ap (λ l. l ++ later.bucket ∷ later.post) none)) ∙ any ∙ is) (λ t. t) later.first);
    }
    go false is any later = record {
      pre = [];
      bucket = n;
      post = m ∷ ms;
      is = refl;
      chosen = if_false (list_any (leads_by k) (map (parent_entry entries) (m ∷ ms))) _ _ is;
      last = any ∙ is;
      first = inl refl;
    }

none_first : (f : ℕ → List Entry) (pre : List ℕ) (P : Type 0) → (pre ≡ []) ⊎ P → (entries_along f pre ≡ []) ⊎ P
none_first f pre P (inl none) = inl (ap (entries_along f) none)
none_first f pre P (inr h) = inr h

-- A level whose bucket for a key has more entries.
module _ (k : List ℕ) (added : List Entry) (entries : ℕ → List Entry) (ns : List ℕ) (some : AllSome entries ns) (up : Ascends (entries_along entries ns)) (differ : AllDiffer ns) (at : At k entries ns) where
  parts_some : AllSome entries (at.pre ++ at.bucket ∷ at.post)
  parts_some = subst (AllSome entries) at.is some

  here_some : 1 ≤ length (entries at.bucket)
  here_some = (some_parts entries at.pre (at.bucket ∷ at.post) parts_some).1.0

  apart : IsNoneOf at.bucket at.pre × IsNoneOf at.bucket at.post
  apart = differ_about at.bucket at.pre at.post (subst AllDiffer at.is differ)

  along_is : entries_along entries ns ≡ entries_along entries at.pre ++ (entries at.bucket ++ entries_along entries at.post)
  along_is = ap (entries_along entries) at.is ∙ along-append entries at.pre (at.bucket ∷ at.post)

  abbrev all : List Entry
  all = with_added k added (entries at.bucket)

  long_all : length all ≡ length (entries at.bucket) + length added
  long_all = length_added k added (entries at.bucket) here_some

  added_are : with_added k added (entries_along entries ns) ≡ entries_along entries at.pre ++ (all ++ entries_along entries at.post)
  added_are = ap (with_added k added) along_is ∙ added_at k added (entries_along entries at.pre) (entries at.bucket) (entries_along entries at.post) here_some (none_first entries at.pre _ at.first) at.last

  place_is : entry_place k (entries_along entries ns) ≡ length (entries_along entries at.pre) + entry_place k (entries at.bucket)
  place_is = ap (entry_place k) along_is ∙ place_at k (entries_along entries at.pre) (entries at.bucket) (entries_along entries at.post) here_some (none_first entries at.pre _ at.first) at.last

  -- the parents of the level

  post_up : Ascends (entries_along entries at.post)
  post_up = later_ascend (entries at.bucket) (entries_along entries at.post) (later_ascend (entries_along entries at.pre) (entries at.bucket ++ entries_along entries at.post) (subst Ascends along_is up))

  here_up : Ascends (entries at.bucket ++ entries_along entries at.post)
  here_up = later_ascend (entries_along entries at.pre) (entries at.bucket ++ entries_along entries at.post) (subst Ascends along_is up)

  parents_last : list_any (leads_by k) (map (parent_entry entries) at.post) ≡ false
  parents_last = sym (any_parents entries k at.post (some_parts entries at.pre (at.bucket ∷ at.post) parts_some).1.1 post_up) ∙ at.last

  parents_first : (map (parent_entry entries) at.pre ≡ []) ⊎ (list_any (leads_by k) ((parent_entry entries at.bucket ∷ []) ++ map (parent_entry entries) at.post) ≡ true)
  parents_first = ⊎_elim (λ none. inl (ap (map (parent_entry entries)) none))
      (λ any. inr (sym (any_parents entries k (at.bucket ∷ at.post) (some_parts entries at.pre (at.bucket ∷ at.post) parts_some).1 here_up) ∙ any)) at.first

  parents_are : map (parent_entry entries) ns ≡ map (parent_entry entries) at.pre ++ ((parent_entry entries at.bucket ∷ []) ++ map (parent_entry entries) at.post)
  parents_are = ap (map (parent_entry entries)) at.is ∙ map-append (parent_entry entries) at.pre (at.bucket ∷ at.post)

  parents_added : (x : Entry) → with_added k (x ∷ []) (map (parent_entry entries) ns) ≡ map (parent_entry entries) at.pre ++ (parent_entry entries at.bucket ∷ x ∷ map (parent_entry entries) at.post)
  parents_added x = ap (with_added k (x ∷ [])) parents_are ∙ added_at k (x ∷ []) (map (parent_entry entries) at.pre) (parent_entry entries at.bucket ∷ []) (map (parent_entry entries) at.post) (omega arith) parents_first parents_last

  parents_place : entry_place k (map (parent_entry entries) ns) ≡ length at.pre
  parents_place =
      let is = ap (entry_place k) parents_are ∙ place_at k (map (parent_entry entries) at.pre) (parent_entry entries at.bucket ∷ []) (map (parent_entry entries) at.post) (omega arith) parents_first parents_last in
      let long = length_map (parent_entry entries) at.pre in omega (arith, is, long)

  -- its counts

  abbrev count : ℕ → ℕ
  count n = length (entries n)

  counts_are : map count ns ≡ map count at.pre ++ (count at.bucket ∷ map count at.post)
  counts_are = ap (map count) at.is ∙ map-append count at.pre (at.bucket ∷ at.post)

  place_total : entry_place k (entries_along entries ns) ≡ total (map count at.pre) + entry_place k (entries at.bucket)
  place_total = place_is ∙ ap (λ n. n + entry_place k (entries at.bucket)) (sym (total_along entries at.pre))

  level_is : (fan_out : ℕ) → level_with fan_out (entry_place k (entries_along entries ns)) (length added) (map count ns) ≡ map count at.pre ++ (halves fan_out (count at.bucket + length added) ++ map count at.post)
  level_is fan_out = ap (level_with fan_out (entry_place k (entries_along entries ns)) (length added)) counts_are
      ∙ level_at fan_out (entry_place k (entries at.bucket)) (length added) (count at.bucket) (map count at.pre) (map count at.post) _ place_total (place_within k (entries at.bucket) here_some)

  above_is : place_above (entry_place k (entries_along entries ns)) (map count ns) ≡ entry_place k (map (parent_entry entries) ns)
  above_is = ap (place_above (entry_place k (entries_along entries ns))) counts_are
      ∙ above_at (entry_place k (entries at.bucket)) (count at.bucket) (map count at.pre) (map count at.post) _ place_total (place_within k (entries at.bucket) here_some)
      ∙ length_map count at.pre ∙ sym parents_place

  -- where they fit

  abbrev fitted : ℕ → List Entry
  fitted = set_entries at.bucket all entries

  fit_along : entries_along fitted ns ≡ with_added k added (entries_along entries ns)
  fit_along =
      ap (entries_along fitted) at.is ∙ along-append fitted at.pre (at.bucket ∷ at.post)
      ∙ (λ i. along_agree fitted entries at.pre (agree_set at.bucket all entries at.pre apart.0) i ++ (set_here at.bucket all entries i ++ along_agree fitted entries at.post (agree_set at.bucket all entries at.post apart.1) i))
      ∙ sym added_are

  fit_parents : map (parent_entry fitted) ns ≡ map (parent_entry entries) ns
  fit_parents =
      ap (map (parent_entry fitted)) at.is ∙ map-append (parent_entry fitted) at.pre (at.bucket ∷ at.post)
      ∙ (λ i. parents_agree fitted entries at.pre (agree_set at.bucket all entries at.pre apart.0) i
      ++ (record { separator = (ap first_separator (set_here at.bucket all entries) ∙ first_added k added (entries at.bucket)) i; child = at.bucket } ∷ parents_agree fitted entries at.post (agree_set at.bucket all entries at.post apart.1) i))
      ∙ sym parents_are

  fit_some : AllSome fitted ns
  fit_some = subst (AllSome fitted) (sym at.is) (
      let old = some_parts entries at.pre (at.bucket ∷ at.post) parts_some in
      some_both fitted at.pre (at.bucket ∷ at.post) (some_agree fitted entries at.pre (agree_set at.bucket all entries at.pre apart.0) old.0)
      (subst (λ es. 1 ≤ length es) (sym (set_here at.bucket all entries)) (let long = long_all in let one = here_some in omega (arith, long, one)), some_agree fitted entries at.post (agree_set at.bucket all entries at.post apart.1) old.1.1))

  fit_counts : (fan_out : ℕ) → nat_le (length all) fan_out ≡ true → map (λ n. length (fitted n)) ns ≡ level_with fan_out (entry_place k (entries_along entries ns)) (length added) (map count ns)
  fit_counts fan_out fits =
      ap (map (λ n. length (fitted n))) at.is ∙ map-append (λ n. length (fitted n)) at.pre (at.bucket ∷ at.post)
      ∙ (λ i. count_agree fitted entries at.pre (agree_set at.bucket all entries at.pre apart.0) i ++ (length (set_here at.bucket all entries i) ∷ count_agree fitted entries at.post (agree_set at.bucket all entries at.post apart.1) i))
      ∙ ap (λ (h : List ℕ). map count at.pre ++ (h ++ map count at.post)) (sym (if_true (nat_le (length all) fan_out) (length all ∷ []) (length all / 2 ∷ (length all - length all / 2) ∷ []) fits) ∙ ap (halves fan_out) long_all)
      ∙ sym (level_is fan_out)

  -- where they are too many

  module _ (x : ℕ) (fresh : IsNoneOf x ns) (over : 2 ≤ length all) where
    abbrev lower : List Entry
    lower = take (length all / 2) all

    abbrev upper : List Entry
    upper = drop (length all / 2) all

    abbrev halved : ℕ → List Entry
    halved = set_entries x upper (set_entries at.bucket lower entries)

    fresh_parts : IsNoneOf x at.pre × IsNoneOf x (at.bucket ∷ at.post)
    fresh_parts = none_parts x at.pre (at.bucket ∷ at.post) (subst (IsNoneOf x) at.is fresh)

    agree_apart : (ms : List ℕ) → IsNoneOf x ms → IsNoneOf at.bucket ms → AgreeOn halved entries ms
    agree_apart ms none other = agree_trans halved (set_entries at.bucket lower entries) entries ms (agree_set x upper (set_entries at.bucket lower entries) ms none) (agree_set at.bucket lower entries ms other)

    pre_agree : AgreeOn halved entries at.pre
    pre_agree = agree_apart at.pre fresh_parts.0 apart.0

    post_agree : AgreeOn halved entries at.post
    post_agree = agree_apart at.post fresh_parts.1.1 apart.1

    lower_here : halved at.bucket ≡ lower
    lower_here = set_other x at.bucket upper (set_entries at.bucket lower entries) (λ same. fresh_parts.1.0 (sym same)) ∙ set_here at.bucket lower entries

    upper_here : halved x ≡ upper
    upper_here = set_here x upper (set_entries at.bucket lower entries)

    beside_is : beside at.bucket x ns ≡ at.pre ++ at.bucket ∷ x ∷ at.post
    beside_is = ap (beside at.bucket x) at.is ∙ beside_at at.bucket x at.pre at.post apart.0

    long_lower : length lower ≡ length all / 2
    long_lower = length-take (length all / 2) all ∙ least (length all)
      where
        least : (n : ℕ) → min (n / 2) n ≡ n / 2
        least n = omega arith

    long_upper : length upper ≡ length all - length all / 2
    long_upper = length-drop (length all / 2) all

    first_separatorer : first_separator lower ≡ first_separator (entries at.bucket)
    first_separatorer = take_first (length all / 2) all (let two = over in omega (arith, two)) ∙ first_added k added (entries at.bucket)
      where
        take_first : (j : ℕ) (es : List Entry) → 1 ≤ j → first_separator (take j es) ≡ first_separator es
        take_first zero es some_taken = absurd (omega (arith, some_taken))
        take_first (suc j) [] some_taken = refl
        take_first (suc j) (e ∷ es) some_taken = refl

    halved_along : entries_along halved (beside at.bucket x ns) ≡ with_added k added (entries_along entries ns)
    halved_along =
        ap (entries_along halved) beside_is ∙ along-append halved at.pre (at.bucket ∷ x ∷ at.post)
        ∙ (λ i. along_agree halved entries at.pre pre_agree i ++ (lower_here i ++ (upper_here i ++ along_agree halved entries at.post post_agree i)))
        ∙ ap (λ l. entries_along entries at.pre ++ l) (sym (append_assoc lower upper (entries_along entries at.post)) ∙ ap (λ l. l ++ entries_along entries at.post) (take-append-drop (length all / 2) all))
        ∙ sym added_are

    halved_parents : map (parent_entry halved) (beside at.bucket x ns) ≡ with_added k (record { separator = first_separator upper; child = x } ∷ []) (map (parent_entry entries) ns)
    halved_parents =
        ap (map (parent_entry halved)) beside_is ∙ map-append (parent_entry halved) at.pre (at.bucket ∷ x ∷ at.post)
        ∙ (λ i. parents_agree halved entries at.pre pre_agree i
        ++ (record { separator = (ap first_separator lower_here ∙ first_separatorer) i; child = at.bucket } ∷ record { separator = first_separator (upper_here i); child = x } ∷ parents_agree halved entries at.post post_agree i))
        ∙ sym (parents_added (record { separator = first_separator upper; child = x }))

    halved_some : AllSome halved (beside at.bucket x ns)
    halved_some = subst (AllSome halved) (sym beside_is) (
        let old = some_parts entries at.pre (at.bucket ∷ at.post) parts_some in
        let two = over in let low = long_lower in let high = long_upper in
        some_both halved at.pre (at.bucket ∷ x ∷ at.post) (some_agree halved entries at.pre pre_agree old.0)
        (subst (λ es. 1 ≤ length es) (sym lower_here) (omega (arith, two, low)), (subst (λ es. 1 ≤ length es) (sym upper_here) (omega (arith, two, high)), some_agree halved entries at.post post_agree old.1.1)))

    halved_counts : (fan_out : ℕ) → nat_le (length all) fan_out ≡ false → map (λ n. length (halved n)) (beside at.bucket x ns) ≡ level_with fan_out (entry_place k (entries_along entries ns)) (length added) (map count ns)
    halved_counts fan_out more =
        ap (map (λ n. length (halved n))) beside_is ∙ map-append (λ n. length (halved n)) at.pre (at.bucket ∷ x ∷ at.post)
        ∙ (λ i. count_agree halved entries at.pre pre_agree i ++ ((ap length lower_here ∙ long_lower) i ∷ (ap length upper_here ∙ long_upper) i ∷ count_agree halved entries at.post post_agree i))
        ∙ ap (λ (h : List ℕ). map count at.pre ++ (h ++ map count at.post)) (sym (if_false (nat_le (length all) fan_out) (length all ∷ []) (length all / 2 ∷ (length all - length all / 2) ∷ []) more) ∙ ap (halves fan_out) long_all)
        ∙ sym (level_is fan_out)

-- Levels.

below_bucket : (m : ℕ) (a c : List ℕ) → IsNoneOf m (a ++ m ∷ c) → ⊥
below_bucket m [] c none = none.0 refl
below_bucket m (n ∷ ns) c none = below_bucket m ns c none.1

-- a number that none of these is, is not one of them
not_one : (n m : ℕ) (a c : List ℕ) → IsNoneOf n (a ++ m ∷ c) → n ≡ m → ⊥
not_one n m a c none same = (none_parts n a (m ∷ c) none).1.0 same

none_of_levels : (fan_out p more : ℕ) (X : List (List ℕ)) → more ≡ 0 → index_with fan_out p more X ≡ X
none_of_levels fan_out p more X none = ap (λ n. index_with fan_out p n X) none

agree_where : (f g : ℕ → List Entry) (bound : ℕ) (above ns : List ℕ) → ((n : ℕ) → n < bound → IsNoneOf n above → f n ≡ g n) → AllBelow bound ns → EachNone ns above → AgreeOn f g ns
agree_where f g bound above [] same below each = tt
agree_where f g bound above (n ∷ ns) same below each = (same n below.0 each.0, agree_where f g bound above ns same below.1 each.1)

pub each_where : (bound : ℕ) (above later ns : List ℕ) → ((n : ℕ) → n < bound → IsNoneOf n above → IsNoneOf n later) → AllBelow bound ns → EachNone ns above → EachNone ns later
each_where bound above later [] keeps below each = tt
each_where bound above later (n ∷ ns) keeps below each = (keeps n below.0 each.0, each_where bound above later ns keeps below.1 each.1)

former_ascend : (a b : List Entry) → Ascends (a ++ b) → Ascends a
former_ascend [] b up = tt
former_ascend (e ∷ es) b up = ((above_parts e.separator es b up.0).0, former_ascend es b up.1)

-- a number that comes in behind another one
differ_beside : (x m : ℕ) (a c : List ℕ) → IsNoneOf x (a ++ m ∷ c) → AllDiffer (a ++ m ∷ c) → AllDiffer (a ++ m ∷ x ∷ c)
differ_beside x m [] c none differ = (((λ same. none.0 (sym same)), differ.0), (none.1, differ.1))
differ_beside x m (n ∷ ns) c none differ =
    let parts = none_parts n ns (m ∷ c) differ.0 in
    (none_both n ns (m ∷ x ∷ c) parts.0 (parts.1.0, ((λ same. none.0 (sym same)), parts.1.1)), differ_beside x m ns c none.1 differ.1)

below_beside : (bound x m : ℕ) (a c : List ℕ) → x < bound → AllBelow bound (a ++ m ∷ c) → AllBelow bound (a ++ m ∷ x ∷ c)
below_beside bound x m [] c less below = (below.0, (less, below.1))
below_beside bound x m (n ∷ ns) c less below = (below.0, below_beside bound x m ns c less below.1)

each_beside : (x m : ℕ) (a c above : List ℕ) → IsNoneOf x above → EachNone (a ++ m ∷ c) above → EachNone (a ++ m ∷ x ∷ c) above
each_beside x m [] c above none each = (each.0, (none, each.1))
each_beside x m (n ∷ ns) c above none each = (each.0, each_beside x m ns c above none each.1)

none_beside : (n x m : ℕ) (a c : List ℕ) → (n ≡ x → ⊥) → IsNoneOf n (a ++ m ∷ c) → IsNoneOf n (a ++ m ∷ x ∷ c)
none_beside n x m [] c other none = (none.0, (other, none.1))
none_beside n x m (y ∷ ys) c other none = (none.0, none_beside n x m ys c other none.1)

length_beside : (x m : ℕ) (a c : List ℕ) → length (a ++ m ∷ x ∷ c) ≡ suc (length (a ++ m ∷ c))
length_beside x m [] c = refl
length_beside x m (n ∷ ns) c = ap suc (length_beside x m ns c)

module _ (least : List ℕ) (fan_out : ℕ) (wide : 3 ≤ fan_out) (k : List ℕ) where
  module _ (ns : List ℕ) (above : List (List ℕ)) (e : Entry) (es : List Entry) (entries : ℕ → List Entry) (below : List Entry) (root used : ℕ) (up : Ascends below) (up' : Ascends (with_added k (e ∷ es) below))
      (is : IsIndexed least below (record { entries = entries; levels = ns ∷ above; root = root; used = used })) where
    abbrev parents : List Entry
    parents = map (parent_entry entries) ns

    abbrev Old : Index
    Old = record { entries = entries; levels = ns ∷ above; root = root; used = used }

    -- what is handed up from here leaves an index
    abbrev Later : Type 0
    Later = (x : ℕ) (separator : List ℕ) (entries' : ℕ → List Entry) → Ascends parents → Ascends (with_added k (record { separator = separator; child = x } ∷ []) parents)
        → IsIndexed least parents (record { entries = entries'; levels = above; root = root; used = suc used })
        → HandsUp least fan_out k (record { separator = separator; child = x } ∷ []) parents (record { entries = entries'; levels = above; root = root; used = suc used })
        (handed_up least fan_out k (record { separator = separator; child = x } ∷ []) entries' above root (suc used))

    ascends : Ascends (entries_along entries ns)
    ascends = subst Ascends (sym is.leads.0) up

    some_ns : 1 ≤ length ns
    some_ns =
        let long = some_below least entries parents above root is.leads.2 in
        let same = length_parents entries ns in omega (arith, long, same)

    parts : AllDiffer ns × AllDiffer (numbers_of above) × EachNone ns (numbers_of above)
    parts = differ_parts ns (numbers_of above) is.differ

    under : AllBelow used ns × AllBelow used (numbers_of above)
    under = below_parts used ns (numbers_of above) is.used

    abbrev all_at : ℕ → List Entry
    all_at m = with_added k (e ∷ es) (entries m)

    abbrev upper_at : ℕ → List Entry
    upper_at m = drop (length (all_at m) / 2) (all_at m)

    abbrev cut_at : ℕ → ℕ → List Entry
    cut_at m = set_entries used (upper_at m) (set_entries m (take (length (all_at m) / 2) (all_at m)) entries)

    abbrev upper_index : ℕ → Index
    upper_index m = handed_up least fan_out k (record { separator = first_separator (upper_at m); child = used } ∷ []) (cut_at m) above root (suc used)

    abbrev fit_index : ℕ → Index
    fit_index m = record { entries = set_entries m (all_at m) entries; levels = ns ∷ above; root = root; used = used }

    abbrev cut_index : ℕ → Index
    cut_index m = record (upper_index m) { levels = beside m used ns ∷ (upper_index m).levels }

    -- the entry that is handed up from a bucket of this level, once it was parted, comes into an index over the parents
    pub record NextLevel (m : ℕ) : Type 0 where
      pub ascends : Ascends parents
      pub added_ascend : Ascends (with_added k (record { separator = first_separator (upper_at m); child = used } ∷ []) parents)
      pub index : IsIndexed least parents (record { entries = cut_at m; levels = above; root = root; used = suc used })
      pub agree : AgreeOn (cut_at m) entries (numbers_of above)

    -- a bucket of this level has entries, and ascends with those that come in
    pub record LevelAdded (m : ℕ) : Type 0 where
      pub ascends : Ascends (all_at m)
      pub some : 1 ≤ length (entries m)
      pub within : m < used
      pub apart : IsNoneOf m (numbers_of above)
      pub there : IsNoneOf m ns → ⊥

    module _ (at : At k entries ns) where
      here_differ : IsNoneOf at.bucket (numbers_of above)
      here_differ = (each_parts at.pre (at.bucket ∷ at.post) (numbers_of above) (subst (λ l. EachNone l (numbers_of above)) at.is parts.2)).1.0

      not_bucket : (n : ℕ) → IsNoneOf n (ns ++ numbers_of above) → n ≡ at.bucket → ⊥
      not_bucket n none = not_one n at.bucket at.pre at.post (subst (IsNoneOf n) at.is (none_parts n ns (numbers_of above) none).0)

      abbrev counts : List ℕ
      counts = map (λ n. length (entries n)) ns

      abbrev level : List ℕ
      level = level_with fan_out (entry_place k below) (suc (length es)) counts

      fits_here : nat_le (length (all_at at.bucket)) fan_out ≡ true → HandsUp least fan_out k (e ∷ es) below Old (fit_index at.bucket)
      fits_here fits =
          let fitted : ℕ → List Entry = set_entries at.bucket (all_at at.bucket) entries in
          let agree = agree_set at.bucket (all_at at.bucket) entries (numbers_of above) here_differ in
          let level_is : map (λ n. length (fitted n)) ns ≡ level = fit_counts k (e ∷ es) entries ns is.leads.1 ascends parts.0 at fan_out fits ∙ ap (λ b. level_with fan_out (entry_place k b) (suc (length es)) counts) is.leads.0 in
          let no_more : length level - length counts ≡ 0 = (let long = ap length level_is in let a = length_map (λ n. length (fitted n)) ns in let b = length_map (λ n. length (entries n)) ns in omega (arith, long, a, b)) in
          record {
            is = record {
              leads = (
                fit_along k (e ∷ es) entries ns is.leads.1 ascends parts.0 at ∙ ap (with_added k (e ∷ es)) is.leads.0,
                fit_some k (e ∷ es) entries ns is.leads.1 ascends parts.0 at,
                subst (λ l. AreLevels least fitted l above root) (sym (fit_parents k (e ∷ es) entries ns is.leads.1 ascends parts.0 at)) (levels_agree least fitted entries parents above root agree is.leads.2),
              );
              differ = is.differ;
              used = is.used;
            };
            shape = λ i. level_is i ∷ (counts_agree fitted entries above agree ∙ sym (none_of_levels fan_out (place_above (entry_place k below) counts) (length level - length counts) (counts_of entries above) no_more)) i;
            others = λ n less none. set_other at.bucket n (all_at at.bucket) entries (not_bucket n none);
            fresh = λ n less none. none;
            more = omega arith;
            taken = refl;
          }

      next_here : nat_le (length (all_at at.bucket)) fan_out ≡ false → NextLevel at.bucket
      next_here more =
          let two : 2 ≤ length (all_at at.bucket) = (let over = le_false (length (all_at at.bucket)) fan_out more in omega (arith, over, wide)) in
          let fresh_x : IsNoneOf used ns = none_below used ns under.0 in
          let cut : ℕ → List Entry = cut_at at.bucket in
          let bes : List ℕ = beside at.bucket used ns in
          let x : Entry = record { separator = first_separator (upper_at at.bucket); child = used } in
          let parents_are : map (parent_entry cut) bes ≡ with_added k (x ∷ []) parents = halved_parents k (e ∷ es) entries ns is.leads.1 ascends parts.0 at used fresh_x two in
          let along_are : entries_along cut bes ≡ with_added k (e ∷ es) below = halved_along k (e ∷ es) entries ns is.leads.1 ascends parts.0 at used fresh_x two ∙ ap (with_added k (e ∷ es)) is.leads.0 in
          let some_are : AllSome cut bes = halved_some k (e ∷ es) entries ns is.leads.1 ascends parts.0 at used fresh_x two in
          let none_used : IsNoneOf used (numbers_of above) = none_below used (numbers_of above) under.1 in
          let agree : AgreeOn cut entries (numbers_of above) = agree_apart k (e ∷ es) entries ns is.leads.1 ascends parts.0 at used fresh_x two (numbers_of above) none_used here_differ in
          record {
            ascends = parents_ascend entries k ns is.leads.1 ascends;
            added_ascend = subst Ascends parents_are (parents_ascend cut k bes some_are (subst Ascends (sym along_are) up'));
            index = record { leads = levels_agree least cut entries parents above root agree is.leads.2; differ = parts.1; used = below_more used (suc used) (numbers_of above) (omega arith) under.1 };
            agree = agree;
          }

      added_here : LevelAdded at.bucket
      added_here =
          let all : Ascends (entries_along entries at.pre ++ (all_at at.bucket ++ entries_along entries at.post)) =
          subst Ascends (sym (ap (with_added k (e ∷ es)) is.leads.0) ∙ added_are k (e ∷ es) entries ns is.leads.1 ascends parts.0 at) up' in
          record {
            ascends = former_ascend (all_at at.bucket) (entries_along entries at.post) (later_ascend (entries_along entries at.pre) (all_at at.bucket ++ entries_along entries at.post) all);
            some = here_some k (e ∷ es) entries ns is.leads.1 ascends parts.0 at;
            within = (below_parts used at.pre (at.bucket ∷ at.post) (subst (AllBelow used) at.is under.0)).1.0;
            apart = here_differ;
            there = λ none. below_bucket at.bucket at.pre at.post (subst (IsNoneOf at.bucket) at.is none);
          }

      cut_here : nat_le (length (all_at at.bucket)) fan_out ≡ false → Later → HandsUp least fan_out k (e ∷ es) below Old (cut_index at.bucket)
      cut_here more later =
          let two : 2 ≤ length (all_at at.bucket) = (let over = le_false (length (all_at at.bucket)) fan_out more in omega (arith, over, wide)) in
          let fresh_x : IsNoneOf used ns = none_below used ns under.0 in
          let cut : ℕ → List Entry = cut_at at.bucket in
          let bes : List ℕ = beside at.bucket used ns in
          let bes_is : bes ≡ at.pre ++ at.bucket ∷ used ∷ at.post = beside_is k (e ∷ es) entries ns is.leads.1 ascends parts.0 at used fresh_x two in
          let x : Entry = record { separator = first_separator (upper_at at.bucket); child = used } in
          let parents_are : map (parent_entry cut) bes ≡ with_added k (x ∷ []) parents = halved_parents k (e ∷ es) entries ns is.leads.1 ascends parts.0 at used fresh_x two in
          let along_are : entries_along cut bes ≡ with_added k (e ∷ es) below = halved_along k (e ∷ es) entries ns is.leads.1 ascends parts.0 at used fresh_x two ∙ ap (with_added k (e ∷ es)) is.leads.0 in
          let some_are : AllSome cut bes = halved_some k (e ∷ es) entries ns is.leads.1 ascends parts.0 at used fresh_x two in
          let none_used : IsNoneOf used (numbers_of above) = none_below used (numbers_of above) under.1 in
          let agree : AgreeOn cut entries (numbers_of above) = agree_apart k (e ∷ es) entries ns is.leads.1 ascends parts.0 at used fresh_x two (numbers_of above) none_used here_differ in
          let next : NextLevel at.bucket = next_here more in
          let rest : HandsUp least fan_out k (x ∷ []) parents (record { entries = cut; levels = above; root = root; used = suc used }) (upper_index at.bucket) =
          later used (first_separator (upper_at at.bucket)) cut next.ascends next.added_ascend next.index in
          let upper : Index = upper_index at.bucket in
          let bes_below : AllBelow (suc used) bes = subst (AllBelow (suc used)) (sym bes_is) (below_beside (suc used) used at.bucket at.pre at.post (omega arith) (subst (AllBelow (suc used)) at.is (below_more used (suc used) ns (omega arith) under.0))) in
          let bes_each : EachNone bes (numbers_of above) = subst (λ l. EachNone l (numbers_of above)) (sym bes_is) (each_beside used at.bucket at.pre at.post (numbers_of above) none_used (subst (λ l. EachNone l (numbers_of above)) at.is parts.2)) in
          let bes_differ : AllDiffer bes = subst AllDiffer (sym bes_is) (differ_beside used at.bucket at.pre at.post (subst (IsNoneOf used) at.is fresh_x) (subst AllDiffer at.is parts.0)) in
          let same_on : AgreeOn upper.entries cut bes = agree_where upper.entries cut (suc used) (numbers_of above) bes rest.others bes_below bes_each in
          let more_used : suc used ≤ upper.used = rest.more in
          let cut_level : map (λ n. length (cut n)) bes ≡ level = halved_counts k (e ∷ es) entries ns is.leads.1 ascends parts.0 at used fresh_x two fan_out more ∙ ap (λ b. level_with fan_out (entry_place k b) (suc (length es)) counts) is.leads.0 in
          let one_more : length level - length counts ≡ 1 = (
          let long = ap length cut_level in let a = length_map (λ n. length (cut n)) bes in let b = length_map (λ n. length (entries n)) ns in
          let c = ap length bes_is ∙ length_beside used at.bucket at.pre at.post ∙ ap (λ l. suc (length l)) (sym at.is) in omega (arith, long, a, b, c)) in
          let place_is : place_above (entry_place k below) counts ≡ entry_place k parents = ap (λ b. place_above (entry_place k b) counts) (sym is.leads.0) ∙ above_is k (e ∷ es) entries ns is.leads.1 ascends parts.0 at in
          let tail : counts_of upper.entries upper.levels ≡ index_with fan_out (place_above (entry_place k below) counts) (length level - length counts) (counts_of entries above) =
          rest.shape ∙ (λ i. index_with fan_out (sym place_is i) (sym one_more i) (counts_agree cut entries above agree i)) in
          record {
            is = record {
              leads = (
                along_agree upper.entries cut bes same_on ∙ along_are,
                some_agree upper.entries cut bes same_on some_are,
                subst (λ l. AreLevels least upper.entries l upper.levels upper.root) (sym (parents_agree upper.entries cut bes same_on ∙ parents_are)) rest.is.leads,
              );
              differ = differ_both bes (numbers_of upper.levels) bes_differ rest.is.differ (each_where (suc used) (numbers_of above) (numbers_of upper.levels) bes rest.fresh bes_below bes_each);
              used = below_both upper.used bes (numbers_of upper.levels) (below_more (suc used) upper.used bes more_used bes_below) rest.is.used;
            };
            shape = λ i. (count_agree upper.entries cut bes same_on ∙ cut_level) i ∷ tail i;
            others = λ n less none.
                rest.others n (omega (arith, less)) (none_parts n ns (numbers_of above) none).1
                ∙ set_other used n (upper_at at.bucket) (set_entries at.bucket (take (length (all_at at.bucket) / 2) (all_at at.bucket)) entries) (λ same. omega (arith, less, same))
                ∙ set_other at.bucket n (take (length (all_at at.bucket) / 2) (all_at at.bucket)) entries (not_bucket n none);
            fresh = λ n less none.
                let both = none_parts n ns (numbers_of above) none in
                none_both n bes (numbers_of upper.levels) (subst (IsNoneOf n) (sym bes_is) (none_beside n used at.bucket at.pre at.post (λ same. omega (arith, less, same)) (subst (IsNoneOf n) at.is both.0)))
                (rest.fresh n (omega (arith, less)) both.1);
            more = omega (arith, more_used);
            taken = (
                let taken = rest.taken in
                let new_long = length-append bes (numbers_of upper.levels) in
                let old_long = length-append ns (numbers_of above) in
                let one_beside = ap length bes_is ∙ length_beside used at.bucket at.pre at.post ∙ ap (λ l. suc (length l)) (sym at.is) in omega (arith, taken, new_long, old_long, one_beside));
          }

      by_size : Later → HandsUp least fan_out k (e ∷ es) below Old (if nat_le (length (all_at at.bucket)) fan_out then fit_index at.bucket else cut_index at.bucket)
      by_size later = go (nat_le (length (all_at at.bucket)) fan_out) refl
        where
          go : (t : Bool) → nat_le (length (all_at at.bucket)) fan_out ≡ t → HandsUp least fan_out k (e ∷ es) below Old (if t then fit_index at.bucket else cut_index at.bucket)
          go true fits = fits_here fits
          go false over = cut_here over later

    pub next_level : nat_le (length (all_at (bucket_for k entries ns))) fan_out ≡ false → NextLevel (bucket_for k entries ns)
    next_level =
        let at = at_level k entries ns some_ns is.leads.1 ascends in
        subst (λ m. nat_le (length (all_at m)) fan_out ≡ false → NextLevel m) (sym at.chosen) (next_here at)

    pub level_added : LevelAdded (bucket_for k entries ns)
    level_added =
        let at = at_level k entries ns some_ns is.leads.1 ascends in
        subst LevelAdded (sym at.chosen) (added_here at)

    hand_level : Later → HandsUp least fan_out k (e ∷ es) below Old (handed_up least fan_out k (e ∷ es) entries (ns ∷ above) root used)
    hand_level later =
        let at = at_level k entries ns some_ns is.leads.1 ascends in
        subst (λ m. HandsUp least fan_out k (e ∷ es) below Old (if nat_le (length (all_at m)) fan_out then fit_index m else cut_index m)) (sym at.chosen) (by_size at later)

  pub hands_up : (levels : List (List ℕ)) (added : List Entry) (entries : ℕ → List Entry) (below : List Entry) (root used : ℕ) → Ascends below → Ascends (with_added k added below)
      → IsIndexed least below (record { entries = entries; levels = levels; root = root; used = used })
      → HandsUp least fan_out k added below (record { entries = entries; levels = levels; root = root; used = used }) (handed_up least fan_out k added entries levels root used)
  hands_up levels [] entries below root used up up' is = record {
    is = subst (λ b. IsIndexed least b (record { entries = entries; levels = levels; root = root; used = used })) (sym (added_none k below)) is;
    shape = refl;
    others = λ n less none. refl;
    fresh = λ n less none. none;
    more = omega arith;
    taken = refl;
  }
  hands_up [] (e ∷ es) entries below root used up up' is =
      let made : List Entry = record { separator = least; child = root } ∷ e ∷ es in
      let here = set_here used made entries in
      record {
        is = record {
          leads = (
            append-nil (set_entries used made entries used) ∙ here ∙ ap (λ l. record { separator = least; child = root } ∷ l) (sym (append-nil (e ∷ es))) ∙ sym (ap (with_added k (e ∷ es)) is.leads),
            (subst (λ l. 1 ≤ length l) (sym here) (omega arith), tt),
            (λ i. record { separator = first_separator (here i); child = used } ∷ []),
          );
          differ = (tt, tt);
          used = (omega arith, tt);
        };
        shape = λ i. (length (here i) ∷ []) ∷ [];
        others = λ n less none. set_other used n made entries (λ same. omega (arith, less, same));
        fresh = λ n less none. ((λ same. omega (arith, less, same)), tt);
        more = omega arith;
        taken = omega arith;
      }
  hands_up (ns ∷ above) (e ∷ es) entries below root used up up' is =
      hand_level ns above e es entries below root used up up' is
      (λ x separator entries' h h' i. hands_up above (record { separator = separator; child = x } ∷ []) entries' (map (parent_entry entries) ns) root (suc used) h h' i)

pub hand_up_keeps_index : HandUpKeeps
hand_up_keeps_index least fan_out k added below i wide up up' is = hands_up least fan_out wide k i.levels added i.entries below i.root i.used up up' is
