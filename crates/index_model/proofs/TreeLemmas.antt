-- Trees with numbers, and a key that is set.
use Rattle.std.proofs.Common.{◌≡◌, ◌≤◌, ◌<◌, ◌+◌, ◌-◌, ◌==◌, ◌||◌, ℕ, suc, Bool, true, false, List, [], ◌∷◌, ◌++◌, length, map, Option, if◌then◌else◌, nat_le, Some, None, refl, sym, ap, ◌∙◌, subst, arith}
use Rattle.std.specs.List.{list_any}
use Rattle.tree_model.specs.records_model.Slots.{Slot, bytes_before, size_of}
use Rattle.tree_model.specs.records_model.Chain.{bucket_with, place_of}
use Rattle.tree_model.specs.records_model.Slots.{put, tidied, slot_at}
use Rattle.tree_model.specs.records_model.Parts.{bytes_of, parted, parts_at as shared_at, best_below}
use Rattle.tree_model.proofs.records_model.SlotLaws.{before_trans, if_true, if_false}
use Rattle.tree_model.specs.Layouts.{Leaf, Sizes}
use Rattle.tree_model.specs.Setting.{starts_by, first_key, new_leaves, leaves_from, leaves_with, slots_for, leaf_place, layout_with, index_with}
use Rattle.tree_model.specs.Trees.{AreBounded, IsTree}
use Rattle.index_model.specs.Indexes.{Entry, Index, leads_by, child_for, entry_place, AllAbove, Ascends, with_added, handed_up, numbers_of, counts_of, IsNoneOf, AllDiffer, AllBelow, IsIndexed}
use Rattle.tree_model.specs.Laws.{MayHold, TreeHasSet}
use Rattle.index_model.specs.Laws.{NumberedFinds, NumberedHasSet, NumberedSets}
use Rattle.index_model.specs.Trees.{child_of, leaf_at, layout_of, entries_from, set_slots, slots_from, first_part, later_parts, tree_with, IsNumbered}
use Rattle.tree_model.proofs.SetLemmas.{tree_has_set}
use Rattle.tree_model.proofs.FindLemmas.{tree_finds}
use Rattle.index_model.proofs.DescentLemmas.{some_below, descends}
use Rattle.index_model.proofs.HandLemmas.{hands_up, none_both, below_both, below_more, differ_parts, differ_both, EachNone, each_where, other_test, self_test, length_added}

-- lowest keys that ascend from one leaf to the next ascend
above_all : (S : ℕ → List Slot) (k : List ℕ) (e : Entry) (es : List Entry) → bytes_before k e.separator ≡ true → AreBounded (map (leaf_at S) (e ∷ es)) → AllAbove k (e ∷ es)
above_all S k e [] less bounded = (less, tt)
above_all S k e (f ∷ fs) less bounded = (less, above_all S k f fs (before_trans k e.separator f.separator less bounded.1.1) bounded.2)

pub bounded_ascend : (S : ℕ → List Slot) (es : List Entry) → AreBounded (map (leaf_at S) es) → Ascends es
bounded_ascend S [] bounded = tt
bounded_ascend S (e ∷ []) bounded = (tt, tt)
bounded_ascend S (e ∷ f ∷ fs) bounded = (above_all S e.separator f fs bounded.1.1 bounded.2, bounded_ascend S (f ∷ fs) bounded.2)

-- leaves count where their entries do
pub any_same : (S : ℕ → List Slot) (k : List ℕ) (es : List Entry) → list_any (starts_by k) (map (leaf_at S) es) ≡ list_any (leads_by k) es
any_same S k [] = refl
any_same S k (e ∷ es) = ap (λ t. leads_by k e || t) (any_same S k es)

place_same : (S : ℕ → List Slot) (k : List ℕ) (es : List Entry) → leaf_place k (map (leaf_at S) es) ≡ entry_place k es
place_same S k [] = refl
place_same S k (e ∷ es) = λ i. if any_same S k es i then suc (place_same S k es i) else 0

-- slots that agree
abbrev pub SameSlots : (S T : ℕ → List Slot) → List ℕ → Type 0
SameSlots S T [] = Unit {0}
SameSlots S T (n ∷ ns) = (S n ≡ T n) × SameSlots S T ns

pub leaves_same : (S T : ℕ → List Slot) (es : List Entry) → SameSlots S T (map child_of es) → map (leaf_at S) es ≡ map (leaf_at T) es
leaves_same S T [] same = refl
leaves_same S T (e ∷ es) same = λ i. record { lowest = e.separator; slots = same.0 i } ∷ leaves_same S T es same.1 i

map-append : {X Y : Type 0} (f : X → Y) (a c : List X) → map f (a ++ c) ≡ map f a ++ map f c
map-append f [] c = refl
map-append f (x ∷ xs) c = ap (λ l. f x ∷ l) (map-append f xs c)

pub set_slots_here : (n : ℕ) (ss : List Slot) (S : ℕ → List Slot) → set_slots n ss S n ≡ ss
set_slots_here n ss S = if_true (n == n) ss (S n) (self_test n)

pub set_slots_other : (n m : ℕ) (ss : List Slot) (S : ℕ → List Slot) → (m ≡ n → ⊥) → set_slots n ss S m ≡ S m
set_slots_other n m ss S other = if_false (m == n) ss (S m) (other_test m n other)

-- numbers below the new ones keep what they have
pub from_below : (n m : ℕ) (ps : List (List Slot)) (S : ℕ → List Slot) → m < n → slots_from n ps S m ≡ S m
from_below n m [] S less = refl
from_below n m (p ∷ ps) S less = from_below (suc n) m ps (set_slots n p S) (omega (arith, less)) ∙ set_slots_other n m p S (λ same. omega (arith, less, same))

-- the new leaves have the new parts
new_have : (n : ℕ) (ps : List (List Slot)) (S : ℕ → List Slot) → map (leaf_at (slots_from n ps S)) (entries_from n ps) ≡ new_leaves ps
new_have n [] S = refl
new_have n (p ∷ ps) S = λ i. record { lowest = first_key p; slots = (from_below (suc n) n ps (set_slots n p S) (omega arith) ∙ set_slots_here n p S) i } ∷ new_have (suc n) ps (set_slots n p S) i

pub length_entries : (n : ℕ) (ps : List (List Slot)) → length (entries_from n ps) ≡ length ps
length_entries n [] = refl
length_entries n (p ∷ ps) = ap suc (length_entries (suc n) ps)

-- what the chosen one is none of
chosen_not : (k : List ℕ) (n : ℕ) (es : List Entry) → 1 ≤ length es → IsNoneOf n (map child_of es) → n ≡ child_for k es → ⊥
chosen_not k n [] some none same = omega (arith, some)
chosen_not k n (e ∷ []) some none same = none.0 same
chosen_not k n (e ∷ f ∷ fs) some none same = go (list_any (leads_by k) (f ∷ fs)) (chosen_not k n (f ∷ fs) (omega arith) none.1) same
  where
    go : (t : Bool) → (n ≡ child_for k (f ∷ fs) → ⊥) → n ≡ (if t then child_for k (f ∷ fs) else e.child) → ⊥
    go true later is = later is
    go false later is = none.0 is

-- numbers of leaves, with the new ones among them
none_new : (k : List ℕ) (m n : ℕ) (ps : List (List Slot)) → m < n → IsNoneOf m (map child_of (entries_from n ps))
none_new k m n [] less = tt
none_new k m n (p ∷ ps) less = ((λ same. omega (arith, less, same)), none_new k m (suc n) ps (omega (arith, less)))

-- The leaves of the tree are those of its layout with the key set.
module _ (capacity : ℕ) (held : List ℕ → Bool) (k : List ℕ) (v : Option (List ℕ)) (S : ℕ → List Slot) (used : ℕ) where
  -- for a leaf with this number, of which these are the parts
  abbrev slots_with : ℕ → List (List Slot) → ℕ → List Slot
  slots_with n parts = slots_from used (later_parts parts) (set_slots n (first_part parts) S)

  same_apart : (n : ℕ) (parts : List (List Slot)) (ns : List ℕ) → AllBelow used ns → IsNoneOf n ns → SameSlots (slots_with n parts) S ns
  same_apart n parts [] below none = tt
  same_apart n parts (m ∷ ms) below none =
      (from_below used m (later_parts parts) (set_slots n (first_part parts) S) below.0 ∙ set_slots_other n m (first_part parts) S (λ same. none.0 (sym same)), same_apart n parts ms below.1 none.1)

  parted_leaf : (e : Entry) (es : List Entry) (parts : List (List Slot)) → 1 ≤ length parts → e.child < used → AllBelow used (map child_of es) → IsNoneOf e.child (map child_of es)
      → map (leaf_at (slots_with e.child parts)) (e ∷ (entries_from used (later_parts parts) ++ es)) ≡ leaves_from e.separator parts ++ map (leaf_at S) es
  parted_leaf e es [] some here below none = absurd (omega (arith, some))
  parted_leaf e es (p ∷ ps) some here below none =
      let T : ℕ → List Slot = slots_with e.child (p ∷ ps) in
      ap (λ l. leaf_at T e ∷ l) (map-append (leaf_at T) (entries_from used ps) es)
      ∙ (λ i. record { lowest = e.separator; slots = (from_below used e.child ps (set_slots e.child p S) here ∙ set_slots_here e.child p S) i } ∷ (new_have used ps (set_slots e.child p S) i ++ leaves_same T S es (same_apart e.child (p ∷ ps) (map child_of es) below none) i))

  abbrev parts_at : ℕ → List (List Slot)
  parts_at n = bucket_with capacity held k v (S n)

  leaves_are : (es : List Entry) → 1 ≤ length es → ((n : ℕ) → 1 ≤ length (parts_at n)) → AllBelow used (map child_of es) → AllDiffer (map child_of es)
      → map (leaf_at (slots_with (child_for k es) (parts_at (child_for k es)))) (with_added k (entries_from used (later_parts (parts_at (child_for k es)))) es) ≡ leaves_with capacity held k v (map (leaf_at S) es)
  leaves_are [] long some below differ = absurd (omega (arith, long))
  leaves_are (e ∷ []) long some below differ = parted_leaf e [] (parts_at e.child) (some e.child) below.0 tt tt
  leaves_are (e ∷ f ∷ fs) long some below differ =
      go (list_any (leads_by k) (f ∷ fs)) refl (leaves_are (f ∷ fs) (omega arith) some below.1 differ.1)
      ∙ ap (λ t. if t then leaf_at S e ∷ leaves_with capacity held k v (map (leaf_at S) (f ∷ fs)) else leaves_from e.separator (parts_at e.child) ++ map (leaf_at S) (f ∷ fs)) (sym (any_same S k (f ∷ fs)))
    where
      go : (t : Bool) → list_any (leads_by k) (f ∷ fs) ≡ t
          → map (leaf_at (slots_with (child_for k (f ∷ fs)) (parts_at (child_for k (f ∷ fs))))) (with_added k (entries_from used (later_parts (parts_at (child_for k (f ∷ fs))))) (f ∷ fs)) ≡ leaves_with capacity held k v (map (leaf_at S) (f ∷ fs))
          → map (leaf_at (slots_with (if t then child_for k (f ∷ fs) else e.child) (parts_at (if t then child_for k (f ∷ fs) else e.child))))
          (if t then e ∷ with_added k (entries_from used (later_parts (parts_at (if t then child_for k (f ∷ fs) else e.child)))) (f ∷ fs) else e ∷ (entries_from used (later_parts (parts_at (if t then child_for k (f ∷ fs) else e.child))) ++ f ∷ fs))
          ≡ (if t then leaf_at S e ∷ leaves_with capacity held k v (map (leaf_at S) (f ∷ fs)) else leaves_from e.separator (parts_at e.child) ++ map (leaf_at S) (f ∷ fs))
      go true is later =
          let n = child_for k (f ∷ fs) in
          λ i. record { lowest = e.separator; slots = (from_below used e.child (later_parts (parts_at n)) (set_slots n (first_part (parts_at n)) S) below.0 ∙ set_slots_other n e.child (first_part (parts_at n)) S (chosen_not k e.child (f ∷ fs) (omega arith) differ.0)) i } ∷ later i
      go false is later = parted_leaf e (f ∷ fs) (parts_at e.child) (some e.child) below.0 below.1 differ.0

-- a leaf with a key set has a part at least
pub bucket_some : (cap : ℕ) (held : List ℕ → Bool) (k : List ℕ) (v : Option (List ℕ)) (slots : List Slot) → 1 ≤ length (bucket_with cap held k v slots)
bucket_some cap held k v slots = go (nat_le (bytes_of (put k v slots)) cap)
  where
    more : List Slot
    more = put k v (tidied held slots)

    shared : (o : Option ℕ) → 1 ≤ length (shared_at more (place_of k more) o)
    shared (Some j) = omega arith
    shared None = omega arith

    whole : (t : Bool) → 1 ≤ length (if t then more ∷ [] else shared_at more (place_of k more) (best_below cap more (length more)))
    whole true = omega arith
    whole false = shared (best_below cap more (length more))

    go : (t : Bool) → 1 ≤ length (if t then put k v slots ∷ [] else parted cap (place_of k more) more)
    go true = omega arith
    go false = whole (nat_le (bytes_of more) cap)

-- Numbers of new leaves.

abbrev AllUp : ℕ → List ℕ → Type 0
AllUp bound [] = Unit {0}
AllUp bound (n ∷ ns) = (bound ≤ n) × AllUp bound ns

none_up : (m bound : ℕ) (ns : List ℕ) → m < bound → AllUp bound ns → IsNoneOf m ns
none_up m bound [] less up = tt
none_up m bound (n ∷ ns) less up = ((λ same. let from = up.0 in omega (arith, less, same, from)), none_up m bound ns less up.1)

none_under : (m bound : ℕ) (ns : List ℕ) → bound ≤ m → AllBelow bound ns → IsNoneOf m ns
none_under m bound [] more below = tt
none_under m bound (n ∷ ns) more below = ((λ same. let under = below.0 in omega (arith, more, same, under)), none_under m bound ns more below.1)

up_less : (a b : ℕ) (ns : List ℕ) → a ≤ b → AllUp b ns → AllUp a ns
up_less a b [] less up = tt
up_less a b (n ∷ ns) less up = ((let from = up.0 in omega (arith, less, from)), up_less a b ns less up.1)

entries_up : (n : ℕ) (ps : List (List Slot)) → AllUp n (map child_of (entries_from n ps))
entries_up n [] = tt
entries_up n (p ∷ ps) = (omega arith, up_less n (suc n) (map child_of (entries_from (suc n) ps)) (omega arith) (entries_up (suc n) ps))

entries_differ : (n : ℕ) (ps : List (List Slot)) → AllDiffer (map child_of (entries_from n ps))
entries_differ n [] = tt
entries_differ n (p ∷ ps) = (none_up n (suc n) (map child_of (entries_from (suc n) ps)) (omega arith) (entries_up (suc n) ps), entries_differ (suc n) ps)

pub entries_below : (n bound : ℕ) (ps : List (List Slot)) → n + length ps ≤ bound → AllBelow bound (map child_of (entries_from n ps))
entries_below n bound [] less = tt
entries_below n bound (p ∷ ps) less = (omega (arith, less), entries_below (suc n) bound ps (omega (arith, less)))

each_under : (bound : ℕ) (ns ms : List ℕ) → AllUp bound ns → AllBelow bound ms → EachNone ns ms
each_under bound [] ms up below = tt
each_under bound (n ∷ ns) ms up below = (none_under n bound ms up.0 below, each_under bound ns ms up.1 below)

-- what holds of each entry and each new one holds of all
module _ (k : List ℕ) (added : List Entry) where
  added_none_of : (m : ℕ) (es : List Entry) → IsNoneOf m (map child_of added) → IsNoneOf m (map child_of es) → IsNoneOf m (map child_of (with_added k added es))
  added_none_of m [] first second = tt
  added_none_of m (e ∷ es) first second = go (list_any (leads_by k) es) (added_none_of m es first second.1)
    where
      go : (t : Bool) → IsNoneOf m (map child_of (with_added k added es)) → IsNoneOf m (map child_of (if t then e ∷ with_added k added es else e ∷ (added ++ es)))
      go true later = (second.0, later)
      go false later = (second.0, subst (IsNoneOf m) (sym (map-append child_of added es)) (none_both m (map child_of added) (map child_of es) first second.1))

  added_below : (bound : ℕ) (es : List Entry) → AllBelow bound (map child_of added) → AllBelow bound (map child_of es) → AllBelow bound (map child_of (with_added k added es))
  added_below bound [] first second = tt
  added_below bound (e ∷ es) first second = go (list_any (leads_by k) es) (added_below bound es first second.1)
    where
      go : (t : Bool) → AllBelow bound (map child_of (with_added k added es)) → AllBelow bound (map child_of (if t then e ∷ with_added k added es else e ∷ (added ++ es)))
      go true later = (second.0, later)
      go false later = (second.0, subst (AllBelow bound) (sym (map-append child_of added es)) (below_both bound (map child_of added) (map child_of es) first second.1))

  added_each : (c : List ℕ) (es : List Entry) → EachNone (map child_of added) c → EachNone (map child_of es) c → EachNone (map child_of (with_added k added es)) c
  added_each c [] first second = tt
  added_each c (e ∷ es) first second = go (list_any (leads_by k) es) (added_each c es first second.1)
    where
      both : (a b : List Entry) → EachNone (map child_of a) c → EachNone (map child_of b) c → EachNone (map child_of (a ++ b)) c
      both [] b x y = y
      both (f ∷ fs) b x y = (x.0, both fs b x.1 y)

      go : (t : Bool) → EachNone (map child_of (with_added k added es)) c → EachNone (map child_of (if t then e ∷ with_added k added es else e ∷ (added ++ es))) c
      go true later = (second.0, later)
      go false later = (second.0, both added es first second.1)

  added_differ : (bound : ℕ) (es : List Entry) → AllUp bound (map child_of added) → AllDiffer (map child_of added) → AllBelow bound (map child_of es) → AllDiffer (map child_of es) → AllDiffer (map child_of (with_added k added es))
  added_differ bound [] up first below second = tt
  added_differ bound (e ∷ es) up first below second = go (list_any (leads_by k) es) (added_differ bound es up first below.1 second.1)
    where
      none : IsNoneOf e.child (map child_of added)
      none = none_up e.child bound (map child_of added) below.0 up

      go : (t : Bool) → AllDiffer (map child_of (with_added k added es)) → AllDiffer (map child_of (if t then e ∷ with_added k added es else e ∷ (added ++ es)))
      go true later = (added_none_of e.child es none second.0, later)
      go false later = (
        subst (IsNoneOf e.child) (sym (map-append child_of added es)) (none_both e.child (map child_of added) (map child_of es) none second.0),
        subst AllDiffer (sym (map-append child_of added es)) (differ_both (map child_of added) (map child_of es) first second.1 (each_under bound (map child_of added) (map child_of es) up below.1)),
      )

-- The whole.
module _ (least : List ℕ) (sizes : Sizes) (held : List ℕ → Bool) (k : List ℕ) (v : Option (List ℕ)) (wide : 3 ≤ sizes.fan_out) (fits : 4 + size_of v ≤ sizes.capacity) where
  sets : (S : ℕ → List Slot) (e : Entry) (es : List Entry) (i : Index) → bytes_before k e.separator ≡ false → IsNumbered least sizes (record { slots = S; below = e ∷ es; index = i })
      → NumberedHasSet least sizes held k v (record { slots = S; below = e ∷ es; index = i }) (tree_with least sizes held k v (record { slots = S; below = e ∷ es; index = i }))
  sets S e es i from is =
      let below : List Entry = e ∷ es in
      let leaves : List Leaf = map (leaf_at S) below in
      let parts : List (List Slot) = bucket_with sizes.capacity held k v (S (child_for k below)) in
      let added : List Entry = entries_from i.used (later_parts parts) in
      let below' : List Entry = with_added k added below in
      let T : ℕ → List Slot = slots_from i.used (later_parts parts) (set_slots (child_for k below) (first_part parts) S) in
      let numbers = differ_parts (map child_of below) (numbers_of i.levels) is.differ in
      let leaves_is : map (leaf_at T) below' ≡ leaves_with sizes.capacity held k v leaves = leaves_are sizes.capacity held k v S i.used below (omega arith) (λ n. bucket_some sizes.capacity held k v (S n)) is.leaves numbers.0 in
      let set : TreeHasSet sizes k v (layout_of (record { slots = S; below = below; index = i })) (layout_with sizes held k v (layout_of (record { slots = S; below = below; index = i }))) =
      tree_has_set sizes held k v (layout_of (record { slots = S; below = below; index = i })) wide fits from is.tree in
      let up : Ascends below = bounded_ascend S below is.tree.bounded in
      let up' : Ascends below' = bounded_ascend T below' (subst AreBounded (sym leaves_is) set.tree.bounded) in
      let start : IsIndexed least below (record i { used = i.used + length added }) = record { leads = is.index.leads; differ = is.index.differ; used = below_more i.used (i.used + length added) (numbers_of i.levels) (omega arith) is.index.used } in
      let hand = hands_up least sizes.fan_out wide k i.levels added i.entries below i.root (i.used + length added) up up' start in
      let i' : Index = handed_up least sizes.fan_out k added i.entries i.levels i.root (i.used + length added) in
      let more : i.used + length added ≤ i'.used = hand.more in
      let grown : length (leaves_with sizes.capacity held k v leaves) - length leaves ≡ length added = (
      let a = ap length leaves_is in let b = length-map-of (leaf_at T) below' in let c = length_added k added below (omega arith) in let d = length-map-of (leaf_at S) below in omega (arith, a, b, c, d)) in
      let layout_is : layout_of (record { slots = T; below = below'; index = i' }) ≡ layout_with sizes held k v (layout_of (record { slots = S; below = below; index = i })) =
      (λ j. record { leaves = leaves_is j; index = (hand.shape ∙ (λ m. index_with sizes.fan_out (sym (place_same S k below) m) (sym grown m) (counts_of i.entries i.levels))) j }) in
      let long : length added ≡ length (later_parts parts) = length_entries i.used (later_parts parts) in
      let new_below : AllBelow (i.used + length added) (map child_of added) = entries_below i.used (i.used + length added) (later_parts parts) (omega (arith, long)) in
      let all_below : AllBelow (i.used + length added) (map child_of below') = added_below k added (i.used + length added) below new_below (below_more i.used (i.used + length added) (map child_of below) (omega arith) is.leaves) in
      let each : EachNone (map child_of below') (numbers_of i.levels) = added_each k added (numbers_of i.levels) below (each_under i.used (map child_of added) (numbers_of i.levels) (entries_up i.used (later_parts parts)) is.index.used) numbers.2 in
      let differ : AllDiffer (map child_of below') = added_differ k added i.used below (entries_up i.used (later_parts parts)) (entries_differ i.used (later_parts parts)) is.leaves numbers.0 in
      record {
        layout = layout_is;
        is = record {
          index = hand.is;
          differ = differ_both (map child_of below') (numbers_of i'.levels) differ hand.is.differ (each_where (i.used + length added) (numbers_of i.levels) (numbers_of i'.levels) (map child_of below') hand.fresh all_below each);
          leaves = below_more (i.used + length added) i'.used (map child_of below') more all_below;
          all = (let taken = hand.taken in let old = is.all in let new = length_added k added below (omega arith) in omega (arith, taken, old, new));
          tree = subst (IsTree sizes) (sym layout_is) set.tree;
        };
      }
    where
      length-map-of : {X Y : Type 0} (f : X → Y) (xs : List X) → length (map f xs) ≡ length xs
      length-map-of f [] = refl
      length-map-of f (x ∷ xs) = ap suc (length-map-of f xs)

  sets_in : (S : ℕ → List Slot) (below : List Entry) (i : Index) → MayHold k (map (leaf_at S) below) → IsNumbered least sizes (record { slots = S; below = below; index = i })
      → NumberedHasSet least sizes held k v (record { slots = S; below = below; index = i }) (tree_with least sizes held k v (record { slots = S; below = below; index = i }))
  sets_in S [] i from is = absurd (let some = some_below least i.entries [] i.levels i.root is.index.leads in omega (arith, some))
  sets_in S (e ∷ es) i from is = sets S e es i from is

pub numbered_has_set : NumberedSets
numbered_has_set least sizes held k v t wide fits from is = sets_in least sizes held k v wide fits t.slots t.below t.index from is

-- a leaf for a key has the slots of that leaf of the layout
pub slots_same : (S : ℕ → List Slot) (k : List ℕ) (es : List Entry) → 1 ≤ length es → S (child_for k es) ≡ slots_for k (map (leaf_at S) es)
slots_same S k [] some = absurd (omega (arith, some))
slots_same S k (e ∷ []) some = refl
slots_same S k (e ∷ f ∷ fs) some = go (list_any (leads_by k) (f ∷ fs)) (slots_same S k (f ∷ fs) (omega arith)) ∙ ap (λ t. if t then slots_for k (map (leaf_at S) (f ∷ fs)) else S e.child) (sym (any_same S k (f ∷ fs)))
  where
    go : (t : Bool) → S (child_for k (f ∷ fs)) ≡ slots_for k (map (leaf_at S) (f ∷ fs)) → S (if t then child_for k (f ∷ fs) else e.child) ≡ (if t then slots_for k (map (leaf_at S) (f ∷ fs)) else S e.child)
    go true later = later
    go false later = refl

pub numbered_finds : NumberedFinds
numbered_finds least sizes k t is =
    tree_finds sizes k (layout_of t) is.tree
    ∙ ap (slot_at k) (sym (slots_same t.slots k t.below (some_below least t.index.entries t.below t.index.levels t.index.root is.index.leads)))
    ∙ ap (λ n. slot_at k (t.slots n)) (sym (descends least t.index.entries t.below t.index.levels t.index.root k (bounded_ascend t.slots t.below is.tree.bounded) is.index.leads))
