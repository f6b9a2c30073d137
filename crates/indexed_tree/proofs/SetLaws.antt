-- A key that is set in the leaf for it, and the entries that are handed up for it.
use Rattle.std.proofs.Common.{◌≡◌, ◌≤◌, ◌<◌, ◌⊎◌, inl, inr, ◌+◌, ◌*◌, ℕ, zero, suc, Bool, true, false, List, [], ◌∷◌, ◌++◌, length, map, replicate, take, Option, Some, None, if◌then◌else◌, nat_le, is_some, unwrap_or, refl, sym, ap, ◌∙◌, subst, arith}
use Rattle.std.proofs.lemmas.List.{map-append}
use Rattle.file_base.specs.declared.head.FileHead.{FileHead}
use Rattle.bucket_page.specs.Pages.{no_next, next_of, slots_of, IsBucket}
use Rattle.indexed_file.specs.records_model.Slots.{Slot, bytes_before, put, tidied, IsOrdered, IsFor}
use Rattle.indexed_file.specs.records_model.Parts.{bytes_of, parted}
use Rattle.indexed_file.specs.records_model.Chain.{bucket_with, place_of}
use Rattle.indexed_file.proofs.records_model.SlotLaws.{if_true, ordered_parts}
use Rattle.indexed_file.specs.tree_model.Setting.{first_key, layout_with}
use Rattle.indexed_file.specs.tree_model.Laws.{first_lowest}
use Rattle.indexed_file.specs.tree_model.Trees.{AllHold, AllFit, IsTree}
use Rattle.indexed_file.proofs.tree_model.PartsLemmas.{AllFull, bucket_parts}
use Rattle.indexed_file.proofs.tree_model.ZeroLemmas.{zeros_least}
use Rattle.index_blocks.specs.index_model.Indexes.{Entry, Index, AreLevels, Ascends, child_for, with_added, handed_up, numbers_of, counts_of, IsNoneOf, AllDiffer, AllBelow}
use Rattle.index_blocks.specs.index_model.Trees.{Tree, child_of, leaf_at, layout_of, entries_from, set_slots, slots_from, first_part, later_parts, tree_with, IsNumbered}
use Rattle.index_blocks.specs.index_model.Laws.{NumberedHasSet}
use Rattle.index_blocks.proofs.index_model.HandLemmas.{AgreeOn, counts_agree, levels_agree, none_below, below_more, below_parts, differ_about, differ_parts, EachNone, added_none, hand_up_keeps_index}
use Rattle.index_blocks.proofs.index_model.TreeLemmas.{bounded_ascend, SameSlots, leaves_same, from_below, set_slots_here, set_slots_other, length_entries, numbered_has_set}
use Rattle.index_blocks.specs.index_bucket.Entries.{sizes_of}
use Rattle.index_blocks.proofs.index_bucket.HandLaws.{fan_out_wide}
use Rattle.index_blocks.specs.Buckets.{bucket_at}
use Rattle.index_blocks.specs.Levels.{entries_in, least_key, height, leaf_entries, levels_of, AllAre, LeadsDown, way, leaf_for}
use Rattle.index_blocks.specs.Climbs.{MayClimb, Climbs, TellsRoot, climbed}
use Rattle.index_blocks.specs.Laws.{IsNoted, grown_head}
use Rattle.index_blocks.specs.Laws as index
use Rattle.index_blocks.specs.declared.growing.Growth.{Growth}
use Rattle.index_blocks.proofs.LevelLaws.{agree_on, length_levels, levels_read, way_is}
use Rattle.index_blocks.proofs.MayLaws.{levels_may_climb, climb_leads, all_from, all_both}
use Rattle.indexed_file.specs.Chain.{kind_of, slot_of, slots_in, next_in, slots_set, first_or, IsLeaf, Leads}
use Rattle.indexed_file.specs.Raws.{slots_at, SetsLeaf}
use Rattle.indexed_file.specs.Sets.{with_parts}
use Rattle.indexed_file.proofs.ChainLaws.{leads_parts, leads_both}
use Rattle.indexed_file.proofs.GrownLaws.{Room, ascend_ordered}
use Rattle.indexed_file.proofs.PartedLaws.{parted_is}
use Rattle.indexed_file.proofs.SetLaws.{sets_for}
use Rattle.indexed_tree.specs.Rooted.{leaf_numbers, tree_of, layout_in, IsRooted}
use Rattle.indexed_tree.specs.Laws.{slots_below}
use Rattle.indexed_tree.specs.Sets.{added_leaves, entries_to, NewHaveSlots, MaySet, HasSet, StagesLeaf, SetStages}
use Rattle.indexed_tree.proofs.PartLaws.{numbers_from, with_used, Written, parts_written, HaveBytes, bytes_written, parted_few}
use Rattle.indexed_tree.proofs.RootLaws.{length_map, leaves_ascend, rooted_is_tree, layout_tells, rooted_finds, numbers_used, Found, leaf_found, found_for}
use Rattle.indexed_tree.proofs.StayLaws.{moved, both_are, Same, entries_agree, below_stays, leaves_stay, levels_stay, leads_stays}

abbrev Blocks : Type 0
Blocks = List (List ℕ)

-- Lists of numbers.

length_numbers : (n more : ℕ) → length (numbers_from n more) ≡ more
length_numbers n zero = refl
length_numbers n (suc more) = ap suc (length_numbers (suc n) more)

children_from : (n : ℕ) (ps : List (List Slot)) → map child_of (entries_from n ps) ≡ numbers_from n (length ps)
children_from n [] = refl
children_from n (p ∷ ps) = ap (λ l. n ∷ l) (children_from (suc n) ps)

from_are : (P : ℕ → Type 0) (n more : ℕ) → ((m : ℕ) → n ≤ m → m < n + more → P m) → AllAre P (numbers_from n more)
from_are P n zero each = tt
from_are P n (suc more) each = (each n (omega arith) (omega arith), from_are P (suc n) more (λ m from to. each m (omega (arith, from)) (omega (arith, to))))

-- a leaf that was there: it is used, and neither the one that is written nor of the index
abbrev Old : ℕ → ℕ → List ℕ → ℕ → Type 0
Old used n numbers m = (m < used) × (n ≡ m → ⊥) × IsNoneOf m numbers

old_are : (used n : ℕ) (numbers ns : List ℕ) → AllBelow used ns → IsNoneOf n ns → EachNone ns numbers → AllAre (Old used n numbers) ns
old_are used n numbers [] below none each = tt
old_are used n numbers (m ∷ ms) below none each = ((below.0, none.0, each.0), old_are used n numbers ms below.1 none.1 each.1)

each_parts : (numbers a c : List ℕ) → EachNone (a ++ c) numbers → EachNone a numbers × EachNone c numbers
each_parts numbers [] c each = (tt, each)
each_parts numbers (n ∷ ns) c each = let rest = each_parts numbers ns c each.1 in ((each.0, rest.0), rest.1)

same_slots : (S T : ℕ → List Slot) (ns : List ℕ) → AllAre (λ n. S n ≡ T n) ns → SameSlots S T ns
same_slots S T [] all = tt
same_slots S T (n ∷ ns) all = (all.0, same_slots S T ns all.1)

-- Ways along leaves.

leads_to : (h : FileHead) (b : Blocks) (a : List ℕ) (end other : ℕ) → end ≡ other → Leads h b a end → Leads h b a other
leads_to h b a end other same leads = subst (λ (e : ℕ). Leads h b a e) same leads

leads_same : (h : FileHead) (b b' : Blocks) (ms : List ℕ) (end : ℕ) → Same h b b' ms → Leads h b ms end → Leads h b' ms end
leads_same h b b' [] end same leads = tt
leads_same h b b' (m ∷ ms) end same leads = (ap next_of same.0 ∙ leads.0, leads_same h b b' ms end same.1 leads.1)

more_leads : (used more end : ℕ) → used ≤ more → (end < used) ⊎ (end ≡ no_next) → (end < more) ⊎ (end ≡ no_next)
more_leads used more end less (inl below) = inl (omega (arith, less, below))
more_leads used more end less (inr none) = inr none

-- a leaf stays one where more buckets are used
leaf_more : (h : FileHead) (used more : ℕ) (bytes : List ℕ) → used ≤ more → IsLeaf (with_used h used) bytes → IsLeaf (with_used h more) bytes
leaf_more h used more bytes less leaf = record { bucket = leaf.bucket; kept = leaf.kept; leads = more_leads used more (next_of bytes) less leaf.leads }

-- The parts of a leaf.

-- they are those of the rule
parts_of_set : (cap : ℕ) (held : List ℕ → Bool) (k : List ℕ) (v : Option (List ℕ)) (slots : List Slot) → parted cap (place_of k (slots_set cap held k v slots)) (slots_set cap held k v slots) ≡ bucket_with cap held k v slots
parts_of_set cap held k v slots = go (nat_le (bytes_of (put k v slots)) cap) refl
  where
    go : (t : Bool) → nat_le (bytes_of (put k v slots)) cap ≡ t
        → parted cap (place_of k (if t then put k v slots else put k v (tidied held slots))) (if t then put k v slots else put k v (tidied held slots))
        ≡ (if t then put k v slots ∷ [] else parted cap (place_of k (put k v (tidied held slots))) (put k v (tidied held slots)))
    go true fits = if_true (nat_le (bytes_of (put k v slots)) cap) _ _ fits
    go false over = refl

-- buckets that have the new parts have what the tree has there
new_slots : (n : ℕ) (ps : List (List Slot)) (F S : ℕ → List Slot) → map F (numbers_from n (length ps)) ≡ ps → AllAre (λ m. F m ≡ slots_from n ps S m) (numbers_from n (length ps))
new_slots n [] F S is = tt
new_slots n (p ∷ ps) F S is = (
  ap first_part is ∙ sym (from_below (suc n) n ps (set_slots n p S) (omega arith) ∙ set_slots_here n p S),
  new_slots (suc n) ps F (set_slots n p S) (ap later_parts is),
)

-- the entries of new leaves by their bytes
entries_read : (S : ℕ → List Slot) (added : ℕ) (h : FileHead) (mid high : List ℕ) → added ≤ 2 → (1 ≤ added → S h.used ≡ slots_at h mid) → (2 ≤ added → S (suc h.used) ≡ slots_at h high)
    → entries_from h.used (map S (numbers_from h.used added)) ≡ entries_to h added mid high
entries_read S zero h mid high few first second = refl
entries_read S (suc zero) h mid high few first second = λ i. record { separator = first_key (first (omega arith) i); child = h.used } ∷ []
entries_read S (suc (suc zero)) h mid high few first second = λ i. record { separator = first_key (first (omega arith) i); child = h.used } ∷ record { separator = first_key (second (omega arith) i); child = suc h.used } ∷ []
entries_read S (suc (suc (suc more))) h mid high few first second = absurd (omega (arith, few))

later_full : (ps : List (List Slot)) → (length ps ≡ 1) ⊎ AllFull ps → 2 ≤ length ps → AllFull (later_parts ps)
later_full [] full more = tt
later_full (p ∷ ps) (inl one) more = absurd (omega (arith, one, more))
later_full (p ∷ ps) (inr all) more = all.1

-- a leaf in the midst fits
fit_behind : (cap : ℕ) (S : ℕ → List Slot) (a : List Entry) (e : Entry) (c : List Entry) → AllFit cap (map (leaf_at S) (a ++ (e ∷ c))) → (bytes_of (S e.child) ≤ cap) × AllHold (S e.child)
fit_behind cap S [] e c fit = fit.0
fit_behind cap S (x ∷ xs) e c fit = fit_behind cap S xs e c fit.1

slots_counted : (h : FileHead) (bytes : List ℕ) → 1 ≤ length (slots_at h bytes) → 1 ≤ length (slots_of (kind_of h) bytes)
slots_counted h bytes some = let same = length_map (slot_of h) (slots_of (kind_of h) bytes) in omega (arith, same, some)

-- new leaves have slots, since each part has
have_slots : (h : FileHead) (b1 : Blocks) (added : ℕ) (mid high : List ℕ) → HaveBytes h b1 added mid high → {ps : List (List Slot)} → (1 ≤ added → AllFull ps) → map (slots_in h b1) (numbers_from h.used added) ≡ ps
    → AllAre (λ m. IsLeaf (with_used h (h.used + added)) (bucket_at h b1 m)) (numbers_from h.used added) → NewHaveSlots h added (take (512 * h.bucket) mid) (take (512 * h.bucket) high)
have_slots h b1 zero mid high bytes full are leaves = record { first = λ some. absurd (omega (arith, some)); second = λ some. absurd (omega (arith, some)) }
have_slots h b1 (suc zero) mid high bytes full are leaves =
    let all = subst AllFull (sym are) (full (omega arith)) in
    record {
      first = λ some. let at = bytes.mid_is some in record {
        bucket = subst (λ (x : List ℕ). IsBucket (kind_of h) (512 * h.bucket) x) at leaves.0.bucket;
        some = slots_counted h (take (512 * h.bucket) mid) (subst (λ (x : List ℕ). 1 ≤ length (slots_at h x)) at all.0);
      };
      second = λ some. absurd (omega (arith, some));
    }
have_slots h b1 (suc (suc zero)) mid high bytes full are leaves =
    let all = subst AllFull (sym are) (full (omega arith)) in
    record {
      first = λ some. let at = bytes.mid_is some in record {
        bucket = subst (λ (x : List ℕ). IsBucket (kind_of h) (512 * h.bucket) x) at leaves.0.bucket;
        some = slots_counted h (take (512 * h.bucket) mid) (subst (λ (x : List ℕ). 1 ≤ length (slots_at h x)) at all.0);
      };
      second = λ some. let at = bytes.high_is some in record {
        bucket = subst (λ (x : List ℕ). IsBucket (kind_of h) (512 * h.bucket) x) at leaves.1.0.bucket;
        some = slots_counted h (take (512 * h.bucket) high) (subst (λ (x : List ℕ). 1 ≤ length (slots_at h x)) at all.1.0);
      };
    }
have_slots h b1 (suc (suc (suc more))) mid high bytes full are leaves = absurd (let few = bytes.few in omega (arith, few))

module _ (h : FileHead) (b : Blocks) (held : List ℕ → Bool) (k : List ℕ) (v : Option (List ℕ)) (added : ℕ) (may : MaySet h b k v added) (is : IsRooted h b) where
  abbrev cap : ℕ
  cap = (sizes_of h).capacity

  abbrev es : List Entry
  es = leaf_entries h b

  abbrev n : ℕ
  n = leaf_for h b k

  abbrev parts : List (List Slot)
  parts = bucket_with cap held k v (slots_in h b n)

  abbrev news : List Entry
  news = added_leaves h b held k v

  abbrev numbers : List ℕ
  numbers = numbers_of (levels_of h b)

  -- what each leaf has once the key is set
  abbrev T : ℕ → List Slot
  T = slots_from h.used (later_parts parts) (set_slots n (first_part parts) (slots_in h b))

  abbrev below' : List Entry
  below' = with_added k news es

  wide : 3 ≤ (sizes_of h).fan_out
  wide = fan_out_wide h.bucket h.key_size may.one may.form.short

  may_hold : bytes_before k (first_lowest (layout_in h b).leaves) ≡ false
  may_hold = ap (bytes_before k) ((layout_tells h b may.form.some is).first ∙ ap (λ m. replicate m 0) (sym may.key)) ∙ zeros_least k

  num : IsNumbered (least_key h) (sizes_of h) (tree_of h b)
  num = rooted_is_tree h b may.form.root is

  found : Found (slots_in h b) k es
  found = leaf_found h b k is

  -- The leaf is written.
  module _ (low mid high : List ℕ) (leaf : SetsLeaf h held k v (512 * h.bucket) h.used (bucket_at h b n) added (take (512 * h.bucket) low) (take (512 * h.bucket) mid) (take (512 * h.bucket) high)) where
    abbrev b1 : Blocks
    b1 = with_parts h n added low mid high b

    for : IsFor k (slots_below h b found.before) (slots_set cap held k v (slots_in h b n)) (slots_below h b found.behind)
    for =
        sets_for cap held k v (slots_below h b found.before) (slots_in h b n) (slots_below h b found.behind)
        (subst (λ m. IsFor k (slots_below h b found.before) (slots_in h b m) (slots_below h b found.behind)) (sym found.child) (found_for h b k is found))

    order : IsOrdered (map (slot_of h) leaf.raws)
    order =
        let L = slots_set cap held k v (slots_in h b n) in
        let A = slots_below h b found.before in
        let C = slots_below h b found.behind in
        subst IsOrdered (sym leaf.slots) (ordered_parts L C (ordered_parts A (L ++ C) for.ordered).1).0

    at_leaf : (n < h.used) × IsLeaf h (bucket_at h b n)
    at_leaf = let finds = rooted_finds h b k may.form.root is in (finds.used, finds.leaf)

    room : Room h b n added (next_in h b n) leaf.raws
    room = record {
      here = at_leaf.0;
      free = may.free;
      within = may.within;
      order = ascend_ordered h leaf.raws order;
      suit = leaf.suit;
      kept = leaf.kept;
      leads = at_leaf.1.leads;
    }

    written : Written h b b1 n added (next_in h b n) leaf.place (map (slot_of h) leaf.raws)
    written = parts_written h b n added (next_in h b n) leaf.place leaf.raws low mid high may.one room leaf.parted

    parts_are : map (slots_in h b1) (n ∷ numbers_from h.used added) ≡ parts
    parts_are =
        parted_is cap (map (slot_of h) leaf.raws) leaf.place (map (slots_in h b1) (n ∷ numbers_from h.used added)) written.parts
        ∙ ap (λ p. parted cap p (map (slot_of h) leaf.raws)) leaf.at
        ∙ ap (λ (x : List Slot). parted cap (place_of k x) x) leaf.slots
        ∙ parts_of_set cap held k v (slots_in h b n)

    later_are : map (slots_in h b1) (numbers_from h.used added) ≡ later_parts parts
    later_are = ap later_parts parts_are

    count : length (later_parts parts) ≡ added
    count = ap length (sym later_are) ∙ length_map (slots_in h b1) (numbers_from h.used added) ∙ length_numbers h.used added

    news_count : length news ≡ added
    news_count = length_entries h.used (later_parts parts) ∙ count

    news_numbers : map child_of news ≡ numbers_from h.used added
    news_numbers = children_from h.used (later_parts parts) ∙ ap (numbers_from h.used) count

    -- the numbers of the leaves, before and after
    abbrev bs : List ℕ
    bs = map child_of found.before

    abbrev cs : List ℕ
    cs = map child_of found.behind

    old_numbers : leaf_numbers h b ≡ bs ++ (n ∷ cs)
    old_numbers = ap (map child_of) found.is ∙ map-append child_of found.before (found.at ∷ found.behind) ∙ ap (λ m. bs ++ (m ∷ cs)) (sym found.child)

    new_numbers : map child_of below' ≡ bs ++ (n ∷ (numbers_from h.used added ++ cs))
    new_numbers =
        ap (map child_of) (found.added news) ∙ map-append child_of found.before (found.at ∷ (news ++ found.behind))
        ∙ (λ i. bs ++ (sym found.child i ∷ (map-append child_of news found.behind ∙ ap (λ l. l ++ cs) news_numbers) i))

    used_all : AllBelow h.used (bs ++ (n ∷ cs)) × AllBelow h.used numbers
    used_all = let used = numbers_used h b may.form.root is.index in (subst (AllBelow h.used) old_numbers used.0, used.1)

    apart : AllDiffer (bs ++ (n ∷ cs)) × AllDiffer numbers × EachNone (bs ++ (n ∷ cs)) numbers
    apart = differ_parts (bs ++ (n ∷ cs)) numbers (subst (λ (ns : List ℕ). AllDiffer (ns ++ numbers)) old_numbers is.once)

    old_before : AllAre (Old h.used n numbers) bs
    old_before = old_are h.used n numbers bs (below_parts h.used bs (n ∷ cs) used_all.0).0 (differ_about n bs cs apart.0).0 (each_parts numbers bs (n ∷ cs) apart.2).0

    old_behind : AllAre (Old h.used n numbers) cs
    old_behind = old_are h.used n numbers cs (below_parts h.used bs (n ∷ cs) used_all.0).1.1 (differ_about n bs cs apart.0).1 (each_parts numbers bs (n ∷ cs) apart.2).1.1

    n_apart : IsNoneOf n numbers
    n_apart = (each_parts numbers bs (n ∷ cs) apart.2).1.0

    -- what holds of old leaves, of the one that was written and of new ones holds of all
    all_leaves : (P : ℕ → Type 0) → ((m : ℕ) → Old h.used n numbers m → P m) → P n → AllAre P (numbers_from h.used added) → AllAre P (map child_of below')
    all_leaves P old here new = subst (AllAre P) (sym new_numbers)
        (all_both P bs (n ∷ (numbers_from h.used added ++ cs)) (moved (Old h.used n numbers) P bs old old_before)
        (here, all_both P (numbers_from h.used added) cs new (moved (Old h.used n numbers) P cs old old_behind)))

    -- the buckets of the index stay
    none_of_index : (ns : List ℕ) → AllBelow h.used ns → IsNoneOf n ns → Same h b b1 ns
    none_of_index [] below none = tt
    none_of_index (m ∷ ms) below none = (written.others m below.0 none.0, none_of_index ms below.1 none.1)

    stays : Same h b b1 numbers
    stays = none_of_index numbers used_all.1 n_apart

    -- the slots of the leaves are those of the tree
    slots_are : AllAre (λ m. slots_in h b1 m ≡ T m) (map child_of below')
    slots_are = all_leaves (λ m. slots_in h b1 m ≡ T m)
        (λ m old. ap (slots_at h) (written.others m old.0 old.1)
        ∙ sym (from_below h.used m (later_parts parts) (set_slots n (first_part parts) (slots_in h b)) old.0 ∙ set_slots_other n m (first_part parts) (slots_in h b) (λ same. old.1 (sym same))))
        (ap first_part parts_are ∙ sym (from_below h.used n (later_parts parts) (set_slots n (first_part parts) (slots_in h b)) at_leaf.0 ∙ set_slots_here n (first_part parts) (slots_in h b)))
        (subst (λ m. AllAre (λ x. slots_in h b1 x ≡ T x) (numbers_from h.used m)) count
        (new_slots h.used (later_parts parts) (slots_in h b1) (set_slots n (first_part parts) (slots_in h b)) (ap (λ m. map (slots_in h b1) (numbers_from h.used m)) count ∙ later_are)))

    leaves_laid : (more : ℕ) → h.used + added ≤ more → AllAre (λ m. IsLeaf (with_used h more) (bucket_at h b1 m)) (map child_of below')
    leaves_laid more less =
        let old : AllAre (λ m. IsLeaf h (bucket_at h b m)) (bs ++ (n ∷ cs)) = subst (AllAre (λ m. IsLeaf h (bucket_at h b m))) old_numbers is.leaves in
        let halves = are_halves bs (n ∷ cs) old in
        let P : ℕ → Type 0 = λ m. IsLeaf (with_used h more) (bucket_at h b1 m) in
        let one : (m : ℕ) → Old h.used n numbers m → IsLeaf h (bucket_at h b m) → P m =
        λ m o l. subst (λ (x : List ℕ). IsLeaf (with_used h more) x) (sym (written.others m o.0 o.1)) (leaf_more h h.used more (bucket_at h b m) (omega (arith, less)) l) in
        let new : (m : ℕ) → IsLeaf (with_used h (h.used + added)) (bucket_at h b1 m) → P m = λ m l. leaf_more h (h.used + added) more (bucket_at h b1 m) less l in
        subst (AllAre P) (sym new_numbers)
        (all_both P bs (n ∷ (numbers_from h.used added ++ cs)) (both_are (Old h.used n numbers) (λ m. IsLeaf h (bucket_at h b m)) P bs one old_before halves.0) (
          new n written.leaves.0,
          all_both P (numbers_from h.used added) cs (moved (λ m. IsLeaf (with_used h (h.used + added)) (bucket_at h b1 m)) P (numbers_from h.used added) new written.leaves.1)
              (both_are (Old h.used n numbers) (λ m. IsLeaf h (bucket_at h b m)) P cs one old_behind halves.1.1),
        ))
      where
        are_halves : (a c : List ℕ) → AllAre (λ m. IsLeaf h (bucket_at h b m)) (a ++ c) → AllAre (λ m. IsLeaf h (bucket_at h b m)) a × AllAre (λ m. IsLeaf h (bucket_at h b m)) c
        are_halves [] c all = (tt, all)
        are_halves (m ∷ ms) c all = let rest = are_halves ms c all.1 in ((all.0, rest.0), rest.1)

    chain : Leads h b1 (map child_of below') no_next
    chain =
        let ways = leads_parts h b bs (n ∷ cs) no_next (subst (λ (ns : List ℕ). Leads h b ns no_next) old_numbers is.chain) in
        let same : (ns : List ℕ) → AllAre (Old h.used n numbers) ns → Same h b b1 ns = λ ns old. moved (Old h.used n numbers) (λ m. bucket_at h b1 m ≡ bucket_at h b m) ns (λ m o. written.others m o.0 o.1) old in
        let part : Leads h b1 (n ∷ (numbers_from h.used added ++ cs)) no_next =
        leads_both h b1 (n ∷ numbers_from h.used added) cs no_next (leads_to h b1 (n ∷ numbers_from h.used added) (next_in h b n) (first_or cs no_next) ways.1.0 written.leads) (leads_same h b b1 cs no_next (same cs old_behind) ways.1.1) in
        subst (λ (ns : List ℕ). Leads h b1 ns no_next) (sym new_numbers) (leads_both h b1 bs (n ∷ (numbers_from h.used added ++ cs)) no_next (leads_same h b b1 bs n (same bs old_before) ways.0) part)

    -- The tree, with the entries that the index has in these blocks.
    abbrev t1 : Tree
    t1 = record { slots = slots_in h b; below = es; index = record { entries = entries_in h b1; levels = levels_of h b; root = h.root; used = h.used } }

    agree : AgreeOn (entries_in h b1) (entries_in h b) numbers
    agree = entries_agree h b b1 numbers stays

    same_layout : layout_of t1 ≡ layout_in h b
    same_layout = λ i. record { leaves = map (leaf_at (slots_in h b)) es; index = counts_agree (entries_in h b1) (entries_in h b) (levels_of h b) agree i }

    num1 : IsNumbered (least_key h) (sizes_of h) t1
    num1 = record {
      index = record { leads = levels_agree (least_key h) (entries_in h b1) (entries_in h b) es (levels_of h b) h.root agree num.index.leads; differ = num.index.differ; used = num.index.used };
      differ = num.differ;
      leaves = num.leaves;
      all = num.all;
      tree = subst (IsTree (sizes_of h)) (sym same_layout) num.tree;
    }

    abbrev t' : Tree
    t' = tree_with (least_key h) (sizes_of h) held k v t1

    set : NumberedHasSet (least_key h) (sizes_of h) held k v t1 t'
    set = numbered_has_set (least_key h) (sizes_of h) held k v t1 wide may.fits may_hold num1

    abbrev i' : Index
    i' = handed_up (least_key h) (sizes_of h).fan_out k news (entries_in h b1) (levels_of h b) h.root (h.used + length news)

    up' : Ascends below'
    up' = bounded_ascend T below' set.is.tree.bounded

    -- Blocks that have that tree.
    module _ (root levels used : ℕ) (b2 : Blocks) (leaves_stand : Same h b1 b2 (map child_of below')) (entries_stand : (m : ℕ) → entries_in h b2 m ≡ i'.entries m) where
      abbrev h' : FileHead
      h' = record h { root = root; levels = levels; used = used }

      has_set : leaf_entries h' b2 ≡ below' → levels_of h' b2 ≡ i'.levels → LeadsDown h' b2 → used ≡ i'.used → h.used + added ≤ used → HasSet h h' held k v b b2
      has_set leaves_read levels_read' leads used_is less =
          let slots_stand : AllAre (λ m. slots_in h b2 m ≡ T m) (map child_of below') =
          both_are (λ m. bucket_at h b2 m ≡ bucket_at h b1 m) (λ m. slots_in h b1 m ≡ T m) (λ m. slots_in h b2 m ≡ T m) (map child_of below') (λ m same is. ap (slots_at h) same ∙ is) leaves_stand slots_are in
          let layout_first : layout_in h' b2 ≡ layout_of t' =
          λ i. record {
            leaves = (ap (map (leaf_at (slots_in h b2))) leaves_read ∙ leaves_same (slots_in h b2) T below' (same_slots (slots_in h b2) T (map child_of below') slots_stand)) i;
            index = (ap (counts_of (entries_in h b2)) levels_read' ∙ counts_agree (entries_in h b2) i'.entries i'.levels (agree_on (entries_in h b2) i'.entries (numbers_of i'.levels) (all_from (λ m. entries_in h b2 m ≡ i'.entries m) (numbers_of i'.levels) (λ m one. entries_stand m)))) i;
          } in
          let numbers_read : leaf_numbers h' b2 ≡ map child_of below' = ap (map child_of) leaves_read in
          record {
            layout = layout_first ∙ set.layout ∙ ap (layout_with (sizes_of h) held k v) same_layout;
            rooted = record {
              index = leads;
              leaves = subst (AllAre (λ m. IsLeaf h' (bucket_at h' b2 m))) (sym numbers_read)
                  (both_are (λ m. bucket_at h b2 m ≡ bucket_at h b1 m) (λ m. IsLeaf (with_used h used) (bucket_at h b1 m)) (λ m. IsLeaf h' (bucket_at h b2 m)) (map child_of below')
                  (λ m same l. as_head (bucket_at h b2 m) (subst (λ (x : List ℕ). IsLeaf (with_used h used) x) (sym same) l)) leaves_stand (leaves_laid used less));
              chain = subst (λ (ns : List ℕ). Leads h' b2 ns no_next) (sym numbers_read) (leads_head (map child_of below') no_next (leads_same h b1 b2 (map child_of below') no_next leaves_stand chain));
              reached = (let all = set.is.all in let long = ap length numbers_read ∙ length_map child_of below' in let high = ap (λ (ls : List (List ℕ)). length (numbers_of ls)) levels_read' in omega (arith, all, long, high, used_is));
              once = subst (λ (ns : List ℕ). AllDiffer (ns ++ numbers_of (levels_of h' b2))) (sym numbers_read) (subst (λ (ls : List (List ℕ)). AllDiffer (map child_of below' ++ numbers_of ls)) (sym levels_read') set.is.differ);
              tree = subst (IsTree (sizes_of h)) (sym layout_first) set.is.tree;
            };
          }
        where
          as_head : (bytes : List ℕ) → IsLeaf (with_used h used) bytes → IsLeaf h' bytes
          as_head bytes l = record { bucket = l.bucket; kept = l.kept; leads = l.leads }

          leads_head : (ns : List ℕ) (end : ℕ) → Leads h b2 ns end → Leads h' b2 ns end
          leads_head [] end leads = tt
          leads_head (m ∷ ms) end leads = (leads.0, leads_head ms end leads.1)

    -- No leaf is new.

    none_new : added ≡ 0 → news ≡ []
    none_new zero_added = empty news (news_count ∙ zero_added)
      where
        empty : (es : List Entry) → length es ≡ 0 → es ≡ []
        empty [] is = refl
        empty (e ∷ es) is = let wrong : ⊥ = omega (arith, is) in absurd wrong

    same_all : (b' : Blocks) (ns : List ℕ) → Same h b' b' ns
    same_all b' [] = tt
    same_all b' (m ∷ ms) = (refl, same_all b' ms)

    index_whole : added ≡ 0 → i' ≡ record { entries = entries_in h b1; levels = levels_of h b; root = h.root; used = h.used }
    index_whole zero_added =
        let none = none_new zero_added in
        let used : h.used + length news ≡ h.used = let long = news_count in omega (arith, long, zero_added) in
        (λ i. handed_up (least_key h) (sizes_of h).fan_out k (none i) (entries_in h b1) (levels_of h b) h.root (used i))

    pub whole_set : added ≡ 0 → HasSet h h held k v b b1
    whole_set zero_added =
        let whole = index_whole zero_added in
        has_set h.root h.levels h.used b1 (same_all b1 (map child_of below')) (λ m. ap (λ (i : Index). i.entries m) (sym whole))
        (leaves_stay h b b1 stays ∙ sym (added_none k es) ∙ ap (λ xs. with_added k xs es) (sym (none_new zero_added)))
        (levels_stay h b b1 stays ∙ ap (λ (i : Index). i.levels) (sym whole))
        (leads_stays h b b1 stays is.index)
        (ap (λ (i : Index). i.used) (sym whole))
        (omega (arith, zero_added))

    -- Entries are handed up.

    abbrev more : ℕ
    more = h.used + added

    way_stays : (steps : ℕ) → steps < height h → way h b1 k steps ≡ way h b k steps
    way_stays steps below =
        way_is h b1 (leads_stays h b b1 stays is.index) (subst Ascends (sym (leaves_stay h b b1 stays)) (leaves_ascend h b is)) k steps (omega (arith, below))
        ∙ ap (child_for k) (below_stays h b b1 stays steps (omega (arith, below)))
        ∙ sym (way_is h b is.index (leaves_ascend h b is) k steps (omega (arith, below)))

    may_climb : (path : List ℕ) → IsNoted h b k path → 1 ≤ added → MayClimb h k news (leaf_entries h b1) (levels_of h b1) path more b1
    may_climb path noted some =
        let here = leaves_stay h b b1 stays in
        let levels = levels_stay h b b1 stays in
        levels_may_climb h b1 k path news more (leads_stays h b b1 stays is.index) (subst Ascends (sym here) (leaves_ascend h b is))
        (record {
          differ = subst (λ (ls : List (List ℕ)). AllDiffer (numbers_of ls)) (sym levels) apart.1;
          below = subst (λ (ls : List (List ℕ)). AllBelow more (numbers_of ls)) (sym levels) (below_more h.used more numbers (omega arith) used_all.1);
        })
        (λ steps below. noted steps below ∙ sym (way_stays steps below)) (let long = news_count in omega (arith, long, some)) (subst (λ (xs : List Entry). Ascends (with_added k news xs)) (sym here) up')

    climbed_is : climbed h k news (levels_of h b1) more b1 ≡ i'
    climbed_is = let levels = levels_stay h b b1 stays in let used : more ≡ h.used + length news = let long = news_count in omega (arith, long) in
        (λ i. handed_up (least_key h) (sizes_of h).fan_out k news (entries_in h b1) (levels i) h.root (used i))

    none_in_levels : AllAre (λ m. (m < more) × IsNoneOf m numbers) (map child_of below')
    none_in_levels = all_leaves (λ m. (m < more) × IsNoneOf m numbers) (λ m old. let less = old.0 in (omega (arith, less), old.2)) (let less = at_leaf.0 in (omega (arith, less), n_apart))
        (from_are (λ m. (m < more) × IsNoneOf m numbers) h.used added (λ m from to. (to, none_below m numbers (below_more h.used m numbers from used_all.1))))

    -- once they are
    module _ (path : List ℕ) (noted : IsNoted h b k path) (some : 1 ≤ added) (growth : Growth) (b2 : Blocks) (climbs : Climbs h k news (levels_of h b1) more growth b1 b2) where
      abbrev g : FileHead
      g = grown_head h growth

      used_is : growth.used ≡ i'.used
      used_is = climbs.counts ∙ ap (λ (i : Index). i.used) climbed_is

      stand : (m : ℕ) → entries_in h b2 m ≡ i'.entries m
      stand m = climbs.entries m ∙ ap (λ (i : Index). i.entries m) climbed_is

      told : TellsRoot h (length (levels_of h b1)) growth.root i'
      told = subst (TellsRoot h (length (levels_of h b1)) growth.root) climbed_is climbs.root

      root_is : i'.root ≡ g.root
      root_is = go growth.root told
        where
          go : (r : Option ℕ) → TellsRoot h (length (levels_of h b1)) r i' → i'.root ≡ unwrap_or r h.root
          go None told = told.1.0
          go (Some m) told = told.0.0

      levels_are : g.levels ≡ suc (length i'.levels)
      levels_are = go growth.root told
        where
          go : (r : Option ℕ) → TellsRoot h (length (levels_of h b1)) r i' → (if is_some r then suc h.levels else h.levels) ≡ suc (length i'.levels)
          go None told = let count = length_levels h b1 (height h) in let same = told.1.1 in let some = may.form.some in omega (arith, count, same, some)
          go (Some m) told = let count = length_levels h b1 (height h) in let same = told.0.1 in let some = may.form.some in omega (arith, count, same, some)

      read : index.ReadsLevels g b2 below' i'.levels
      read = levels_read g b2 i'.entries below' i'.levels (subst (AreLevels (least_key h) i'.entries below' i'.levels) root_is set.is.index.leads) levels_are
          (all_from (λ m. entries_in g b2 m ≡ i'.entries m) (numbers_of i'.levels) (λ m one. stand m))

      under : AllBelow growth.used (map child_of (with_added k news (leaf_entries h b1)))
      under = subst (λ (xs : List Entry). AllBelow growth.used (map child_of (with_added k news xs))) (sym (leaves_stay h b b1 stays)) (subst (λ u. AllBelow u (map child_of below')) (sym used_is) set.is.leaves)

      leads : index.LeadsOn h g k news b1 b2
      leads = climb_leads h k path news more growth b1 b2 may.form may.one (may_climb path noted some) climbs under

      leaves_same' : Same h b1 b2 (map child_of below')
      leaves_same' = moved (λ m. (m < more) × IsNoneOf m numbers) (λ m. bucket_at h b2 m ≡ bucket_at h b1 m) (map child_of below')
          (λ m is. climbs.others m is.0 (subst (λ (ls : List (List ℕ)). IsNoneOf m (numbers_of ls)) (sym (levels_stay h b b1 stays)) is.1)) none_in_levels

      climb_set : HasSet h g held k v b b2
      climb_set = has_set g.root g.levels growth.used b2 leaves_same' stand read.leaves_are read.levels_are leads.leads used_is (let more_is = set_more in omega (arith, more_is, used_is))
        where
          handed_more : h.used + length news ≤ i'.used
          handed_more = (hand_up_keeps_index (least_key h) (sizes_of h).fan_out k news es (record { entries = entries_in h b1; levels = levels_of h b; root = h.root; used = h.used + length news }) wide (leaves_ascend h b is) up'
              (record { leads = num1.index.leads; differ = num1.index.differ; used = below_more h.used (h.used + length news) numbers (omega arith) num1.index.used })).more

          set_more : more ≤ i'.used
          set_more = subst (λ u. u ≤ i'.used) (let long = news_count in omega (arith, long)) handed_more

    -- What the new leaves have.

    bytes : HaveBytes h b1 added mid high
    bytes = bytes_written h b n added low mid high (parted_few h (512 * h.bucket) h.used (next_in h b n) leaf.place added leaf.raws (take (512 * h.bucket) low) (take (512 * h.bucket) mid) (take (512 * h.bucket) high) leaf.parted) may.free may.within

    entries : news ≡ entries_to h added (take (512 * h.bucket) mid) (take (512 * h.bucket) high)
    entries = ap (entries_from h.used) (sym later_are) ∙ entries_read (slots_in h b1) added h (take (512 * h.bucket) mid) (take (512 * h.bucket) high) bytes.few (λ some. ap (slots_at h) (bytes.mid_is some)) (λ some. ap (slots_at h) (bytes.high_is some))

    full : 1 ≤ added → AllFull (later_parts parts)
    full some = later_full parts (bucket_parts cap held k v (slots_in h b n) may.fits fit.0 fit.1).full (let long = ap length parts_are in let numbers = length_map (slots_in h b1) (n ∷ numbers_from h.used added) in let these = length_numbers h.used added in omega (arith, long, numbers, these, some))
      where
        fit : (bytes_of (slots_in h b n) ≤ cap) × AllHold (slots_in h b n)
        fit = subst (λ m. (bytes_of (slots_in h b m) ≤ cap) × AllHold (slots_in h b m)) (sym found.child) (fit_behind cap (slots_in h b) found.before found.at found.behind (subst (λ (xs : List Entry). AllFit cap (map (leaf_at (slots_in h b)) xs)) found.is is.tree.fit))

    slots : NewHaveSlots h added (take (512 * h.bucket) mid) (take (512 * h.bucket) high)
    slots = have_slots h b1 added mid high bytes (λ some. full some) later_are written.leaves.1

    pub stages : (path : List ℕ) → IsNoted h b k path → StagesLeaf h held k v path added (take (512 * h.bucket) mid) (take (512 * h.bucket) high) b b1
    stages path noted = record { few = bytes.few; entries = entries; slots = slots; count = news_count; whole = whole_set; may = may_climb path noted; climbs = climb_set path noted }

pub set_stages : SetStages
set_stages h b held k v path n added low mid high may is noted at leaf =
    subst (λ m. StagesLeaf h held k v path added (take (512 * h.bucket) mid) (take (512 * h.bucket) high) b (with_parts h m added low mid high b)) (sym at)
    (stages h b held k v added may is low mid high (subst (λ m. SetsLeaf h held k v (512 * h.bucket) h.used (bucket_at h b m) added (take (512 * h.bucket) low) (take (512 * h.bucket) mid) (take (512 * h.bucket) high)) at leaf) path noted)
