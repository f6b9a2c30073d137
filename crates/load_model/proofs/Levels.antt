-- Levels of index buckets in a row.
use Rattle.std.proofs.Common.{◌≡◌, ◌≤◌, ◌<◌, ◌+◌, ◌-◌, ◌*◌, ℕ, zero, suc, Bool, true, false, List, [], ◌∷◌, ◌++◌, length, map, if◌then◌else◌, nat_le, refl, sym, ap, ◌∙◌, subst, length-append, arith}
use Rattle.std.proofs.lemmas.List.{length-map}
use Rattle.index_model.specs.tree_model.Layouts.{index_size}
use Rattle.index_model.specs.tree_model.Loads.{shared, index_over}
use Rattle.index_model.proofs.tree_model.Tests.{fits_test, over_test}
use Rattle.index_model.specs.Indexes.{Entry, first_separator, AreLevels, Ascends, AllBelow, numbers_of, counts_of, entries_along, AllSome, parent_entry}
use Rattle.load_model.specs.Nodes.{entries_by, grouped, level_over, keys_of, nodes_over, all_nodes, numbers_from, numbered, StandFrom}
use Rattle.load_model.specs.Laws.{IsLoadedIndex, IndexLoads, IsNode, AreNodes, NodesSuit, IsLow, IndexStaysLow}
use Rattle.load_model.proofs.Groups.{length_entries_by, below_entries, joined_groups, AllSized, groups_join, groups_sized, groups_shared, length_groups, along_groups, groups_some, parents_by, lengths_of, stand_parts, keys_ascend, groups_are_nodes, nodes_both}

-- three times as many shares as at most so many buckets and two more
pub shares_few : (fan more n : ℕ) → 3 ≤ fan → 1 ≤ n → n ≤ more → (1 ≤ length (shared fan more n)) × (3 * length (shared fan more n) ≤ n + 2)
shares_few fan zero n wide some below = absurd (omega (arith, some, below))
shares_few fan (suc more) n wide some below = go (nat_le n fan) refl (λ over. shares_few fan more (n - fan) wide (omega (arith, over)) (omega (arith, over, below, wide)))
  where
    go : (t : Bool) → nat_le n fan ≡ t → (fan < n → (1 ≤ length (shared fan more (n - fan))) × (3 * length (shared fan more (n - fan)) ≤ (n - fan) + 2))
        → (1 ≤ length (if t then n ∷ [] else fan ∷ shared fan more (n - fan))) × (3 * length (if t then n ∷ [] else fan ∷ shared fan more (n - fan)) ≤ n + 2)
    go true is later = (omega arith, omega (arith, some))
    go false is later = let over = over_test n fan is in let rest = (later over).1 in (omega arith, omega (arith, rest, over, wide))

-- Numbers.

from_more : (n a b : ℕ) → numbers_from n a ++ numbers_from (n + a) b ≡ numbers_from n (a + b)
from_more n zero b = (λ i. let same : n + 0 ≡ n = omega arith in numbers_from (same i) b) ∙ (λ i. let same : b ≡ 0 + b = omega arith in numbers_from n (same i))
from_more n (suc a) b =
    (λ i. n ∷ (numbers_from (suc n) a ++ (let same : n + suc a ≡ suc n + a = omega arith in numbers_from (same i) b)))
    ∙ ap (λ x. n ∷ x) (from_more (suc n) a b) ∙ (λ i. let same : suc (a + b) ≡ suc a + b = omega arith in numbers_from n (same i))

pub numbers_all : (n : ℕ) (levels : List (List (List Entry))) → numbers_of (numbered n levels) ≡ numbers_from n (length (all_nodes levels))
numbers_all n [] = refl
numbers_all n (level ∷ above) =
    ap (λ x. numbers_from n (length level) ++ x) (numbers_all (n + length level) above) ∙ from_more n (length level) (length (all_nodes above)) ∙ ap (numbers_from n) (sym (length-append level (all_nodes above)))

module _ (fan : ℕ) (wide : 3 ≤ fan) where
  one : 1 ≤ fan
  one = omega (arith, wide)

  level_join : (first : ℕ) (keys : List (List ℕ)) → joined_groups (level_over fan first keys) ≡ entries_by first keys
  level_join first keys = let long = length_entries_by first keys in groups_join fan (length keys) (entries_by first keys) one (omega (arith, long))

  level_sized : (first : ℕ) (keys : List (List ℕ)) → AllSized fan (level_over fan first keys)
  level_sized first keys = groups_sized fan (length keys) (entries_by first keys) one

  level_shared : (first : ℕ) (keys : List (List ℕ)) → 1 ≤ length keys → map (λ (g : List Entry). length g) (level_over fan first keys) ≡ shared fan (length keys) (length keys)
  level_shared first keys some = let long = length_entries_by first keys in groups_shared fan (length keys) (entries_by first keys) one (omega (arith, long, some)) (omega (arith, long)) ∙ ap (shared fan (length keys)) long

  pub length_level : (first : ℕ) (keys : List (List ℕ)) → 1 ≤ length keys → length (level_over fan first keys) ≡ length (shared fan (length keys) (length keys))
  length_level first keys some = sym (length-map (level_over fan first keys) (λ (g : List Entry). length g)) ∙ ap (λ (x : List ℕ). length x) (level_shared first keys some)

  length_up : (first : ℕ) (keys : List (List ℕ)) → 1 ≤ length keys → length (keys_of (level_over fan first keys)) ≡ length (shared fan (length keys) (length keys))
  length_up first keys some = length-map (level_over fan first keys) first_separator ∙ length_level first keys some

  -- the next level is over fewer buckets
  fewer : (first : ℕ) (keys : List (List ℕ)) → 2 ≤ length keys → (1 ≤ length (keys_of (level_over fan first keys))) × (suc (length (keys_of (level_over fan first keys))) ≤ length keys)
  fewer first keys two =
      let up = length_up first keys (omega (arith, two)) in
      let few = shares_few fan (length keys) (length keys) wide (omega (arith, two)) (omega arith) in
      let three = few.1 in let some = few.0 in (omega (arith, up, some), omega (arith, up, three, two))

  -- the first of the groups begins as the entries do
  first_same : (n : ℕ) (gs : List (List Entry)) → AllSized fan gs → first_separator (entries_by n (keys_of gs)) ≡ first_separator (joined_groups gs)
  first_same n [] sized = refl
  first_same n ([] ∷ gs) sized = absurd (let some = sized.0.0 in omega (arith, some))
  first_same n ((e ∷ es) ∷ gs) sized = refl

  one_leads : (least : List ℕ) (first root : ℕ) (keys : List (List ℕ)) → 1 ≤ length keys → length keys ≤ 1 → first_separator (entries_by first keys) ≡ least → suc root ≡ first + length keys + 0
      → entries_by first keys ≡ record { separator = least; child = root } ∷ []
  one_leads least first root [] some few is root_is = absurd (omega (arith, some))
  one_leads least first root (k ∷ []) some few is root_is = λ i. record { separator = is i; child = (let same : first ≡ root = omega (arith, root_is) in same i) } ∷ []
  one_leads least first root (k ∷ l ∷ ls) some few is root_is = absurd (omega (arith, few))

  abbrev LevelsLead : List ℕ → (ℕ → List Entry) → ℕ → Type 0
  LevelsLead least entries more = (first root : ℕ) (keys : List (List ℕ)) → 1 ≤ length keys → length keys ≤ more → first_separator (entries_by first keys) ≡ least
      → StandFrom entries (first + length keys) (all_nodes (nodes_over fan more first keys)) → suc root ≡ first + length keys + length (all_nodes (nodes_over fan more first keys))
      → AreLevels least entries (entries_by first keys) (numbered (first + length keys) (nodes_over fan more first keys)) root

  pub levels_lead : (least : List ℕ) (entries : ℕ → List Entry) (more : ℕ) → LevelsLead least entries more
  levels_lead least entries zero first root keys some few least_is stand root_is = absurd (omega (arith, some, few))
  levels_lead least entries (suc more) first root keys some few least_is stand root_is = go (nat_le (length keys) 1) refl stand root_is (levels_lead least entries more)
    where
      level : List (List Entry)
      level = level_over fan first keys

      above : List (List (List Entry))
      above = nodes_over fan more (first + length keys) (keys_of level)

      same : length (keys_of level) ≡ length level
      same = length-map level first_separator

      go : (t : Bool) → nat_le (length keys) 1 ≡ t → StandFrom entries (first + length keys) (all_nodes (if t then [] else level ∷ above))
          → suc root ≡ first + length keys + length (all_nodes (if t then [] else level ∷ above)) → LevelsLead least entries more → AreLevels least entries (entries_by first keys) (numbered (first + length keys) (if t then [] else level ∷ above)) root
      go true is stands roots again = one_leads least first root keys some (fits_test (length keys) 1 is) least_is roots
      go false is stands roots again =
          let two = over_test (length keys) 1 is in
          let less = fewer first keys (omega (arith, two)) in
          let up_some = less.0 in let up_few = less.1 in
          let parts = stand_parts entries (first + length keys) level (all_nodes above) stands in
          let long = length-append level (all_nodes above) in
          let next = again (first + length keys) root (keys_of level) up_some (omega (arith, up_few, few))
          (first_same (first + length keys) level (level_sized first keys) ∙ ap first_separator (level_join first keys) ∙ least_is)
          (subst (λ n. StandFrom entries (first + length keys + n) (all_nodes above)) (sym same) parts.1)
          (roots ∙ omega (arith, long, same)) in (
            along_groups entries (first + length keys) level parts.0 ∙ level_join first keys,
            groups_some entries fan (first + length keys) level parts.0 (level_sized first keys),
            subst (λ x. AreLevels least entries x (numbered (first + length keys + length level) above) root) (sym (parents_by entries (first + length keys) level parts.0))
                (subst (λ n. AreLevels least entries (entries_by (first + length keys) (keys_of level)) (numbered (first + length keys + n) above) root) same next),
          )

  abbrev LevelsShape : (ℕ → List Entry) → ℕ → Type 0
  LevelsShape entries more = (first : ℕ) (keys : List (List ℕ)) → 1 ≤ length keys → length keys ≤ more
      → StandFrom entries (first + length keys) (all_nodes (nodes_over fan more first keys))
      → counts_of entries (numbered (first + length keys) (nodes_over fan more first keys)) ≡ index_over fan more (length keys)

  pub levels_shape : (entries : ℕ → List Entry) (more : ℕ) → LevelsShape entries more
  levels_shape entries zero first keys some few stand = absurd (omega (arith, some, few))
  levels_shape entries (suc more) first keys some few stand = go (nat_le (length keys) 1) refl stand (levels_shape entries more)
    where
      level : List (List Entry)
      level = level_over fan first keys

      above : List (List (List Entry))
      above = nodes_over fan more (first + length keys) (keys_of level)

      same : length (keys_of level) ≡ length level
      same = length-map level first_separator

      go : (t : Bool) → nat_le (length keys) 1 ≡ t → StandFrom entries (first + length keys) (all_nodes (if t then [] else level ∷ above)) → LevelsShape entries more
          → counts_of entries (numbered (first + length keys) (if t then [] else level ∷ above)) ≡ (if t then [] else shared fan (length keys) (length keys) ∷ index_over fan more (length (shared fan (length keys) (length keys))))
      go true is stands again = refl
      go false is stands again =
          let two = over_test (length keys) 1 is in
          let less = fewer first keys (omega (arith, two)) in
          let up_some = less.0 in let up_few = less.1 in
          let parts = stand_parts entries (first + length keys) level (all_nodes above) stands in
          let here = lengths_of entries (first + length keys) level parts.0 ∙ level_shared first keys some in
          let next = again (first + length keys) (keys_of level) up_some (omega (arith, up_few, few)) (subst (λ n. StandFrom entries (first + length keys + n) (all_nodes above)) (sym same) parts.1) in
          let later = ap (λ n. counts_of entries (numbered (first + length keys + n) above)) (sym same) ∙ next ∙ ap (index_over fan more) (length_up first keys some) in
          λ i. here i ∷ later i

  abbrev LevelsSize : ℕ → Type 0
  LevelsSize more = (first : ℕ) (keys : List (List ℕ)) → 1 ≤ length keys → length keys ≤ more → length (all_nodes (nodes_over fan more first keys)) ≡ index_size (index_over fan more (length keys))

  pub levels_size : (more : ℕ) → LevelsSize more
  levels_size zero first keys some few = absurd (omega (arith, some, few))
  levels_size (suc more) first keys some few = go (nat_le (length keys) 1) refl (levels_size more)
    where
      level : List (List Entry)
      level = level_over fan first keys

      above : List (List (List Entry))
      above = nodes_over fan more (first + length keys) (keys_of level)

      go : (t : Bool) → nat_le (length keys) 1 ≡ t → LevelsSize more
          → length (all_nodes (if t then [] else level ∷ above)) ≡ index_size (if t then [] else shared fan (length keys) (length keys) ∷ index_over fan more (length (shared fan (length keys) (length keys))))
      go true is again = refl
      go false is again =
          let two = over_test (length keys) 1 is in
          let less = fewer first keys (omega (arith, two)) in
          let up_some = less.0 in let up_few = less.1 in
          let long = length-append level (all_nodes above) in
          let here = length_level first keys some in
          let next = again (first + length keys) (keys_of level) up_some (omega (arith, up_few, few)) ∙ ap (λ n. index_size (index_over fan more n)) (length_up first keys some) in
          omega (arith, long, here, next)

  abbrev Suits : ℕ → ℕ → Type 0
  Suits bound more = (first : ℕ) (keys : List (List ℕ)) → Ascends (entries_by first keys) → first + length keys + length (all_nodes (nodes_over fan more first keys)) ≤ bound
      → AreNodes fan bound (all_nodes (nodes_over fan more first keys))

  pub nodes_suit : (bound more : ℕ) → Suits bound more
  nodes_suit bound zero first keys up fits = tt
  nodes_suit bound (suc more) first keys up fits = go (nat_le (length keys) 1) fits (nodes_suit bound more)
    where
      level : List (List Entry)
      level = level_over fan first keys

      above : List (List (List Entry))
      above = nodes_over fan more (first + length keys) (keys_of level)

      go : (t : Bool) → first + length keys + length (all_nodes (if t then [] else level ∷ above)) ≤ bound → Suits bound more → AreNodes fan bound (all_nodes (if t then [] else level ∷ above))
      go true fits again = tt
      go false fits again =
          let long = length-append level (all_nodes above) in
          let same = length-map level first_separator in
          let ascends = subst Ascends (sym (level_join first keys)) up in
          nodes_both fan bound level (all_nodes above)
          (groups_are_nodes fan bound level (level_sized first keys) ascends (subst (λ x. AllBelow bound (map (λ (e : Entry). e.child) x)) (sym (level_join first keys)) (below_entries first bound keys (omega (arith, fits)))))
          (again (first + length keys) (keys_of level) (keys_ascend fan (first + length keys) level (level_sized first keys) ascends) (omega (arith, fits, long, same)))

  abbrev Fewer : ℕ → Type 0
  Fewer more = (n : ℕ) → 1 ≤ n → n ≤ more → index_size (index_over fan more n) < n

  index_fewer : (more : ℕ) → Fewer more
  index_fewer zero n some few = absurd (omega (arith, some, few))
  index_fewer (suc more) n some few = go (nat_le n 1) refl (index_fewer more)
    where
      go : (t : Bool) → nat_le n 1 ≡ t → Fewer more → index_size (if t then [] else shared fan n n ∷ index_over fan more (length (shared fan n n))) < n
      go true is again = omega (arith, some)
      go false is again =
          let two = over_test n 1 is in
          let shares = shares_few fan n n wide some (omega arith) in
          let three = shares.1 in let least = shares.0 in
          let rest = again (length (shared fan n n)) least (omega (arith, three, two, few)) in
          omega (arith, rest, three, two)

abbrev power : ℕ → ℕ
power zero = 1
power (suc k) = 3 * power k

abbrev Few : ℕ → ℕ → ℕ → Type 0
Few fan k more = (n : ℕ) → 1 ≤ n → n ≤ power k → length (index_over fan more n) ≤ k

few_levels : (fan : ℕ) → 3 ≤ fan → (k more : ℕ) → Few fan k more
few_levels fan wide k zero n some few = omega arith
few_levels fan wide zero (suc more) n some few = go (nat_le n 1) refl
  where
    go : (t : Bool) → nat_le n 1 ≡ t → length (if t then [] else shared fan n n ∷ index_over fan more (length (shared fan n n))) ≤ 0
    go true is = omega arith
    go false is = absurd (let two = over_test n 1 is in omega (arith, two, few))
few_levels fan wide (suc k) (suc more) n some few = go (nat_le n 1) refl (few_levels fan wide k more)
  where
    go : (t : Bool) → nat_le n 1 ≡ t → Few fan k more → length (if t then [] else shared fan n n ∷ index_over fan more (length (shared fan n n))) ≤ suc k
    go true is again = omega arith
    go false is again =
        let shares = shares_few fan n n wide some (omega arith) in
        let three = shares.1 in
        let rest = again (length (shared fan n n)) shares.0 (omega (arith, three, few)) in
        omega (arith, rest)

pub index_loads : IndexLoads
index_loads least fan entries first root keys wide some least_is stand root_is = record {
  leads = levels_lead fan wide least entries (length keys) first root keys some (omega arith) least_is stand root_is;
  shape = levels_shape fan wide entries (length keys) first keys some (omega arith) stand;
  numbers = numbers_all (first + length keys) (nodes_over fan (length keys) first keys);
  size = levels_size fan wide (length keys) first keys some (omega arith);
}

pub all_suit : NodesSuit
all_suit fan first keys wide up = nodes_suit fan wide _ (length keys) first keys up (omega arith)

pub stays_low : IndexStaysLow
stays_low fan n wide some = record {
  fewer = index_fewer fan wide n n some (omega arith);
  levels = λ few. few_levels fan wide 11 n n some (let big : 65536 ≤ power 11 = omega arith in omega (arith, few, big));
}
