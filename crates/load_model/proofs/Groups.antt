-- Entries in groups.
use Rattle.std.proofs.Common.{◌≡◌, ◌≤◌, ◌<◌, ◌+◌, ◌-◌, ◌*◌, ℕ, zero, suc, Bool, true, false, List, [], ◌∷◌, ◌++◌, length, map, take, drop, if◌then◌else◌, nat_le, min, refl, sym, ap, ◌∙◌, subst, append_assoc, length-append, length-drop, arith}
use Rattle.std.proofs.lemmas.List.{take-append-drop, length-take, length-map}
use Rattle.index_model.specs.tree_model.Loads.{shared, index_over}
use Rattle.index_model.proofs.tree_model.Tests.{fits_test, over_test}
use Rattle.index_model.specs.Indexes.{Entry, entries_along, first_separator, parent_entry, AllSome, AllAbove, Ascends, AllBelow}
use Rattle.index_model.specs.Trees.{child_of}
use Rattle.index_model.proofs.DescentLemmas.{above_parts, later_ascend, first_above, later_above}
use Rattle.load_model.specs.Nodes.{entries_by, grouped, keys_of, numbers_from, StandFrom}
use Rattle.load_model.specs.Laws.{IsNode, AreNodes}

-- Entries of buckets in a row.

pub length_entries_by : (n : ℕ) (ks : List (List ℕ)) → length (entries_by n ks) ≡ length ks
length_entries_by n [] = refl
length_entries_by n (k ∷ ks) = ap suc (length_entries_by (suc n) ks)

pub below_entries : (n bound : ℕ) (ks : List (List ℕ)) → n + length ks ≤ bound → AllBelow bound (map child_of (entries_by n ks))
below_entries n bound [] fits = tt
below_entries n bound (k ∷ ks) fits = (omega (arith, fits), below_entries (suc n) bound ks (omega (arith, fits)))

-- Groups.

abbrev pub joined_groups : List (List Entry) → List Entry
joined_groups [] = []
joined_groups (g ∷ gs) = g ++ joined_groups gs

abbrev pub AllSized : ℕ → List (List Entry) → Type 0
AllSized fan [] = Unit {0}
AllSized fan (g ∷ gs) = ((1 ≤ length g) × (length g ≤ fan)) × AllSized fan gs

pub groups_join : (fan more : ℕ) (es : List Entry) → 1 ≤ fan → length es ≤ more → joined_groups (grouped fan more es) ≡ es
groups_join fan zero [] one few = refl
groups_join fan zero (e ∷ es) one few = absurd (omega (arith, few))
groups_join fan (suc more) [] one few = refl
groups_join fan (suc more) (e ∷ es) one few =
    let rest = length-drop fan (e ∷ es) in
    ap (λ x. take fan (e ∷ es) ++ x) (groups_join fan more (drop fan (e ∷ es)) one (omega (arith, rest, few, one))) ∙ take-append-drop fan (e ∷ es)

pub groups_sized : (fan more : ℕ) (es : List Entry) → 1 ≤ fan → AllSized fan (grouped fan more es)
groups_sized fan zero es one = tt
groups_sized fan (suc more) [] one = tt
groups_sized fan (suc more) (e ∷ es) one = let long = length-take fan (e ∷ es) in ((omega (arith, long, one), omega (arith, long)), groups_sized fan more (drop fan (e ∷ es)) one)

-- the groups are as long as buckets that are shared
abbrev GroupsShared : ℕ → ℕ → Type 0
GroupsShared fan more = (es : List Entry) → 1 ≤ fan → 1 ≤ length es → length es ≤ more → map (λ (g : List Entry). length g) (grouped fan more es) ≡ shared fan more (length es)

pub groups_shared : (fan more : ℕ) → GroupsShared fan more
groups_shared fan zero es one some few = absurd (omega (arith, some, few))
groups_shared fan (suc more) [] one some few = absurd (omega (arith, some))
groups_shared fan (suc more) (e ∷ es) one some few = go (nat_le (length (e ∷ es)) fan) refl (groups_shared fan more)
  where
    rest : length (drop fan (e ∷ es)) ≡ length (e ∷ es) - fan
    rest = length-drop fan (e ∷ es)

    none : (m : ℕ) (xs : List Entry) → length xs ≡ 0 → map (λ (g : List Entry). length g) (grouped fan m xs) ≡ []
    none zero xs is = refl
    none (suc m) [] is = refl
    none (suc m) (x ∷ xs) is = absurd (omega (arith, is))

    go : (t : Bool) → nat_le (length (e ∷ es)) fan ≡ t → GroupsShared fan more
        → length (take fan (e ∷ es)) ∷ map (λ (g : List Entry). length g) (grouped fan more (drop fan (e ∷ es))) ≡ (if t then length (e ∷ es) ∷ [] else fan ∷ shared fan more (length (e ∷ es) - fan))
    go true is again =
        let fits = fits_test (length (e ∷ es)) fan is in
        let long : length (take fan (e ∷ es)) ≡ length (e ∷ es) = length-take fan (e ∷ es) ∙ omega (arith, fits) in
        λ i. long i ∷ none more (drop fan (e ∷ es)) (rest ∙ omega (arith, fits)) i
    go false is again =
        let over = over_test (length (e ∷ es)) fan is in
        let long : length (take fan (e ∷ es)) ≡ fan = length-take fan (e ∷ es) ∙ omega (arith, over) in
        λ i. long i ∷ (again (drop fan (e ∷ es)) one (omega (arith, rest, over)) (omega (arith, rest, few, one)) ∙ ap (shared fan more) rest) i

pub length_groups : (fan more : ℕ) (es : List Entry) → 1 ≤ fan → 1 ≤ length es → length es ≤ more → length (grouped fan more es) ≡ length (shared fan more (length es))
length_groups fan more es one some few = sym (length-map (grouped fan more es) (λ (g : List Entry). length g)) ∙ ap (λ (x : List ℕ). length x) (groups_shared fan more es one some few)

-- Groups that stand in buckets.

pub along_groups : (entries : ℕ → List Entry) (n : ℕ) (gs : List (List Entry)) → StandFrom entries n gs → entries_along entries (numbers_from n (length gs)) ≡ joined_groups gs
along_groups entries n [] stand = refl
along_groups entries n (g ∷ gs) stand = λ i. stand.0 i ++ along_groups entries (suc n) gs stand.1 i

pub groups_some : (entries : ℕ → List Entry) (fan n : ℕ) (gs : List (List Entry)) → StandFrom entries n gs → AllSized fan gs → AllSome entries (numbers_from n (length gs))
groups_some entries fan n [] stand sized = tt
groups_some entries fan n (g ∷ gs) stand sized = let one = sized.0.0 in let same = ap (λ (x : List Entry). length x) stand.0 in (omega (arith, one, same), groups_some entries fan (suc n) gs stand.1 sized.1)

pub parents_by : (entries : ℕ → List Entry) (n : ℕ) (gs : List (List Entry)) → StandFrom entries n gs → map (parent_entry entries) (numbers_from n (length gs)) ≡ entries_by n (keys_of gs)
parents_by entries n [] stand = refl
parents_by entries n (g ∷ gs) stand = λ i. record { separator = first_separator (stand.0 i); child = n } ∷ parents_by entries (suc n) gs stand.1 i

pub lengths_of : (entries : ℕ → List Entry) (n : ℕ) (gs : List (List Entry)) → StandFrom entries n gs → map (λ m. length (entries m)) (numbers_from n (length gs)) ≡ map (λ (g : List Entry). length g) gs
lengths_of entries n [] stand = refl
lengths_of entries n (g ∷ gs) stand = λ i. length (stand.0 i) ∷ lengths_of entries (suc n) gs stand.1 i

pub stand_parts : (entries : ℕ → List Entry) (n : ℕ) (xs ys : List (List Entry)) → StandFrom entries n (xs ++ ys) → StandFrom entries n xs × StandFrom entries (n + length xs) ys
stand_parts entries n [] ys stand = (tt, subst (λ m. StandFrom entries m ys) (let same : n ≡ n + 0 = omega arith in same) stand)
stand_parts entries n (x ∷ xs) ys stand = let rest = stand_parts entries (suc n) xs ys stand.1 in ((stand.0, rest.0), subst (λ m. StandFrom entries m ys) (omega arith) rest.1)

-- Groups that ascend.

keys_above : (l : List ℕ) (fan n : ℕ) (gs : List (List Entry)) → AllSized fan gs → AllAbove l (joined_groups gs) → AllAbove l (entries_by n (keys_of gs))
keys_above l fan n [] sized all = tt
keys_above l fan n (g ∷ gs) sized all = let parts = above_parts l g (joined_groups gs) all in (first_above l g sized.0.0 parts.0, keys_above l fan (suc n) gs sized.1 parts.1)

pub keys_ascend : (fan n : ℕ) (gs : List (List Entry)) → AllSized fan gs → Ascends (joined_groups gs) → Ascends (entries_by n (keys_of gs))
keys_ascend fan n [] sized up = tt
keys_ascend fan n (g ∷ gs) sized up = (keys_above (first_separator g) fan (suc n) gs sized.1 (later_above g (joined_groups gs) sized.0.0 up), keys_ascend fan (suc n) gs sized.1 (later_ascend g (joined_groups gs) up))

front_ascends : (xs ys : List Entry) → Ascends (xs ++ ys) → Ascends xs
front_ascends [] ys up = tt
front_ascends (x ∷ xs) ys up = ((above_parts x.separator xs ys up.0).0, front_ascends xs ys up.1)

below_halves : (bound : ℕ) (xs ys : List Entry) → AllBelow bound (map child_of (xs ++ ys)) → AllBelow bound (map child_of xs) × AllBelow bound (map child_of ys)
below_halves bound [] ys all = (tt, all)
below_halves bound (x ∷ xs) ys all = let rest = below_halves bound xs ys all.1 in ((all.0, rest.0), rest.1)

pub groups_are_nodes : (fan bound : ℕ) (gs : List (List Entry)) → AllSized fan gs → Ascends (joined_groups gs) → AllBelow bound (map child_of (joined_groups gs)) → AreNodes fan bound gs
groups_are_nodes fan bound [] sized up below = tt
groups_are_nodes fan bound (g ∷ gs) sized up below =
    let parts = below_halves bound g (joined_groups gs) below in
    (record { some = sized.0.0; few = sized.0.1; ascend = front_ascends g (joined_groups gs) up; below = parts.0 }, groups_are_nodes fan bound gs sized.1 (later_ascend g (joined_groups gs) up) parts.1)

pub nodes_both : (fan bound : ℕ) (xs ys : List (List Entry)) → AreNodes fan bound xs → AreNodes fan bound ys → AreNodes fan bound (xs ++ ys)
nodes_both fan bound [] ys first second = second
nodes_both fan bound (x ∷ xs) ys first second = (first.0, nodes_both fan bound xs ys first.1 second)
