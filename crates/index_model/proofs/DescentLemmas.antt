-- How an index is descended.
use Rattle.std.proofs.Common.{◌≡◌, ◌≤◌, ◌||◌, ℕ, suc, Bool, true, false, not, List, [], ◌∷◌, ◌++◌, length, map, if◌then◌else◌, refl, sym, ap, ◌∙◌, subst, append-nil, length-append, arith}
use Rattle.std.specs.List.{list_any}
use Rattle.tree_model.specs.records_model.Slots.{bytes_before}
use Rattle.tree_model.proofs.records_model.SlotLaws.{before_trans}
use Rattle.index_model.specs.Indexes.{Entry, entries_along, first_separator, parent_entry, AllSome, AreLevels, leads_by, child_for, AllAbove, Ascends}
use Rattle.index_model.specs.Laws.{DescentFinds}

pub above_trans : (k l : List ℕ) (es : List Entry) → bytes_before k l ≡ true → AllAbove l es → AllAbove k es
above_trans k l [] h all = tt
above_trans k l (e ∷ es) h all = (before_trans k l e.separator h all.0, above_trans k l es h all.1)

pub above_parts : (k : List ℕ) (a b : List Entry) → AllAbove k (a ++ b) → AllAbove k a × AllAbove k b
above_parts k [] b all = (tt, all)
above_parts k (e ∷ es) b all = let rest = above_parts k es b all.1 in ((all.0, rest.0), rest.1)

pub later_ascend : (a b : List Entry) → Ascends (a ++ b) → Ascends b
later_ascend [] b up = up
later_ascend (e ∷ es) b up = later_ascend es b up.1

pub first_above : (k : List ℕ) (es : List Entry) → 1 ≤ length es → AllAbove k es → bytes_before k (first_separator es) ≡ true
first_above k [] some all = absurd (omega arith)
first_above k (e ∷ es) some all = all.0

pub later_above : (es rest : List Entry) → 1 ≤ length es → Ascends (es ++ rest) → AllAbove (first_separator es) rest
later_above [] rest some up = absurd (omega arith)
later_above (e ∷ es) rest some up = (above_parts e.separator es rest up.0).1

pub any-append : (k : List ℕ) (a b : List Entry) → list_any (leads_by k) (a ++ b) ≡ (list_any (leads_by k) a || list_any (leads_by k) b)
any-append k [] b = refl
any-append k (e ∷ es) b = go (leads_by k e) (any-append k es b)
  where
    go : (t : Bool) → list_any (leads_by k) (es ++ b) ≡ (list_any (leads_by k) es || list_any (leads_by k) b) → (t || list_any (leads_by k) (es ++ b)) ≡ ((t || list_any (leads_by k) es) || list_any (leads_by k) b)
    go true later = refl
    go false later = later

-- behind a key none counts
pub none_above : (k : List ℕ) (es : List Entry) → AllAbove k es → list_any (leads_by k) es ≡ false
none_above k [] all = refl
none_above k (e ∷ es) all = go (bytes_before k e.separator) all.0 (none_above k es all.1)
  where
    go : (t : Bool) → t ≡ true → list_any (leads_by k) es ≡ false → (not t || list_any (leads_by k) es) ≡ false
    go true h later = later
    go false h later = cc

-- of entries that ascend, some count exactly where the first one does
pub any_first : (k : List ℕ) (es rest : List Entry) → 1 ≤ length es → Ascends (es ++ rest) → list_any (leads_by k) (es ++ rest) ≡ not (bytes_before k (first_separator es))
any_first k [] rest some up = absurd (omega arith)
any_first k (e ∷ es) rest some up = go (bytes_before k e.separator) refl
  where
    go : (t : Bool) → bytes_before k e.separator ≡ t → (not t || list_any (leads_by k) (es ++ rest)) ≡ not t
    go true less = none_above k (es ++ rest) (above_trans k e.separator (es ++ rest) less up.0)
    go false more = refl

pub length_parents : (entries : ℕ → List Entry) (ns : List ℕ) → length (map (parent_entry entries) ns) ≡ length ns
length_parents entries [] = refl
length_parents entries (n ∷ ns) = ap suc (length_parents entries ns)

module _ (entries : ℕ → List Entry) (k : List ℕ) where
  parents_above : (l : List ℕ) (ns : List ℕ) → AllSome entries ns → AllAbove l (entries_along entries ns) → AllAbove l (map (parent_entry entries) ns)
  parents_above l [] some all = tt
  parents_above l (n ∷ ns) some all = let parts = above_parts l (entries n) (entries_along entries ns) all in (first_above l (entries n) some.0 parts.0, parents_above l ns some.1 parts.1)

  pub parents_ascend : (ns : List ℕ) → AllSome entries ns → Ascends (entries_along entries ns) → Ascends (map (parent_entry entries) ns)
  parents_ascend [] some up = tt
  parents_ascend (n ∷ ns) some up =
      (parents_above (first_separator (entries n)) ns some.1 (later_above (entries n) (entries_along entries ns) some.0 up), parents_ascend ns some.1 (later_ascend (entries n) (entries_along entries ns) up))

  -- some entry of these buckets counts exactly where some bucket does
  pub any_parents : (ns : List ℕ) → AllSome entries ns → Ascends (entries_along entries ns) → list_any (leads_by k) (entries_along entries ns) ≡ list_any (leads_by k) (map (parent_entry entries) ns)
  any_parents [] some up = refl
  any_parents (n ∷ ns) some up =
      any_first k (entries n) (entries_along entries ns) some.0 up
      ∙ sym (any_first_head (bytes_before k (first_separator (entries n))) refl)
    where
      any_first_head : (t : Bool) → bytes_before k (first_separator (entries n)) ≡ t → (not t || list_any (leads_by k) (map (parent_entry entries) ns)) ≡ not t
      any_first_head true less = none_above k (map (parent_entry entries) ns) (parents_above k ns some.1 (above_trans k (first_separator (entries n)) (entries_along entries ns) less (later_above (entries n) (entries_along entries ns) some.0 up)))
      any_first_head false more = refl

  pub child_for-append : (a b : List Entry) → 1 ≤ length a → child_for k (a ++ b) ≡ (if list_any (leads_by k) b then child_for k b else child_for k a)
  child_for-append [] b some = absurd (omega arith)
  child_for-append (e ∷ []) b some = refl
  child_for-append (e ∷ f ∷ fs) b some =
      ap (λ t. if t then child_for k (f ∷ (fs ++ b)) else e.child) (any-append k (f ∷ fs) b)
      ∙ go (list_any (leads_by k) (f ∷ fs)) (list_any (leads_by k) b) refl refl (child_for-append (f ∷ fs) b (omega arith))
    where
      go : (s t : Bool) → list_any (leads_by k) (f ∷ fs) ≡ s → list_any (leads_by k) b ≡ t → child_for k (f ∷ (fs ++ b)) ≡ (if list_any (leads_by k) b then child_for k b else child_for k (f ∷ fs))
          → (if s || t then child_for k (f ∷ (fs ++ b)) else e.child) ≡ (if t then child_for k b else (if s then child_for k (f ∷ fs) else e.child))
      go true t first rest later = later ∙ ap (λ u. if u then child_for k b else child_for k (f ∷ fs)) rest
      go false true first rest later = later ∙ ap (λ u. if u then child_for k b else child_for k (f ∷ fs)) rest
      go false false first rest later = refl

  -- the last entry of a level by a key stands in the last bucket by it
  pub level_chooses : (ns : List ℕ) → 1 ≤ length ns → AllSome entries ns → Ascends (entries_along entries ns) → child_for k (entries_along entries ns) ≡ child_for k (entries (child_for k (map (parent_entry entries) ns)))
  level_chooses [] some each up = absurd (omega arith)
  level_chooses (n ∷ []) some each up = ap (child_for k) (append-nil (entries n))
  level_chooses (n ∷ m ∷ ms) some each up =
      child_for-append (entries n) (entries_along entries (m ∷ ms)) each.0
      ∙ ap (λ t. if t then child_for k (entries_along entries (m ∷ ms)) else child_for k (entries n)) (any_parents (m ∷ ms) each.1 (later_ascend (entries n) (entries_along entries (m ∷ ms)) up))
      ∙ go (list_any (leads_by k) (map (parent_entry entries) (m ∷ ms))) (level_chooses (m ∷ ms) (omega arith) each.1 (later_ascend (entries n) (entries_along entries (m ∷ ms)) up))
    where
      go : (t : Bool) → child_for k (entries_along entries (m ∷ ms)) ≡ child_for k (entries (child_for k (map (parent_entry entries) (m ∷ ms))))
          → (if t then child_for k (entries_along entries (m ∷ ms)) else child_for k (entries n)) ≡ child_for k (entries (if t then child_for k (map (parent_entry entries) (m ∷ ms)) else n))
      go true later = later
      go false later = refl

some_along : (entries : ℕ → List Entry) (ns : List ℕ) → 1 ≤ length ns → AllSome entries ns → 1 ≤ length (entries_along entries ns)
some_along entries [] some each = absurd (omega arith)
some_along entries (n ∷ ns) some each = let long = length-append (entries n) (entries_along entries ns) in let one = each.0 in omega (arith, long, one)

pub some_below : (least : List ℕ) (entries : ℕ → List Entry) (below : List Entry) (levels : List (List ℕ)) (root : ℕ) → AreLevels least entries below levels root → 1 ≤ length below
some_below least entries below [] root leads = let long = ap length leads in omega (arith, long)
some_below least entries below (ns ∷ above) root leads =
    let parents = some_below least entries (map (parent_entry entries) ns) above root leads.2 in
    let same = length_parents entries ns in
    let along = some_along entries ns (omega (arith, parents, same)) leads.1 in
    let long = ap length leads.0 in omega (arith, along, long)

pub descends : DescentFinds
descends least entries below [] root k up leads = sym (ap (child_for k) leads)
descends least entries below (ns ∷ above) root k up leads =
    let ascends : Ascends (entries_along entries ns) = subst Ascends (sym leads.0) up in
    let parents = some_below least entries (map (parent_entry entries) ns) above root leads.2 in
    let same = length_parents entries ns in
    ap (λ n. child_for k (entries n)) (descends least entries (map (parent_entry entries) ns) above root k (parents_ascend entries k ns leads.1 ascends) leads.2)
    ∙ sym (level_chooses entries k ns (omega (arith, parents, same)) leads.1 ascends)
    ∙ ap (child_for k) leads.0
