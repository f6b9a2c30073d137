-- The levels of an index, one after another.
use Rattle.std.proofs.Common.{◌≡◌, ◌<◌, ◌≤◌, ◌+◌, ◌-◌, ℕ, zero, suc, Bool, true, false, List, [], ◌∷◌, ◌++◌, length, map, take, drop, nat_le, if◌then◌else◌, Option, refl, sym, ap, subst, ◌∙◌, length-append, arith}
use Rattle.std.proofs.lemmas.List.{length-map}
use Rattle.file_base.specs.declared.head.FileHead.{FileHead}
use Rattle.load_model.proofs.tree_model.Tests.{fits_test, over_test, tests_fit}
use Rattle.index_blocks.specs.index_model.Indexes.{Entry, first_separator}
use Rattle.load_model.specs.Nodes.{entries_by, grouped, level_over, keys_of, nodes_over, all_nodes}
use Rattle.load_model.proofs.Levels.{shares_few, length_level}
use Rattle.index_blocks.specs.index_bucket.Entries.{sizes_of}
use Rattle.load_pages.specs.load_laws.Pages.{Page, Entries, Adds}
use Rattle.load_pages.specs.load_laws.Keys.{entry_pages, index_pages, every, AllKeys}
use Rattle.file_loads.proofs.LoopLemmas.{entries_drop}
use Rattle.file_loads.proofs.PageLemmas.{adds_none, adds_more}

first_taken : (fan : ℕ) (e : Entry) (es : List Entry) → 1 ≤ fan → first_separator (take fan (e ∷ es)) ≡ e.separator
first_taken zero e es one = absurd (omega (arith, one))
first_taken (suc fan) e es one = refl

-- the keys of the groups of a level are every so many-th
groups_every : (fan more n : ℕ) (ks : List (List ℕ)) → 1 ≤ fan → map first_separator (grouped fan more (entries_by n ks)) ≡ every fan more ks
groups_every fan zero n ks one = refl
groups_every fan (suc more) n [] one = refl
groups_every fan (suc more) n (k ∷ ks) one = λ i.
    first_taken fan (record { separator = k; child = n }) (entries_by (suc n) ks) one i
    ∷ (ap (λ (es : List Entry). map first_separator (grouped fan more es)) (sym (entries_drop n fan (k ∷ ks))) ∙ groups_every fan more (n + fan) (drop fan (k ∷ ks)) one) i

pub level_every : (fan first : ℕ) (keys : List (List ℕ)) → 1 ≤ fan → every fan (length keys) keys ≡ keys_of (level_over fan first keys)
level_every fan first keys one = sym (groups_every fan (length keys) first keys one)

over_tests : (n cap : ℕ) → cap < n → nat_le n cap ≡ false
over_tests n cap over = go (nat_le n cap) refl
  where
    go : (t : Bool) → nat_le n cap ≡ t → t ≡ false
    go true is = absurd (let fits = fits_test n cap is in omega (arith, fits, over))
    go false is = refl

module _ (fan : ℕ) (wide : 3 ≤ fan) where
  -- the next level is over fewer buckets
  up_fewer : (first : ℕ) (keys : List (List ℕ)) → 2 ≤ length keys → suc (length (keys_of (level_over fan first keys))) ≤ length keys
  up_fewer first keys two =
      let up = length-map (level_over fan first keys) first_separator ∙ length_level fan wide first keys (omega (arith, two)) in
      let few = (shares_few fan (length keys) (length keys) wide (omega (arith, two)) (omega arith)).1 in omega (arith, up, few, two)

  abbrev SameNodes : ℕ → ℕ → Type 0
  SameNodes a b = (first : ℕ) (keys : List (List ℕ)) → length keys ≤ a → length keys ≤ b → nodes_over fan a first keys ≡ nodes_over fan b first keys

  none_over : (more first : ℕ) (keys : List (List ℕ)) → length keys ≤ 1 → nodes_over fan more first keys ≡ []
  none_over zero first keys few = refl
  none_over (suc more) first keys few = ap (λ t. if t then [] else level_over fan first keys ∷ nodes_over fan more (first + length keys) (keys_of (level_over fan first keys))) (tests_fit (length keys) 1 few)

  some_over : (more first : ℕ) (keys : List (List ℕ)) → 1 < length keys → nodes_over fan (suc more) first keys ≡ level_over fan first keys ∷ nodes_over fan more (first + length keys) (keys_of (level_over fan first keys))
  some_over more first keys two = ap (λ t. if t then [] else level_over fan first keys ∷ nodes_over fan more (first + length keys) (keys_of (level_over fan first keys))) (over_tests (length keys) 1 two)

  same_nodes : (a b : ℕ) → SameNodes a b
  same_nodes zero b first keys low high = sym (none_over b first keys (omega (arith, low)))
  same_nodes (suc a) zero first keys low high = none_over (suc a) first keys (omega (arith, high))
  same_nodes (suc a) (suc b) first keys low high = go (nat_le (length keys) 1) refl (same_nodes a b)
    where
      level : List (List Entry)
      level = level_over fan first keys

      go : (t : Bool) → nat_le (length keys) 1 ≡ t → SameNodes a b
          → (if t then [] else level ∷ nodes_over fan a (first + length keys) (keys_of level)) ≡ (if t then [] else level ∷ nodes_over fan b (first + length keys) (keys_of level))
      go true is again = refl
      go false is again =
          let two = over_test (length keys) 1 is in
          let less = up_fewer first keys (omega (arith, two)) in
          ap (λ (x : List (List (List Entry))). level ∷ x) (again (first + length keys) (keys_of level) (omega (arith, less, low)) (omega (arith, less, high)))

  -- the index is a level and that over it
  pub nodes_are : (first : ℕ) (keys : List (List ℕ)) → 1 < length keys
      → all_nodes (nodes_over fan (length keys) first keys)
      ≡ level_over fan first keys ++ all_nodes (nodes_over fan (length (keys_of (level_over fan first keys))) (first + length keys) (keys_of (level_over fan first keys)))
  nodes_are first keys two =
      let less = up_fewer first keys (omega (arith, two)) in
      ap (λ n. all_nodes (nodes_over fan n first keys)) (let same : length keys ≡ suc (length keys - 1) = omega (arith, two) in same)
      ∙ ap all_nodes (some_over (length keys - 1) first keys two)
      ∙ ap (λ (x : List (List (List Entry))). level_over fan first keys ++ all_nodes x) (same_nodes (length keys - 1) (length (keys_of (level_over fan first keys))) (first + length keys) (keys_of (level_over fan first keys)) (omega (arith, less)) (omega arith))

  pub nodes_none : (first : ℕ) (keys : List (List ℕ)) → length keys ≤ 1 → all_nodes (nodes_over fan (length keys) first keys) ≡ []
  nodes_none first keys few = ap all_nodes (none_over (length keys) first keys few)

pages_both : (xs ys : List (List Entry)) → entry_pages (xs ++ ys) ≡ entry_pages xs ++ entry_pages ys
pages_both [] ys = refl
pages_both (x ∷ xs) ys = ap (λ (ps : List Page). Entries x ∷ ps) (pages_both xs ys)

pub length_entry_pages : (gs : List (List Entry)) → length (entry_pages gs) ≡ length gs
length_entry_pages [] = refl
length_entry_pages (g ∷ gs) = ap suc (length_entry_pages gs)

-- no index is wanted
pub index_none : (h : FileHead) (first : ℕ) (keys : List (List ℕ)) (told : Option (List (List ℕ))) → 3 ≤ (sizes_of h).fan_out → length keys ≤ 1 → Adds h (first + length keys) (index_pages h first keys) told told
index_none h first keys told wide few = subst (λ (gs : List (List Entry)). Adds h (first + length keys) (entry_pages gs) told told) (sym (nodes_none (sizes_of h).fan_out wide first keys few)) (adds_none h (first + length keys) told)

-- a level was written, and the index over it
pub index_more : (h : FileHead) (first : ℕ) (keys up : List (List ℕ)) (old mid new : Option (List (List ℕ))) → 3 ≤ (sizes_of h).fan_out → 1 < length keys → up ≡ every (sizes_of h).fan_out (length keys) keys
    → Adds h (first + length keys) (entry_pages (level_over (sizes_of h).fan_out first keys)) old mid → Adds h (first + length keys + length up) (index_pages h (first + length keys) up) mid new
    → Adds h (first + length keys) (index_pages h first keys) old new
index_more h first keys up old mid new wide two is first_level above =
    let fan = (sizes_of h).fan_out in
    let level = level_over fan first keys in
    let up_is : up ≡ keys_of level = is ∙ level_every fan first keys (omega (arith, wide)) in
    let long : length up ≡ length (entry_pages level) = ap (λ (ks : List (List ℕ)). length ks) up_is ∙ length-map level first_separator ∙ sym (length_entry_pages level) in
    let rest = all_nodes (nodes_over fan (length (keys_of level)) (first + length keys) (keys_of level)) in
    let next : Adds h (first + length keys + length (entry_pages level)) (entry_pages rest) mid new =
    subst (λ n. Adds h (first + length keys + n) (entry_pages rest) mid new) long (subst (λ (ks : List (List ℕ)). Adds h (first + length keys + length up) (index_pages h (first + length keys) ks) mid new) up_is above) in
    subst (λ (ps : List Page). Adds h (first + length keys) ps old new) (sym (ap entry_pages (nodes_are fan wide first keys two) ∙ pages_both level rest))
    (adds_more h (first + length keys) (entry_pages level) (entry_pages rest) old mid new first_level next)

-- the buckets of the levels are all there
pub index_fits : (h : FileHead) (first : ℕ) (keys up : List (List ℕ)) (all : ℕ) → 3 ≤ (sizes_of h).fan_out → 1 < length keys → up ≡ every (sizes_of h).fan_out (length keys) keys → first + length keys + length (index_pages h first keys) ≤ all
    → (first + length keys + length (level_over (sizes_of h).fan_out first keys) ≤ all) × (first + length keys + length up + length (index_pages h (first + length keys) up) ≤ all)
index_fits h first keys up all wide two is fits =
    let fan = (sizes_of h).fan_out in
    let level = level_over fan first keys in
    let up_is : up ≡ keys_of level = is ∙ level_every fan first keys (omega (arith, wide)) in
    let long : length up ≡ length level = ap (λ (ks : List (List ℕ)). length ks) up_is ∙ length-map level first_separator in
    let rest = all_nodes (nodes_over fan (length (keys_of level)) (first + length keys) (keys_of level)) in
    let total = ap (λ (gs : List (List Entry)). length (entry_pages gs)) (nodes_are fan wide first keys two) ∙ length_entry_pages (level ++ rest) ∙ length-append level rest in
    let later : length (index_pages h (first + length keys) up) ≡ length rest = ap (λ (ks : List (List ℕ)). length (index_pages h (first + length keys) ks)) up_is ∙ length_entry_pages rest in
    (omega (arith, total, fits), omega (arith, total, later, long, fits))

-- kept keys have their size
sized_drop : (size n : ℕ) (xs : List (List ℕ)) → AllKeys size xs → AllKeys size (drop n xs)
sized_drop size zero xs each = each
sized_drop size (suc n) [] each = tt
sized_drop size (suc n) (x ∷ xs) each = sized_drop size n xs each.1

sized_take : (size n : ℕ) (xs : List (List ℕ)) → AllKeys size xs → AllKeys size (take n xs)
sized_take size zero xs each = tt
sized_take size (suc n) [] each = tt
sized_take size (suc n) (x ∷ xs) each = (each.0, sized_take size n xs each.1)

pub sized_part : (size n m : ℕ) (xs : List (List ℕ)) → AllKeys size xs → AllKeys size (take n (drop m xs))
sized_part size n m xs each = sized_take size n (drop m xs) (sized_drop size m xs each)

every_sized : (size step more : ℕ) (ks : List (List ℕ)) → AllKeys size ks → AllKeys size (every step more ks)
every_sized size step zero ks all = tt
every_sized size step (suc more) [] all = tt
every_sized size step (suc more) (k ∷ ks) all = (all.0, every_sized size step more (drop step (k ∷ ks)) (sized_drop size step (k ∷ ks) all))

pub kept_sized : (size step : ℕ) (ks up : List (List ℕ)) → up ≡ every step (length ks) ks → AllKeys size ks → AllKeys size up
kept_sized size step ks up is all = subst (AllKeys size) (sym is) (every_sized size step (length ks) ks all)

pub every_fewer : (fan first : ℕ) (keys up : List (List ℕ)) → 3 ≤ fan → 1 < length keys → up ≡ every fan (length keys) keys → length up < length keys
every_fewer fan first keys up wide two is =
    let less = up_fewer fan wide first keys (omega (arith, two)) in
    let same = ap (λ (ks : List (List ℕ)). length ks) (is ∙ level_every fan first keys (omega (arith, wide))) in omega (arith, less, same)

-- the buckets of an index are those of its lowest level and those of the index over it
pub index_room : (h : FileHead) (first : ℕ) (keys up : List (List ℕ)) → 3 ≤ (sizes_of h).fan_out → 1 < length keys → up ≡ every (sizes_of h).fan_out (length keys) keys
    → length (index_pages h first keys) ≡ length up + length (index_pages h (first + length keys) up)
index_room h first keys up wide two is =
    let fan = (sizes_of h).fan_out in
    let level = level_over fan first keys in
    let rest = all_nodes (nodes_over fan (length (keys_of level)) (first + length keys) (keys_of level)) in
    let up_is : up ≡ keys_of level = is ∙ level_every fan first keys (omega (arith, wide)) in
    let long : length up ≡ length level = ap (λ (ks : List (List ℕ)). length ks) up_is ∙ length-map level first_separator in
    let all : length (index_pages h first keys) ≡ length (level ++ rest) = ap (λ (gs : List (List Entry)). length (entry_pages gs)) (nodes_are fan wide first keys two) ∙ length_entry_pages (level ++ rest) in
    let both = length-append level rest in
    let above : length (index_pages h (first + length keys) up) ≡ length rest = ap (λ (ks : List (List ℕ)). length (index_pages h (first + length keys) ks)) up_is ∙ length_entry_pages rest in
    omega (arith, all, both, long, above)

pub level_fits : (h : FileHead) (first : ℕ) (keys : List (List ℕ)) → 3 ≤ (sizes_of h).fan_out → 1 < length keys → length (level_over (sizes_of h).fan_out first keys) ≤ length (index_pages h first keys)
level_fits h first keys wide two =
    let fan = (sizes_of h).fan_out in
    let level = level_over fan first keys in
    let rest = all_nodes (nodes_over fan (length (keys_of level)) (first + length keys) (keys_of level)) in
    let all : length (index_pages h first keys) ≡ length (level ++ rest) = ap (λ (gs : List (List Entry)). length (entry_pages gs)) (nodes_are fan wide first keys two) ∙ length_entry_pages (level ++ rest) in
    let both = length-append level rest in omega (arith, all, both)

-- the first keys of some that were written over others
kept_front : (k n : ℕ) (ws rest : List (List ℕ)) → k ≤ n → k ≤ length ws → take k (take n (ws ++ rest)) ≡ take k ws
kept_front zero n ws rest low few = refl
kept_front (suc k) zero ws rest low few = absurd (omega (arith, low))
kept_front (suc k) (suc n) [] rest low few = absurd (omega (arith, few))
kept_front (suc k) (suc n) (w ∷ ws) rest low few = ap (λ (ks : List (List ℕ)). w ∷ ks) (kept_front k n ws rest (omega (arith, low)) (omega (arith, few)))

pub kept_up : (fan step kept n : ℕ) (keys was now up rest : List (List ℕ)) → up ≡ take kept (take n (now ++ rest)) → take kept now ≡ every step (length was) was → was ≡ keys → step ≡ fan → kept ≤ n → kept ≤ length now → up ≡ every fan (length keys) keys
kept_up fan step kept n keys was now up rest is every_is was_is step_is low few = is ∙ kept_front kept n now rest low few ∙ every_is ∙ (λ i. every (step_is i) (length (was_is i)) (was_is i))
