-- Buckets that are written one after another.
use Rattle.std.proofs.Common.{◌≡◌, ◌<◌, ◌≤◌, ◌+◌, ◌-◌, ◌*◌, ℕ, zero, suc, Bool, true, false, List, [], ◌∷◌, ◌++◌, length, take, drop, min, nat_lt, Option, Some, None, refl, sym, ap, subst, ◌∙◌, append-nil, append_assoc, length-append, length-drop, arith}
use Rattle.std.proofs.lemmas.Bool.Decides.{nat_tests}
use Rattle.file_base.specs.declared.head.FileHead.{FileHead}
use Rattle.bucket_page.specs.declared.kind.PageKind.{PageKind}
use Rattle.index_blocks.specs.index_model.Indexes.{Entry}
use Rattle.load_model.specs.Nodes.{entries_by, grouped}
use Rattle.load_pages.specs.relative_file.Cells.{cells_in}
use Rattle.load_pages.specs.load_laws.Records.{Keyed}
use Rattle.load_pages.specs.load_laws.Pages.{Page, Slots, Entries, Cells, StandTold, Adds}
use Rattle.load_pages.specs.load_laws.Chains.{packed, parts_of, next_for, chain_pages}
use Rattle.load_pages.specs.load_laws.Cells.{values_behind, cell_pages}
use Rattle.load_pages.specs.load_laws.Keys.{entry_pages}
use Rattle.load_pages.proofs.load_laws.ChainLemmas.{packed_some}
use Rattle.load_pages.proofs.load_laws.CellLemmas.{length_cell_pages}
use Rattle.file_loads.proofs.PageLemmas.{adds_more}

-- A chain.

-- the first buckets of a chain stand, n of them, with the slots before one
pub record ChainTo (h : FileHead) (kind : PageKind) (cap : ℕ) (raws : List (List ℕ)) (n at : ℕ) (told : Option (List (List ℕ))) : Type 0 where
  pub pages : List Page
  pub count : length pages ≡ n
  pub rest : chain_pages kind 0 (packed cap [] raws) ≡ pages ++ chain_pages kind n (parts_of cap (drop at raws))
  pub stand : StandTold h told pages
  pub parts : length (packed cap [] raws) ≡ n + length (parts_of cap (drop at raws))

lt_yes : (a b : ℕ) → a < b → nat_lt a b ≡ true
lt_yes a b less = grind (arith, nat_tests)

lt_no : (a b : ℕ) → b ≤ a → nat_lt a b ≡ false
lt_no a b most = grind (arith, nat_tests)

some_left : (cap : ℕ) (raws : List (List ℕ)) → 1 ≤ length raws → 1 ≤ length (parts_of cap raws)
some_left cap [] some = absurd (omega (arith, some))
some_left cap (s ∷ ss) some = packed_some cap [] (s ∷ ss)

none_left : (cap : ℕ) (raws : List (List ℕ)) → length raws ≡ 0 → parts_of cap raws ≡ []
none_left cap [] none = refl
none_left cap (s ∷ ss) none = absurd (omega (arith, none))

parts_are : (cap : ℕ) (raws : List (List ℕ)) → 1 ≤ length raws → parts_of cap raws ≡ packed cap [] raws
parts_are cap [] some = absurd (omega (arith, some))
parts_are cap (s ∷ ss) some = refl

-- some bucket follows exactly where some slot is left
left_test : (cap : ℕ) (raws : List (List ℕ)) (to : ℕ) → to ≤ length raws → nat_lt 0 (length (parts_of cap (drop to raws))) ≡ nat_lt to (length raws)
left_test cap raws to most = go (nat_lt to (length raws)) refl
  where
    rest : length (drop to raws) ≡ length raws - to
    rest = length-drop to raws

    below : nat_lt to (length raws) ≡ true → to < length raws
    below is = grind (arith, nat_tests)

    above : nat_lt to (length raws) ≡ false → length raws ≤ to
    above is = grind (arith, nat_tests)

    go : (t : Bool) → nat_lt to (length raws) ≡ t → nat_lt 0 (length (parts_of cap (drop to raws))) ≡ t
    go true is = let less = below is in lt_yes 0 (length (parts_of cap (drop to raws))) (some_left cap (drop to raws) (omega (arith, rest, less)))
    go false is = let more = above is in ap (λ (ps : List (List (List ℕ))). nat_lt 0 (length ps)) (none_left cap (drop to raws) (omega (arith, rest, more)))

pub chain_first : (h : FileHead) (kind : PageKind) (cap : ℕ) (raws : List (List ℕ)) (to : ℕ) (chunk : List (List ℕ)) (old new : Option (List (List ℕ))) → to ≤ length raws → packed cap [] raws ≡ chunk ∷ parts_of cap (drop to raws)
    → Adds h 0 (Slots kind chunk (next_for kind (nat_lt to (length raws)) 0) ∷ []) old new → StandTold h old [] → ChainTo h kind cap raws 1 to new
chain_first h kind cap raws to chunk old new most is adds start = record {
  pages = Slots kind chunk (next_for kind (nat_lt to (length raws)) 0) ∷ [];
  count = refl;
  rest = ap (chain_pages kind 0) is ∙ ap (λ t. Slots kind chunk (next_for kind t 0) ∷ chain_pages kind 1 (parts_of cap (drop to raws))) (left_test cap raws to most);
  stand = adds [] refl start;
  parts = ap (λ (ps : List (List (List ℕ))). length ps) is ∙ omega arith;
}

pub chain_more : (h : FileHead) (kind : PageKind) (cap : ℕ) (raws : List (List ℕ)) (n at to : ℕ) (chunk : List (List ℕ)) (old new : Option (List (List ℕ))) → at < length raws → to ≤ length raws
    → packed cap [] (drop at raws) ≡ chunk ∷ parts_of cap (drop to raws) → Adds h n (Slots kind chunk (next_for kind (nat_lt to (length raws)) n) ∷ []) old new → ChainTo h kind cap raws n at old → ChainTo h kind cap raws (n + 1) to new
chain_more h kind cap raws n at to chunk old new some most is adds before =
    let left = length-drop at raws in
    let page : Page = Slots kind chunk (next_for kind (nat_lt to (length raws)) n) in
    let here : parts_of cap (drop at raws) ≡ chunk ∷ parts_of cap (drop to raws) = parts_are cap (drop at raws) (omega (arith, left, some)) ∙ is in
    let one : suc n ≡ n + 1 = omega arith in
    record {
      pages = before.pages ++ page ∷ [];
      count = length-append before.pages (page ∷ []) ∙ ap (λ m. m + 1) before.count;
      rest = before.rest
          ∙ ap (λ (ps : List (List (List ℕ))). before.pages ++ chain_pages kind n ps) here
          ∙ ap (λ t. before.pages ++ (Slots kind chunk (next_for kind t n) ∷ chain_pages kind (suc n) (parts_of cap (drop to raws)))) (left_test cap raws to most)
          ∙ ap (λ m. before.pages ++ (page ∷ chain_pages kind m (parts_of cap (drop to raws)))) one
          ∙ sym (append_assoc before.pages (page ∷ []) (chain_pages kind (n + 1) (parts_of cap (drop to raws))));
      stand = adds before.pages before.count before.stand;
      parts = let all = before.parts in let long = ap (λ (ps : List (List (List ℕ))). length ps) here in omega (arith, all, long);
    }

-- where no slot is left all of it stands
pub record ChainDone (h : FileHead) (kind : PageKind) (cap : ℕ) (raws : List (List ℕ)) (n : ℕ) (told : Option (List (List ℕ))) : Type 0 where
  pub count : n ≡ length (packed cap [] raws)
  pub stand : StandTold h told (chain_pages kind 0 (packed cap [] raws))

pub chain_done : (h : FileHead) (kind : PageKind) (cap : ℕ) (raws : List (List ℕ)) (n at : ℕ) (told : Option (List (List ℕ))) → length raws ≤ at → ChainTo h kind cap raws n at told → ChainDone h kind cap raws n told
chain_done h kind cap raws n at told most to =
    let left = length-drop at raws in
    let none = none_left cap (drop at raws) (omega (arith, left, most)) in
    record {
      count = let all = to.parts in let long = ap (λ (ps : List (List (List ℕ))). length ps) none in omega (arith, all, long);
      stand = subst (λ (ps : List Page). StandTold h told ps) (sym (to.rest ∙ ap (λ (ps : List (List (List ℕ))). to.pages ++ chain_pages kind n ps) none ∙ append-nil to.pages)) to.stand;
    }

-- some bucket more is wanted while some slot is left
pub chain_room : (h : FileHead) (kind : PageKind) (cap : ℕ) (raws : List (List ℕ)) (n at : ℕ) (told : Option (List (List ℕ))) → at < length raws → ChainTo h kind cap raws n at told → n < length (packed cap [] raws)
chain_room h kind cap raws n at told some to =
    let left = length-drop at raws in
    let more = some_left cap (drop at raws) (omega (arith, left, some)) in
    let all = to.parts in omega (arith, all, more)

-- Cells.

pub cell_pages_more : (h : FileHead) (es : List Keyed) (n count : ℕ) → cell_pages h es n (count + 1) ≡ cell_pages h es n count ++ Cells (values_behind es ((n + count) * cells_in h)) ∷ []
cell_pages_more h es n zero = λ i. Cells (values_behind es ((let same : n ≡ n + 0 = omega arith in same i) * cells_in h)) ∷ []
cell_pages_more h es n (suc count) =
    ap (cell_pages h es n) (let one : suc count + 1 ≡ suc (count + 1) = omega arith in one)
    ∙ ap (λ (ps : List Page). Cells (values_behind es (n * cells_in h)) ∷ ps) (cell_pages_more h es (suc n) count)
    ∙ ap (λ m. Cells (values_behind es (n * cells_in h)) ∷ (cell_pages h es (suc n) count ++ Cells (values_behind es (m * cells_in h)) ∷ [])) (let same : suc n + count ≡ n + suc count = omega arith in same)

pub cells_more : (h : FileHead) (es : List Keyed) (i : ℕ) (old new : Option (List (List ℕ))) → StandTold h old (cell_pages h es 0 i) → Adds h i (Cells (values_behind es (i * cells_in h)) ∷ []) old new → StandTold h new (cell_pages h es 0 (i + 1))
cells_more h es i old new stand adds =
    subst (λ (ps : List Page). StandTold h new ps) (sym (cell_pages_more h es 0 i ∙ ap (λ m. cell_pages h es 0 i ++ Cells (values_behind es (m * cells_in h)) ∷ []) (let same : 0 + i ≡ i = omega arith in same)))
    (adds (cell_pages h es 0 i) (length_cell_pages h es 0 i) stand)

-- Levels of an index.

pub entries_drop : (n i : ℕ) (ks : List (List ℕ)) → entries_by (n + i) (drop i ks) ≡ drop i (entries_by n ks)
entries_drop n zero ks = ap (λ m. entries_by m ks) (let same : n + 0 ≡ n = omega arith in same)
entries_drop n (suc i) [] = refl
entries_drop n (suc i) (k ∷ ks) = ap (λ m. entries_by m (drop i ks)) (let same : n + suc i ≡ suc n + i = omega arith in same) ∙ entries_drop (suc n) i ks

pub entries_take : (n i : ℕ) (ks : List (List ℕ)) → entries_by n (take i ks) ≡ take i (entries_by n ks)
entries_take n zero ks = refl
entries_take n (suc i) [] = refl
entries_take n (suc i) (k ∷ ks) = ap (λ (es : List Entry). record { separator = k; child = n } ∷ es) (entries_take (suc n) i ks)

-- the first groups of a level stand, with the entries before one
pub record LevelTo (h : FileHead) (fan first : ℕ) (keys : List (List ℕ)) (n at : ℕ) (old new : Option (List (List ℕ))) : Type 0 where
  pub groups : List (List Entry)
  pub count : first + length keys + length groups ≡ n
  pub few : length groups ≤ at
  pub rest : grouped fan (length keys) (entries_by first keys) ≡ groups ++ grouped fan (length keys - length groups) (drop at (entries_by first keys))
  pub adds : Adds h (first + length keys) (entry_pages groups) old new

group_first : (fan more : ℕ) (es : List Entry) → 1 ≤ length es → 1 ≤ more → grouped fan more es ≡ take fan es ∷ grouped fan (more - 1) (drop fan es)
group_first fan zero es some least = absurd (omega (arith, least))
group_first fan (suc more) [] some least = absurd (omega (arith, some))
group_first fan (suc more) (e ∷ es) some least = ap (λ m. take fan (e ∷ es) ∷ grouped fan m (drop fan (e ∷ es))) (let same : more ≡ suc more - 1 = omega arith in same)

group_none : (fan more : ℕ) (es : List Entry) → length es ≡ 0 → grouped fan more es ≡ []
group_none fan zero es none = refl
group_none fan (suc more) [] none = refl
group_none fan (suc more) (e ∷ es) none = absurd (omega (arith, none))

take_nil : (m : ℕ) → take m (let none : List Entry = [] in none) ≡ []
take_nil zero = refl
take_nil (suc m) = refl

drop_nil : (m : ℕ) → drop m (let none : List Entry = [] in none) ≡ []
drop_nil zero = refl
drop_nil (suc m) = refl

take_min : (fan : ℕ) (es : List Entry) → take (min fan (length es)) es ≡ take fan es
take_min zero es = ap (λ m. take m es) (let same : min 0 (length es) ≡ 0 = omega arith in same)
take_min (suc fan) [] = take_nil (min (suc fan) 0)
take_min (suc fan) (e ∷ es) = ap (λ m. take m (e ∷ es)) (let same : min (suc fan) (suc (length es)) ≡ suc (min fan (length es)) = omega arith in same) ∙ ap (λ (x : List Entry). e ∷ x) (take_min fan es)

drop_min : (fan : ℕ) (es : List Entry) → drop (min fan (length es)) es ≡ drop fan es
drop_min zero es = ap (λ m. drop m es) (let same : min 0 (length es) ≡ 0 = omega arith in same)
drop_min (suc fan) [] = drop_nil (min (suc fan) 0) ∙ sym (drop_nil (suc fan))
drop_min (suc fan) (e ∷ es) = ap (λ m. drop m (e ∷ es)) (let same : min (suc fan) (suc (length es)) ≡ suc (min fan (length es)) = omega arith in same) ∙ drop_min fan es

length_entries : (m : ℕ) (ks : List (List ℕ)) → length (entries_by m ks) ≡ length ks
length_entries m [] = refl
length_entries m (k ∷ ks) = ap suc (length_entries (suc m) ks)

dropped : (i j : ℕ) (es : List Entry) → drop j (drop i es) ≡ drop (i + j) es
dropped zero j es = ap (λ m. drop m es) (let same : j ≡ 0 + j = omega arith in same)
dropped (suc i) j [] = drop_nil j ∙ sym (drop_nil (suc i + j))
dropped (suc i) j (e ∷ es) = dropped i j es ∙ ap (λ m. drop m (e ∷ es)) (let same : suc (i + j) ≡ suc i + j = omega arith in same)

length_pages : (gs : List (List Entry)) → length (entry_pages gs) ≡ length gs
length_pages [] = refl
length_pages (g ∷ gs) = ap suc (length_pages gs)

pages_both : (gs : List (List Entry)) (g : List Entry) → entry_pages (gs ++ g ∷ []) ≡ entry_pages gs ++ entry_pages (g ∷ [])
pages_both [] g = refl
pages_both (x ∷ xs) g = ap (λ (ps : List Page). Entries x ∷ ps) (pages_both xs g)

pub level_none : (h : FileHead) (fan first : ℕ) (keys : List (List ℕ)) (told : Option (List (List ℕ))) → Adds h (first + length keys) [] told told → LevelTo h fan first keys (first + length keys) 0 told told
level_none h fan first keys told adds = record { groups = []; count = omega arith; few = omega arith; rest = ap (λ m. grouped fan m (entries_by first keys)) (let same : length keys ≡ length keys - 0 = omega arith in same); adds = adds }

pub level_more : (h : FileHead) (fan first : ℕ) (keys : List (List ℕ)) (n at count : ℕ) (old mid new : Option (List (List ℕ))) → at < length keys → 1 ≤ fan → count ≡ min fan (length keys - at)
    → Adds h n (entry_pages (entries_by (first + at) (take count (drop at keys)) ∷ [])) mid new → LevelTo h fan first keys n at old mid → LevelTo h fan first keys (n + 1) (at + count) old new
level_more h fan first keys n at count old mid new some least is adds before =
    let es = entries_by first keys in
    let long : length es ≡ length keys = length_entries first keys in
    let left : length (drop at es) ≡ length keys - at = length-drop at es ∙ ap (λ m. m - at) long in
    let few = before.few in
    let total = before.count in
    let count_is : count ≡ min fan (length (drop at es)) = is ∙ ap (min fan) (sym left) in
    let group : List Entry = entries_by (first + at) (take count (drop at keys)) in
    let group_is : take fan (drop at es) ≡ group = sym (take_min fan (drop at es)) ∙ ap (λ m. take m (drop at es)) (sym count_is) ∙ sym (entries_take (first + at) count (drop at keys) ∙ ap (take count) (entries_drop first at keys)) in
    let rest_is : drop fan (drop at es) ≡ drop (at + count) es = sym (drop_min fan (drop at es)) ∙ ap (λ m. drop m (drop at es)) (sym count_is) ∙ dropped at count es in
    record {
      groups = before.groups ++ group ∷ [];
      count = let more = length-append before.groups (group ∷ []) in omega (arith, more, total);
      few = let more = length-append before.groups (group ∷ []) in omega (arith, more, few, is, least, some);
      rest = before.rest
          ∙ ap (λ (gs : List (List Entry)). before.groups ++ gs) (group_first fan (length keys - length before.groups) (drop at es) (omega (arith, left, some)) (omega (arith, few, some)))
          ∙ (λ i. before.groups ++ (group_is i ∷ grouped fan (length keys - length before.groups - 1) (rest_is i)))
          ∙ ap (λ m. before.groups ++ (group ∷ grouped fan m (drop (at + count) es))) (let more = length-append before.groups (group ∷ []) in let same : length keys - length before.groups - 1 ≡ length keys - length (before.groups ++ group ∷ []) = omega (arith, more) in same)
          ∙ sym (append_assoc before.groups (group ∷ []) (grouped fan (length keys - length (before.groups ++ group ∷ [])) (drop (at + count) es)));
      adds = subst (λ (ps : List Page). Adds h (first + length keys) ps old new) (sym (pages_both before.groups group))
          (adds_more h (first + length keys) (entry_pages before.groups) (entry_pages (group ∷ [])) old mid new before.adds (subst (λ m. Adds h m (entry_pages (group ∷ [])) mid new) (let same = length_pages before.groups in let at_n : n ≡ first + length keys + length (entry_pages before.groups) = omega (arith, same, total) in at_n) adds));
    }

-- some bucket more is wanted while some entry is left
pub level_room : (h : FileHead) (fan first : ℕ) (keys : List (List ℕ)) (n at : ℕ) (old new : Option (List (List ℕ))) → at < length keys → LevelTo h fan first keys n at old new → n < first + length keys + length (grouped fan (length keys) (entries_by first keys))
level_room h fan first keys n at old new some to =
    let es = entries_by first keys in
    let long = length_entries first keys in
    let left = length-drop at es in
    let few = to.few in
    let count = to.count in
    let more = length keys - length to.groups in
    let all = ap (λ (gs : List (List Entry)). length gs) (to.rest ∙ ap (λ (gs : List (List Entry)). to.groups ++ gs) (group_first fan more (drop at es) (omega (arith, left, long, some)) (omega (arith, few, some)))) in
    let both = length-append to.groups (take fan (drop at es) ∷ grouped fan (more - 1) (drop fan (drop at es))) in omega (arith, all, both, count)

pub level_done : (h : FileHead) (fan first : ℕ) (keys : List (List ℕ)) (n at : ℕ) (old new : Option (List (List ℕ))) → length keys ≤ at → LevelTo h fan first keys n at old new
    → Adds h (first + length keys) (entry_pages (grouped fan (length keys) (entries_by first keys))) old new
level_done h fan first keys n at old new most to =
    let long = length_entries first keys in
    let left = length-drop at (entries_by first keys) in
    subst (λ (gs : List (List Entry)). Adds h (first + length keys) (entry_pages gs) old new)
    (sym (to.rest ∙ ap (λ (gs : List (List Entry)). to.groups ++ gs) (group_none fan (length keys - length to.groups) (drop at (entries_by first keys)) (omega (arith, left, long, most))) ∙ append-nil to.groups)) to.adds

pub stand_none : (h : FileHead) (told : Option (List (List ℕ))) → StandTold h told []
stand_none h None = tt
stand_none h (Some b) = tt
