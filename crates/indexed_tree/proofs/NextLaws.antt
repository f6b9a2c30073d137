-- The walk from leaf to leaf.
use Rattle.std.proofs.Common.{◌≡◌, ◌≤◌, ◌<◌, ◌+◌, ◌&&◌, ℕ, Bool, true, false, List, [], ◌∷◌, ◌++◌, length, map, Option, Some, None, IfSome, is_some, refl, sym, ap, subst, ◌∙◌, append_assoc, append-nil, arith, length-append}
use Rattle.std.proofs.lemmas.List.{map-append}
use Rattle.std.specs.List.{list_any}
use Rattle.file_base.specs.declared.head.FileHead.{FileHead}
use Rattle.bucket_page.specs.Pages.{no_next}
use Rattle.indexed_file.specs.records_model.Slots.{Slot, bytes_before, AllBefore}
use Rattle.indexed_file.proofs.records_model.SlotLaws.{if_false}
use Rattle.index_blocks.specs.index_model.Indexes.{Entry, leads_by, child_for, Ascends, AllBelow}
use Rattle.index_blocks.specs.index_model.Trees.{child_of}
use Rattle.index_blocks.proofs.index_model.DescentLemmas.{none_above}
use Rattle.index_blocks.proofs.index_model.HandLemmas.{below_parts}
use Rattle.index_blocks.specs.Buckets.{bucket_at}
use Rattle.index_blocks.specs.Levels.{least_key, leaf_entries, leaf_for, AllAre}
use Rattle.indexed_file.specs.Behind.{first_behind, IsFound}
use Rattle.indexed_file.specs.Chain.{slots_in, next_in, first_or, IsLeaf, Leads}
use Rattle.indexed_file.proofs.ChainLaws.{leads_parts}
use Rattle.indexed_file.proofs.NextLaws.{none_here, found_here, not_before}
use Rattle.indexed_tree.specs.Laws.{slots_below}
use Rattle.indexed_tree.specs.Maps.{all_slots, starts_at}
use Rattle.indexed_tree.specs.Rooted.{IsRooted}
use Rattle.indexed_tree.proofs.RootLaws.{length_map, leaves_ascend, first_of_leaves, leaf_found, numbers_used, along-append, entries_some}

abbrev Told : Type 0
Told = Option (List (List ℕ))

-- the walk stands at leaf n, behind so many at least, and no slot of those is behind the key
pub record StandsAt (h : FileHead) (b : List (List ℕ)) (after : Option (List ℕ)) (i n : ℕ) : Type 0 where
  pub before : List Entry
  pub at : Entry
  pub behind : List Entry
  pub entries : leaf_entries h b ≡ before ++ (at ∷ behind)
  pub here : at.child ≡ n
  pub passed : i ≤ length before
  pub tells : first_behind after (all_slots h b) ≡ first_behind after (slots_below h b (at ∷ behind))

lesser_none : (k : List ℕ) (slots : List Slot) → AllBefore k slots → first_behind (Some k) slots ≡ None
lesser_none k [] lower = refl
lesser_none k (s ∷ ss) lower = if_false (bytes_before k s.key && is_some s.value) _ _ (none_both (bytes_before k s.key) (is_some s.value) (not_before s.key k lower.0)) ∙ lesser_none k ss lower.1
  where
    none_both : (x y : Bool) → x ≡ false → (x && y) ≡ false
    none_both true y is = let wrong : ⊥ = cc in absurd wrong
    none_both false y is = refl

-- the leaf for the least key is the first one
least_first : (least : List ℕ) (e : Entry) (es : List Entry) → e.separator ≡ least → Ascends (e ∷ es) → child_for least (e ∷ es) ≡ e.child
least_first least e es is up = if_false (list_any (leads_by least) es) (child_for least es) e.child (subst (λ k. list_any (leads_by k) es ≡ false) is (none_above e.separator es up.0))

starts_first : (h : FileHead) (b : List (List ℕ)) (n : ℕ) (es : List Entry) → leaf_entries h b ≡ es → 1 ≤ length es → Ascends es → IsRooted h b → n ≡ child_for (least_key h) es → StandsAt h b None 0 n
starts_first h b n [] entries some up is at = absurd (omega (arith, some))
starts_first h b n (e ∷ es) entries some up is at = record {
  before = [];
  at = e;
  behind = es;
  entries = entries;
  here = sym (at ∙ least_first (least_key h) e es (first_of_leaves h b is e es entries) up);
  passed = omega arith;
  tells = ap (λ (xs : List Entry). first_behind None (slots_below h b xs)) entries;
}

starts : (h : FileHead) (b : List (List ℕ)) (after : Option (List ℕ)) (n : ℕ) → IsRooted h b → n ≡ starts_at h b after → StandsAt h b after 0 n
starts h b None n is at = starts_first h b n (leaf_entries h b) refl (entries_some h b is) (leaves_ascend h b is) is at
starts h b (Some k) n is at =
    let f = leaf_found h b k is in
    record {
      before = f.before;
      at = f.at;
      behind = f.behind;
      entries = f.is;
      here = sym f.child ∙ sym at;
      passed = omega arith;
      tells = ap (λ (xs : List Entry). first_behind (Some k) (slots_below h b xs)) f.is ∙ ap (first_behind (Some k)) (along-append (slots_in h b) f.before (f.at ∷ f.behind))
          ∙ none_here (Some k) (slots_below h b f.before) (slots_below h b (f.at ∷ f.behind)) (lesser_none k (slots_below h b f.before) f.lower);
    }

pub told_starts : (told : Told) (h : FileHead) (after : Option (List ℕ)) (n : ℕ) → IfSome told (λ b. IsRooted h b → n ≡ starts_at h b after) → IfSome told (λ b. IsRooted h b → StandsAt h b after 0 n)
told_starts None h after n at = tt
told_starts (Some b) h after n at = λ is. starts h b after n is (at is)

-- where the walk stands is a leaf
stands_leaf : (h : FileHead) (b : List (List ℕ)) (after : Option (List ℕ)) (i n : ℕ) → h.root < h.used → IsRooted h b → StandsAt h b after i n → IsLeaf h (bucket_at h b n)
stands_leaf h b after i n root is s = subst (λ m. IsLeaf h (bucket_at h b m)) s.here (middle_is (λ m. IsLeaf h (bucket_at h b m)) s.before s.at s.behind (subst (λ (es : List Entry). AllAre (λ m. IsLeaf h (bucket_at h b m)) (map child_of es)) s.entries is.leaves))
  where
    middle_is : (P : ℕ → Type 0) (a : List Entry) (e : Entry) (c : List Entry) → AllAre P (map child_of (a ++ (e ∷ c))) → P e.child
    middle_is P [] e c all = all.0
    middle_is P (x ∷ xs) e c all = middle_is P xs e c all.1

-- the leaf behind it
leads_on : (h : FileHead) (b : List (List ℕ)) (after : Option (List ℕ)) (i n : ℕ) → IsRooted h b → (s : StandsAt h b after i n) → next_in h b n ≡ first_or (map child_of s.behind) no_next
leads_on h b after i n is s =
    let all : Leads h b (map child_of s.before ++ (s.at.child ∷ map child_of s.behind)) no_next =
    subst (λ (ns : List ℕ). Leads h b ns no_next) (ap (map child_of) s.entries ∙ map-append child_of s.before (s.at ∷ s.behind)) is.chain in
    ap (next_in h b) (sym s.here) ∙ (leads_parts h b (map child_of s.before) (s.at.child ∷ map child_of s.behind) no_next all).1.0

behind_used : (h : FileHead) (b : List (List ℕ)) (before : List Entry) (at : Entry) (behind : List Entry) → h.root < h.used → IsRooted h b → leaf_entries h b ≡ before ++ (at ∷ behind) → AllBelow h.used (map child_of behind)
behind_used h b before at behind root is entries =
    (below_parts h.used (map child_of before) (at.child ∷ map child_of behind) (subst (AllBelow h.used) (ap (map child_of) entries ∙ map-append child_of before (at ∷ behind)) (numbers_used h b root is.index).0)).1.1

steps_on : (h : FileHead) (b : List (List ℕ)) (after : Option (List ℕ)) (i n next : ℕ) (before : List Entry) (at : Entry) (behind : List Entry) → next < h.used → h.used ≤ no_next → leaf_entries h b ≡ before ++ (at ∷ behind) → at.child ≡ n → i ≤ length before
    → first_behind after (all_slots h b) ≡ first_behind after (slots_below h b (at ∷ behind)) → first_behind after (slots_in h b n) ≡ None → next ≡ first_or (map child_of behind) no_next → StandsAt h b after (i + 1) next
steps_on h b after i n next before at [] below most entries here passed tells none leads = absurd (omega (arith, below, most, leads))
steps_on h b after i n next before at (e ∷ es) below most entries here passed tells none leads = record {
  before = before ++ (at ∷ []);
  at = e;
  behind = es;
  entries = entries ∙ sym (append_assoc before (at ∷ []) (e ∷ es));
  here = sym leads;
  passed = (let more = length-append before (at ∷ []) in omega (arith, more, passed));
  tells = tells ∙ none_here after (slots_in h b at.child) (slots_below h b (e ∷ es)) (ap (λ m. first_behind after (slots_in h b m)) here ∙ none);
}

pub told_steps : (told : Told) (h : FileHead) (after : Option (List ℕ)) (i n next : ℕ) → h.root < h.used → next < h.used → h.used ≤ no_next → IfSome told (λ b. IsRooted h b → StandsAt h b after i n)
    → IfSome told (λ b. IsLeaf h (bucket_at h b n) → first_behind after (slots_in h b n) ≡ None) → IfSome told (λ b. next ≡ next_in h b n) → IfSome told (λ b. IsRooted h b → StandsAt h b after (i + 1) next)
told_steps None h after i n next root below most stands none leads = tt
told_steps (Some b) h after i n next root below most stands none leads = λ is.
    let s = stands is in
    steps_on h b after i n next s.before s.at s.behind below most s.entries s.here s.passed s.tells (none (stands_leaf h b after i n root is s)) (leads ∙ leads_on h b after i n is s)

found_as : (a c : Option Slot) (k bytes : List ℕ) → a ≡ c → IsFound c k bytes → IsFound a k bytes
found_as a c k bytes same found = record { slot = found.slot; is = same ∙ found.is; key = found.key; value = found.value }

pub told_found : (told : Told) (h : FileHead) (after : Option (List ℕ)) (i n : ℕ) (k bytes : List ℕ) → h.root < h.used → IfSome told (λ b. IsRooted h b → StandsAt h b after i n)
    → IfSome told (λ b. IsLeaf h (bucket_at h b n) → IsFound (first_behind after (slots_in h b n)) k bytes) → IfSome told (λ b. IsRooted h b → IsFound (first_behind after (all_slots h b)) k bytes)
told_found None h after i n k bytes root stands found = tt
told_found (Some b) h after i n k bytes root stands found = λ is.
    let s = stands is in
    found_as (first_behind after (all_slots h b)) (first_behind after (slots_below h b (s.at ∷ s.behind))) k bytes s.tells
    (found_here after (slots_in h b s.at.child) (slots_below h b s.behind) k bytes (subst (λ m. IsFound (first_behind after (slots_in h b m)) k bytes) (sym s.here) (found (stands_leaf h b after i n root is s))))

ends_here : (h : FileHead) (b : List (List ℕ)) (after : Option (List ℕ)) (next : ℕ) (at : Entry) (behind : List Entry) → h.used ≤ next → AllBelow h.used (map child_of behind) → first_behind after (all_slots h b) ≡ first_behind after (slots_below h b (at ∷ behind))
    → first_behind after (slots_in h b at.child) ≡ None → next ≡ first_or (map child_of behind) no_next → first_behind after (all_slots h b) ≡ None
ends_here h b after next at [] over used tells none leads = tells ∙ ap (first_behind after) (append-nil (slots_in h b at.child)) ∙ none
ends_here h b after next at (e ∷ es) over used tells none leads = absurd (let under = used.0 in omega (arith, over, under, leads))

pub told_ends : (told : Told) (h : FileHead) (after : Option (List ℕ)) (i n next : ℕ) → h.root < h.used → h.used ≤ next → IfSome told (λ b. IsRooted h b → StandsAt h b after i n)
    → IfSome told (λ b. IsLeaf h (bucket_at h b n) → first_behind after (slots_in h b n) ≡ None) → IfSome told (λ b. next ≡ next_in h b n) → IfSome told (λ b. IsRooted h b → first_behind after (all_slots h b) ≡ None)
told_ends None h after i n next root over stands none leads = tt
told_ends (Some b) h after i n next root over stands none leads = λ is.
    let s = stands is in
    ends_here h b after next s.at s.behind over (behind_used h b s.before s.at s.behind root is s.entries) s.tells (ap (λ m. first_behind after (slots_in h b m)) s.here ∙ none (stands_leaf h b after i n root is s)) (leads ∙ leads_on h b after i n is s)

-- no more leaves are passed than there are
pub told_over : (told : Told) (h : FileHead) (after : Option (List ℕ)) (i n : ℕ) (P : List (List ℕ) → Type 0) → h.used ≤ i → IfSome told (λ b. IsRooted h b → StandsAt h b after i n) → IfSome told (λ b. IsRooted h b → P b)
told_over None h after i n P over stands = tt
told_over (Some b) h after i n P over stands = λ is.
    let s = stands is in
    let many = length-append s.before (s.at ∷ s.behind) in
    let all = ap length s.entries in
    let reached = is.reached in
    let numbers = length_map child_of (leaf_entries h b) in
    let passed = s.passed in
    absurd (omega (arith, over, passed, many, all, reached, numbers))

-- where the walk begins
pub start_none : (told : Told) (h : FileHead) (after : Option (List ℕ)) (key : List ℕ) (n : ℕ) → after ≡ None → key ≡ least_key h → IfSome told (λ b. IsRooted h b → n ≡ leaf_for h b key) → IfSome told (λ b. IsRooted h b → n ≡ starts_at h b after)
start_none None h after key n none least at = tt
start_none (Some b) h after key n none least at = λ is. at is ∙ ap (leaf_for h b) least ∙ ap (starts_at h b) (sym none)

pub start_some : (told : Told) (h : FileHead) (after : Option (List ℕ)) (key : List ℕ) (n : ℕ) → after ≡ Some key → IfSome told (λ b. IsRooted h b → n ≡ leaf_for h b key) → IfSome told (λ b. IsRooted h b → n ≡ starts_at h b after)
start_some None h after key n some at = tt
start_some (Some b) h after key n some at = λ is. at is ∙ ap (starts_at h b) (sym some)
