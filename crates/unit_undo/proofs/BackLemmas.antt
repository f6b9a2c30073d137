-- Keys of a relative or indexed file are set back one after another.
use Rattle.std.proofs.Common.{◌≡◌, ℕ, ◌≤◌, Bool, true, false, cond, ◌||◌, List, [], ◌∷◌, map, Option, refl, sym, ◌∙◌, ap, subst, inl, inr, arith}
use Rattle.std.specs.Prelude.{max}
use Rattle.std.specs.List.{AllByRecursion}
use Rattle.file_base.specs.declared.head.FileHead.{FileHead}
use Rattle.vms_model.specs.Keys.{Key, Number, Text, End}
use Rattle.records_model.specs.Records.{Change}
use Rattle.records_model.specs.Slots.{Slot, same_bytes, size_of, with_value}
use Rattle.records_model.specs.Chain as chain
use Rattle.unit_entries.specs.tree_model.Layouts.{Leaf, Layout}
use Rattle.unit_entries.specs.tree_model.Setting as setting
use Rattle.records_model.specs.History.{changes_key}
use Rattle.records_model.proofs.RecordsLemmas as records
use Rattle.records_model.proofs.SlotLaws.{same_bytes_are}
use Rattle.unit_entries.specs.change_set.Files.{SameFile}
use Rattle.unit_entries.specs.change_set.Maps.{same_key, set_key}
use Rattle.directory_model.specs.record_files.Any as any
use Rattle.directory_model.specs.record_files.Any.{map_of, layout_of, room_at, IsLaidOut}
use Rattle.unit_entries.specs.unit_laws.Units.{earliest_before, with_before_images}
use Rattle.unit_entries.specs.unit_laws.Layouts.{slot_restored, layout_restored}
use Rattle.unit_entries.proofs.unit_laws.Tests.{never, or_either}
use Rattle.unit_undo.specs.Steps.{has_key, slot_back, slots_back, AreSetBack}
use Rattle.unit_entries.proofs.KeyLemmas.{itself}

pub same_through : (h mid new : FileHead) → SameFile h mid → SameFile mid new → SameFile h new
same_through h mid new first second = record { is = second.is ∙ ap (λ (x : FileHead). record x { used = new.used; root = new.root; levels = new.levels; count = new.count }) first.is }

-- two lists of slots that are treated alike slot by slot
pub map_alike : (f g : Slot → Slot) → ((s : Slot) → f s ≡ g s) → (ss : List Slot) → map f ss ≡ map g ss
map_alike f g same [] = refl
map_alike f g same (s ∷ ss) = ap (λ (x : Slot). x ∷ map f ss) (same s) ∙ ap (λ (xs : List Slot). g s ∷ xs) (map_alike f g same ss)

-- so leaves, slot by slot
abbrev over : (Slot → Slot) → Leaf → Leaf
over f b = record b { slots = map f b.slots }

leaves_alike : (f g : Slot → Slot) → ((s : Slot) → f s ≡ g s) → (bs : List Leaf) → map (over f) bs ≡ map (over g) bs
leaves_alike f g same [] = refl
leaves_alike f g same (b ∷ bs) = λ i. record { lowest = b.lowest; slots = map_alike f g same b.slots i } ∷ leaves_alike f g same bs i

map_twice : (f g : Slot → Slot) (ss : List Slot) → map f (map g ss) ≡ map (λ s. f (g s)) ss
map_twice f g [] = refl
map_twice f g (s ∷ ss) = ap (λ (xs : List Slot). f (g s) ∷ xs) (map_twice f g ss)

leaves_twice : (f g : Slot → Slot) (bs : List Leaf) → map (over f) (map (over g) bs) ≡ map (over (λ s. f (g s))) bs
leaves_twice f g [] = refl
leaves_twice f g (b ∷ bs) = λ i. record { lowest = b.lowest; slots = map_twice f g b.slots i } ∷ leaves_twice f g bs i

map_nothing : (ss : List Slot) → map (λ (s : Slot). s) ss ≡ ss
map_nothing [] = refl
map_nothing (s ∷ ss) = ap (λ (xs : List Slot). s ∷ xs) (map_nothing ss)

leaves_nothing : (bs : List Leaf) → map (over (λ (s : Slot). s)) bs ≡ bs
leaves_nothing [] = refl
leaves_nothing (b ∷ bs) = λ i. record { lowest = b.lowest; slots = map_nothing b.slots i } ∷ leaves_nothing bs i

-- where no key is set back, a layout is as it was
pub layout_nothing : (cs : List Change) (l : Layout) → slots_back cs [] l ≡ l
layout_nothing cs l = λ i. record { leaves = leaves_nothing l.leaves i; index = l.index }

-- the bytes of two keys are the same where the keys are
same_turned : (k t : List ℕ) → (b : Bool) → same_bytes k t ≡ b → same_key (Text t) (Text k) ≡ b
same_turned k t true same = subst (λ (x : List ℕ). same_key (Text x) (Text k) ≡ true) (same_bytes_are k t same) (itself (Text k))
same_turned k t false other = go (same_key (Text t) (Text k)) refl
  where
    go : (b : Bool) → same_key (Text t) (Text k) ≡ b → b ≡ false
    go true same = absurd (never (same_bytes k t) (let is = records.same_key (Text t) (Text k) same in ap (λ (x : Key). same_key (Text k) x) is ∙ itself (Text k)) other)
    go false is = refl

-- a value that is set twice
value_twice : (v : Option (List ℕ)) (s : Slot) → with_value v (with_value v s) ≡ with_value v s
value_twice v s = let same : max (max s.room (size_of v)) (size_of v) ≡ max s.room (size_of v) = omega arith in ap (λ (n : ℕ). record s { room = n; value = v }) same

-- one key more
slot_more : (cs : List Change) (keys : List Key) (k : List ℕ) (v : Option (List ℕ)) → v ≡ earliest_before cs (Text k) → (s : Slot) → chain.slot_back k v (slot_back cs keys s) ≡ slot_back cs (Text k ∷ keys) s
slot_more cs keys k v is s = step (same_bytes k s.key) (has_key (Text s.key) keys) refl refl
  where
    kept : (b : Bool) → (cond b (with_value (earliest_before cs (Text s.key)) s) s).key ≡ s.key
    kept true = refl
    kept false = refl

    set : (b : Bool) → same_bytes k s.key ≡ true → with_value v (cond b (with_value (earliest_before cs (Text s.key)) s) s) ≡ with_value (earliest_before cs (Text s.key)) s
    set true same = ap (λ x. with_value x (with_value (earliest_before cs (Text s.key)) s)) (is ∙ ap (λ (x : List ℕ). earliest_before cs (Text x)) (same_bytes_are k s.key same)) ∙ value_twice (earliest_before cs (Text s.key)) s
    set false same = ap (λ x. with_value x s) (is ∙ ap (λ (x : List ℕ). earliest_before cs (Text x)) (same_bytes_are k s.key same))

    step : (x y : Bool) → same_bytes k s.key ≡ x → has_key (Text s.key) keys ≡ y
        → chain.slot_back k v (slot_back cs keys s) ≡ slot_back cs (Text k ∷ keys) s
    step true y same is_in =
        ap (λ (b : Bool). cond b (with_value v (slot_back cs keys s)) (slot_back cs keys s)) (ap (same_bytes k) (kept (has_key (Text s.key) keys)) ∙ same)
        ∙ set (has_key (Text s.key) keys) same
        ∙ ap (λ (b : Bool). cond (b || has_key (Text s.key) keys) (with_value (earliest_before cs (Text s.key)) s) s) (sym (same_turned k s.key true same))
    step false y other is_in =
        ap (λ (b : Bool). cond b (with_value v (slot_back cs keys s)) (slot_back cs keys s)) (ap (same_bytes k) (kept (has_key (Text s.key) keys)) ∙ other)
        ∙ ap (λ (b : Bool). cond (b || has_key (Text s.key) keys) (with_value (earliest_before cs (Text s.key)) s) s) (sym (same_turned k s.key false other))

layout_more : (cs : List Change) (keys : List Key) (key : Key) (v : Option (List ℕ)) (l : Layout) → v ≡ earliest_before cs key → setting.layout_back key v (slots_back cs keys l) ≡ slots_back cs (key ∷ keys) l
layout_more cs keys (Text k) v l is = λ i. record { leaves = leaves i; index = l.index }
  where
    leaves : map (over (chain.slot_back k v)) (map (over (slot_back cs keys)) l.leaves) ≡ map (over (slot_back cs (Text k ∷ keys))) l.leaves
    leaves = leaves_twice (chain.slot_back k v) (slot_back cs keys) l.leaves ∙ leaves_alike (λ s. chain.slot_back k v (slot_back cs keys s)) (slot_back cs (Text k ∷ keys)) (slot_more cs keys k v is) l.leaves
layout_more cs keys (Number n) v l is = refl
layout_more cs keys End v l is = refl

pub one_back : (a b c : List (List ℕ)) (h mid new : FileHead) (cs : List Change) (keys : List Key) (key : Key) (v : Option (List ℕ)) → AreSetBack a h cs keys b mid → v ≡ earliest_before cs key → changes_key key cs ≡ true
    → SameFile mid new → any.IsFile new → IsLaidOut new c → map_of new c ≡ set_key key v (map_of mid b) → layout_of new c ≡ setting.layout_back key v (layout_of mid b) → ((other : Key) → room_at mid b other ≤ room_at new c other)
    → AreSetBack a h cs (key ∷ keys) c new
one_back a b c h mid new cs keys key v t is changed same form laid maps layouts rooms = record {
  same = same_through h mid new t.same same;
  form = form;
  laid = laid;
  map = at;
  layout = layouts ∙ ap (setting.layout_back key v) t.layout ∙ layout_more cs keys key v (layout_of h a) is;
  rooms = λ other. let first = t.rooms other in let second = rooms other in omega (arith, first, second);
  own = (changed, t.own);
}
  where
    at : (other : Key) → map_of new c other ≡ cond (same_key other key || has_key other keys) (earliest_before cs other) (map_of h a other)
    at other = ap (λ m. m other) maps ∙ step (same_key other key) refl
      where
        step : (x : Bool) → same_key other key ≡ x → cond x v (map_of mid b other) ≡ cond (x || has_key other keys) (earliest_before cs other) (map_of h a other)
        step true same = is ∙ ap (earliest_before cs) (sym (records.same_key other key same))
        step false not = t.map other

-- all keys that are changed
pub owned : (cs : List Change) (keys : List Key) (key : Key) → AllByRecursion (λ k. changes_key k cs ≡ true) keys → has_key key keys ≡ true → changes_key key cs ≡ true
owned cs [] key own is_in = absurd cc
owned cs (k ∷ keys) key own is_in = elim (or_either (same_key key k) (has_key key keys) is_in) [
  | inl same ↦ subst (λ (x : Key). changes_key x cs ≡ true) (sym (records.same_key key k same)) own.0
  | inr later ↦ owned cs keys key own.1 later
]

pub as_changed : (cs : List Change) (keys : List Key) → AllByRecursion (λ k. changes_key k cs ≡ true) keys → ((key : Key) → changes_key key cs ≡ true → has_key key keys ≡ true) → (key : Key) → has_key key keys ≡ changes_key key cs
as_changed cs keys own all key = go (has_key key keys) (changes_key key cs) refl refl
  where
    go : (x y : Bool) → has_key key keys ≡ x → changes_key key cs ≡ y → x ≡ y
    go true true p q = refl
    go true false p q = absurd (never (changes_key key cs) (owned cs keys key own p) q)
    go false true p q = absurd (never (has_key key keys) (all key q) p)
    go false false p q = refl

module _ (a b : List (List ℕ)) (h new : FileHead) (cs : List Change) (keys : List Key) (t : AreSetBack a h cs keys b new) (all : (key : Key) → changes_key key cs ≡ true → has_key key keys ≡ true) where
  pub map_back : map_of new b ≡ with_before_images cs (map_of h a)
  map_back = λ i key. (t.map key ∙ ap (λ (x : Bool). cond x (earliest_before cs key) (map_of h a key)) (as_changed cs keys t.own all key)) i

  pub layout_is_back : layout_of new b ≡ layout_restored cs (layout_of h a)
  layout_is_back = t.layout ∙ (λ i. record (layout_of h a) { leaves = leaves i })
    where
      leaves : map (over (slot_back cs keys)) (layout_of h a).leaves ≡ map (over (slot_restored cs)) (layout_of h a).leaves
      leaves = leaves_alike (slot_back cs keys) (slot_restored cs) (λ s. ap (λ (x : Bool). cond x (with_value (earliest_before cs (Text s.key)) s) s) (as_changed cs keys t.own all (Text s.key))) (layout_of h a).leaves
