-- Files once no unit is left but those that are prepared.
use Rattle.std.proofs.Common.{◌≡◌, ℕ, Bool, false, true, cond, List, [], ◌∷◌, ◌++◌, map, Option, Some, None, refl, sym, ◌∙◌, ap, subst, inl, inr}
use Rattle.std.specs.Prelude.{is_some}
use Rattle.std.proofs.lemmas.List.{map-append}
use Rattle.std.specs.List.{AllByRecursion}
use Rattle.std.specs.FinMap.{get}
use Rattle.file_base.specs.declared.head.FileHead.{FileHead}
use Rattle.file_base.specs.declared.head.Organization.{Organization as Kept}
use Rattle.file_base.specs.declared.head.Organization.TheVariants.{Sequential, Relative, Indexed}
use Rattle.directory_model.specs.record_files.Any as any
use Rattle.directory_model.specs.record_files.Any.{map_of}
use Rattle.directory_model.specs.indexed_tree.Rooted.{layout_in}
use Rattle.vms_model.specs.Keys.{Key, Text}
use Rattle.index_model.specs.records_model.Slots.{Slot, same_bytes, slot_at, value_in, lookup, IsOrdered}
use Rattle.index_model.specs.tree_model.Layouts.{Leaf, Layout, slots_along}
use Rattle.index_model.specs.records_model.History.{LiveChanges, changes_key, current}
use Rattle.index_model.proofs.records_model.SlotLaws.{same_self, same_bytes_are, behind_absent, if_true, if_false}
use Rattle.unit_laws.specs.Units.{Map, HasLatest, IsOrderly, earliest_before, map_in, restored}
use Rattle.unit_laws.specs.Journal.{Journal, RecoveryUnit, find_unit, units_in}
use Rattle.unit_laws.specs.JournalLaws.{is_unit}
use Rattle.unit_laws.proofs.Tests.{both_ways}
use Rattle.vms_model.specs.Ids.{Id}
use Rattle.world_laws.specs.run_model.World.{File, IsPreparedUnit}
use Rattle.directory_model.specs.Files.{IsFile, IsPlace, head_at, file_at}
use Rattle.directory_model.specs.Restoring.{AlikeBare, bare, bare_leaf, IsLeft, IsPlaceLeft, IsPlacePrepared, IsLayoutOf}
use Rattle.restart_laws.specs.Falls.{AllPrepared, RestsAsFiles}
use Rattle.restart_laws.proofs.ListLemmas.{both_as}

-- Slots that are alike but for their records, and that have the same records at each key, are the same.
lookup_here : (s : Slot) (ss : List Slot) → lookup (s ∷ ss) s.key ≡ s.value
lookup_here s ss = ap value_in (if_true (same_bytes s.key s.key) (Some s) (slot_at s.key ss) (same_self s.key))

lookup_other : (s : Slot) (ss : List Slot) (k : List ℕ) → same_bytes k s.key ≡ false → lookup (s ∷ ss) k ≡ lookup ss k
lookup_other s ss k other = ap value_in (if_false (same_bytes k s.key) (Some s) (slot_at k ss) other)

first_same : (s t : Slot) (ss ts : List Slot) → s ∷ ss ≡ t ∷ ts → s ≡ t
first_same s t ss ts e = cc

rest_same : (s t : Slot) (ss ts : List Slot) → s ∷ ss ≡ t ∷ ts → ss ≡ ts
rest_same s t ss ts e = cc

slots_same : (a b : List Slot) → map bare a ≡ map bare b → IsOrdered a → IsOrdered b → ((k : List ℕ) → lookup a k ≡ lookup b k) → a ≡ b
slots_same [] [] e p q h = refl
slots_same [] (t ∷ ts) e p q h = let none : ⊥ = cc in absurd none
slots_same (s ∷ ss) [] e p q h = let none : ⊥ = cc in absurd none
slots_same (s ∷ ss) (t ∷ ts) e p q h =
    ap (λ (x : Slot). x ∷ ss) same ∙ ap (λ (xs : List Slot). t ∷ xs) (slots_same ss ts (rest_same (bare s) (bare t) (map bare ss) (map bare ts) e) p.1 q.1 tails)
  where
    alike : bare s ≡ bare t
    alike = first_same (bare s) (bare t) (map bare ss) (map bare ts) e

    key : s.key ≡ t.key
    key = ap (λ (x : Slot). x.key) alike

    value : s.value ≡ t.value
    value = sym (lookup_here s ss) ∙ h s.key ∙ ap (λ (k : List ℕ). lookup (t ∷ ts) k) key ∙ lookup_here t ts

    same : s ≡ t
    same = λ i. record { key = key i; room = (ap (λ (x : Slot). x.room) alike) i; value = value i }

    tails : (k : List ℕ) → lookup ss k ≡ lookup ts k
    tails k = elim (both_ways (same_bytes k s.key)) [
      | inl here ↦
          let at : k ≡ s.key = same_bytes_are k s.key here in
          ap (λ (x : List ℕ). lookup ss x) at ∙ ap value_in (behind_absent s.key ss p.0) ∙ sym (ap value_in (behind_absent t.key ts q.0)) ∙ ap (λ (x : List ℕ). lookup ts x) (sym (at ∙ key))
      | inr other ↦ sym (lookup_other s ss k other) ∙ h k ∙ lookup_other t ts k (subst (λ (x : List ℕ). same_bytes k x ≡ false) key other)
    ]

-- so are leaves
parted_same : (x y r q : List Slot) → map bare x ≡ map bare y → x ++ r ≡ y ++ q → (x ≡ y) × (r ≡ q)
parted_same [] [] r q e h = (refl, h)
parted_same [] (t ∷ ts) r q e h = let none : ⊥ = cc in absurd none
parted_same (s ∷ ss) [] r q e h = let none : ⊥ = cc in absurd none
parted_same (s ∷ ss) (t ∷ ts) r q e h =
    let more = parted_same ss ts r q (rest_same (bare s) (bare t) (map bare ss) (map bare ts) e) (rest_same s t (ss ++ r) (ts ++ q) h) in
    (ap (λ (x : Slot). x ∷ ss) (first_same s t (ss ++ r) (ts ++ q) h) ∙ ap (λ (xs : List Slot). t ∷ xs) more.0, more.1)

leaf_first : (x y : Leaf) (xs ys : List Leaf) → x ∷ xs ≡ y ∷ ys → x ≡ y
leaf_first x y xs ys e = cc

leaf_rest : (x y : Leaf) (xs ys : List Leaf) → x ∷ xs ≡ y ∷ ys → xs ≡ ys
leaf_rest x y xs ys e = cc

leaves_same : (a b : List Leaf) → map bare_leaf a ≡ map bare_leaf b → slots_along a ≡ slots_along b → a ≡ b
leaves_same [] [] e h = refl
leaves_same [] (y ∷ ys) e h = let none : ⊥ = cc in absurd none
leaves_same (x ∷ xs) [] e h = let none : ⊥ = cc in absurd none
leaves_same (x ∷ xs) (y ∷ ys) e h = λ i. record { lowest = lowest i; slots = parts.0 i } ∷ leaves_same xs ys (leaf_rest (bare_leaf x) (bare_leaf y) (map bare_leaf xs) (map bare_leaf ys) e) parts.1 i
  where
    first : bare_leaf x ≡ bare_leaf y
    first = leaf_first (bare_leaf x) (bare_leaf y) (map bare_leaf xs) (map bare_leaf ys) e

    lowest : x.lowest ≡ y.lowest
    lowest = ap (λ (b : Leaf). b.lowest) first

    parts : (x.slots ≡ y.slots) × (slots_along xs ≡ slots_along ys)
    parts = parted_same x.slots y.slots (slots_along xs) (slots_along ys) (ap (λ (b : Leaf). b.slots) first) h

pub all_bare : (a : List Leaf) → map bare (slots_along a) ≡ slots_along (map bare_leaf a)
all_bare [] = refl
all_bare (x ∷ xs) = map-append bare x.slots (slots_along xs) ∙ ap (λ (ss : List Slot). map bare x.slots ++ ss) (all_bare xs)

-- layouts that are alike but for their records have the same slots but for these
pub slots_alike : (a b : Layout) → AlikeBare a b → map bare (slots_along a.leaves) ≡ map bare (slots_along b.leaves)
slots_alike a b alike = all_bare a.leaves ∙ ap (λ (l : Layout). slots_along l.leaves) alike ∙ sym (all_bare b.leaves)

layouts_same : (a b : Layout) → AlikeBare a b → IsOrdered (slots_along a.leaves) → IsOrdered (slots_along b.leaves) → ((k : List ℕ) → lookup (slots_along a.leaves) k ≡ lookup (slots_along b.leaves) k) → a ≡ b
layouts_same a b alike p q h = λ i. record { leaves = leaves i; index = (ap (λ (l : Layout). l.index) alike) i }
  where
    leaves : a.leaves ≡ b.leaves
    leaves = leaves_same a.leaves b.leaves (ap (λ (l : Layout). l.leaves) alike) (slots_same (slots_along a.leaves) (slots_along b.leaves) (slots_alike a b alike) p q h)

-- The layout of a file that has the world's records.
pub layout_rests : (o : Kept) (h : FileHead) (content : List (List ℕ)) (file : File) → any.LaidOutBy o h content → ((key : Key) → get (current file.history) key ≡ any.map_by o h content key) → AlikeBare (any.layout_by o h content) file.layout →
    IsLayoutOf o file → file.layout ≡ any.layout_by o h content
layout_rests Sequential h content file laid records alike own = own
layout_rests Relative h content file laid records alike own = own
layout_rests Indexed h content file laid records alike own =
    sym (layouts_same (layout_in h content) file.layout alike laid.tree.ordered own.ordered (λ k. sym (records (Text k)) ∙ sym (own.tells k)))

-- what two maps restore alike is the same in both, where both have what the branches left
pub same_now : (ls : List LiveChanges) (m n : Map) (key : Key) → AllByRecursion (λ (l : LiveChanges). HasLatest m l.changes) ls → AllByRecursion (λ (l : LiveChanges). HasLatest n l.changes) ls → restored ls key (m key) ≡ restored ls key (n key) → m key ≡ n key
same_now [] m n key p q e = e
same_now (l ∷ ls) m n key p q e = go (changes_key key l.changes) refl e (same_now ls m n key p.1 q.1)
  where
    go : (b : Bool) → changes_key key l.changes ≡ b → cond b (earliest_before l.changes key) (restored ls key (m key)) ≡ cond b (earliest_before l.changes key) (restored ls key (n key)) → (restored ls key (m key) ≡ restored ls key (n key) → m key ≡ n key) → m key ≡ n key
    go true is e later = p.0 key is ∙ sym (q.0 key is)
    go false is e later = later e

-- A file in which all that branches changed stands as they left it.
file_rests : (content : List (List ℕ)) (h : FileHead) (file : File) → IsLeft content h file → IsOrderly file.history → AllByRecursion (λ (l : LiveChanges). HasLatest (map_of h content) l.changes) file.history.live → IsFile content h file
file_rests content h file left orderly latest = record { head = left.head; laid = left.laid; records = at; layout = layout_rests h.organization h content file left.laid at left.layout left.own }
  where
    at : (key : Key) → get (current file.history) key ≡ map_of h content key
    at key = same_now file.history.live (map_in (current file.history)) (map_of h content) key orderly.latest latest (orderly.represents.restores key ∙ sym (left.represents.restores key))

-- a branch that is a unit is prepared, where all are
pub unit_prepared : (j : Journal) (x : Id) → AllPrepared j → is_unit x j ≡ true → IsPreparedUnit j x
unit_prepared j x all is = go (find_unit x (units_in j.entries)) refl is
  where
    go : (o : Option RecoveryUnit) → find_unit x (units_in j.entries) ≡ o → is_some o ≡ true → IsPreparedUnit j x
    go (Some u) e k = (u, e, all x u e)
    go None e k = let none : ⊥ = cc in absurd none

place_rests : (units : Journal) (content : List (List ℕ)) (f : ℕ) (o : Option FileHead) (p : Option File) → AllPrepared units → IsPlaceLeft content f o p → IsPlacePrepared units content o p →
    ((file : File) → p ≡ Some file → IsOrderly file.history × AllByRecursion (λ (l : LiveChanges). is_unit l.serial units ≡ true) file.history.live) → IsPlace content f o p
place_rests units content f None None all left stands tells = tt
place_rests units content f None (Some file) all left stands tells = absurd left
place_rests units content f (Some h) None all left stands tells = absurd left
place_rests units content f (Some h) (Some file) all left stands tells = let t = tells file refl in (
  file_rests content h file left.0 t.0
      (both_as (λ (l : LiveChanges). is_unit l.serial units ≡ true) (λ (l : LiveChanges). IsPreparedUnit units l.serial → HasLatest (map_of h content) l.changes) (λ (l : LiveChanges). HasLatest (map_of h content) l.changes) file.history.live
      (λ l unit so. so (unit_prepared units l.serial all unit)) t.1 stands),
  left.1,
)

pub rests_as_files : RestsAsFiles
rests_as_files content heads n left stands units all = record {
  heads_long = left.heads_long;
  directory_long = left.directory_long;
  each = λ f. place_rests n.durable.units content f (head_at heads f) (file_at n.durable.directory f) all (left.each f) (stands f) (λ file there. let t = units.tells f file there in (t.notes.orderly, t.notes.units));
}
