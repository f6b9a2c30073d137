-- Files once one unit was undone whole.
use Rattle.std.proofs.Common.{◌≡◌, ℕ, zero, suc, ◌≤◌, Bool, true, false, cond, ◌||◌, List, [], ◌∷◌, ◌++◌, map, length, take, drop, Option, Some, None, refl, sym, ◌∙◌, ap, subst, inl, inr, arith}
use Rattle.std.specs.Option.{option_map}
use Rattle.std.specs.List.{AllByRecursion}
use Rattle.std.proofs.lemmas.List.{map-append, length-map}
use Rattle.file_base.specs.declared.head.FileHead.{FileHead}
use Rattle.file_base.specs.declared.head.Organization.{Organization as Kept}
use Rattle.file_base.specs.declared.head.Organization.TheVariants.{Sequential, Relative, Indexed}
use Rattle.directory_model.specs.record_files.Any as any
use Rattle.directory_model.specs.record_files.Any.{map_of}
use Rattle.directory_model.specs.indexed_file.Chain as leaf
use Rattle.directory_model.specs.indexed_tree.Files as indexed
use Rattle.directory_model.specs.indexed_tree.Rooted.{layout_in}
use Rattle.vms_model.specs.Ids.{Id}
use Rattle.vms_model.specs.Keys.{Key, Text}
use Rattle.vms_model.specs.Transactions.{Outcome, Abort}
use Rattle.index_model.specs.records_model.Records.{Change}
use Rattle.index_model.specs.records_model.Slots.{Slot, same_bytes, bytes_before, slot_at, value_in, room_in, lookup, size_of, with_value, AllBehind, IsOrdered}
use Rattle.index_model.specs.tree_model.Layouts.{Leaf, slots_along}
use Rattle.index_model.specs.records_model.History.{LiveChanges, same_id, records, changes_key, changes_by, settled_at}
use Rattle.index_model.proofs.records_model.RecordsLemmas.{same_key}
use Rattle.index_model.proofs.records_model.SlotLaws.{same_bytes_are, if_true, if_false}
use Rattle.unit_laws.specs.Units.{Map, map_in, is_of, earliest_before, Represents, IsOrderly}
use Rattle.unit_laws.specs.Layouts.{slot_restored, leaf_restored, layout_restored}
use Rattle.unit_laws.proofs.Tests.{both_ways}
use Rattle.unit_laws.proofs.HistoryLaws.{aborts_one, undoes_one}
use Rattle.world_laws.specs.run_model.World.{Node, File, Settlement, AreUnitsOf, settled_file, settled_layout}
use Rattle.directory_model.specs.Files.{AgreesOnCarried, head_at, file_at, layout_of}
use Rattle.directory_model.specs.Restoring.{AlikeBare, bare, bare_layout, IsLeft, IsPlaceLeft, AreLeft, IsRestored, IsPlaceRestored, AreRestored, IsPlaceRestorable, AreRestorable, CanRestore, CanRestoreBy, IsLayoutOf}
use Rattle.directory_model.specs.Laws.{carrying, settled_buckets}
use Rattle.directory_model.proofs.Moving.{carried_moved, head_again, head_moved, same_organization}
use Rattle.directory_model.proofs.Places.{file_mapped}
use Rattle.restart_laws.proofs.FallLemmas.{restores_alike}
use Rattle.restart_laws.proofs.RestLemmas.{slots_alike}

-- Slots that are restored keep their keys.
pub key_kept : (cs : List Change) (s : Slot) → (slot_restored cs s).key ≡ s.key
key_kept cs s = step (changes_key (Text s.key) cs)
  where
    step : (x : Bool) → (cond x (with_value (earliest_before cs (Text s.key)) s) s).key ≡ s.key
    step true = refl
    step false = refl

pub all_restored : (cs : List Change) (a : List Leaf) → slots_along (map (leaf_restored cs) a) ≡ map (slot_restored cs) (slots_along a)
all_restored cs [] = refl
all_restored cs (x ∷ xs) = ap (λ (ss : List Slot). map (slot_restored cs) x.slots ++ ss) (all_restored cs xs) ∙ sym (map-append (slot_restored cs) x.slots (slots_along xs))

behind_restored : (cs : List Change) (k : List ℕ) (ss : List Slot) → AllBehind k ss → AllBehind k (map (slot_restored cs) ss)
behind_restored cs k [] h = tt
behind_restored cs k (s ∷ ss) h = (subst (λ (x : List ℕ). bytes_before k x ≡ true) (sym (key_kept cs s)) h.0, behind_restored cs k ss h.1)

pub ordered_restored : (cs : List Change) (ss : List Slot) → IsOrdered ss → IsOrdered (map (slot_restored cs) ss)
ordered_restored cs [] h = tt
ordered_restored cs (s ∷ ss) h = (subst (λ (x : List ℕ). AllBehind x (map (slot_restored cs) ss)) (sym (key_kept cs s)) (behind_restored cs s.key ss h.0), ordered_restored cs ss h.1)

-- what a key has once its slot is restored
pub lookup_restored : (cs : List Change) (ss : List Slot) (k : List ℕ) → (slot_at k ss ≡ None → changes_key (Text k) cs ≡ true → earliest_before cs (Text k) ≡ None) → lookup (map (slot_restored cs) ss) k ≡ cond (changes_key (Text k) cs) (earliest_before cs (Text k)) (lookup ss k)
lookup_restored cs [] k none = step (changes_key (Text k) cs) (none refl)
  where
    step : (x : Bool) → (x ≡ true → earliest_before cs (Text k) ≡ None) → None ≡ cond x (earliest_before cs (Text k)) None
    step true f = sym (f refl)
    step false f = refl
lookup_restored cs (s ∷ ss) k none = elim (both_ways (same_bytes k s.key)) [
  | inl here ↦
      ap value_in (if_true _ (Some (slot_restored cs s)) (slot_at k (map (slot_restored cs) ss)) (ap (same_bytes k) (key_kept cs s) ∙ here))
      ∙ value (changes_key (Text s.key) cs)
      ∙ ap (λ (x : List ℕ). cond (changes_key (Text x) cs) (earliest_before cs (Text x)) s.value) (sym (same_bytes_are k s.key here))
      ∙ ap (λ (v : Option (List ℕ)). cond (changes_key (Text k) cs) (earliest_before cs (Text k)) v) (sym (ap value_in (if_true (same_bytes k s.key) (Some s) (slot_at k ss) here)))
  | inr other ↦
      ap value_in (if_false _ (Some (slot_restored cs s)) (slot_at k (map (slot_restored cs) ss)) (ap (same_bytes k) (key_kept cs s) ∙ other))
      ∙ lookup_restored cs ss k (λ e. none (if_false (same_bytes k s.key) (Some s) (slot_at k ss) other ∙ e))
      ∙ ap (λ (v : Option (List ℕ)). cond (changes_key (Text k) cs) (earliest_before cs (Text k)) v) (sym (ap value_in (if_false (same_bytes k s.key) (Some s) (slot_at k ss) other)))
]
  where
    value : (x : Bool) → (cond x (with_value (earliest_before cs (Text s.key)) s) s).value ≡ cond x (earliest_before cs (Text s.key)) s.value
    value true = refl
    value false = refl

-- A key that has no slot had no record.
pub slot_bare : (a b : List Slot) (k : List ℕ) → map bare a ≡ map bare b → slot_at k b ≡ None → slot_at k a ≡ None
slot_bare a b k e none = bare_none a (ap (slot_at k) e ∙ of_bare b none)
  where
    of_bare : (ss : List Slot) → slot_at k ss ≡ None → slot_at k (map bare ss) ≡ None
    of_bare [] h = refl
    of_bare (s ∷ ss) h = step (same_bytes k s.key) h (of_bare ss)
      where
        step : (x : Bool) → cond x (Some s) (slot_at k ss) ≡ None → (slot_at k ss ≡ None → slot_at k (map bare ss) ≡ None) → cond x (Some (bare s)) (slot_at k (map bare ss)) ≡ None
        step true h later = let never : ⊥ = cc in absurd never
        step false h later = later h

    bare_none : (ss : List Slot) → slot_at k (map bare ss) ≡ None → slot_at k ss ≡ None
    bare_none [] h = refl
    bare_none (s ∷ ss) h = step (same_bytes k s.key) h (bare_none ss)
      where
        step : (x : Bool) → cond x (Some (bare s)) (slot_at k (map bare ss)) ≡ None → (slot_at k (map bare ss) ≡ None → slot_at k ss ≡ None) → cond x (Some s) (slot_at k ss) ≡ None
        step true h later = let never : ⊥ = cc in absurd never
        step false h later = later h

-- what holds of all changes holds of one of a key
pub of_key : (P : Key → Type 0) (cs : List Change) (key : Key) → AllByRecursion (λ (c : Change). P c.key) cs → changes_key key cs ≡ true → P key
of_key P [] key all h = absurd cc
of_key P (c ∷ cs) key all h = step (is_of key c) refl h (of_key P cs key all.1)
  where
    step : (x : Bool) → is_of key c ≡ x → (x || changes_key key cs) ≡ true → (changes_key key cs ≡ true → P key) → P key
    step true is h later = subst P (sym (same_key key c.key is)) all.0
    step false is h later = later h

-- the changes of one of the branches can be restored
of_branch : (h : FileHead) (content : List (List ℕ)) (s : Id) (ls : List LiveChanges) → h.organization ≡ Indexed → CanRestore h content ls → CanRestoreBy Indexed h content (changes_by s ls)
of_branch h content s [] is can = tt
of_branch h content s (l ∷ ls) is can = step (same_id s l.serial) (subst (λ (o : Kept). CanRestoreBy o h content l.changes) is can.0) (of_branch h content s ls is can.1)
  where
    step : (x : Bool) → CanRestoreBy Indexed h content l.changes → CanRestoreBy Indexed h content (changes_by s ls) → CanRestoreBy Indexed h content (cond x l.changes (changes_by s ls))
    step true here later = here
    step false here later = later

-- a record that suits a key is not empty, so it has no place where there is no slot
no_record : (h : FileHead) (k : List ℕ) (v : Option (List ℕ)) → 1 ≤ h.key_size → leaf.SuitsText h k v → size_of v ≤ 0 → v ≡ None
no_record h k None one suits small = refl
no_record h k (Some []) one suits small =
    let none : length k ≡ 0 = ap length (sym suits.has) ∙ nothing h.key_pos h.key_size in
    absurd (omega (arith, none, suits.size, one))
  where
    nothing : (at count : ℕ) → let empty : List ℕ = [] in length (take count (drop at empty)) ≡ 0
    nothing zero zero = refl
    nothing zero (suc count) = refl
    nothing (suc at) zero = refl
    nothing (suc at) (suc count) = refl
no_record h k (Some (b ∷ bs)) one suits small = absurd (omega (arith, small))

-- a key that has no slot in the world's layout had no record before
had_none : (h : FileHead) (a : List (List ℕ)) (file : File) (cs : List Change) (k : List ℕ) → 1 ≤ h.key_size → AlikeBare (layout_in h a) file.layout → CanRestoreBy Indexed h a cs → slot_at k (slots_along file.layout.leaves) ≡ None → changes_key (Text k) cs ≡ true → earliest_before cs (Text k) ≡ None
had_none h a file cs k one alike can none ck = no_record h k (earliest_before cs (Text k)) one facts.0 (subst (λ (n : ℕ). size_of (earliest_before cs (Text k)) ≤ n) empty facts.1)
  where
    facts : leaf.Suits h (Text k) (earliest_before cs (Text k)) × (size_of (earliest_before cs (Text k)) ≤ indexed.room_at h a (Text k))
    facts = of_key (λ (key : Key). leaf.Suits h key (earliest_before cs key) × (size_of (earliest_before cs key) ≤ indexed.room_at h a key)) cs (Text k) can ck

    gone : slot_at k (slots_along (layout_in h a).leaves) ≡ None
    gone = slot_bare (slots_along (layout_in h a).leaves) (slots_along file.layout.leaves) k (slots_alike (layout_in h a) file.layout alike) none

    empty : indexed.room_at h a (Text k) ≡ 0
    empty = ap room_in gone

-- The file of the world once the branch was aborted.
abbrev aborted_file : Id → ℕ → File → File
aborted_file s moment f = record f { history = settled_at s Abort moment f.history; layout = layout_restored (changes_by s f.history.live) f.layout }

layout_aborted : (o : Kept) (h : FileHead) (a : List (List ℕ)) (file : File) (s : Id) (moment : ℕ) → o ≡ h.organization → any.FormBy o h → IsOrderly file.history → AlikeBare (any.layout_by o h a) file.layout → CanRestore h a file.history.live →
    IsLayoutOf o file → IsLayoutOf o (aborted_file s moment file)
layout_aborted Sequential h a file s moment is form orderly alike can own = ap (layout_restored (changes_by s file.history.live)) own
layout_aborted Relative h a file s moment is form orderly alike can own = ap (layout_restored (changes_by s file.history.live)) own
layout_aborted Indexed h a file s moment is form orderly alike can own =
    let cs = changes_by s file.history.live in
    let slots = slots_along file.layout.leaves in
    record {
      ordered = subst IsOrdered (sym (all_restored cs file.layout.leaves)) (ordered_restored cs slots own.ordered);
      tells = λ k.
          ap (λ (ss : List Slot). lookup ss k) (all_restored cs file.layout.leaves)
          ∙ lookup_restored cs slots k (had_none h a file cs k form.keys.key alike (of_branch h a s file.history.live (sym is) can))
          ∙ ap (λ (v : Option (List ℕ)). cond (changes_key (Text k) cs) (earliest_before cs (Text k)) v) (own.tells k)
          ∙ sym ((aborts_one file.history s moment orderly).current (Text k));
    }

file_aborted : (a b : List (List ℕ)) (h new : FileHead) (file : File) (s : Id) (moment : ℕ) → IsLeft a h file → IsOrderly file.history → IsRestored a h (changes_by s file.history.live) b new → CanRestore new b (settled_at s Abort moment file.history).live →
    IsLeft b new (aborted_file s moment file)
file_aborted a b h new file s moment left orderly back can =
    let cs = changes_by s file.history.live in
    let history = settled_at s Abort moment file.history in
    let one = undoes_one file.history s moment (map_of h a) left.represents in
    record {
      head = head_again new file history (layout_restored cs file.layout) (head_moved h new file back.same back.form left.head);
      laid = back.laid;
      represents = subst (λ (m : Map). Represents history.live m (map_in (records history))) (sym back.map) one.represents;
      layout = ap bare_layout back.layout ∙ restores_alike cs (layout_of h a) file.layout left.layout;
      own = subst (λ (o : Kept). IsLayoutOf o (aborted_file s moment file)) (sym (same_organization h new back.same)) (layout_aborted h.organization h a file s moment refl left.head.form orderly left.layout left.can left.own);
      can = can;
    }

file_settled : (a b : List (List ℕ)) (h new : FileHead) (file : File) (s : Settlement) → s.outcome ≡ Abort → IsLeft a h file → IsOrderly file.history → IsRestored a h (changes_by s.serial file.history.live) b new → CanRestore new b (settled_file s file).history.live →
    IsLeft b new (carrying file.carried (settled_file s file))
file_settled a b h new file s abort left orderly back can =
    subst (λ (o : Outcome). IsLeft b new (record file { history = settled_at s.serial o s.moment file.history; layout = settled_layout o (changes_by s.serial file.history.live) file.layout })) (sym abort)
    (file_aborted a b h new file s.serial s.moment left orderly back (subst (λ (o : Outcome). CanRestore new b (settled_at s.serial o s.moment file.history).live) abort can))

place_settled : (a b : List (List ℕ)) (f : ℕ) (o o' : Option FileHead) (p : Option File) (s : Settlement) → s.outcome ≡ Abort → ((file : File) → p ≡ Some file → IsOrderly file.history) → IsPlaceLeft a f o p → IsPlaceRestored s.serial a o p b o' → ((h : FileHead) → o ≡ Some h → AgreesOnCarried h a b) →
    IsPlaceRestorable b o' (option_map (settled_file s) p) → IsPlaceLeft b f o' (option_map (λ file. carrying file.carried (settled_file s file)) p)
place_settled a b f None None None s abort orderly left back stands can = tt
place_settled a b f None (Some new) None s abort orderly left back stands can = absurd back
place_settled a b f None o' (Some file) s abort orderly left back stands can = absurd left
place_settled a b f (Some h) o' None s abort orderly left back stands can = absurd left
place_settled a b f (Some h) None (Some file) s abort orderly left back stands can = absurd back
place_settled a b f (Some h) (Some new) (Some file) s abort orderly left back stands can = (file_settled a b h new file s abort left.0 (orderly file refl) back can, carried_moved a b f h new file.carried back.same (stands h refl) left.1)

pub undone_leaves : (b c : List (List ℕ)) (heads new : List (Option FileHead)) (n : Node) (s : Settlement) → AreLeft b heads n.durable.directory → AreUnitsOf n → s.outcome ≡ Abort → AreRestored s.serial b heads n.durable.directory c new →
    ((f : ℕ) → IsPlaceRestorable c (head_at new f) (option_map (settled_file s) (file_at n.durable.directory f))) → AreLeft c new (settled_buckets s n.durable.directory)
undone_leaves b c heads new n s left units abort back can = record {
  heads_long = back.long ∙ left.heads_long;
  directory_long = length-map n.durable.directory (option_map (λ file. carrying file.carried (settled_file s file))) ∙ left.directory_long;
  each = λ f. subst (λ (p : Option File). IsPlaceLeft c f (head_at new f) p) (sym (file_mapped (λ file. carrying file.carried (settled_file s file)) n.durable.directory f))
      (place_settled b c f (head_at heads f) (head_at new f) (file_at n.durable.directory f) s abort (λ file there. (units.tells f file there).notes.orderly) (left.each f) (back.each f) (back.carried f) (can f));
}
