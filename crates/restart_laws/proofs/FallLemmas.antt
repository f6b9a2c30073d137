-- Files after a fall and after groups of an undo.
use Rattle.std.proofs.Common.{◌≡◌, ℕ, Bool, true, false, cond, List, [], ◌∷◌, map, Option, Some, None, refl, sym, ◌∙◌, ap, subst}
use Rattle.std.specs.FinMap.{get}
use Rattle.file_base.specs.declared.head.FileHead.{FileHead}
use Rattle.file_base.specs.declared.head.Organization.{Organization as Kept}
use Rattle.file_base.specs.declared.head.Organization.TheVariants.{Sequential, Relative, Indexed}
use Rattle.directory_model.specs.record_files.Any as any
use Rattle.directory_model.specs.record_files.Any.{map_of}
use Rattle.vms_model.specs.Keys.{Key, Text}
use Rattle.index_model.specs.records_model.Records.{Change}
use Rattle.index_model.specs.records_model.Slots.{Slot, with_value, lookup, IsOrdered}
use Rattle.index_model.specs.tree_model.Layouts.{Leaf, Layout, slots_along}
use Rattle.index_model.specs.records_model.History.{records, current, changes_key}
use Rattle.unit_laws.specs.Units.{Map, map_in, earliest_before, Represents, IsOrderly}
use Rattle.unit_laws.specs.Layouts.{slot_restored, leaf_restored, layout_restored}
use Rattle.unit_laws.proofs.RepresentLemmas.{group_keeps}
use Rattle.world_laws.specs.run_model.World.{File}
use Rattle.directory_model.specs.Files.{IsFile, IsPlace, AgreesOnCarried, head_at, file_at}
use Rattle.directory_model.specs.Restoring.{AlikeBare, bare, bare_leaf, bare_layout, IsLeft, IsPlaceLeft, IsPlaceRestorable, CanRestore, IsLayoutOf, IsGrouped, IsPlaceGrouped}
use Rattle.directory_model.proofs.Moving.{carried_moved, head_moved, same_organization}
use Rattle.restart_laws.specs.Falls.{FallsLeave, GroupsLeave}

-- The layout of the world's file.
layout_told : (o : Kept) (h : FileHead) (content : List (List ℕ)) (file : File) → any.LaidOutBy o h content → ((key : Key) → get (current file.history) key ≡ any.map_by o h content key) → file.layout ≡ any.layout_by o h content → IsLayoutOf o file
layout_told Sequential h content file laid records layout = layout
layout_told Relative h content file laid records layout = layout
layout_told Indexed h content file laid records layout = record {
  ordered = subst IsOrdered (sym (ap (λ (l : Layout). slots_along l.leaves) layout)) laid.tree.ordered;
  tells = λ k. ap (λ (l : Layout). lookup (slots_along l.leaves) k) layout ∙ sym (records (Text k));
}

-- A fall.
file_left : (content : List (List ℕ)) (h : FileHead) (file : File) → IsFile content h file → IsOrderly file.history → CanRestore h content file.history.live → IsLeft content h file
file_left content h file is orderly can = record {
  head = is.head;
  laid = is.laid;
  represents = subst (λ (m : Map). Represents file.history.live m (map_in (records file.history))) same orderly.represents;
  layout = ap bare_layout (sym is.layout);
  own = layout_told h.organization h content file is.laid is.records is.layout;
  can = can;
}
  where
    same : map_in (current file.history) ≡ map_of h content
    same = λ i key. is.records key i

place_left : (content : List (List ℕ)) (f : ℕ) (o : Option FileHead) (p : Option File) → IsPlace content f o p → ((file : File) → p ≡ Some file → IsOrderly file.history) → IsPlaceRestorable content o p → IsPlaceLeft content f o p
place_left content f None None is orderly can = tt
place_left content f None (Some file) is orderly can = absurd is
place_left content f (Some h) None is orderly can = absurd is
place_left content f (Some h) (Some file) is orderly can = (file_left content h file is.0 (orderly file refl) can, is.1)

pub falls_leave : FallsLeave
falls_leave content heads n are units can = record {
  heads_long = are.heads_long;
  directory_long = are.directory_long;
  each = λ f. place_left content f (head_at heads f) (file_at n.durable.directory f) (are.each f) (λ file there. (units.tells f file there).notes.orderly) (can f);
}

-- A group of an undo.
file_grouped : (a b : List (List ℕ)) (h new : FileHead) (file : File) → IsLeft a h file → IsGrouped a h file.history.live b new → IsLeft b new file
file_grouped a b h new file left group = record {
  head = head_moved h new file group.same group.form left.head;
  laid = group.laid;
  represents = group_keeps file.history.live (map_of h a) (map_of new b) (map_in (records file.history)) left.represents group.group.others group.group.images;
  layout = group.layout ∙ left.layout;
  own = subst (λ (o : Kept). IsLayoutOf o file) (sym (same_organization h new group.same)) left.own;
  can = group.can;
}

place_grouped : (a b : List (List ℕ)) (f : ℕ) (o o' : Option FileHead) (p : Option File) → IsPlaceLeft a f o p → IsPlaceGrouped a o p b o' → ((h : FileHead) → o ≡ Some h → AgreesOnCarried h a b) → IsPlaceLeft b f o' p
place_grouped a b f None None None left group stands = tt
place_grouped a b f None (Some new) None left group stands = absurd group
place_grouped a b f None o' (Some file) left group stands = absurd left
place_grouped a b f (Some h) o' None left group stands = absurd left
place_grouped a b f (Some h) None (Some file) left group stands = absurd group
place_grouped a b f (Some h) (Some new) (Some file) left group stands = (file_grouped a b h new file left.0 group, carried_moved a b f h new file.carried group.same (stands h refl) left.1)

pub groups_leave : GroupsLeave
groups_leave a b heads new n left group = record {
  heads_long = group.long ∙ left.heads_long;
  directory_long = left.directory_long;
  each = λ f. place_grouped a b f (head_at heads f) (head_at new f) (file_at n.durable.directory f) (left.each f) (group.each f) (group.carried f);
}

-- Layouts that are alike but for their records.
restored_bare : (cs : List Change) (s : Slot) → bare (slot_restored cs s) ≡ bare (slot_restored cs (bare s))
restored_bare cs s = step (changes_key (Text s.key) cs)
  where
    step : (x : Bool) → bare (cond x (with_value (earliest_before cs (Text s.key)) s) s) ≡ bare (cond x (with_value (earliest_before cs (Text s.key)) (bare s)) (bare s))
    step true = refl
    step false = refl

pub restores_alike : (cs : List Change) (a b : Layout) → AlikeBare a b → AlikeBare (layout_restored cs a) (layout_restored cs b)
restores_alike cs a b e = twice a ∙ ap (λ (l : Layout). bare_layout (layout_restored cs l)) e ∙ sym (twice b)
  where
    once : (ss : List Slot) → map bare (map (slot_restored cs) ss) ≡ map bare (map (slot_restored cs) (map bare ss))
    once [] = refl
    once (s ∷ ss) = ap (λ (x : Slot). x ∷ map bare (map (slot_restored cs) ss)) (restored_bare cs s) ∙ ap (λ (xs : List Slot). bare (slot_restored cs (bare s)) ∷ xs) (once ss)

    leaf : (b : Leaf) → bare_leaf (leaf_restored cs b) ≡ bare_leaf (leaf_restored cs (bare_leaf b))
    leaf b = λ i. record { lowest = b.lowest; slots = once b.slots i }

    leaves : (bs : List Leaf) → map bare_leaf (map (leaf_restored cs) bs) ≡ map bare_leaf (map (leaf_restored cs) (map bare_leaf bs))
    leaves [] = refl
    leaves (b ∷ bs) = ap (λ (x : Leaf). x ∷ map bare_leaf (map (leaf_restored cs) bs)) (leaf b) ∙ ap (λ (xs : List Leaf). bare_leaf (leaf_restored cs (bare_leaf b)) ∷ xs) (leaves bs)

    twice : (l : Layout) → bare_layout (layout_restored cs l) ≡ bare_layout (layout_restored cs (bare_layout l))
    twice l = λ i. record { leaves = leaves l.leaves i; index = l.index }
