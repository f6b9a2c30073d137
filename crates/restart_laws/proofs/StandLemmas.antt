-- What a fall leaves of a file stands on the file's own blocks.
use Rattle.std.proofs.Common.{◌≡◌, ℕ, List, [], ◌∷◌, map, Option, Some, None, refl, sym, ap, subst, ◌∙◌}
use Rattle.std.specs.List.{AllByRecursion}
use Rattle.file_base.specs.declared.head.FileHead.{FileHead}
use Rattle.directory_model.specs.change_set.Files.{AgreesOn}
use Rattle.directory_model.specs.change_set.Maps.{Map}
use Rattle.directory_model.specs.record_files.Any as any
use Rattle.directory_model.specs.record_files.Any.{map_of, IsLaidOut}
use Rattle.directory_model.specs.record_files.Local.{layout_local_law, local_law, valid_local_law}
use Rattle.index_model.specs.records_model.Slots.{Slot}
use Rattle.index_model.specs.tree_model.Layouts.{Leaf, Layout}
use Rattle.index_model.specs.records_model.History.{LiveChanges, records}
use Rattle.unit_laws.specs.Units.{map_in, HasImages, HasLatest, Represents}
use Rattle.unit_laws.specs.Journal.{Journal}
use Rattle.unit_laws.specs.Layouts.{slot_restored, leaf_restored, layout_restored}
use Rattle.world_laws.specs.run_model.World.{File, IsPreparedUnit}
use Rattle.directory_model.specs.Files.{AgreesOnFile, head_at, file_at, layout_of}
use Rattle.directory_model.specs.Restoring.{AlikeBare, bare_layout, IsLeft, IsPlaceLeft, IsPlacePrepared, IsGrouped, IsRestored}
use Rattle.directory_model.proofs.Standing.{carried_stands}
use Rattle.restart_laws.specs.Falls.{LeftStands, PreparedStays, StaysUndone}
use Rattle.restart_laws.proofs.StayLemmas.{can_stand}

map_same : (a b : List (List ℕ)) (h : FileHead) → any.IsFile h → AgreesOn h a b → IsLaidOut h a → map_of h a ≡ map_of h b
map_same a b h form agrees laid = local_law h a b form agrees laid

layout_same : (a b : List (List ℕ)) (h : FileHead) → any.IsFile h → AgreesOn h a b → IsLaidOut h a → layout_of h a ≡ layout_of h b
layout_same a b h form agrees laid = layout_local_law h a b form agrees laid

file_left_stands : (a b : List (List ℕ)) (h : FileHead) (file : File) → AgreesOn h a b → IsLeft a h file → IsLeft b h file
file_left_stands a b h file agrees left = record {
  head = left.head;
  laid = valid_local_law h a b left.head.form agrees left.laid;
  represents = subst (λ (m : Map). Represents file.history.live m (map_in (records file.history))) (map_same a b h left.head.form agrees left.laid) left.represents;
  layout = subst (λ (l : Layout). AlikeBare l file.layout) (layout_same a b h left.head.form agrees left.laid) left.layout;
  own = left.own;
  can = can_stand h.organization h a b file.history.live left.head.form agrees left.laid left.can;
}

place_left_stands : (a b : List (List ℕ)) (f : ℕ) (o : Option FileHead) (p : Option File) → ((h : FileHead) → o ≡ Some h → AgreesOnFile h a b) → IsPlaceLeft a f o p → IsPlaceLeft b f o p
place_left_stands a b f None None agree left = tt
place_left_stands a b f None (Some file) agree left = absurd left
place_left_stands a b f (Some h) None agree left = absurd left
place_left_stands a b f (Some h) (Some file) agree left = (file_left_stands a b h file (agree h refl).own left.0, carried_stands a b f h file.carried (agree h refl).carried left.1)

pub left_stands : LeftStands
left_stands a b heads directory agree left = record {
  heads_long = left.heads_long;
  directory_long = left.directory_long;
  each = λ f. place_left_stands a b f (head_at heads f) (file_at directory f) (agree f) (left.each f);
}

prepared_place : (units : Journal) (a b : List (List ℕ)) (f : ℕ) (o : Option FileHead) (p : Option File) → ((h : FileHead) → o ≡ Some h → AgreesOnFile h a b) → IsPlaceLeft a f o p → IsPlacePrepared units a o p → IsPlacePrepared units b o p
prepared_place units a b f None p agree left stands = tt
prepared_place units a b f (Some h) None agree left stands = tt
prepared_place units a b f (Some h) (Some file) agree left stands = subst (λ (m : Map). AllByRecursion (λ (l : LiveChanges). IsPreparedUnit units l.serial → HasLatest m l.changes) file.history.live) (map_same a b h left.0.head.form (agree h refl).own left.0.laid) stands

pub prepared_stays : PreparedStays
prepared_stays units a b heads directory agree left stands f = prepared_place units a b f (head_at heads f) (file_at directory f) (agree f) (left.each f) (stands f)

-- A file that is not touched.

group : (a b : List (List ℕ)) (h : FileHead) (file : File) → IsLeft a h file → AgreesOn h a b → IsGrouped a h file.history.live b h
group a b h file left agrees =
    let same = map_same a b h left.head.form agrees left.laid in
    record {
      same = record { is = refl };
      form = left.head.form;
      laid = valid_local_law h a b left.head.form agrees left.laid;
      group = record { others = λ key other. ap (λ (m : Map). m key) (sym same); images = subst (λ (m : Map). AllByRecursion (λ (l : LiveChanges). HasImages m l.changes) file.history.live) same left.represents.images };
      layout = ap bare_layout (sym (layout_same a b h left.head.form agrees left.laid));
      can = can_stand h.organization h a b file.history.live left.head.form agrees left.laid left.can;
    }

slots_stay : (ss : List Slot) → map (slot_restored []) ss ≡ ss
slots_stay [] = refl
slots_stay (s ∷ ss) = ap (λ (xs : List Slot). s ∷ xs) (slots_stay ss)

leaves_stay : (bs : List Leaf) → map (leaf_restored []) bs ≡ bs
leaves_stay [] = refl
leaves_stay (b ∷ bs) = λ i. record { lowest = b.lowest; slots = slots_stay b.slots i } ∷ leaves_stay bs i

layout_stays : (l : Layout) → layout_restored [] l ≡ l
layout_stays l = λ i. record { leaves = leaves_stay l.leaves i; index = l.index }

restored : (a b : List (List ℕ)) (h : FileHead) → any.IsFile h → IsLaidOut h a → AgreesOn h a b → IsRestored a h [] b h
restored a b h form laid agrees = record {
  same = record { is = refl };
  form = form;
  laid = valid_local_law h a b form agrees laid;
  map = sym (map_same a b h form agrees laid);
  layout = sym (layout_same a b h form agrees laid) ∙ sym (layout_stays (layout_of h a));
}

pub stays_undone : StaysUndone
stays_undone = record { group = group; restored = restored }
