-- What a file is while a branch is undone in it, and once it is.
use Rattle.std.proofs.Common.{◌≡◌, ℕ, zero, suc, ◌≤◌, Bool, true, false, cond, List, [], ◌∷◌, ◌++◌, map, Option, Some, None, refl, sym, ◌∙◌, ap, subst, inl, inr, arith}
use Rattle.std.specs.List.{AllByRecursion}
use Rattle.std.proofs.lemmas.Bool.{false_from_ne_true}
use Rattle.file_base.specs.declared.head.FileHead.{FileHead}
use Rattle.file_base.specs.declared.head.Organization.{Organization as Kept}
use Rattle.file_base.specs.declared.head.Organization.TheVariants as kept
use Rattle.vms_model.specs.Ids.{Id}
use Rattle.vms_model.specs.Keys.{Key, Number, Text, End}
use Rattle.records_model.specs.Records.{Change}
use Rattle.records_model.specs.Slots.{Slot, AllBehind, IsOrdered, room_in, room_of, size_of, slot_at, with_value}
use Rattle.records_model.proofs.RecordsLemmas as record_lemmas
use Rattle.records_model.proofs.SlotLaws.{behind_not_same}
use Rattle.std.specs.Prelude.{max}
use Rattle.unit_entries.specs.change_set.Maps.{same_key}
use Rattle.unit_entries.proofs.KeyLemmas.{itself}
use Rattle.records_model.specs.History.{LiveChanges, same_id, changes_key, changes_by}
use Rattle.unit_entries.specs.change_set.Files.{SameFile}
use Rattle.directory_model.specs.record_files.Any as any
use Rattle.directory_model.specs.record_files.Any.{map_of, map_by, layout_of, layout_by, room_at, room_by}
use Rattle.directory_model.specs.seq_file.Layout.{records_in}
use Rattle.directory_model.specs.seq_file.Records.{map_of_list}
use Rattle.directory_model.specs.indexed_file.Chain as leaf
use Rattle.directory_model.specs.indexed_tree.Files as indexed
use Rattle.directory_model.specs.indexed_tree.Maps.{all_slots}
use Rattle.directory_model.specs.relative_file.Cells as relative
use Rattle.unit_entries.specs.tree_model.Layouts.{Leaf, Layout, no_layout, slots_along}
use Rattle.unit_entries.specs.unit_laws.Layouts.{layout_restored}
use Rattle.unit_entries.specs.unit_laws.Units.{Map, IsImage, Represents, HasImages, earliest_before, with_before_images}
use Rattle.unit_entries.proofs.unit_laws.Tests.{never, or_either, passed}
use Rattle.unit_entries.specs.sequence_laws.Undoing.{GoesBack}
use Rattle.unit_entries.proofs.sequence_laws.SequenceLemmas.{earliest_is_one}
use Rattle.directory_model.specs.Restoring.{bare, bare_leaf, bare_layout, CanRestoreBy, CanRestore, IsGrouped, IsRestored}
use Rattle.unit_entries.specs.run_model.World.{IsOnItsWay}
use Rattle.unit_undo.specs.Steps.{has_key, slot_back, leaf_back, slots_back, AreSetBack, ArePositionsBack, ArePositions, IsPartlyUndone}
use Rattle.unit_undo.proofs.BackLemmas.{map_back, layout_is_back, owned}
use Rattle.unit_undo.proofs.PositionLemmas.{sizes_alike, goes_as, positions_back}
use Rattle.unit_undo.proofs.BranchLemmas.{IsOwnOr, own_or, images_still, own_images, not_by}

-- Keys and records that suit a head suit one of the same file.

pub suits_relative : (h new : FileHead) (key : Key) (v : Option (List ℕ)) → SameFile h new → relative.Suits h key v → relative.Suits new key v
suits_relative h new key v same suits = subst (λ (x : FileHead). relative.Suits x key v) (sym same.is) (go key suits)
  where
    go : (key : Key) → relative.Suits h key v → relative.Suits (record h { used = new.used; root = new.root; levels = new.levels; count = new.count }) key v
    go (Number n) suits = suits
    go (Text t) suits = suits
    go End suits = suits

pub suits_indexed : (h new : FileHead) (key : Key) (v : Option (List ℕ)) → SameFile h new → leaf.Suits h key v → leaf.Suits new key v
suits_indexed h new key v same suits = subst (λ (x : FileHead). leaf.Suits x key v) (sym same.is) (go key suits)
  where
    go : (key : Key) → leaf.Suits h key v → leaf.Suits (record h { used = new.used; root = new.root; levels = new.levels; count = new.count }) key v
    go (Text t) suits = record { size = suits.size; has = suits.has; most = suits.most }
    go (Number n) suits = suits
    go End suits = suits

all_so : {X : Type 0} (P Q : X → Type 0) (xs : List X) → ((x : X) → P x → Q x) → AllByRecursion P xs → AllByRecursion Q xs
all_so P Q [] f all = tt
all_so P Q (x ∷ xs) f all = (f x all.0, all_so P Q xs f all.1)

both_so : {X : Type 0} (P Q R : X → Type 0) (xs : List X) → ((x : X) → P x → Q x → R x) → AllByRecursion P xs → AllByRecursion Q xs → AllByRecursion R xs
both_so P Q R [] f p q = tt
both_so P Q R (x ∷ xs) f p q = (f x p.0 q.0, both_so P Q R xs f p.1 q.1)

pub of_key : (P : Key → Type 0) (cs : List Change) (key : Key) → AllByRecursion (λ (c : Change). P c.key) cs → changes_key key cs ≡ true → P key
of_key P [] key all changed = absurd cc
of_key P (c ∷ cs) key all changed = elim (or_either (same_key key c.key) (changes_key key cs) changed) [
  | inl this ↦ subst P (sym (record_lemmas.same_key key c.key this)) all.0
  | inr later ↦ of_key P cs key all.1 later
]

-- where rooms do not shrink, what can be restored still can
can_kept : (o : Kept) (a b : List (List ℕ)) (h new : FileHead) (cs : List Change) → (o ≡ kept.Sequential → ⊥) → SameFile h new → ((key : Key) → room_by o h a key ≤ room_by o new b key) → CanRestoreBy o h a cs → CanRestoreBy o new b cs
can_kept kept.Sequential a b h new cs other same rooms can = absurd (other refl)
can_kept kept.Relative a b h new cs other same rooms can =
    all_so (λ (c : Change). relative.Suits h c.key (earliest_before cs c.key)) (λ (c : Change). relative.Suits new c.key (earliest_before cs c.key)) cs (λ c suits. suits_relative h new c.key (earliest_before cs c.key) same suits) can
can_kept kept.Indexed a b h new cs other same rooms can =
    all_so (λ (c : Change). leaf.Suits h c.key (earliest_before cs c.key) × (size_of (earliest_before cs c.key) ≤ indexed.room_at h a c.key)) (λ (c : Change). leaf.Suits new c.key (earliest_before cs c.key) × (size_of (earliest_before cs c.key) ≤ indexed.room_at new b c.key)) cs
    (λ c is. (suits_indexed h new c.key (earliest_before cs c.key) same is.0, (let was = is.1 in let room = rooms c.key in omega (arith, was, room)))) can

-- how the records are kept is the same in the head of the same file
pub kept_so : (h new : FileHead) → SameFile h new → new.organization ≡ h.organization
kept_so h new same = ap (λ (x : FileHead). x.organization) same.is

-- Slots but for their records: those of the keys that are set back have room for what is set.

-- each slot of these keys has room for what it had before
abbrev HaveRoom : List Change → List Slot → Type 0
HaveRoom cs ss = AllByRecursion (λ (s : Slot). changes_key (Text s.key) cs ≡ true → size_of (earliest_before cs (Text s.key)) ≤ s.room) ss

bare_back : (cs : List Change) (keys : List Key) (s : Slot) → (has_key (Text s.key) keys ≡ true → size_of (earliest_before cs (Text s.key)) ≤ s.room) → bare (slot_back cs keys s) ≡ bare s
bare_back cs keys s room = go (has_key (Text s.key) keys) room
  where
    go : (b : Bool) → (b ≡ true → size_of (earliest_before cs (Text s.key)) ≤ s.room) → bare (cond b (with_value (earliest_before cs (Text s.key)) s) s) ≡ bare s
    go true room = let fits = room refl in let same : max s.room (size_of (earliest_before cs (Text s.key))) ≡ s.room = omega (arith, fits) in ap (λ (n : ℕ). record s { room = n; value = None }) same
    go false room = refl

bares_back : (cs : List Change) (keys : List Key) (ss : List Slot) → AllByRecursion (λ key. changes_key key cs ≡ true) keys → HaveRoom cs ss → map bare (map (slot_back cs keys) ss) ≡ map bare ss
bares_back cs keys [] own room = refl
bares_back cs keys (s ∷ ss) own room = ap (λ (x : Slot). x ∷ map bare (map (slot_back cs keys) ss)) (bare_back cs keys s (λ has. room.0 (owned cs keys (Text s.key) own has))) ∙ ap (λ (xs : List Slot). bare s ∷ xs) (bares_back cs keys ss own room.1)

-- in ascending slots each has the room that its key has
behind_each : (t : Slot) (ts ss : List Slot) → AllBehind t.key ss → AllByRecursion (λ (s : Slot). room_of ts s.key ≡ s.room) ss → AllByRecursion (λ (s : Slot). room_of (t ∷ ts) s.key ≡ s.room) ss
behind_each t ts [] behind rooms = tt
behind_each t ts (s ∷ ss) behind rooms = (ap (λ (b : Bool). room_in (cond b (Some t) (slot_at s.key ts))) (behind_not_same s.key t.key behind.0) ∙ rooms.0, behind_each t ts ss behind.1 rooms.1)

own_rooms : (ss : List Slot) → IsOrdered ss → AllByRecursion (λ (s : Slot). room_of ss s.key ≡ s.room) ss
own_rooms [] ordered = tt
own_rooms (s ∷ ss) ordered = (ap (λ (b : Bool). room_in (cond b (Some s) (slot_at s.key ss))) (itself (Text s.key)), behind_each s ss ss ordered.0 (own_rooms ss ordered.1))

split_each : (P : Slot → Type 0) (xs ys : List Slot) → AllByRecursion P (xs ++ ys) → AllByRecursion P xs × AllByRecursion P ys
split_each P [] ys all = (tt, all)
split_each P (x ∷ xs) ys all = let rest = split_each P xs ys all.1 in ((all.0, rest.0), rest.1)

leaves_bare : (cs : List Change) (keys : List Key) (bs : List Leaf) → AllByRecursion (λ key. changes_key key cs ≡ true) keys → HaveRoom cs (slots_along bs) → map bare_leaf (map (leaf_back cs keys) bs) ≡ map bare_leaf bs
leaves_bare cs keys [] own room = refl
leaves_bare cs keys (b ∷ bs) own room = λ i. record { lowest = b.lowest; slots = bares_back cs keys b.slots own parts.0 i } ∷ leaves_bare cs keys bs own parts.1 i
  where
    parts : HaveRoom cs b.slots × HaveRoom cs (slots_along bs)
    parts = split_each (λ (s : Slot). changes_key (Text s.key) cs ≡ true → size_of (earliest_before cs (Text s.key)) ≤ s.room) b.slots (slots_along bs) room

layout_bare : (cs : List Change) (keys : List Key) (l : Layout) → AllByRecursion (λ key. changes_key key cs ≡ true) keys → HaveRoom cs (slots_along l.leaves) → bare_layout (slots_back cs keys l) ≡ bare_layout l
layout_bare cs keys l own room = λ i. record { leaves = leaves_bare cs keys l.leaves own room i; index = l.index }

-- so in a file in which what a branch changed can be restored
rooms_for : (o : Kept) (h : FileHead) (a : List (List ℕ)) (cs : List Change) → (o ≡ kept.Sequential → ⊥) → any.LaidOutBy o h a → CanRestoreBy o h a cs → HaveRoom cs (slots_along (layout_by o h a).leaves)
rooms_for kept.Sequential h a cs other laid can = absurd (other refl)
rooms_for kept.Relative h a cs other laid can = tt
rooms_for kept.Indexed h a cs other laid can =
    all_so (λ (s : Slot). room_of (all_slots h a) s.key ≡ s.room) (λ (s : Slot). changes_key (Text s.key) cs ≡ true → size_of (earliest_before cs (Text s.key)) ≤ s.room) (all_slots h a)
    (λ s room changed. let fits = (of_key (λ (k : Key). leaf.Suits h k (earliest_before cs k) × (size_of (earliest_before cs k) ≤ indexed.room_at h a k)) cs (Text s.key) can changed).1 in omega (arith, fits, room))
    (own_rooms (all_slots h a) laid.tree.ordered)

-- nothing was changed, or what was can be restored
own_can : (serial : Id) (ls : List LiveChanges) (P : List Change → Type 0) → P [] → AllByRecursion (λ (l : LiveChanges). P l.changes) ls → P (changes_by serial ls)
own_can serial [] P nothing can = nothing
own_can serial (l ∷ ls) P nothing can = step (same_id serial l.serial) (own_can serial ls P nothing can.1)
  where
    step : (b : Bool) → P (changes_by serial ls) → P (cond b l.changes (changes_by serial ls))
    step true later = can.0
    step false later = later

can_nothing : (o : Kept) (h : FileHead) (a : List (List ℕ)) → (o ≡ kept.Sequential → ⊥) → CanRestoreBy o h a []
can_nothing kept.Sequential h a other = absurd (other refl)
can_nothing kept.Relative h a other = tt
can_nothing kept.Indexed h a other = tt

-- Relative and indexed files.

module _ (a b : List (List ℕ)) (h new : FileHead) (serial : Id) (ls : List LiveChanges) (committed : Map) (keys : List Key) (other : h.organization ≡ kept.Sequential → ⊥) (represents : Represents ls (map_of h a) committed) (can : CanRestore h a ls)
    (laid : any.LaidOutBy h.organization h a) (t : AreSetBack a h (changes_by serial ls) keys b new) where
  abbrev own : List Change
  own = changes_by serial ls

  has_own : HasImages (map_of new b) own
  has_own key changed = subst (λ v. IsImage own key v) (sym (t.map key)) (go (has_key key keys))
    where
      go : (x : Bool) → IsImage own key (cond x (earliest_before own key) (map_of h a key))
      go true = earliest_is_one own key changed
      go false = own_images serial ls (map_of h a) represents.images key changed

  kept_others : (key : Key) → changes_key key own ≡ false → map_of new b key ≡ map_of h a key
  kept_others key not_own = t.map key ∙ passed (has_key key keys) _ _ (false_from_ne_true _ (λ (e : has_key key keys ≡ true). never (changes_key key own) (owned own keys key t.own e) not_own))

  pub partly_back : IsPartlyUndone (h.organization ≡ kept.Sequential) own (map_of h a) (map_of new b)
  partly_back = record { others = kept_others; own = λ key changed. subst (λ (v : Option (List ℕ)). IsOnItsWay (h.organization ≡ kept.Sequential) (map_of h a key) (earliest_before own key) v) (sym (t.map key)) (go key (has_key key keys)) }
    where
      go : (key : Key) (x : Bool) → IsOnItsWay (h.organization ≡ kept.Sequential) (map_of h a key) (earliest_before own key) (cond x (earliest_before own key) (map_of h a key))
      go key true = inr (inl refl)
      go key false = inl refl

  pub grouped_back : IsGrouped a h ls b new
  grouped_back = record {
    same = t.same;
    form = t.form;
    laid = t.laid;
    group = record {
      others = λ key none. kept_others key (not_by serial ls key none);
      images = images_still own ls (map_of h a) (map_of new b) (own_or serial ls represents.apart) represents.images has_own kept_others;
    };
    layout = ap bare_layout t.layout ∙ layout_bare own keys (layout_of h a) t.own
        (rooms_for h.organization h a own other laid (own_can serial ls (λ (xs : List Change). CanRestoreBy h.organization h a xs) (can_nothing h.organization h a other) can));
    can = subst (λ (o : Kept). AllByRecursion (λ (l : LiveChanges). CanRestoreBy o new b l.changes) ls) (sym (kept_so h new t.same))
        (all_so (λ (l : LiveChanges). CanRestoreBy h.organization h a l.changes) (λ (l : LiveChanges). CanRestoreBy h.organization new b l.changes) ls
        (λ l is. can_kept h.organization a b h new l.changes other t.same (λ key. subst (λ (o : Kept). room_at h a key ≤ room_by o new b key) (kept_so h new t.same) (t.rooms key)) is) can);
  }

  pub restored_back : ((key : Key) → changes_key key own ≡ true → has_key key keys ≡ true) → IsRestored a h own b new
  restored_back all = record {
    same = t.same;
    form = t.form;
    laid = t.laid;
    map = map_back a b h new own keys t all;
    layout = layout_is_back a b h new own keys t all;
  }

-- Sequential files.

module _ (h : FileHead) (c : List (List ℕ)) (sequential : h.organization ≡ kept.Sequential) where
  pub map_is : map_of h c ≡ map_of_list (records_in h c)
  map_is = ap (λ o. map_by o h c) sequential

  none_is : layout_of h c ≡ no_layout
  none_is = ap (λ o. layout_by o h c) sequential

module _ (a b : List (List ℕ)) (h new : FileHead) (serial : Id) (ls : List LiveChanges) (committed : Map) (from : ℕ) (sequential : h.organization ≡ kept.Sequential) (represents : Represents ls (map_of h a) committed)
    (t : ArePositionsBack a h (changes_by serial ls) from b new) where
  abbrev own' : List Change
  own' = changes_by serial ls

  new_sequential : new.organization ≡ kept.Sequential
  new_sequential = kept_so h new t.same ∙ sequential

  still : (key : Key) → changes_key key own' ≡ false → map_of_list (records_in new b) key ≡ map_of_list (records_in h a) key
  still (Number zero) not_own = refl
  still (Number (suc k)) not_own = sym (t.goes.restored (suc k) (omega arith) ∙ passed (changes_key (Number (suc k)) own') _ _ not_own) ∙ t.begins.restored (suc k) (omega arith) ∙ passed (changes_key (Number (suc k)) own') _ _ not_own
  still (Text x) not_own = refl
  still End not_own = refl

  kept_still : (key : Key) → changes_key key own' ≡ false → map_of new b key ≡ map_of h a key
  kept_still key not_own = ap (λ (m : Map). m key) (map_is new b new_sequential) ∙ still key not_own ∙ sym (ap (λ (m : Map). m key) (map_is h a sequential))

  pub partly_still : IsPartlyUndone (h.organization ≡ kept.Sequential) own' (map_of h a) (map_of new b)
  partly_still = record { others = kept_still; own = λ key changed. go key (t.straight key changed) }
    where
      old : (key : Key) → map_of h a key ≡ map_of_list (records_in h a) key
      old key = ap (λ (m : Map). m key) (map_is h a sequential)

      now : (key : Key) → map_of new b key ≡ map_of_list (records_in new b) key
      now key = ap (λ (m : Map). m key) (map_is new b new_sequential)

      go : (key : Key) → IsOnItsWay (Unit {0}) (map_of_list (records_in h a) key) (earliest_before own' key) (map_of_list (records_in new b) key) → IsOnItsWay (h.organization ≡ kept.Sequential) (map_of h a key) (earliest_before own' key) (map_of new b key)
      go key (inl stands) = inl (now key ∙ stands ∙ sym (old key))
      go key (inr (inl first)) = inr (inl (now key ∙ first))
      go key (inr (inr gone)) = inr (inr (sequential, now key ∙ gone.1))

  pub still_images : AllByRecursion (IsOwnOr own') ls → AllByRecursion (λ (l : LiveChanges). HasImages (map_of new b) l.changes) ls
  still_images each = images_still own' ls (map_of h a) (map_of new b) each represents.images (subst (λ (m : Map). HasImages m own') (sym (map_is new b new_sequential)) t.images) kept_still

  pub grouped_positions : AllByRecursion (λ (l : LiveChanges). (other : List (List ℕ)) × GoesBack h l.changes (records_in new b) other) ls → IsGrouped a h ls b new
  grouped_positions go_back = record {
    same = t.same;
    form = subst (λ (o : Kept). any.FormBy o new) (sym new_sequential) t.form;
    laid = subst (λ (o : Kept). any.LaidOutBy o new b) (sym new_sequential) t.laid;
    group = record {
      others = λ key none. kept_still key (not_by serial ls key none);
      images = still_images (own_or serial ls represents.apart);
    };
    layout = ap bare_layout (none_is new b new_sequential) ∙ sym (ap bare_layout (none_is h a sequential));
    can = subst (λ (o : Kept). AllByRecursion (λ (l : LiveChanges). CanRestoreBy o new b l.changes) ls) (sym new_sequential)
        (all_so (λ (l : LiveChanges). (other : List (List ℕ)) × GoesBack h l.changes (records_in new b) other) (λ (l : LiveChanges). (other : List (List ℕ)) × GoesBack new l.changes (records_in new b) other) ls
        (λ l is. (is.0, goes_as h new l.changes (records_in new b) is.0 (sizes_alike h new t.same) is.1)) go_back);
  }

  pub restored_positions : ArePositions own' → ((m : ℕ) → from ≤ m → changes_key (Number m) own' ≡ true → ⊥) → IsRestored a h own' b new
  restored_positions positions none = record {
    same = t.same;
    form = subst (λ (o : Kept). any.FormBy o new) (sym new_sequential) t.form;
    laid = subst (λ (o : Kept). any.LaidOutBy o new b) (sym new_sequential) t.laid;
    map = map_is new b new_sequential ∙ positions_back a b h new own' from t positions none ∙ ap (with_before_images own') (sym (map_is h a sequential));
    layout = none_is new b new_sequential ∙ sym (ap (layout_restored own') (none_is h a sequential));
  }
