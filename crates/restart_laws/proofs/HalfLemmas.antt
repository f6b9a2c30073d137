-- A file in which one branch is undone in part.
use Rattle.std.proofs.Common.{◌≡◌, ◌≤◌, ℕ, zero, suc, ◌||◌, Bool, true, false, cond, List, [], ◌∷◌, ◌++◌, length, map, Option, Some, None, refl, sym, ◌∙◌, ap, subst, arith, inl, inr}
use Rattle.std.specs.Prelude.{is_some, max}
use Rattle.std.specs.Option.{option_map}
use Rattle.std.specs.Str.{bytes_eq}
use Rattle.std.proofs.lemmas.Slice.Eq.{bytes_eq-Decides}
use Rattle.std.proofs.lemmas.List.{length-map}
use Rattle.std.specs.List.{AllByRecursion}
use Rattle.std.specs.FinMap.{get}
use Rattle.file_base.specs.declared.head.FileHead.{FileHead}
use Rattle.file_base.specs.declared.head.Organization.{Organization as Kept}
use Rattle.file_base.specs.declared.head.Organization.TheVariants.{Sequential, Relative, Indexed}
use Rattle.directory_model.specs.record_files.Any as any
use Rattle.directory_model.specs.record_files.Any.{map_of}
use Rattle.index_model.specs.tree_model.Layouts.{Leaf, Layout, no_layout, slots_along}
use Rattle.index_model.specs.Indexes.{Entry}
use Rattle.index_model.specs.Trees.{child_of, leaf_at}
use Rattle.directory_model.specs.index_blocks.Buckets.{bucket_at}
use Rattle.directory_model.specs.index_blocks.Levels.{AllAre, leaf_entries}
use Rattle.directory_model.specs.indexed_file.Chain as leaf
use Rattle.directory_model.specs.indexed_file.Chain.{kind_of, slots_in, IsLeaf}
use Rattle.directory_model.specs.indexed_tree.Files as indexed
use Rattle.directory_model.specs.indexed_tree.Maps.{all_slots}
use Rattle.directory_model.specs.indexed_tree.Rooted.{layout_in}
use Rattle.directory_model.specs.relative_file.Cells as relative
use Rattle.directory_model.specs.seq_file.Layout.{records_in}
use Rattle.directory_model.specs.seq_file.Records.{map_of_list, record_at}
use Rattle.directory_model.specs.sequence_laws.Undoing.{GoesBack, StandsWhole, absent_at, is_taken_away, lowest_absent}
use Rattle.vms_model.specs.Ids.{Id}
use Rattle.vms_model.specs.Keys.{Key, Number, Text}
use Rattle.index_model.specs.records_model.Records.{Change}
use Rattle.bucket_page.specs.Pages.{slots_of}
use Rattle.directory_model.proofs.indexed_file.FileLaws.{all_hold}
use Rattle.directory_model.proofs.indexed_file.SetLaws.{AllHold, held_here}
use Rattle.index_model.specs.records_model.Slots.{Slot, lookup, room_in, room_of, same_bytes, size_of, slot_at, value_in, with_value, IsOrdered}
use Rattle.index_model.proofs.records_model.SlotLaws.{behind_absent, if_false, if_true, same_bytes_are, same_self}
use Rattle.index_model.specs.records_model.History.{LiveChanges, same_id, changes_by, changes_key, current, records}
use Rattle.index_model.proofs.records_model.RecordsLemmas.{same_key}
use Rattle.unit_laws.specs.Units.{Map, Apart, HasImages, HasLatest, IsImage, SerialsDiffer, earliest_before, is_of, latest_after, map_in, restored}
use Rattle.unit_laws.specs.Layouts.{leaf_restored, layout_restored, slot_restored}
use Rattle.unit_laws.proofs.LiveLemmas.{clash, id_is}
use Rattle.unit_laws.proofs.Tests.{both_ways, or_either, or_first, or_second, passed, picked}
use Rattle.world_laws.specs.run_model.World as world
use Rattle.world_laws.specs.run_model.World.{AreUnitsOf, File, IsHalfUndone, IsKept, IsOnItsWay, Node, Organization, TellsUnits, half_undone, leaving, live_leaving}
use Rattle.world_laws.proofs.HalfLemmas.{all_leaving, earliest_leaving, keys_leaving, latest_leaving, now_leaving}
use Rattle.directory_model.specs.Files.{IsFile, IsPlace, file_at, head_at, organized_by}
use Rattle.directory_model.proofs.Places.{file_mapped}
use Rattle.directory_model.specs.Restoring.{AlikeBare, AreLeft, CanRestoreBy, IsLayoutOf, IsPlaceLeft, IsPlaceRestorable, bare, bare_layout, bare_leaf}
use Rattle.directory_model.proofs.Moving.{head_again}
use Rattle.directory_model.proofs.ReadingFiles.{order_is}
use Rattle.directory_model.proofs.ReadingLists.{numbered}
use Rattle.restart_laws.specs.Halves.{AreHalfFiles, DirectoriesAreHalf, HalvesAreFiles, HalvesStayRestorable, IsPlaceOnItsWay, standing_in}
use Rattle.restart_laws.proofs.ListLemmas.{all_as, both_as}
use Rattle.restart_laws.proofs.RestLemmas.{layout_rests, same_now, slots_alike}
use Rattle.restart_laws.proofs.RestorableLemmas.{none_images, of_one}
use Rattle.restart_laws.proofs.UndoLemmas.{all_restored, lookup_restored, ordered_restored, slot_bare}

-- The records.

-- A key that the branch did not change has what the world has, where all that others changed stands.
stands_beside : (s : Id) (ls : List LiveChanges) (m n : Map) (key : Key) → SerialsDiffer ls → AllByRecursion (λ (l : LiveChanges). HasLatest m l.changes) ls → AllByRecursion (λ (l : LiveChanges). same_id s l.serial ≡ false → HasLatest n l.changes) ls →
    changes_key key (changes_by s ls) ≡ false → restored ls key (m key) ≡ restored ls key (n key) → m key ≡ n key
stands_beside s [] m n key differ p q none e = e
stands_beside s (l ∷ ls) m n key differ p q none e = go (same_id s l.serial) (changes_key key l.changes) refl refl (stands_beside s ls m n key differ.1 p.1 q.1)
  where
    tail : changes_key key l.changes ≡ false → restored ls key (m key) ≡ restored ls key (n key)
    tail b = sym (ap (λ (x : Bool). cond x (earliest_before l.changes key) (restored ls key (m key))) b) ∙ e ∙ ap (λ (x : Bool). cond x (earliest_before l.changes key) (restored ls key (n key))) b

    rest : same_id s l.serial ≡ true → AllByRecursion (λ (k : LiveChanges). HasLatest n k.changes) ls
    rest is = both_as (λ (k : LiveChanges). same_id l.serial k.serial ≡ false) (λ (k : LiveChanges). same_id s k.serial ≡ false → HasLatest n k.changes) (λ (k : LiveChanges). HasLatest n k.changes) ls
        (λ k other so. so (ap (λ (y : Id). same_id y k.serial) (id_is s l.serial is) ∙ other)) differ.0 q.1

    own : (a : Bool) → same_id s l.serial ≡ a → changes_key key (cond a l.changes (changes_by s ls)) ≡ false
    own a is = ap (λ (x : Bool). changes_key key (cond x l.changes (changes_by s ls))) (sym is) ∙ none

    go : (a b : Bool) → same_id s l.serial ≡ a → changes_key key l.changes ≡ b → (changes_key key (changes_by s ls) ≡ false → restored ls key (m key) ≡ restored ls key (n key) → m key ≡ n key) → m key ≡ n key
    go true true a b later = clash (changes_key key l.changes) b (own true a)
    go true false a b later = same_now ls m n key p.1 (rest a) (tail b)
    go false true a b later = p.0 key b ∙ sym (q.0 a key b)
    go false false a b later = later (own false a) (tail b)

-- The layout.

-- changes whose keys had this before
abbrev backs : Map → List Change → List Change
backs standing cs = map (λ (c : Change). record c { before = standing c.key }) cs

keys_back : (standing : Map) (key : Key) (cs : List Change) → changes_key key (backs standing cs) ≡ changes_key key cs
keys_back standing key [] = refl
keys_back standing key (c ∷ cs) = ap (λ (b : Bool). is_of key c || b) (keys_back standing key cs)

earliest_back : (standing : Map) (key : Key) (cs : List Change) → changes_key key cs ≡ true → earliest_before (backs standing cs) key ≡ standing key
earliest_back standing key [] k = let none : ⊥ = cc in absurd none
earliest_back standing key (c ∷ cs) k = go (changes_key key cs) refl (earliest_back standing key cs)
  where
    here : changes_key key cs ≡ false → is_of key c ≡ true
    here none = elim (or_either (is_of key c) (changes_key key cs) k) [ inl is ↦ is | inr later ↦ clash (changes_key key cs) later none ]

    go : (b : Bool) → changes_key key cs ≡ b → (changes_key key cs ≡ true → earliest_before (backs standing cs) key ≡ standing key) → cond (changes_key key (backs standing cs)) (earliest_before (backs standing cs) key) (standing c.key) ≡ standing key
    go true is later = ap (λ (x : Bool). cond x (earliest_before (backs standing cs) key) (standing c.key)) (keys_back standing key cs ∙ is) ∙ later is
    go false is later = ap (λ (x : Bool). cond x (earliest_before (backs standing cs) key) (standing c.key)) (keys_back standing key cs ∙ is) ∙ ap standing (sym (same_key key c.key (here is)))

-- Rooms: each record that stands has room in its slot.

hold_append : (a b : List Slot) → AllHold a → AllHold b → AllHold (a ++ b)
hold_append [] b p q = q
hold_append (s ∷ a) b p q = (p.0, hold_append a b p.1 q)

all_along : (h : FileHead) (content : List (List ℕ)) (es : List Entry) → AllAre (λ n. IsLeaf h (bucket_at h content n)) (map child_of es) → AllHold (slots_along (map (leaf_at (slots_in h content)) es))
all_along h content [] leaves = tt
all_along h content (e ∷ es) leaves =
    hold_append (slots_in h content e.child) (slots_along (map (leaf_at (slots_in h content)) es)) (all_hold h (slots_of (kind_of h) (bucket_at h content e.child)) leaves.0.bucket.packed.suit) (all_along h content es leaves.1)

-- alike slots have the same room for a key
room_bare : (ss : List Slot) (k : List ℕ) → room_of (map bare ss) k ≡ room_of ss k
room_bare [] k = refl
room_bare (s ∷ ss) k = step (same_bytes k s.key) (room_bare ss k)
  where
    step : (x : Bool) → room_of (map bare ss) k ≡ room_of ss k → room_in (cond x (Some (bare s)) (slot_at k (map bare ss))) ≡ room_in (cond x (Some s) (slot_at k ss))
    step true later = refl
    step false later = later

-- what stands at the key of each slot has room there
abbrev AllFit : Map → List Slot → Type 0
AllFit standing ss = AllByRecursion (λ (s : Slot). size_of (standing (Text s.key)) ≤ s.room) ss

all_fit : (standing : Map) (ss : List Slot) → IsOrdered ss → ((k : List ℕ) → is_some (slot_at k ss) ≡ true → size_of (standing (Text k)) ≤ room_of ss k) → AllFit standing ss
all_fit standing [] ordered fits = tt
all_fit standing (s ∷ ss) ordered fits = (subst (λ (r : ℕ). size_of (standing (Text s.key)) ≤ r) (ap room_in here) (fits s.key (ap is_some here)), all_fit standing ss ordered.1 rest)
  where
    here : slot_at s.key (s ∷ ss) ≡ Some s
    here = if_true (same_bytes s.key s.key) (Some s) (slot_at s.key ss) (same_self s.key)

    rest : (k : List ℕ) → is_some (slot_at k ss) ≡ true → size_of (standing (Text k)) ≤ room_of ss k
    rest k some = elim (both_ways (same_bytes k s.key)) [
      | inl is ↦ clash (is_some (slot_at k ss)) some (ap (λ (x : List ℕ). is_some (slot_at x ss)) (same_bytes_are k s.key is) ∙ ap is_some (behind_absent s.key ss ordered.0))
      | inr other ↦
          let behind : slot_at k (s ∷ ss) ≡ slot_at k ss = if_false (same_bytes k s.key) (Some s) (slot_at k ss) other in
          subst (λ (r : ℕ). size_of (standing (Text k)) ≤ r) (ap room_in behind) (fits k (ap is_some behind ∙ some))
    ]

-- slots in which such images are set are alike but for their records
bare_same : (standing : Map) (cs : List Change) (s : Slot) → size_of (standing (Text s.key)) ≤ s.room → bare (slot_restored (backs standing cs) s) ≡ bare s
bare_same standing cs s fits = step (changes_key (Text s.key) cs) refl
  where
    set : changes_key (Text s.key) cs ≡ true → bare (with_value (earliest_before (backs standing cs) (Text s.key)) s) ≡ bare s
    set is =
        let small : size_of (earliest_before (backs standing cs) (Text s.key)) ≤ s.room = subst (λ (v : Option (List ℕ)). size_of v ≤ s.room) (sym (earliest_back standing (Text s.key) cs is)) fits in
        let most : max s.room (size_of (earliest_before (backs standing cs) (Text s.key))) ≡ s.room = omega (arith, small) in
        ap (λ (r : ℕ). bare (record s { room = r })) most

    step : (x : Bool) → changes_key (Text s.key) cs ≡ x → bare (slot_restored (backs standing cs) s) ≡ bare s
    step true is = ap (λ (b : Bool). bare (cond b (with_value (earliest_before (backs standing cs) (Text s.key)) s) s)) (keys_back standing (Text s.key) cs ∙ is) ∙ set is
    step false is = ap (λ (b : Bool). bare (cond b (with_value (earliest_before (backs standing cs) (Text s.key)) s) s)) (keys_back standing (Text s.key) cs ∙ is)

bucket_bare : (standing : Map) (cs : List Change) (ss : List Slot) → AllFit standing ss → map bare (map (slot_restored (backs standing cs)) ss) ≡ map bare ss
bucket_bare standing cs [] fits = refl
bucket_bare standing cs (s ∷ ss) fits = ap (λ (x : Slot). x ∷ map bare (map (slot_restored (backs standing cs)) ss)) (bare_same standing cs s fits.0) ∙ ap (λ (xs : List Slot). bare s ∷ xs) (bucket_bare standing cs ss fits.1)

all_parts : {A : Type 0} (P : A → Type 0) (a b : List A) → AllByRecursion P (a ++ b) → AllByRecursion P a × AllByRecursion P b
all_parts P [] b all = (tt, all)
all_parts P (x ∷ a) b all = let more = all_parts P a b all.1 in ((all.0, more.0), more.1)

leaves_bare : (standing : Map) (cs : List Change) (bs : List Leaf) → AllFit standing (slots_along bs) → map bare_leaf (map (leaf_restored (backs standing cs)) bs) ≡ map bare_leaf bs
leaves_bare standing cs [] fits = refl
leaves_bare standing cs (b ∷ bs) fits = λ i. record { lowest = b.lowest; slots = bucket_bare standing cs b.slots parts.0 i } ∷ leaves_bare standing cs bs parts.1 i
  where
    parts : AllFit standing b.slots × AllFit standing (slots_along bs)
    parts = all_parts (λ (s : Slot). size_of (standing (Text s.key)) ≤ s.room) b.slots (slots_along bs) fits

layout_bare : (standing : Map) (cs : List Change) (l : Layout) → AllFit standing (slots_along l.leaves) → bare_layout (layout_restored (backs standing cs) l) ≡ bare_layout l
layout_bare standing cs l fits = λ i. record { leaves = leaves_bare standing cs l.leaves fits i; index = l.index }

module _ (serial : Id) (standing : List ℕ → Map) (content : List (List ℕ)) (h : FileHead) (file : File) (apart : Apart file.history.live) where
  abbrev own_changes : List Change
  own_changes = changes_by serial file.history.live

  -- what stands at a key that has no slot
  no_slot : (k : List ℕ) → standing file.name ≡ indexed.map_of h content → AlikeBare (layout_in h content) file.layout → slot_at k (slots_along file.layout.leaves) ≡ None → standing file.name (Text k) ≡ None
  no_slot k named alike none =
      let gone : slot_at k (all_slots h content) ≡ None = slot_bare (all_slots h content) (slots_along file.layout.leaves) k (slots_alike (layout_in h content) file.layout alike) none in
      ap (λ (m : Map). m (Text k)) named ∙ ap value_in gone

  -- a file that is not indexed has no layout then either
  none_half : (layout : Layout) → AlikeBare layout file.layout → file.layout ≡ no_layout → AlikeBare layout (half_undone serial standing file).layout
  none_half layout alike own = alike ∙ ap bare_layout own ∙ sym (ap (λ (l : Layout). bare_layout (layout_restored (backs (standing file.name) own_changes) l)) own)

  alike_half : (o : Kept) → any.FormBy o h → any.LaidOutBy o h content → standing file.name ≡ any.map_by o h content → AlikeBare (any.layout_by o h content) file.layout → IsLayoutOf o file → AlikeBare (any.layout_by o h content) (half_undone serial standing file).layout
  alike_half Sequential form laid named alike own = none_half no_layout alike own
  alike_half Relative form laid named alike own = none_half no_layout alike own
  alike_half Indexed form laid named alike own = alike ∙ sym (layout_bare (standing file.name) own_changes file.layout (all_fit (standing file.name) (slots_along file.layout.leaves) own.ordered fits))
    where
      rooms : (k : List ℕ) → room_of (slots_along file.layout.leaves) k ≡ room_of (all_slots h content) k
      rooms k = sym (room_bare (slots_along file.layout.leaves) k) ∙ ap (λ (ss : List Slot). room_of ss k) (sym (slots_alike (layout_in h content) file.layout alike)) ∙ room_bare (all_slots h content) k

      fits : (k : List ℕ) → is_some (slot_at k (slots_along file.layout.leaves)) ≡ true → size_of (standing file.name (Text k)) ≤ room_of (slots_along file.layout.leaves) k
      fits k there = subst (λ (r : ℕ). size_of (standing file.name (Text k)) ≤ r) (sym (rooms k)) (subst (λ (m : Map). size_of (m (Text k)) ≤ room_of (all_slots h content) k) (sym named)
          (held_here k (all_slots h content) (all_along h content (leaf_entries h content) laid.leaves)))

  layout_half : (o : Kept) → standing file.name ≡ any.map_by o h content → AlikeBare (any.layout_by o h content) file.layout → IsLayoutOf o file → IsLayoutOf o (half_undone serial standing file)
  layout_half Sequential named alike own = ap (layout_restored (backs (standing file.name) own_changes)) own
  layout_half Relative named alike own = ap (layout_restored (backs (standing file.name) own_changes)) own
  layout_half Indexed named alike own = record {
    ordered = subst IsOrdered (sym (all_restored cs file.layout.leaves)) (ordered_restored cs (slots_along file.layout.leaves) own.ordered);
    tells = λ k.
        ap (λ (ss : List Slot). lookup ss k) (all_restored cs file.layout.leaves)
        ∙ lookup_restored cs (slots_along file.layout.leaves) k (λ none here. earliest_back (standing file.name) (Text k) own_changes (sym (keys_back (standing file.name) (Text k) own_changes) ∙ here) ∙ no_slot k named alike none)
        ∙ ap (λ (v : Option (List ℕ)). cond (changes_key (Text k) cs) (earliest_before cs (Text k)) v) (own.tells k)
        ∙ value k (changes_key (Text k) own_changes) refl
        ∙ sym (now_leaving serial (standing file.name) file.history.live (records file.history) (Text k) apart);
  }
    where
      cs : List Change
      cs = backs (standing file.name) own_changes

      value : (k : List ℕ) (b : Bool) → changes_key (Text k) own_changes ≡ b → cond (changes_key (Text k) cs) (earliest_before cs (Text k)) (get (current file.history) (Text k)) ≡ cond (changes_key (Text k) own_changes) (standing file.name (Text k)) (get (current file.history) (Text k))
      value k true is = ap (λ (x : Bool). cond x (earliest_before cs (Text k)) (get (current file.history) (Text k))) (keys_back (standing file.name) (Text k) own_changes ∙ is) ∙ earliest_back (standing file.name) (Text k) own_changes is
          ∙ sym (ap (λ (x : Bool). cond x (standing file.name (Text k)) (get (current file.history) (Text k))) is)
      value k false is = ap (λ (x : Bool). cond x (earliest_before cs (Text k)) (get (current file.history) (Text k))) (keys_back (standing file.name) (Text k) own_changes ∙ is)
          ∙ sym (ap (λ (x : Bool). cond x (standing file.name (Text k)) (get (current file.history) (Text k))) is)

-- The positions of a sequential file.
keys_numbered : (n : ℕ) (rs : List (List ℕ)) → map (λ (e : Key × List ℕ). e.0) (numbered n rs) ≡ world.numbered n (length (numbered n rs))
keys_numbered n [] = refl
keys_numbered n (r ∷ rs) = ap (λ (ks : List Key). Number n ∷ ks) (keys_numbered (suc n) rs ∙ ap (λ (m : ℕ). world.numbered m (length (numbered (suc n) rs))) (omega arith))

kept_by : (o : Kept) (w : Organization) (content : List (List ℕ)) (h : FileHead) (file : File) → h.organization ≡ o → w ≡ organized_by o h → IsFile content h file → IsKept w file.history
kept_by Sequential w content h file is organized of =
    let order = order_is content h file of is in
    subst (λ (x : Organization). IsKept x file.history) (sym organized)
    (ap (map (λ (e : Key × List ℕ). e.0)) order ∙ keys_numbered 1 (records_in h content) ∙ ap (λ (es : List (Key × List ℕ)). world.numbered 1 (length es)) (sym order))
kept_by Relative w content h file is organized of = subst (λ (x : Organization). IsKept x file.history) (sym organized) tt
kept_by Indexed w content h file is organized of = subst (λ (x : Organization). IsKept x file.history) (sym organized) tt

pub halves_are_files : HalvesAreFiles
halves_are_files content h file units serial standing left tells way named =
    let is = half in
    record {
      half = record {
        images = λ key k. subst (IsImage (changes_by serial file.history.live) key) (sym (ap (λ (m : Map). m key) named))
            (of_one (HasImages (map_of h content)) serial file.history.live (none_images (map_of h content)) left.represents.images key k);
        ends = λ key k. subst (IsOnItsWay (file.organization ≡ world.Sequential) (latest_after (changes_by serial file.history.live) key) (earliest_before (changes_by serial file.history.live) key)) (sym (ap (λ (m : Map). m key) named)) (way.own key k);
        kept = kept_by h.organization file.organization content h (half_undone serial standing file) refl left.head.organization is;
      };
      is = is;
    }
  where
    at : (key : Key) → get (current (half_undone serial standing file).history) key ≡ map_of h content key
    at key = now_leaving serial (standing file.name) file.history.live (records file.history) key tells.notes.orderly.represents.apart ∙ go (changes_key key (changes_by serial file.history.live)) refl
      where
        go : (b : Bool) → changes_key key (changes_by serial file.history.live) ≡ b → cond (changes_key key (changes_by serial file.history.live)) (standing file.name key) (get (current file.history) key) ≡ map_of h content key
        go true is = ap (λ (x : Bool). cond x (standing file.name key) (get (current file.history) key)) is ∙ ap (λ (m : Map). m key) named
        go false is = ap (λ (x : Bool). cond x (standing file.name key) (get (current file.history) key)) is ∙ stands_beside serial file.history.live (map_in (current file.history)) (map_of h content) key tells.notes.differ tells.notes.orderly.latest way.others is
            (tells.notes.orderly.represents.restores key ∙ sym (left.represents.restores key))

    half : IsFile content h (half_undone serial standing file)
    half = record {
      head = head_again h file (half_undone serial standing file).history (half_undone serial standing file).layout left.head;
      laid = left.laid;
      records = at;
      layout = layout_rests h.organization h content (half_undone serial standing file) left.laid at
          (alike_half serial standing content h file tells.notes.orderly.represents.apart h.organization left.head.form left.laid named left.layout left.own)
          (layout_half serial standing content h file tells.notes.orderly.represents.apart h.organization named left.layout left.own);
    }

-- What is left of it.

all_left : (P : Key → Type 0) (standing : Map) (newer cs : List Change) → AllByRecursion (λ (c : Change). P c.key) cs → AllByRecursion (λ (c : Change). P c.key) (leaving standing newer cs)
all_left P standing newer [] all = tt
all_left P standing newer (c ∷ cs) all = go (changes_key c.key newer) (all_left P standing (c ∷ newer) cs all.1)
  where
    go : (b : Bool) → AllByRecursion (λ (d : Change). P d.key) (leaving standing (c ∷ newer) cs) → AllByRecursion (λ (d : Change). P d.key) (cond b c (record c { after = standing c.key }) ∷ leaving standing (c ∷ newer) cs)
    go true later = (all.0, later)
    go false later = (all.0, later)

-- Positions of a sequential file.

-- of a key that has its latest after image all images stay
image_left : (standing : Map) (key : Key) (v : Option (List ℕ)) (newer cs : List Change) → (changes_key key newer ≡ false → standing key ≡ latest_after cs key) → IsImage cs key v → IsImage (leaving standing newer cs) key v
image_left standing key v newer [] latest image = absurd image
image_left standing key v newer (c ∷ cs) latest (inr older) = inr (image_left standing key v (c ∷ newer) cs later older)
  where
    later : (is_of key c || changes_key key newer) ≡ false → standing key ≡ latest_after cs key
    later none = latest (or_second (is_of key c) (changes_key key newer) none) ∙ passed (is_of key c) c.after (latest_after cs key) (or_first (is_of key c) (changes_key key newer) none)
image_left standing key v newer (c ∷ cs) latest (inl here) = go (changes_key c.key newer) refl
  where
    at_key : key ≡ c.key
    at_key = same_key key c.key here.0

    newest : changes_key c.key newer ≡ false → c.after ≡ standing c.key
    newest none = sym (picked (is_of key c) c.after (latest_after cs key) here.0) ∙ sym (latest (ap (λ (k : Key). changes_key k newer) at_key ∙ none)) ∙ ap standing at_key

    go : (b : Bool) → changes_key c.key newer ≡ b → IsImage (cond b c (record c { after = standing c.key }) ∷ leaving standing (c ∷ newer) cs) key v
    go true is = inl here
    go false is = inl (here.0, elim here.1 [ inl was ↦ inl was | inr now ↦ inr (now ∙ newest is) ])

lowest_left : (standing : Map) (newer cs : List Change) → lowest_absent (leaving standing newer cs) ≡ lowest_absent cs
lowest_left standing newer [] = refl
lowest_left standing newer (c ∷ cs) = go (changes_key c.key newer) (lowest_left standing (c ∷ newer) cs)
  where
    go : (b : Bool) → lowest_absent (leaving standing (c ∷ newer) cs) ≡ lowest_absent cs → lowest_absent (cond b c (record c { after = standing c.key }) ∷ leaving standing (c ∷ newer) cs) ≡ absent_at c (lowest_absent cs)
    go true later = ap (absent_at c) later
    go false later = ap (absent_at c) later

goes_left : (h : FileHead) (serial : Id) (standing : Map) (cs : List Change) (now back : List (List ℕ)) → standing ≡ map_of_list now → GoesBack h cs now back → GoesBack h (leaving standing [] cs) now back
goes_left h serial standing cs now back stands g = record {
  restored = λ n one. g.restored n one ∙ ap (λ (b : Bool). cond b (earliest_before cs (Number n)) (record_at now n)) (sym (keys n)) ∙ ap (λ (v : Option (List ℕ)). cond (changes_key (Number n) (leaving standing [] cs)) v (record_at now n)) (sym (earliest_leaving serial standing (Number n) [] cs));
  own = λ n away x. keys n ∙ g.own n (taken n true away) x;
  whole = λ m n away off le changed. whole n (sym (keys n) ∙ changed) (g.whole m n (taken m true away) off le (sym (keys n) ∙ changed));
  same = λ n r s away is was. g.same n r s (taken n false away) is was;
  records = g.records;
  fits = g.fits;
}
  where
    keys : (n : ℕ) → changes_key (Number n) (leaving standing [] cs) ≡ changes_key (Number n) cs
    keys n = keys_leaving serial standing (Number n) [] cs

    taken : (n : ℕ) (b : Bool) → is_taken_away (lowest_absent (leaving standing [] cs)) n ≡ b → is_taken_away (lowest_absent cs) n ≡ b
    taken n b away = ap (λ (o : Option ℕ). is_taken_away o n) (sym (lowest_left standing [] cs)) ∙ away

    at : (n : ℕ) → standing (Number n) ≡ record_at now n
    at n = ap (λ (m : Map). m (Number n)) stands

    whole : (n : ℕ) → changes_key (Number n) cs ≡ true → StandsWhole cs now n → StandsWhole (leaving standing [] cs) now n
    whole n changed w = record {
      latest = sym (at n) ∙ sym (latest_leaving serial standing (Number n) [] cs refl changed);
      absent = image_left standing (Number n) None [] cs (λ none. at n ∙ w.latest) w.absent;
    }

can_leaving : (o : Kept) (h : FileHead) (content : List (List ℕ)) (serial : Id) (standing : Map) (cs : List Change) → standing ≡ any.map_by o h content → CanRestoreBy o h content cs → CanRestoreBy o h content (leaving standing [] cs)
can_leaving Sequential h content serial standing cs named can = (can.0, goes_left h serial standing cs (records_in h content) can.0 named can.1)
can_leaving Relative h content serial standing cs named can =
    all_as (λ (c : Change). relative.Suits h c.key (earliest_before cs c.key)) (λ (c : Change). relative.Suits h c.key (earliest_before (leaving standing [] cs) c.key)) (leaving standing [] cs)
    (λ c suits. subst (relative.Suits h c.key) (sym (earliest_leaving serial standing c.key [] cs)) suits) (all_left (λ (key : Key). relative.Suits h key (earliest_before cs key)) standing [] cs can)
can_leaving Indexed h content serial standing cs named can =
    all_as (λ (c : Change). leaf.Suits h c.key (earliest_before cs c.key) × (size_of (earliest_before cs c.key) ≤ indexed.room_at h content c.key))
    (λ (c : Change). leaf.Suits h c.key (earliest_before (leaving standing [] cs) c.key) × (size_of (earliest_before (leaving standing [] cs) c.key) ≤ indexed.room_at h content c.key)) (leaving standing [] cs)
    (λ c fits. subst (λ (v : Option (List ℕ)). leaf.Suits h c.key v × (size_of v ≤ indexed.room_at h content c.key)) (sym (earliest_leaving serial standing c.key [] cs)) fits)
    (all_left (λ (key : Key). leaf.Suits h key (earliest_before cs key) × (size_of (earliest_before cs key) ≤ indexed.room_at h content key)) standing [] cs can)

pub halves_stay_restorable : HalvesStayRestorable
halves_stay_restorable content h file serial standing named can = all_leaving serial (standing file.name) (λ (l : LiveChanges). CanRestoreBy h.organization h content l.changes) file.history.live
    (λ l so. can_leaving h.organization h content serial (standing file.name) l.changes named so) can

-- All files of a node.

named_head : (content : List (List ℕ)) (heads : List (Option FileHead)) (f : ℕ) (h : FileHead) → head_at heads f ≡ Some h → ((g : ℕ) (k : FileHead) → head_at heads g ≡ Some k → h.name ≡ k.name → g ≡ f) → standing_in content heads h.name ≡ map_of h content
named_head content [] f h there one = let none : ⊥ = cc in absurd none
named_head content (None ∷ heads) zero h there one = let none : ⊥ = cc in absurd none
named_head content (None ∷ heads) (suc f) h there one = named_head content heads f h there (λ g k at same. let next = one (suc g) k at same in omega (arith, next))
named_head content (Some first ∷ heads) zero h there one =
    let same : first ≡ h = cc in
    ap (λ (b : Bool). cond b (map_of first content) (standing_in content heads h.name)) ((bytes_eq-Decides h.name first.name).1 (ap (λ (k : FileHead). k.name) (sym same))) ∙ ap (λ (k : FileHead). map_of k content) same
named_head content (Some first ∷ heads) (suc f) h there one = go (bytes_eq h.name first.name) refl (named_head content heads f h there (λ g k at same. let next = one (suc g) k at same in omega (arith, next)))
  where
    go : (b : Bool) → bytes_eq h.name first.name ≡ b → standing_in content heads h.name ≡ map_of h content → cond (bytes_eq h.name first.name) (map_of first content) (standing_in content heads h.name) ≡ map_of h content
    go true is later = let front = one 0 first refl ((bytes_eq-Decides h.name first.name).0 is) in absurd (omega (arith, front))
    go false is later = ap (λ (b : Bool). cond b (map_of first content) (standing_in content heads h.name)) is ∙ later

-- the file of a head, and the head of a file
file_of : (content : List (List ℕ)) (f : ℕ) (o : Option FileHead) (p : Option File) (h : FileHead) → o ≡ Some h → IsPlaceLeft content f o p → (file : File) × (p ≡ Some file) × (file.name ≡ h.name)
file_of content f None p h there left = let none : ⊥ = cc in absurd none
file_of content f (Some k) None h there left = absurd left
file_of content f (Some k) (Some file) h there left = let same : k ≡ h = cc in (file, refl, left.0.head.name ∙ ap (λ (x : FileHead). x.name) same)

module _ (content : List (List ℕ)) (heads : List (Option FileHead)) (n : Node) (serial : Id) (left : AreLeft content heads n.durable.directory) (units : AreUnitsOf n) (beside : (f : ℕ) → IsPlaceOnItsWay serial content (head_at heads f) (file_at n.durable.directory f)) where
  abbrev standing : List ℕ → Map
  standing = standing_in content heads

  -- no other head has the name of a file's
  one_head : (f : ℕ) (file : File) (h : FileHead) → file_at n.durable.directory f ≡ Some file → file.name ≡ h.name → (g : ℕ) (k : FileHead) → head_at heads g ≡ Some k → h.name ≡ k.name → g ≡ f
  one_head f file h there named g k at same =
      let x = file_of content g (head_at heads g) (file_at n.durable.directory g) k at (left.each g) in
      units.names g f x.0 file x.1 there (x.2 ∙ sym same ∙ sym named)

  half_place : (f : ℕ) (o : Option FileHead) (p : Option File) → head_at heads f ≡ o → file_at n.durable.directory f ≡ p → IsPlaceLeft content f o p → IsPlaceOnItsWay serial content o p →
      ((file : File) → p ≡ Some file → IsHalfUndone serial standing file) × IsPlace content f o (option_map (half_undone serial standing) p) × IsPlaceRestorable content o (option_map (half_undone serial standing) p)
  half_place f None None at there l b = ((λ file is. let none : ⊥ = cc in absurd none), tt, tt)
  half_place f None (Some file) at there l b = absurd l
  half_place f (Some h) None at there l b = absurd l
  half_place f (Some h) (Some file) at there l b =
      let named : standing file.name ≡ map_of h content = ap standing l.0.head.name ∙ named_head content heads f h at (one_head f file h there l.0.head.name) in
      let half = halves_are_files content h file n.durable.units serial standing l.0 (units.tells f file there) b named in
      ((λ x is. let same : file ≡ x = cc in subst (IsHalfUndone serial standing) same half.half), (half.is, l.1), halves_stay_restorable content h file serial standing named l.0.can)

  pub are_half : AreHalfFiles serial content heads n.durable.directory
  are_half = record {
    half = λ f file there. (half_place f (head_at heads f) (file_at n.durable.directory f) refl refl (left.each f) (beside f)).0 file there;
    are = record {
      heads_long = left.heads_long;
      directory_long = length-map n.durable.directory (option_map (half_undone serial standing)) ∙ left.directory_long;
      each = λ f. subst (λ (p : Option File). IsPlace content f (head_at heads f) p) (sym (file_mapped (half_undone serial standing) n.durable.directory f)) (half_place f (head_at heads f) (file_at n.durable.directory f) refl refl (left.each f) (beside f)).1;
    };
    restorable = λ f. subst (λ (p : Option File). IsPlaceRestorable content (head_at heads f) p) (sym (file_mapped (half_undone serial standing) n.durable.directory f)) (half_place f (head_at heads f) (file_at n.durable.directory f) refl refl (left.each f) (beside f)).2;
  }

pub directories_are_half : DirectoriesAreHalf
directories_are_half = are_half
