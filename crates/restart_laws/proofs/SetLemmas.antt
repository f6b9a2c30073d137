-- Branches of one file, once one of them changed one key more.
use Rattle.std.proofs.Common.{◌≡◌, ℕ, ◌≤◌, Bool, true, false, cond, List, [], ◌∷◌, length, Option, Some, None, IfSome, refl, ap, arith}
use Rattle.std.specs.Cmp.{tied_itself}
use Rattle.std.specs.Ordering.{is_eq}
use Rattle.std.specs.List.{AllByRecursion}
use Rattle.file_base.specs.declared.head.FileHead.{FileHead}
use Rattle.file_base.specs.declared.head.Organization.TheVariants.{Relative, Indexed}
use Rattle.directory_model.specs.change_set.Files.{SameFile}
use Rattle.directory_model.specs.relative_file.Cells as relative
use Rattle.directory_model.specs.indexed_file.Chain as leaf
use Rattle.directory_model.specs.indexed_tree.Files as indexed
use Rattle.directory_model.specs.indexed_tree.Rooted.{IsRooted}
use Rattle.vms_model.specs.Ids.{Id}
use Rattle.vms_model.specs.Keys.{Key, Number, Text, End}
use Rattle.index_model.specs.records_model.Records.{Change}
use Rattle.index_model.specs.records_model.Slots.{size_of}
use Rattle.index_model.specs.records_model.History.{LiveChanges, same_id, changes_key, with_change}
use Rattle.index_model.proofs.records_model.KeyLemmas.{key_cmp_total}
use Rattle.unit_laws.specs.Units.{earliest_before, is_changed, is_of, SerialsDiffer}
use Rattle.unit_laws.proofs.Tests.{or_one, or_other}
use Rattle.directory_model.specs.Files.{IsWithin}
use Rattle.directory_model.specs.Restoring.{CanRestoreBy}
use Rattle.restart_laws.proofs.FoundLemmas.{Keeps, cell_suits, slot_suits}
use Rattle.restart_laws.proofs.ListLemmas.{all_as, both_as, change_all}
use Rattle.restart_laws.proofs.UndoLemmas.{of_key}
use Rattle.restart_laws.proofs.RestorableLemmas.{suits_relative_same, suits_indexed_same}

-- each of some changes is of a key that they change
own_keys : (cs : List Change) → AllByRecursion (λ (d : Change). changes_key d.key cs ≡ true) cs
own_keys [] = tt
own_keys (c ∷ cs) = (
  or_one (is_of c.key c) (changes_key c.key cs) (ap is_eq (tied_itself key_cmp_total c.key)),
  all_as (λ (d : Change). changes_key d.key cs ≡ true) (λ (d : Change). changes_key d.key (c ∷ cs) ≡ true) cs (λ d own. or_other (is_of d.key c) (changes_key d.key cs) own) (own_keys cs),
)

-- With a change more, a fact of a key and what is restored there holds of each of the changes again.
own_images : (T : Key → Option (List ℕ) → Type 0) (c : Change) (cs : List Change) → T c.key c.before → AllByRecursion (λ (d : Change). T d.key (earliest_before cs d.key)) cs → AllByRecursion (λ (d : Change). T d.key (earliest_before (c ∷ cs) d.key)) (c ∷ cs)
own_images T c cs found all = (
  here (changes_key c.key cs) refl,
  both_as (λ (d : Change). changes_key d.key cs ≡ true) (λ (d : Change). T d.key (earliest_before cs d.key)) (λ (d : Change). T d.key (earliest_before (c ∷ cs) d.key)) cs
      (λ d own was. still (changes_key d.key cs) d own was) (own_keys cs) all,
)
  where
    here : (x : Bool) → changes_key c.key cs ≡ x → T c.key (cond x (earliest_before cs c.key) c.before)
    here true is = of_key (λ (key : Key). T key (earliest_before cs key)) cs c.key all is
    here false is = found

    still : (x : Bool) (d : Change) → x ≡ true → T d.key (earliest_before cs d.key) → T d.key (cond x (earliest_before cs d.key) c.before)
    still true d own was = was
    still false d own was = absurd cc

-- Relative files.

cells_moved : (h new : FileHead) (cs : List Change) → SameFile h new → AllByRecursion (λ (d : Change). relative.Suits h d.key (earliest_before cs d.key)) cs → AllByRecursion (λ (d : Change). relative.Suits new d.key (earliest_before cs d.key)) cs
cells_moved h new cs same all = all_as (λ (d : Change). relative.Suits h d.key (earliest_before cs d.key)) (λ (d : Change). relative.Suits new d.key (earliest_before cs d.key)) cs
    (λ d suits. suits_relative_same h new d.key (earliest_before cs d.key) same suits) all

-- what a key has suits it where any value does
cell_found : (h : FileHead) (a : List (List ℕ)) (key : Key) (value : Option (List ℕ)) → relative.IsRelative h → IsWithin a h → relative.Suits h key value → relative.Suits h key (relative.map_of h a key)
cell_found h a (Number n) value form within suits = (suits.0, cell_suits a h n form within suits.0)
cell_found h a (Text t) value form within suits = absurd suits
cell_found h a End value form within suits = absurd suits

pub cells_set : (h new : FileHead) (a b : List (List ℕ)) (s : Id) (key : Key) (value : Option (List ℕ)) (ls : List LiveChanges) → relative.IsRelative h → IsWithin a h → relative.Suits h key value → SameFile h new → SerialsDiffer ls →
    AllByRecursion (λ (l : LiveChanges). CanRestoreBy Relative h a l.changes) ls → AllByRecursion (λ (l : LiveChanges). CanRestoreBy Relative new b l.changes) (with_change s (record { key = key; before = relative.map_of h a key; after = value }) ls)
cells_set h new a b s key value ls form within suits same differ can =
    let c : Change = record { key = key; before = relative.map_of h a key; after = value } in
    let moved = all_as (λ (l : LiveChanges). CanRestoreBy Relative h a l.changes) (λ (l : LiveChanges). CanRestoreBy Relative new b l.changes) ls (λ l so. cells_moved h new l.changes same so) can in
    change_all (CanRestoreBy Relative new b) (CanRestoreBy Relative new b) s c ls differ tt
    (λ cs so. own_images (λ k v. relative.Suits new k v) c cs (suits_relative_same h new key (relative.map_of h a key) same (cell_found h a key value form within suits)) so) moved
    (all_as (λ (l : LiveChanges). CanRestoreBy Relative new b l.changes) (λ (l : LiveChanges). same_id s l.serial ≡ false → CanRestoreBy Relative new b l.changes) ls (λ l so other. so) moved)

-- Indexed files.

abbrev Fits : FileHead → List (List ℕ) → Key → Option (List ℕ) → Type 0
Fits h b key v = leaf.Suits h key v × (size_of v ≤ indexed.room_at h b key)

slots_moved : (h new : FileHead) (a b : List (List ℕ)) (cs : List Change) → SameFile h new → ((key : Key) → changes_key key cs ≡ true → indexed.room_at h a key ≤ indexed.room_at new b key) →
    AllByRecursion (λ (d : Change). Fits h a d.key (earliest_before cs d.key)) cs → AllByRecursion (λ (d : Change). Fits new b d.key (earliest_before cs d.key)) cs
slots_moved h new a b cs same rooms all = both_as (λ (d : Change). changes_key d.key cs ≡ true) (λ (d : Change). Fits h a d.key (earliest_before cs d.key)) (λ (d : Change). Fits new b d.key (earliest_before cs d.key)) cs
    (λ d own fits. (suits_indexed_same h new d.key (earliest_before cs d.key) same fits.0, (let room = rooms d.key own in let size = fits.1 in omega arith))) (own_keys cs) all

slot_found : (h : FileHead) (a : List (List ℕ)) (key : Key) (value : Option (List ℕ)) → IsRooted h a → leaf.Suits h key value → leaf.Suits h key (indexed.map_of h a key)
slot_found h a (Text k) value laid suits = parts_of (indexed.map_of h a (Text k)) suits.size (slot_suits a h k laid)
  where
    parts_of : (v : Option (List ℕ)) → length k ≡ h.key_size → IfSome v (Keeps h k) → leaf.SuitsText h k v
    parts_of None size keeps = record { size = size; has = tt; most = tt }
    parts_of (Some r) size keeps = record { size = size; has = keeps.has; most = keeps.most }
slot_found h a (Number n) value laid suits = absurd suits
slot_found h a End value laid suits = absurd suits

-- a key that one of several branches changed is changed by them
changed_each : (ls : List LiveChanges) → AllByRecursion (λ (l : LiveChanges). (key : Key) → changes_key key l.changes ≡ true → is_changed ls key ≡ true) ls
changed_each [] = tt
changed_each (l ∷ ls) = (
  (λ key own. or_one (changes_key key l.changes) (is_changed ls key) own),
  all_as (λ (k : LiveChanges). (key : Key) → changes_key key k.changes ≡ true → is_changed ls key ≡ true) (λ (k : LiveChanges). (key : Key) → changes_key key k.changes ≡ true → is_changed (l ∷ ls) key ≡ true) ls
      (λ k so key own. or_other (changes_key key l.changes) (is_changed ls key) (so key own)) (changed_each ls),
)

pub slots_set : (h new : FileHead) (a b : List (List ℕ)) (s : Id) (key : Key) (value : Option (List ℕ)) (ls : List LiveChanges) → IsRooted h a → leaf.Suits h key value → SameFile h new → SerialsDiffer ls →
    indexed.Restores new b key (indexed.map_of h a key) → ((other : Key) → is_changed ls other ≡ true → indexed.room_at h a other ≤ indexed.room_at new b other) →
    AllByRecursion (λ (l : LiveChanges). CanRestoreBy Indexed h a l.changes) ls → AllByRecursion (λ (l : LiveChanges). CanRestoreBy Indexed new b l.changes) (with_change s (record { key = key; before = indexed.map_of h a key; after = value }) ls)
slots_set h new a b s key value ls laid suits same differ restores rooms can =
    let c : Change = record { key = key; before = indexed.map_of h a key; after = value } in
    let moved = both_as (λ (l : LiveChanges). (k : Key) → changes_key k l.changes ≡ true → is_changed ls k ≡ true) (λ (l : LiveChanges). CanRestoreBy Indexed h a l.changes) (λ (l : LiveChanges). CanRestoreBy Indexed new b l.changes) ls
    (λ l changed so. slots_moved h new a b l.changes same (λ k own. rooms k (changed k own)) so) (changed_each ls) can in
    change_all (CanRestoreBy Indexed new b) (CanRestoreBy Indexed new b) s c ls differ tt
    (λ cs so. own_images (Fits new b) c cs (suits_indexed_same h new key (indexed.map_of h a key) same (slot_found h a key value laid suits), restores) so) moved
    (all_as (λ (l : LiveChanges). CanRestoreBy Indexed new b l.changes) (λ (l : LiveChanges). same_id s l.serial ≡ false → CanRestoreBy Indexed new b l.changes) ls (λ l so other. so) moved)
