-- Several unsettled branches of one file at once: what each key of the file has, and what is restored where they are undone. Changes stand newest first.
use Rattle.std.specs.Prelude.{◌≡◌, ◌⊎◌, ℕ, not, ◌&&◌, ◌||◌, Bool, true, false, List, [], ◌∷◌, Option, None, if◌then◌else◌}
use Rattle.std.specs.List.{list_any, AllByRecursion}
use Rattle.std.specs.Option.{is_none}
use Rattle.std.specs.Ordering.{eq_by_cmp}
use Rattle.std.specs.FinMap.{get}
use Rattle.tree_model.specs.vms_model.Ids.{Id}
use Rattle.tree_model.specs.vms_model.Keys.{Key}
use Rattle.tree_model.specs.records_model.Records.{Change, Records, key_cmp}
use Rattle.tree_model.specs.records_model.History.{History, LiveChanges, same_id, changes_key, current, records}

-- what each key has: the bytes of its record, or none
abbrev pub Map : Type 0
Map = Key → Option (List ℕ)

abbrev pub map_in : Records → Map
map_in m key = get m key

-- whether a change is of this key
abbrev pub is_of : Key → Change → Bool
is_of key c = eq_by_cmp key_cmp key c.key

-- a map in which this key has this, and each other key what it had
abbrev pub with_key : Map → Key → Option (List ℕ) → Map
with_key m set v key = if eq_by_cmp key_cmp key set then v else m key

-- the earliest before image of a key that was changed
abbrev pub earliest_before : List Change → Key → Option (List ℕ)
earliest_before [] key = None
earliest_before (c ∷ cs) key = if changes_key key cs then earliest_before cs key else c.before

-- and its latest after image
abbrev pub latest_after : List Change → Key → Option (List ℕ)
latest_after [] key = None
latest_after (c ∷ cs) key = if is_of key c then c.after else latest_after cs key

-- a map in which each key that was changed has its latest after image
abbrev pub with_after_images : List Change → Map → Map
with_after_images cs m key = if changes_key key cs then latest_after cs key else m key

-- or again its earliest before image
abbrev pub with_before_images : List Change → Map → Map
with_before_images cs m key = if changes_key key cs then earliest_before cs key else m key

-- one of the before and after images of a key
abbrev pub IsImage : List Change → Key → Option (List ℕ) → Type 0
IsImage [] key v = ⊥
IsImage (c ∷ cs) key v = ((is_of key c ≡ true) × ((v ≡ c.before) ⊎ (v ≡ c.after))) ⊎ IsImage cs key v

-- each key that was changed has one of them
abbrev pub HasImages : Map → List Change → Type 0
HasImages m cs = (key : Key) → changes_key key cs ≡ true → IsImage cs key (m key)

-- each has its latest after image
abbrev pub HasLatest : Map → List Change → Type 0
HasLatest m cs = (key : Key) → changes_key key cs ≡ true → m key ≡ latest_after cs key

-- whether a branch changed this key
abbrev pub is_changed : List LiveChanges → Key → Bool
is_changed ls key = list_any (λ l. changes_key key l.changes) ls

-- what a key has that has this now, once each branch that changed it has put back its earliest before image
abbrev pub restored : List LiveChanges → Key → Option (List ℕ) → Option (List ℕ)
restored [] key v = v
restored (l ∷ ls) key v = if changes_key key l.changes then earliest_before l.changes key else restored ls key v

-- no two branches changed one key
abbrev pub Apart : List LiveChanges → Type 0
Apart [] = Unit {0}
Apart (l ∷ ls) = ((key : Key) → changes_key key l.changes ≡ true → is_changed ls key ≡ false) × Apart ls

-- whether no other branch than this one changed the key
abbrev pub is_free : Id → List LiveChanges → Key → Bool
is_free serial [] key = true
is_free serial (l ∷ ls) key = if same_id serial l.serial then not (is_changed ls key) else (not (changes_key key l.changes) && is_free serial ls key)

-- What a file has represents what has been committed, while these branches are unsettled: no two of them changed one key; once all are undone there is what
-- has been committed; and each key that a branch changed has one of the images of its changes. So it is whatever part of the changes is undone already.
pub record Represents (ls : List LiveChanges) (m committed : Map) : Type 0 where
  pub apart : Apart ls
  pub restores : (key : Key) → restored ls key (m key) ≡ committed key
  pub images : AllByRecursion (λ l. HasImages m l.changes) ls

-- A history's current records represent its committed ones, and each key that an unsettled branch changed has the branch's latest after image.
pub record IsOrderly (h : History) : Type 0 where
  pub represents : Represents h.live (map_in (current h)) (map_in (records h))
  pub latest : AllByRecursion (λ (l : LiveChanges). HasLatest (map_in (current h)) l.changes) h.live

-- all these branches undone, one after another, each whole
abbrev pub all_undone : List LiveChanges → Map → Map
all_undone [] m = m
all_undone (l ∷ ls) m = all_undone ls (with_before_images l.changes m)

-- what a group of an undo may leave: keys that no branch changed have what they had, and the others one of their images
pub record IsUndoGroup (ls : List LiveChanges) (m n : Map) : Type 0 where
  pub others : (key : Key) → is_changed ls key ≡ false → n key ≡ m key
  pub images : AllByRecursion (λ l. HasImages n l.changes) ls

-- so many such groups, one after another, also over several restarts
pub data UndoGroups (ls : List LiveChanges) (m : Map) : Map → Type 0 where
  none : UndoGroups ls m m
  more : (n o : Map) → UndoGroups ls m n → IsUndoGroup ls n o → UndoGroups ls m o

-- whether there are changes
abbrev pub has_changes : List Change → Bool
has_changes [] = false
has_changes (c ∷ cs) = true

-- no two of several branches are one
abbrev pub SerialsDiffer : List LiveChanges → Type 0
SerialsDiffer [] = Unit {0}
SerialsDiffer (l ∷ ls) = AllByRecursion (λ (k : LiveChanges). same_id l.serial k.serial ≡ false) ls × SerialsDiffer ls

-- whether changes move the end of a sequential file: they put a record behind the last one, or removed the last
abbrev pub moves_end : List Change → Bool
moves_end cs = list_any (λ (c : Change). is_none c.before || is_none c.after) cs

-- at most one of several branches moved it
abbrev pub OneMovesEnd : List LiveChanges → Type 0
OneMovesEnd [] = Unit {0}
OneMovesEnd (l ∷ ls) = (moves_end l.changes ≡ true → AllByRecursion (λ (k : LiveChanges). moves_end k.changes ≡ false) ls) × OneMovesEnd ls

-- whether no other branch than this one did
abbrev pub end_is_free : Id → List LiveChanges → Bool
end_is_free serial [] = true
end_is_free serial (l ∷ ls) = (same_id serial l.serial || not (moves_end l.changes)) && end_is_free serial ls
