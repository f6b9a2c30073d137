-- An indexed file as a map from keys to records.
use Rattle.std.specs.Prelude.{◌≡◌, ◌≤◌, ℕ, Bool, true, List, Option, Some, None, IfSome, option_map}
use Rattle.file_base.specs.declared.head.FileHead.{FileHead}
use Rattle.file_base.specs.declared.head.Organization.TheVariants.{Indexed}
use Rattle.vms_base.specs.vms_model.Keys.{Key, Number, Text, End}
use Rattle.indexed_file.specs.change_set.Maps.{Map, set_key}
use Rattle.indexed_file.specs.records_model.Slots.{lookup, room_of, size_of}
use Rattle.indexed_file.specs.tree_model.Layouts.{Layout, used_of}
use Rattle.indexed_file.specs.tree_model.Layouts as layouts
use Rattle.indexed_file.specs.tree_model.Setting.{layout_with, layout_set, layout_back}
use Rattle.index_blocks.specs.index_bucket.Entries.{sizes_of}
use Rattle.index_blocks.specs.Levels.{HasRoot}
use Rattle.indexed_file.specs.Chain.{HasKeys}
use Rattle.indexed_tree.specs.Maps.{all_slots, need_in, TakesKey}
use Rattle.indexed_tree.specs.Rooted.{layout_in, IsRooted}

-- the head is that of an indexed file
pub record IsTreeHead (h : FileHead) : Type 0 where
  pub organization : h.organization ≡ Indexed
  pub root : HasRoot h
  pub keys : HasKeys h
  pub count : h.count ≡ 0

-- a new file has one bucket, which is its root
pub record IsNewHead (h : FileHead) : Type 0 where
  pub used : h.used ≡ 1
  pub root : h.root ≡ 0
  pub levels : h.levels ≡ 1

-- what each key has
abbrev pub map_of : FileHead → List (List ℕ) → Map
map_of h blocks (Text k) = lookup (all_slots h blocks) k
map_of h blocks (Number n) = None
map_of h blocks End = None

-- the length that a key may be set to in place
abbrev pub room_at : FileHead → List (List ℕ) → Key → ℕ
room_at h blocks (Text k) = room_of (all_slots h blocks) k
room_at h blocks (Number n) = 0
room_at h blocks End = 0

-- the free buckets that a set asks for
abbrev pub asks : FileHead → List (List ℕ) → ℕ → ℕ
asks h blocks size = need_in h

-- the key may be set to the value
abbrev pub Takes : FileHead → List (List ℕ) → Key → Option (List ℕ) → Type 0
Takes h blocks (Text k) value = TakesKey h blocks k value
Takes h blocks (Number n) value = Unit {0}
Takes h blocks End value = Unit {0}

-- the room of the key's slot holds the value
abbrev pub Restores : FileHead → List (List ℕ) → Key → Option (List ℕ) → Type 0
Restores h blocks key value = size_of value ≤ room_at h blocks key

-- the used buckets once the key is set
abbrev pub used_after : FileHead → List (List ℕ) → (Key → Bool) → Key → Option (List ℕ) → ℕ
used_after h blocks held (Text k) v = used_of (layout_with (sizes_of h) (λ t. held (Text t)) k v (layout_in h blocks))
used_after h blocks held (Number n) v = h.used
used_after h blocks held End v = h.used

-- the layout of a new file
abbrev pub first_layout_of : FileHead → Layout
first_layout_of h = layouts.first_layout h.key_size

-- A key was set, where the blocks are told: it is set and no other one, the blocks are such a file again, with the layout and the count of used buckets that are told,
-- rooms of held keys did not fall, and the key may be set back in place to what it had.
pub record KeySet (h h' : FileHead) (held : Key → Bool) (key : Key) (v : Option (List ℕ)) (told now : Option (List (List ℕ))) : Type 0 where
  pub map_is : IfSome told (λ b. IsRooted h b → Takes h b key v → option_map (map_of h') now ≡ Some (set_key key v (map_of h b)))
  pub valid : IfSome told (λ b. IsRooted h b → Takes h b key v → IfSome now (IsRooted h'))
  pub used : IfSome told (λ b. IsRooted h b → Takes h b key v → h'.used ≡ used_after h b held key v)
  pub rooms : IfSome told (λ b. IsRooted h b → Takes h b key v → IfSome now (λ a. (other : Key) → held other ≡ true → room_at h b other ≤ room_at h' a other))
  pub layout : IfSome told (λ b. IsRooted h b → Takes h b key v → option_map (layout_in h') now ≡ Some (layout_set (sizes_of h) held key v (layout_in h b)))
  pub back : IfSome told (λ b. IsRooted h b → Takes h b key v → IfSome now (λ a. Restores h' a key (map_of h b key)))

-- and a key was set back in place
pub record KeyBack (h : FileHead) (key : Key) (v : Option (List ℕ)) (told now : Option (List (List ℕ))) : Type 0 where
  pub map_is : IfSome told (λ b. IsRooted h b → Restores h b key v → option_map (map_of h) now ≡ Some (set_key key v (map_of h b)))
  pub valid : IfSome told (λ b. IsRooted h b → Restores h b key v → IfSome now (IsRooted h))
  pub rooms : IfSome told (λ b. IsRooted h b → Restores h b key v → IfSome now (λ a. (other : Key) → room_at h b other ≤ room_at h a other))
  pub layout : IfSome told (λ b. IsRooted h b → Restores h b key v → option_map (layout_in h) now ≡ Some (layout_back key v (layout_in h b)))
