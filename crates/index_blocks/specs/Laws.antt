-- What holds of an index in blocks.
use Rattle.std.specs.Prelude.{◌≡◌, ◌≤◌, ◌<◌, ℕ, suc, List, length, map, if◌then◌else◌, is_some, unwrap_or, slice_index_or}
use Rattle.file_base.specs.declared.head.FileHead.{FileHead}
use Rattle.index_bucket.specs.index_model.Indexes.{Entry, AreLevels, Ascends, parent_entry, with_added, numbers_of, AllDiffer, AllBelow}
use Rattle.index_bucket.specs.index_model.Trees.{child_of}
use Rattle.index_blocks.specs.Levels.{entries_in, least_key, below_at, height, leaf_entries, levels_of, AllAre, LeadsDown, HasRoot, IsWay, way, leaf_for}
use Rattle.index_blocks.specs.Climbs.{MayClimb, Climbs}
use Rattle.index_blocks.specs.declared.growing.Growth.{Growth}

-- the index of a file is one over its leaves, and the way of each key is laid out and ends at the leaf for it, where the lowest keys of the leaves ascend
pub record Leads (h : FileHead) (blocks : List (List ℕ)) : Type 0 where
  pub levels : AreLevels (least_key h) (entries_in h blocks) (leaf_entries h blocks) (levels_of h blocks) h.root
  pub ways : (k : List ℕ) → IsWay h blocks k
  pub ends : (k : List ℕ) → way h blocks k (height h) ≡ leaf_for h blocks k

abbrev pub LevelsLead : Type 0
LevelsLead = (h : FileHead) (blocks : List (List ℕ)) → LeadsDown h blocks → Ascends (leaf_entries h blocks) → Leads h blocks

-- what is read from the root down are these levels, and the entries that lead to the leaves
pub record ReadsLevels (h : FileHead) (blocks : List (List ℕ)) (below : List Entry) (levels : List (List ℕ)) : Type 0 where
  pub leaves_are : leaf_entries h blocks ≡ below
  pub levels_are : levels_of h blocks ≡ levels
  pub joins : (steps : ℕ) → steps < height h → map (parent_entry (entries_in h blocks)) (map child_of (below_at h blocks steps)) ≡ below_at h blocks steps

-- that is so where the blocks have the entries of an index with these levels, and the head has its root and their number
abbrev pub LevelsRead : Type 0
LevelsRead = (h : FileHead) (blocks : List (List ℕ)) (entries : ℕ → List Entry) (below : List Entry) (levels : List (List ℕ)) → AreLevels (least_key h) entries below levels h.root → h.levels ≡ suc (length levels)
    → AllAre (λ n. entries_in h blocks n ≡ entries n) (numbers_of levels) → ReadsLevels h blocks below levels

-- the numbers that were noted on the way of a key
abbrev pub IsNoted : FileHead → List (List ℕ) → List ℕ → List ℕ → Type 0
IsNoted h blocks k path = (steps : ℕ) → steps < height h → slice_index_or path steps 0 ≡ way h blocks k steps

-- the numbers of the index buckets differ, and are used
pub record AreUsed (h : FileHead) (blocks : List (List ℕ)) (used : ℕ) : Type 0 where
  pub differ : AllDiffer (numbers_of (levels_of h blocks))
  pub below : AllBelow used (numbers_of (levels_of h blocks))

-- entries may be handed up into the levels of an index that leads to its leaves, along the way of a key, where they ascend with those that lead there
abbrev pub LevelsMayClimb : Type 0
LevelsMayClimb = (h : FileHead) (blocks : List (List ℕ)) (k path : List ℕ) (added : List Entry) (used : ℕ) → LeadsDown h blocks → Ascends (leaf_entries h blocks) → AreUsed h blocks used → IsNoted h blocks k path
    → 1 ≤ length added → Ascends (with_added k added (leaf_entries h blocks)) → MayClimb h k added (leaf_entries h blocks) (levels_of h blocks) path used blocks

-- the head of a file whose index has grown
abbrev pub grown_head : FileHead → Growth → FileHead
grown_head h growth = record h { root = unwrap_or growth.root h.root; levels = if is_some growth.root then suc h.levels else h.levels; used = growth.used }

-- Entries that were handed up leave an index that leads to all leaves, the old and the new ones, where these are used. Its numbers differ and are used.
pub record LeadsOn (h h' : FileHead) (k : List ℕ) (added : List Entry) (old new : List (List ℕ)) : Type 0 where
  pub leads : LeadsDown h' new
  pub leaves : leaf_entries h' new ≡ with_added k added (leaf_entries h old)
  pub numbers : AreUsed h' new h'.used

abbrev pub ClimbLeads : Type 0
ClimbLeads = (h : FileHead) (k path : List ℕ) (added : List Entry) (used : ℕ) (growth : Growth) (old new : List (List ℕ)) → HasRoot h → 1 ≤ h.bucket → MayClimb h k added (leaf_entries h old) (levels_of h old) path used old
    → Climbs h k added (levels_of h old) used growth old new → AllBelow growth.used (map child_of (with_added k added (leaf_entries h old))) → LeadsOn h (grown_head h growth) k added old new
