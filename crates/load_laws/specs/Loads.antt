-- What a file has once records were loaded into it.
use Rattle.std.specs.Prelude.{◌≡◌, ◌≤◌, ◌+◌, ◌-◌, ◌*◌, ℕ, suc, true, List, [], ◌∷◌, ◌++◌, length, map, Option, Some}
use Rattle.std.specs.FinMap.Entries.{is_sorted}
use Rattle.record_files.specs.file_base.declared.head.FileHead.{FileHead}
use Rattle.record_files.specs.file_base.declared.head.Organization.{Organization}
use Rattle.record_files.specs.file_base.declared.head.Organization.TheVariants.{Sequential, Relative, Indexed}
use Rattle.vms_model.specs.Keys.{Key, Number}
use Rattle.records_model.specs.Records.{key_cmp}
use Rattle.record_files.specs.tree_model.Layouts.{Layout, no_layout, used_of, levels_of, index_size}
use Rattle.record_files.specs.tree_model.Loads.{slot_for, loaded, index_over}
use Rattle.index_bucket.specs.Entries.{sizes_of}
use Rattle.record_files.specs.relative_file.Cells.{Anything, cells_in}
use Rattle.record_files.specs.seq_file.Layout.{capacity}
use Rattle.record_files.specs.seq_file.Placing.{buckets_for}
use Rattle.record_files.specs.seq_file.Records.{slot_sizes}
use Rattle.record_files.specs.indexed_file.Chain.{HasKeys, kind_of}
use Rattle.record_files.specs.Any.{IsFile, IsLaidOut, SuitsBy, map_of, layout_of}
use Rattle.bucket_page.specs.declared.kind.PageKind.TheVariants.{Seq}
use Rattle.load_laws.specs.Records.{Keyed, what_has, texts_of, values_of}
use Rattle.load_laws.specs.Pages.{Page}
use Rattle.load_laws.specs.Chains.{raw_for, packed, chain_pages}
use Rattle.load_laws.specs.Cells.{cell_pages}
use Rattle.load_laws.specs.Keys.{lowest_keys, index_pages}

-- the layout of an indexed file of these records: each leaf and each index bucket is filled before the next
abbrev pub loaded_tree : FileHead → List Keyed → Layout
loaded_tree h es = loaded (sizes_of h) h.key_size (map slot_for (texts_of es))

abbrev pub layout_by : Organization → FileHead → List Keyed → Layout
layout_by Sequential h es = no_layout
layout_by Relative h es = no_layout
layout_by Indexed h es = loaded_tree h es

abbrev pub loaded_layout : FileHead → List Keyed → Layout
loaded_layout h es = layout_by h.organization h es

-- The buckets that the records take: as many as their placing in order takes; all that a relative file has, whatever its records are; or those of all levels.
abbrev pub buckets_by : Organization → FileHead → List Keyed → ℕ
buckets_by Sequential h es = buckets_for (capacity h) (slot_sizes (values_of es))
buckets_by Relative h es = h.alloc
buckets_by Indexed h es = used_of (loaded_tree h es)

abbrev pub loaded_buckets : FileHead → List Keyed → ℕ
loaded_buckets h es = buckets_by h.organization h es

-- the head of the file, which is the same but for what the records determine; the root is the last bucket
abbrev pub head_by : Organization → FileHead → List Keyed → FileHead
head_by Sequential h es = record h { used = buckets_by Sequential h es; root = 0; levels = 0; count = length es }
head_by Relative h es = record h { used = h.alloc; root = 0; levels = 0; count = 0 }
head_by Indexed h es = record h { used = used_of (loaded_tree h es); root = used_of (loaded_tree h es) - 1; levels = levels_of (loaded_tree h es); count = 0 }

abbrev pub loaded_head : FileHead → List Keyed → FileHead
loaded_head h es = head_by h.organization h es

-- that of an indexed file with so many leaves
abbrev pub tree_head : FileHead → ℕ → FileHead
tree_head h leaves = let index = index_over (sizes_of h).fan_out leaves leaves in
    record h { used = leaves + index_size index; root = leaves + index_size index - 1; levels = suc (length index); count = 0 }

-- each key and record may be one of a file that is kept so
abbrev pub AllSuitBy : Organization → FileHead → List Keyed → Type 0
AllSuitBy o h [] = Unit {0}
AllSuitBy o h (e ∷ es) = SuitsBy o h e.0 (Some e.1) × AllSuitBy o h es

-- the keys are the numbers from this one on
abbrev pub AreNumbered : ℕ → List Keyed → Type 0
AreNumbered n [] = Unit {0}
AreNumbered n (e ∷ es) = (e.0 ≡ Number n) × AreNumbered (suc n) es

-- those of a sequential file are the positions from 1 on
abbrev pub NumberedBy : Organization → List Keyed → Type 0
NumberedBy Sequential es = AreNumbered 1 es
NumberedBy Relative es = Anything
NumberedBy Indexed es = Anything

-- what is asked of a head besides its place: a relative file has a cell for each number; the keys of an indexed file lie in its records
abbrev pub HeadBy : Organization → FileHead → Type 0
HeadBy Sequential h = Anything
HeadBy Relative h = h.mrn ≤ h.alloc * cells_in h
HeadBy Indexed h = HasKeys h

-- records may be loaded into a file: they stand in the order of their keys, and their buckets are there
pub record AreLoadable (h : FileHead) (es : List Keyed) : Type 0 where
  pub ordered : is_sorted key_cmp es ≡ true
  pub suit : AllSuitBy h.organization h es
  pub numbered : NumberedBy h.organization es
  pub head : HeadBy h.organization h
  pub fits : loaded_buckets h es ≤ h.alloc

-- the file has just these records, in buckets that are laid out as any change of it wants them
pub record IsLoaded (h : FileHead) (blocks : List (List ℕ)) (es : List Keyed) : Type 0 where
  pub laid : IsLaidOut h blocks
  pub map_is : map_of h blocks ≡ what_has es
  pub layout : layout_of h blocks ≡ loaded_layout h es

-- the slots of the leaves of an indexed file of these records
abbrev pub leaf_parts : FileHead → List Keyed → List (List (List ℕ))
leaf_parts h es = packed (512 * h.bucket - 16) [] (map (raw_for (kind_of h)) (values_of es))

-- what is written into the buckets of a file of these records, from the first on
abbrev pub pages_by : Organization → FileHead → List Keyed → List Page
pages_by Sequential h es = chain_pages Seq 0 (packed (capacity h) [] (map (raw_for Seq) (values_of es)))
pages_by Relative h es = cell_pages h es 0 h.alloc
pages_by Indexed h es = chain_pages (kind_of h) 0 (leaf_parts h es) ++ index_pages h 0 (lowest_keys h (leaf_parts h es))

abbrev pub loaded_pages : FileHead → List Keyed → List Page
loaded_pages h es = pages_by h.organization h es
