-- A head with other marks, journals and save is that of a file with the same buckets.
use Rattle.std.proofs.Common.{◌≡◌, ℕ, zero, suc, ◌+◌, List, [], ◌∷◌, ◌++◌, length, map, Bool, refl, sym, ap, subst, ◌∙◌}
use Rattle.std.specs.Prelude.{◌&&◌}
use Rattle.extents.specs.file_base.declared.head.FileHead.{FileHead}
use Rattle.extents.specs.file_base.declared.head.Marks.{Marks}
use Rattle.extents.specs.file_base.declared.head.Organization.{Organization as Kept}
use Rattle.extents.specs.file_base.declared.head.Organization.TheVariants.{Sequential, Relative, Indexed}
use Rattle.extents.specs.file_base.declared.head.Save.{Save}
use Rattle.extents.specs.file_base.declared.head.Span.{Span}
use Rattle.extents.specs.vms_base.declared.moments.Moment.{Moment}
use Rattle.file_images.specs.bucket_page.Pages.{slots_of, no_next}
use Rattle.records_model.specs.Slots.{Slot, lookup}
use Rattle.records_model.specs.vms_model.Keys.{Key, Number, Text, End}
use Rattle.file_images.specs.relative_file.Cells as relative
use Rattle.file_images.specs.tree_model.Layouts.{Layout, slots_along}
use Rattle.file_images.specs.tree_model.Trees.{IsTree}
use Rattle.file_images.specs.index_model.Indexes.{Entry, entries_along, parent_entry, numbers_of, counts_of, AllDiffer}
use Rattle.file_images.specs.index_model.Trees.{child_of, leaf_at}
use Rattle.file_images.specs.index_bucket.Entries.{sizes_of, IsIndexBucket}
use Rattle.file_images.specs.index_blocks.Buckets.{bucket_at}
use Rattle.file_images.specs.index_blocks.Levels.{entries_in, below_at, levels_above, height, leaf_entries, levels_of, AllAre}
use Rattle.file_images.specs.indexed_file.Chain.{kind_of, slots_in, keeps_record, all_keep, Leads, IsLeaf}
use Rattle.file_images.specs.indexed_tree.Files as indexed
use Rattle.file_images.specs.indexed_tree.Maps.{all_slots}
use Rattle.file_images.specs.indexed_tree.Rooted.{leaf_numbers, layout_in, IsRooted}
use Rattle.file_images.proofs.indexed_tree.StayLaws.{moved}
use Rattle.file_images.specs.record_files.Any.{map_by, layout_by, FormBy, LaidOutBy}
use Rattle.file_images.specs.run_model.World.{Carried, File}
use Rattle.directory_model.specs.Files.{IsHeadOf, IsFile, organized_by}

-- a head with these marks, journals and save
abbrev pub dressed : Marks → (after before : Span) → Moment → Save → FileHead → FileHead
dressed marks after before since save h = record h { marks = marks; ai = after; bi = before; bi_since = since; save = save }

module _ (marks : Marks) (after before : Span) (since : Moment) (save : Save) (h : FileHead) (b : List (List ℕ)) where
  -- An indexed file.

  below_on : (steps : ℕ) → below_at h b steps ≡ below_at (dressed marks after before since save h) b steps
  below_on zero = refl
  below_on (suc steps) = ap (λ (es : List Entry). entries_along (entries_in h b) (map child_of es)) (below_on steps)

  above_on : (steps : ℕ) → levels_above h b steps ≡ levels_above (dressed marks after before since save h) b steps
  above_on zero = refl
  above_on (suc steps) = ap (λ (es : List Entry). map child_of es ∷ levels_above h b steps) (below_on steps) ∙ ap (λ ls. map child_of (below_at (dressed marks after before since save h) b steps) ∷ ls) (above_on steps)

  leaves : leaf_entries h b ≡ leaf_entries (dressed marks after before since save h) b
  leaves = below_on (height h)

  levels : levels_of h b ≡ levels_of (dressed marks after before since save h) b
  levels = above_on (height h)

  layout : layout_in h b ≡ layout_in (dressed marks after before since save h) b
  layout =
      ap (λ (es : List Entry). record { leaves = map (leaf_at (slots_in h b)) es; index = counts_of (entries_in h b) (levels_of h b) }) leaves
      ∙ ap (λ ls. record { leaves = map (leaf_at (slots_in h b)) (leaf_entries (dressed marks after before since save h) b); index = counts_of (entries_in h b) ls }) levels

  leads : (ns : List ℕ) (end : ℕ) → Leads h b ns end → Leads (dressed marks after before since save h) b ns end
  leads [] end is = tt
  leads (n ∷ ns) end is = (is.0, leads ns end is.1)

  kept : (raws : List (List ℕ)) → all_keep h raws ≡ all_keep (dressed marks after before since save h) raws
  kept [] = refl
  kept (raw ∷ raws) = ap (λ t. keeps_record h raw && t) (kept raws)

  leaf : (bytes : List ℕ) → IsLeaf h bytes → IsLeaf (dressed marks after before since save h) bytes
  leaf bytes is = record { bucket = is.bucket; kept = sym (kept (slots_of (kind_of h) bytes)) ∙ is.kept; leads = is.leads }

  index_bucket : (bytes : List ℕ) → IsIndexBucket h bytes → IsIndexBucket (dressed marks after before since save h) bytes
  index_bucket bytes is = record { bucket = is.bucket; some = is.some; used = is.used }

  rooted : IsRooted h b → IsRooted (dressed marks after before since save h) b
  rooted is = record {
    index = record {
      buckets = subst (λ ls. AllAre (λ n. IsIndexBucket (dressed marks after before since save h) (bucket_at h b n)) (numbers_of ls)) levels
          (moved (λ n. IsIndexBucket h (bucket_at h b n)) (λ n. IsIndexBucket (dressed marks after before since save h) (bucket_at h b n)) (numbers_of (levels_of h b)) (λ n. index_bucket (bucket_at h b n)) is.index.buckets);
      joins = λ steps less. subst (λ (es : List Entry). map (parent_entry (entries_in h b)) (map child_of es) ≡ es) (below_on steps) (is.index.joins steps less);
    };
    leaves = subst (λ (es : List Entry). AllAre (λ n. IsLeaf (dressed marks after before since save h) (bucket_at h b n)) (map child_of es)) leaves
        (moved (λ n. IsLeaf h (bucket_at h b n)) (λ n. IsLeaf (dressed marks after before since save h) (bucket_at h b n)) (leaf_numbers h b) (λ n. leaf (bucket_at h b n)) is.leaves);
    chain = subst (λ (es : List Entry). Leads (dressed marks after before since save h) b (map child_of es) no_next) leaves (leads (leaf_numbers h b) no_next is.chain);
    reached = subst (λ ls. length (leaf_numbers (dressed marks after before since save h) b) + length (numbers_of ls) ≡ h.used) levels
        (subst (λ (es : List Entry). length (map child_of es) + length (numbers_of (levels_of h b)) ≡ h.used) leaves is.reached);
    once = subst (λ ls. AllDiffer (leaf_numbers (dressed marks after before since save h) b ++ numbers_of ls)) levels
        (subst (λ (es : List Entry). AllDiffer (map child_of es ++ numbers_of (levels_of h b))) leaves is.once);
    tree = subst (IsTree (sizes_of h)) layout is.tree;
  }

  pub marked_slots : all_slots h b ≡ all_slots (dressed marks after before since save h) b
  marked_slots = ap (λ (l : Layout). slots_along l.leaves) layout

  indexed_map : (key : Key) → indexed.map_of h b key ≡ indexed.map_of (dressed marks after before since save h) b key
  indexed_map (Number n) = refl
  indexed_map (Text k) = ap (λ (ss : List Slot). lookup ss k) marked_slots
  indexed_map End = refl

  relative_map : (key : Key) → relative.map_of h b key ≡ relative.map_of (dressed marks after before since save h) b key
  relative_map (Number n) = refl
  relative_map (Text k) = refl
  relative_map End = refl

  -- By organization.

  form_marked : (o : Kept) → FormBy o h → FormBy o (dressed marks after before since save h)
  form_marked Sequential form = record { organization = form.organization; one = form.one; used = form.used; root = form.root; levels = form.levels }
  form_marked Relative form = record { organization = form.organization; cells = form.cells; one = form.one; used = form.used; root = form.root; levels = form.levels; count = form.count }
  form_marked Indexed form = record {
    organization = form.organization;
    root = record { some = form.root.some; most = form.root.most; root = form.root.root; within = form.root.within; short = form.root.short };
    keys = record { key = form.keys.key; short = form.keys.short; holds = form.keys.holds };
    count = form.count;
  }

  laid_marked : (o : Kept) → LaidOutBy o h b → LaidOutBy o (dressed marks after before since save h) b
  laid_marked Sequential laid = record { buckets = laid.buckets; filled = laid.filled; records = laid.records; count = laid.count }
  laid_marked Relative laid = record { headers = laid.headers; rests = laid.rests; sizes = laid.sizes }
  laid_marked Indexed laid = rooted laid

  map_marked : (o : Kept) (key : Key) → map_by o h b key ≡ map_by o (dressed marks after before since save h) b key
  map_marked Sequential key = refl
  map_marked Relative key = relative_map key
  map_marked Indexed key = indexed_map key

  layout_marked : (o : Kept) → layout_by o h b ≡ layout_by o (dressed marks after before since save h) b
  layout_marked Sequential = refl
  layout_marked Relative = refl
  layout_marked Indexed = layout

  organized_marked : (o : Kept) → organized_by o h ≡ organized_by o (dressed marks after before since save h)
  organized_marked Sequential = refl
  organized_marked Relative = refl
  organized_marked Indexed = refl

  head_marked : (file : File) (units : Bool) (r : Carried) → units ≡ marks.ru → IsHeadOf h file → IsHeadOf (dressed marks after before since save h) (record file { recovery_units = units; carried = r })
  head_marked file units r same is = record {
    name = is.name;
    bucket = is.bucket;
    record_size = is.record_size;
    organization = is.organization ∙ organized_marked h.organization;
    start = is.start;
    buckets = is.buckets;
    units = same;
    form = form_marked h.organization is.form;
  }

  pub file_marked : (file : File) (units : Bool) (r : Carried) → units ≡ marks.ru → IsFile b h file → IsFile b (dressed marks after before since save h) (record file { recovery_units = units; carried = r })
  file_marked file units r same is = record {
    head = head_marked file units r same is.head;
    laid = laid_marked h.organization is.laid;
    records = λ key. is.records key ∙ map_marked h.organization key;
    layout = is.layout ∙ layout_marked h.organization;
  }
