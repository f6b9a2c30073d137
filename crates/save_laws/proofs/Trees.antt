-- An indexed file at another place.
use Rattle.std.proofs.Common.{◌≡◌, ℕ, zero, suc, ◌<◌, ◌≤◌, ◌+◌, ◌-◌, ◌*◌, List, [], ◌∷◌, ◌++◌, length, map, drop, refl, sym, ap, subst, ◌∙◌, arith}
use Rattle.std.specs.Prelude.{nat_le, nat_lt}
use Rattle.std.proofs.lemmas.Bool.{leb-true, ltb-true, and_parts}
use Rattle.record_files.specs.block_disk.Blocks.{block_at}
use Rattle.record_files.specs.file_base.declared.head.FileHead.{FileHead}
use Rattle.records_model.specs.vms_model.Keys.{Key, Number, Text, End}
use Rattle.record_files.specs.change_set.Files.{AgreesOn}
use Rattle.record_files.specs.bucket_page.Pages.{slots_of, next_of, no_next}
use Rattle.records_model.specs.Slots.{lookup}
use Rattle.record_files.specs.tree_model.Layouts.{Layout, slots_along}
use Rattle.record_files.specs.tree_model.Trees.{IsTree}
use Rattle.record_files.specs.index_model.Indexes.{Entry, entries_along, parent_entry, numbers_of, AllDiffer}
use Rattle.record_files.specs.index_model.Trees.{child_of, layout_of}
use Rattle.record_files.specs.index_bucket.Entries.{entries_at, sizes_of, IsIndexBucket}
use Rattle.record_files.specs.index_blocks.Buckets.{bucket_at}
use Rattle.record_files.specs.index_blocks.Levels.{entries_in, below_at, levels_above, height, levels_of, AllAre}
use Rattle.record_files.specs.indexed_file.Chain.{kind_of, slot_of, slots_in, IsLeaf, Leads}
use Rattle.record_files.specs.indexed_tree.Rooted.{leaf_numbers, layout_in, IsRooted}
use Rattle.record_files.specs.indexed_tree.Files.{IsTreeHead, map_of}
use Rattle.record_files.specs.indexed_tree.Laws.{StaysRooted}
use Rattle.record_files.proofs.indexed_tree.StayLaws.{moved}
use Rattle.record_files.proofs.indexed_tree.LocalLaws.{rooted_stays}
use Rattle.save_laws.specs.Saves.{kept_as, StandAt}
use Rattle.save_laws.proofs.Moves.{bytes_alike}

abbrev Blocks : Type 0
Blocks = List (List ℕ)

pub is_indexed : (h own : FileHead) → IsTreeHead h → IsTreeHead (kept_as h own)
is_indexed h own form = record {
  organization = form.organization;
  root = record { some = form.root.some; most = form.root.most; root = form.root.root; within = form.root.within; short = form.root.short };
  keys = record { key = form.keys.key; short = form.keys.short; holds = form.keys.holds };
  count = form.count;
}

-- Blocks from one number on, at another number.

abbrev padded : ℕ → Blocks → Blocks
padded zero bs = bs
padded (suc n) bs = [] ∷ padded n bs

padded_block : (x : ℕ) (bs : Blocks) (i m : ℕ) → m ≡ x + i → block_at (padded x bs) m ≡ block_at bs i
padded_block zero bs i m e = let same : m ≡ i = omega (arith, e) in ap (block_at bs) same
padded_block (suc x) bs i zero e = absurd (omega (arith, e))
padded_block (suc x) bs i (suc m) e = padded_block x bs i m (omega (arith, e))

none_at : (n : ℕ) → block_at [] n ≡ []
none_at zero = refl
none_at (suc n) = refl

dropped_block : (y : ℕ) (bs : Blocks) (i m : ℕ) → m ≡ y + i → block_at (drop y bs) i ≡ block_at bs m
dropped_block zero bs i m e = let same : i ≡ m = omega (arith, e) in ap (block_at bs) same
dropped_block (suc y) [] i m e = none_at i ∙ sym (none_at m)
dropped_block (suc y) (b ∷ bs) i zero e = absurd (omega (arith, e))
dropped_block (suc y) (b ∷ bs) i (suc m) e = dropped_block y bs i m (omega (arith, e))

abbrev shifted : (x y : ℕ) → Blocks → Blocks
shifted x y b = padded x (drop y b)

shifted_block : (x y : ℕ) (b : Blocks) (i : ℕ) → block_at (shifted x y b) (x + i) ≡ block_at b (y + i)
shifted_block x y b i = padded_block x (drop y b) i (x + i) refl ∙ dropped_block y b i (y + i) refl

module _ (h own : FileHead) (b : Blocks) where
  -- the blocks with the copy where the file is
  abbrev back : Blocks
  back = shifted (h.start - 518) (own.start - 518) b

  bytes_same : (n : ℕ) → bucket_at (kept_as h own) b n ≡ bucket_at h back n
  bytes_same n = bytes_alike back b (h.start - 518 + n * h.bucket) (own.start - 518 + n * h.bucket) h.bucket (λ k less.
      let here : own.start - 518 + n * h.bucket + k ≡ own.start - 518 + (n * h.bucket + k) = omega arith in
      let there : h.start - 518 + (n * h.bucket + k) ≡ h.start - 518 + n * h.bucket + k = omega arith in
      ap (block_at b) here ∙ sym (shifted_block (h.start - 518) (own.start - 518) b (n * h.bucket + k)) ∙ ap (block_at back) there)

  entries_same : entries_in (kept_as h own) b ≡ entries_in h back
  entries_same = λ i n. entries_at h (bytes_same n i)

  slots_same : slots_in (kept_as h own) b ≡ slots_in h back
  slots_same = λ i n. map (slot_of h) (slots_of (kind_of h) (bytes_same n i))

  below_same : (d : ℕ) → below_at (kept_as h own) b d ≡ below_at h back d
  below_same zero = refl
  below_same (suc d) = λ i. entries_along (entries_same i) (map child_of (below_same d i))

  above_same : (d : ℕ) → levels_above (kept_as h own) b d ≡ levels_above h back d
  above_same zero = refl
  above_same (suc d) = λ i. map child_of (below_same d i) ∷ above_same d i

  layout_same : layout_in (kept_as h own) b ≡ layout_in h back
  layout_same = λ i. layout_of (record { slots = slots_same i; below = below_same (height h) i; index = record { entries = entries_same i; levels = above_same (height h) i; root = h.root; used = h.used } })

  index_bucket_same : (n : ℕ) → IsIndexBucket h (bucket_at h back n) → IsIndexBucket (kept_as h own) (bucket_at (kept_as h own) b n)
  index_bucket_same n is = let x = subst (λ (bytes : List ℕ). IsIndexBucket h bytes) (sym (bytes_same n)) is in record { bucket = x.bucket; some = x.some; used = x.used }

  leaf_same : (n : ℕ) → IsLeaf h (bucket_at h back n) → IsLeaf (kept_as h own) (bucket_at (kept_as h own) b n)
  leaf_same n is = let x = subst (λ (bytes : List ℕ). IsLeaf h bytes) (sym (bytes_same n)) is in record { bucket = x.bucket; kept = x.kept; leads = x.leads }

  leads_same : (ns : List ℕ) (end : ℕ) → Leads h back ns end → Leads (kept_as h own) b ns end
  leads_same [] end leads = tt
  leads_same (n ∷ ns) end leads = (ap next_of (bytes_same n) ∙ leads.0, leads_same ns end leads.1)

  rooted_same : IsRooted h back → IsRooted (kept_as h own) b
  rooted_same w = record {
    index = record {
      buckets = subst (λ (levels : List (List ℕ)). AllAre (λ n. IsIndexBucket (kept_as h own) (bucket_at (kept_as h own) b n)) (numbers_of levels)) (sym (above_same (height h)))
          (moved (λ n. IsIndexBucket h (bucket_at h back n)) (λ n. IsIndexBucket (kept_as h own) (bucket_at (kept_as h own) b n)) (numbers_of (levels_of h back)) index_bucket_same w.index.buckets);
      joins = λ steps less. (λ i. map (parent_entry (entries_same i)) (map child_of (below_same steps i))) ∙ w.index.joins steps less ∙ sym (below_same steps);
    };
    leaves = subst (λ (es : List Entry). AllAre (λ n. IsLeaf (kept_as h own) (bucket_at (kept_as h own) b n)) (map child_of es)) (sym (below_same (height h)))
        (moved (λ n. IsLeaf h (bucket_at h back n)) (λ n. IsLeaf (kept_as h own) (bucket_at (kept_as h own) b n)) (leaf_numbers h back) leaf_same w.leaves);
    chain = subst (λ (es : List Entry). Leads (kept_as h own) b (map child_of es) no_next) (sym (below_same (height h))) (leads_same (leaf_numbers h back) no_next w.chain);
    reached = (λ i. length (map child_of (below_same (height h) i)) + length (numbers_of (above_same (height h) i))) ∙ w.reached;
    once = subst (λ (ns : List ℕ). AllDiffer ns) (sym (λ i. map child_of (below_same (height h) i) ++ numbers_of (above_same (height h) i))) w.once;
    tree = subst (IsTree (sizes_of h)) (sym layout_same) w.tree;
  }

-- Where the copy stands, it is read as the file is.
module _ (h own : FileHead) (a b : Blocks) (form : IsTreeHead h) (stands : StandAt h own.start a b) where
  agrees : AgreesOn h a (back h own b)
  agrees n within =
      let parts = and_parts (nat_le (h.start - 518) n) (nat_lt n (h.start - 518 + h.alloc * h.bucket)) within in
      let from : h.start - 518 ≤ n = leb-true (h.start - 518) n parts.0 in
      let to : n < h.start - 518 + h.alloc * h.bucket = ltb-true n (h.start - 518 + h.alloc * h.bucket) parts.1 in
      let at : n ≡ h.start - 518 + (n - (h.start - 518)) = omega (arith, from) in
      ap (block_at a) at ∙ sym (stands (n - (h.start - 518)) (omega (arith, from, to))) ∙ sym (shifted_block (h.start - 518) (own.start - 518) b (n - (h.start - 518))) ∙ sym (ap (block_at (back h own b)) at)

  stays : IsRooted h a → StaysRooted h a (back h own b)
  stays is = rooted_stays h a (back h own b) form.root.root form.root.within agrees is

  pub layout_moved : IsRooted h a → layout_in (kept_as h own) b ≡ layout_in h a
  layout_moved is = layout_same h own b ∙ (stays is).layout

  pub map_moved : IsRooted h a → map_of (kept_as h own) b ≡ map_of h a
  map_moved is = λ i key. at_key key i
    where
      at_key : (key : Key) → map_of (kept_as h own) b key ≡ map_of h a key
      at_key (Number m) = refl
      at_key (Text t) = ap (λ (l : Layout). lookup (slots_along l.leaves) t) (layout_moved is)
      at_key End = refl

  pub laid_out_moved : IsRooted h a → IsRooted (kept_as h own) b
  laid_out_moved is = rooted_same h own b (stays is).rooted
