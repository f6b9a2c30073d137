-- The head of a file that is made, and the file that is made with it.
use Rattle.std.proofs.Common.{◌≡◌, ℕ, ◌+◌, ◌-◌, ◌*◌, ◌/◌, ◌≤◌, Bool, true, false, List, None, refl, sym, ap, subst, ◌∙◌, arith, inl, inr}
use Rattle.std.specs.FinMap.{get-empty}
use Rattle.std.proofs.lemmas.Bool.{cases_lt}
use Rattle.extents.specs.file_base.declared.head.FileHead.{FileHead}
use Rattle.extents.specs.file_base.declared.head.Span.{Span}
use Rattle.file_images.specs.Files.{HasSide, HasSave, form_of}
use Rattle.file_images.specs.recovery_model.File.{no_images}
use Rattle.file_images.specs.change_set.Maps.{Map, empty_map}
use Rattle.file_images.specs.relative_file.Cells.{IsRelative, cells_in}
use Rattle.file_images.specs.seq_file.Layout.{IsSequential, IsFresh}
use Rattle.file_images.specs.indexed_tree.Files.{IsTreeHead, IsNewHead as IsNewTree}
use Rattle.file_images.specs.record_files.Any as any
use Rattle.file_images.specs.record_files.Any.{map_of, layout_of, first_layout_of, first_by, FormBy, FreshBy, IsLaidOut, IsNew}
use Rattle.file_images.specs.script_model.Statements.{Form}
use Rattle.file_images.specs.script_model.Statements as form
use Rattle.records_model.specs.Records.{key_cmp}
use Rattle.file_images.specs.tree_model.Layouts.{first_layout as one_leaf}
use Rattle.file_images.specs.run_model.Answers.{created, first_layout, organized}
use Rattle.file_images.specs.run_model.World.{nothing_carried}
use Rattle.directory_model.specs.Files.{IsCarried, IsFile, IsNewHead, organized_by}
use Rattle.directory_model.specs.Laws.{MakesFiles}

-- a bucket has a cell
one_cell : (room cell : ℕ) → 1 ≤ cell → cell ≤ room → 1 ≤ room / cell
one_cell room cell some fits = elim (cases_lt (room / cell) 1) [
  | inl none ↦ let zero_cells : room / cell ≡ 0 = omega arith in
      let nothing : cell * (room / cell) ≡ cell * 0 = ap (λ x. cell * x) zero_cells in
      omega arith
  | inr cells ↦ cells
]

-- so many buckets have as many cells as there are numbers
cells_enough : (numbers cells : ℕ) → 1 ≤ cells → numbers ≤ (numbers + cells - 1) / cells * cells
cells_enough numbers cells some = omega arith

-- Its form.

sequential : (buckets : ℕ) (h : FileHead) → IsNewHead (form.Sequential buckets) h → IsSequential h × IsFresh h
sequential buckets h new =
    (record { organization = new.organized.0; one = let used = new.organized.1 in omega arith; used = let used = new.organized.1 in let some = new.some in omega arith; root = new.root; levels = new.organized.2 }, record { one = new.organized.1; none = new.count })

relative : (records : ℕ) (h : FileHead) → IsNewHead (form.Relative records) h → IsRelative h
relative records h new = record {
  organization = new.organized.0;
  cells = subst (λ x. x ≤ h.alloc * cells_in h) (sym new.organized.1) (subst (λ x. records ≤ x * cells_in h) (sym new.buckets) (cells_enough records (cells_in h) one));
  one = one;
  used = new.organized.2;
  root = new.root;
  levels = new.organized.3;
  count = new.count;
}
  where
    one : 1 ≤ cells_in h
    one = let room = new.room in one_cell (512 * h.bucket - 16) (h.mrs + 2) (omega arith) (omega arith)

indexed : (buckets position size : ℕ) (h : FileHead) → IsNewHead (form.Indexed buckets position size) h → IsTreeHead h × IsNewTree h
indexed buckets position size h new = (
  record {
    organization = new.organized.0;
    root = record {
      some = let levels = new.organized.4 in omega arith;
      most = let levels = new.organized.4 in omega arith;
      root = let used = new.organized.3 in let root = new.root in omega arith;
      within = let used = new.organized.3 in let some = new.some in omega arith;
      short = subst (λ x. x ≤ 64) (sym new.organized.2) new.organized.6;
    };
    keys = record {
      key = subst (λ x. 1 ≤ x) (sym new.organized.2) new.organized.5;
      short = subst (λ x. x ≤ 64) (sym new.organized.2) new.organized.6;
      holds = let at = new.organized.1 in let long = new.organized.2 in let fits = new.organized.7 in omega arith;
    };
    count = new.count;
  },
  record { used = new.organized.3; root = new.root; levels = new.organized.4 },
)

new_form : (f : Form) (h : FileHead) → IsNewHead f h → any.IsFile h × IsNew h
new_form (form.Sequential buckets) h new = let both = sequential buckets h new in (subst (λ o. FormBy o h) (sym new.organized.0) both.0, subst (λ o. FreshBy o h) (sym new.organized.0) both.1)
new_form (form.Relative records) h new = (subst (λ o. FormBy o h) (sym new.organized.0) (relative records h new), subst (λ o. FreshBy o h) (sym new.organized.0) tt)
new_form (form.Indexed buckets position size) h new =
    let both = indexed buckets position size h new in (subst (λ o. FormBy o h) (sym new.organized.0) both.0, subst (λ o. FreshBy o h) (sym new.organized.0) both.1)

-- The file.

new_organization : (f : Form) (h : FileHead) → IsNewHead f h → organized f ≡ organized_by h.organization h
new_organization (form.Sequential buckets) h new = ap (λ o. organized_by o h) (sym new.organized.0)
new_organization (form.Relative records) h new = ap (λ n. organized (form.Relative n)) (sym new.organized.1) ∙ ap (λ o. organized_by o h) (sym new.organized.0)
new_organization (form.Indexed buckets position size) h new =
    ap (λ p. organized (form.Indexed buckets p size)) (sym new.organized.1) ∙ ap (λ s. organized (form.Indexed buckets h.key_pos s)) (sym new.organized.2) ∙ ap (λ o. organized_by o h) (sym new.organized.0)

new_layout : (f : Form) (h : FileHead) → IsNewHead f h → first_layout f ≡ first_layout_of h
new_layout (form.Sequential buckets) h new = ap (λ o. first_by o h) (sym new.organized.0)
new_layout (form.Relative records) h new = ap (λ o. first_by o h) (sym new.organized.0)
new_layout (form.Indexed buckets position size) h new = ap one_leaf (sym new.organized.2) ∙ ap (λ o. first_by o h) (sym new.organized.0)

new_file : (content : List (List ℕ)) (f : Form) (h : FileHead) (moment : ℕ) → IsNewHead f h → map_of h content ≡ empty_map → IsLaidOut h content → layout_of h content ≡ first_layout_of h → IsFile content h (created h.name h.bucket h.mrs f h.start moment)
new_file content f h moment new none laid first = record {
  head = record {
    name = refl;
    bucket = refl;
    record_size = refl;
    organization = new_organization f h new;
    start = refl;
    buckets = sym new.buckets;
    units = sym new.unmarked;
    form = (new_form f h new).0;
  };
  laid = laid;
  records = λ key. get-empty key_cmp key ∙ ap (λ (m : Map). m key) (sym none);
  layout = new_layout f h new ∙ sym first;
}

-- it carries nothing
no_side : (content : List (List ℕ)) (number : ℕ) (form : FileHead) (marked : Bool) (s : Span) → marked ≡ false → s ≡ record { start = 0; blocks = 0; first = 0; end = 0 } → HasSide content marked s number form no_images
no_side content number form marked s off none = record {
  on = sym off;
  start = ap (λ (x : Span). x.start) none;
  blocks = ap (λ (x : Span). x.blocks) none;
  first = ap (λ (x : Span). x.first) none;
  end = ap (λ (x : Span). x.end) none;
  images = λ on. let both : true ≡ false = sym on ∙ off in let no : ⊥ = cc in absurd no;
  bare = λ none. refl;
  of = tt;
  suited = tt;
}

new_carried : (content : List (List ℕ)) (number : ℕ) (f : Form) (h : FileHead) → IsNewHead f h → IsCarried content number h nothing_carried
new_carried content number f h new = record {
  after = no_side content number (form_of h) h.marks.ai h.ai new.carried.no_after new.carried.after;
  before = no_side content number (form_of h) h.marks.bi h.bi new.carried.no_before new.carried.before;
  since = sym new.carried.since;
  save = subst (λ (m : Bool). HasSave content m h None) (sym new.carried.no_save) (new.carried.save_start, new.carried.save_buckets);
}

-- Its blocks.

some_product : (a b : ℕ) → 1 ≤ a → 1 ≤ b → 1 ≤ a * b
some_product a b one least = grind arith

some : (f : Form) (h : FileHead) → IsNewHead f h → 1 ≤ h.alloc * h.bucket
some f h new = some_product h.alloc h.bucket new.some (let room = new.room in omega arith)

pub makes_files : MakesFiles
makes_files = record { form = new_form; file = new_file; carried = new_carried; blocks = λ f h new. ap (λ x. x * h.bucket) new.buckets; some = some }
