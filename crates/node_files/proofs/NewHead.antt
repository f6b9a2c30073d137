-- The head of a new file is one that its form asks for.
use Rattle.std.proofs.Common.{◌≡◌, ℕ, ◌+◌, ◌-◌, ◌*◌, ◌/◌, ◌≤◌, List, Bool, true, false, nat_le, refl, sym, ◌∙◌, arith}
use Rattle.std.specs.Prelude.{◌&&◌}
use Rattle.std.proofs.lemmas.Bool.Decides.{nat_tests}
use Rattle.file_base.specs.declared.head.FileHead.{FileHead}
use Rattle.script_lang.specs.declared.statement.Form.{Form}
use Rattle.script_lang.specs.declared.statement.Form.TheVariants as form
use Rattle.script_lang.specs.Statements.{form_of}
use Rattle.directory_model.specs.run_model.Answers.{are_sizes, buckets_for, is_file_form}
use Rattle.directory_model.specs.Files.{IsNewHead, IsOrganized}
use Rattle.node_files.specs.declared.sizes.Sizes.{Sizes}
use Rattle.node_files.specs.NewFile.{AreSizes, new_head, buckets_in, kept_by, greatest_by, position_by, key_by, used_by, levels_by}

and_left : (a b : Bool) → (a && b) ≡ true → a ≡ true
and_left true b e = refl
and_left false b e = e

and_right : (a b : Bool) → (a && b) ≡ true → b ≡ true
and_right true b e = e
and_right false b e = let none : false ≡ true = e in let no_way : ⊥ = cc in absurd no_way

at_least : (m n : ℕ) → nat_le m n ≡ true → m ≤ n
at_least m n e = grind (arith, nat_tests)

-- a key's size and place
key_fits : (bucket mrs buckets position size : ℕ) → is_file_form bucket mrs (form_of (form.Indexed buckets position size)) ≡ true → (1 ≤ size) × (size ≤ 64) × (position + size ≤ mrs)
key_fits bucket mrs buckets position size e =
    let inner = and_left ((are_sizes bucket mrs && nat_le 1 buckets) && (nat_le 1 size && nat_le size 64)) (nat_le (position + size) mrs) e in
    let key = and_right (are_sizes bucket mrs && nat_le 1 buckets) (nat_le 1 size && nat_le size 64) inner in (
      at_least 1 size (and_left (nat_le 1 size) (nat_le size 64) key),
      at_least size 64 (and_right (nat_le 1 size) (nat_le size 64) key),
      at_least (position + size) mrs (and_right ((are_sizes bucket mrs && nat_le 1 buckets) && (nat_le 1 size && nat_le size 64)) (nat_le (position + size) mrs) e),
    )

organized : (f : Form) (all bucket mrs : ℕ) (h : FileHead) → is_file_form bucket mrs (form_of f) ≡ true → h.organization ≡ kept_by f → h.mrn ≡ greatest_by f → h.key_pos ≡ position_by f → h.key_size ≡ key_by f → h.alloc ≡ all → h.used ≡ used_by f all → h.levels ≡ levels_by f → h.mrs ≡ mrs → IsOrganized (form_of f) h
organized (form.Sequential buckets) all bucket mrs h e o n p k a u l m = (o, u, l)
organized (form.Relative records) all bucket mrs h e o n p k a u l m = (o, n, u ∙ sym a, l)
organized (form.Indexed buckets position size) all bucket mrs h e o n p k a u l m = let fits = key_fits bucket mrs buckets position size e in (o, p, k, u, l, fits.0, fits.1, (let q = fits.2 in omega (arith, q, m)))

some_cells : (bucket mrs : ℕ) → mrs + 32 ≤ 512 * bucket → 1 ≤ (512 * bucket - 16) / (mrs + 2)
some_cells bucket mrs fits = search arith

some_quotient : (n c : ℕ) → 1 ≤ n → 1 ≤ c → 1 ≤ (n + c - 1) / c
some_quotient n c p q = search arith

pub some_buckets : (f : Form) (bucket mrs : ℕ) → mrs + 32 ≤ 512 * bucket → is_file_form bucket mrs (form_of f) ≡ true → 1 ≤ buckets_for bucket mrs (form_of f)
some_buckets (form.Sequential buckets) bucket mrs fits e = at_least 1 buckets (and_right (are_sizes bucket mrs) (nat_le 1 buckets) e)
some_buckets (form.Relative records) bucket mrs fits e =
    some_quotient records ((512 * bucket - 16) / (mrs + 2)) (at_least 1 records (and_right (are_sizes bucket mrs) (nat_le 1 records) e)) (some_cells bucket mrs fits)
some_buckets (form.Indexed buckets position size) bucket mrs fits e =
    at_least 1 buckets (and_right (are_sizes bucket mrs) (nat_le 1 buckets) (and_left (are_sizes bucket mrs && nat_le 1 buckets) (nat_le 1 size && nat_le size 64)
    (and_left ((are_sizes bucket mrs && nat_le 1 buckets) && (nat_le 1 size && nat_le size 64)) (nat_le (position + size) mrs) e)))

pub new_head_is : (name : List ℕ) (s : Sizes) (start : ℕ) → AreSizes s → IsNewHead (form_of s.form) (new_head name s start)
new_head_is name s start sizes = record {
  organized = organized s.form (buckets_in s) s.bucket s.mrs (new_head name s start) sizes.form refl refl refl refl refl refl refl refl;
  record_size = sizes.least_record;
  room = sizes.record_fits;
  buckets = refl;
  some = some_buckets s.form s.bucket s.mrs sizes.record_fits sizes.form;
  root = refl;
  count = refl;
  unmarked = refl;
  carried = record { no_after = refl; no_before = refl; no_save = refl; after = refl; before = refl; since = refl; save_start = refl; save_buckets = refl };
}

-- the sizes that are tested one after another
pub sizes_there : (bucket size : ℕ) → 1 ≤ bucket → bucket ≤ 16 → 1 ≤ size → size ≤ 8160 → size ≤ 512 * bucket - 32 → are_sizes bucket size ≡ true
sizes_there bucket size a b c d e = grind (arith, nat_tests)
