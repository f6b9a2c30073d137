-- A new file.
use Rattle.std.specs.Prelude.{◌≡◌, ℕ, ◌+◌, ◌*◌, ◌≤◌, true, List, false}
use Rattle.vms_model.specs.Limits.{record_limit}
use Rattle.file_base.specs.declared.head.FileHead.{FileHead}
use Rattle.file_base.specs.declared.head.Organization.{Organization}
use Rattle.file_base.specs.declared.head.Organization.TheVariants as organization
use Rattle.file_base.specs.declared.head.Span.{Span}
use Rattle.script_lang.specs.declared.statement.Form.{Form}
use Rattle.script_lang.specs.declared.statement.Form.TheVariants as form
use Rattle.script_lang.specs.Statements.{form_of}
use Rattle.directory_model.specs.run_model.Answers.{buckets_for, is_file_form}
use Rattle.volume.specs.Limits.{no_save}
use Rattle.node_files.specs.declared.sizes.Sizes.{Sizes}

-- the sizes and the form that a file may have
pub record AreSizes (s : Sizes) : Type 0 where
  pub least_blocks : 1 ≤ s.bucket
  pub most_blocks : s.bucket ≤ 16
  pub least_record : 1 ≤ s.mrs
  pub most_record : s.mrs ≤ record_limit
  pub record_fits : s.mrs + 32 ≤ 512 * s.bucket
  pub form : is_file_form s.bucket s.mrs (form_of s.form) ≡ true

-- how many buckets it has
abbrev pub buckets_in : Sizes → ℕ
buckets_in s = buckets_for s.bucket s.mrs (form_of s.form)

abbrev pub no_span : Span
no_span = record { start = 0; blocks = 0; first = 0; end = 0 }

-- how the records of a form are kept
abbrev pub kept_by : Form → Organization
kept_by (form.Sequential buckets) = organization.Sequential
kept_by (form.Relative records) = organization.Relative
kept_by (form.Indexed buckets position size) = organization.Indexed

-- the greatest number, the key's position and size, the used buckets of so many, and the levels of a new file of this form
abbrev pub greatest_by : Form → ℕ
greatest_by (form.Sequential buckets) = 0
greatest_by (form.Relative records) = records
greatest_by (form.Indexed buckets position size) = 0

abbrev pub position_by : Form → ℕ
position_by (form.Sequential buckets) = 0
position_by (form.Relative records) = 0
position_by (form.Indexed buckets position size) = position

abbrev pub key_by : Form → ℕ
key_by (form.Sequential buckets) = 0
key_by (form.Relative records) = 0
key_by (form.Indexed buckets position size) = size

abbrev pub used_by : Form → ℕ → ℕ
used_by (form.Sequential buckets) all = 1
used_by (form.Relative records) all = all
used_by (form.Indexed buckets position size) all = 1

abbrev pub levels_by : Form → ℕ
levels_by (form.Sequential buckets) = 0
levels_by (form.Relative records) = 0
levels_by (form.Indexed buckets position size) = 1

-- the head of a new file of these sizes, from this block on
abbrev pub new_head : List ℕ → Sizes → ℕ → FileHead
new_head name s start = record {
  name = name;
  organization = kept_by s.form;
  marks = record { ru = false; ai = false; bi = false; save = false };
  bucket = s.bucket;
  mrs = s.mrs;
  mrn = greatest_by s.form;
  key_pos = position_by s.form;
  key_size = key_by s.form;
  start = start;
  alloc = buckets_in s;
  used = used_by s.form (buckets_in s);
  root = 0;
  levels = levels_by s.form;
  count = 0;
  ai = no_span;
  bi = no_span;
  bi_since = record { 0 = 0 };
  save = no_save;
}

-- the same but for how its records are kept
abbrev pub plain_head_of : List ℕ → Sizes → ℕ → FileHead
plain_head_of name s start = record (new_head name s start) { organization = organization.Sequential; mrn = 0; key_pos = 0; key_size = 0; used = 1; levels = 0 }
