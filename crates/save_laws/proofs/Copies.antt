-- Copies of files of any organization, and saves.
use Rattle.std.proofs.Common.{◌≡◌, ℕ, List, refl, sym, subst}
use Rattle.record_files.specs.file_base.declared.head.FileHead.{FileHead}
use Rattle.record_files.specs.file_base.declared.head.Marks.{Marks}
use Rattle.record_files.specs.file_base.declared.head.Save.{Save}
use Rattle.record_files.specs.file_base.declared.head.Organization.{Organization}
use Rattle.record_files.specs.file_base.declared.head.Organization.TheVariants.{Sequential, Relative, Indexed}
use Rattle.record_files.specs.Any.{FormBy, map_by, layout_by, LaidOutBy}
use Rattle.save_laws.specs.Saves.{kept_as, StandAt, save_head, IsOfNow, KeepsSave}
use Rattle.save_laws.specs.Laws.{ReadsAs, CopiesAreRead, SavesAreRead, SavesStay}
use Rattle.save_laws.proofs.Relatives as relative
use Rattle.save_laws.proofs.Sequences as sequential
use Rattle.save_laws.proofs.Trees as indexed

form_by : (o : Organization) (h own : FileHead) → FormBy o h → FormBy o (kept_as h own)
form_by Sequential = sequential.is_sequential
form_by Relative = relative.is_relative
form_by Indexed = indexed.is_indexed

map_moved : (o : Organization) (h own : FileHead) (a b : List (List ℕ)) → FormBy o h → StandAt h own.start a b → LaidOutBy o h a → map_by o (kept_as h own) b ≡ map_by o h a
map_moved Sequential h own a b form stands is = sequential.map_moved h own a b form stands
map_moved Relative h own a b form stands is = relative.map_moved h own a b form stands
map_moved Indexed h own a b form stands is = indexed.map_moved h own a b form stands is

layout_moved : (o : Organization) (h own : FileHead) (a b : List (List ℕ)) → FormBy o h → StandAt h own.start a b → LaidOutBy o h a → layout_by o (kept_as h own) b ≡ layout_by o h a
layout_moved Sequential h own a b form stands is = refl
layout_moved Relative h own a b form stands is = refl
layout_moved Indexed h own a b form stands is = indexed.layout_moved h own a b form stands is

laid_out_moved : (o : Organization) (h own : FileHead) (a b : List (List ℕ)) → FormBy o h → StandAt h own.start a b → LaidOutBy o h a → LaidOutBy o (kept_as h own) b
laid_out_moved Sequential = sequential.laid_out_moved
laid_out_moved Relative = relative.laid_out_moved
laid_out_moved Indexed = indexed.laid_out_moved

pub copies_read : CopiesAreRead
copies_read h own old new form stands = record {
  file = form_by h.organization h own form;
  map = map_moved h.organization h own old new form stands;
  layout = layout_moved h.organization h own old new form stands;
  laid_out = laid_out_moved h.organization h own old new form stands;
}

-- the save's head is kept as the file, since its numbers are the file's
head_is : (h : FileHead) (marks : Marks) (v : Save) → IsOfNow h v → kept_as h (record h { marks = marks; save = v; start = v.start }) ≡ save_head (record h { marks = marks; save = v })
head_is h marks v now = λ i. record h { marks = marks; save = v; start = v.start; alloc = sym now.alloc i; used = sym now.used i; root = sym now.root i; levels = sym now.levels i; count = sym now.count i }

pub saves_read : SavesAreRead
saves_read h marks v old new form now stands = subst (λ (k : FileHead). ReadsAs h old k new) (head_is h marks v now) (copies_read h (record h { marks = marks; save = v; start = v.start }) old new form stands)

later_is : (h k : FileHead) → KeepsSave h k → kept_as (save_head h) (save_head k) ≡ save_head k
later_is h k e = λ i. record (save_head k) {
  organization = sym e.organization i;
  bucket = sym e.bucket i;
  mrs = sym e.mrs i;
  mrn = sym e.mrn i;
  key_pos = sym e.key_pos i;
  key_size = sym e.key_size i;
  alloc = (sym e.save i).alloc;
  used = (sym e.save i).used;
  root = (sym e.save i).root;
  levels = (sym e.save i).levels;
  count = (sym e.save i).count;
}

pub saves_stay : SavesStay
saves_stay h k old new e form stands = subst (λ (x : FileHead). ReadsAs (save_head h) old x new) (later_is h k e) (copies_read (save_head h) (save_head k) old new form stands)
