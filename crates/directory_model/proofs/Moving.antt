-- Files whose content, head or history becomes another.
use Rattle.std.proofs.Common.{◌≡◌, ℕ, List, Bool, Option, Some, None, map, slice_set, refl, sym, ap, subst, ◌∙◌, arith, inl, inr}
use Rattle.std.specs.Option.{option_map}
use Rattle.std.specs.FinMap.{get}
use Rattle.std.proofs.lemmas.Bool.{cases_eq}
use Rattle.std.proofs.lemmas.List.{length-map, length-set, get_or-set_same, get_or-set_other}
use Rattle.extents.specs.file_base.declared.head.FileHead.{FileHead}
use Rattle.extents.specs.file_base.declared.head.Organization.{Organization as Kept}
use Rattle.extents.specs.file_base.declared.head.Organization.TheVariants.{Sequential, Relative, Indexed}
use Rattle.file_images.specs.change_set.Files.{SameFile}
use Rattle.file_images.specs.record_files.Any as any
use Rattle.file_images.specs.record_files.Any.{map_of, IsLaidOut}
use Rattle.file_images.specs.save_laws.Saves.{KeepsSave}
use Rattle.file_images.specs.Files.{HasSide, HasSave, form_of}
use Rattle.file_images.proofs.Sides.{saves_follow, sides_follow}
use Rattle.records_model.specs.vms_model.Keys.{Key}
use Rattle.file_images.specs.tree_model.Layouts.{Layout}
use Rattle.records_model.specs.History.{History, current}
use Rattle.file_images.specs.run_model.World as world
use Rattle.file_images.specs.run_model.World.{Carried, File}
use Rattle.directory_model.specs.Files.{IsCarried, IsHeadOf, IsFile, IsPlace, AreFiles, AgreesOnCarried, head_at, file_at, layout_of, organized_by}
use Rattle.directory_model.specs.Laws.{SameBut}
use Rattle.directory_model.proofs.Places.{file_mapped, within_list}
use Rattle.directory_model.proofs.Standing.{place_stands}

-- The same file's head says alike how records are kept.
organized_same : (o : Kept) (h new : FileHead) → SameFile h new → organized_by o h ≡ organized_by o new
organized_same Sequential h new same = refl
organized_same Relative h new same = ap (λ (x : FileHead). world.Relative x.mrn) (sym same.is)
organized_same Indexed h new same = ap (λ (x : FileHead). world.Indexed x.key_pos x.key_size) (sym same.is)

pub same_organization : (h new : FileHead) → SameFile h new → new.organization ≡ h.organization
same_organization h new same = ap (λ (x : FileHead). x.organization) same.is

-- a head that is the same file's
pub head_moved : (h new : FileHead) (file : File) → SameFile h new → any.IsFile new → IsHeadOf h file → IsHeadOf new file
head_moved h new file same form is = record {
  name = is.name ∙ sym (ap (λ (x : FileHead). x.name) same.is);
  bucket = is.bucket ∙ sym (ap (λ (x : FileHead). x.bucket) same.is);
  record_size = is.record_size ∙ sym (ap (λ (x : FileHead). x.mrs) same.is);
  organization = is.organization ∙ organized_same h.organization h new same ∙ ap (λ (o : Kept). organized_by o new) (sym (same_organization h new same));
  start = is.start ∙ sym (ap (λ (x : FileHead). x.start) same.is);
  buckets = is.buckets ∙ sym (ap (λ (x : FileHead). x.alloc) same.is);
  units = is.units ∙ sym (ap (λ (x : FileHead). x.marks.ru) same.is);
  form = form;
}

-- and of a file with another history and layout
pub head_again : (h : FileHead) (file : File) (history : History) (layout : Layout) → IsHeadOf h file → IsHeadOf h (record file { history = history; layout = layout })
head_again h file history layout is = record {
  name = is.name;
  bucket = is.bucket;
  record_size = is.record_size;
  organization = is.organization;
  start = is.start;
  buckets = is.buckets;
  units = is.units;
  form = is.form;
}

-- A file whose history, layout, content and head are others.
pub file_moved : (a b : List (List ℕ)) (h new : FileHead) (file : File) (history : History) (layout : Layout) → SameFile h new → any.IsFile new → IsLaidOut new b → IsFile a h file →
    ((key : Key) → get (current history) key ≡ map_of new b key) → layout ≡ layout_of new b → IsFile b new (record file { history = history; layout = layout })
file_moved a b h new file history layout same form laid is records laid_so = record {
  head = head_again new file history layout (head_moved h new file same form is.head);
  laid = laid;
  records = records;
  layout = laid_so;
}

-- a file that carries something else
pub file_carried : (content : List (List ℕ)) (h : FileHead) (file : File) (r : Carried) → IsFile content h file → IsFile content h (record file { carried = r })
file_carried content h file r is = record {
  head = record { name = is.head.name; bucket = is.head.bucket; record_size = is.head.record_size; organization = is.head.organization; start = is.head.start; buckets = is.head.buckets; units = is.head.units; form = is.head.form };
  laid = is.laid;
  records = is.records;
  layout = is.layout;
}

-- a head that is the same file's has the same save
save_kept : (h new : FileHead) → SameFile h new → KeepsSave h new
save_kept h new same = record {
  organization = ap (λ (x : FileHead). x.organization) same.is;
  bucket = ap (λ (x : FileHead). x.bucket) same.is;
  mrs = ap (λ (x : FileHead). x.mrs) same.is;
  mrn = ap (λ (x : FileHead). x.mrn) same.is;
  key_pos = ap (λ (x : FileHead). x.key_pos) same.is;
  key_size = ap (λ (x : FileHead). x.key_size) same.is;
  save = ap (λ (x : FileHead). x.save) same.is;
}

-- and carries the same, where that stands
pub carried_moved : (a b : List (List ℕ)) (f : ℕ) (h new : FileHead) (r : Carried) → SameFile h new → AgreesOnCarried h a b → IsCarried a f h r → IsCarried b f new r
carried_moved a b f h new r same stands is = record {
  after = subst (λ (k : FileHead). HasSide b k.marks.ai k.ai f (form_of k) r.after) (sym same.is) (sides_follow.stays a b h.marks.ai h.ai f (form_of h) r.after is.after stands.after);
  before = subst (λ (k : FileHead). HasSide b k.marks.bi k.bi f (form_of k) r.before) (sym same.is) (sides_follow.stays a b h.marks.bi h.bi f (form_of h) r.before is.before stands.before);
  since = is.since ∙ sym (ap (λ (x : FileHead). x.bi_since.0) same.is);
  save = subst (λ (m : Bool). HasSave b m new r.save) (sym (ap (λ (x : FileHead). x.marks.save) same.is)) (saves_follow.stays a b h.marks.save h new r.save is.save (save_kept h new same) stands.save);
}

place_mapped : (a b : List (List ℕ)) (f : ℕ) (change : File → File) (o : Option FileHead) (p : Option File) → ((h : FileHead) (file : File) → o ≡ Some h → p ≡ Some file → IsFile a h file → IsCarried a f h file.carried → IsFile b h (change file) × IsCarried b f h (change file).carried) →
    IsPlace a f o p → IsPlace b f o (option_map change p)
place_mapped a b f change None None so is = tt
place_mapped a b f change None (Some file) so is = absurd is
place_mapped a b f change (Some h) None so is = absurd is
place_mapped a b f change (Some h) (Some file) so is = so h file refl refl is.0 is.1

-- the files of a directory in which each file was changed
pub files_mapped : (a b : List (List ℕ)) (heads : List (Option FileHead)) (directory : List (Option File)) (change : File → File) → AreFiles a heads directory →
    ((f : ℕ) (h : FileHead) (file : File) → head_at heads f ≡ Some h → file_at directory f ≡ Some file → IsFile a h file → IsCarried a f h file.carried → IsFile b h (change file) × IsCarried b f h (change file).carried) → AreFiles b heads (map (option_map change) directory)
files_mapped a b heads directory change are so = record {
  heads_long = are.heads_long;
  directory_long = length-map directory (option_map change) ∙ are.directory_long;
  each = λ f. subst (λ x. IsPlace b f (head_at heads f) x) (sym (file_mapped change directory f)) (place_mapped a b f change (head_at heads f) (file_at directory f) (so f) (are.each f));
}

-- the files of one in which the file at a place was changed
pub places_moved : (a b : List (List ℕ)) (heads : List (Option FileHead)) (directory : List (Option File)) (f : ℕ) (h new : FileHead) (file : File) → AreFiles a heads directory → head_at heads f ≡ Some h → IsFile b new file → IsCarried b f new file.carried →
    SameBut f heads a b → AreFiles b (slice_set heads f (Some new)) (slice_set directory f (Some file))
places_moved a b heads directory f h new file are there is carried same = record {
  heads_long = length-set heads f (Some new) ∙ are.heads_long;
  directory_long = length-set directory f (Some file) ∙ are.directory_long;
  each = λ g. elim (cases_eq g f) [
    | inl here ↦ let below = within_list heads f h there in let long = are.heads_long in let long_too = are.directory_long in
        let head : head_at (slice_set heads f (Some new)) f ≡ Some new = get_or-set_same heads f (Some new) None below in
        let now : file_at (slice_set directory f (Some file)) f ≡ Some file = get_or-set_same directory f (Some file) None (omega arith) in
        subst (λ x. IsPlace b x (head_at (slice_set heads f (Some new)) x) (file_at (slice_set directory f (Some file)) x)) (sym here)
        (subst (λ o. IsPlace b f o (file_at (slice_set directory f (Some file)) f)) (sym head) (subst (λ o. IsPlace b f (Some new) o) (sym now) (is, carried)))
    | inr other ↦ subst (λ o. IsPlace b g o (file_at (slice_set directory f (Some file)) g)) (sym (get_or-set_other heads f g (Some new) None other))
        (subst (λ o. IsPlace b g (head_at heads g) o) (sym (get_or-set_other directory f g (Some file) None other))
        (place_stands a b g (head_at heads g) (file_at directory g) (λ o head. same g o other head) (are.each g)))
  ];
}
