-- Files rest on their extents.
use Rattle.std.proofs.Common.{◌≡◌, ℕ, List, Option, Some, None, refl, ap, ◌∙◌}
use Rattle.extents.specs.file_base.declared.head.FileHead.{FileHead}
use Rattle.file_images.specs.change_set.Files.{AgreesOn}
use Rattle.file_images.specs.change_set.Maps.{Map}
use Rattle.file_images.specs.record_files.Local.{local_law, valid_local_law, layout_local_law}
use Rattle.file_images.specs.save_laws.Saves.{KeepsSave}
use Rattle.file_images.specs.Files.{form_of}
use Rattle.file_images.proofs.Sides.{saves_follow, sides_follow}
use Rattle.file_images.specs.run_model.World.{Carried, File}
use Rattle.directory_model.specs.Files.{IsCarried, IsFile, IsPlace, AgreesOnCarried, AgreesOnFile, head_at, file_at}
use Rattle.directory_model.specs.Laws.{StandsOnExtents}

-- The records, the layout and that buckets are laid out are the same in contents that agree on the extent; so the file stands.
pub file_stands : (a b : List (List ℕ)) (h : FileHead) (file : File) → AgreesOn h a b → IsFile a h file → IsFile b h file
file_stands a b h file agrees is = record {
  head = is.head;
  laid = valid_local_law h a b is.head.form agrees is.laid;
  records = λ key. is.records key ∙ ap (λ (m : Map). m key) (local_law h a b is.head.form agrees is.laid);
  layout = is.layout ∙ layout_local_law h a b is.head.form agrees is.laid;
}

-- a head has the save that it has
same_save : (h : FileHead) → KeepsSave h h
same_save h = record { organization = refl; bucket = refl; mrs = refl; mrn = refl; key_pos = refl; key_size = refl; save = refl }

-- what a file carries is the same where the rings of its journals and its save stand
pub carried_stands : (a b : List (List ℕ)) (f : ℕ) (h : FileHead) (r : Carried) → AgreesOnCarried h a b → IsCarried a f h r → IsCarried b f h r
carried_stands a b f h r stands is = record {
  after = sides_follow.stays a b h.marks.ai h.ai f (form_of h) r.after is.after stands.after;
  before = sides_follow.stays a b h.marks.bi h.bi f (form_of h) r.before is.before stands.before;
  since = is.since;
  save = saves_follow.stays a b h.marks.save h h r.save is.save (same_save h) stands.save;
}

pub place_stands : (a b : List (List ℕ)) (f : ℕ) (o : Option FileHead) (p : Option File) → ((h : FileHead) → o ≡ Some h → AgreesOnFile h a b) → IsPlace a f o p → IsPlace b f o p
place_stands a b f None None agree is = tt
place_stands a b f None (Some file) agree is = absurd is
place_stands a b f (Some h) None agree is = absurd is
place_stands a b f (Some h) (Some file) agree is = (file_stands a b h file (agree h refl).own is.0, carried_stands a b f h file.carried (agree h refl).carried is.1)

pub stands_on_extents : StandsOnExtents
stands_on_extents a b heads directory agree are = record {
  heads_long = are.heads_long;
  directory_long = are.directory_long;
  each = λ f. place_stands a b f (head_at heads f) (file_at directory f) (agree f) (are.each f);
}
