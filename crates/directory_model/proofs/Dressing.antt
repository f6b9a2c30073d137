-- Heads with other marks, journals and saves, over the acts that set these.
use Rattle.std.proofs.Common.{◌≡◌, ℕ, List, Bool, true, false, Option, Some, slice_set, refl, sym, ap, subst, ◌∙◌, arith}
use Rattle.std.specs.FinMap.{get}
use Rattle.extents.specs.file_base.declared.head.FileHead.{FileHead}
use Rattle.extents.specs.file_base.declared.head.Save.{Save}
use Rattle.extents.specs.file_base.declared.head.Span.{Span}
use Rattle.extents.specs.vms_base.declared.moments.Moment.{Moment}
use Rattle.file_images.specs.Files.{HasSave, form_of}
use Rattle.file_images.proofs.Sides.{saves_follow, sides_follow}
use Rattle.file_images.specs.journal_model.Ring.{HasRing}
use Rattle.file_images.specs.recovery_model.File.{Save as SaveOfFile, next_span}
use Rattle.file_images.specs.save_laws.Saves.{IsOfNow, KeepsSave, StandAt}
use Rattle.file_images.specs.script_model.Statements.{Side, AfterImages, BeforeImages}
use Rattle.records_model.specs.History.{current}
use Rattle.file_images.specs.run_model.World.{Node, Carried, File, Marks, ForUnits, BeginsImages, EndsImages, Saves, acted, begun_images, ended_images, marked_file, saved_file}
use Rattle.directory_model.specs.Files.{IsCarried, IsFile, AreFiles, IsNamed, AgreesOnFile, head_at, file_at}
use Rattle.directory_model.specs.Laws.{begun_head, end_by, ended_head, marked, saved_head}
use Rattle.directory_model.proofs.Places.{places_set, within_list}
use Rattle.directory_model.proofs.Finding.{finds_files}
use Rattle.directory_model.proofs.Standing.{file_stands}
use Rattle.directory_model.proofs.Marking.{file_marked}
use Rattle.directory_model.proofs.Moving.{places_moved}

-- a head with other marks and journals has the save that it had
pub save_dressed : (content : List (List ℕ)) (marked : Bool) (h new : FileHead) (v : Option SaveOfFile) → KeepsSave h new → HasSave content marked h v → HasSave content marked new v
save_dressed content marked h new v keeps has = saves_follow.stays content content marked h new v has keeps (λ m n in_it. refl)

-- SET_FILE

pub marks : (content : List (List ℕ)) (heads : List (Option FileHead)) (n : Node) (f : ℕ) (h : FileHead) (name : List ℕ) (units : Bool) → AreFiles content heads n.durable.directory → IsNamed heads f h name →
    AreFiles content (slice_set heads f (Some (marked units h))) (acted (Marks name (ForUnits units)) n).durable.directory
marks content heads n f h name units are named =
    let found = finds_files.found content heads n.durable.directory f h name are named in
    let below = within_list heads f h named.there in
    let long = are.heads_long in
    let change = marked_file (ForUnits units) n.durable.greatest in
    subst (AreFiles content (slice_set heads f (Some (marked units h)))) (sym (found.2.changed change))
    (places_set content heads n.durable.directory f (marked units h) (change found.0) are (omega arith)
    (file_marked (record h.marks { ru = units }) h.ai h.bi h.bi_since h.save h content found.0 units found.0.carried refl found.1) (record {
      after = found.3.after;
      before = found.3.before;
      since = found.3.since;
      save = save_dressed content h.marks.save h (marked units h) found.0.carried.save (record { organization = refl; bucket = refl; mrs = refl; mrn = refl; key_pos = refl; key_size = refl; save = refl }) found.3.save;
    }))

-- SET_FILE AI, BI

file_begun : (content : List (List ℕ)) (h : FileHead) (file : File) (side : Side) (s : Span) (g : Moment) (greatest : ℕ) → IsFile content h file → IsFile content (begun_head side s g h) (marked_file (BeginsImages side s.start s.blocks) greatest file)
file_begun content h file AfterImages s g greatest is =
    file_marked (record h.marks { ai = true }) s h.bi h.bi_since h.save h content file file.recovery_units (begun_images AfterImages s.start s.blocks greatest file.carried) is.head.units is
file_begun content h file BeforeImages s g greatest is =
    file_marked (record h.marks { bi = true }) h.ai s g h.save h content file file.recovery_units (begun_images BeforeImages s.start s.blocks greatest file.carried) is.head.units is

carried_begun : (content : List (List ℕ)) (f : ℕ) (h : FileHead) (r : Carried) (side : Side) (s : Span) (g : Moment) (greatest : ℕ) → HasRing content s → s.first ≡ next_span (end_by side h) → s.end ≡ s.first → g.0 ≡ greatest → IsCarried content f h r →
    IsCarried content f (begun_head side s g h) (begun_images side s.start s.blocks greatest r)
carried_begun content f h r AfterImages s g greatest ring first end moment is = record {
  after = sides_follow.begins content s f (form_of h) r.after ring (first ∙ ap next_span is.after.end) end;
  before = is.before;
  since = is.since;
  save = save_dressed content h.marks.save h (begun_head AfterImages s g h) r.save (record { organization = refl; bucket = refl; mrs = refl; mrn = refl; key_pos = refl; key_size = refl; save = refl }) is.save;
}
carried_begun content f h r BeforeImages s g greatest ring first end moment is = record {
  after = is.after;
  before = sides_follow.begins content s f (form_of h) r.before ring (first ∙ ap next_span is.before.end) end;
  since = sym moment;
  save = save_dressed content h.marks.save h (begun_head BeforeImages s g h) r.save (record { organization = refl; bucket = refl; mrs = refl; mrn = refl; key_pos = refl; key_size = refl; save = refl }) is.save;
}

pub begins : (content : List (List ℕ)) (heads : List (Option FileHead)) (n : Node) (f : ℕ) (h : FileHead) (name : List ℕ) (side : Side) (s : Span) (g : Moment) → AreFiles content heads n.durable.directory → IsNamed heads f h name → HasRing content s →
    s.first ≡ next_span (end_by side h) → s.end ≡ s.first → g.0 ≡ n.durable.greatest → AreFiles content (slice_set heads f (Some (begun_head side s g h))) (acted (Marks name (BeginsImages side s.start s.blocks)) n).durable.directory
begins content heads n f h name side s g are named ring first end moment =
    let found = finds_files.found content heads n.durable.directory f h name are named in
    let below = within_list heads f h named.there in
    let long = are.heads_long in
    let change = marked_file (BeginsImages side s.start s.blocks) n.durable.greatest in
    subst (AreFiles content (slice_set heads f (Some (begun_head side s g h)))) (sym (found.2.changed change))
    (places_set content heads n.durable.directory f (begun_head side s g h) (change found.0) are (omega arith) (file_begun content h found.0 side s g n.durable.greatest found.1)
    (carried_begun content f h found.0.carried side s g n.durable.greatest ring first end moment found.3))

-- SET_FILE NOAI, NOBI

file_ended : (content : List (List ℕ)) (h : FileHead) (file : File) (side : Side) (greatest : ℕ) → IsFile content h file → IsFile content (ended_head side h) (marked_file (EndsImages side) greatest file)
file_ended content h file AfterImages greatest is =
    file_marked (record h.marks { ai = false }) (record h.ai { start = 0; blocks = 0 }) h.bi h.bi_since h.save h content file file.recovery_units (ended_images AfterImages file.carried) is.head.units is
file_ended content h file BeforeImages greatest is =
    file_marked (record h.marks { bi = false }) h.ai (record h.bi { start = 0; blocks = 0 }) h.bi_since h.save h content file file.recovery_units (ended_images BeforeImages file.carried) is.head.units is

carried_ended : (content : List (List ℕ)) (f : ℕ) (h : FileHead) (r : Carried) (side : Side) → IsCarried content f h r → IsCarried content f (ended_head side h) (ended_images side r)
carried_ended content f h r AfterImages is = record {
  after = sides_follow.ends content h.marks.ai h.ai f (form_of h) r.after is.after;
  before = is.before;
  since = is.since;
  save = save_dressed content h.marks.save h (ended_head AfterImages h) r.save (record { organization = refl; bucket = refl; mrs = refl; mrn = refl; key_pos = refl; key_size = refl; save = refl }) is.save;
}
carried_ended content f h r BeforeImages is = record {
  after = is.after;
  before = sides_follow.ends content h.marks.bi h.bi f (form_of h) r.before is.before;
  since = is.since;
  save = save_dressed content h.marks.save h (ended_head BeforeImages h) r.save (record { organization = refl; bucket = refl; mrs = refl; mrn = refl; key_pos = refl; key_size = refl; save = refl }) is.save;
}

pub ends : (content : List (List ℕ)) (heads : List (Option FileHead)) (n : Node) (f : ℕ) (h : FileHead) (name : List ℕ) (side : Side) → AreFiles content heads n.durable.directory → IsNamed heads f h name →
    AreFiles content (slice_set heads f (Some (ended_head side h))) (acted (Marks name (EndsImages side)) n).durable.directory
ends content heads n f h name side are named =
    let found = finds_files.found content heads n.durable.directory f h name are named in
    let below = within_list heads f h named.there in
    let long = are.heads_long in
    let change = marked_file (EndsImages side) n.durable.greatest in
    subst (AreFiles content (slice_set heads f (Some (ended_head side h)))) (sym (found.2.changed change))
    (places_set content heads n.durable.directory f (ended_head side h) (change found.0) are (omega arith) (file_ended content h found.0 side n.durable.greatest found.1) (carried_ended content f h found.0.carried side found.3))

-- BACKUP

carried_saved : (a b : List (List ℕ)) (f : ℕ) (h : FileHead) (file : File) (v : Save) (greatest : ℕ) → AgreesOnFile h a b → IsOfNow h v → v.position ≡ h.ai.end → v.moment.0 ≡ greatest → StandAt h v.start a b → IsFile a h file → IsCarried a f h file.carried →
    IsCarried b f (saved_head v h) (saved_file v.start greatest file).carried
carried_saved a b f h file v greatest stands now position moment copied is has =
    let saved = saves_follow.made a b h (record h.marks { save = true }) v (current file.history) is.head.form is.laid is.records now copied in
    let buckets : v.alloc ≡ file.buckets = now.alloc ∙ sym is.head.buckets in
    let at : v.position ≡ file.carried.after.end = position ∙ has.after.end in
    record {
      after = sides_follow.stays a b h.marks.ai h.ai f (form_of h) file.carried.after has.after stands.carried.after;
      before = sides_follow.stays a b h.marks.bi h.bi f (form_of h) file.carried.before has.before stands.carried.before;
      since = has.since;
      save = subst (λ (x : Option SaveOfFile). HasSave b true (saved_head v h) x) (λ i. Some (record { start = v.start; buckets = buckets i; position = at i; moment = moment i; records = current file.history })) saved;
    }

pub saves : (a b : List (List ℕ)) (heads : List (Option FileHead)) (n : Node) (f : ℕ) (h : FileHead) (name : List ℕ) (v : Save) → AreFiles a heads n.durable.directory → IsNamed heads f h name →
    ((g : ℕ) (k : FileHead) → head_at heads g ≡ Some k → AgreesOnFile k a b) → IsOfNow h v → v.position ≡ h.ai.end → v.moment.0 ≡ n.durable.greatest → StandAt h v.start a b →
    AreFiles b (slice_set heads f (Some (saved_head v h))) (acted (Saves name v.start) n).durable.directory
saves a b heads n f h name v are named stand now position moment copied =
    let found = finds_files.found a heads n.durable.directory f h name are named in
    let change = saved_file v.start n.durable.greatest in
    let mine = stand f h named.there in
    subst (AreFiles b (slice_set heads f (Some (saved_head v h)))) (sym (found.2.changed change))
    (places_moved a b heads n.durable.directory f h (saved_head v h) (change found.0) are named.there
    (file_marked (record h.marks { save = true }) h.ai h.bi h.bi_since v h b found.0 found.0.recovery_units (change found.0).carried found.1.head.units (file_stands a b h found.0 mine.own found.1))
    (carried_saved a b f h found.0 v n.durable.greatest mine now position moment copied found.1 found.3) (λ g k differs. stand g k))
