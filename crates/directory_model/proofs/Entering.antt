-- Entries of images at the ends of a file's journals.
use Rattle.std.proofs.Common.{◌≡◌, ℕ, ◌+◌, ◌-◌, ◌≤◌, List, Bool, true, false, Option, Some, None, length, map, slice_set, refl, sym, ap, subst, ◌∙◌, arith}
use Rattle.std.specs.Option.{option_map}
use Rattle.file_images.specs.careful_write.State.{EachWhole}
use Rattle.extents.specs.file_base.declared.head.FileHead.{FileHead}
use Rattle.extents.specs.file_base.declared.head.Span.{Span}
use Rattle.file_images.specs.change_set.Files.{AgreesOn}
use Rattle.records_model.specs.vms_model.Ids.{Id}
use Rattle.records_model.specs.vms_model.Keys.{Key}
use Rattle.records_model.specs.Records.{Change}
use Rattle.file_images.specs.journal_model.Ring.{HasRing, put_stream}
use Rattle.file_images.proofs.journal_store.Journals.{keeps_others, ring_stream}
use Rattle.file_images.specs.recovery_model.Journal.{Entry}
use Rattle.file_images.specs.recovery_model.File.{ImageJournal, append}
use Rattle.file_images.specs.Files.{HasSide, form_of}
use Rattle.file_images.proofs.Sides.{saves_follow, sides_follow}
use Rattle.file_images.specs.commit_protocol.Table as table
use Rattle.file_images.specs.run_model.Locks.{is_locked}
use Rattle.file_images.specs.run_model.World.{Node, Carried, File, Settlement, Tables, Changes, Directs, acted, changed_file, directly_changed, settled_file, settlement_of}
use Rattle.extents.specs.declared.extent.Extent.{Extent as Area}
use Rattle.directory_model.specs.Files.{AreFiles, Fit, IsCarried, IsFile, IsFoundAt, head_at, file_at}
use Rattle.directory_model.specs.Laws.{CanEnter, EntersImages, carrying, changed_buckets, directly_buckets, longer_after, longer_before, spelled_entry}
use Rattle.directory_model.proofs.Acts.{same_there, settled_directory}
use Rattle.directory_model.proofs.Apart.{off_ring, writes_apart}
use Rattle.directory_model.proofs.Marking.{file_marked}
use Rattle.directory_model.proofs.Moving.{places_moved}
use Rattle.directory_model.proofs.Places.{file_there, set_twice}
use Rattle.directory_model.proofs.Standing.{file_stands}

-- the file of a head, and what it carries
pub is_there : (c : List (List ℕ)) (heads : List (Option FileHead)) (directory : List (Option File)) (f : ℕ) (h : FileHead) (file : File) → AreFiles c heads directory → head_at heads f ≡ Some h → file_at directory f ≡ Some file →
    IsFile c h file × IsCarried c f h file.carried
is_there c heads directory f h file are there at =
    let found = file_there c heads directory f h are there in
    let one : found.0 ≡ file = same_there directory f found.0 file found.1 at in
    (subst (IsFile c h) one found.2, subst (λ (x : File). IsCarried c f h x.carried) one found.3)

-- the ring of a journal that the file has
ring_of : (c : List (List ℕ)) (marked : Bool) (s : Span) (f : ℕ) (h : FileHead) (j : ImageJournal) → HasSide c marked s f (form_of h) j → marked ≡ true → HasRing c s
ring_of c marked s f h j has on = (has.images on).spelled.ring

after : (c : List (List ℕ)) (area : Area) (heads : List (Option FileHead)) (directory : List (Option File)) (f : ℕ) (h : FileHead) (file : File) (tid : Id) (e : Entry) → AreFiles c heads directory → Fit area heads → head_at heads f ≡ Some h →
    file_at directory f ≡ Some file → h.marks.ai ≡ true → CanEnter h.ai f h tid e →
    AreFiles (put_stream c h.ai h.ai.end (spelled_entry f tid e)) (slice_set heads f (Some (longer_after (length (spelled_entry f tid e)) h))) (slice_set directory f (Some (carrying (record file.carried { after = append tid e file.carried.after }) file)))
after c area heads directory f h file tid e are fit there at on can =
    let bytes = spelled_entry f tid e in
    let b = put_stream c h.ai h.ai.end bytes in
    let new = longer_after (length bytes) h in
    let it = is_there c heads directory f h file are there at in
    let r = file.carried in
    let ring = ring_of c h.marks.ai h.ai f h r.after it.1.after on in
    let whole : EachWhole b = (ring_stream bytes c h.ai h.ai.end ring).whole in
    let rest = writes_apart.in_after area heads f h c b fit there (off_ring h.ai c b (keeps_others bytes c h.ai h.ai.end ring.some)) whole in
    let grown = sides_follow.grows c h.ai f (form_of h) r.after tid e (subst (λ (m : Bool). HasSide c m h.ai f (form_of h) r.after) on it.1.after) can.is can.of can.suited can.room in
    places_moved c b heads directory f h new (carrying (record r { after = append tid e r.after }) file) are there
    (file_marked h.marks (record h.ai { end = h.ai.end + length bytes }) h.bi h.bi_since h.save h b file file.recovery_units (record r { after = append tid e r.after }) it.0.head.units (file_stands c b h file rest.1 it.0))
    (record {
      after = subst (λ (m : Bool). HasSide b m (record h.ai { end = h.ai.end + length bytes }) f (form_of h) (append tid e r.after)) (sym on) grown;
      before = sides_follow.stays c b h.marks.bi h.bi f (form_of h) r.before it.1.before (λ m. rest.2);
      since = it.1.since;
      save = saves_follow.stays c b h.marks.save h new r.save it.1.save (record { organization = refl; bucket = refl; mrs = refl; mrn = refl; key_pos = refl; key_size = refl; save = refl }) (λ m. rest.3);
    }) rest.0

before : (c : List (List ℕ)) (area : Area) (heads : List (Option FileHead)) (directory : List (Option File)) (f : ℕ) (h : FileHead) (file : File) (tid : Id) (e : Entry) → AreFiles c heads directory → Fit area heads → head_at heads f ≡ Some h →
    file_at directory f ≡ Some file → h.marks.bi ≡ true → CanEnter h.bi f h tid e →
    AreFiles (put_stream c h.bi h.bi.end (spelled_entry f tid e)) (slice_set heads f (Some (longer_before (length (spelled_entry f tid e)) h))) (slice_set directory f (Some (carrying (record file.carried { before = append tid e file.carried.before }) file)))
before c area heads directory f h file tid e are fit there at on can =
    let bytes = spelled_entry f tid e in
    let b = put_stream c h.bi h.bi.end bytes in
    let new = longer_before (length bytes) h in
    let it = is_there c heads directory f h file are there at in
    let r = file.carried in
    let ring = ring_of c h.marks.bi h.bi f h r.before it.1.before on in
    let whole : EachWhole b = (ring_stream bytes c h.bi h.bi.end ring).whole in
    let rest = writes_apart.in_before area heads f h c b fit there (off_ring h.bi c b (keeps_others bytes c h.bi h.bi.end ring.some)) whole in
    let grown = sides_follow.grows c h.bi f (form_of h) r.before tid e (subst (λ (m : Bool). HasSide c m h.bi f (form_of h) r.before) on it.1.before) can.is can.of can.suited can.room in
    places_moved c b heads directory f h new (carrying (record r { before = append tid e r.before }) file) are there
    (file_marked h.marks h.ai (record h.bi { end = h.bi.end + length bytes }) h.bi_since h.save h b file file.recovery_units (record r { before = append tid e r.before }) it.0.head.units (file_stands c b h file rest.1 it.0))
    (record {
      after = sides_follow.stays c b h.marks.ai h.ai f (form_of h) r.after it.1.after (λ m. rest.2);
      before = subst (λ (m : Bool). HasSide b m (record h.bi { end = h.bi.end + length bytes }) f (form_of h) (append tid e r.before)) (sym on) grown;
      since = it.1.since;
      save = saves_follow.stays c b h.marks.save h new r.save it.1.save (record { organization = refl; bucket = refl; mrs = refl; mrn = refl; key_pos = refl; key_size = refl; save = refl }) (λ m. rest.3);
    }) rest.0

pub enters_images : EntersImages
enters_images = record {
  after = after;
  before = before;
  no_after = λ c heads directory f h file tid e are there at off. sides_follow.off file.carried.after tid e ((is_there c heads directory f h file are there at).1.after.on ∙ off);
  no_before = λ c heads directory f h file tid e are there at off. sides_follow.off file.carried.before tid e ((is_there c heads directory f h file are there at).1.before.on ∙ off);
  changes = λ n f name file tid serial cs keys found. set_twice n.durable.directory f (Some (carrying file.carried (changed_file (is_locked n.volatile.locks name) tid serial cs file))) (Some (changed_file (is_locked n.volatile.locks name) tid serial cs file))
      ∙ sym (found.changed (changed_file (is_locked n.volatile.locks name) tid serial cs));
  directs = λ n f name file cs s found. set_twice n.durable.directory f (Some (carrying file.carried (directly_changed (is_locked n.volatile.locks name) s cs file))) (Some (directly_changed (is_locked n.volatile.locks name) s cs file))
      ∙ sym (found.changed (directly_changed (is_locked n.volatile.locks name) s cs));
  settles = λ n a moment s is. sym (settled_directory n a moment s is);
}
