-- What holds of units and a volume on any disk, where a key was changed.
use Rattle.std.proofs.Common.{◌≡◌, ℕ, zero, suc, ◌+◌, ◌-◌, ◌*◌, ◌<◌, ◌≤◌, ◌^◌, Bool, true, false, List, [], ◌∷◌, ◌++◌, Option, Some, None, length, slice_set, refl, sym, ap, subst, ◌∙◌, arith, length-set, get_or-set_other}
use Rattle.block_disk.specs.Disk.{DiskState}
use Rattle.careful_write.specs.State.{IsIdle}
use Rattle.change_set.specs.Files.{IsPlaced, free_frames}
use Rattle.file_base.specs.declared.head.FileHead.{FileHead}
use Rattle.file_base.specs.declared.head.Span.{Span}
use Rattle.journal_format.proofs.Decoding.{entry_size}
use Rattle.journal_model.specs.Entries.{Entry, IsEntry, spelling}
use Rattle.journal_model.specs.Ring.{ring_size}
use Rattle.unit_journal.specs.journal_store.Rings.{IsRing}
use Rattle.unit_table.specs.Units.{OpenUnit, has_changed, owed, owed_for, unit_at, with_position}
use Rattle.volume_files.specs.Staging.{StagesFile}
use Rattle.image_appends.specs.Images.{heads_with_both}
use Rattle.image_room.specs.Room.{AllSettlementsFit, images_refused}
use Rattle.rms_units.proofs.ImageLemmas.{staged_low}
use Rattle.rms_units.proofs.ImageOrder.{FileGrows, all_noted, grows_both, grows_on, grows_same}
use Rattle.rms_units.proofs.ImageSound.{length_both, sound_both}
use Rattle.vms_model.specs.Keys.{Key}
use Rattle.volume.specs.declared.catalog.Catalog.{Catalog}
use Rattle.volume.specs.Catalogs.{IsSound, head_at}
use Rattle.volume.specs.State.{VolumeState, Holds}
use Rattle.volume_files.proofs.Places.{placed}
use Rattle.unit_journal.specs.Room.{owed_first}
use Rattle.rms_units.specs.Making.{AreLow, EntersImages, EntersKey}
use Rattle.unit_journal.specs.Spans.{longer}
use Rattle.rms_units.specs.State.{AreAscending, IsEarly, IsInOrder, UnitsState}
use Rattle.rms_units.proofs.PositionLemmas.{ascending_noted, ascending_within}

-- Where files lie.

pub placed_in : (s : UnitsState) (v : VolumeState) (f : ℕ) (h : FileHead) → IsInOrder s v → head_at v.catalog.heads f ≡ Some h → IsPlaced h v.store.disk
placed_in s v f h o there = placed v.catalog.home.node v.catalog f h v.store.disk o.heads o.sound o.most there

-- The journal's ring.

pub ring_of : (s : UnitsState) (v : VolumeState) → IsInOrder s v → IsEarly v → IsRing v.catalog.ru v.store.disk
ring_of s v o early = record {
  from = let a = o.sound.ru_start in omega (arith, a);
  to = let a = o.sound.ru_start in let b = o.sound.ru_blocks in let c = o.sound.sizes.room in omega (arith, a, b, c);
  fits = o.most;
  some = let b = o.sound.ru_blocks in let c = o.sound.sizes.least_journal in omega (arith, b, c);
  order = o.ascends;
  low = let a = early.low in omega (arith, a);
  room = let a = o.room in omega (arith, a);
}

pub ring_behind : (s : UnitsState) (v : VolumeState) → IsInOrder s v → 584 ≤ v.catalog.ru.start
ring_behind s v o = let a = o.sound.ru_start in omega (arith, a)

-- What units are owed.

owed_more : (prepared : Bool) (ps : List ℕ) (p : ℕ) → owed_for prepared (ps ++ p ∷ []) ≤ owed_for prepared ps + owed_first ps
owed_more true [] p = omega arith
owed_more false [] p = omega arith
owed_more prepared (q ∷ ps) p = omega arith

pub owed_set : (us : List (Option OpenUnit)) (i : ℕ) (u v : OpenUnit) → unit_at us i ≡ Some u → owed (slice_set us i (Some v)) + owed_for u.prepared u.positions ≡ owed us + owed_for v.prepared v.positions
owed_set [] i u v is = let no : ⊥ = cc in absurd no
owed_set (None ∷ us) zero u v is = let no : ⊥ = cc in absurd no
owed_set (Some x ∷ us) zero u v is = let same : x ≡ u = cc in let e = ap (λ (y : OpenUnit). owed_for y.prepared y.positions) same in omega (arith, e)
owed_set (None ∷ us) (suc i) u v is = owed_set us i u v is
owed_set (Some x ∷ us) (suc i) u v is = let more = owed_set us i u v is in omega (arith, more)

pub owed_noted : (us : List (Option OpenUnit)) (i position file : ℕ) (u : OpenUnit) → unit_at us i ≡ Some u → owed (slice_set us i (Some (with_position position file u))) ≤ owed us + owed_first u.positions
owed_noted us i position file u is = let set = owed_set us i u (with_position position file u) is in let more = owed_more u.prepared u.positions position in omega (arith, set, more)

-- All of it.

pub sound_longer : (node : List ℕ) (size more : ℕ) (c : Catalog) (ru : Span) → IsSound node size c → c.ru ≡ ru → IsSound node size (record c { ru = longer more ru })
sound_longer node size more c ru s is = record {
  version = s.version;
  sizes = s.sizes;
  home = s.home;
  files = s.files;
  names = s.names;
  extents = s.extents;
  ru_start = ap (λ (x : Span). x.start) (sym is) ∙ s.ru_start;
  ru_blocks = ap (λ (x : Span). x.blocks) (sym is) ∙ s.ru_blocks;
}

-- the heads of a volume of which the images of a staged change are entered
pub changed_grows : (file limit : ℕ) (h head : FileHead) (a e : Entry) (v set imaged : VolumeState) → head_at v.catalog.heads file ≡ Some h → StagesFile file h limit v set head → EntersImages file a e set imaged →
    FileGrows file (length (spelling a)) (length (spelling e)) v.catalog.heads imaged.catalog.heads
changed_grows file limit h head a e v set imaged there stages images =
    subst (λ (c : Catalog). FileGrows file (length (spelling a)) (length (spelling e)) v.catalog.heads c.heads) (sym images.catalog)
    (grows_on file 0 0 (length (spelling a)) (length (spelling e)) (length (spelling a)) (length (spelling e)) v.catalog.heads set.catalog.heads (heads_with_both file (length (spelling a)) (length (spelling e)) set.catalog.heads) (omega arith) (omega arith)
    (subst (λ (c : Catalog). FileGrows file 0 0 v.catalog.heads c.heads) (sym stages.catalog) (grows_same file h head v.catalog.heads there stages.same)) (grows_both file (length (spelling a)) (length (spelling e)) set.catalog.heads))

-- and all is sound
pub sound_imaged : (file limit : ℕ) (h head : FileHead) (a e : Entry) (v set imaged : VolumeState) → length v.catalog.heads ≡ 64 → IsSound v.catalog.home.node v.store.disk.size v.catalog → head_at v.catalog.heads file ≡ Some h → StagesFile file h limit v set head → EntersImages file a e set imaged →
    AreLow (length (spelling a)) (length (spelling e)) file v.catalog.heads → IsSound v.catalog.home.node v.store.disk.size imaged.catalog
sound_imaged file limit h head a e v set imaged long sound there stages images low =
    let whole = ap (λ (c : Catalog). length c.heads) stages.catalog ∙ length-set v.catalog.heads file (Some head) ∙ long in
    subst (IsSound v.catalog.home.node v.store.disk.size) (sym images.catalog)
    (sound_both v.catalog.home.node v.store.disk.size set.catalog file (length (spelling a)) (length (spelling e)) whole
    (staged_low (length (spelling a)) (length (spelling e)) file limit h head v set there long stages low) (stages.sound v.catalog.home.node sound))

pub imaged_long : (file limit : ℕ) (h head : FileHead) (a e : Entry) (v set imaged : VolumeState) → StagesFile file h limit v set head → EntersImages file a e set imaged → length imaged.catalog.heads ≡ length v.catalog.heads
imaged_long file limit h head a e v set imaged stages images =
    ap (λ (c : Catalog). length c.heads) images.catalog ∙ length_both file (length (spelling a)) (length (spelling e)) set.catalog.heads ∙ ap (λ (c : Catalog). length c.heads) stages.catalog ∙ length-set v.catalog.heads file (Some head)

pub order_changed : (place file : ℕ) (h : FileHead) (held : Key → Bool) (key : Key) (after : Option (List ℕ)) (ai e : Entry) (u : OpenUnit) (s t : UnitsState) (v w : VolumeState) →
    IsInOrder s v → place < length s.units.places → unit_at s.units.places place ≡ Some u → IsEntry e → v.catalog.ru.end - v.catalog.ru.first + length (spelling e) + owed_first u.positions + owed s.units.places ≤ ring_size v.catalog.ru →
    head_at v.catalog.heads file ≡ Some h → AreLow (length (spelling ai)) (length (spelling e)) file v.catalog.heads → images_refused h file s.units.places (has_changed u file) (length (spelling ai)) (length (spelling e)) ≡ None →
    EntersKey file h held key after ai e v w → IsIdle w.store → Holds w → w.store.disk.size ≡ v.store.disk.size → w.store.pool ≡ v.store.pool → t.units.places ≡ slice_set s.units.places place (Some (with_position v.catalog.ru.end file u)) → IsInOrder t w
order_changed place file h held key after ai e u s t v w o below at entry room there low free enters idle holds size pool places = record {
  idle = idle;
  frames = subst (λ ps. 32 ≤ free_frames ps) (sym pool) o.frames;
  heads = ap (λ (c : Catalog). length c.heads) enters.catalog ∙ imaged_long file 417 h enters.head ai e v enters.set enters.imaged enters.stages enters.images ∙ o.heads;
  sound = subst (λ (c : Catalog). IsSound c.home.node w.store.disk.size c) (sym enters.catalog)
      (subst (λ n. IsSound enters.imaged.catalog.home.node n (record enters.imaged.catalog { ru = longer (length (spelling e)) v.catalog.ru })) (sym size)
      (sound_longer enters.imaged.catalog.home.node v.store.disk.size (length (spelling e)) enters.imaged.catalog v.catalog.ru
      (subst (λ (node : List ℕ). IsSound node v.store.disk.size enters.imaged.catalog) (sym (ap (λ (c : Catalog). c.home.node) enters.images.catalog ∙ ap (λ (c : Catalog). c.home.node) enters.stages.catalog))
      (sound_imaged file 417 h enters.head ai e v enters.set enters.imaged o.heads o.sound there enters.stages enters.images low))
      (ap (λ (c : Catalog). c.ru) enters.images.catalog ∙ ap (λ (c : Catalog). c.ru) enters.stages.catalog)));
  holds = holds;
  least = let a = o.least in omega (arith, a, size);
  most = let a = o.most in omega (arith, a, size);
  ascends = subst (λ (r : Span). r.first ≤ r.end) (sym ru) (let a = o.ascends in omega (arith, a));
  room = subst (λ (us : List (Option OpenUnit)). w.catalog.ru.end - w.catalog.ru.first + owed us ≤ ring_size w.catalog.ru) (sym places)
      (subst (λ (r : Span). r.end - r.first + owed (slice_set s.units.places place (Some (with_position v.catalog.ru.end file u))) ≤ ring_size r) (sym ru)
      (let a = o.ascends in let more = owed_noted s.units.places place v.catalog.ru.end file u at in omega (arith, a, more, room)));
  within = ascending_within w.catalog.ru.first w.catalog.ru.end t.units.places ascends;
  ascending = ascends;
  images = subst (λ (us : List (Option OpenUnit)). AllSettlementsFit us w.catalog.heads) (sym places)
      (subst (λ (c : Catalog). AllSettlementsFit (slice_set s.units.places place (Some (with_position v.catalog.ru.end file u))) c.heads) (sym enters.catalog)
      (all_noted v.catalog.heads enters.imaged.catalog.heads file (length (spelling ai)) (length (spelling e)) s.units.places (changed_grows file 417 h enters.head ai e v enters.set enters.imaged there enters.stages enters.images) o.images
      (length (spelling ai)) (length (spelling e)) place u (with_position v.catalog.ru.end file u) at below (λ g apart. get_or-set_other u.files file g true false apart) (omega arith) (omega arith)
      (λ k now. let is : h ≡ k = one_head h k (sym there ∙ now) in subst (λ (x : FileHead). images_refused x file s.units.places (has_changed u file) (length (spelling ai)) (length (spelling e)) ≡ None) is free)));
}
  where
    one_head : (x y : FileHead) → ◌≡◌ {A = Option FileHead} (Some x) (Some y) → x ≡ y
    one_head x y e = cc

    ru : w.catalog.ru ≡ longer (length (spelling e)) v.catalog.ru
    ru = ap (λ (c : Catalog). c.ru) enters.catalog

    ascends : AreAscending w.catalog.ru.first w.catalog.ru.end t.units.places
    ascends = subst (AreAscending w.catalog.ru.first w.catalog.ru.end) (sym places)
        (subst (λ (r : Span). AreAscending r.first r.end (slice_set s.units.places place (Some (with_position v.catalog.ru.end file u)))) (sym ru)
        (ascending_noted v.catalog.ru.first v.catalog.ru.end (length (spelling e)) s.units.places place file u (let sizes = entry_size e entry in omega (arith, sizes.0)) below at o.ascending))
