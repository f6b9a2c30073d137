-- What holds of units and a volume on any disk, where records of a file went.
use Rattle.std.proofs.Common.{◌≡◌, ◌≢◌, ℕ, ◌+◌, ◌-◌, ◌<◌, ◌≤◌, ◌^◌, Bool, true, false, List, [], ◌∷◌, ◌++◌, Option, Some, None, length, slice_set, refl, sym, ap, subst, ◌∙◌, arith, append_assoc, length-set, get_or-set_same, get_or-set_other}
use Rattle.std.specs.List.{AllByRecursion, flat_map}
use Rattle.std.proofs.lemmas.List.{append-nil}
use Rattle.careful_write.specs.State.{IsIdle}
use Rattle.change_set.specs.Files.{free_frames}
use Rattle.file_base.specs.declared.head.FileHead.{FileHead}
use Rattle.file_base.specs.declared.head.Span.{Span}
use Rattle.journal_format.proofs.Decoding.{entry_size}
use Rattle.journal_model.specs.Entries.{Entry, IsEntry, spelling}
use Rattle.journal_model.specs.Ring.{ring_size}
use Rattle.unit_journal.specs.Room.{owed_first}
use Rattle.unit_table.specs.Units.{OpenUnit, has_changed, owed, owed_for, unit_at, with_position}
use Rattle.volume.specs.declared.catalog.Catalog.{Catalog}
use Rattle.volume.specs.Catalogs.{IsSound, head_at}
use Rattle.volume.specs.State.{VolumeState, Holds}
use Rattle.rms_units.specs.State.{AreAscending, Ascend, IsInOrder, UnitsState}
use Rattle.rms_units.specs.Truncating.{with_positions}
use Rattle.image_appends.specs.declared.side.Side.TheVariants.{After, Before}
use Rattle.image_appends.specs.Images.{heads_with_both, is_kept, span_of}
use Rattle.image_appends.proofs.Growing.{below_length}
use Rattle.image_room.specs.Room.{AllSettlementsFit, images_refused}
use Rattle.vms_base.specs.declared.ids.Tid.{Tid}
use Rattle.volume_format.specs.declared.home.Home.{Home}
use Rattle.key_changes.specs.unit_cuts.Moving.{FitCut}
use Rattle.key_changes.specs.unit_cuts.Truncating.{CommitsCut, CutEntries, CutsFile, EntersCut, begins_at, span_behind}
use Rattle.key_changes.proofs.unit_cuts.CutFrames.{images_catalog, images_size}
use Rattle.rms_units.specs.Making.{AreLow}
use Rattle.rms_units.proofs.ImageLemmas.{kept_same, span_same}
use Rattle.rms_units.proofs.ImageOrder.{FileGrows, all_noted, grows_both, grows_on, grows_same, moved_is}
use Rattle.rms_units.proofs.ImageSound.{length_both, sound_both}
use Rattle.rms_units.proofs.SettledLemmas.{order_own}
use Rattle.key_changes.proofs.unit_cuts.CutEntering.{long_front}
use Rattle.rms_units.proofs.OrderLemmas.{owed_set, sound_longer}
use Rattle.rms_units.proofs.PositionLemmas.{ascend_longer, ascending_within, each_put}

pub positions_of : (ps : List ℕ) (file : ℕ) (u : OpenUnit) → (with_positions ps file u).positions ≡ u.positions ++ ps
positions_of [] file u = sym (append-nil u.positions)
positions_of (p ∷ ps) file u = positions_of ps file (with_position p file u) ∙ append_assoc u.positions (p ∷ []) ps

pub prepared_still : (ps : List ℕ) (file : ℕ) (u : OpenUnit) → (with_positions ps file u).prepared ≡ u.prepared
prepared_still [] file u = refl
prepared_still (p ∷ ps) file u = prepared_still ps file (with_position p file u)

-- What units are owed.

owed_at_most : (prepared : Bool) (qs ps : List ℕ) → owed_for prepared (qs ++ ps) ≤ owed_for prepared qs + owed_first qs
owed_at_most prepared [] [] = omega arith
owed_at_most true [] (p ∷ ps) = omega arith
owed_at_most false [] (p ∷ ps) = omega arith
owed_at_most prepared (q ∷ qs) ps = omega arith

owed_cut : (us : List (Option OpenUnit)) (i file : ℕ) (ps : List ℕ) (u : OpenUnit) → unit_at us i ≡ Some u → owed (slice_set us i (Some (with_positions ps file u))) ≤ owed us + owed_first u.positions
owed_cut us i file ps u is =
    let set = owed_set us i u (with_positions ps file u) is in
    let same : owed_for (with_positions ps file u).prepared (with_positions ps file u).positions ≡ owed_for u.prepared (u.positions ++ ps) = λ i. owed_for (prepared_still ps file u i) (positions_of ps file u i) in
    let most = owed_at_most u.prepared u.positions ps in
    omega (arith, set, same, most)

-- Where changes begin.

ascend_begins : (from end : ℕ) (es : List Entry) → from ≤ end → AllByRecursion IsEntry es → Ascend from (end + length (flat_map spelling es)) (begins_at end es)
ascend_begins from end [] below each = omega (arith, below)
ascend_begins from end (e ∷ es) below each =
    let sizes = entry_size e each.0 in
    let long = long_front e es in (
      below,
      subst (λ (to : ℕ). Ascend (end + 1) to (begins_at (end + length (spelling e)) es))
          (let same : end + length (spelling e) + length (flat_map spelling es) ≡ end + length (flat_map spelling (e ∷ es)) = omega (arith, long) in same)
          (ascend_begins (end + 1) (end + length (spelling e)) es (omega (arith, sizes.0)) each.1),
    )

ascend_behind : (from end : ℕ) (qs : List ℕ) (es : List Entry) → AllByRecursion IsEntry es → Ascend from end qs → Ascend from (end + length (flat_map spelling es)) (qs ++ begins_at end es)
ascend_behind from end [] es each a = ascend_begins from end es a each
ascend_behind from end (q ∷ qs) es each a = (a.0, ascend_behind (q + 1) end qs es each a.1)

ascending_cut : (first end : ℕ) (us : List (Option OpenUnit)) (i file : ℕ) (u : OpenUnit) (es : List Entry) → i < length us → unit_at us i ≡ Some u → AllByRecursion IsEntry es → AreAscending first end us → AreAscending first (end + length (flat_map spelling es)) (slice_set us i (Some (with_positions (begins_at end es) file u)))
ascending_cut first end us i file u es below is each ascends =
    each_put (Ascend first end) (Ascend first (end + length (flat_map spelling es))) us i (Some (with_positions (begins_at end es) file u)) below ascends (ascend_longer first end (length (flat_map spelling es)))
    (λ x same. let it : with_positions (begins_at end es) file u ≡ x = cc in
    subst (λ (y : OpenUnit). Ascend first (end + length (flat_map spelling es)) y.positions) it
    (subst (Ascend first (end + length (flat_map spelling es))) (sym (positions_of (begins_at end es) file u)) (ascend_behind first end u.positions es each (ascends i u is))))

files_beside : (ps : List ℕ) (file g : ℕ) (u : OpenUnit) → g ≢ file → has_changed (with_positions ps file u) g ≡ has_changed u g
files_beside [] file g u apart = refl
files_beside (p ∷ ps) file g u apart = files_beside ps file g (with_position p file u) apart ∙ get_or-set_other u.files file g true false apart

-- What a truncation makes of the heads.

one_head : (a b : FileHead) → ◌≡◌ {A = Option FileHead} (Some a) (Some b) → a ≡ b
one_head a b e = cc

module _ (file : ℕ) (h : FileHead) (from : ℕ) (es : CutEntries) (v written moved : VolumeState) (there : head_at v.catalog.heads file ≡ Some h) (long : length v.catalog.heads ≡ 64) (same : written.catalog ≡ v.catalog) (is : CutsFile file h from es v written moved) where
  abbrev gone : ℕ
  gone = length (flat_map spelling es.gone)

  abbrev images : ℕ
  images = length (flat_map spelling es.images)

  cut_heads : is.cut.catalog.heads ≡ slice_set v.catalog.heads file (Some is.head)
  cut_heads = ap (λ (c : Catalog). c.heads) is.stages.catalog ∙ ap (λ (c : Catalog). slice_set c.heads file (Some is.head)) same

  cut_there : head_at is.cut.catalog.heads file ≡ Some is.head
  cut_there = ap (λ (hs : List (Option FileHead)). head_at hs file) cut_heads ∙ get_or-set_same v.catalog.heads file (Some is.head) None (below_length v.catalog.heads file h there)

  moved_heads : moved.catalog.heads ≡ heads_with_both file gone images is.cut.catalog.heads
  moved_heads = ap (λ (c : Catalog). c.heads) is.catalog ∙ moved_is is.cut.catalog.heads file h es is.head is.stages.same cut_there

  pub cut_grows : FileGrows file gone images v.catalog.heads moved.catalog.heads
  cut_grows = subst (FileGrows file gone images v.catalog.heads) (sym moved_heads)
      (grows_on file 0 0 gone images gone images v.catalog.heads is.cut.catalog.heads (heads_with_both file gone images is.cut.catalog.heads) (omega arith) (omega arith)
      (subst (FileGrows file 0 0 v.catalog.heads) (sym cut_heads) (grows_same file h is.head v.catalog.heads there is.stages.same)) (grows_both file gone images is.cut.catalog.heads))

  pub cut_long : length moved.catalog.heads ≡ 64
  cut_long = ap length moved_heads ∙ length_both file gone images is.cut.catalog.heads ∙ ap length cut_heads ∙ length-set v.catalog.heads file (Some is.head) ∙ long

  pub cut_home : moved.catalog.home ≡ v.catalog.home
  cut_home = ap (λ (c : Catalog). c.home) is.catalog ∙ ap (λ (c : Catalog). c.home) is.stages.catalog ∙ ap (λ (c : Catalog). c.home) same

  pub cut_ru : moved.catalog.ru ≡ v.catalog.ru
  cut_ru = ap (λ (c : Catalog). c.ru) is.catalog ∙ ap (λ (c : Catalog). c.ru) is.stages.catalog ∙ ap (λ (c : Catalog). c.ru) same

  pub cut_sound : (node : List ℕ) (size : ℕ) → written.store.disk.size ≡ size → AreLow gone images file v.catalog.heads → IsSound node size v.catalog → IsSound node size moved.catalog
  cut_sound node size sized low sound =
      subst (IsSound node size) (sym (is.catalog ∙ (λ i. record is.cut.catalog { heads = moved_is is.cut.catalog.heads file h es is.head is.stages.same cut_there i })))
      (sound_both node size is.cut.catalog file gone images (ap length cut_heads ∙ length-set v.catalog.heads file (Some is.head) ∙ long)
      (λ k now.
      let e : is.head ≡ k = one_head is.head k (sym cut_there ∙ now) in
      let was = low h there in (
        (λ kept. subst (λ (s : Span). s.end + gone ≤ 2 ^ 62) (sym (span_same After h is.head is.stages.same) ∙ ap (span_of After) e) (was.0 (sym (kept_same After h is.head is.stages.same) ∙ ap (is_kept After) e ∙ kept))),
        (λ kept. subst (λ (s : Span). s.end + images ≤ 2 ^ 62) (sym (span_same Before h is.head is.stages.same) ∙ ap (span_of Before) e) (was.1 (sym (kept_same Before h is.head is.stages.same) ∙ ap (is_kept Before) e ∙ kept))),
      ))
      (subst (λ (n : ℕ). IsSound node n is.cut.catalog) sized (is.stages.sound node (subst (IsSound node written.store.disk.size) (sym same) (subst (λ (n : ℕ). IsSound node n v.catalog) (sym sized) sound)))))

-- All of it.

pub order_cut : (place file : ℕ) (h : FileHead) (from : ℕ) (es : CutEntries) (gone size : ℕ) (u : OpenUnit) (s t : UnitsState) (v w : VolumeState) → IsInOrder s v → place < length s.units.places → unit_at s.units.places place ≡ Some u →
    v.catalog.ru.end - v.catalog.ru.first + length (flat_map spelling es.had) + owed_first u.positions + owed s.units.places ≤ ring_size v.catalog.ru → head_at v.catalog.heads file ≡ Some h → FitCut es gone size → AreLow gone size file v.catalog.heads →
    images_refused h file s.units.places (has_changed u file) gone size ≡ None → EntersCut file h from es v w → IsIdle w.store → Holds w → w.store.disk.size ≡ v.store.disk.size → w.store.pool ≡ v.store.pool →
    t.units.places ≡ slice_set s.units.places place (Some (with_positions (begins_at v.catalog.ru.end es.had) file u)) → IsInOrder t w
order_cut place file h from es gone size u s t v w o below at room there few low free enters idle holds sized pool places = record {
  idle = idle;
  frames = subst (λ ps. 32 ≤ free_frames ps) (sym pool) o.frames;
  heads = ap (λ (c : Catalog). length c.heads) enters.catalog ∙ cut_long file h from es v enters.written enters.moved there o.heads same enters.cuts;
  sound = subst (λ (c : Catalog). IsSound c.home.node w.store.disk.size c) (sym enters.catalog)
      (subst (λ n. IsSound enters.moved.catalog.home.node n (record enters.moved.catalog { ru = span_behind es.had v.catalog.ru })) (sym sized)
      (sound_longer enters.moved.catalog.home.node v.store.disk.size (length (flat_map spelling es.had)) enters.moved.catalog v.catalog.ru
      (subst (λ (node : List ℕ). IsSound node v.store.disk.size enters.moved.catalog) (sym (ap (λ (x : Home). x.node) (cut_home file h from es v enters.written enters.moved there o.heads same enters.cuts)))
      (cut_sound file h from es v enters.written enters.moved there o.heads same enters.cuts v.catalog.home.node v.store.disk.size (enters.entered.size ∙ images_size h es v enters.imaged enters.images) less o.sound))
      (cut_ru file h from es v enters.written enters.moved there o.heads same enters.cuts)));
  holds = holds;
  least = let a = o.least in omega (arith, a, sized);
  most = let a = o.most in omega (arith, a, sized);
  ascends = subst (λ (r : Span). r.first ≤ r.end) (sym ru) (let a = o.ascends in omega (arith, a));
  room = subst (λ (us : List (Option OpenUnit)). w.catalog.ru.end - w.catalog.ru.first + owed us ≤ ring_size w.catalog.ru) (sym places)
      (subst (λ (r : Span). r.end - r.first + owed (slice_set s.units.places place (Some (with_positions (begins_at v.catalog.ru.end es.had) file u))) ≤ ring_size r) (sym ru)
      (let a = o.ascends in let more = owed_cut s.units.places place file (begins_at v.catalog.ru.end es.had) u at in omega (arith, a, more, room)));
  within = ascending_within w.catalog.ru.first w.catalog.ru.end t.units.places ascends;
  ascending = ascends;
  images = subst (λ (us : List (Option OpenUnit)). AllSettlementsFit us w.catalog.heads) (sym places)
      (subst (λ (c : Catalog). AllSettlementsFit (slice_set s.units.places place (Some (with_positions (begins_at v.catalog.ru.end es.had) file u))) c.heads) (sym enters.catalog)
      (all_noted v.catalog.heads enters.moved.catalog.heads file (length (flat_map spelling es.gone)) (length (flat_map spelling es.images)) s.units.places (cut_grows file h from es v enters.written enters.moved there o.heads same enters.cuts) o.images
      gone size place u (with_positions (begins_at v.catalog.ru.end es.had) file u) at below (λ g apart. files_beside (begins_at v.catalog.ru.end es.had) file g u apart) few.gone few.images
      (λ k now. subst (λ (x : FileHead). images_refused x file s.units.places (has_changed u file) gone size ≡ None) (one_head h k (sym there ∙ now)) free)));
}
  where
    same : enters.written.catalog ≡ v.catalog
    same = enters.entered.catalog ∙ images_catalog h es v enters.imaged enters.images

    less : AreLow (length (flat_map spelling es.gone)) (length (flat_map spelling es.images)) file v.catalog.heads
    less k now = let l = low k now in let a = few.gone in let b = few.images in ((λ kept. let m = l.0 kept in omega (arith, m, a)), (λ kept. let m = l.1 kept in omega (arith, m, b)))

    ru : w.catalog.ru ≡ span_behind es.had v.catalog.ru
    ru = ap (λ (c : Catalog). c.ru) enters.catalog

    ascends : AreAscending w.catalog.ru.first w.catalog.ru.end t.units.places
    ascends = subst (AreAscending w.catalog.ru.first w.catalog.ru.end) (sym places)
        (subst (λ (r : Span). AreAscending r.first r.end (slice_set s.units.places place (Some (with_positions (begins_at v.catalog.ru.end es.had) file u)))) (sym ru)
        (ascending_cut v.catalog.ru.first v.catalog.ru.end s.units.places place file u es.had below at enters.entered.each o.ascending))

-- So it is of one by no unit, which is committed.
pub order_cut_directly : (file : ℕ) (h : FileHead) (from : ℕ) (es : CutEntries) (gone size : ℕ) (tid : Tid) (moment : ℕ) (s : UnitsState) (v w : VolumeState) → IsInOrder s v → head_at v.catalog.heads file ≡ Some h → FitCut es gone size → AreLow (gone + 48) (size + 48) file v.catalog.heads →
    images_refused h file s.units.places false gone size ≡ None → CommitsCut file h from es tid moment s.units.places v w → v.catalog.home.greatest_moment.0 ≤ moment → moment ≤ 24000001000066 →
    IsIdle w.store → Holds w → w.store.disk.size ≡ v.store.disk.size → w.store.pool ≡ v.store.pool → IsInOrder s w
order_cut_directly file h from es gone size tid moment s v w o there few low free is later bound idle holds sized pool =
    order_own file (length (flat_map spelling es.gone)) (length (flat_map spelling es.images)) gone size h tid (record { 0 = tid.0 }) moment s v is.moved is.closed w o there
    (cut_home file h from es v is.written is.moved there o.heads same is.cuts) (cut_ru file h from es v is.written is.moved there o.heads same is.cuts) (cut_long file h from es v is.written is.moved there o.heads same is.cuts)
    (cut_sound file h from es v is.written is.moved there o.heads same is.cuts v.catalog.home.node v.store.disk.size (images_size h es v is.written is.images) (λ k now. (let l = less k now in ((λ kept. let m = l.0 kept in omega (arith, m)), (λ kept. let m = l.1 kept in omega (arith, m))))) o.sound)
    (cut_grows file h from es v is.written is.moved there o.heads same is.cuts) less few.gone few.images free later bound is.closing is.closes is.settles idle holds sized pool
  where
    same : is.written.catalog ≡ v.catalog
    same = images_catalog h es v is.written is.images

    less : AreLow (length (flat_map spelling es.gone) + 48) (length (flat_map spelling es.images) + 48) file v.catalog.heads
    less k now = let l = low k now in let a = few.gone in let b = few.images in ((λ kept. let m = l.0 kept in omega (arith, m, a)), (λ kept. let m = l.1 kept in omega (arith, m, b)))
