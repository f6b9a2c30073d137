-- The volume is sound still once a file is recovered.
use Rattle.std.proofs.Common.{◌≡◌, ◌+◌, ◌*◌, ◌<◌, ◌≤◌, ◌^◌, ℕ, List, [], ◌∷◌, Bool, true, false, Option, Some, None, length, max, refl, sym, ◌∙◌, ap, subst, arith, inl, inr, slice_set, get_or-set_same, get_or-set_other}
use Rattle.std.proofs.lemmas.Bool.{cases_eq}
use Rattle.extents.specs.declared.extent.Extent.{Extent as Area}
use Rattle.extents.specs.Extents.{extent, extents_of}
use Rattle.extents.proofs.Used.{covered}
use Rattle.file_base.specs.declared.head.FileHead.{FileHead}
use Rattle.file_base.specs.declared.head.Organization.{Organization as Kept}
use Rattle.file_base.specs.declared.head.Organization.TheVariants as kept
use Rattle.file_base.specs.declared.head.Span.{Span}
use Rattle.recover_rms.specs.load_laws.Loads.{buckets_by, loaded_buckets}
use Rattle.recover_rms.specs.load_laws.Records.{Keyed}
use Rattle.recover_rms.specs.record_files.Any.{FormBy, IsFile}
use Rattle.recover_rms.specs.Calls.{AreInRings}
use Rattle.recover_rms.specs.Replacing.{IsHeadWith, with_head}
use Rattle.vms_base.specs.declared.moments.Moment.{Moment}
use Rattle.unit_world.specs.volume.declared.catalog.Catalog.{Catalog}
use Rattle.unit_world.specs.volume.Catalogs.{IsNew, IsSound}
use Rattle.unit_world.specs.volume.Limits.{EntryFits, FileFits, KeysFit, RootFits, SaveFits, SpanFits, data_area, file_buckets, save_buckets}
use Rattle.volume_format.specs.Home.{sizes_of}
use Rattle.unit_world.specs.directory_model.Files.{AreNamedOnce, Fit, head_at}
use Rattle.unit_world.proofs.directory_model.Heads.{keeps_heads}
use Rattle.unit_world.proofs.directory_model.Places.{within_list}
use Rattle.recovered_nodes.specs.Recovering.{IsRecoveredHead, IsRenewed, IsSince}
use Rattle.recovered_nodes.proofs.Rows.{loads_rows}

-- Its journals.

spans_fit : (marked : Bool) (s t : Span) → SpanFits marked s → IsRenewed marked s t → (marked ≡ true → s.end + 512 ≤ 2 ^ 62) → SpanFits marked t
spans_fit true s t fits is low =
    let most = low refl in
    subst (SpanFits true) (sym is) (record { blocks = fits.blocks; ordered = omega arith; most = omega (arith, most) })
spans_fit false s t fits is low = subst (SpanFits false) (sym is) fits

span_stays : (marked : Bool) (s t : Span) → IsRenewed marked s t → (t.start ≡ s.start) × (t.blocks ≡ s.blocks)
span_stays true s t is = (ap (λ (x : Span). x.start) is, ap (λ (x : Span). x.blocks) is)
span_stays false s t is = (ap (λ (x : Span). x.start) is, ap (λ (x : Span). x.blocks) is)

later_end : (marked : Bool) (s t : Span) → IsRenewed marked s t → s.end ≤ t.end
later_end true s t is = let end = ap (λ (x : Span). x.end) is in omega (arith, end)
later_end false s t is = let end = ap (λ (x : Span). x.end) is in omega (arith, end)

since_fits : (marked : Bool) (greatest : ℕ) (old new : Moment) → old.0 ≤ greatest → IsSince marked greatest old new → new.0 ≤ greatest
since_fits true greatest old new fits is = omega (arith, is)
since_fits false greatest old new fits is = let same = ap (λ (m : Moment). m.0) is in omega (arith, same, fits)

-- Its head.

module _ (h : FileHead) (start alloc used root levels count : ℕ) (ai bi : Span) (since : Moment) where
  abbrev moved : FileHead
  moved = record h { start = start; alloc = alloc; used = used; root = root; levels = levels; count = count; ai = ai; bi = bi; bi_since = since }

  keys_moved : (o : Kept) → KeysFit o h → KeysFit o moved
  keys_moved kept.Sequential fits = fits
  keys_moved kept.Relative fits = fits
  keys_moved kept.Indexed fits = fits

  buckets_moved : (o : Kept) → FormBy o moved → (o ≡ kept.Relative → alloc ≡ h.alloc) → 1 ≤ alloc → RootFits o h (file_buckets h) → (1 ≤ used) × (used ≤ alloc) × RootFits o moved (file_buckets moved)
  buckets_moved kept.Sequential form same some fits = (form.one, form.used, (form.root, form.levels))
  buckets_moved kept.Relative form same some fits = ((let e = form.used in omega (arith, e, some)), (let e = form.used in omega (arith, e)), (form.root, form.levels, form.count, same refl ∙ fits.3, form.used ∙ same refl ∙ fits.3))
  buckets_moved kept.Indexed form same some fits = ((let e = form.root.root in omega (arith, e)), form.root.within, (form.root.root, form.count))

  root_moved : (o : Kept) → RootFits o h (save_buckets h.save) → RootFits o moved (save_buckets h.save)
  root_moved kept.Sequential fits = fits
  root_moved kept.Relative fits = fits
  root_moved kept.Indexed fits = fits

  save_moved : (marked : Bool) (greatest : ℕ) → h.ai.end ≤ ai.end → SaveFits marked greatest h → SaveFits marked greatest moved
  save_moved true greatest later fits = record {
    buckets = record { least = fits.buckets.least; most = fits.buckets.most; root = root_moved h.organization fits.buckets.root };
    position = (let at = fits.position in omega (arith, at, later));
    moment = fits.moment;
  }
  save_moved false greatest later fits = fits

  fits_moved : (greatest : ℕ) → IsFile moved → (h.organization ≡ kept.Relative → alloc ≡ h.alloc) → 1 ≤ alloc → SpanFits h.marks.ai ai → SpanFits h.marks.bi bi → since.0 ≤ greatest → h.ai.end ≤ ai.end → FileFits greatest h → FileFits greatest moved
  fits_moved greatest form same some after before moment later fits =
      let b = buckets_moved h.organization form same some fits.buckets.root in
      record {
        bucket = record { least_blocks = fits.bucket.least_blocks; most_blocks = fits.bucket.most_blocks; least_record = fits.bucket.least_record; most_record = fits.bucket.most_record; record_fits = fits.bucket.record_fits };
        keys = keys_moved h.organization fits.keys;
        buckets = record { least = b.0; most = b.1; root = b.2 };
        ai = after;
        bi = before;
        since = moment;
        save = save_moved h.marks.save greatest later fits.save;
      }

at_least : (a b : ℕ) → a ≤ max a b
at_least a b = omega arith

itself : (a : ℕ) → max a a ≡ a
itself a = omega arith

-- The volume.

is_new : (heads : List (Option FileHead)) (g : ℕ) (o : Option FileHead) → head_at heads g ≡ o → AreNamedOnce heads → IsNew heads g o
is_new heads g None is once = tt
is_new heads g (Some k) is once = once g k is

module _ (node : List ℕ) (size : ℕ) (v : Catalog) (f : ℕ) (h new : FileHead) (es : List Keyed) (sound : IsSound node size v) (long : length v.heads ≡ 64) (there : head_at v.heads f ≡ Some h) (rings : AreInRings h) (with_it : IsHeadWith v h es new) where
  abbrev area : Area
  area = data_area (sizes_of v.home)

  is_head : IsRecoveredHead v.home.greatest_moment.0 h new
  is_head = loads_rows.heads v h new es with_it

  below : f < 64
  below = let less = within_list v.heads f h there in omega (arith, less, long)

  fit : Fit area v.heads
  fit = record { heads_long = long; behind = omega arith; each = sound.extents }

  once : AreNamedOnce v.heads
  once g k at = subst (λ o. IsNew v.heads g o) at (sound.names g (let less = within_list v.heads g k at in omega (arith, less, long)))

  old_fits : FileFits v.home.greatest_moment.0 h
  old_fits = subst (EntryFits v.home.greatest_moment.0) there (sound.files f below)

  alloc_least : 1 ≤ new.alloc
  alloc_least = let is = with_it.buckets in let least = old_fits.buckets.least in let most = old_fits.buckets.most in let top = at_least h.alloc (loaded_buckets h es) in omega (arith, is, least, most, top)

  alloc_same : h.organization ≡ kept.Relative → new.alloc ≡ h.alloc
  alloc_same kind = with_it.buckets ∙ ap (λ (o : Kept). max h.alloc (buckets_by o h es)) kind ∙ itself h.alloc

  new_fits : FileFits v.home.greatest_moment.0 new
  new_fits = subst (FileFits v.home.greatest_moment.0) (sym is_head.is)
      (fits_moved h new.start new.alloc new.used new.root new.levels new.count new.ai new.bi new.bi_since v.home.greatest_moment.0 (subst IsFile is_head.is with_it.form) alloc_same alloc_least
      (spans_fit h.marks.ai h.ai new.ai old_fits.ai is_head.after (λ m. rings.after_low)) (spans_fit h.marks.bi h.bi new.bi old_fits.bi is_head.before (λ m. rings.before_low))
      (since_fits h.marks.bi v.home.greatest_moment.0 h.bi_since new.bi_since old_fits.since is_head.since) (later_end h.marks.ai h.ai new.ai is_head.after) old_fits)

  extents_are : extents_of (Some new) ≡ slice_set (extents_of (Some h)) 0 (extent new.start (new.alloc * new.bucket))
  extents_are =
      let after = span_stays h.marks.ai h.ai new.ai is_head.after in
      let before = span_stays h.marks.bi h.bi new.bi is_head.before in
      let start = ap (λ (x : FileHead). x.save.start) is_head.is in
      let alloc = ap (λ (x : FileHead). x.save.alloc * x.bucket) is_head.is in
      λ i. extent new.start (new.alloc * new.bucket) ∷ extent (after.0 i) (after.1 i) ∷ extent (before.0 i) (before.1 i) ∷ extent (start i) (alloc i) ∷ []

  new_fit : Fit area (slice_set v.heads f (Some new))
  new_fit = keeps_heads.replaces area v.heads f 0 h new (extent new.start (new.alloc * new.bucket)) fit there (omega arith) extents_are
      (λ k in_it. let lies = covered (extent new.start (new.alloc * new.bucket)) k in_it in let sized = ap (λ (x : FileHead). new.alloc * x.bucket) is_head.is in with_it.free.all k lies.0 (omega (arith, lies.1, sized)))

  new_once : AreNamedOnce (slice_set v.heads f (Some new))
  new_once = keeps_heads.stays_named v.heads f h new once there (ap (λ (x : FileHead). x.name) is_head.is)

  pub sound_so : IsSound node size (with_head f new v)
  sound_so = record {
    version = sound.version;
    sizes = sound.sizes;
    home = sound.home;
    files = λ g less. elim (cases_eq g f) [
      | inl here ↦ subst (λ o. EntryFits v.home.greatest_moment.0 o) (sym (ap (head_at (slice_set v.heads f (Some new))) here ∙ get_or-set_same v.heads f (Some new) None (omega (arith, below, long)))) new_fits
      | inr other ↦ subst (λ o. EntryFits v.home.greatest_moment.0 o) (sym (get_or-set_other v.heads f g (Some new) None other)) (sound.files g less)
    ];
    names = λ g less. is_new (slice_set v.heads f (Some new)) g (head_at (slice_set v.heads f (Some new)) g) refl new_once;
    extents = new_fit.each;
    ru_start = sound.ru_start;
    ru_blocks = sound.ru_blocks;
  }
