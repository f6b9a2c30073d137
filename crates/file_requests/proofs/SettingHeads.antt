-- Heads with settings and saves, in a catalog.
use Rattle.std.proofs.Common.{◌≡◌, ◌≢◌, ⊎_elim, ℕ, zero, suc, ◌+◌, ◌-◌, ◌*◌, ◌/◌, ◌<◌, ◌≤◌, ◌^◌, List, [], ◌∷◌, Bool, true, false, Option, Some, None, length, slice_set, if◌then◌else◌, nat_le, nat_lt, refl, sym, ap, subst, ◌∙◌, arith}
use Rattle.std.specs.Prelude.{◌&&◌, map, max}
use Rattle.std.proofs.lemmas.Bool.Decides.{nat_tests}
use Rattle.std.proofs.lemmas.Bool.{cases_eq}
use Rattle.extents.specs.declared.extent.Extent.{Extent as Area}
use Rattle.extents.specs.Extents.{all_extents, covers, extent, extents_of, is_free}
use Rattle.file_base.specs.declared.head.FileHead.{FileHead}
use Rattle.file_base.specs.declared.head.Marks.{Marks}
use Rattle.file_base.specs.declared.head.Organization.{Organization}
use Rattle.file_base.specs.declared.head.Organization.TheVariants.{Sequential, Relative, Indexed}
use Rattle.file_base.specs.declared.head.Save.{Save}
use Rattle.file_base.specs.declared.head.Span.{Span}
use Rattle.vms_base.specs.declared.moments.Moment.{Moment}
use Rattle.vms_model.specs.Ids.{Id}
use Rattle.volume.specs.declared.catalog.Catalog.{Catalog}
use Rattle.volume.specs.declared.limits.Buckets.{Buckets}
use Rattle.volume.specs.Catalogs.{IsSound}
use Rattle.volume.specs.Limits.{BucketsFit, FileFits, KeysFit, RootFits, SaveFits, SpanFits, data_area, file_buckets, save_buckets}
use Rattle.volume.specs.volume_format.Home.{sizes_of}
use Rattle.file_images.specs.recovery_model.File.{next_span}
use Rattle.script_lang.specs.script_model.Statements.{Side, AfterImages, BeforeImages}
use Rattle.directory_model.specs.Files.{Fit, head_at}
use Rattle.directory_model.specs.Laws.{KeepsHeads, ended_head, end_by, saved_head}
use Rattle.recovery_units.specs.image_room.Room.{images_end}
use Rattle.node_files.proofs.CatalogLemmas.{fit_of, fits_at, head_below, named_once, sound_set}
use Rattle.file_requests.specs.Settings.{IsFree, begun_at, save_at}

-- a head with other marks, journals and save
abbrev carried_by : FileHead → Marks → (ai bi : Span) → Moment → Save → FileHead
carried_by h m a b t v = record h { marks = m; ai = a; bi = b; bi_since = t; save = v }

module _ (h : FileHead) (m : Marks) (a b : Span) (t : Moment) (v : Save) where
  root_by : (o : Organization) (x : Buckets) → RootFits o h x → RootFits o (carried_by h m a b t v) x
  root_by Sequential x f = f
  root_by Relative x f = f
  root_by Indexed x f = f

  keys_by : (o : Organization) → KeysFit o h → KeysFit o (carried_by h m a b t v)
  keys_by Sequential f = f
  keys_by Relative f = f
  keys_by Indexed f = f

  buckets_by : (x : Buckets) → BucketsFit h x → BucketsFit (carried_by h m a b t v) x
  buckets_by x f = record { least = f.least; most = f.most; root = root_by h.organization x f.root }

  fits_by : (g : ℕ) → FileFits g h → SpanFits m.ai a → SpanFits m.bi b → t.0 ≤ g → SaveFits m.save g (carried_by h m a b t v) → FileFits g (carried_by h m a b t v)
  fits_by g f ai bi since save = record {
    bucket = record { least_blocks = f.bucket.least_blocks; most_blocks = f.bucket.most_blocks; least_record = f.bucket.least_record; most_record = f.bucket.most_record; record_fits = f.bucket.record_fits };
    keys = keys_by h.organization f.keys;
    buckets = buckets_by (file_buckets h) f.buckets;
    ai = ai;
    bi = bi;
    since = since;
    save = save;
  }

-- the save stays, while the journal of after images does not go back
save_stays : (saved : Bool) (g : ℕ) (h : FileHead) (m : Marks) (a b : Span) (t : Moment) → h.ai.end ≤ a.end → SaveFits saved g h → SaveFits saved g (carried_by h m a b t h.save)
save_stays true g h m a b t on f = record { buckets = buckets_by h m a b t h.save (save_buckets h.save) f.buckets; position = (let p = f.position in omega (arith, p, on)); moment = f.moment }
save_stays false g h m a b t on f = f

next_behind : (end : ℕ) → end ≤ next_span end
next_behind end = omega arith

next_low : (end : ℕ) → end + 2 ^ 22 ≤ 2 ^ 62 → next_span end ≤ 4611686018427387904
next_low end low = omega (arith, low)

begun_span : (start blocks end : ℕ) → 1 ≤ blocks → end + 2 ^ 22 ≤ 2 ^ 62 → SpanFits true (record { start = start; blocks = blocks; first = next_span end; end = next_span end })
begun_span start blocks end some low = record { blocks = some; ordered = omega arith; most = next_low end low }

pub begun_fits : (side : Side) (start blocks : ℕ) (t : Moment) (g : ℕ) (h : FileHead) → 1 ≤ blocks → end_by side h + 2 ^ 22 ≤ 2 ^ 62 → t.0 ≤ g → FileFits g h → FileFits g (begun_at side start blocks t h)
begun_fits AfterImages start blocks t g h some low now f =
    let m = record h.marks { ai = true } in
    let s : Span = record { start = start; blocks = blocks; first = next_span h.ai.end; end = next_span h.ai.end } in
    fits_by h m s h.bi h.bi_since h.save g f (begun_span start blocks h.ai.end some low) f.bi f.since (save_stays h.marks.save g h m s h.bi h.bi_since (next_behind h.ai.end) f.save)
begun_fits BeforeImages start blocks t g h some low now f =
    let m = record h.marks { bi = true } in
    let s : Span = record { start = start; blocks = blocks; first = next_span h.bi.end; end = next_span h.bi.end } in
    fits_by h m h.ai s t h.save g f f.ai (begun_span start blocks h.bi.end some low) now (save_stays h.marks.save g h m h.ai s t (omega arith) f.save)

ended_span : (marked : Bool) (s : Span) → SpanFits marked s → SpanFits false (record s { start = 0; blocks = 0 })
ended_span marked s f = record { blocks = (refl, refl); ordered = f.ordered; most = f.most }

pub ended_fits : (side : Side) (g : ℕ) (h : FileHead) → FileFits g h → FileFits g (ended_head side h)
ended_fits AfterImages g h f =
    let m = record h.marks { ai = false } in
    let s : Span = record h.ai { start = 0; blocks = 0 } in
    fits_by h m s h.bi h.bi_since h.save g f (ended_span h.marks.ai h.ai f.ai) f.bi f.since (save_stays h.marks.save g h m s h.bi h.bi_since (omega arith) f.save)
ended_fits BeforeImages g h f =
    let m = record h.marks { bi = false } in
    let s : Span = record h.bi { start = 0; blocks = 0 } in
    fits_by h m h.ai s h.bi_since h.save g f f.ai (ended_span h.marks.bi h.bi f.bi) f.since (save_stays h.marks.save g h m h.ai s h.bi_since (omega arith) f.save)

pub saved_fits : (start : ℕ) (t : Moment) (g : ℕ) (h : FileHead) → t.0 ≤ g → FileFits g h → FileFits g (saved_head (save_at start t h) h)
saved_fits start t g h now f =
    let m = record h.marks { save = true } in
    let v = save_at start t h in
    fits_by h m h.ai h.bi h.bi_since v g f f.ai f.bi f.since (record { buckets = buckets_by h m h.ai h.bi h.bi_since v (file_buckets h) f.buckets; position = omega arith; moment = now })

-- Extents.

covers_run : (v : Catalog) (start blocks n : ℕ) → IsFree v start blocks → covers (extent start blocks) n ≡ true → is_free (data_area (sizes_of v.home)) (all_extents v.heads) n ≡ true
covers_run v start blocks n run c = run.all n (from start (start + blocks) n c) (below start (start + blocks) n c)
  where
    from : (a b n : ℕ) → (nat_le a n && nat_lt n b) ≡ true → a ≤ n
    from a b n e = grind (arith, nat_tests)

    below : (a b n : ℕ) → (nat_le a n && nat_lt n b) ≡ true → n < b
    below a b n e = grind (arith, nat_tests)

covers_nothing : (n : ℕ) → covers (extent 0 0) n ≡ true → ⊥
covers_nothing n c = grind (arith, nat_tests)

module _ (node : List ℕ) (size : ℕ) (v : Catalog) (f : ℕ) (h : FileHead) (law : KeepsHeads) (long : length v.heads ≡ 64) (there : head_at v.heads f ≡ Some h) (s : IsSound node size v) where
  sound_by : (new : FileHead) → new.name ≡ h.name → Fit (data_area (sizes_of v.home)) (slice_set v.heads f (Some new)) → FileFits v.home.greatest_moment.0 new → IsSound node size (record v { heads = slice_set v.heads f (Some new) })
  sound_by new named fit fits = sound_set node size v f new long (head_below v.heads f h long there) fit (law.stays_named v.heads f h new (named_once node size v long s) there named) fits s

  fit_by : (new : FileHead) (k : ℕ) (e : Area) → k < 4 → extents_of (Some new) ≡ slice_set (extents_of (Some h)) k e → ((n : ℕ) → covers e n ≡ true → is_free (data_area (sizes_of v.home)) (all_extents v.heads) n ≡ true) → Fit (data_area (sizes_of v.home)) (slice_set v.heads f (Some new))
  fit_by new k e below is free = law.replaces (data_area (sizes_of v.home)) v.heads f k h new e (fit_of node size v long s) there below is free

  fits_here : FileFits v.home.greatest_moment.0 h
  fits_here = fits_at node size v f h long s there

  pub sound_begun : (side : Side) (start blocks : ℕ) → 1 ≤ blocks → end_by side h + 2 ^ 22 ≤ 2 ^ 62 → IsFree v start blocks → IsSound node size (record v { heads = slice_set v.heads f (Some (begun_at side start blocks v.home.greatest_moment h)) })
  sound_begun AfterImages start blocks some low run =
      sound_by (begun_at AfterImages start blocks v.home.greatest_moment h) refl (fit_by (begun_at AfterImages start blocks v.home.greatest_moment h) 1 (extent start blocks) (omega arith) refl (λ n c. covers_run v start blocks n run c))
      (begun_fits AfterImages start blocks v.home.greatest_moment v.home.greatest_moment.0 h some low (omega arith) fits_here)
  sound_begun BeforeImages start blocks some low run =
      sound_by (begun_at BeforeImages start blocks v.home.greatest_moment h) refl (fit_by (begun_at BeforeImages start blocks v.home.greatest_moment h) 2 (extent start blocks) (omega arith) refl (λ n c. covers_run v start blocks n run c))
      (begun_fits BeforeImages start blocks v.home.greatest_moment v.home.greatest_moment.0 h some low (omega arith) fits_here)

  pub sound_ended : (side : Side) → IsSound node size (record v { heads = slice_set v.heads f (Some (ended_head side h)) })
  sound_ended AfterImages = sound_by (ended_head AfterImages h) refl (fit_by (ended_head AfterImages h) 1 (extent 0 0) (omega arith) refl (λ n c. absurd (covers_nothing n c))) (ended_fits AfterImages v.home.greatest_moment.0 h fits_here)
  sound_ended BeforeImages = sound_by (ended_head BeforeImages h) refl (fit_by (ended_head BeforeImages h) 2 (extent 0 0) (omega arith) refl (λ n c. absurd (covers_nothing n c))) (ended_fits BeforeImages v.home.greatest_moment.0 h fits_here)

  pub sound_saved : (start : ℕ) → IsFree v start (h.alloc * h.bucket) → IsSound node size (record v { heads = slice_set v.heads f (Some (saved_head (save_at start v.home.greatest_moment h) h)) })
  sound_saved start run =
      sound_by (saved_head (save_at start v.home.greatest_moment h) h) refl (fit_by (saved_head (save_at start v.home.greatest_moment h) h) 3 (extent start (h.alloc * h.bucket)) (omega arith) refl (λ n c. covers_run v start (h.alloc * h.bucket) n run c))
      (saved_fits start v.home.greatest_moment v.home.greatest_moment.0 h (omega arith) fits_here)
