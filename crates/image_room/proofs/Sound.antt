-- A volume stays sound where a journal of images grows.
use Rattle.std.proofs.Common.{◌≡◌, ℕ, suc, ◌+◌, ◌<◌, ◌≤◌, ◌^◌, List, [], ◌∷◌, Bool, true, false, Option, Some, None, length, slice_set, refl, sym, ap, subst, ◌∙◌, arith, length-set, if◌then◌else◌}
use Rattle.file_base.specs.declared.head.FileHead.{FileHead}
use Rattle.file_base.specs.declared.head.Organization.{Organization}
use Rattle.file_base.specs.declared.head.Organization.TheVariants.{Sequential, Relative, Indexed}
use Rattle.file_base.specs.declared.head.Span.{Span}
use Rattle.volume.specs.extents.Extents.{extents_of}
use Rattle.volume.specs.declared.catalog.Catalog.{Catalog}
use Rattle.volume.specs.declared.limits.Buckets.{Buckets}
use Rattle.volume.specs.Catalogs.{IsSound, head_at}
use Rattle.volume.specs.Limits.{BlocksFit, BucketsFit, FileFits, KeysFit, RootFits, SaveFits, SpanFits, file_buckets, save_buckets}
use Rattle.volume_files.proofs.Places.{fits_at}
use Rattle.volume_files.proofs.SoundLemmas.{sound_with}
use Rattle.image_appends.specs.unit_journal.Spans.{longer}
use Rattle.image_appends.specs.declared.side.Side.{Side}
use Rattle.image_appends.specs.declared.side.Side.TheVariants.{After, Before}
use Rattle.image_appends.specs.Images.{files_grown, grown, heads_with, heads_with_both, is_kept, span_of}
use Rattle.image_appends.specs.Settling.{heads_from, heads_if}
use Rattle.image_appends.proofs.Growing.{others_if}
use Rattle.image_room.specs.Room.{ImagesAreLow}
use Rattle.image_room.proofs.Entered.{befores_same, long_if, long_with}

blocks_longer : (m : Bool) (size : ℕ) (s : Span) → BlocksFit m s → BlocksFit m (longer size s)
blocks_longer true size s fits = fits
blocks_longer false size s fits = fits

span_longer : (m : Bool) (size : ℕ) (s : Span) → s.end + size ≤ 2 ^ 62 → SpanFits m s → SpanFits m (longer size s)
span_longer m size s low fits = record { blocks = blocks_longer m size s fits.blocks; ordered = let o = fits.ordered in omega (arith, o); most = omega (arith, low) }

keys_grown : (o : Organization) (side : Side) (size : ℕ) (h : FileHead) → KeysFit o h → KeysFit o (grown side size h)
keys_grown Sequential After size h f = f
keys_grown Sequential Before size h f = f
keys_grown Relative After size h f = f
keys_grown Relative Before size h f = f
keys_grown Indexed After size h f = f
keys_grown Indexed Before size h f = f

root_grown : (o : Organization) (side : Side) (size : ℕ) (h : FileHead) (b : Buckets) → RootFits o h b → RootFits o (grown side size h) b
root_grown Sequential After size h b f = f
root_grown Sequential Before size h b f = f
root_grown Relative After size h b f = f
root_grown Relative Before size h b f = f
root_grown Indexed After size h b f = f
root_grown Indexed Before size h b f = f

-- what a file keeps fits, with more in a journal
save_after : (m : Bool) (g size : ℕ) (h : FileHead) → SaveFits m g h → SaveFits m g (grown After size h)
save_after true g size h s = record { buckets = record { least = s.buckets.least; most = s.buckets.most; root = root_grown h.organization After size h (save_buckets h.save) s.buckets.root }; position = let p = s.position in omega (arith, p); moment = s.moment }
save_after false g size h s = s

save_before : (m : Bool) (g size : ℕ) (h : FileHead) → SaveFits m g h → SaveFits m g (grown Before size h)
save_before true g size h s = record { buckets = record { least = s.buckets.least; most = s.buckets.most; root = root_grown h.organization Before size h (save_buckets h.save) s.buckets.root }; position = s.position; moment = s.moment }
save_before false g size h s = s

fits_grown : (side : Side) (g size : ℕ) (h : FileHead) → (span_of side h).end + size ≤ 2 ^ 62 → FileFits g h → FileFits g (grown side size h)
fits_grown After g size h low f = record {
  bucket = record { least_blocks = f.bucket.least_blocks; most_blocks = f.bucket.most_blocks; least_record = f.bucket.least_record; most_record = f.bucket.most_record; record_fits = f.bucket.record_fits };
  keys = keys_grown h.organization After size h f.keys;
  buckets = record { least = f.buckets.least; most = f.buckets.most; root = root_grown h.organization After size h (file_buckets h) f.buckets.root };
  ai = span_longer h.marks.ai size h.ai low f.ai;
  bi = f.bi;
  since = f.since;
  save = save_after h.marks.save g size h f.save;
}
fits_grown Before g size h low f = record {
  bucket = record { least_blocks = f.bucket.least_blocks; most_blocks = f.bucket.most_blocks; least_record = f.bucket.least_record; most_record = f.bucket.most_record; record_fits = f.bucket.record_fits };
  keys = keys_grown h.organization Before size h f.keys;
  buckets = record { least = f.buckets.least; most = f.buckets.most; root = root_grown h.organization Before size h (file_buckets h) f.buckets.root };
  ai = f.ai;
  bi = span_longer h.marks.bi size h.bi low f.bi;
  since = f.since;
  save = save_before h.marks.save g size h f.save;
}

extents_grown : (side : Side) (size : ℕ) (h : FileHead) → extents_of (Some h) ≡ extents_of (Some (grown side size h))
extents_grown After size h = refl
extents_grown Before size h = refl

named_grown : (side : Side) (size : ℕ) (h : FileHead) → (grown side size h).name ≡ h.name
named_grown After size h = refl
named_grown Before size h = refl

-- One journal grows, where it is kept.
pub sound_grown : (name : List ℕ) (size : ℕ) (v : Catalog) (file : ℕ) (side : Side) (more : ℕ) → length v.heads ≡ 64 → ((h : FileHead) → head_at v.heads file ≡ Some h → is_kept side h ≡ true → (span_of side h).end + more ≤ 2 ^ 62) → IsSound name size v →
    IsSound name size (record v { heads = heads_with file side more v.heads })
sound_grown name size v file side more long low s = go (head_at v.heads file) refl
  where
    go : (o : Option FileHead) → head_at v.heads file ≡ o → IsSound name size (record v { heads = files_grown o file side more v.heads })
    go None is = s
    go (Some h) is = by_mark (is_kept side h) refl
      where
        by_mark : (b : Bool) → is_kept side h ≡ b → IsSound name size (record v { heads = if b then slice_set v.heads file (Some (grown side more h)) else v.heads })
        by_mark true kept = sound_with name size v file h (grown side more h) long is (extents_grown side more h) (named_grown side more h) (fits_grown side v.home.greatest_moment.0 more h (low h is kept) (fits_at name size v file h long s is)) s
        by_mark false kept = s

-- Both journals of a file grow.

abbrev AreLow : (more : ℕ) → FileHead → Type 0
AreLow more h = ((span_of After h).end + more ≤ 2 ^ 62) × ((span_of Before h).end + more ≤ 2 ^ 62)

pub sound_both : (name : List ℕ) (size : ℕ) (v : Catalog) (file after before : ℕ) → length v.heads ≡ 64 → ((h : FileHead) → head_at v.heads file ≡ Some h → ((span_of After h).end + after ≤ 2 ^ 62) × ((span_of Before h).end + before ≤ 2 ^ 62)) → IsSound name size v →
    IsSound name size (record v { heads = heads_with_both file after before v.heads })
sound_both name size v file after before long low s =
    sound_grown name size (record v { heads = heads_with file After after v.heads }) file Before before (long_with file After after v.heads ∙ long)
    (λ k at kept. let was = befores_same v.heads file after k at in let had = (low was.0 was.1).1 in let same = ap (λ (x : Span). x.end) was.2 in omega (arith, had, same))
    (sound_grown name size v file After after long (λ h at kept. (low h at).0) s)

sound_if : (name : List ℕ) (size : ℕ) (v : Catalog) (takes : Bool) (file more : ℕ) → length v.heads ≡ 64 → ((h : FileHead) → head_at v.heads file ≡ Some h → AreLow more h) → IsSound name size v → IsSound name size (record v { heads = heads_if takes file more v.heads })
sound_if name size v true file more long low s = sound_both name size v file more more long low s
sound_if name size v false file more long low s = s

-- and those of each of several files, from a number on
sound_from : (name : List ℕ) (size : ℕ) (files : List Bool) (n : ℕ) (v : Catalog) (more : ℕ) → length v.heads ≡ 64 → ((file : ℕ) → n ≤ file → (h : FileHead) → head_at v.heads file ≡ Some h → AreLow more h) → IsSound name size v →
    IsSound name size (record v { heads = heads_from n files more v.heads })
sound_from name size [] n v more long low s = s
sound_from name size (t ∷ ts) n v more long low s =
    sound_from name size ts (suc n) (record v { heads = heads_if t n more v.heads }) more (long_if t n more v.heads ∙ long)
    (λ file past h at. low file (omega (arith, past)) h (sym (others_if t n file more v.heads (λ same. omega (arith, past, same))) ∙ at))
    (sound_if name size v t n more long (λ h at. low n (omega arith) h at) s)

pub sound_settled : (name : List ℕ) (size : ℕ) (files : List Bool) (v : Catalog) (more : ℕ) → length v.heads ≡ 64 → ImagesAreLow more v.heads → IsSound name size v → IsSound name size (record v { heads = heads_from 0 files more v.heads })
sound_settled name size files v more long low s = sound_from name size files 0 v more long (λ file past h at. low file h at) s
