-- What is said of a volume is said of one that is the same but for reads.
use Rattle.std.proofs.Common.{◌≡◌, ◌+◌, ◌≤◌, ℕ, List, length, option_map, sym, subst, inl, inr}
use Rattle.careful_write.specs.Reads.{SameButReads}
use Rattle.careful_write.specs.State.{content}
use Rattle.careful_write.specs.Steps.{Quiet}
use Rattle.careful_write.proofs.Reading.{ready_read}
use Rattle.file_base.specs.declared.head.Span.{Span}
use Rattle.journal_model.specs.Entries.{Entry}
use Rattle.journal_model.specs.Ring.{put_stream}
use Rattle.volume.specs.State.{SameVolume, VolumeState}
use Rattle.volume.proofs.Reading.{store_of_same, volume_on}
use Rattle.unit_cuts.specs.Truncating.{EntersIfFits, Entering, TellsSame, with_entries}

module _ (v w : VolumeState) (same : SameVolume v w) where
  -- from it on
  pub enters_from : (bytes : List ℕ) (limit : ℕ) (s t : Span) (ps qs : List ℕ) (x : VolumeState) → EntersIfFits bytes limit s t ps qs w x → EntersIfFits bytes limit s t ps qs v x
  enters_from bytes limit s t ps qs x (inl en) = inl (record {
    fits = en.fits;
    span = en.span;
    positions = en.positions;
    current = subst (λ (y : VolumeState). x.store.current ≡ option_map (λ c. put_stream c s s.end bytes) y.store.current) same en.current;
    rest = subst (λ (y : VolumeState). SameButReads (record y.store { current = x.store.current; touched = x.store.touched }) x.store) same en.rest;
    catalog = subst (λ (y : VolumeState). x.catalog ≡ y.catalog) same en.catalog;
    few = subst (λ (y : VolumeState). length x.store.touched ≤ length y.store.touched + 18) same en.few;
  })
  enters_from bytes limit s t ps qs x (inr pa) = inr (record { long = pa.long; span = pa.span; positions = pa.positions; same = volume_on v w x same pa.same })

  -- and up to it
  pub entering_to : (limit : ℕ) (base : Span) (u : VolumeState) (s : Span) (ps : List ℕ) (es : List Entry) → Entering limit base u v s ps es → Entering limit base u w s ps es
  entering_to limit base u s ps es en = record {
    each = en.each;
    span = en.span;
    fits = en.fits;
    positions = en.positions;
    current = subst (λ (y : VolumeState). y.store.current ≡ option_map (with_entries base es) u.store.current) (sym same) en.current;
    written = subst (λ (y : VolumeState). TellsSame base u.store.current (content y.store)) (sym same) en.written;
    ready = ready_read v.store w.store (store_of_same v w same) en.ready;
    catalog = subst (λ (y : VolumeState). y.catalog ≡ u.catalog) (sym same) en.catalog;
    pool = subst (λ (y : VolumeState). y.store.pool ≡ u.store.pool) (sym same) en.pool;
    counts = subst (λ (y : VolumeState). Quiet u.store.disk y.store.disk) (sym same) en.counts;
  }
