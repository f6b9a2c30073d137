-- What a truncation makes of a volume it makes of one that is the same but for reads.
use Rattle.std.proofs.Common.{◌≡◌, ◌≤◌, ◌+◌, ◌-◌, ℕ, true, false, Bool, List, Option, Some, None, length, option_map, slice_set, subst, inl, inr}
use Rattle.std.specs.List.{flat_map}
use Rattle.std.specs.Prelude.{◌⊎◌}
use Rattle.careful_write.specs.State.{Leaves, content}
use Rattle.file_base.specs.declared.head.FileHead.{FileHead}
use Rattle.file_base.specs.declared.head.Span.{Span}
use Rattle.journal_model.specs.Entries.{Entry, spelling}
use Rattle.unit_journal.specs.Settling.{next_moment}
use Rattle.unit_table.specs.Units.{OpenUnit}
use Rattle.vms_base.specs.Ids.{serial_of, tid_of}
use Rattle.vms_base.specs.declared.ids.Serial.{Serial}
use Rattle.vms_base.specs.declared.ids.Tid.{Tid}
use Rattle.vms_model.specs.Ids.{Id}
use Rattle.volume.specs.State.{SameVolume, VolumeState}
use Rattle.volume_files.specs.Staging.{TellsCut}
use Rattle.volume_format.specs.Home.{ru_block_of}
use Rattle.image_appends.specs.Images.{HasRoom}
use Rattle.key_changes.specs.unit_cuts.Records.{OfRecords}
use Rattle.key_changes.specs.unit_cuts.Truncating.{AllTold, BreaksCut, CommitsCut, CutEntries, CutsFile, EntersCut, MakesCut, TellCut, TellsCutIf, WritesBehind, WritesImages, cut_entries, keys_cut, span_behind, with_entries_if}
use Rattle.rms_units.specs.State.{UnitsState}
use Rattle.rms_units.specs.Truncating.{IsCut, IsDirectCut, cut_refused_after_reading, direct_cut_refused_after_reading}

module _ (v x : VolumeState) (alike : SameVolume v x) where
  behind_from : (kept : Bool) (s : Span) (es : List Entry) (w : VolumeState) → WritesBehind kept s es x w → WritesBehind kept s es v w
  behind_from kept s es w m = record {
    each = m.each;
    room = subst (λ (y : VolumeState). kept ≡ true → HasRoom (length (flat_map spelling es)) s y.store.disk) alike m.room;
    current = subst (λ (y : VolumeState). w.store.current ≡ option_map (with_entries_if kept s es) y.store.current) alike m.current;
    catalog = subst (λ (y : VolumeState). w.catalog ≡ y.catalog) alike m.catalog;
    size = subst (λ (y : VolumeState). w.store.disk.size ≡ y.store.disk.size) alike m.size;
  }

  images_from : (h : FileHead) (es : CutEntries) (w : VolumeState) → WritesImages h es x w → WritesImages h es v w
  images_from h es w m = record { mid = m.mid; befores = behind_from h.marks.bi h.bi es.images m.mid m.befores; afters = m.afters }

  file_from : (file : ℕ) (h : FileHead) (from : ℕ) (es : CutEntries) (written moved : VolumeState) → CutsFile file h from es x written moved → CutsFile file h from es v written moved
  file_from file h from es written moved m = record {
    cut = m.cut;
    head = m.head;
    stages = m.stages;
    cuts = subst (λ (y : VolumeState). TellsCut h from y m.cut m.head) alike m.cuts;
    current = m.current;
    catalog = m.catalog;
  }

  tell_from : (tid serial : Id) (file : ℕ) (h : FileHead) (from : ℕ) (es : CutEntries) → TellCut tid serial file h from x es → TellCut tid serial file h from v es
  tell_from tid serial file h from es m = record {
    gone = subst (λ (y : VolumeState). TellsCutIf h.marks.ai false tid serial file h from y es.gone) alike m.gone;
    images = subst (λ (y : VolumeState). TellsCutIf h.marks.bi true tid serial file h from y es.images) alike m.images;
  }

  pub cut_from : (tid serial : Id) (file : ℕ) (h : FileHead) (from : ℕ) (es : CutEntries) (made : VolumeState) → MakesCut tid serial file h from es x made → MakesCut tid serial file h from es v made
  cut_from tid serial file h from es made m = record {
    images = tell_from tid serial file h from es m.images;
    tells = subst (λ (y : VolumeState). OfRecords h y (λ records. es.had ≡ cut_entries tid serial file records (keys_cut h from))) alike m.tells;
    enters = record {
      imaged = m.enters.imaged;
      images = images_from h es m.enters.imaged m.enters.images;
      written = m.enters.written;
      entered = subst (λ (y : VolumeState). WritesBehind true y.catalog.ru es.had m.enters.imaged m.enters.written) alike m.enters.entered;
      moved = m.enters.moved;
      cuts = file_from file h from es m.enters.written m.enters.moved m.enters.cuts;
      current = subst (λ (y : VolumeState). made.store.current ≡ option_map (λ c. slice_set c 65 (ru_block_of (span_behind es.had y.catalog.ru))) m.enters.moved.store.current) alike m.enters.current;
      catalog = subst (λ (y : VolumeState). made.catalog ≡ record m.enters.moved.catalog { ru = span_behind es.had y.catalog.ru }) alike m.enters.catalog;
    };
  }

  pub commits_cut_from : (file : ℕ) (h : FileHead) (from : ℕ) (es : CutEntries) (tid : Tid) (moment : ℕ) (left : List (Option OpenUnit)) (made : VolumeState) → CommitsCut file h from es tid moment left x made → CommitsCut file h from es tid moment left v made
  commits_cut_from file h from es tid moment left made m = record {
    tells = (let serial : Serial = record { 0 = tid.0 } in tell_from (tid_of tid) (serial_of serial) file h from es m.tells);
    written = m.written;
    images = images_from h es m.written m.images;
    moved = m.moved;
    cuts = file_from file h from es m.written m.moved m.cuts;
    closing = m.closing;
    closed = m.closed;
    closes = m.closes;
    settles = m.settles;
  }

  breaks_from : (h : FileHead) (P Q : VolumeState → Type 0) (w : VolumeState) → ((made : VolumeState) → P made → Q made) → BreaksCut h P x w → BreaksCut h Q v w
  breaks_from h P Q w so (inl old) = inl (subst (λ (y : VolumeState). Leaves (AllTold h y.catalog.ru (content y.store)) w.store.disk) alike old)
  breaks_from h P Q w so (inr cut) = inr (record {
    made = cut.made;
    is = so cut.made cut.is;
    either = subst (λ (y : VolumeState). Leaves (λ c. AllTold h y.catalog.ru (content y.store) c ⊎ (Some c ≡ cut.made.store.current)) w.store.disk) alike cut.either;
  })

  pub breaks_cut_from : (u : OpenUnit) (file : ℕ) (h : FileHead) (from : ℕ) (s : UnitsState) (w : VolumeState) → BreaksCut h (IsCut u file h from s x) x w → BreaksCut h (IsCut u file h from s v) v w
  breaks_cut_from u file h from s w = breaks_from h (IsCut u file h from s x) (IsCut u file h from s v) w (λ made c. record {
    late = subst (λ (y : VolumeState). OfRecords h y (λ m. cut_refused_after_reading u file h from s y m ≡ None)) alike c.late;
    entries = c.entries;
    makes = cut_from u.tid u.serial file h from c.entries made c.makes;
  })

  pub breaks_direct_from : (file : ℕ) (h : FileHead) (from : ℕ) (tid : Tid) (clock moment : ℕ) (s : UnitsState) (w : VolumeState) → moment ≡ next_moment clock v.catalog.home → OfRecords h v (λ m. direct_cut_refused_after_reading file h from s m ≡ None) →
      BreaksCut h (λ made. (es : CutEntries) × CommitsCut file h from es tid moment s.units.places x made) x w → BreaksCut h (IsDirectCut tid clock file h from s v) v w
  breaks_direct_from file h from tid clock moment s w at late = breaks_from h (λ made. (es : CutEntries) × CommitsCut file h from es tid moment s.units.places x made) (IsDirectCut tid clock file h from s v) w (λ made c. record {
    late = late;
    entries = c.0;
    makes = subst (λ (n : ℕ). CommitsCut file h from c.0 tid n s.units.places v made) at (commits_cut_from file h from c.0 tid moment s.units.places made c.1);
  })
