-- What one call stages or reads, as a step of an undo.
use Rattle.std.proofs.Common.{◌≡◌, ⊎_elim, ℕ, ◌+◌, ◌*◌, ◌≤◌, List, length, Option, Some, None, Result, Ok, Err, OnOk, IfSome, sym, ◌∙◌, ap, subst, inl, inr, ◌⊎◌, slice_set}
use Rattle.block_disk.specs.Disk.{DiskState}
use Rattle.careful_write.specs.declared.down.Down.{Down}
use Rattle.careful_write.specs.State.{EachWhole, content}
use Rattle.unit_entries.specs.change_set.Files.{AgreesOut, IsPlaced}
use Rattle.file_base.specs.declared.head.FileHead.{FileHead}
use Rattle.file_base.specs.declared.head.Span.{Span}
use Rattle.journal_store.specs.Reading.{ReadsAt}
use Rattle.journal_format.specs.Heads.{entry_of}
use Rattle.journal_format.specs.declared.head.EntryHead.{EntryHead}
use Rattle.journal_format.specs.journal_model.Entries.{Entry}
use Rattle.directory_model.specs.record_files.Any as any
use Rattle.vms_model.specs.Keys.{Key}
use Rattle.volume.specs.declared.catalog.Catalog.{Catalog}
use Rattle.volume.specs.Catalogs.{head_at}
use Rattle.volume.specs.State.{VolumeState}
use Rattle.volume_files.specs.Staging.{StagesFile, SetsBack, TellsBack, is_of_file}
use Rattle.unit_entries.specs.Collecting.{IsChangeAt}
use Rattle.unit_entries.specs.Told.{before_in}
use Rattle.unit_undo.specs.Undoing.{GoesOn, ChangesFile, ReadsChange, SetsToEntry}
use Rattle.unit_undo.proofs.StepLemmas.{goes_through, goes_staged, if_told}

-- A change of a file that is staged, after what was staged before may have been applied.
module _ (f limit : ℕ) (h new : FileHead) (v mid w : VolumeState) (goes : GoesOn v mid) (catalog : mid.catalog ≡ v.catalog) (current : mid.store.current ≡ v.store.current) (applied : (content mid.store ≡ content v.store) ⊎ (content mid.store ≡ v.store.current))
    (long : length v.catalog.heads ≡ 64) (there : head_at v.catalog.heads f ≡ Some h) (s : StagesFile f h limit mid w new) (whole : IfSome w.store.current EachWhole) where
  pub staged_changes : ChangesFile f h v w new
  staged_changes = record {
    goes = goes_through v mid w goes (goes_staged f limit h new mid w goes.ready (ap (λ (k : Catalog). length k.heads) catalog ∙ long) (ap (λ (k : Catalog). head_at k.heads f) catalog ∙ there) s);
    same = s.same;
    heads = ap (λ (k : Catalog). k.heads) s.catalog ∙ ap (λ (k : Catalog). slice_set k.heads f (Some new)) catalog;
    blocks = subst (λ o. AgreesOut (is_of_file f h) o w.store.current) current s.blocks;
    applied = ⊎_elim (λ same. inl (content_same ∙ same)) (λ done. inr (content_same ∙ done)) applied;
    whole = whole;
  }
    where
      content_same : content w.store ≡ content mid.store
      content_same = ap content s.rest

-- an entry that stands is the only one
pub change_read : (s t : Span) (p : ℕ) (o q : Option (List (List ℕ))) (r : Option (EntryHead × ℕ)) (e : EntryHead) (next : ℕ) (image : List ℕ) → t ≡ s → q ≡ o → r ≡ Some (e, next) → IfSome q (ReadsAt t p r image) → IfSome o (ReadsChange s p (Some e) image)
change_read s t p o q r e next image span told is reads =
    at o (subst (λ x. IfSome x (ReadsAt s p (Some (e, next)) image)) told (subst (λ x. IfSome q (ReadsAt s p x image)) is (subst (λ (x : Span). IfSome q (ReadsAt x p r image)) span reads)))
  where
    at : (x : Option (List (List ℕ))) → IfSome x (ReadsAt s p (Some (e, next)) image) → IfSome x (ReadsChange s p (Some e) image)
    at None reads = reads
    at (Some c) reads = λ x at. reads.only x at.is at.stands

pub no_change_read : (s t : Span) (p : ℕ) (o q : Option (List (List ℕ))) (r : Option (EntryHead × ℕ)) (image : List ℕ) → t ≡ s → q ≡ o → r ≡ None → IfSome q (ReadsAt t p r image) → IfSome o (ReadsChange s p None image)
no_change_read s t p o q r image span told is reads =
    at o (subst (λ x. IfSome x (ReadsAt s p None image)) told (subst (λ x. IfSome q (ReadsAt s p x image)) is (subst (λ (x : Span). IfSome q (ReadsAt x p r image)) span reads)))
  where
    at : (x : Option (List (List ℕ))) → IfSome x (ReadsAt s p None image) → IfSome x (ReadsChange s p None image)
    at None reads = reads
    at (Some c) reads = λ x at. reads x at.is at.stands

module _ (h new : FileHead) (key : Key) (first : ℕ) (v mid w : VolumeState) (current : mid.store.current ≡ v.store.current) (catalog : mid.catalog ≡ v.catalog) (image : List ℕ) where
  -- an entry was read, and its key set back
  pub entry_sets : (e : EntryHead) → IfSome mid.store.current (ReadsChange mid.catalog.ru first (Some e) image) → TellsBack h key (before_in (entry_of e image)) mid w new → SetsToEntry h key first v w new
  entry_sets e reads back b x told at form laid suits restores =
      let now = current ∙ told in
      let is : entry_of e image ≡ x = if_told mid.store.current b (ReadsChange mid.catalog.ru first (Some e) image) now reads x (subst (λ (k : Catalog). IsChangeAt k.ru first x b) (sym catalog) at) in
      subst (λ (y : Entry). (c : List (List ℕ)) × (w.store.current ≡ Some c) × SetsBack h key (before_in y) b c new) is
      (back b now form laid (subst (λ (y : Entry). any.Suits h key (before_in y)) (sym is) suits) (subst (λ (y : Entry). any.Restores h b key (before_in y)) (sym is) restores))

-- a file lies on a disk of the same size
pub placed_on : (h : FileHead) (d e : DiskState) → e.size ≡ d.size → IsPlaced h d → IsPlaced h e
placed_on h d e same p = record {
  from = p.from;
  to = subst (λ (n : ℕ). h.start + h.alloc * h.bucket ≤ n) (sym same) p.to;
  fits = subst (λ (n : ℕ). n ≤ 65536) (sym same) p.fits;
  blocks = p.blocks;
  one = p.one;
  least = p.least;
  records = p.records;
  greatest = p.greatest;
}

-- what holds of an answer that went well
pub on_both : {T : Type 0} (A B C : Type 0) (r : Result T Down) → (A → B → C) → OnOk r A → OnOk r B → OnOk r C
on_both A B C (Ok x) f a b = f a b
on_both A B C (Err e) f a b = tt
