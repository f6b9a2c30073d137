-- The files of the units that a journal leaves are those of their entries.
use Rattle.std.proofs.Common.{◌≡◌, ℕ, ◌==◌, Bool, true, false, List, [], ◌∷◌, ◌++◌, Option, Some, None, slice_set, if◌then◌else◌, refl, sym, ◌∙◌, ap}
use Rattle.std.specs.List.{AllByRecursion}
use Rattle.file_base.specs.declared.head.Span.{Span}
use Rattle.journal_format.specs.journal_model.Entries.{Entry}
use Rattle.journal_format.specs.Heads.{entry_of}
use Rattle.journal_format.specs.declared.head.EntryHead.{EntryHead}
use Rattle.journal_store.specs.Reading.{Stands}
use Rattle.unit_table.specs.Units.{OpenUnit, first_that, is_of, new_unit, no_files, with_first, with_position, without_first}
use Rattle.unit_entries.specs.Collecting.{AreChangesAt, IsChangeAt}
use Rattle.unit_entries.specs.Opening.{AreFiledOf, AreFilesOf, files_in, files_onto, more_open, opened_after}
use Rattle.unit_entries.proofs.OpenLemmas.{all_first, all_less, first_holds}
use Rattle.unit_entries.proofs.RowLemmas.{all_behind}

-- the last of several changes
changes_last : (s : Span) (c : List (List ℕ)) (ps : List ℕ) (p : ℕ) (es : List Entry) → AreChangesAt s (ps ++ p ∷ []) es c → (front : List Entry) × (e : Entry) × (es ≡ front ++ e ∷ []) × AreChangesAt s ps front c × IsChangeAt s p e c
changes_last s c [] p [] at = absurd at
changes_last s c [] p (e ∷ []) at = ([], e, refl, tt, at.0)
changes_last s c [] p (e ∷ f ∷ es) at = absurd at.1
changes_last s c (q ∷ ps) p [] at = absurd at
changes_last s c (q ∷ ps) p (e ∷ es) at =
    let l = changes_last s c ps p es at.1 in
    (e ∷ l.0, l.1, ap (λ (xs : List Entry). e ∷ xs) l.2, (at.0, l.3), l.4)

files_push : (files : List Bool) (es : List Entry) (e : Entry) → files_onto files (es ++ e ∷ []) ≡ slice_set (files_onto files es) e.file true
files_push files [] e = refl
files_push files (x ∷ es) e = files_push (slice_set files x.file true) es e

module _ (s : Span) (c : List (List ℕ)) (p : ℕ) (h : EntryHead) (next : ℕ) (image : List ℕ) (stands : Stands s p h next image c) where
  files_more : (ps : List ℕ) (files : List Bool) → AreFilesOf s c ps files → AreFilesOf s c (ps ++ p ∷ []) (slice_set files h.file true)
  files_more ps files are es at =
      let l = changes_last s c ps p es at in
      let same : entry_of h image ≡ l.1 = stands.only l.1 l.4.is l.4.stands in
      (λ i. slice_set (are l.0 l.3 i) (same i).file true) ∙ sym (files_push no_files l.0 l.1) ∙ ap files_in (sym l.2)

  abbrev IsFiled : OpenUnit → Type 0
  IsFiled w = AreFilesOf s c w.positions w.files

  more_filed : (w : OpenUnit) → IsFiled w → IsFiled (more_open p (entry_of h []) w)
  more_filed w is = go ((entry_of h []).kind == 1)
    where
      go : (b : Bool) → IsFiled (if b then with_position p h.file w else record w { prepared = true })
      go true = files_more w.positions w.files is
      go false = is

  new_filed : IsFiled (new_unit (entry_of h []).tid (entry_of h []).serial)
  new_filed [] at = refl
  new_filed (e ∷ es) at = absurd at

  pub filed_opened : (ws : List OpenUnit) → AreFiledOf s c ws → AreFiledOf s c (opened_after p (entry_of h []) ws)
  filed_opened ws all = go (e.kind == 3) (first_that (is_of e.serial) ws) refl
    where
      e : Entry
      e = entry_of h []

      go : (b : Bool) (o : Option OpenUnit) → first_that (is_of e.serial) ws ≡ o →
          AllByRecursion IsFiled (if b then without_first (is_of e.serial) ws else (elim o [ Some w ↦ with_first (is_of e.serial) (more_open p e w) ws | None ↦ if e.kind == 1 then ws ++ more_open p e (new_unit e.tid e.serial) ∷ [] else ws ]))
      go true o at = all_less IsFiled (is_of e.serial) ws all
      go false (Some w) at = all_first IsFiled (is_of e.serial) (more_open p e w) ws (more_filed w (first_holds IsFiled (is_of e.serial) ws w all at)) all
      go false None at = first (e.kind == 1)
        where
          first : (b : Bool) → AllByRecursion IsFiled (if b then ws ++ more_open p e (new_unit e.tid e.serial) ∷ [] else ws)
          first true = all_behind IsFiled ws (more_open p e (new_unit e.tid e.serial)) (more_filed (new_unit e.tid e.serial) new_filed) all
          first false = all
