-- The entries of a branch stand in the journal where they begin.
use Rattle.std.proofs.Common.{◌≡◌, ℕ, ◌+◌, Bool, true, false, cond, List, [], ◌∷◌, ◌++◌, map, length, refl}
use Rattle.std.specs.Prelude.{◌==◌}
use Rattle.file_base.specs.declared.head.Span.{Span}
use Rattle.vms_model.specs.Ids.{Id}
use Rattle.records_model.specs.History.{same_id}
use Rattle.journal_model.specs.Entries.{Entry, spelling}
use Rattle.journal_model.specs.Ring.{IsJournal}
use Rattle.unit_laws.proofs.Tests.{and_first}
use Rattle.unit_undo.specs.unit_entries.Collecting.{AreChangesAt}
use Rattle.unit_undo.specs.unit_entries.Reading.{AreRead, changes_of, is_change_of, placed}
use Rattle.unit_undo.proofs.unit_entries.KeyLemmas.{number_is}
use Rattle.unit_undo.proofs.unit_entries.ReadLemmas.{begins_read, entry_is, entry_stands, read_on}

module _ (c : List (List ℕ)) (s : Span) (es : List Entry) (journal : IsJournal c s es) (serial : Id) where
  abbrev Stand : List (ℕ × Entry) → Type 0
  Stand xs = AreChangesAt s (map (λ (e : ℕ × Entry). e.0) xs) (map (λ (e : ℕ × Entry). e.1) xs) c

  from : (front : List Entry) (position : ℕ) (r : AreRead s es front position) (back : List Entry) → r.back ≡ back → Stand (changes_of serial (placed position back))
  from front position r [] is = tt
  from front position r (e ∷ rest) is = step (is_change_of serial e) refl (from (front ++ e ∷ []) (position + length (spelling e)) (read_on c s es journal front position r e rest is) rest refl)
    where
      step : (b : Bool) → is_change_of serial e ≡ b → Stand (changes_of serial (placed (position + length (spelling e)) rest))
          → Stand (cond b ((position, e) ∷ changes_of serial (placed (position + length (spelling e)) rest)) (changes_of serial (placed (position + length (spelling e)) rest)))
      step true change later = (
        record { is = entry_is c s es journal front position r e rest is; kind = number_is e.kind 1 (and_first (e.kind == 1) (same_id serial e.serial) change); stands = entry_stands c s es journal front position r e rest is },
        later,
      )
      step false other later = later

  pub entries_stand : Stand (changes_of serial (placed s.first es))
  entries_stand = from [] s.first (begins_read c s es journal) es refl
