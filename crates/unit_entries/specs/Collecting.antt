-- Entries at positions of a journal.
use Rattle.std.specs.Prelude.{◌≡◌, ℕ, List, [], ◌∷◌}
use Rattle.file_base.specs.declared.head.Span.{Span}
use Rattle.journal_format.specs.journal_model.Entries.{Entry, IsEntry}
use Rattle.journal_format.specs.journal_model.Ring.{StandsAt}

-- a change that is entered at a position
pub record IsChangeAt (s : Span) (p : ℕ) (e : Entry) (c : List (List ℕ)) : Type 0 where
  pub is : IsEntry e
  pub kind : e.kind ≡ 1
  pub stands : StandsAt s p e c

-- at these positions these changes are entered
abbrev pub AreChangesAt : Span → List ℕ → List Entry → List (List ℕ) → Type 0
AreChangesAt s [] [] c = Unit {0}
AreChangesAt s [] (e ∷ es) c = ⊥
AreChangesAt s (p ∷ ps) [] c = ⊥
AreChangesAt s (p ∷ ps) (e ∷ es) c = IsChangeAt s p e c × AreChangesAt s ps es c
