-- Entries that were read.
use Rattle.std.specs.Prelude.{◌≡◌, ℕ, List, [], ◌∷◌}
use Rattle.journal_format.specs.journal_model.Entries.{Entry}
use Rattle.journal_format.specs.Heads.{entry_of}
use Rattle.journal_format.specs.declared.head.EntryHead.{EntryHead}
use Rattle.careful_write.specs.State.{StoreState}
use Rattle.journal_store.specs.Leaving.{Fell}
use Rattle.journal_store.specs.Refusing.{Stays}
use Rattle.image_entries.specs.declared.reading.ReadErr.{ReadErr}
use Rattle.image_entries.specs.declared.reading.ReadErr.TheVariants.{Memory, Down}

-- heads and positions are those of these entries, one for one
abbrev pub AreHeadsOf : List EntryHead → (positions : List ℕ) → List (ℕ × Entry) → Type 0
AreHeadsOf [] [] [] = Unit {0}
AreHeadsOf [] [] (e ∷ es) = ⊥
AreHeadsOf [] (p ∷ ps) es = ⊥
AreHeadsOf (h ∷ hs) [] es = ⊥
AreHeadsOf (h ∷ hs) (p ∷ ps) [] = ⊥
AreHeadsOf (h ∷ hs) (p ∷ ps) (e ∷ es) = (p ≡ e.0) × (entry_of h e.1.image ≡ e.1) × AreHeadsOf hs ps es

-- memory is missing and the store is as it was, or the disk went down
abbrev pub ReadFails : ReadErr → StoreState → StoreState → Type 0
ReadFails Memory old new = Stays old new
ReadFails (Down down) old new = Fell down old new
