-- The files of units that come back are those of their entries, as the journal had them.
use Rattle.std.proofs.Common.{◌≡◌, ℕ, List, [], ◌∷◌, Option, Some, None, refl, sym, ap, subst, ◌∙◌}
use Rattle.journal_model.specs.Entries.{Entry}
use Rattle.unit_entries.proofs.OpenLemmas.{first_holds}
use Rattle.unit_entries.proofs.StoreLemmas.{of_any}
use Rattle.unit_entries.specs.Collecting.{AreChangesAt}
use Rattle.unit_entries.specs.Opening.{AreFiledIn, AreFilesAt, files_in}
use Rattle.unit_table.specs.Units.{OpenUnit, first_that, is_of, no_files}
use Rattle.volume.specs.State.{VolumeState}
use Rattle.unit_returns.specs.Returning.{HaveChanges, IsLeftOf}

-- without changes there are no files
none_filed : (v : VolumeState) → AreFilesAt v [] no_files
none_filed v = of_any v.store.current (λ c es at. go c es at)
  where
    go : (c : List (List ℕ)) (es : List Entry) → AreChangesAt v.catalog.ru [] es c → no_files ≡ files_in es
    go c [] at = refl
    go c (e ∷ es) at = absurd at

one_filed : (v : VolumeState) (left : List OpenUnit) (u : OpenUnit) → AreFiledIn v left → IsLeftOf left u → AreFilesAt v u.positions u.files
one_filed v left u filed of = go (first_that (is_of u.serial) left) refl
  where
    go : (o : Option OpenUnit) → first_that (is_of u.serial) left ≡ o → AreFilesAt v u.positions u.files
    go None none =
        let positions : u.positions ≡ [] = of.positions ∙ ap (λ (x : Option OpenUnit). elim x [ Some w ↦ w.positions | None ↦ [] ]) none in
        let files : u.files ≡ no_files = of.files ∙ ap (λ (x : Option OpenUnit). elim x [ Some w ↦ w.files | None ↦ no_files ]) none in
        subst (λ (ps : List ℕ). AreFilesAt v ps u.files) (sym positions) (subst (AreFilesAt v []) (sym files) (none_filed v))
    go (Some w) some =
        let positions : u.positions ≡ w.positions = of.positions ∙ ap (λ (x : Option OpenUnit). elim x [ Some y ↦ y.positions | None ↦ [] ]) some in
        let files : u.files ≡ w.files = of.files ∙ ap (λ (x : Option OpenUnit). elim x [ Some y ↦ y.files | None ↦ no_files ]) some in
        subst (λ (ps : List ℕ). AreFilesAt v ps u.files) (sym positions)
        (subst (AreFilesAt v w.positions) (sym files) (first_holds (λ (y : OpenUnit). AreFilesAt v y.positions y.files) (is_of u.serial) left w filed some))

-- each has the files of the entries at its positions in a volume of whose journal this was left
pub all_filed : (v : VolumeState) (left us : List OpenUnit) → AreFiledIn v left → HaveChanges left us → AreFiledIn v us
all_filed v left [] filed changes = tt
all_filed v left (u ∷ us) filed changes = (one_filed v left u filed changes.0, all_filed v left us filed changes.1)
