-- The last group of an undo, which may be applied.
use Rattle.std.proofs.Common.{◌≡◌, ⊎_elim, ℕ, ◌≤◌, List, Option, Some, refl, sym, ◌∙◌, ap, subst}
use Rattle.std.specs.Prelude.{◌⊎◌}
use Rattle.careful_write.specs.State.{IsEither, Leaves, content}
use Rattle.file_base.specs.declared.head.FileHead.{FileHead}
use Rattle.volume.specs.declared.catalog.Catalog.{Catalog}
use Rattle.volume.specs.Catalogs.{TellsCatalog}
use Rattle.volume.specs.State.{VolumeState}
use Rattle.directory_model.specs.Files.{head_at, file_at}
use Rattle.directory_model.specs.Restoring.{AreGrouped, IsPlaceRestored}
use Rattle.unit_undo.specs.FileWays.{IsGoing, Undo}
use Rattle.unit_undo.specs.Undoing.{GoesOn, IsFew}
use Rattle.unit_undo.specs.UnitWays.{HasUndone, IsUndoneIn, undo_of}
use Rattle.unit_undo.specs.Way.{ArePartlyUndone, FailsOnTheWay, IsOnTheWay, KeepsJournal}
use Rattle.unit_undo.proofs.StepLemmas.{failed_since, fails_going, goes_through, now_on_the_way, sound_on}

-- what was staged is staged still, or applied
module _ (u : Undo) (w y : VolumeState) (goes : GoesOn w y) (catalog : y.catalog ≡ w.catalog) (current : y.store.current ≡ w.store.current) (applied : (content y.store ≡ content w.store) ⊎ (content y.store ≡ w.store.current)) where
  held : (g : IsGoing u w) → (b : List (List ℕ)) × (content y.store ≡ Some b) × IsOnTheWay u.serial u.content u.heads u.directory y.catalog b
  held g = ⊎_elim (λ same. (g.before, same ∙ g.applied, subst (λ (k : Catalog). IsOnTheWay u.serial u.content u.heads u.directory k g.before) (sym catalog) g.way))
      (λ done. (g.now, done ∙ g.told, subst (λ (k : Catalog). IsOnTheWay u.serial u.content u.heads u.directory k g.now) (sym catalog) (now_on_the_way u w g))) applied

  going : IsGoing u w → IsGoing u y
  going g = record {
    now = g.now;
    told = current ∙ g.told;
    tells = subst (λ (k : Catalog). TellsCatalog k g.now) (sym catalog) g.tells;
    size = g.size ∙ sym goes.quiet.size;
    sound = sound_on u.heads w y goes g.sound;
    grouped = subst (λ (k : Catalog). AreGrouped u.content u.heads u.directory g.now k.heads) (sym catalog) g.grouped;
    partly = subst (λ (k : Catalog). ArePartlyUndone u.serial u.content u.heads u.directory g.now k.heads) (sym catalog) g.partly;
    journal = subst (λ (k : Catalog). KeepsJournal k.ru u.content g.now) (sym catalog) g.journal;
    before = (held g).0;
    applied = (held g).1;
    way = (held g).2;
  }

  undone : (count : ℕ) → IsUndoneIn u count w → IsUndoneIn u count y
  unfolding going
  undone count is = record {
    way = going is.way;
    done = λ f below. subst (λ (k : Catalog). IsPlaceRestored u.serial u.content (head_at u.heads f) (file_at u.directory f) is.way.now (head_at k.heads f)) (sym catalog) (is.done f below);
    rest = λ f from. ap (λ (k : Catalog). head_at k.heads f) catalog ∙ is.rest f from;
    agrees = is.agrees;
  }

pub has_undone_on : (ps : List ℕ) (count : ℕ) (v w y : VolumeState) (steps few : ℕ) → HasUndone ps count v w steps → GoesOn w y → y.catalog ≡ w.catalog → y.store.current ≡ w.store.current → (content y.store ≡ content w.store) ⊎ (content y.store ≡ w.store.current) → IsFew few y → HasUndone ps count v y few
has_undone_on ps count v w y steps few h goes catalog current applied is = record {
  goes = goes_through v w y h.goes goes;
  few = is;
  undone = λ serial a directory es can. undone (undo_of serial a v directory) w y goes catalog current applied count (h.undone serial a directory es can);
}

-- the disk went down while it was applied
pub last_fails : (ps : List ℕ) (count : ℕ) (v w y : VolumeState) (steps : ℕ) → HasUndone ps count v w steps → Leaves (IsEither (content w.store) w.store.current) y.store.disk → FailsOnTheWay ps v y
last_fails ps count v w y steps h leaves = λ serial a directory es can. let u = undo_of serial a v directory in failed_since u v w y h.goes (fails_going u w y (h.undone serial a directory es can).way leaves)
