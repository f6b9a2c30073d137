-- What stays where a block is written.
use Rattle.std.proofs.Common.{◌≡◌, ℕ, ◌<◌, List, [], ◌∷◌, Option, Some, None, length, refl, sym, ◌∙◌, ap, inl, inr, slice_set, get_or-set_same, get_or-set_other}
use Rattle.std.specs.Prelude.{option_map}
use Rattle.std.proofs.lemmas.Bool.{cases_eq}
use Rattle.extents.specs.file_base.declared.head.FileHead.{FileHead}
use Rattle.vms_model.specs.Ids.{Id}
use Rattle.records_model.specs.History.{changed_it}
use Rattle.recovery_units.specs.run_model.Locks as world
use Rattle.recovery_units.specs.run_model.World.{File}
use Rattle.record_locks.specs.Locks as table
use Rattle.volume_laws.specs.directory_model.Files.{file_at, head_at}
use Rattle.volume_laws.proofs.directory_model.Places.{within_list}
use Rattle.recovery_units.specs.volume_model.Laws.{KeepsNames}
use Rattle.recovery_units.specs.State.{AreLocks, changed_at}

-- What stays.

pub locks_stay : (heads new : List (Option FileHead)) (ls : List table.Lock) (ms : List world.Lock) → KeepsNames heads new → AreLocks heads ls ms → AreLocks new ls ms
locks_stay heads new [] [] names h = tt
locks_stay heads new [] (m ∷ ms) names h = h
locks_stay heads new (l ∷ ls) [] names h = h
locks_stay heads new (l ∷ ls) (m ∷ ms) names h =
    let k = names l.file h.0.head h.0.there in
    (record { key = h.0.key; by = h.0.by; head = k.0; there = k.1; file = h.0.file ∙ sym k.2 }, locks_stay heads new ls ms names h.1)

-- one head is another of the same name
pub names_set : (heads : List (Option FileHead)) (f : ℕ) (h new : FileHead) → head_at heads f ≡ Some h → new.name ≡ h.name → KeepsNames heads (slice_set heads f (Some new))
names_set heads f h new there called g k at = elim (cases_eq g f) [
  | inl here ↦ (new, ap (head_at (slice_set heads f (Some new))) here ∙ get_or-set_same heads f (Some new) None (within_list heads f h there), called ∙ ap (λ (x : FileHead). x.name) (one (sym there ∙ ap (head_at heads) (sym here) ∙ at)))
  | inr other ↦ (k, get_or-set_other heads f g (Some new) None other ∙ at, refl)
]
  where
    one : ◌≡◌ {A = Option FileHead} (Some h) (Some k) → h ≡ k
    one e = cc

-- one is new
pub names_new : (heads : List (Option FileHead)) (f : ℕ) (new : FileHead) → head_at heads f ≡ None → KeepsNames heads (slice_set heads f (Some new))
names_new heads f new none g k at = (k, get_or-set_other heads f g (Some new) None (λ here. nothing (sym none ∙ ap (head_at heads) (sym here) ∙ at)) ∙ at, refl)
  where
    nothing : ◌≡◌ {A = Option FileHead} None (Some k) → ⊥
    nothing e = cc

-- what a branch changed, where one file is another
pub changed_set : (d : List (Option File)) (f : ℕ) (new : File) (x : Id) → f < length d → changed_it new.history x ≡ changed_at x (file_at d f) → (g : ℕ) → changed_at x (file_at (slice_set d f (Some new)) g) ≡ changed_at x (file_at d g)
changed_set d f new x within same g = elim (cases_eq g f) [
  | inl here ↦ ap (λ j. changed_at x (file_at (slice_set d f (Some new)) j)) here ∙ ap (changed_at x) (get_or-set_same d f (Some new) None within) ∙ same ∙ ap (λ j. changed_at x (file_at d j)) (sym here)
  | inr other ↦ ap (changed_at x) (get_or-set_other d f g (Some new) None other)
]

-- what was written, where the disk tells it
pub written_there : (q : ℕ) (bytes : List ℕ) (a content : List (List ℕ)) (old new : Option (List (List ℕ))) → old ≡ Some a → new ≡ option_map (λ blocks. slice_set blocks q bytes) old → new ≡ Some content → content ≡ slice_set a q bytes
written_there q bytes a content old new told is there = one (sym there ∙ is ∙ ap (option_map (λ blocks. slice_set blocks q bytes)) told)
  where
    one : ◌≡◌ {A = Option (List (List ℕ))} (Some content) (Some (slice_set a q bytes)) → content ≡ slice_set a q bytes
    one e = cc
