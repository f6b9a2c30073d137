use Rattle.std.proofs.Common.{◌≡◌, ◌++◌, drop, map}
use Rattle.recovery_model.specs.Places.{places}
use Rattle.image_journals.specs.Headers.{header_told, is_among}
use Rattle.image_journals.proofs.places.places_among.Given as goal

-- the places so far, and those that are to come
abbrev pub invariant-loop-entry : goal.invariant-loop-entry
invariant-loop-entry l = (l.place ≡ l.entry-index) × (l.places.items ++ places (λ s. is_among s l.found.keys) (map header_told (drop l.entry-index l.entries)) l.entry-index ≡ places (λ s. is_among s l.found.keys) (map header_told l.entries) 0)
