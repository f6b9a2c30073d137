use Rattle.std.proofs.Common.{◌≡◌, List, [], ◌∷◌, Some, sym, ap, ◌∙◌, inl}
use Rattle.std.specs.List.{slice_get}
use Rattle.change_set.specs.declared.walk.Place.{Place}
use Rattle.unit_cuts.specs.Truncating.{CutRoomState}
use Rattle.unit_cuts.proofs.measuring.CutRoom.first_place.Goals as goal

front_of : (ps : List Place) (p : Place) → Some p ≡ slice_get ps 0 → (rest : List Place) × (ps ≡ p ∷ rest)
front_of [] p is = let no : ⊥ = cc in absurd no
front_of (q ∷ ps) p is = let same : q ≡ p = cc in (ps, λ i. same i ∷ ps)

pub returns-in-Some : goal.returns-in-Some
returns-in-Some c =
    let places : c.deref.result.now ≡ c.args.self.now.places = c.deref.ensures.value ∙ ap (λ (r : CutRoomState). r.places) c.self.view_is in
    let front = front_of c.deref.result.now c.in-Some.place.now c.in-Some.ensures.value in
    inl (front.0, sym places ∙ front.1)
