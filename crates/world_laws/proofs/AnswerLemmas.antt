-- What refuses nothing.
use Rattle.std.proofs.Common.{◌≡◌, Bool, true, false, Option, Some, None, refl}
use Rattle.run_model.specs.transcript_model.Lines.{Line}
use Rattle.run_model.specs.Operations.{first_of, refused_if}

pub neither : (a b : Option Line) → first_of a b ≡ None → (a ≡ None) × (b ≡ None)
neither (Some refusal) b e = let none : ⊥ = cc in absurd none
neither None b e = (refl, e)

pub not_refused : (b : Bool) (refusal : Line) → refused_if b refusal ≡ None → b ≡ false
not_refused true refusal e = let none : ⊥ = cc in absurd none
not_refused false refusal e = refl
