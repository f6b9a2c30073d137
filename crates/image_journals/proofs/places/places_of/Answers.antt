use Rattle.std.proofs.Common.{◌≡◌, map, IfOk, subst}
use Rattle.recovery_model.specs.Places.{places}
use Rattle.image_journals.specs.Headers.{header_told}
use Rattle.image_journals.proofs.places.places_of.Goals as goal

pub returns : goal.returns
returns c = subst (λ p. IfOk c.places_among.result (λ v. v.items ≡ places p (map header_told c.args.entries.now) 0)) (λ i s. c.in_ok-found.ensures s i) c.places_among.ensures
