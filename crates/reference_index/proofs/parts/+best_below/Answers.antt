use Rattle.std.proofs.Common.{◌≡◌, suc, Some, arith, subst, refl, sym}
use Rattle.std.specs.Prelude.{◌-◌}
use Rattle.run_model.specs.records_model.Parts.{best_below}
use Rattle.reference_index.specs.Standing.{slots_of}
use Rattle.reference_index.proofs.PartLemmas.{best_with}
use Rattle.reference_index.proofs.parts.+best_below.Goals as goal

pub returns-in-Some-clause-best : goal.returns-in-Some-clause-best
returns-in-Some-clause-best t c =
    let slots = slots_of c.args.all.now in
    let at : suc (c.args.bound - 1) ≡ c.args.bound = omega (arith, c.if-bound-eq0.false) in
    subst (λ b. Some c.better.result.at ≡ best_below c.args.cap slots b) at
    (best_with c.args.cap (c.args.bound - 1) slots c.best_below-lower.result (record { at = c.args.bound - 1; greater = c.in-Some.greater }) c.better.result refl
    (sym c.in-Some.ensures.fits) c.best_below-lower.ensures.best c.best_below-lower.ensures.greater c.in-Some.ensures.greater c.better.ensures.of_two c.better.ensures.of_one)
