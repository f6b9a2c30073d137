use Rattle.std.proofs.Common.{◌<◌, ◌-◌, arith}
use Rattle.std.proofs.lemmas.Bool.Decides.{nat_tests}
use Rattle.extents.proofs.Used.{covering, not_below, not_behind}
use Rattle.extents.proofs.fits.is_within.Goals as goal

pub returns-then-area-e-clause-no : goal.returns-then-area-e-clause-no
returns-then-area-e-clause-no c = λ h.
    let far : c.args.area.now.end < c.args.e.now.end = grind (arith, nat_tests) in
    (c.args.e.now.end - 1, covering c.args.e.now _ (omega arith) (omega arith), not_behind c.args.area.now _ (omega arith))

pub returns-else-area-e-clause-no : goal.returns-else-area-e-clause-no
returns-else-area-e-clause-no c = λ h.
    let low : c.args.e.now.start < c.args.area.now.start = grind (arith, nat_tests) in
    (c.args.e.now.start, covering c.args.e.now _ (omega arith) (omega arith), not_below c.args.area.now _ low)
