use Rattle.extents.proofs.Used.{none_fits}
use Rattle.extents.proofs.fits.fits_behind.Goals as goal

pub returns-then-has_none-clause-yes : goal.returns-then-has_none-clause-yes
returns-then-has_none-clause-yes c = λ _. none_fits c.args.area.now c.args.before.now c.args.e.now (c.has_none.ensures c.if-has_none.true)
