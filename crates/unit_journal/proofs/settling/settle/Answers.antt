use Rattle.std.proofs.Common.{sym}
use Rattle.std.proofs.lemmas.Result.{on_err_weaker}
use Rattle.unit_journal.proofs.settling.settle.Goals as goal

pub returns-clause-breaks : goal.returns-clause-breaks
returns-clause-breaks g c = on_err_weaker c.settle_staged.result (λ breaks. breaks c.args.left.now.places (sym c.earliest.ensures)) c.settle_staged.ensures.breaks
