use Rattle.std.proofs.Common.{◌+◌, subst, sym, arith}
use Rattle.load_pages.specs.load_laws.Loads.{AreNumbered}
use Rattle.load_tests.proofs.OrderLemmas.{numbered_more, none_left}
use Rattle.load_tests.proofs.loadable.counts_on.Goals as goal

pub loop-i-preserved : goal.loop-i-preserved
loop-i-preserved c = λ later. c.loop-i.invariant (numbered_more c.args.records.now c.loop-i.i _ (omega (arith, c.loop-i-test.true)) (c.is_number.ensures (c.if-not-is_number).false) later)

pub returns : goal.returns
returns c = λ is. c.loop-i.invariant (subst (AreNumbered (c.loop-i.i + 1)) (sym (none_left c.args.records.now c.loop-i.i (omega (arith, c.loop-i-test.false)))) tt)
