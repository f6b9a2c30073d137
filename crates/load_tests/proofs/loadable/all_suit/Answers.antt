use Rattle.std.proofs.Common.{[], ◌∷◌, subst, sym, arith}
use Rattle.load_pages.specs.load_laws.Loads.{AllSuitBy}
use Rattle.load_pages.specs.declared.records.KeyedRecord.{KeyedRecord}
use Rattle.load_pages.specs.Given.{keyed}
use Rattle.load_tests.proofs.OrderLemmas.{suit_more, none_left}
use Rattle.load_tests.proofs.loadable.all_suit.Goals as goal

pub loop-i-preserved : goal.loop-i-preserved
loop-i-preserved c = λ later. c.loop-i.invariant (suit_more c.args.records.now c.loop-i.i c.index-records-i.result (omega (arith, c.loop-i-test.true)) c.args.head.now (subst (λ (r : KeyedRecord). AllSuitBy c.args.head.now.organization c.args.head.now (keyed r ∷ [])) c.index-records-i.is (c.suits.ensures (c.if-not-suits).false)) later)

pub returns : goal.returns
returns c = λ is. c.loop-i.invariant (subst (AllSuitBy c.args.head.now.organization c.args.head.now) (sym (none_left c.args.records.now c.loop-i.i (omega (arith, c.loop-i-test.false)))) tt)
