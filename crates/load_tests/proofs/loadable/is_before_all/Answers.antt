use Rattle.std.proofs.Common.{ap, arith}
use Rattle.std.specs.FinMap.Entries.{below_all}
use Rattle.records_model.specs.Records.{key_cmp}
use Rattle.vms_base.specs.Keys.{key_of}
use Rattle.load_tests.proofs.OrderLemmas.{below_more, none_left}
use Rattle.load_tests.proofs.loadable.is_before_all.Goals as goal

pub loop-i-preserved : goal.loop-i-preserved
loop-i-preserved c = λ later. c.loop-i.invariant (below_more c.args.records.now c.loop-i.i _ (omega (arith, c.loop-i-test.true)) (key_of c.args.key.now) (c.is_before.ensures (c.if-not-is_before).false) later)

pub returns : goal.returns
returns c = λ is. c.loop-i.invariant (ap (below_all key_cmp (key_of c.args.key.now)) (none_left c.args.records.now c.loop-i.i (omega (arith, c.loop-i-test.false))))
