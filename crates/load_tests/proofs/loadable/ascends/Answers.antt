use Rattle.std.proofs.Common.{◌+◌, get_or, ap, sym, ◌∙◌, arith}
use Rattle.std.specs.FinMap.Entries.{is_sorted, below_all}
use Rattle.records_model.specs.Records.{key_cmp}
use Rattle.load_pages.specs.Given.{keyed}
use Rattle.load_tests.proofs.OrderLemmas.{keyed_rest, sorted_more, none_left}
use Rattle.load_tests.proofs.loadable.ascends.Goals as goal

pub loop-i-preserved : goal.loop-i-preserved
loop-i-preserved c = λ later.
    let rs = c.args.records.now in
    let i = c.loop-i.i in
    let d = c.index-records-i.result in
    c.loop-i.invariant
    (sorted_more rs i d (omega (arith, c.loop-i-test.true)) (ap (below_all key_cmp (keyed (get_or rs i d)).0) (sym (keyed_rest (i + 1) rs)) ∙ c.is_before_all.ensures (c.if-not-is_before_all).false) later)

pub returns : goal.returns
returns c = λ is. c.loop-i.invariant (ap (is_sorted key_cmp) (none_left c.args.records.now c.loop-i.i (omega (arith, c.loop-i-test.false))))
