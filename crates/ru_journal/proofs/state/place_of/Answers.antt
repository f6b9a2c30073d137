use Rattle.std.proofs.Common.{◌≡◌, suc, ◌+◌, map, take, ap, sym, ◌∙◌, arith}
use Rattle.vms_base.specs.Ids.{serial_of}
use Rattle.ru_journal.specs.Told.{find_unit}
use Rattle.ru_journal.specs.Units.{unit_of}
use Rattle.ru_journal.proofs.UnitLemmas.{none_more, indexed}
use Rattle.ru_journal.proofs.state.place_of.Goals as goal

pub loop-i-preserved : goal.loop-i-preserved
loop-i-preserved c =
    let more : c.loop-i.i + 1 ≡ suc c.loop-i.i = omega arith in
    ap (λ n. find_unit (serial_of c.args.serial.now) (map unit_of (take n c.args.units.now))) more
    ∙ none_more (serial_of c.args.serial.now) c.args.units.now c.loop-i.i c.index-units-i.result (indexed c.args.units.now c.loop-i.i c.index-units-i.result c.loop-i-test.true c.index-units-i.is) c.loop-i.invariant
    (sym c.is_same.ensures ∙ c.if-is_same.false)
