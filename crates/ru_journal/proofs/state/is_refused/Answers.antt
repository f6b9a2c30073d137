use Rattle.std.proofs.Common.{[], length, sym, ap, ◌∙◌}
use Rattle.vms_base.specs.Ids.{serial_of}
use Rattle.journal_format.specs.Heads.{entry_of}
use Rattle.ru_journal.specs.Told.{unit_refuses}
use Rattle.ru_journal.proofs.UnitLemmas.{found_there}
use Rattle.ru_journal.proofs.state.is_refused.Goals as goal

pub returns-in-Some : goal.returns-in-Some
returns-in-Some c =
    let found = found_there (serial_of c.args.e.now.serial) c.args.units.now c.in-Some.i c.index-units-i.result c.in-Some.ensures.found c.index-units-i.is in
    c.refuses.ensures (length c.args.units.now) ∙ ap (unit_refuses (entry_of c.args.e.now []) (length c.args.units.now)) (sym found)
