use Rattle.std.proofs.Common.{subst, sym, ap, ◌∙◌}
use Rattle.vms_base.specs.Ids.{serial_of}
use Rattle.ru_journal.specs.Told.{JournalScan, find_unit}
use Rattle.ru_journal.specs.Units.{IsPlace}
use Rattle.ru_journal.proofs.UnitLemmas.{found_there}
use Rattle.ru_journal.proofs.state.RuState.find.Goals as goal

pub returns-in-Some : goal.returns-in-Some
returns-in-Some c =
    sym (found_there (serial_of c.args.serial) c.self.inside.units.items c.in-Some.i c.index.result.now (subst (λ us. IsPlace (serial_of c.args.serial) us c.in-Some.i) c.deref.ensures.value c.in-Some.ensures.found) c.index.ensures)
    ∙ ap (λ (t : JournalScan). find_unit (serial_of c.args.serial) t.units) c.self.view_is
