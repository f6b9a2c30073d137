use Rattle.std.proofs.Common.{◌≡◌, List, [], None, length, map, subst, sym, ap, ◌∙◌}
use Rattle.vms_base.specs.Ids.{serial_of}
use Rattle.journal_format.specs.Heads.{entry_of}
use Rattle.ru_journal.specs.declared.unit.UnitInfo.{UnitInfo}
use Rattle.ru_journal.specs.Told.{find_unit, more_told, unit_refuses}
use Rattle.ru_journal.specs.Units.{unit_of, IsPlace}
use Rattle.ru_journal.proofs.UnitLemmas.{placed, found_there, changed_at, removed_at, without_none, settled_after, more_after}
use Rattle.ru_journal.proofs.state.put_entry.Goals as goal

pub returns-in-Some-clause-units : goal.returns-in-Some-clause-units
returns-in-Some-clause-units c =
    let place = subst (λ us. IsPlace (serial_of c.args.e.now.serial) us c.in-Some.i) c.deref.ensures.value c.in-Some.ensures.found in
    ap (map unit_of) c.remove.ensures.items ∙ removed_at (serial_of c.args.e.now.serial) c.args.units.now.items c.in-Some.i place.unit place.at place.before place.here
    ∙ sym (settled_after c.args.position (entry_of c.args.e.now []) (map unit_of c.args.units.now.items) (sym c.settles.ensures ∙ c.if-settles.true))

pub returns-in_default-clause-units : goal.returns-in_default-clause-units
returns-in_default-clause-units c =
    sym (settled_after c.args.position (entry_of c.args.e.now []) (map unit_of c.args.units.now.items) (sym c.settles.ensures ∙ c.if-settles.true)
    ∙ without_none (serial_of c.args.e.now.serial) (map unit_of c.args.units.now.items) (subst (λ (us : List UnitInfo). find_unit (serial_of c.args.e.now.serial) (map unit_of us) ≡ None) c.deref.ensures.value c.in_default.ensures.none))

pub more-unit-requires-clause-may : goal.more-unit-requires-clause-may
more-unit-requires-clause-may c =
    let place = subst (λ us. IsPlace (serial_of c.args.e.now.serial) us c.in-Some-place.i) c.deref.ensures.value c.in-Some-place.ensures.found in
    let found = found_there (serial_of c.args.e.now.serial) c.args.units.now.items c.in-Some-place.i c.index.result.now place c.index.ensures in
    ap (unit_refuses (entry_of c.args.e.now []) (length c.args.units.now.items)) (sym found) ∙ c.requires.may

pub returns-in-Some-place-clause-units : goal.returns-in-Some-place-clause-units
returns-in-Some-place-clause-units c =
    let place = subst (λ us. IsPlace (serial_of c.args.e.now.serial) us c.in-Some-place.i) c.deref.ensures.value c.in-Some-place.ensures.found in
    let is = placed (serial_of c.args.e.now.serial) c.args.units.now.items c.in-Some-place.i c.index.result.now place c.index.ensures in
    let found = found_there (serial_of c.args.e.now.serial) c.args.units.now.items c.in-Some-place.i c.index.result.now place c.index.ensures in
    changed_at (serial_of c.args.e.now.serial) (more_told (entry_of c.args.e.now [])) c.more-unit.result c.args.units.now.items c.in-Some-place.i c.index.result.now is.0 place.before is.1 c.more-unit.ensures.unit
    ∙ sym (more_after c.args.position (entry_of c.args.e.now []) (map unit_of c.args.units.now.items) (unit_of c.index.result.now) (sym c.settles.ensures ∙ c.if-settles.false) found)
