use Rattle.std.proofs.Common.{option_map, sym, ap, ◌∙◌}
use Rattle.vms_base.specs.Ids.{serial_of}
use Rattle.node_standing.specs.node_table.Code.{stored_of}
use Rattle.file_requests.proofs.DumpAnswers.{show_absent, show_locked, show_up}
use Rattle.file_requests.proofs.files.dump.Goals as goal

pub returns-in_default-clause-serves : goal.returns-in_default-clause-serves
returns-in_default-clause-serves g c =
    show_absent c.args.name.now (stored_of g.U.RecoveryUnits.state c.args.stored.now) c.requires.order c.the_laws.ensures _ _ c.in_default.ensures.none c.emit.ensures.emits

pub returns-in-Some-changed_by-clause-serves : goal.returns-in-Some-changed_by-clause-serves
returns-in-Some-changed_by-clause-serves g c =
    let found = rw (c.in-Some.file-is, c.in-Some.head-is) at c.in-Some.ensures.found in
    show_locked c.args.name.now (stored_of g.U.RecoveryUnits.state c.args.stored.now) c.requires.order c.the_laws.ensures c.in-Some.file c.in-Some.head found.1 (serial_of c.in-Some-changed_by.serial) _ _
    (sym c.changed_by.ensures ∙ ap (option_map serial_of) c.in-Some-changed_by.is) c.emit-in-Some-changed_by.ensures.emits

pub show_records-requires-clause-there : goal.show_records-requires-clause-there
show_records-requires-clause-there g c =
    let found = rw (c.in-Some.file-is, c.in-Some.head-is) at c.in-Some.ensures.found in
    (c.in-Some.file, found.1.there)

pub returns-clause-serves : goal.returns-clause-serves
returns-clause-serves g c =
    let found = rw (c.in-Some.file-is, c.in-Some.head-is) at c.in-Some.ensures.found in
    let u = stored_of g.U.RecoveryUnits.state c.args.stored.now in
    let e = c.show_records.ensures in
    show_up c.args.name.now u c.requires.order c.the_laws.ensures c.in-Some.file c.in-Some.head found.1 (sym c.changed_by.ensures ∙ ap (option_map serial_of) c.in_default-changed_by.is) c.show_records.result (stored_of g.U.RecoveryUnits.state c.show_records.new.stored) _ _
    (record { same = e.same; catalog = e.catalog; units = e.units; in_doubt = e.in_doubt; since = e.since; replies = e.replies; disk = e.disk; pool = e.pool }) e.shows
