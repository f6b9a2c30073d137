use Rattle.std.proofs.Common.{sym, ◌∙◌}
use Rattle.script_lang.specs.Statements.{side_of}
use Rattle.node_standing.specs.node_table.Code.{stored_of}
use Rattle.file_requests.proofs.DumpAnswers.{images_absent, images_shown, images_unmarked, ring_here, unmarked_by}
use Rattle.file_requests.proofs.journal.dump_images.Goals as goal

pub returns-in_default-clause-serves : goal.returns-in_default-clause-serves
returns-in_default-clause-serves g c =
    images_absent c.args.name.now (side_of c.args.side) (stored_of g.U.RecoveryUnits.state c.args.stored.now) c.requires.order c.the_laws.ensures _ _ c.in_default.ensures.none c.emit.ensures.emits

pub returns-in_default-images_at-clause-serves : goal.returns-in_default-images_at-clause-serves
returns-in_default-images_at-clause-serves g c =
    let found = rw c.in-Some.head-is at c.in-Some.ensures.found in
    images_unmarked c.args.name.now (side_of c.args.side) (stored_of g.U.RecoveryUnits.state c.args.stored.now) c.requires.order c.the_laws.ensures c.in-Some.field-0-0 c.in-Some.head found.1 _ _
    (unmarked_by (side_of c.args.side) c.in-Some.head (sym c.images_at.ensures ∙ c.in_default-images_at.is)) c.emit-in_default-images_at.ensures.emits

pub show_entries-requires-clause-ring : goal.show_entries-requires-clause-ring
show_entries-requires-clause-ring g c =
    let found = rw c.in-Some.head-is at c.in-Some.ensures.found in
    ring_here c.args.name.now (side_of c.args.side) (stored_of g.U.RecoveryUnits.state c.args.stored.now) c.requires.order c.the_laws.ensures c.in-Some.field-0-0 c.in-Some.head found.1
    (side_of c.args.side) c.in-Some-images_at.span (sym c.images_at.ensures ∙ c.in-Some-images_at.is)

pub returns-clause-serves : goal.returns-clause-serves
returns-clause-serves g c =
    let found = rw c.in-Some.head-is at c.in-Some.ensures.found in
    let e = c.show_entries.ensures in
    images_shown c.args.name.now (side_of c.args.side) (stored_of g.U.RecoveryUnits.state c.args.stored.now) c.requires.order c.the_laws.ensures c.in-Some.field-0-0 c.in-Some.head found.1
    c.in-Some-images_at.span c.show_entries.result (stored_of g.U.RecoveryUnits.state c.show_entries.new.stored) _ _ (sym c.images_at.ensures ∙ c.in-Some-images_at.is)
    (record { same = e.same; catalog = e.catalog; units = e.units; in_doubt = e.in_doubt; since = e.since; replies = e.replies; disk = e.disk; pool = e.pool }) e.shows
