use Rattle.std.proofs.Common.{subst, sym}
use Rattle.file_base.specs.declared.head.Span.{Span}
use Rattle.journal_store.specs.Rings.{IsRing}
use Rattle.node_standing.specs.node_table.Code.{stored_of}
use Rattle.file_requests.proofs.ImagesShown.{units_ring}
use Rattle.file_requests.proofs.DumpAnswers.{show_journal}
use Rattle.file_requests.proofs.journal.dump_journal.Goals as goal

pub returns-clause-serves : goal.returns-clause-serves
returns-clause-serves g c =
    let e = c.show_entries.ensures in
    show_journal (stored_of g.U.RecoveryUnits.state c.args.stored.now) (stored_of g.U.RecoveryUnits.state c.show_entries.new.stored) c.show_entries.result _ _ c.requires.order c.the_laws.ensures
    (record { same = e.same; catalog = e.catalog; units = e.units; in_doubt = e.in_doubt; since = e.since; replies = e.replies; disk = e.disk; pool = e.pool }) (rw c.ru.ensures at e.shows)

pub show_entries-requires-clause-ring : goal.show_entries-requires-clause-ring
show_entries-requires-clause-ring g c = subst (λ (s : Span). IsRing s c.args.stored.now.volume.store.disk) (sym c.ru.ensures) (units_ring (g.U.RecoveryUnits.state c.args.stored.now.units) c.args.stored.now.volume c.requires.order c.requires.early)
