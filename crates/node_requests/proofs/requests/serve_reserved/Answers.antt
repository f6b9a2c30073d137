use Rattle.std.proofs.Common.{map, refl, sym, subst}
use Rattle.script_lang.specs.Statements.{form_of, request_of, setting_of, side_of}
use Rattle.script_lang.specs.script_model.Statements as said
use Rattle.world_laws.specs.run_model.Answers.{blocks_for, blocks_of, created, entry_lines, image_lines, journal_at, on_free, records_of, shown_line}
use Rattle.world_laws.specs.run_model.World.{Saves}
use Rattle.node_table.specs.Code.{stored_of, up_of}
use Rattle.node_table.specs.Standing.{Stored, Up}
use Rattle.node_requests.specs.Requests.{DoesRequest}
use Rattle.node_requests.proofs.Asides.{aside_create, aside_file, aside_lines, aside_records, aside_sets}
use Rattle.node_requests.proofs.FileServices.{serves_files}
use Rattle.node_requests.proofs.RequestKinds.{of_transaction}
use Rattle.node_requests.proofs.requests.serve_reserved.Goals as goal

pub serve_transaction-requires-clause-transaction : goal.serve_transaction-requires-clause-transaction
serve_transaction-requires-clause-transaction g c =
    let d = c.in_default in
    of_transaction c.args.lit.now c.args.request.now c.requires.reserved (record { create = d.not-Create; set_file = d.not-SetFile; records = d.not-Records; direct = d.not-Direct; dump = d.not-Dump; dump_journal = d.not-DumpJournal; dump_images = d.not-DumpImages; backup = d.not-Backup })

pub returns-in-Create-clause-does : goal.returns-in-Create-clause-does
returns-in-Create-clause-does g c =
    let old : Up = up_of g.U.RecoveryUnits.state c.args.running.now in
    let new : Stored = stored_of g.U.RecoveryUnits.state c.create.new.stored in
    let x = c.in-Create in
    subst (λ q. DoesRequest c.create.result (request_of c.args.lit.now q) c.args.clock.0 old (record { stored = new; tm = old.tm; drawn = old.drawn; declared = old.declared }) c.args.shared.now c.args.shared.now (g.E.Emit.shows c.args.out.now) (g.E.Emit.shows c.create.new.out)) (sym x.is)
    (serves_files c.create.result (said.Create x.file x.bucket x.size (form_of x.form)) c.args.clock.0 old new c.args.shared.now _ _ c.requires.may (λ answer said. refl) refl refl
    (λ s n. aside_create n (λ start. created x.file x.bucket x.size (form_of x.form) start n.durable.greatest) (blocks_for x.bucket x.size (form_of x.form))) c.create.ensures.serves)

pub returns-in-SetFile-clause-does : goal.returns-in-SetFile-clause-does
returns-in-SetFile-clause-does g c =
    let old : Up = up_of g.U.RecoveryUnits.state c.args.running.now in
    let new : Stored = stored_of g.U.RecoveryUnits.state c.set_file.new.stored in
    let x = c.in-SetFile in
    subst (λ q. DoesRequest c.set_file.result (request_of c.args.lit.now q) c.args.clock.0 old (record { stored = new; tm = old.tm; drawn = old.drawn; declared = old.declared }) c.args.shared.now c.args.shared.now (g.E.Emit.shows c.args.out.now) (g.E.Emit.shows c.set_file.new.out)) (sym x.is)
    (serves_files c.set_file.result (said.SetFile x.file (setting_of x.setting)) c.args.clock.0 old new c.args.shared.now _ _ c.requires.may (λ answer said. refl) refl refl (λ s n. aside_sets n x.file (setting_of x.setting)) c.set_file.ensures.serves)

pub returns-in-Dump-clause-does : goal.returns-in-Dump-clause-does
returns-in-Dump-clause-does g c =
    let old : Up = up_of g.U.RecoveryUnits.state c.args.running.now in
    let new : Stored = stored_of g.U.RecoveryUnits.state c.dump.new.stored in
    let x = c.in-Dump in
    subst (λ q. DoesRequest c.dump.result (request_of c.args.lit.now q) c.args.clock.0 old (record { stored = new; tm = old.tm; drawn = old.drawn; declared = old.declared }) c.args.shared.now c.args.shared.now (g.E.Emit.shows c.args.out.now) (g.E.Emit.shows c.dump.new.out)) (sym x.is)
    (serves_files c.dump.result (said.Dump x.file) c.args.clock.0 old new c.args.shared.now _ _ c.requires.may (λ answer said. refl) refl refl (λ s n. aside_records (records_of n x.file)) c.dump.ensures.serves)

pub returns-in-DumpJournal-clause-does : goal.returns-in-DumpJournal-clause-does
returns-in-DumpJournal-clause-does g c =
    let old : Up = up_of g.U.RecoveryUnits.state c.args.running.now in
    let new : Stored = stored_of g.U.RecoveryUnits.state c.dump_journal.new.stored in
    subst (λ q. DoesRequest c.dump_journal.result (request_of c.args.lit.now q) c.args.clock.0 old (record { stored = new; tm = old.tm; drawn = old.drawn; declared = old.declared }) c.args.shared.now c.args.shared.now (g.E.Emit.shows c.args.out.now) (g.E.Emit.shows c.dump_journal.new.out)) (sym c.in-DumpJournal.is)
    (serves_files c.dump_journal.result said.DumpJournal c.args.clock.0 old new c.args.shared.now _ _ c.requires.may (λ answer said. refl) refl refl (λ s n. aside_lines (entry_lines n.durable.units.first n.durable.units.entries)) c.dump_journal.ensures.serves)

pub returns-in-DumpImages-clause-does : goal.returns-in-DumpImages-clause-does
returns-in-DumpImages-clause-does g c =
    let old : Up = up_of g.U.RecoveryUnits.state c.args.running.now in
    let new : Stored = stored_of g.U.RecoveryUnits.state c.dump_images.new.stored in
    let x = c.in-DumpImages in
    subst (λ q. DoesRequest c.dump_images.result (request_of c.args.lit.now q) c.args.clock.0 old (record { stored = new; tm = old.tm; drawn = old.drawn; declared = old.declared }) c.args.shared.now c.args.shared.now (g.E.Emit.shows c.args.out.now) (g.E.Emit.shows c.dump_images.new.out)) (sym x.is)
    (serves_files c.dump_images.result (said.DumpImages x.file (side_of x.side)) c.args.clock.0 old new c.args.shared.now _ _ c.requires.may (λ answer said. refl) refl refl
    (λ s n. aside_file n x.file (λ f. map shown_line (image_lines x.file (journal_at (side_of x.side) f).entries)) (λ f. aside_lines (image_lines x.file (journal_at (side_of x.side) f).entries))) c.dump_images.ensures.serves)

pub returns-in-Backup-clause-does : goal.returns-in-Backup-clause-does
returns-in-Backup-clause-does g c =
    let old : Up = up_of g.U.RecoveryUnits.state c.args.running.now in
    let new : Stored = stored_of g.U.RecoveryUnits.state c.backup.new.stored in
    let x = c.in-Backup in
    subst (λ q. DoesRequest c.backup.result (request_of c.args.lit.now q) c.args.clock.0 old (record { stored = new; tm = old.tm; drawn = old.drawn; declared = old.declared }) c.args.shared.now c.args.shared.now (g.E.Emit.shows c.args.out.now) (g.E.Emit.shows c.backup.new.out)) (sym x.is)
    (serves_files c.backup.result (said.Backup x.file) c.args.clock.0 old new c.args.shared.now _ _ c.requires.may (λ answer said. refl) refl refl
    (λ s n. aside_file n x.file (λ f. on_free n (blocks_of f) (Saves x.file)) (λ f. (tt, tt))) c.backup.ensures.serves)
