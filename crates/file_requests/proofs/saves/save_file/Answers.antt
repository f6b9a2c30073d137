use Rattle.std.proofs.Common.{◌≡◌, [], ◌∷◌, ap, refl, subst, ◌∙◌}
use Rattle.emitter_model.specs.Emitting.{Emits}
use Rattle.emitter_model.specs.transcript_model.Lines as line
use Rattle.volume.specs.declared.catalog.Catalog.{Catalog}
use Rattle.volume.specs.volume_format.declared.home.Home.{Home}
use Rattle.volume.specs.volume_format.Head.{head_block_of}
use Rattle.directory_model.specs.Laws.{saved_head}
use Rattle.file_requests.specs.Settings.{save_at}
use Rattle.recovery_units.specs.Uses.{Caused, down_of}
use Rattle.node_standing.specs.node_table.Code.{stored_of}
use Rattle.node_standing.specs.node_table.Standing.{Stored}
use Rattle.file_requests.proofs.Calls.{caused_counts, caused_on, goes_counts, goes_on}
use Rattle.file_requests.proofs.Saving.{apart_is, copies_out, saved_cut, saved_done, saved_first, source_is, target_is}
use Rattle.file_requests.proofs.saves.save_file.Goals as goal

pub copy_records-requires-clause-source : goal.copy_records-requires-clause-source
copy_records-requires-clause-source g c = source_is c.args.file c.args.head.now c.args.start (stored_of g.U.RecoveryUnits.state c.args.stored.now) c.requires.order c.the_laws.ensures c.requires.there c.requires.run

pub copy_records-requires-clause-target : goal.copy_records-requires-clause-target
copy_records-requires-clause-target g c = target_is c.args.file c.args.head.now c.args.start (stored_of g.U.RecoveryUnits.state c.args.stored.now) c.requires.order c.the_laws.ensures c.requires.there c.requires.run

pub copy_records-requires-clause-apart : goal.copy_records-requires-clause-apart
copy_records-requires-clause-apart g c = apart_is c.args.file c.args.head.now c.args.start (stored_of g.U.RecoveryUnits.state c.args.stored.now) c.requires.order c.the_laws.ensures c.requires.there c.requires.run

pub returns-in-Err-clause-saves : goal.returns-in-Err-clause-saves
returns-in-Err-clause-saves g c =
    let u = stored_of g.U.RecoveryUnits.state c.args.stored.now in
    let after : Stored = record { volume = c.copy_records.new.volume; units = u.units; in_doubt = u.in_doubt } in
    let e = c.copy_records.ensures in
    let old = u.volume.store.disk in
    let now = after.volume.store.disk in
    saved_first c.args.file c.args.head.now c.args.start u c.requires.order c.the_laws.ensures c.requires.there c.requires.run c.in-Err.down after _ refl refl e.catalog e.pool c.in-Err.ensures.down (goes_counts c.copy_records.result old now e.counts)
    (subst (λ x. Caused (down_of x) old now) c.in-Err.is (caused_counts c.copy_records.result old now e.counts))

pub returns-in-Err-write_head-clause-saves : goal.returns-in-Err-write_head-clause-saves
returns-in-Err-write_head-clause-saves g c =
    let u = stored_of g.U.RecoveryUnits.state c.args.stored.now in
    let after : Stored = record { volume = c.write_head.new.volume; units = u.units; in_doubt = u.in_doubt } in
    let e = c.copy_records.ensures in
    let m = c.in-Ok.ensures in
    let old = u.volume.store.disk in
    let mid = c.copy_records.new.volume.store.disk in
    let now = after.volume.store.disk in
    let first = goes_counts c.copy_records.result old mid e.counts in
    let home : c.home.result.now ≡ u.volume.catalog.home = c.home.ensures ∙ ap (λ (k : Catalog). k.home) e.catalog in
    let wr = rw (c.with_save-new.ensures, home) at c.write_head.ensures in
    saved_cut c.args.file c.args.head.now c.args.start u c.requires.order c.the_laws.ensures c.requires.there c.requires.run c.requires.early c.requires.unchanged c.copy_records.new.volume
    (record { outside = copies_out _ _ _ _ _ m.copies; each = m.each; idle = m.idle; catalog = e.catalog; size = e.counts.size; pool = e.pool }) m.copies
    c.write_head.result after (head_block_of (saved_head (save_at c.args.start u.volume.catalog.home.greatest_moment c.args.head.now) c.args.head.now)) refl refl wr (goes_on old mid now first (goes_counts c.write_head.result mid now c.write_head.ensures.counts)) c.in-Err-write_head.down _ c.in-Err-write_head.is
    (subst (λ x. Caused (down_of x) old now) c.in-Err-write_head.is (caused_on (down_of c.write_head.result) old mid now first (caused_counts c.write_head.result mid now c.write_head.ensures.counts)))

pub returns-in-Ok-write_head-clause-saves : goal.returns-in-Ok-write_head-clause-saves
returns-in-Ok-write_head-clause-saves g c =
    let u = stored_of g.U.RecoveryUnits.state c.args.stored.now in
    let after : Stored = record { volume = c.write_head.new.volume; units = u.units; in_doubt = u.in_doubt } in
    let e = c.copy_records.ensures in
    let m = c.in-Ok.ensures in
    let old = u.volume.store.disk in
    let mid = c.copy_records.new.volume.store.disk in
    let now = after.volume.store.disk in
    let first = goes_counts c.copy_records.result old mid e.counts in
    let home : c.home.result.now ≡ u.volume.catalog.home = c.home.ensures ∙ ap (λ (k : Catalog). k.home) e.catalog in
    let wr = rw (c.with_save-new.ensures, home) at c.write_head.ensures in
    saved_done c.args.file c.args.head.now c.args.start u c.requires.order c.the_laws.ensures c.requires.there c.requires.run c.requires.early c.requires.unchanged c.copy_records.new.volume
    (record { outside = copies_out _ _ _ _ _ m.copies; each = m.each; idle = m.idle; catalog = e.catalog; size = e.counts.size; pool = e.pool }) m.copies
    c.write_head.result after (head_block_of (saved_head (save_at c.args.start u.volume.catalog.home.greatest_moment c.args.head.now) c.args.head.now)) refl refl wr (goes_on old mid now first (goes_counts c.write_head.result mid now c.write_head.ensures.counts)) c.in-Ok-write_head.field-0 _ _ c.in-Ok-write_head.is
    (subst (λ (k : Home). Emits (g.E.Emit.shows c.args.out.now) (line.NormalSave c.args.head.now.ai.end k.greatest_moment.0 ∷ []) (g.E.Emit.shows c.emit.new.self)) home c.emit.ensures.emits)
